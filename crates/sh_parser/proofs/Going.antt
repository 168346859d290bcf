-- How what the table is made of reads, behind what was read before.
use Rattle.std.proofs.Common.{◌≡◌, ℕ, zero, suc, Bool, true, false, cond, List, [], ◌∷◌, ◌++◌, Option, Some, None, refl, sym, ap, ◌∙◌}
use Rattle.std.specs.Prelude.{◌&&◌}
use Rattle.text_grammar.specs.Grammar.{pass, fail, step, seq, choose, star, rule}
use Rattle.text_grammar.specs.Ranks.{takes, small, shallow}
use Rattle.text_grammar.specs.Values.{vals, behind, go, done, eval}
use Rattle.text_grammar.proofs.Rules.{go_is}
use Rattle.sh_grammar.specs.Bytes.{Text}
use Rattle.sh_grammar.specs.Expansions.{◌>>=◌}
use Rattle.sh_grammar.specs.State.{State, Node, start_at}
use Rattle.sh_grammar.specs.Table as table
use Rattle.sh_grammar.specs.Table.{Rule, Test, Gram, body}
use Rattle.sh_grammar.specs.Steps.{run_step, holds}
use Rattle.sh_grammar.specs.Acts.{act}
use Rattle.sh_grammar.specs.Depths.{ranks}
use Rattle.sh_grammar.specs.Spelling.{sh}
use Rattle.sh_grammar.proofs.Ends.{sh_ends}
use Rattle.sh_parser.specs.declared.table.Unit.{Unit}
use Rattle.sh_parser.specs.declared.table.Item.{Item}
use Rattle.sh_parser.specs.declared.table.Item.TheVariants as items
use Rattle.sh_parser.specs.Tables.{unit, test, items_gram, chosen, is_small}
use Rattle.std.proofs.lemmas.List.{map-append}
use Rattle.sh_parser.specs.declared.values.Value.{Value}
use Rattle.sh_parser.specs.Values.{value_node, nodes}
use Rattle.sh_parser.specs.Views.{known}
use Rattle.sh_parser.proofs.Levels.{rule_is}

-- what a grammar reads, behind what was read before
abbrev pub goes : ℕ → List Text → Gram → List Node → State → Option (List Node × State)
goes n ds g xs s = go (run_step (known n ds)) holds (vals (sh n ds)) g xs s

-- ---- first choices

-- tests look at the bytes alone
pub holds_bytes : (t : Test) (s : State) → holds t (start_at 0 s.bytes) ≡ holds t s
unfolding holds
holds_bytes (table.next x) s = refl
holds_bytes (table.key_next x) s = refl
holds_bytes table.separates s = refl
holds_bytes table.goes_on s = refl
holds_bytes table.links s = refl
holds_bytes table.pipeline_begins s = refl
holds_bytes table.compound_begins s = refl
holds_bytes table.function_begins s = refl
holds_bytes table.simple_begins s = refl
holds_bytes table.assign_begins s = refl
holds_bytes table.redirect_begins s = refl
holds_bytes table.here_begins s = refl
holds_bytes table.copy_begins s = refl
holds_bytes table.prefix_begins s = refl
holds_bytes table.suffix_begins s = refl
holds_bytes table.item_begins s = refl
holds_bytes table.tilde_begins s = refl
holds_bytes (table.unit_begins x) s = refl
holds_bytes (table.single_begins x) s = refl
holds_bytes (table.double_begins x) s = refl
holds_bytes (table.escape_begins x) s = refl
holds_bytes table.expansion_begins s = refl
holds_bytes table.subst_begins s = refl
holds_bytes table.brace_begins s = refl
holds_bytes table.closed_begins s = refl
holds_bytes table.filling_begins s = refl
holds_bytes table.sum_begins s = refl
holds_bytes table.sum_goes_on s = refl
holds_bytes table.sum_opens s = refl

choose_goes : (n : ℕ) (ds : List Text) (b : Bool) (g h : Gram) (g' h' : Gram) (xs : List Node) (s : State) → goes n ds g' xs s ≡ goes n ds g xs s → goes n ds h' xs s ≡ goes n ds h xs s →
    goes n ds (cond b g' h') xs s ≡ cond b (goes n ds g xs s) (goes n ds h xs s)
choose_goes n ds true g h g' h' xs s e f = e
choose_goes n ds false g h g' h' xs s e f = f

-- a grammar whose first choices are made reads the same
pub chosen_goes : (n : ℕ) (ds : List Text) (g : Gram) (xs : List Node) (s : State) → goes n ds (chosen g s.bytes) xs s ≡ goes n ds g xs s
chosen_goes n ds pass xs s = refl
chosen_goes n ds fail xs s = refl
chosen_goes n ds (step k) xs s = refl
chosen_goes n ds (seq g h) xs s = refl
chosen_goes n ds (choose t g h) xs s = rw (holds_bytes t s) (choose_goes n ds (holds t s) g h (chosen g s.bytes) (chosen h s.bytes) xs s (chosen_goes n ds g xs s) (chosen_goes n ds h xs s))
chosen_goes n ds (star t g) xs s = refl
chosen_goes n ds (rule r) xs s = refl

-- a rule, by what its body is where its first choices are made
pub rule_goes : (n : ℕ) (ds : List Text) (r : Rule) (s : State) → vals (sh n ds) (rule r) s ≡ done (act r) (goes n ds (chosen (body r) s.bytes) [] s)
rule_goes n ds r s = rule_is n ds r s ∙ ap (done (act r)) (sym (chosen_goes n ds (body r) [] s))

-- ---- items one behind the other

same_again : {A : Type 0} (o : Option (List A × State)) → (o >>= λ y. Some (y.0, y.1)) ≡ o
same_again None = refl
same_again (Some y) = refl

pub one_goes : (n : ℕ) (ds : List Text) (u : Unit) (rest : List Item) (xs : List Node) (s : State) → goes n ds (items_gram (items.One u ∷ rest)) xs s ≡ (goes n ds (unit u) xs s >>= λ y. goes n ds (items_gram rest) y.0 y.1)
one_goes n ds u [] xs s = sym (same_again (goes n ds (unit u) xs s))
one_goes n ds u (y ∷ ys) xs s = refl

pub if_goes : (n : ℕ) (ds : List Text) (t : _) (u v : Unit) (rest : List Item) (xs : List Node) (s : State) → goes n ds (items_gram (items.If t u v ∷ rest)) xs s ≡ (cond (holds (test t) s) (goes n ds (unit u) xs s) (goes n ds (unit v) xs s) >>= λ y. goes n ds (items_gram rest) y.0 y.1)
if_goes n ds t u v [] xs s = sym (same_again (cond (holds (test t) s) (goes n ds (unit u) xs s) (goes n ds (unit v) xs s)))
if_goes n ds t u v (y ∷ ys) xs s = refl

pub where_goes : (n : ℕ) (ds : List Text) (t : _) (rest : List Item) (xs : List Node) (s : State) → goes n ds (items_gram (items.Where t ∷ rest)) xs s ≡ cond (holds (test t) s) (goes n ds (items_gram rest) xs s) (Some (xs, s))
where_goes n ds t [] xs s = refl
where_goes n ds t (y ∷ ys) xs s = refl

pub stars_go : (n : ℕ) (ds : List Text) (t : _) (u : Unit) (rest : List Item) (xs : List Node) (s : State) → goes n ds (items_gram (items.Star t u ∷ rest)) xs s ≡ (behind xs (vals (sh n ds) (star (test t) (unit u)) s) >>= λ y. goes n ds (items_gram rest) y.0 y.1)
stars_go n ds t u [] xs s = sym (same_again (behind xs (vals (sh n ds) (star (test t) (unit u)) s)))
stars_go n ds t u (y ∷ ys) xs s = refl

-- ---- repetitions

-- what is read behind nothing, and put behind what was read before
pub go_behind : (n : ℕ) (ds : List Text) (g : Gram) (xs : List Node) (s : State) → goes n ds g xs s ≡ behind xs (eval (run_step (known n ds)) holds (vals (sh n ds)) g s)
unfolding sh known
go_behind zero ds g xs s = go_is (sh zero ds) g xs s
go_behind (suc n) ds g xs s = go_is (sh (suc n) ds) g xs s

-- ---- bodies of rules

pub body_small : (r : Rule) → small ranks (body r) ≡ true
unfolding sh
body_small r = (sh_ends zero []).rule_small r

-- ---- values

pub nodes_join : (front values all : List Value) → all ≡ front ++ values → nodes all ≡ nodes front ++ nodes values
nodes_join front values all e = ap nodes e ∙ map-append value_node front values
