-- What is read at once is what the rules read.
use Rattle.std.proofs.Common.{◌≡◌, ℕ, Bool, true, false, cond, List, [], ◌∷◌, ◌++◌, Option, Some, None, refl, sym, ap, ◌∙◌, append_assoc, append-nil}
use Rattle.std.specs.Prelude.{◌&&◌, map, Result, Ok, Err, IfOk, IfSome}
use Rattle.std.proofs.lemmas.List.{map_push}
use Rattle.text_grammar.specs.Grammar.{rule, star, Leaf, quiet, said}
use Rattle.text_grammar.specs.Values.{vals, behind, done, stepped, with_leaf, ◌&◌}
use Rattle.sh_grammar.specs.Bytes.{Text, Context, clear, in_word, in_double, has_single, has_double, unit_starts}
use Rattle.sh_grammar.specs.Expansions.{◌>>=◌}
use Rattle.sh_grammar.specs.Shape as shape
use Rattle.sh_grammar.specs.State.{State, Node, part_node, word_node, parts_in}
use Rattle.sh_grammar.specs.Table as table
use Rattle.sh_grammar.specs.Table.{Rule, Test, Gram}
use Rattle.sh_grammar.specs.Steps.{run_step, holds, word_place}
use Rattle.sh_grammar.specs.Steps as steps
use Rattle.sh_grammar.specs.Tokens.{tilde_next}
use Rattle.sh_grammar.specs.Spelling.{sh}
use Rattle.sh_syntax.specs.declared.tree.Part.{Part}
use Rattle.sh_syntax.specs.View.{view_part, parts_of}
use Rattle.sh_parser.specs.declared.fault.Stop.{Stop}
use Rattle.sh_parser.specs.declared.table.Unit.TheVariants as units
use Rattle.sh_parser.specs.Tables as tables
use Rattle.sh_parser.specs.Tables.{is_small}
use Rattle.sh_parser.specs.Tasks as tasks
use Rattle.sh_parser.specs.Tasks.{Todo, go_on}
use Rattle.sh_parser.specs.Values.{part_nodes}
use Rattle.sh_parser.specs.Views.{known}
use Rattle.sh_parser.proofs.Levels.{rule_is, star_at}

abbrev Read : Type 0
Read = Option (List Node × State)

abbrev Taken : Type 0
Taken = Option (Leaf Node × State)

-- ---- rules that are one step, or lead on to one rule

step_alone : (o : Taken) → (o >>= λ y. Some (with_leaf [] y.0, y.1)) ≡ stepped o
step_alone None = refl
step_alone (Some (quiet, m)) = refl
step_alone (Some (said x, m)) = refl

rule_alone : (o : Read) → behind [] o ≡ o
rule_alone None = refl
rule_alone (Some y) = refl

led : (o : Read) → done (λ xs. xs) o ≡ o
led None = refl
led (Some y) = refl

one_step : (o : Taken) → done (λ xs. xs) (o >>= λ y. Some (with_leaf [] y.0, y.1)) ≡ stepped o
one_step o = ap (done (λ xs. xs)) (step_alone o) ∙ led (stepped o)

one_rule : (o : Read) → done (λ xs. xs) (behind [] o) ≡ o
one_rule o = ap (done (λ xs. xs)) (rule_alone o) ∙ led o

pub part_is_exact : (n : ℕ) (ds : List Text) (c : Context) (s : State) → holds (table.single_begins c) s ≡ true → vals (sh n ds) (rule (table.part c)) s ≡ stepped (run_step (known n ds) table.exact s)
part_is_exact n ds c s h = rule_is n ds (table.part c) s ∙ rw (h) (one_step (run_step (known n ds) table.exact s))

pub part_is_double : (n : ℕ) (ds : List Text) (c : Context) (s : State) → holds (table.single_begins c) s ≡ false → holds (table.double_begins c) s ≡ true → vals (sh n ds) (rule (table.part c)) s ≡ vals (sh n ds) (rule table.double_quotes) s
part_is_double n ds c s h i = rule_is n ds (table.part c) s ∙ rw (h, i) (one_rule (vals (sh n ds) (rule table.double_quotes) s))

pub part_is_escaped : (n : ℕ) (ds : List Text) (c : Context) (s : State) → holds (table.single_begins c) s ≡ false → holds (table.double_begins c) s ≡ false → holds (table.escape_begins c) s ≡ true →
    vals (sh n ds) (rule (table.part c)) s ≡ stepped (run_step (known n ds) (table.escaped c) s)
part_is_escaped n ds c s h i j = rule_is n ds (table.part c) s ∙ rw (h, i, j) (one_step (run_step (known n ds) (table.escaped c) s))

pub part_is_expansion : (n : ℕ) (ds : List Text) (c : Context) (s : State) → holds (table.single_begins c) s ≡ false → holds (table.double_begins c) s ≡ false → holds (table.escape_begins c) s ≡ false → holds table.expansion_begins s ≡ true →
    vals (sh n ds) (rule (table.part c)) s ≡ vals (sh n ds) (rule (table.expansion c)) s
part_is_expansion n ds c s h i j k = rule_is n ds (table.part c) s ∙ rw (h, i, j, k) (one_rule (vals (sh n ds) (rule (table.expansion c)) s))

pub part_is_literal : (n : ℕ) (ds : List Text) (c : Context) (s : State) → holds (table.single_begins c) s ≡ false → holds (table.double_begins c) s ≡ false → holds (table.escape_begins c) s ≡ false → holds table.expansion_begins s ≡ false →
    vals (sh n ds) (rule (table.part c)) s ≡ stepped (run_step (known n ds) (table.literal c) s)
part_is_literal n ds c s h i j k = rule_is n ds (table.part c) s ∙ rw (h, i, j, k) (one_step (run_step (known n ds) (table.literal c) s))

pub expansion_is_dollar : (n : ℕ) (ds : List Text) (c : Context) (s : State) → holds table.sum_begins s ≡ false → holds table.subst_begins s ≡ false → holds table.brace_begins s ≡ false →
    vals (sh n ds) (rule (table.expansion c)) s ≡ stepped (run_step (known n ds) table.dollar s)
expansion_is_dollar n ds c s h i j = rule_is n ds (table.expansion c) s ∙ rw (h, i, j) (one_step (run_step (known n ds) table.dollar s))

braces_is_closed : (n : ℕ) (ds : List Text) (c : Context) (s : State) → holds table.closed_begins s ≡ true → vals (sh n ds) (rule (table.braces c)) s ≡ stepped (run_step (known n ds) table.closed s)
braces_is_closed n ds c s h = rule_is n ds (table.braces c) s ∙ rw (h) (one_step (run_step (known n ds) table.closed s))

pub expansion_is_closed : (n : ℕ) (ds : List Text) (c : Context) (s : State) → holds table.sum_begins s ≡ false → holds table.subst_begins s ≡ false → holds table.brace_begins s ≡ true → holds table.closed_begins s ≡ true →
    vals (sh n ds) (rule (table.expansion c)) s ≡ stepped (run_step (known n ds) table.closed s)
expansion_is_closed n ds c s h i j k =
    rule_is n ds (table.expansion c) s
    ∙ rw (h, i, j) (one_rule (vals (sh n ds) (rule (table.braces c)) s))
    ∙ braces_is_closed n ds c s k

-- ---- parts one behind the other

-- what is read of parts from a state, behind these
pub record PartsSoFar (n : ℕ) (ds : List Text) (c : Context) (s m : State) (xs : List Node) : Type 0 where
  pub gives : vals (sh n ds) (star (table.unit_begins c) (rule (table.part c))) s ≡ behind xs (vals (sh n ds) (star (table.unit_begins c) (rule (table.part c))) m)

small : (c : Context) → is_small (star (table.unit_begins c) (rule (table.part c))) ≡ true
small c = refl

pub no_parts_yet : (n : ℕ) (ds : List Text) (c : Context) (s : State) → PartsSoFar n ds c s s []
no_parts_yet n ds c s = record { gives = sym (rule_alone (vals (sh n ds) (star (table.unit_begins c) (rule (table.part c))) s)) }

followed : (xs ks : List Node) (m : State) (f : State → Read) → behind xs (Some (ks, m) & f) ≡ behind (xs ++ ks) (f m)
followed xs ks m f = at (f m)
  where
    at : (o : Read) → behind xs (o >>= λ y. Some (ks ++ y.0, y.1)) ≡ behind (xs ++ ks) o
    at None = refl
    at (Some y) = ap (λ (z : List Node). Some (z, y.1)) (sym (append_assoc xs ks y.0))

pub part_more : (n : ℕ) (ds : List Text) (c : Context) (s m o : State) (xs ks : List Node) → holds (table.unit_begins c) m ≡ true → vals (sh n ds) (rule (table.part c)) m ≡ Some (ks, o) → PartsSoFar n ds c s m xs → PartsSoFar n ds c s o (xs ++ ks)
part_more n ds c s m o xs ks h e so = record {
  gives = so.gives
      ∙ ap (behind xs) (star_at n ds (table.unit_begins c) (rule (table.part c)) m (small c) ∙ rw (h, e) refl)
      ∙ followed xs ks o (vals (sh n ds) (star (table.unit_begins c) (rule (table.part c))));
}

pub parts_end : (n : ℕ) (ds : List Text) (c : Context) (s m : State) (xs : List Node) → holds (table.unit_begins c) m ≡ false → PartsSoFar n ds c s m xs → vals (sh n ds) (star (table.unit_begins c) (rule (table.part c))) s ≡ Some (xs, m)
parts_end n ds c s m xs h so =
    let e : vals (sh n ds) (star (table.unit_begins c) (rule (table.part c))) m ≡ Some ([], m) = rw (star_at n ds (table.unit_begins c) (rule (table.part c)) m (small c), h) refl in
    so.gives ∙ ap (behind xs) e
    ∙ ap (λ (z : List Node). Some (z, m)) (append-nil xs)

-- the nodes of parts
pub part_nodes_more : (ps : List Part) (p : Part) → part_nodes (ps ++ p ∷ []) ≡ part_nodes ps ++ part_node (view_part p) ∷ []
part_nodes_more ps p = map_push (λ (x : Part). part_node (view_part x)) ps p

pub parts_among : (ps : List Part) → parts_in (part_nodes ps) ≡ parts_of (map view_part ps)
parts_among [] = refl
parts_among (p ∷ ps) = ap (shape.part (view_part p)) (parts_among ps)

pub unit_here : (c : Context) (s : State) (front : Text) (r w : Bool) → front ≡ clear s.bytes → r ≡ unit_starts c front → r ≡ w → holds (table.unit_begins c) s ≡ w
unfolding holds
unit_here c s front r w e f g = ap (unit_starts c) (sym e) ∙ sym f ∙ g

-- ---- double quotes

pub quote_read : (n : ℕ) (ds : List Text) (s : State) (bytes : Text) → steps.behind 34 (clear s.bytes) ≡ Some bytes → run_step (known n ds) table.quote s ≡ Some (quiet, record s { bytes = bytes })
unfolding run_step
quote_read n ds s bytes e = rw e refl

pub quotes_are : (n : ℕ) (ds : List Text) (s m o : State) (xs : List Node) → run_step (known n ds) table.quote s ≡ Some (quiet, m) → vals (sh n ds) (star (table.unit_begins in_double) (rule (table.part in_double))) m ≡ Some (xs, o) →
    (e : State) → run_step (known n ds) table.quote o ≡ Some (quiet, e) → vals (sh n ds) (rule table.double_quotes) s ≡ Some (part_node (shape.double (parts_in xs)) ∷ [], e)
quotes_are n ds s m o xs p q e r = rule_is n ds table.double_quotes s ∙ rw (p, q, r) refl

-- ---- words

abbrev parts_star : ℕ → List Text → State → Read
parts_star n ds s = vals (sh n ds) (star (table.unit_begins in_word) (rule (table.part in_word))) s

more_is : (n : ℕ) (ds : List Text) (s : State) → vals (sh n ds) (rule table.more_parts) s ≡ parts_star n ds s
more_is n ds s = rule_is n ds table.more_parts s ∙ one_rule (parts_star n ds s)

-- a part and more are parts, where one begins
word_parts_are : (n : ℕ) (ds : List Text) (s : State) → holds table.tilde_begins s ≡ false → holds (table.unit_begins in_word) s ≡ true → vals (sh n ds) (rule table.word_parts) s ≡ parts_star n ds s
word_parts_are n ds s h i =
    let e : parts_star n ds s ≡ (vals (sh n ds) (rule (table.part in_word)) s & parts_star n ds) = star_at n ds (table.unit_begins in_word) (rule (table.part in_word)) s (small in_word) ∙ ap (λ (b : Bool). cond b (vals (sh n ds) (rule (table.part in_word)) s & parts_star n ds) (Some ([], s))) i in
    let f : vals (sh n ds) (rule table.word_parts) s ≡ (vals (sh n ds) (rule (table.part in_word)) s & parts_star n ds) = rule_is n ds table.word_parts s ∙ rw (h) (joined (vals (sh n ds) (rule (table.part in_word)) s)) in
    f ∙ sym e
  where
    then_more : (xs : List Node) (m : State) (o : Read) → o ≡ parts_star n ds m → done (λ ys. ys) (behind xs o) ≡ (parts_star n ds m >>= λ y. Some (xs ++ y.0, y.1))
    then_more xs m o e = led (behind xs o) ∙ ap (behind xs) e

    joined : (o : Read) → done (λ xs. xs) (behind [] o >>= λ y. behind y.0 (vals (sh n ds) (rule table.more_parts) y.1)) ≡ (o & parts_star n ds)
    joined None = refl
    joined (Some y) = then_more y.0 y.1 (vals (sh n ds) (rule table.more_parts) y.1) (more_is n ds y.1)

place_read : (n : ℕ) (ds : List Text) (s : State) (place : Text) → word_place s.bytes ≡ Some place → run_step (known n ds) table.to_word s ≡ Some (quiet, record s { bytes = place })
unfolding run_step
place_read n ds s place e = rw e refl

pub word_of_parts_is : (n : ℕ) (ds : List Text) (s m : State) (place : Text) (xs : List Node) → word_place s.bytes ≡ Some place → holds table.tilde_begins (record s { bytes = place }) ≡ false → holds (table.unit_begins in_word) (record s { bytes = place }) ≡ true →
    parts_star n ds (record s { bytes = place }) ≡ Some (xs, m) → vals (sh n ds) (rule table.word) s ≡ Some (word_node (parts_in xs) ∷ [], m)
word_of_parts_is n ds s m place xs p h i q =
    rule_is n ds table.word s ∙ rw (place_read n ds s place p, word_parts_are n ds (record s { bytes = place }) h i, q) refl

-- ---- a word among the tasks

pub word_turn : (n : ℕ) (ds : List Text) (r : _) (ts : List Todo) (xs : List Node) (s m : State) (w : Node) → tables.rule r ≡ table.word → vals (sh n ds) (rule table.word) s ≡ Some (w ∷ [], m) →
    go_on n ds (tasks.unit (units.Rule r) ∷ ts) xs s ≡ go_on n ds ts (xs ++ w ∷ []) m
word_turn n ds r ts xs s m w e v = rw (e, v) refl

-- ---- what the code's tests say

pub single_here : (s : State) (r w : Bool) → r ≡ (has_single in_word && steps.byte_next 39 s.bytes) → r ≡ w → holds (table.single_begins in_word) s ≡ w
unfolding holds
single_here s r w f g = sym f ∙ g

pub double_here : (s : State) (r w : Bool) → r ≡ (has_double in_word && steps.byte_next 34 s.bytes) → r ≡ w → holds (table.double_begins in_word) s ≡ w
unfolding holds
double_here s r w f g = sym f ∙ g

pub tilde_here : (s : State) (r w : Bool) → r ≡ tilde_next s.bytes → r ≡ w → holds table.tilde_begins s ≡ w
unfolding holds
tilde_here s r w f g = sym f ∙ g

-- where something was read, more holds of it
pub where_read : {X : Type 0} (r : Result (Option X) Stop) (P Q : X → Type 0) → ((x : X) → P x → Q x) → IfOk r (λ o. IfSome o P) → IfOk r (λ o. IfSome o Q)
where_read (Ok (Some x)) P Q f h = f x h
where_read (Ok None) P Q f h = h
where_read (Err e) P Q f h = h
