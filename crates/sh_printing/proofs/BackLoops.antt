-- `for`, `case` and functions read back, from the lists and words in them.
use Rattle.std.proofs.Common.{◌≡◌, ℕ, suc, true, false, List, [], ◌∷◌, ◌++◌, refl, ap, ◌∙◌}
use Rattle.std.specs.Prelude.{nat_lt}
use Rattle.std.proofs.lemmas.List.{append-nil}
use Rattle.span_text.specs.KnownNames.{same_text}
use Rattle.span_text.specs.Names.{is_name, continues_name}
use Rattle.text_grammar.specs.Grammar.{star, rule}
use Rattle.sh_grammar.specs.Shape as shape
use Rattle.sh_grammar.specs.Bytes.{Text, in_word, gap, unit_starts, starts, begins_unit}
use Rattle.sh_grammar.specs.Tokens.{Newline, Semi, SemiSemi, Open, Close, Pipe, Word, code, is_token, Key, For, In, Do, Done, Case, Esac, key_text, compound_next, name_next, function_next}
use Rattle.sh_grammar.specs.State.{State, Sum, Node, text_node, kind_node, command_node, script_node, word_node, listed_node, item_node, items_in, listed_in, words_in}
use Rattle.sh_grammar.specs.Table.{next, item_begins, redirect_begins, word, pattern, pattern_more, for_loop, for_words, for_in, case_command, case_in, case_item, item_end, maybe_list, compound, compound_command, command, redirect, function_command}
use Rattle.sh_grammar.specs.Steps.{Known, limit, holds}
use Rattle.sh_printing.proofs.BackSays.{Says, nothing, ◌then◌, the_first, the_second, by_rule, no_more, one_more}
use Rattle.sh_printing.proofs.BackDue.{Due, st}
use Rattle.sh_printing.proofs.BackBytes.{joins, no_join, gap_is, gap_blank}
use Rattle.sh_printing.proofs.BackTokens.{Outside, test_is, op_says, key_says, key_token, key_gap, open_token, close_token, semi_token, semis_token, pipe_token, word_ends}
use Rattle.sh_printing.proofs.BackLines.{clean, Goes, no_lines_say, blank_test}
use Rattle.sh_printing.proofs.BackKeys.{NoKeys, no_compound, no_other}
use Rattle.sh_printing.proofs.BackSimple.{name_is, name_word, word_token, word_is_other, word_is_word}
use Rattle.sh_printing.proofs.BackCommands.{KeyAt, key_says_it}
use Rattle.sh_printing.proofs.BackCompound.{enter_says, leave_says, key_step, for_compound, case_compound, ListTo, do_says, name_says}
use Rattle.sh_printing.proofs.BackNodes.{item_nodes, items_before, word_nodes, words_before, redirect_nodes, redirects_only}

-- a reserved word that comes next
key_at : (w : Key) (bytes t : Text) → gap bytes ≡ gap (key_text w ++ t) → Outside t → KeyAt w bytes t
key_at w bytes t e o = record { is = e ∙ key_gap w t; outside = o }

key_others : (w : Key) (bytes t : Text) → KeyAt w bytes t → (is_token Newline bytes ≡ false) × (is_token Open bytes ≡ false)
key_others w bytes t a = word_is_other bytes (key_text w ++ t) (key_token w bytes t a.is)

word_no_semi : (w : Key) (bytes t : Text) → KeyAt w bytes t → (is_token Semi bytes ≡ false) × (is_token Word bytes ≡ true)
unfolding code
word_no_semi w bytes t a = let k = key_token w bytes t a.is in (test_is Word Semi bytes _ k, test_is Word Word bytes _ k)

-- ---- `for`

-- what `for` walks over
abbrev pub Walks : Known → ℕ → List Sum → List Text → List Text → Text → Text → List Node → Type 0
Walks k d q f h bytes t xs = Goes k (rule for_words) (st d q (clean f) bytes) d q (clean h) t xs

do_keys : (same_text (key_text Do) (key_text In) ≡ false) × (same_text (key_text In) (key_text In) ≡ true) × (same_text (key_text Esac) (key_text Esac) ≡ true)
unfolding key_text
do_keys = (refl, refl, refl)

pub walks_none : (k : Known) (d : ℕ) (q : List Sum) (f : List Text) (bytes t : Text) → gap bytes ≡ gap (key_text Do ++ t) → Outside t → Walks k d q f f bytes (key_text Do ++ t) []
unfolding holds
walks_none k d q f bytes t e o =
    let a = key_at Do bytes t e o in
    record {
      ahead = bytes;
      same = e;
      says = by_rule for_words refl (the_second (word_no_semi Do bytes t a).0
          (no_lines_say k d q (clean f) bytes (key_others Do bytes t a).0 then the_second (key_says_it In Do bytes t a ∙ do_keys.0) (nothing k (st d q (clean f) bytes))));
    }

-- `in w; `
pub walks_listed : (k : Known) (d : ℕ) (q : List Sum) (f h : List Text) (bytes v t : Text) (ws : shape.Words) → gap bytes ≡ gap (key_text In ++ v) → Outside v → is_token Newline t ≡ false →
    Says k (star (next Word) (rule word)) (st d q (clean f) v) (st d q (clean h) (59 ∷ 32 ∷ t)) (word_nodes ws) → Walks k d q f h bytes t (listed_node (shape.listed ws) ∷ [])
unfolding holds code
walks_listed k d q f h bytes v t ws e o n a =
    let at = key_at In bytes v e o in
    let y = semi_token (59 ∷ 32 ∷ t) t (gap_is 59 (32 ∷ t) refl) in
    record {
      ahead = 32 ∷ t;
      same = gap_blank t;
      says = by_rule for_words refl (the_second (word_no_semi In bytes v at).0
          (no_lines_say k d q (clean f) bytes (key_others In bytes v at).0 then the_first (key_says_it In In bytes v at ∙ do_keys.1)
          (by_rule for_in (ap (λ (z : shape.Words). listed_node (shape.listed z) ∷ []) (words_before ws [] refl))
          (key_says k In d q (clean f) bytes v at.is o then a then the_first (test_is Semi Semi _ _ y) (op_says k Semi d q (clean h) (59 ∷ 32 ∷ t) (32 ∷ t) y) then no_lines_say k d q (clean h) (32 ∷ t) (blank_test Newline t ∙ n)))));
    }

pub for_says : (k : Known) (d : ℕ) (q : List Sum) (f g h : List Text) (bytes n v w t : Text) (ws : shape.ForWords) (xs : List Node) (s : shape.Script) → nat_lt d limit ≡ true → is_name n ≡ true → gap bytes ≡ key_text For ++ 32 ∷ (n ++ 32 ∷ v) →
    (listed_in (text_node n ∷ (xs ++ (script_node s ∷ []))) ≡ ws) → (Rattle.sh_grammar.specs.State.script_in (text_node n ∷ (xs ++ (script_node s ∷ []))) ≡ s) →
    (a : Walks k (suc d) q f g (32 ∷ v) (key_text Do ++ 32 ∷ w) xs) → ListTo k (suc d) q g h (32 ∷ w) (key_text Done ++ t) s → Outside t → Says k (rule compound) (st d q (clean f) bytes) (st d q (clean h) t) (kind_node (shape.walk n ws s) ∷ [])
for_says k d q f g h bytes n v w t ws xs s lt nm at lw ls a b o =
    let p = word_ends (32 ∷ (n ++ 32 ∷ v)) refl in
    let r = word_ends (32 ∷ v) refl in
    let gn : gap (32 ∷ (n ++ 32 ∷ v)) ≡ n ++ 32 ∷ v = gap_blank (n ++ 32 ∷ v) ∙ (name_word n (32 ∷ v) nm).solid in
    for_compound k d q (clean f) bytes (32 ∷ (n ++ 32 ∷ v)) (st d q (clean h) t) _ (record { is = at; outside = p })
    (by_rule for_loop (rw (lw, ls) refl)
    (key_says k For d q (clean f) bytes (32 ∷ (n ++ 32 ∷ v)) at p then name_says k d q (clean f) (32 ∷ (n ++ 32 ∷ v)) n (32 ∷ v) nm gn r.free r.no_name r.no_unit then enter_says k d q (clean f) (32 ∷ v) lt then a.says then do_says k (suc d) q g h a.ahead w t s a.same b o then leave_says k d q (clean h) t))

-- ---- `case`

-- the items up to `esac`
abbrev pub ItemsTo : Known → ℕ → List Sum → List Text → List Text → Text → Text → shape.Items → Type 0
ItemsTo k d q f h bytes t is = Goes k (star item_begins (rule case_item)) (st d q (clean f) bytes) d q (clean h) t (item_nodes is)

pub no_items : (k : Known) (d : ℕ) (q : List Sum) (f : List Text) (bytes t : Text) → gap bytes ≡ gap (key_text Esac ++ t) → Outside t → ItemsTo k d q f f bytes (key_text Esac ++ t) shape.no_item
unfolding holds
no_items k d q f bytes t e o =
    let a = key_at Esac bytes t e o in
    record { ahead = bytes; same = e; says = no_more (rw ((key_others Esac bytes t a).1, (word_no_semi Esac bytes t a).1, key_says_it Esac Esac bytes t a, do_keys.2) refl) }

-- patterns behind the first one, up to the `)`
abbrev pub PatternsTo : Known → ℕ → List Sum → List Text → List Text → Text → Text → shape.Words → Type 0
PatternsTo k d q f h v t ps = Says k (star (next Pipe) (rule pattern_more)) (st d q (clean f) v) (st d q (clean h) (41 ∷ t)) (word_nodes ps)

pub no_patterns : (k : Known) (d : ℕ) (q : List Sum) (f : List Text) (t : Text) → PatternsTo k d q f f (41 ∷ t) t shape.no_word
unfolding holds code
no_patterns k d q f t = no_more (test_is Close Pipe (41 ∷ t) t (close_token (41 ∷ t) t (gap_is 41 t refl)))

pub one_pattern : (k : Known) (d : ℕ) (q : List Sum) (f g h : List Text) (v w t : Text) (p : shape.Parts) (ps : shape.Words) → Says k (rule pattern) (st d q (clean f) (32 ∷ v)) (st d q (clean g) w) (word_node p ∷ []) → PatternsTo k d q g h w t ps →
    PatternsTo k d q f h (32 ∷ 124 ∷ 32 ∷ v) t (shape.word p ps)
unfolding holds code
one_pattern k d q f g h v w t p ps a more =
    let y = pipe_token (32 ∷ 124 ∷ 32 ∷ v) v 32 (gap_blank (124 ∷ 32 ∷ v) ∙ gap_is 124 (32 ∷ v) refl) refl in
    one_more (test_is Pipe Pipe _ _ y) (by_rule pattern_more refl (op_says k Pipe d q (clean f) (32 ∷ 124 ∷ 32 ∷ v) (32 ∷ v) y then a)) more

item_words : (p : shape.Parts) (ps : shape.Words) (s : shape.Script) → words_in (word_node p ∷ (word_nodes ps ++ (script_node s ∷ []))) ≡ shape.word p ps
item_words p ps s = ap (shape.word p) (words_before ps (script_node s ∷ []) refl)

item_script : (ps : shape.Words) (s : shape.Script) → Rattle.sh_grammar.specs.State.script_in (word_nodes ps ++ (script_node s ∷ [])) ≡ s
item_script shape.no_word s = refl
item_script (shape.word p ps) s = item_script ps s

-- an item and what stands behind it
pub one_item : (k : Known) (d : ℕ) (q : List Sum) (f g h j l : List Text) (bytes v w x t u : Text) (p : shape.Parts) (ps : shape.Words) (s : shape.Script) (is : shape.Items) → gap bytes ≡ gap (40 ∷ v) →
    Says k (rule pattern) (st d q (clean f) v) (st d q (clean g) w) (word_node p ∷ []) → PatternsTo k d q g h w (32 ∷ x) ps → (b : Goes k (rule maybe_list) (st d q (clean h) (32 ∷ x)) d q (clean j) (59 ∷ 59 ∷ 32 ∷ t) (script_node s ∷ [])) →
    is_token Newline t ≡ false → ItemsTo k d q j l (32 ∷ t) u is → ItemsTo k d q f l bytes u (shape.item (shape.word p ps) s is)
unfolding holds code
one_item k d q f g h j l bytes v w x t u p ps s is e a more b n rest =
    let y = open_token bytes v (e ∙ gap_is 40 v refl) in
    let c = close_token (41 ∷ 32 ∷ x) (32 ∷ x) (gap_is 41 (32 ∷ x) refl) in
    let z = semis_token b.ahead t (b.same ∙ gap_is 59 (59 ∷ 32 ∷ t) refl) in
    record {
      ahead = rest.ahead;
      same = rest.same;
      says =
          one_more {xs = item_node (shape.word p ps) s ∷ []} (rw (test_is Open Open _ _ y) refl)
          (by_rule case_item (rw (item_words p ps s, item_script ps s) refl)
          (the_first (test_is Open Open _ _ y) (op_says k Open d q (clean f) bytes v y) then a then more then op_says k Close d q (clean h) (41 ∷ 32 ∷ x) (32 ∷ x) c then b.says then
          by_rule item_end refl (the_first (test_is SemiSemi SemiSemi _ _ z) (op_says k SemiSemi d q (clean j) b.ahead (32 ∷ t) z then no_lines_say k d q (clean j) (32 ∷ t) (blank_test Newline t ∙ n)))))
          rest.says;
    }

pub case_says : (k : Known) (d : ℕ) (q : List Sum) (f g h : List Text) (bytes v w t : Text) (p : shape.Parts) (is : shape.Items) → nat_lt d limit ≡ true → gap bytes ≡ key_text Case ++ 32 ∷ v →
    Says k (rule word) (st (suc d) q (clean f) (32 ∷ v)) (st (suc d) q (clean g) (32 ∷ (key_text In ++ 32 ∷ w))) (word_node p ∷ []) → is_token Newline w ≡ false → ItemsTo k (suc d) q g h (32 ∷ w) (key_text Esac ++ t) is → Outside t →
    Says k (rule compound) (st d q (clean f) bytes) (st d q (clean h) t) (kind_node (shape.cases p is) ∷ [])
case_says k d q f g h bytes v w t p is lt at a n items o =
    let r = word_ends (32 ∷ v) refl in
    let y = word_ends (32 ∷ w) refl in
    let x = 32 ∷ (key_text In ++ 32 ∷ w) in
    let i = key_at In x (32 ∷ w) (gap_blank (key_text In ++ 32 ∷ w)) y in
    case_compound k d q (clean f) bytes (32 ∷ v) (st d q (clean h) t) _ (record { is = at; outside = r })
    (by_rule case_command (ap (λ (z : shape.Items). kind_node (shape.cases p z) ∷ []) (ap items_in (append-nil (item_nodes is ++ [])) ∙ items_before is [] refl))
    (key_says k Case d q (clean f) bytes (32 ∷ v) at r then enter_says k d q (clean f) (32 ∷ v) lt then a then no_lines_say k (suc d) q (clean g) x (key_others In x (32 ∷ w) i).0
    then by_rule case_in refl (key_says k In (suc d) q (clean g) x (32 ∷ w) i.is y then no_lines_say k (suc d) q (clean g) (32 ∷ w) (blank_test Newline w ∙ n) then items.says then key_step k Esac (suc d) q (clean h) items.ahead t items.same o)
    then leave_says k d q (clean h) t))

-- ---- with redirections, and functions

pub compound_command_says : (k : Known) (d : ℕ) (q : List Sum) (g : Due) (bytes : Text) (m e : State) (c : shape.Kind) (rs : shape.Redirects) → Says k (rule compound) (st d q g bytes) m (kind_node c ∷ []) → Says k (star redirect_begins (rule redirect)) m e (redirect_nodes rs) →
    Says k (rule compound_command) (st d q g bytes) e (command_node (shape.command c rs) ∷ [])
compound_command_says k d q g bytes m e c rs a b = by_rule compound_command (ap (λ (z : shape.Redirects). command_node (shape.command c z) ∷ []) (redirects_only rs)) (a then b)

pub compound_begins_says : (k : Known) (s e : State) (xs : List Node) → compound_next s.bytes ≡ true → Says k (rule compound_command) s e xs → Says k (rule command) s e xs
unfolding holds
compound_begins_says k s e xs n a = by_rule command refl (the_first n a)

paren_unit : begins_unit in_word 40 ≡ false
paren_unit = Rattle.sh_printing.proofs.BackTokens.metas.opening

paren_ends : (t : Text) → (joins (40 ∷ t) ≡ false) × (starts continues_name (40 ∷ t) ≡ false) × (unit_starts in_word (40 ∷ t) ≡ false)
unfolding continues_name unit_starts
paren_ends t = (no_join 40 t refl, refl, paren_unit)

pub function_says : (k : Known) (d : ℕ) (q : List Sum) (g : Due) (bytes n v : Text) (e : State) (c : shape.Command) → is_name n ≡ true → gap bytes ≡ n ++ 40 ∷ 41 ∷ 32 ∷ v → NoKeys bytes → is_token Newline v ≡ false →
    Says k (rule compound_command) (st d q g (32 ∷ v)) e (command_node c ∷ []) → Says k (rule command) (st d q g bytes) e (command_node (shape.command (shape.function n c) shape.no_redirect) ∷ [])
unfolding holds compound_next function_next name_next code
function_says k d q g bytes n v e c nm at keys nl a =
    let w = n ++ 40 ∷ 41 ∷ 32 ∷ v in
    let p = paren_ends (41 ∷ 32 ∷ v) in
    let f = name_word n (40 ∷ 41 ∷ 32 ∷ v) nm in
    let k1 = word_token bytes w at f in
    let y = open_token (40 ∷ 41 ∷ 32 ∷ v) (41 ∷ 32 ∷ v) (gap_is 40 (41 ∷ 32 ∷ v) refl) in
    let z = close_token (41 ∷ 32 ∷ v) (32 ∷ v) (gap_is 41 (32 ∷ v) refl) in
    let x = word_is_other bytes w k1 in
    by_rule command refl
    (the_second (rw (x.1, word_is_word bytes w k1, no_compound bytes keys) refl)
    (the_first (rw (word_is_word bytes w k1, no_compound bytes keys, no_other bytes keys, at, name_is n (40 ∷ 41 ∷ 32 ∷ v) nm p.0 p.1, test_is Open Open _ _ y) refl)
    (by_rule function_command refl
    (name_says k d q g bytes n (40 ∷ 41 ∷ 32 ∷ v) nm at p.0 p.1 p.2 then op_says k Open d q g (40 ∷ 41 ∷ 32 ∷ v) (41 ∷ 32 ∷ v) y then op_says k Close d q g (41 ∷ 32 ∷ v) (32 ∷ v) z then no_lines_say k d q g (32 ∷ v) (blank_test Newline v ∙ nl) then a))))
