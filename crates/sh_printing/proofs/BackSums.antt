-- Arithmetic expansions read back, from their operands.
use Rattle.std.proofs.Common.{◌≡◌, ℕ, zero, suc, ◌+◌, ◌≤◌, Bool, true, false, List, [], ◌∷◌, ◌++◌, length, Some, refl, sym, ap, subst, ◌∙◌, arith, append_assoc}
use Rattle.std.specs.Prelude.{nat_lt, codes}
use Rattle.std.proofs.lemmas.Bool.{false≢true, ltb-true}
use Rattle.std.proofs.lemmas.List.{append-nil}
use Rattle.text_grammar.specs.Grammar.{quiet, rule, step}
use Rattle.span_text.specs.ExprTokens.{Cell}
use Rattle.span_text.specs.declared.expr.Expr.{Expr}
use Rattle.span_text.specs.Expressions.{Form, literal, expanded, variable, member, group, prefixed, stepped, between, chosen, assigned}
use Rattle.sh_grammar.specs.Shape as shape
use Rattle.sh_grammar.specs.Shape.{arith as sum_of_words, no_part, part, no_word, word}
use Rattle.sh_grammar.specs.Bytes.{Text, Context, in_double, clear}
use Rattle.sh_grammar.specs.Expansions.{behind_two, dollar_sum, sum_next}
use Rattle.sh_grammar.specs.State.{Sum, Node, part_node, expr_node, operands_in, sum_in}
use Rattle.sh_grammar.specs.Sums.{expression}
use Rattle.sh_grammar.specs.Table.{expansion}
use Rattle.sh_grammar.specs.Table as table
use Rattle.sh_grammar.specs.Steps.{Known, limit, nth, run_step, holds}
use Rattle.sh_printing.specs.Marks as marks
use Rattle.sh_printing.specs.Sums.{assigned_text, expr_text, unary_text}
use Rattle.sh_printing.specs.Spellable.{sum_fits, nth_check}
use Rattle.sh_printing.specs.Printing.{part_text, parts_text, parts_open, words_open, operand_texts, behind_opening}
use Rattle.sh_printing.specs.Printable.{operand_fits, operand_checks, part_fits, is_expansion}
use Rattle.sh_printing.proofs.BackSays.{Says, silent_step, said_step, ◌then◌, the_first, by_rule, at_state, to_state}
use Rattle.sh_printing.proofs.BackDue.{Due, st, after, pending_text, Covers, covers_first, covers_after, after_both}
use Rattle.sh_printing.proofs.BackBytes.{clear_is, no_join, three}
use Rattle.sh_printing.proofs.BackParams.{Ends}
use Rattle.sh_printing.proofs.BackFronts.{Dollar, dollar_front}
use Rattle.sh_printing.proofs.BackNamed.{parts_bodies, words_bodies, parts_closed, words_closed}
use Rattle.sh_printing.proofs.BackNodes.{part_nodes}
use Rattle.sh_printing.proofs.BackForms.{form_text, infix_op, Good, Shown, sum_shown}
use Rattle.sh_printing.proofs.BackSumTokens.{infix_mark, assign_mark, unary_mark}
use Rattle.sh_printing.proofs.BackSumCells.{sum_of, added, added_spells}
use Rattle.sh_printing.proofs.BackSumParts.{Star, form_bytes, form_nodes, Operates, close_goes, minus_one}

-- what stands behind the next `$(`
abbrev pub opening_of : Due → Text
opening_of g = marks.gap (pending_text g.owing)

-- an operand reads back wherever it stands, where bodies are at most n deep
abbrev pub Operand : Known → ℕ → Bool → shape.Parts → Type 0
Operand k n i w = (d : ℕ) (q : List Sum) (g : Due) (t : Text) → limit ≤ n + d → d ≤ limit → operand_fits i d w ≡ true → Ends t → Covers k g (parts_bodies w) →
    Says k (rule (expansion in_double)) (st d q g (parts_text true in_double (opening_of g) w ++ t)) (st d q (after (parts_open w) g (parts_bodies w)) t) (part_nodes w)

abbrev pub Operands : Known → ℕ → Bool → shape.Words → Type 0
Operands k n i no_word = Unit {0}
Operands k n i (word w ws) = Operand k n i w × Operands k n i ws

-- ---- the operands by their numbers

-- where reading is behind so many of them
abbrev due_at : ℕ → Due → shape.Words → Due
due_at zero g ws = g
due_at (suc m) g no_word = g
due_at (suc m) g (word w ws) = due_at m (after (parts_open w) g (parts_bodies w)) ws

abbrev node_at : shape.Words → ℕ → List Node
node_at no_word m = []
node_at (word w ws) zero = part_nodes w
node_at (word w ws) (suc m) = node_at ws m

abbrev words_from : ℕ → shape.Words → shape.Words
words_from zero ws = ws
words_from (suc m) no_word = no_word
words_from (suc m) (word w ws) = words_from m ws

abbrev all_nodes : shape.Words → List Node
all_nodes no_word = []
all_nodes (word w ws) = part_nodes w ++ all_nodes ws

opening_behind : (o : Bool) (g : Due) (bs : List Text) → opening_of (after o g bs) ≡ behind_opening o (opening_of g)
opening_behind true g bs = refl
opening_behind false g bs = refl

-- what fits as an operand is one expansion
record Single (i : Bool) (d : ℕ) (w : shape.Parts) : Type 0 where
  one : shape.Part
  is : w ≡ part one no_part
  expands : is_expansion one ≡ true
  fits : part_fits i d in_double no_part one ≡ true

single : (i : Bool) (d : ℕ) (w : shape.Parts) → operand_fits i d w ≡ true → Single i d w
single i d no_part e = absurd (false≢true e)
single i d (part p no_part) e = let x = three (is_expansion p) true (part_fits i d in_double no_part p) e in record { one = p; is = refl; expands = x.0; fits = x.2 }
single i d (part p (part q qs)) e = absurd (false≢true (three (is_expansion p) false (part_fits i d in_double (part q qs) p) e).1)

single_dollar : (i : Bool) (d : ℕ) (opening : Text) (w : shape.Parts) (t : Text) → operand_fits i d w ≡ true → Dollar (parts_text true in_double opening w ++ t)
single_dollar i d opening w t e =
    let s = single i d w e in
    subst (λ (z : shape.Parts). Dollar (parts_text true in_double opening z ++ t)) (sym s.is)
    (subst (λ (z : Text). Dollar (z ++ t)) (sym (append-nil (part_text true in_double opening false s.one))) (dollar_front i d in_double opening no_part s.one t s.expands s.fits))

operand_dollar : (i : Bool) (opening : Text) (ws : shape.Words) (m d : ℕ) (t : Text) → nth_check (operand_checks i ws) m d ≡ true → Dollar (nth (operand_texts true opening ws) m ++ t)
operand_dollar i opening no_word m d t e = absurd (false≢true e)
operand_dollar i opening (word w ws) zero d t e = single_dollar i d opening w t e
operand_dollar i opening (word w ws) (suc m) d t e = operand_dollar i (behind_opening (parts_open w) opening) ws m d t e

operand_says : (k : Known) (n : ℕ) (i : Bool) (g : Due) (ws : shape.Words) → Operands k n i ws → Covers k g (words_bodies ws) → (m d : ℕ) (q : List Sum) (t : Text) → limit ≤ n + d → d ≤ limit → nth_check (operand_checks i ws) m d ≡ true → Ends t →
    Says k (rule (expansion in_double)) (st d q (due_at m g ws) (nth (operand_texts true (opening_of g) ws) m ++ t)) (st d q (due_at (suc m) g ws) t) (node_at ws m)
operand_says k n i g no_word os known m d q t hi le e ends = absurd (false≢true e)
operand_says k n i g (word w ws) os known zero d q t hi le e ends = os.0 d q g t hi le e ends (covers_first k g (parts_bodies w) (words_bodies ws) known)
operand_says k n i g (word w ws) os known (suc m) d q t hi le e ends =
    let h = after (parts_open w) g (parts_bodies w) in
    at_state (ap (λ (z : Text). st d q (due_at m h ws) (nth (operand_texts true z ws) m ++ t)) (opening_behind (parts_open w) g (parts_bodies w)))
    (operand_says k n i h ws os.1 (covers_after k (parts_open w) g (parts_bodies w) (words_bodies ws) (parts_closed w) known) m d q t hi le e ends)

operates : (k : Known) (n : ℕ) (i : Bool) (g : Due) (ws : shape.Words) → Operands k n i ws → Covers k g (words_bodies ws) →
    Operates k (nth_check (operand_checks i ws)) (nth (operand_texts true (opening_of g) ws)) (λ m. due_at m g ws) (node_at ws) n
operates k n i g ws os known = record { dollar = λ m d t e. operand_dollar i (opening_of g) ws m d t e; says = λ m d q t hi le e ends. operand_says k n i g ws os known m d q t hi le e ends }

-- behind all of them
due_end : (i : Bool) (g : Due) (ws : shape.Words) → due_at (length (operand_checks i ws)) g ws ≡ after (words_open ws) g (words_bodies ws)
due_end i g no_word = refl
due_end i g (word w ws) =
    due_end i (after (parts_open w) g (parts_bodies w)) ws ∙ after_both (parts_open w) (words_open ws) g (parts_bodies w) (words_bodies ws) (parts_closed w) (words_closed ws)

-- ---- their nodes

words_end : (i : Bool) (ws : shape.Words) → words_from (length (operand_checks i ws)) ws ≡ no_word
words_end i no_word = refl
words_end i (word w ws) = words_end i ws

-- the word of this number, before those behind it
record Next (ws : shape.Words) (m : ℕ) : Type 0 where
  one : shape.Part
  is : words_from m ws ≡ word (part one no_part) (words_from (suc m) ws)
  node : node_at ws m ≡ part_node one ∷ []

next_word : (i : Bool) (ws : shape.Words) (m d : ℕ) → nth_check (operand_checks i ws) m d ≡ true → Next ws m
next_word i no_word m d e = absurd (false≢true e)
next_word i (word w ws) zero d e = let s = single i d w e in record { one = s.one; is = ap (λ (z : shape.Parts). word z ws) s.is; node = ap part_nodes s.is }
next_word i (word w ws) (suc m) d e = let x = next_word i ws m d e in record { one = x.one; is = x.is; node = x.node }

-- what nodes say of words: the words, and nothing but operands before an expression
record Tells (xs : List Node) (ws : shape.Words) (e : Expr) : Type 0 where
  words : operands_in (xs ++ expr_node e ∷ []) ≡ ws
  sum : (vs : shape.Words) → sum_in (xs ++ expr_node e ∷ []) vs ≡ sum_of_words e vs

no_words_tell : (e : Expr) → Tells [] no_word e
no_words_tell e = record { words = refl; sum = λ vs. refl }

one_tells : (p : shape.Part) (xs : List Node) (ws : shape.Words) (e : Expr) → Tells xs ws e → Tells (part_node p ∷ xs) (word (part p no_part) ws) e
one_tells p xs ws e a = record { words = ap (word (part p no_part)) a.words; sum = a.sum }

expanded_tells : (i : Bool) (ws : shape.Words) (e : Expr) (m d : ℕ) (xs : List Node) → nth_check (operand_checks i ws) m d ≡ true → Tells xs (words_from (suc m) ws) e → Tells (node_at ws m ++ xs) (words_from m ws) e
expanded_tells i ws e m d xs h a =
    let x = next_word i ws m d h in
    subst (λ (z : List Node). Tells (z ++ xs) (words_from m ws) e) (sym x.node)
    (subst (λ (z : shape.Words). Tells (part_node x.one ∷ xs) z e) (sym x.is) (one_tells x.one xs (words_from (suc m) ws) e a))

form_tells : (i : Bool) (ws : shape.Words) (e : Expr) (f : Form) (d n m : ℕ) (xs : List Node) → Good (nth_check (operand_checks i ws)) d n m f → Tells xs (words_from m ws) e → Tells (form_nodes (node_at ws) f xs) (words_from n ws) e
form_tells i ws e (literal b) d n m xs g a = subst (λ (z : ℕ). Tells xs (words_from z ws) e) (sym g.1) a
form_tells i ws e (expanded b) d n m xs g a =
    subst (λ (z : ℕ). Tells (node_at ws b ++ xs) (words_from z ws) e) g.0
    (expanded_tells i ws e b d xs g.1 (subst (λ (z : ℕ). Tells xs (words_from z ws) e) (g.2 ∙ ap suc (sym g.0)) a))
form_tells i ws e (variable name) d n m xs g a = subst (λ (z : ℕ). Tells xs (words_from z ws) e) (sym g.1) a
form_tells i ws e (member name f) d n m xs g a = absurd g
form_tells i ws e (group f) d n m xs g a = form_tells i ws e f (suc d) n m xs g.1 a
form_tells i ws e (prefixed o f) d n m xs g a = form_tells i ws e f d n m xs g a
form_tells i ws e (stepped o f) d n m xs g a = absurd g
form_tells i ws e (between o f p) d n m xs g a = form_tells i ws e f d n g.1 (form_nodes (node_at ws) p xs) g.2 (form_tells i ws e p d g.1 m xs g.3 a)
form_tells i ws e (chosen f p r) d n m xs g a =
    form_tells i ws e f d n g.0 (form_nodes (node_at ws) p (form_nodes (node_at ws) r xs)) g.2 (form_tells i ws e p d g.0 g.1 (form_nodes (node_at ws) r xs) g.3 (form_tells i ws e r d g.1 m xs g.4 a))
form_tells i ws e (assigned f o p) d n m xs g a = form_tells i ws e f d n g.2 (form_nodes (node_at ws) p xs) g.3 (form_tells i ws e p d g.2 m xs g.4 a)

-- ---- the text

mark_text : (a w b t : Text) → (a ++ (32 ∷ w) ++ (32 ∷ b)) ++ t ≡ a ++ ((32 ∷ w ++ 32 ∷ []) ++ (b ++ t))
mark_text a w b t =
    append_assoc (a ++ (32 ∷ w)) (32 ∷ b) t ∙ append_assoc a (32 ∷ w) (32 ∷ (b ++ t)) ∙ ap (λ (z : Text). a ++ z) (sym (append_assoc (32 ∷ w) (32 ∷ []) (b ++ t)))

-- the text of a form, and what stands behind it
text_bytes : (text : ℕ → Text) (check : ℕ → ℕ → Bool) (f : Form) (d n m : ℕ) → Good check d n m f → (t : Text) → form_text text f ++ t ≡ form_bytes text f t
text_bytes text check (literal b) d n m g t = refl
text_bytes text check (expanded b) d n m g t = refl
text_bytes text check (variable name) d n m g t = refl
text_bytes text check (member name f) d n m g t = absurd g
text_bytes text check (group f) d n m g t = ap (λ (z : Text). 40 ∷ z) (append_assoc (form_text text f) (41 ∷ []) t ∙ text_bytes text check f (suc d) n m g.1 (41 ∷ t))
text_bytes text check (prefixed o f) d n m g t =
    append_assoc (unary_text o) (32 ∷ form_text text f) t ∙ sym (append_assoc (unary_text o) (32 ∷ []) (form_text text f ++ t)) ∙ ap (λ (z : Text). unary_mark o ++ z) (text_bytes text check f d n m g t)
text_bytes text check (stepped o f) d n m g t = absurd g
text_bytes text check (between i f p) d n m g t =
    mark_text (form_text text f) (infix_op i) (form_text text p) t ∙ ap (λ (z : Text). form_text text f ++ (infix_mark i ++ z)) (text_bytes text check p d g.1 m g.3 t) ∙ text_bytes text check f d n g.1 g.2 (infix_mark i ++ form_bytes text p t)
text_bytes text check (chosen f p r) d n m g t =
    mark_text (form_text text f ++ 32 ∷ codes "?" ++ 32 ∷ form_text text p) (codes ":") (form_text text r) t
    ∙ mark_text (form_text text f) (codes "?") (form_text text p) (codes " : " ++ (form_text text r ++ t))
    ∙ ap (λ (z : Text). form_text text f ++ (codes " ? " ++ (form_text text p ++ (codes " : " ++ z)))) (text_bytes text check r d g.1 m g.4 t)
    ∙ ap (λ (z : Text). form_text text f ++ (codes " ? " ++ z)) (text_bytes text check p d g.0 g.1 g.3 (codes " : " ++ form_bytes text r t))
    ∙ text_bytes text check f d n g.0 g.2 (codes " ? " ++ form_bytes text p (codes " : " ++ form_bytes text r t))
text_bytes text check (assigned f o p) d n m g t =
    mark_text (form_text text f) (assigned_text o) (form_text text p) t ∙ ap (λ (z : Text). form_text text f ++ (assign_mark o ++ z)) (text_bytes text check p d g.2 m g.4 t) ∙ text_bytes text check f d n g.2 g.3 (assign_mark o ++ form_bytes text p t)

-- ---- the whole

-- from the text between the parentheses
whole_says : (k : Known) (c : Context) (d : ℕ) (q : List Sum) (g h : Due) (cs : List Cell) (u t : Text) (e : Expr) (ws : shape.Words) (xs : List Node) → nat_lt d limit ≡ true →
    Star k (st (suc d) (sum_of [] ∷ q) g u) (st (suc d) (sum_of cs ∷ q) h (41 ∷ 41 ∷ t)) xs → expression (sum_of cs) ≡ Some e → Tells xs ws e →
    Says k (rule (expansion c)) (st d q g (36 ∷ 40 ∷ 40 ∷ u)) (st d q h t) (part_node (sum_of_words e ws) ∷ [])
unfolding run_step holds sum_next dollar_sum behind_two
whole_says k c d q g h cs u t e ws xs lt a spells tells =
    let i : clear (36 ∷ 40 ∷ 40 ∷ u) ≡ 36 ∷ 40 ∷ 40 ∷ u = clear_is (36 ∷ 40 ∷ 40 ∷ u) refl in
    let j : clear (40 ∷ 40 ∷ u) ≡ 40 ∷ 40 ∷ u = clear_is (40 ∷ 40 ∷ u) refl in
    let l : clear (40 ∷ u) ≡ 40 ∷ u = clear_is (40 ∷ u) (no_join 40 u refl) in
    let v : clear (41 ∷ 41 ∷ t) ≡ 41 ∷ 41 ∷ t = clear_is (41 ∷ 41 ∷ t) refl in
    let w : clear (41 ∷ t) ≡ 41 ∷ t = clear_is (41 ∷ t) (no_join 41 t refl) in
    let closing : Says k (step table.close_sum) (st (suc d) (sum_of cs ∷ q) h (41 ∷ 41 ∷ t)) (st (suc d) q h t) (expr_node e ∷ []) = said_step (rw (v, w, spells) refl) in
    let opening : Says k (step table.open_sum) (st d q g (36 ∷ 40 ∷ 40 ∷ u)) (st d (sum_of [] ∷ q) g u) [] = silent_step (rw (i, j, l) refl) in
    let ys = xs ++ expr_node e ∷ [] in
    by_rule (expansion c) refl
    (the_first (rw (i, j, l) refl)
    (by_rule table.sum (ap (λ (z : shape.Part). part_node z ∷ []) (tells.sum (operands_in ys) ∙ ap (sum_of_words e) tells.words))
    (opening
    then silent_step (rw lt refl)
    then a
    then closing
    then silent_step (ap (λ (z : ℕ). Some (quiet, st z q h t)) (minus_one d)))))

-- THE LAW of an arithmetic expansion, by arith64's reading of its text
pub sum_back : (k : Known) (n : ℕ) (i : Bool) (c : Context) (d : ℕ) (q : List Sum) (g : Due) (more : Bool) (e : Expr) (ws : shape.Words) (t : Text) → limit ≤ n + d → nat_lt d limit ≡ true → sum_fits (operand_checks i ws) (suc d) e ≡ true →
    Operands k n i ws → Covers k g (words_bodies ws) →
    Says k (rule (expansion c)) (st d q g (part_text true c (opening_of g) more (sum_of_words e ws) ++ t)) (st d q (after (words_open ws) g (words_bodies ws)) t) (part_node (sum_of_words e ws) ∷ [])
sum_back k n i c d q g more e ws t high lt fits operands known =
    let checks = operand_checks i ws in
    let check = nth_check checks in
    let count = length checks in
    let text = nth (operand_texts true (opening_of g) ws) in
    let less = ltb-true d limit lt in
    let s : Shown check e 0 (suc d) 0 count = sum_shown checks (suc d) e fits in
    let a = close_goes k check text (λ m. due_at m g ws) (node_at ws) n (operates k n i g ws operands known) s.form (suc d) 0 count s.good (omega arith) (omega arith) q [] (41 ∷ t) in
    let tells = form_tells i ws e s.form (suc d) 0 count [] s.good (subst (λ (z : shape.Words). Tells [] z e) (sym (words_end i ws)) (no_words_tell e)) in
    let is : part_text true c (opening_of g) more (sum_of_words e ws) ++ t ≡ 36 ∷ 40 ∷ 40 ∷ form_bytes text s.form (41 ∷ 41 ∷ t) =
    append_assoc (codes "$((" ++ expr_text text e) (codes "))") t ∙ ap (λ (z : Text). 36 ∷ 40 ∷ 40 ∷ z) (ap (λ (z : Text). z ++ (41 ∷ 41 ∷ t)) (s.text text) ∙ text_bytes text check s.form (suc d) 0 count s.good (41 ∷ 41 ∷ t)) in
    at_state (ap (λ (z : Text). st d q g z) (sym is))
    (to_state (ap (λ (z : Due). st d q z t) (due_end i g ws))
    (whole_says k c d q g (due_at count g ws) (added [] s.form) (form_bytes text s.form (41 ∷ 41 ∷ t)) t e ws (form_nodes (node_at ws) s.form []) lt a (added_spells check s.form (suc d) count s.good s.fits ∙ ap Some s.is) tells))
