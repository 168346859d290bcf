-- What stands in a printed text is no longer than it: operands, and the bodies of here-documents that are still to come.
use Rattle.std.proofs.Common.{◌≡◌, ℕ, suc, ◌<◌, ◌≤◌, Bool, true, false, List, [], ◌∷◌, ◌++◌, length, refl, sym, subst, ◌∙◌, arith, inl, inr}
use Rattle.std.specs.Prelude.{◌||◌, ◌&&◌, not, ◌⊎◌, nat_lt, codes}
use Rattle.std.proofs.lemmas.Bool.{false≢true}
use Rattle.std.proofs.lemmas.Bool.Decides.{nat_tests}
use Rattle.std.proofs.lemmas.List.{length-append}
use Rattle.span_text.specs.declared.expr.Expr.{Expr}
use Rattle.span_text.specs.Expressions.{Form, literal, expanded, variable, member, group, prefixed, stepped, between, chosen, assigned}
use Rattle.sh_grammar.specs.Shape as shape
use Rattle.sh_grammar.specs.Shape.{plain, exact, double, tilde, param, subst as listing, arith as sum, no_part, part, as_is, length_of, fill, trim, no_word, word, no_redirect, redirect}
use Rattle.sh_grammar.specs.Bytes.{Text, Context, in_word, in_double, has_double, fill_context, trim_context}
use Rattle.sh_grammar.specs.Steps.{limit, nth}
use Rattle.sh_printing.specs.Marks as marks
use Rattle.sh_printing.specs.Marks.{End, piped, and_then, or_else, next, line, ended, led, fd_text, behind_word, whole_body, param_name, colon_text, test_text, trim_mark}
use Rattle.sh_printing.specs.Sums.{expr_text, unary_text, assigned_text}
use Rattle.sh_printing.specs.Spellable.{begins_with, param_fits, nth_check, sum_fits}
use Rattle.sh_printing.specs.Printing.{part_text, parts_text, operand_texts, redirects_text, last_words_text, continued, behind_opening, part_opens, parts_open, words_open, list_text}
use Rattle.sh_printing.specs.Printable.{part_fits, parts_fit, operand_fits, operand_checks, word_fits, words_fit, redirects_fit, is_expansion, behind_tilde, reads_tilde, plain_fits, is_length, changes_mark, fd_fits, literal_body, ends_line, is_copied_word}
use Rattle.sh_printing.proofs.BackBytes.{both, three, four}
use Rattle.sh_printing.proofs.BackNamed.{body_of}
use Rattle.sh_printing.proofs.BackForms.{form_text, infix_op, Good, Shown, sum_shown}
use Rattle.sh_printing.proofs.BackCommandSteps.{copied_closed}

-- ---- texts of so many bytes at most

pub two_parts : (n : ℕ) (a b : Text) → length (a ++ b) ≤ n → (length a ≤ n) × (length b ≤ n)
two_parts n a b h = (omega (arith, h, length-append a b), omega (arith, h, length-append a b))

pub three_parts : (n : ℕ) (a b c : Text) → length (a ++ b ++ c) ≤ n → (length a ≤ n) × (length b ≤ n) × (length c ≤ n)
three_parts n a b c h = let x = two_parts n (a ++ b) c h in let y = two_parts n a b x.0 in (y.0, y.1, x.1)

pub four_parts : (n : ℕ) (a b c d : Text) → length (a ++ b ++ c ++ d) ≤ n → (length a ≤ n) × (length b ≤ n) × (length c ≤ n) × (length d ≤ n)
four_parts n a b c d h = let x = two_parts n (a ++ b ++ c) d h in let y = three_parts n a b c x.0 in (y.0, y.1, y.2, x.1)

pub five_parts : (n : ℕ) (a b c d e : Text) → length (a ++ b ++ c ++ d ++ e) ≤ n → (length a ≤ n) × (length b ≤ n) × (length c ≤ n) × (length d ≤ n) × (length e ≤ n)
five_parts n a b c d e h = let x = two_parts n (a ++ b ++ c ++ d) e h in let y = four_parts n a b c d x.0 in (y.0, y.1, y.2, y.3, x.1)

pub six_parts : (n : ℕ) (a b c d e f : Text) → length (a ++ b ++ c ++ d ++ e ++ f) ≤ n → (length a ≤ n) × (length b ≤ n) × (length c ≤ n) × (length d ≤ n) × (length e ≤ n) × (length f ≤ n)
six_parts n a b c d e f h = let x = two_parts n (a ++ b ++ c ++ d ++ e) f h in let y = five_parts n a b c d e x.0 in (y.0, y.1, y.2, y.3, y.4, x.1)

pub behind_byte : (n b : ℕ) (t : Text) → length (b ∷ t) ≤ n → length t ≤ n
behind_byte n b t h = omega (arith, h)

pub led_parts : (n : ℕ) (behind : Bool) (t : Text) → length (led behind t) ≤ n → length t ≤ n
led_parts n true t h = behind_byte n 32 t h
led_parts n false t h = h

pub gap_parts : (n : ℕ) (owed : Text) → length (marks.gap owed) ≤ n → length owed ≤ n
gap_parts n [] h = omega (arith, h)
gap_parts n (b ∷ bs) h = behind_byte n 10 (b ∷ bs) h

pub ended_parts : (n : ℕ) (end : End) (owed : Text) → length (ended end owed) ≤ n → length owed ≤ n
ended_parts n piped owed h = gap_parts n owed (two_parts n (codes " |") (marks.gap owed) h).1
ended_parts n and_then owed h = gap_parts n owed (two_parts n (codes " &&") (marks.gap owed) h).1
ended_parts n or_else owed h = gap_parts n owed (two_parts n (codes " ||") (marks.gap owed) h).1
ended_parts n next [] h = omega (arith, h)
ended_parts n next (b ∷ bs) h = behind_byte n 10 (b ∷ bs) h
ended_parts n line owed h = behind_byte n 10 owed h

-- ---- operands of an expression

-- an operand with its depth
pub record Held (check : ℕ → ℕ → Bool) (text : ℕ → Text) (n j : ℕ) : Type 0 where
  pub depth : ℕ
  pub fits : check j depth ≡ true
  pub small : length (text j) ≤ n

below_by : (j m : ℕ) (p : Bool) → nat_lt j m ≡ p → (j < m) ⊎ (m ≤ j)
below_by j m true e = inl (grind (arith, nat_tests))
below_by j m false e = inr (grind (arith, nat_tests))

below : (j m : ℕ) → (j < m) ⊎ (m ≤ j)
below j m = below_by j m (nat_lt j m) refl

by_place : {A : Type 0} (j m : ℕ) → (j < m) ⊎ (m ≤ j) → (j < m → A) → (m ≤ j → A) → A
by_place j m (inl lt) f g = f lt
by_place j m (inr le) f g = g le

form_holds : (k : ℕ) (text : ℕ → Text) (check : ℕ → ℕ → Bool) (f : Form) (d n m : ℕ) → Good check d n m f → length (form_text text f) ≤ k → (j : ℕ) → n ≤ j → j < m → Held check text k j
form_holds k text check (literal b) d n m g h j lo hi = absurd (omega (arith, g.1))
form_holds k text check (expanded b) d n m g h j lo hi =
    let is : b ≡ j = omega (arith, g.0, g.2) in
    record { depth = d; fits = subst (λ (z : ℕ). check z d ≡ true) is g.1; small = subst (λ (z : ℕ). length (text z) ≤ k) is h }
form_holds k text check (variable name) d n m g h j lo hi = absurd (omega (arith, g.1))
form_holds k text check (member name f) d n m g h j lo hi = absurd g
form_holds k text check (group f) d n m g h j lo hi = form_holds k text check f (suc d) n m g.1 (two_parts k (form_text text f) (41 ∷ []) (behind_byte k 40 (form_text text f ++ 41 ∷ []) h)).0 j lo hi
form_holds k text check (prefixed o f) d n m g h j lo hi = form_holds k text check f d n m g (behind_byte k 32 (form_text text f) (two_parts k (unary_text o) (32 ∷ form_text text f) h).1) j lo hi
form_holds k text check (stepped o f) d n m g h j lo hi = absurd g
form_holds k text check (between i f p) d n m g h j lo hi =
    let x = three_parts k (form_text text f) (32 ∷ infix_op i) (32 ∷ form_text text p) h in
    by_place j g.1 (below j g.1) (λ lt. form_holds k text check f d n g.1 g.2 x.0 j lo lt) (λ le. form_holds k text check p d g.1 m g.3 (behind_byte k 32 (form_text text p) x.2) j le hi)
form_holds k text check (chosen f p r) d n m g h j lo hi =
    let x = three_parts k (form_text text f ++ 32 ∷ codes "?" ++ 32 ∷ form_text text p) (32 ∷ codes ":") (32 ∷ form_text text r) h in
    let y = three_parts k (form_text text f) (32 ∷ codes "?") (32 ∷ form_text text p) x.0 in
    by_place j g.0 (below j g.0) (λ lt. form_holds k text check f d n g.0 g.2 y.0 j lo lt)
    (λ le. by_place j g.1 (below j g.1) (λ lt. form_holds k text check p d g.0 g.1 g.3 (behind_byte k 32 (form_text text p) y.2) j le lt) (λ ge. form_holds k text check r d g.1 m g.4 (behind_byte k 32 (form_text text r) x.2) j ge hi))
form_holds k text check (assigned f o p) d n m g h j lo hi =
    let x = three_parts k (form_text text f) (32 ∷ assigned_text o) (32 ∷ form_text text p) h in
    by_place j g.2 (below j g.2) (λ lt. form_holds k text check f d n g.2 g.3 x.0 j lo lt) (λ le. form_holds k text check p d g.2 m g.4 (behind_byte k 32 (form_text text p) x.2) j le hi)

pub sum_holds : (k : ℕ) (text : ℕ → Text) (checks : List (ℕ → Bool)) (d : ℕ) (e : Expr) → sum_fits checks d e ≡ true → length (expr_text text e) ≤ k → (j : ℕ) → j < length checks → Held (nth_check checks) text k j
sum_holds k text checks d e fits h j lt =
    let s : Shown (nth_check checks) e 0 d 0 (length checks) = sum_shown checks d e fits in
    form_holds k text (nth_check checks) s.form d 0 (length checks) s.good (subst (λ (z : Text). length z ≤ k) (s.text text) h) j (omega arith) lt

-- the operands by their numbers
abbrev pub Operands : ℕ → Bool → Text → shape.Words → Type 0
Operands k i opening ws = (j : ℕ) → j < length (operand_checks i ws) → Held (nth_check (operand_checks i ws)) (nth (operand_texts true opening ws)) k j

pub sum_operands : (k : ℕ) (i : Bool) (opening : Text) (ws : shape.Words) (d : ℕ) (e : Expr) → sum_fits (operand_checks i ws) d e ≡ true → length (codes "$((" ++ expr_text (nth (operand_texts true opening ws)) e ++ codes "))") ≤ k → Operands k i opening ws
sum_operands k i opening ws d e fits h = sum_holds k (nth (operand_texts true opening ws)) (operand_checks i ws) d e fits (three_parts k (codes "$((") (expr_text (nth (operand_texts true opening ws)) e) (codes "))") h).1

pub first_operand : (k : ℕ) (i : Bool) (opening : Text) (w : shape.Parts) (ws : shape.Words) → Operands k i opening (word w ws) → (d : ℕ) × (operand_fits i d w ≡ true) × (length (parts_text true in_double opening w) ≤ k)
first_operand k i opening w ws h = let x = h 0 (omega arith) in (x.depth, x.fits, x.small)

pub later_operands : (k : ℕ) (i : Bool) (opening : Text) (w : shape.Parts) (ws : shape.Words) → Operands k i opening (word w ws) → Operands k i (behind_opening (parts_open w) opening) ws
later_operands k i opening w ws h j lt = let x = h (suc j) (omega (arith, lt)) in record { depth = x.depth; fits = x.fits; small = x.small }

pub operand_parts : (i : Bool) (d : ℕ) (w : shape.Parts) → operand_fits i d w ≡ true → parts_fit i d in_double w ≡ true
operand_parts i d no_part e = absurd (false≢true e)
operand_parts i d (part p no_part) e = let x = three (is_expansion p) true (part_fits i d in_double no_part p) e in rw (x.2) refl
operand_parts i d (part p (part q qs)) e = absurd (false≢true (three (is_expansion p) false (part_fits i d in_double (part q qs) p) e).1)

-- ---- what stands behind the first `$(`

by_opening : (n : ℕ) (p q : Bool) (opening : Text) → (p || q) ≡ true → (p ≡ true → length opening ≤ n) → (q ≡ true → length (behind_opening p opening) ≤ n) → length opening ≤ n
by_opening n true q opening e f g = f refl
by_opening n false q opening e f g = g e

mutual
  part_holds : (n : ℕ) (i : Bool) (d : ℕ) (c : Context) (opening : Text) (behind : shape.Parts) (p : shape.Part) → part_fits i d c behind p ≡ true → part_opens p ≡ true → length (part_text true c opening (continued behind) p) ≤ n → length opening ≤ n
  part_holds n i d c opening behind (plain text) e o h = absurd (false≢true o)
  part_holds n i d c opening behind (exact text) e o h = absurd (false≢true o)
  part_holds n i d c opening behind (double ps) e o h =
      parts_hold n i d in_double opening ps (both (has_double c) (parts_fit i d in_double ps) e).1 o (two_parts n (parts_text true in_double opening ps) (34 ∷ []) (behind_byte n 34 (parts_text true in_double opening ps ++ 34 ∷ []) h)).0
  part_holds n i d c opening behind tilde e o h = absurd (false≢true o)
  part_holds n i d c opening behind (param p as_is) e o h = absurd (false≢true o)
  part_holds n i d c opening behind (param p length_of) e o h = absurd (false≢true o)
  part_holds n i d c opening behind (param p (fill t colon w)) e o h =
      parts_hold n i (suc d) (fill_context c) opening w (four (nat_lt d limit) (param_fits p) (not (is_length p t colon w)) (parts_fit i (suc d) (fill_context c) w) e).3 o
      (six_parts n (codes "${") (param_name p) (colon_text colon) (test_text t) (parts_text true (fill_context c) opening w) (125 ∷ []) h).4
  part_holds n i d c opening behind (param p (trim suffix longest w)) e o h =
      parts_hold n i (suc d) (trim_context c) opening w (four (nat_lt d limit) (param_fits p) (not (changes_mark p suffix longest w)) (parts_fit i (suc d) (trim_context c) w) e).3 o
      (five_parts n (codes "${") (param_name p) (trim_mark suffix longest) (parts_text true (trim_context c) opening w) (125 ∷ []) h).3
  part_holds n i d c opening behind (listing s) e o h = (four_parts n (codes "$(") opening (list_text true s) (41 ∷ []) h).1
  part_holds n i d c opening behind (sum x ws) e o h = operands_hold n i opening ws o (sum_operands n i opening ws (suc d) x (both (nat_lt d limit) (sum_fits (operand_checks i ws) (suc d) x) e).1 h)

  parts_hold : (n : ℕ) (i : Bool) (d : ℕ) (c : Context) (opening : Text) (ps : shape.Parts) → parts_fit i d c ps ≡ true → parts_open ps ≡ true → length (parts_text true c opening ps) ≤ n → length opening ≤ n
  parts_hold n i d c opening no_part e o h = absurd (false≢true o)
  parts_hold n i d c opening (part p ps) e o h =
      let x = both (part_fits i d c ps p) (parts_fit i d c ps) e in
      let y = two_parts n (part_text true c opening (continued ps) p) (parts_text true c (behind_opening (part_opens p) opening) ps) h in
      by_opening n (part_opens p) (parts_open ps) opening o (λ a. part_holds n i d c opening ps p x.0 a y.0) (λ a. parts_hold n i d c (behind_opening (part_opens p) opening) ps x.1 a y.1)

  operands_hold : (n : ℕ) (i : Bool) (opening : Text) (ws : shape.Words) → words_open ws ≡ true → Operands n i opening ws → length opening ≤ n
  operands_hold n i opening no_word o h = absurd (false≢true o)
  operands_hold n i opening (word w ws) o h =
      let x = first_operand n i opening w ws h in
      by_opening n (parts_open w) (words_open ws) opening o (λ a. parts_hold n i x.0 in_double opening w (operand_parts i x.0 w x.1) a x.2) (λ a. operands_hold n i (behind_opening (parts_open w) opening) ws a (later_operands n i opening w ws h))

word_holds : (n : ℕ) (i : Bool) (d : ℕ) (spaced : Bool) (opening : Text) (w : shape.Parts) → word_fits i d spaced w ≡ true → parts_open w ≡ true → length (parts_text true in_word opening w) ≤ n → length opening ≤ n
word_holds n i d spaced opening no_part e o h = absurd (false≢true o)
word_holds n i d spaced opening (part tilde ps) e o h = parts_hold n i d in_word opening ps (both (behind_tilde ps) (parts_fit i d in_word ps) e).1 o (behind_byte n 126 (parts_text true in_word opening ps) h)
word_holds n i d spaced opening (part (plain text) ps) e o h =
    parts_hold n i d in_word opening ps (four (not (spaced && begins_with 35 text)) (not (reads_tilde text ps)) (plain_fits in_word ps text) (parts_fit i d in_word ps) e).3 o (two_parts n text (parts_text true in_word opening ps) h).1
word_holds n i d spaced opening (part (exact text) ps) e o h = parts_hold n i d in_word opening (part (exact text) ps) e o h
word_holds n i d spaced opening (part (double qs) ps) e o h = parts_hold n i d in_word opening (part (double qs) ps) e o h
word_holds n i d spaced opening (part (param p a) ps) e o h = parts_hold n i d in_word opening (part (param p a) ps) e o h
word_holds n i d spaced opening (part (listing s) ps) e o h = parts_hold n i d in_word opening (part (listing s) ps) e o h
word_holds n i d spaced opening (part (sum x ws) ps) e o h = parts_hold n i d in_word opening (part (sum x ws) ps) e o h

-- ---- the bodies that are still to come

-- behind a word
by_word : (n : ℕ) (o : Bool) (owed : Text) → (o ≡ true → length owed ≤ n) → length (behind_word o owed) ≤ n → length owed ≤ n
by_word n true owed f h = f refl
by_word n false owed f h = h

word_owes : (n : ℕ) (i : Bool) (d : ℕ) (owed : Text) (w : shape.Parts) → word_fits i d true w ≡ true → length (parts_text true in_word (marks.gap owed) w) ≤ n → length (behind_word (parts_open w) owed) ≤ n → length owed ≤ n
word_owes n i d owed w e h g = by_word n (parts_open w) owed (λ o. gap_parts n owed (word_holds n i d true (marks.gap owed) w e o h)) g

copied_owes : (n : ℕ) (owed : Text) (w : shape.Parts) → is_copied_word w ≡ true → length (behind_word (parts_open w) owed) ≤ n → length owed ≤ n
copied_owes n owed w e g = by_word n (parts_open w) owed (λ o. absurd (false≢true (sym (copied_closed w e).0 ∙ o))) g

-- what is behind redirections holds what is owed then
abbrev pub Holds : ℕ → (Text → Text) → Type 0
Holds n last = (owed : Text) → length (last owed) ≤ n → length owed ≤ n

pub last_holds : (n : ℕ) (i : Bool) (d : ℕ) (end : End) (ws : shape.Words) → words_fit i d ws ≡ true → Holds n (last_words_text true end ws)
last_holds n i d end no_word e owed h = ended_parts n end owed h
last_holds n i d end (word w ws) e owed h =
    let x = both (word_fits i d true w) (words_fit i d ws) e in
    let y = two_parts n (32 ∷ parts_text true in_word (marks.gap owed) w) (last_words_text true end ws (behind_word (parts_open w) owed)) h in
    word_owes n i d owed w x.0 (behind_byte n 32 (parts_text true in_word (marks.gap owed) w) y.0) (last_holds n i d end ws x.1 (behind_word (parts_open w) owed) y.1)

-- the parts of a redirection's text
pub redirect_parts : (n : ℕ) (behind : Bool) (fd a rest : Text) → length (led behind (fd ++ a) ++ rest) ≤ n → (length a ≤ n) × (length rest ≤ n)
redirect_parts n behind fd a rest h = let x = two_parts n (led behind (fd ++ a)) rest h in ((two_parts n fd a (led_parts n behind (fd ++ a) x.0)).1, x.1)

pub redirects_hold : (n : ℕ) (i : Bool) (d : ℕ) (behind : Bool) (last : Text → Text) (rs : shape.Redirects) → Holds n last → redirects_fit i d rs ≡ true → (owed : Text) → length (redirects_text true behind last owed rs) ≤ n → length owed ≤ n
redirects_hold n i d behind last no_redirect l e owed h = l owed h
redirects_hold n i d behind last (redirect fd shape.read w rs) l e owed h =
    let x = three (fd_fits fd) (word_fits i d true w) (redirects_fit i d rs) e in
    let y = redirect_parts n behind (fd_text fd) (codes "<" ++ parts_text true in_word (marks.gap owed) w) _ h in
    word_owes n i d owed w x.1 (two_parts n (codes "<") (parts_text true in_word (marks.gap owed) w) y.0).1 (redirects_hold n i d true last rs l x.2 (behind_word (parts_open w) owed) y.1)
redirects_hold n i d behind last (redirect fd shape.write w rs) l e owed h =
    let x = three (fd_fits fd) (word_fits i d true w) (redirects_fit i d rs) e in
    let y = redirect_parts n behind (fd_text fd) (codes ">" ++ parts_text true in_word (marks.gap owed) w) _ h in
    word_owes n i d owed w x.1 (two_parts n (codes ">") (parts_text true in_word (marks.gap owed) w) y.0).1 (redirects_hold n i d true last rs l x.2 (behind_word (parts_open w) owed) y.1)
redirects_hold n i d behind last (redirect fd shape.append w rs) l e owed h =
    let x = three (fd_fits fd) (word_fits i d true w) (redirects_fit i d rs) e in
    let y = redirect_parts n behind (fd_text fd) (codes ">>" ++ parts_text true in_word (marks.gap owed) w) _ h in
    word_owes n i d owed w x.1 (two_parts n (codes ">>") (parts_text true in_word (marks.gap owed) w) y.0).1 (redirects_hold n i d true last rs l x.2 (behind_word (parts_open w) owed) y.1)
redirects_hold n i d behind last (redirect fd shape.here_literal w rs) l e owed h =
    let x = three (fd_fits fd) (literal_body i w) (redirects_fit i d rs) e in
    let y = redirect_parts n behind (fd_text fd) _ _ h in
    (two_parts n owed (whole_body true (body_of w)) (redirects_hold n i d true last rs l x.2 (owed ++ whole_body true (body_of w)) y.1)).0
redirects_hold n i d behind last (redirect fd shape.here_expanded w rs) l e owed h =
    let x = three (fd_fits fd) (ends_line w && parts_fit true d Rattle.sh_grammar.specs.Bytes.in_body w) (redirects_fit i d rs) e in
    let y = redirect_parts n behind (fd_text fd) _ _ h in
    (two_parts n owed (whole_body true (body_of w)) (redirects_hold n i d true last rs l x.2 (owed ++ whole_body true (body_of w)) y.1)).0
redirects_hold n i d behind last (redirect fd shape.copy_in w rs) l e owed h =
    let x = three (fd_fits fd) (is_copied_word w) (redirects_fit i d rs) e in
    let y = redirect_parts n behind (fd_text fd) _ _ h in
    copied_owes n owed w x.1 (redirects_hold n i d true last rs l x.2 (behind_word (parts_open w) owed) y.1)
redirects_hold n i d behind last (redirect fd shape.copy_out w rs) l e owed h =
    let x = three (fd_fits fd) (is_copied_word w) (redirects_fit i d rs) e in
    let y = redirect_parts n behind (fd_text fd) _ _ h in
    copied_owes n owed w x.1 (redirects_hold n i d true last rs l x.2 (behind_word (parts_open w) owed) y.1)

-- what stands behind the redirections, with what is owed then
pub redirects_end : (n : ℕ) (behind : Bool) (last : Text → Text) (rs : shape.Redirects) (owed : Text) → length (redirects_text true behind last owed rs) ≤ n → (x : Text) × (length (last x) ≤ n)
redirects_end n behind last no_redirect owed h = (owed, h)
redirects_end n behind last (redirect fd op w rs) owed h = redirects_end n true last rs _ (redirect_parts n behind (fd_text fd) _ _ h).1
