-- The first word of a command: no assignment, no reserved word, no function's name.
use Rattle.std.proofs.Common.{◌≡◌, ℕ, Bool, true, false, cond, [], ◌∷◌, ◌++◌, None, refl, sym, ap, subst, ◌∙◌}
use Rattle.std.specs.Prelude.{◌&&◌, not, ◌==◌}
use Rattle.std.proofs.lemmas.Bool.{true≢false, false≢true}
use Rattle.span_text.specs.Names.{is_digit, continues_name, begins_name}
use Rattle.span_text.proofs.Bytes.{apart, first_is_name}
use Rattle.sh_grammar.specs.Shape as shape
use Rattle.sh_grammar.specs.Shape.{plain, exact, double, tilde, param, subst as listing, arith, no_part, part}
use Rattle.sh_grammar.specs.Bytes.{Text, in_word, clear, gap, starts, is_join, comment_end, is_literal, is_plain, is_meta, is_active, literal_run, run_from, with_byte, unit_starts, begins_unit, name_run, digit_run}
use Rattle.sh_grammar.specs.Tokens.{Op, Open, Word, Io, Other, code, front, token, is_token, word_at, is_angle, behind, name_at, assign_at, assign_next, opens}
use Rattle.sh_grammar.specs.Steps.{is_empty}
use Rattle.sh_printing.specs.Spellable.{is_literal_text, begins_assign, equals_behind, begins_with}
use Rattle.sh_printing.specs.Printing.{behind_opening, part_opens}
use Rattle.sh_printing.specs.Printable.{part_fits, parts_fit, plain_fits, word_fits, reads_tilde, is_plain_part, first_is, is_assignment, is_reserved_word}
use Rattle.sh_printing.proofs.BackBytes.{both, joins, clear_is, run_stops, goes_at, literal_joins, literal_back}
use Rattle.sh_printing.proofs.BackTokens.{Outside, front_word, metas, outside_stops}
use Rattle.sh_printing.proofs.BackFronts.{Marked, part_marked, literal_unit}
use Rattle.sh_printing.proofs.BackBehind.{plain_facts, parts_on, parts_split, word_closes, plain_stops, part_unit}
use Rattle.sh_printing.proofs.BackWordFronts.{marked_front, word_begins}
use Rattle.sh_printing.proofs.BackKeys.{NoKeys, by_none, by_part, by_text, by_mark, no_tilde, key_bytes}
use Rattle.sh_printing.proofs.BackSimple.{SimpleFront, word_simple}

-- ---- what stands behind a name in a word

-- no `=`
equals_literal : (bs : Text) → is_literal in_word 61 bs ≡ true
unfolding is_literal is_plain is_active is_meta
equals_literal bs = refl

no_equals : (t : Text) → goes_at (is_literal in_word) t ≡ false → starts (λ b. b == 61) t ≡ false
no_equals [] e = refl
no_equals (b ∷ bs) e = apart (λ z. not (is_literal in_word z bs)) b 61 (rw e refl) (rw (equals_literal bs) refl)

-- no parenthesis
token_at : (t u : Text) → gap t ≡ u → is_token Open t ≡ (code (front u).0 == code Open)
unfolding is_token token
token_at t u e = rw e refl

comment_at : (p : Bool) (b : ℕ) (bs : Text) → (b == 10) ≡ p → (code (front (comment_end bs)).0 == code Open) ≡ false → (code (front (comment_end (b ∷ bs))).0 == code Open) ≡ false
unfolding comment_end front code
comment_at true b bs e h = rw (e, e) refl
comment_at false b bs e h = rw e h

comment_open : (t : Text) → (code (front (comment_end t)).0 == code Open) ≡ false
unfolding comment_end front code
comment_open [] = refl
comment_open (b ∷ bs) = comment_at (b == 10) b bs refl (comment_open bs)

word_open_in : (p q : Bool) (t : Text) (r : Text × Text) → (code (cond {A = Op × Text} p (cond {A = Op × Text} q (Io, r.1) (Other, t)) (Word, t)).0 == code Open) ≡ false
unfolding code
word_open_in false q t r = refl
word_open_in true false t r = refl
word_open_in true true t r = refl

word_open_at : (p q : Bool) (t : Text) (r : Text × Text) → (code (cond {A = Op × Text} p (cond {A = Op × Text} (starts is_angle r.1) (cond {A = Op × Text} q (Io, r.1) (Other, t)) (Word, t)) (Word, t)).0 == code Open) ≡ false
unfolding code
word_open_at false q t r = refl
word_open_at true q t r = word_open_in (starts is_angle r.1) q t r

word_open : (t : Text) → (code (word_at t).0 == code Open) ≡ false
word_open t = word_open_at (starts is_digit t) (Rattle.std.specs.Prelude.length (digit_run t).0 == 1) t (digit_run t)

comment_gap : (b : ℕ) (t : Text) → (b == 35) ≡ true → begins_unit in_word b ≡ true → is_join b t ≡ false → gap (b ∷ t) ≡ comment_end t
unfolding gap
comment_gap b t e u j = let p = begins_unit in_word in rw (apart p b 32 u metas.blank, apart p b 9 u metas.tab, j, e) refl

solid_gap : (b : ℕ) (t : Text) → (b == 35) ≡ false → begins_unit in_word b ≡ true → is_join b t ≡ false → gap (b ∷ t) ≡ b ∷ t
unfolding gap
solid_gap b t e u j = let p = begins_unit in_word in rw (apart p b 32 u metas.blank, apart p b 9 u metas.tab, j, e) refl

literal_gap_at : (p : Bool) (b : ℕ) (t : Text) → (b == 35) ≡ p → begins_unit in_word b ≡ true → is_join b t ≡ false → is_token Open (b ∷ t) ≡ false
literal_gap_at true b t e u j = token_at (b ∷ t) (comment_end t) (comment_gap b t e u j) ∙ comment_open t
literal_gap_at false b t e u j = token_at (b ∷ t) (b ∷ t) (solid_gap b t e u j) ∙ ap (λ (x : Op × Text). code x.0 == code Open) (front_word b t u) ∙ word_open (b ∷ t)

-- a byte of a word is no parenthesis, nor what a comment is behind
unit_open : (b : ℕ) (t : Text) → begins_unit in_word b ≡ true → is_join b t ≡ false → is_token Open (b ∷ t) ≡ false
unit_open b t u j = literal_gap_at (b == 35) b t refl u j

marked_open : (t : Text) → Marked in_word t → is_token Open t ≡ false
unfolding unit_starts
marked_open [] m = absurd (false≢true m.unit)
marked_open (b ∷ bs) m = unit_open b bs m.unit m.free

-- ---- behind a name

-- the rest behind the bytes of a name that a text begins with
abbrev behind_name : Text → Text
behind_name t = (run_from (λ b bs. continues_name b) false t).1

pub record Rest (text t : Text) : Type 0 where
  pub no_equals : equals_behind text ≡ false → starts (λ b. b == 61) (clear (behind_name (text ++ t))) ≡ false
  pub no_open : is_token Open (behind_name (text ++ t)) ≡ false

equals_step : (p : Bool) (b : ℕ) (bs : Text) → continues_name b ≡ p → equals_behind (b ∷ bs) ≡ Rattle.std.specs.Prelude.if◌then◌else◌ p (equals_behind bs) (b == 61)
equals_step p b bs e = rw e refl

names_stop : (t : Text) → starts continues_name t ≡ false → goes_at (λ b bs. continues_name b) t ≡ false
names_stop [] e = refl
names_stop (b ∷ bs) e = e

run_over : (b : ℕ) (bs : Text) → is_join b bs ≡ false → continues_name b ≡ true → run_from (λ b bs. continues_name b) false (b ∷ bs) ≡ with_byte b (run_from (λ b bs. continues_name b) false bs)
run_over b bs j e = rw (j, e) refl

rest_on : (p : Bool) (b : ℕ) (bs t : Text) → continues_name b ≡ p → is_join b (bs ++ t) ≡ false → begins_unit in_word b ≡ true → Rest bs t → Rest (b ∷ bs) t
rest_on true b bs t e j u r =
    let q : behind_name (b ∷ (bs ++ t)) ≡ behind_name (bs ++ t) = ap (λ (z : Text × Text). z.1) (run_over b (bs ++ t) j e) in
    record { no_equals = λ i. (ap (λ (z : Text). starts (λ b. b == 61) (clear z)) q ∙ r.no_equals (sym (equals_step true b bs e) ∙ i)); no_open = ap (is_token Open) q ∙ r.no_open }
rest_on false b bs t e j u r =
    let q : behind_name (b ∷ (bs ++ t)) ≡ b ∷ (bs ++ t) = ap (λ (z : Text × Text). z.1) (run_stops (λ b bs. continues_name b) (b ∷ (bs ++ t)) j e) in
    record { no_equals = λ i. (ap (λ (z : Text). starts (λ b. b == 61) (clear z)) q ∙ ap (starts (λ b. b == 61)) (clear_is (b ∷ (bs ++ t)) j) ∙ (sym (equals_step false b bs e) ∙ i)); no_open = ap (is_token Open) q ∙ unit_open b (bs ++ t) u j }

rest_of : (text t : Text) → is_literal_text in_word text ≡ true → joins t ≡ false → starts continues_name t ≡ false → starts (λ b. b == 61) t ≡ false → is_token Open t ≡ false → Rest text t
rest_of [] t e f n q o =
    let s : behind_name t ≡ t = ap (λ (z : Text × Text). z.1) (run_stops (λ b bs. continues_name b) t f (names_stop t n)) in
    record { no_equals = λ i. (ap (λ (z : Text). starts (λ b. b == 61) (clear z)) s ∙ ap (starts (λ b. b == 61)) (clear_is t f) ∙ q); no_open = ap (is_token Open) s ∙ o }
rest_of (b ∷ bs) t e f n q o =
    let x = both (not (is_join b bs) && is_literal in_word b bs) (is_literal_text in_word bs) e in
    rest_on (continues_name b) b bs t refl (literal_joins in_word b bs t e) (literal_unit in_word b bs (both (not (is_join b bs)) (is_literal in_word b bs) x.0).1) (rest_of bs t x.1 f n q o)

-- ---- the first word

-- what is said of it: no assignment where it isn't one, no function's name
pub record FirstFront (t : Text) (assigns : Bool) : Type 0 where
  pub no_assign : assigns ≡ false → assign_next t ≡ false
  pub no_open : opens (name_at t) ≡ false

no_behind : (t : Text) → starts (λ b. b == 61) t ≡ false → behind 61 t ≡ None
no_behind [] e = refl
no_behind (b ∷ bs) e = rw e refl

-- it begins with no letter
no_letter_first : (t : Text) (a : Bool) → gap t ≡ t → starts begins_name t ≡ false → FirstFront t a
unfolding assign_next assign_at name_at
no_letter_first t a s n = record { no_assign = λ e. rw (s, n) refl; no_open = rw n refl }

letter_first : (b : ℕ) (bs t : Text) → gap (b ∷ (bs ++ t)) ≡ b ∷ (bs ++ t) → begins_name b ≡ true → Rest (b ∷ bs) t → FirstFront (b ∷ (bs ++ t)) (begins_assign (b ∷ bs))
unfolding assign_next assign_at name_at name_run
letter_first b bs t s n r =
    record {
      no_assign = λ e. (
          let q : equals_behind (b ∷ bs) ≡ false = equals_step true b bs (first_is_name b n) ∙ sym (ap (λ (z : Bool). z && equals_behind bs) n) ∙ e in
          rw (s, n, no_behind (clear (behind_name (b ∷ (bs ++ t)))) (r.no_equals q)) refl);
      no_open = rw n r.no_open;
    }

plain_first_at : (p : Bool) (b : ℕ) (bs t : Text) → begins_name b ≡ p → gap (b ∷ (bs ++ t)) ≡ b ∷ (bs ++ t) → Rest (b ∷ bs) t → FirstFront (b ∷ (bs ++ t)) (begins_assign (b ∷ bs))
plain_first_at true b bs t n s r = letter_first b bs t s n r
plain_first_at false b bs t n s r = no_letter_first (b ∷ (bs ++ t)) (begins_assign (b ∷ bs)) s n

marked_letter_at : (p : Bool) (b : ℕ) → begins_name b ≡ p → continues_name b ≡ false → p ≡ false
marked_letter_at true b e n = absurd (true≢false (sym (first_is_name b e) ∙ n))
marked_letter_at false b e n = refl

marked_letter : (t : Text) → starts continues_name t ≡ false → starts begins_name t ≡ false
marked_letter [] e = refl
marked_letter (b ∷ bs) e = marked_letter_at (begins_name b) b refl e

marked_first : (t : Text) (a : Bool) → Marked in_word t → FirstFront t a
marked_first t a m = no_letter_first t a (marked_front t m).solid (marked_letter t m.no_name)

-- what stands behind the first part, where that is plain
pub record Behind (t : Text) : Type 0 where
  pub free : joins t ≡ false
  pub no_name : starts continues_name t ≡ false
  pub no_equals : starts (λ b. b == 61) t ≡ false
  pub no_open : is_token Open t ≡ false

marked_behind : (t : Text) → Marked in_word t → Behind t
marked_behind t m = record { free = m.free; no_name = m.no_name; no_equals = no_equals t m.no_literal; no_open = marked_open t m }

parts_behind : (i : Bool) (d : ℕ) (opening : Text) (ps : shape.Parts) (t : Text) → parts_fit i d in_word ps ≡ true → first_is is_plain_part ps ≡ false → Outside t → is_token Open t ≡ false → Behind (parts_on in_word opening ps t)
parts_behind i d opening no_part t e n o p = record { free = o.free; no_name = o.no_name; no_equals = no_equals t o.no_literal; no_open = p }
parts_behind i d opening (part q ps) t e n o p =
    subst Behind (sym (parts_split in_word opening q ps t)) (marked_behind _ (part_marked i d in_word opening ps q (parts_on in_word (behind_opening (part_opens q) opening) ps t) n (both (part_fits i d in_word ps q) (parts_fit i d in_word ps) e).0))

plain_first : (text t : Text) → is_empty text ≡ false → is_literal_text in_word text ≡ true → gap (text ++ t) ≡ text ++ t → Behind t → FirstFront (text ++ t) (begins_assign text)
plain_first [] t s e g b = absurd (true≢false s)
plain_first (b ∷ bs) t s e g x = plain_first_at (begins_name b) b bs t refl g (rest_of (b ∷ bs) t e x.free x.no_name x.no_equals x.no_open)

part_first : (i : Bool) (d : ℕ) (opening : Text) (p : shape.Part) (ps : shape.Parts) (t : Text) (a : Bool) → is_plain_part p ≡ false → part_fits i d in_word ps p ≡ true → FirstFront (parts_on in_word opening (part p ps) t) a
part_first i d opening p ps t a n e = subst (λ (z : Text). FirstFront z a) (sym (parts_split in_word opening p ps t)) (marked_first _ a (part_marked i d in_word opening ps p (parts_on in_word (behind_opening (part_opens p) opening) ps t) n e))

tilde_no_letter : (t : Text) → starts begins_name (126 ∷ t) ≡ false
unfolding begins_name
tilde_no_letter t = refl

tilde_plain : is_plain in_word 126 ≡ true
unfolding is_plain is_active is_meta
tilde_plain = refl

pub first_front : (i : Bool) (d : ℕ) (opening : Text) (w : shape.Parts) (t : Text) → word_fits i d true w ≡ true → Outside t → is_token Open t ≡ false → FirstFront (parts_on in_word opening w t) (is_assignment w)
first_front i d opening no_part t e o p = absurd cc
first_front i d opening (part (plain text) ps) t e o p =
    let x = both (not (begins_with 35 text) && not (reads_tilde text ps) && plain_fits in_word ps text) (parts_fit i d in_word ps) e in
    let y = both (not (begins_with 35 text) && not (reads_tilde text ps)) (plain_fits in_word ps text) x.0 in
    let f = plain_facts in_word ps text y.1 in
    let s = parts_split in_word opening (plain text) ps t in
    subst (λ (z : Text). FirstFront z (begins_assign text)) (sym s)
    (plain_first text (parts_on in_word opening ps t) f.some f.literal (subst (λ (z : Text). gap z ≡ z) s (word_begins i d opening (part (plain text) ps) t e o).solid) (parts_behind i d opening ps t x.1 f.alone o p))
first_front i d opening (part tilde ps) t e o p = no_letter_first (parts_on in_word opening (part tilde ps) t) (is_assignment (part tilde ps)) (word_begins i d opening (part tilde ps) t e o).solid (tilde_no_letter (parts_on in_word opening ps t))
first_front i d opening (part (exact text) ps) t e o p = part_first i d opening (exact text) ps t _ refl (both (part_fits i d in_word ps (exact text)) (parts_fit i d in_word ps) e).0
first_front i d opening (part (double qs) ps) t e o p = part_first i d opening (double qs) ps t _ refl (both (part_fits i d in_word ps (double qs)) (parts_fit i d in_word ps) e).0
first_front i d opening (part (param q a) ps) t e o p = part_first i d opening (param q a) ps t _ refl (both (part_fits i d in_word ps (param q a)) (parts_fit i d in_word ps) e).0
first_front i d opening (part (listing s) ps) t e o p = part_first i d opening (listing s) ps t _ refl (both (part_fits i d in_word ps (listing s)) (parts_fit i d in_word ps) e).0
first_front i d opening (part (arith s ws) ps) t e o p = part_first i d opening (arith s ws) ps t _ refl (both (part_fits i d in_word ps (arith s ws)) (parts_fit i d in_word ps) e).0

-- ---- no reserved word

part_keys : (i : Bool) (d : ℕ) (opening : Text) (p : shape.Part) (ps : shape.Parts) (t : Text) → is_plain_part p ≡ false → part_fits i d in_word ps p ≡ true → NoKeys (parts_on in_word opening (part p ps) t)
part_keys i d opening p ps t n e =
    let m = part_marked i d in_word opening ps p (parts_on in_word (behind_opening (part_opens p) opening) ps t) n e in
    subst NoKeys (sym (parts_split in_word opening p ps t)) (by_none _ (marked_front _ m).solid m.free m.no_literal)

plain_keys : (i : Bool) (d : ℕ) (opening : Text) (text : Text) (ps : shape.Parts) (t : Text) → word_fits i d true (part (plain text) ps) ≡ true → is_reserved_word (part (plain text) ps) ≡ false → Outside t → NoKeys (parts_on in_word opening (part (plain text) ps) t)
plain_keys i d opening text no_part t e r o =
    let x = both (not (begins_with 35 text) && not (reads_tilde text no_part) && plain_fits in_word no_part text) true e in
    let f = plain_facts in_word no_part text (both (not (begins_with 35 text) && not (reads_tilde text no_part)) (plain_fits in_word no_part text) x.0).1 in
    let s = parts_split in_word opening (plain text) no_part t in
    let g = (word_begins i d opening (part (plain text) no_part) t e o).solid in
    by_text (parts_on in_word opening (part (plain text) no_part) t) text t (ap (literal_run in_word) (g ∙ s) ∙ literal_back in_word text t f.literal (outside_stops text t o)) r
plain_keys i d opening text (part q qs) t e r o =
    let x = both (not (begins_with 35 text) && not (reads_tilde text (part q qs)) && plain_fits in_word (part q qs) text) (parts_fit i d in_word (part q qs)) e in
    let f = both (not (begins_with 35 text) && not (reads_tilde text (part q qs))) (plain_fits in_word (part q qs) text) x.0 in
    let s = parts_split in_word opening (plain text) (part q qs) t in
    let g = (word_begins i d opening (part (plain text) (part q qs)) t e o).solid in
    let z = plain_stops i d in_word opening text (part q qs) t f.1 x.1 (word_closes t o) in
    by_part (parts_on in_word opening (part (plain text) (part q qs)) t) text (parts_on in_word opening (part q qs) t) (ap (literal_run in_word) (g ∙ s) ∙ literal_back in_word text (parts_on in_word opening (part q qs) t) (plain_facts in_word (part q qs) text f.1).literal z)
    (subst (λ (y : Text). unit_starts in_word y ≡ true) (sym (parts_split in_word opening q qs t)) (part_unit i d in_word opening qs q (parts_on in_word (behind_opening (part_opens q) opening) qs t) (both (part_fits i d in_word qs q) (parts_fit i d in_word qs) x.1).0))

pub first_keys : (i : Bool) (d : ℕ) (opening : Text) (w : shape.Parts) (t : Text) → word_fits i d true w ≡ true → is_reserved_word w ≡ false → Outside t → NoKeys (parts_on in_word opening w t)
first_keys i d opening no_part t e r o = absurd cc
first_keys i d opening (part (plain text) ps) t e r o = plain_keys i d opening text ps t e r o
first_keys i d opening (part tilde ps) t e r o = by_mark no_tilde _ [] 126 _ key_bytes.1 (word_begins i d opening (part tilde ps) t e o).solid refl tilde_plain refl
first_keys i d opening (part (exact text) ps) t e r o = part_keys i d opening (exact text) ps t refl (both (part_fits i d in_word ps (exact text)) (parts_fit i d in_word ps) e).0
first_keys i d opening (part (double qs) ps) t e r o = part_keys i d opening (double qs) ps t refl (both (part_fits i d in_word ps (double qs)) (parts_fit i d in_word ps) e).0
first_keys i d opening (part (param q a) ps) t e r o = part_keys i d opening (param q a) ps t refl (both (part_fits i d in_word ps (param q a)) (parts_fit i d in_word ps) e).0
first_keys i d opening (part (listing s) ps) t e r o = part_keys i d opening (listing s) ps t refl (both (part_fits i d in_word ps (listing s)) (parts_fit i d in_word ps) e).0
first_keys i d opening (part (arith s ws) ps) t e r o = part_keys i d opening (arith s ws) ps t refl (both (part_fits i d in_word ps (arith s ws)) (parts_fit i d in_word ps) e).0

-- a command's name, where no assignment and no redirection stands before it
pub first_simple : (i : Bool) (d : ℕ) (opening : Text) (w : shape.Parts) (t : Text) → word_fits i d true w ≡ true → is_reserved_word w ≡ false → Outside t → is_token Open t ≡ false → SimpleFront (parts_on in_word opening w t)
first_simple i d opening w t e r o p = word_simple (parts_on in_word opening w t) (word_begins i d opening w t e o) (first_keys i d opening w t e r o) (first_front i d opening w t e o p).no_open
