-- The first token of a printed word.
use Rattle.std.proofs.Common.{◌≡◌, ℕ, Bool, true, false, [], ◌∷◌, ◌++◌, refl, sym, subst, ◌∙◌}
use Rattle.std.specs.Prelude.{◌&&◌, not, ◌==◌}
use Rattle.span_text.specs.Names.{is_digit}
use Rattle.span_text.proofs.Bytes.{apart}
use Rattle.sh_grammar.specs.Shape as shape
use Rattle.sh_grammar.specs.Shape.{plain, exact, double, tilde, param, subst as listing, arith, no_part, part}
use Rattle.sh_grammar.specs.Bytes.{Text, in_word, is_join, gap, starts, is_meta, is_active, is_plain, is_literal, unit_starts, begins_unit, digit_run, run_from}
use Rattle.sh_grammar.specs.Tokens.{Word, is_angle, word_at, front, tilde_next}
use Rattle.sh_grammar.specs.Steps.{is_empty}
use Rattle.sh_printing.specs.Spellable.{is_literal_text, begins_with}
use Rattle.sh_printing.specs.Printing.{behind_opening, part_opens}
use Rattle.sh_printing.specs.Printable.{part_fits, parts_fit, plain_fits, word_fits, reads_tilde, has_part, plain_begins, is_plain_part, first_is}
use Rattle.sh_printing.proofs.BackBytes.{both, isnt, joins, gap_is, literal_joins}
use Rattle.sh_printing.proofs.BackTokens.{Outside, front_word, word_front, metas}
use Rattle.sh_printing.proofs.BackFronts.{Marked, part_marked, literal_unit}
use Rattle.sh_printing.proofs.BackBehind.{plain_facts, parts_on, parts_split, word_closes, plain_stops}
use Rattle.sh_printing.proofs.BackWords.{no_tilde, plain_tilde}

-- no gap stands before it, and it begins a word
pub record WordFront (t : Text) : Type 0 where
  pub solid : gap t ≡ t
  pub is_word : front t ≡ (Word, t)

-- ---- by the first byte

-- a byte that isn't a blank, in front of no join
pub solid_front : (b : ℕ) (bs : Text) → begins_unit in_word b ≡ true → is_join b bs ≡ false → (b == 35) ≡ false → gap (b ∷ bs) ≡ b ∷ bs
unfolding gap
solid_front b bs e f h =
    let p = begins_unit in_word in
    rw (apart p b 32 e metas.blank, apart p b 9 e metas.tab, f, h) refl

-- a part that isn't plain
pub marked_front : (t : Text) → Marked in_word t → WordFront t
unfolding unit_starts
marked_front [] m = absurd (Rattle.std.proofs.lemmas.Bool.false≢true m.unit)
marked_front (b ∷ bs) m = record { solid = solid_front b bs m.unit m.free m.no_hash; is_word = word_front b bs m.unit m.no_digit }

-- digits, and what isn't `<` or `>` behind them
literal_angles : (b : ℕ) (bs : Text) → is_literal in_word b bs ≡ true → is_angle b ≡ false
unfolding is_literal is_plain is_active is_meta
literal_angles b bs e = rw (apart (λ z. is_literal in_word z bs) b 60 e refl, apart (λ z. is_literal in_word z bs) b 62 e refl) refl

digit_rest_at : (p : Bool) (b : ℕ) (bs : Text) → is_digit b ≡ p → is_join b bs ≡ false → is_angle b ≡ false → starts is_angle (run_from (λ b bs. is_digit b) false bs).1 ≡ false → starts is_angle (run_from (λ b bs. is_digit b) false (b ∷ bs)).1 ≡ false
digit_rest_at true b bs e j a h = rw (j, e) h
digit_rest_at false b bs e j a h = rw (j, e) a

digit_stop : (t : Text) → joins t ≡ false → starts is_digit t ≡ false → starts is_angle t ≡ false → starts is_angle (run_from (λ b bs. is_digit b) false t).1 ≡ false
digit_stop [] j e a = refl
digit_stop (b ∷ bs) j e a = rw (j, e) a

digit_rest : (text t : Text) → is_literal_text in_word text ≡ true → joins t ≡ false → starts is_digit t ≡ false → starts is_angle t ≡ false → starts is_angle (run_from (λ b bs. is_digit b) false (text ++ t)).1 ≡ false
digit_rest [] t e j n a = digit_stop t j n a
digit_rest (b ∷ bs) t e j n a =
    let x = both (not (is_join b bs) && is_literal in_word b bs) (is_literal_text in_word bs) e in
    let y = both (not (is_join b bs)) (is_literal in_word b bs) x.0 in
    digit_rest_at (is_digit b) b (bs ++ t) refl (literal_joins in_word b bs t e) (literal_angles b bs y.1) (digit_rest bs t x.1 j n a)

word_at_by : (p : Bool) (t : Text) → starts is_digit t ≡ p → starts is_angle (digit_run t).1 ≡ false → word_at t ≡ (Word, t)
word_at_by true t e a = rw (e, a) refl
word_at_by false t e a = rw e refl

word_at_is : (t : Text) → starts is_angle (digit_run t).1 ≡ false → word_at t ≡ (Word, t)
word_at_is t e = word_at_by (starts is_digit t) t refl e

-- bytes that stand for themselves
pub plain_front : (text t : Text) → is_empty text ≡ false → begins_with 35 text ≡ false → is_literal_text in_word text ≡ true → joins t ≡ false → starts is_digit t ≡ false → starts is_angle t ≡ false → WordFront (text ++ t)
unfolding digit_run
plain_front [] t s h e j n a = absurd (Rattle.std.proofs.lemmas.Bool.true≢false s)
plain_front (b ∷ bs) t s h e j n a =
    let x = both (not (is_join b bs) && is_literal in_word b bs) (is_literal_text in_word bs) e in
    let y = both (not (is_join b bs)) (is_literal in_word b bs) x.0 in
    let u = literal_unit in_word b bs y.1 in
    record { solid = solid_front b (bs ++ t) u (literal_joins in_word b bs t e) h; is_word = front_word b (bs ++ t) u ∙ word_at_is (b ∷ (bs ++ t)) (digit_rest (b ∷ bs) t e j n a) }

tilde_unit : begins_unit in_word 126 ≡ true
unfolding begins_unit is_plain is_active is_meta
tilde_unit = refl

tilde_front : (t : Text) → WordFront (126 ∷ t)
tilde_front t = record { solid = gap_is 126 t refl; is_word = word_front 126 t tilde_unit refl }

-- what stands behind the first part, where that is plain
behind_plain : (i : Bool) (d : ℕ) (opening : Text) (ps : shape.Parts) (t : Text) → parts_fit i d in_word ps ≡ true → first_is is_plain_part ps ≡ false → Outside t →
    (starts is_digit (parts_on in_word opening ps t) ≡ false) × (starts is_angle (parts_on in_word opening ps t) ≡ false)
behind_plain i d opening no_part t e n o = (o.no_digit, o.no_angle)
behind_plain i d opening (part p ps) t e n o =
    let m = part_marked i d in_word opening ps p (parts_on in_word (behind_opening (part_opens p) opening) ps t) n (both (part_fits i d in_word ps p) (parts_fit i d in_word ps) e).0 in
    let s = sym (parts_split in_word opening p ps t) in
    (subst (λ (z : Text). starts is_digit z ≡ false) s m.no_digit, subst (λ (z : Text). starts is_angle z ≡ false) s m.no_angle)

-- the first part isn't plain and no tilde
marked_word : (i : Bool) (d : ℕ) (opening : Text) (p : shape.Part) (ps : shape.Parts) (t : Text) → is_plain_part p ≡ false → part_fits i d in_word ps p ≡ true → WordFront (parts_on in_word opening (part p ps) t)
marked_word i d opening p ps t n e = subst WordFront (sym (parts_split in_word opening p ps t)) (marked_front _ (part_marked i d in_word opening ps p (parts_on in_word (behind_opening (part_opens p) opening) ps t) n e))

plain_word : (i : Bool) (d : ℕ) (opening : Text) (text : Text) (ps : shape.Parts) (t : Text) → begins_with 35 text ≡ false → plain_fits in_word ps text ≡ true → parts_fit i d in_word ps ≡ true → Outside t → WordFront (parts_on in_word opening (part (plain text) ps) t)
plain_word i d opening text ps t h f e o =
    let p = plain_facts in_word ps text f in
    let s = plain_stops i d in_word opening text ps t f e (word_closes t o) in
    let b = behind_plain i d opening ps t e p.alone o in
    subst WordFront (sym (parts_split in_word opening (plain text) ps t)) (plain_front text (parts_on in_word opening ps t) p.some h p.literal s.free b.0 b.1)

-- a word at its place
pub word_begins : (i : Bool) (d : ℕ) (opening : Text) (w : shape.Parts) (t : Text) → word_fits i d true w ≡ true → Outside t → WordFront (parts_on in_word opening w t)
word_begins i d opening no_part t e o = absurd cc
word_begins i d opening (part (plain text) ps) t e o =
    let x = both (not (begins_with 35 text) && not (reads_tilde text ps) && plain_fits in_word ps text) (parts_fit i d in_word ps) e in
    let y = both (not (begins_with 35 text) && not (reads_tilde text ps)) (plain_fits in_word ps text) x.0 in
    let z = both (not (begins_with 35 text)) (not (reads_tilde text ps)) y.0 in
    plain_word i d opening text ps t (isnt (begins_with 35 text) z.0) y.1 x.1 o
word_begins i d opening (part tilde ps) t e o = subst WordFront (sym (parts_split in_word opening tilde ps t)) (tilde_front (parts_on in_word opening ps t))
word_begins i d opening (part (exact text) ps) t e o = marked_word i d opening (exact text) ps t refl (both (part_fits i d in_word ps (exact text)) (parts_fit i d in_word ps) e).0
word_begins i d opening (part (double qs) ps) t e o = marked_word i d opening (double qs) ps t refl (both (part_fits i d in_word ps (double qs)) (parts_fit i d in_word ps) e).0
word_begins i d opening (part (param p a) ps) t e o = marked_word i d opening (param p a) ps t refl (both (part_fits i d in_word ps (param p a)) (parts_fit i d in_word ps) e).0
word_begins i d opening (part (listing s) ps) t e o = marked_word i d opening (listing s) ps t refl (both (part_fits i d in_word ps (listing s)) (parts_fit i d in_word ps) e).0
word_begins i d opening (part (arith s ws) ps) t e o = marked_word i d opening (arith s ws) ps t refl (both (part_fits i d in_word ps (arith s ws)) (parts_fit i d in_word ps) e).0

-- a pattern at its place
pub pattern_begins : (i : Bool) (d : ℕ) (opening : Text) (w : shape.Parts) (t : Text) → has_part w ≡ true → plain_begins 35 w ≡ false → parts_fit i d in_word w ≡ true → Outside t → WordFront (parts_on in_word opening w t)
pattern_begins i d opening no_part t n h e o = absurd cc
pattern_begins i d opening (part (plain text) ps) t n h e o = let x = both (plain_fits in_word ps text) (parts_fit i d in_word ps) e in plain_word i d opening text ps t h x.0 x.1 o
pattern_begins i d opening (part tilde ps) t n h e o = absurd cc
pattern_begins i d opening (part (exact text) ps) t n h e o = marked_word i d opening (exact text) ps t refl (both (part_fits i d in_word ps (exact text)) (parts_fit i d in_word ps) e).0
pattern_begins i d opening (part (double qs) ps) t n h e o = marked_word i d opening (double qs) ps t refl (both (part_fits i d in_word ps (double qs)) (parts_fit i d in_word ps) e).0
pattern_begins i d opening (part (param p a) ps) t n h e o = marked_word i d opening (param p a) ps t refl (both (part_fits i d in_word ps (param p a)) (parts_fit i d in_word ps) e).0
pattern_begins i d opening (part (listing s) ps) t n h e o = marked_word i d opening (listing s) ps t refl (both (part_fits i d in_word ps (listing s)) (parts_fit i d in_word ps) e).0
pattern_begins i d opening (part (arith s ws) ps) t n h e o = marked_word i d opening (arith s ws) ps t refl (both (part_fits i d in_word ps (arith s ws)) (parts_fit i d in_word ps) e).0

-- ---- no tilde

pub marked_no_tilde : (t : Text) → Marked in_word t → tilde_next t ≡ false
marked_no_tilde t m = no_tilde t m.free m.no_tilde

plain_no_tilde_at : (p : Bool) (b : ℕ) (bs : Text) (t : Text) → (b == 126) ≡ p → joins (b ∷ (bs ++ t)) ≡ false → (b ≡ 126 → tilde_next (126 ∷ (bs ++ t)) ≡ false) → tilde_next (b ∷ (bs ++ t)) ≡ false
plain_no_tilde_at true b bs t e j h = let is = Rattle.std.proofs.Common.eqb-true b 126 e in subst (λ (z : ℕ). tilde_next (z ∷ (bs ++ t)) ≡ false) (sym is) (h is)
plain_no_tilde_at false b bs t e j h = no_tilde (b ∷ (bs ++ t)) j e

-- behind a `~` that is a part of bytes that stand for themselves
lone_tilde : (i : Bool) (d : ℕ) (opening : Text) (bs : Text) (ps : shape.Parts) (t : Text) → reads_tilde (126 ∷ bs) ps ≡ false → plain_fits in_word ps (126 ∷ bs) ≡ true → parts_fit i d in_word ps ≡ true → Outside t → tilde_next (126 ∷ (bs ++ parts_on in_word opening ps t)) ≡ false
unfolding unit_starts
lone_tilde i d opening [] no_part t r f e o = absurd cc
lone_tilde i d opening [] (part p ps) t r f e o =
    let x = plain_facts in_word (part p ps) (126 ∷ []) f in
    let m = part_marked i d in_word opening ps p (parts_on in_word (behind_opening (part_opens p) opening) ps t) x.alone (both (part_fits i d in_word ps p) (parts_fit i d in_word ps) e).0 in
    subst (λ (z : Text). tilde_next (126 ∷ z) ≡ false) (sym (parts_split in_word opening p ps t)) (plain_tilde _ m.free m.no_slash m.unit)
lone_tilde i d opening (c ∷ cs) ps t r f e o =
    let x = plain_facts in_word ps (126 ∷ c ∷ cs) f in
    let y = (both (not (is_join 126 (c ∷ cs)) && is_literal in_word 126 (c ∷ cs)) (is_literal_text in_word (c ∷ cs)) x.literal).1 in
    let z = both (not (is_join c cs) && is_literal in_word c cs) (is_literal_text in_word cs) y in
    let u = literal_unit in_word c cs (both (not (is_join c cs)) (is_literal in_word c cs) z.0).1 in
    plain_tilde (c ∷ (cs ++ parts_on in_word opening ps t)) (literal_joins in_word c cs (parts_on in_word opening ps t) y) r u

pub plain_no_tilde : (i : Bool) (d : ℕ) (opening : Text) (text : Text) (ps : shape.Parts) (t : Text) → reads_tilde text ps ≡ false → plain_fits in_word ps text ≡ true → parts_fit i d in_word ps ≡ true → Outside t → tilde_next (text ++ parts_on in_word opening ps t) ≡ false
plain_no_tilde i d opening [] ps t r f e o = absurd (Rattle.std.proofs.lemmas.Bool.true≢false (plain_facts in_word ps [] f).some)
plain_no_tilde i d opening (b ∷ bs) ps t r f e o =
    let x = plain_facts in_word ps (b ∷ bs) f in
    plain_no_tilde_at (b == 126) b bs (parts_on in_word opening ps t) refl (literal_joins in_word b bs (parts_on in_word opening ps t) x.literal)
    (λ is. lone_tilde i d opening bs ps t (subst (λ (z : ℕ). reads_tilde (z ∷ bs) ps ≡ false) is r) (subst (λ (z : ℕ). plain_fits in_word ps (z ∷ bs) ≡ true) is f) e o)
