-- Words that were read fit at their place.
use Rattle.std.proofs.Common.{◌≡◌, ℕ, Bool, true, false, cond, List, [], ◌∷◌, ◌++◌, Option, Some, None, ◌⊎◌, inl, inr, refl, sym, ap, subst, ◌∙◌, eqb-true}
use Rattle.std.specs.Prelude.{◌||◌, not, ◌==◌}
use Rattle.std.proofs.lemmas.Bool.{false≢true, true≢false}
use Rattle.text_grammar.specs.Grammar.{Leaf}
use Rattle.text_grammar.specs.Values.{leaf_kids}
use Rattle.sh_grammar.specs.Shape as shape
use Rattle.sh_grammar.specs.Shape.{plain, exact, double, tilde, param, subst as listing, arith, no_part, part, no_word, word}
use Rattle.sh_grammar.specs.Bytes.{Text, in_word, is_join, clear, starts, with_byte, run_from, is_plain, is_escaped, is_literal, literal_run, unit_starts}
use Rattle.sh_grammar.specs.Tokens.{behind, is_something, ◌>>=◌, tilde_at, tilde_next}
use Rattle.sh_grammar.specs.State.{State, Node, part_node, parts_in}
use Rattle.sh_grammar.specs.Steps.{Known, run_step, holds}
use Rattle.sh_grammar.specs.Table.{Rule, body}
use Rattle.sh_grammar.specs.Table as table
use Rattle.sh_grammar.proofs.Tools.{If, then, chosen_by}
use Rattle.sh_printing.specs.Printable.{behind_tilde, reads_tilde, part_fits, word_fits}
use Rattle.sh_printing.proofs.BackBytes.{neither, joins, clear_is}
use Rattle.sh_printing.proofs.ExactBytes.{clear_free, clear_twice, is_stuck, Ran, literal_ran}
use Rattle.sh_printing.proofs.ExactParts.{Begins, Fronts, PlainRun, same_byte, by_step}
use Rattle.sh_printing.proofs.ExactRules.{Stepped, Ruled, Sat}
use Rattle.sh_printing.proofs.ExactStates.{Fine}
use Rattle.sh_printing.proofs.ExactClaims.{PartsOk, PartsOfWord, WordFront, Says}
use Rattle.sh_printing.proofs.ExactExpansions.{parts_turns, parts_behind}

-- ---- parts behind the first

stuck_by : (a b : Bool) → not (not a || a || b) ≡ false
stuck_by true b = refl
stuck_by false b = refl

word_stuck : (b : ℕ) → is_stuck in_word b ≡ false
unfolding is_escaped
word_stuck b = stuck_by (b == 0) (is_plain in_word b)

pub word_free : (t : Text) → starts (is_stuck in_word) t ≡ false
word_free [] = refl
word_free (b ∷ bs) = word_stuck b

pub more_parts_rule : (k : Known) (i : Bool) (d : ℕ) (s e : State) (vs : List Node) → Sat k (Fine k i) (Says i) (body table.more_parts) d s e vs → Says i table.more_parts d s e vs
more_parts_rule k i d s e vs a = parts_turns k i in_word d a.0 s e vs a.1 (word_free (clear e.bytes))

-- ---- a tilde

record Tilde (s e : State) (vs : List Node) : Type 0 where
  is : vs ≡ part_node tilde ∷ []
  ends : (starts (λ b. b == 47) (clear e.bytes) || not (unit_starts in_word (clear e.bytes))) ≡ true

-- nothing or a slash
abbrev TildeEnds : Text → Type 0
TildeEnds rest = (starts (λ b. b == 47) (clear rest) || not (unit_starts in_word (clear rest))) ≡ true

tilde_ends_at : (o : Option Text) → If TildeEnds (o >>= λ rest. cond (starts (λ b. b == 47) (clear rest) || not (unit_starts in_word (clear rest))) (Some rest) None)
tilde_ends_at None = tt
tilde_ends_at (Some rest) = chosen_by (If TildeEnds) (starts (λ b. b == 47) (clear rest) || not (unit_starts in_word (clear rest))) _ _ (λ e. e) (λ e. tt)

tilde_ends : (t : Text) → If TildeEnds (tilde_at t)
unfolding tilde_at
tilde_ends t = tilde_ends_at (behind 126 t)

tilde_step : {k : Known} {F : State → Type 0} {d : ℕ} {s e : State} {vs : List Node} → Stepped k F table.tilde d s e vs → Tilde s e vs
unfolding run_step
tilde_step {s = s} st =
    by_step (Tilde s)
    (then TildeEnds (λ (x : Leaf Node × State). Tilde s x.1 (leaf_kids x.0)) (tilde_at (clear s.bytes)) _ (tilde_ends (clear s.bytes)) (λ rest h. record { is = refl; ends = h })) st

no_slash : (b : ℕ) (t : Text) → starts (λ z. z == b) t ≡ true → starts (λ z. z == 47) t ≡ true → (b == 47) ≡ true
no_slash b t e f = sym (same_byte (λ z. z == 47) b t e) ∙ f

no_other : (p : ℕ → Bool) (t : Text) → p 47 ≡ false → starts (λ z. z == 47) t ≡ true → starts p t ≡ true → ⊥
no_other p t n e f = false≢true (sym n ∙ (sym (same_byte p 47 t e) ∙ f))

or_not : (a b : Bool) → (a || not b) ≡ true → b ≡ true → a ≡ true
or_not true b e f = refl
or_not false true e f = absurd cc
or_not false false e f = absurd cc

pub slash_follows : (ps : shape.Parts) (t : Text) → Fronts in_word ps t → (starts (λ b. b == 47) t || not (unit_starts in_word t)) ≡ true → behind_tilde ps ≡ true
slash_follows no_part t f e = refl
slash_follows (part (plain []) ps) t f e = absurd f.1
slash_follows (part (plain (b ∷ bs)) ps) t f e = no_slash b t f.1.0 (or_not (starts (λ b. b == 47) t) (unit_starts in_word t) e f.0)
slash_follows (part (exact text) ps) t f e = absurd (no_other (λ z. z == 39 || z == 92) t refl (or_not (starts (λ b. b == 47) t) (unit_starts in_word t) e f.0) f.1)
slash_follows (part (double qs) ps) t f e = absurd (no_other (λ z. z == 34) t refl (or_not (starts (λ b. b == 47) t) (unit_starts in_word t) e f.0) f.1)
slash_follows (part tilde ps) t f e = absurd f.1
slash_follows (part (param p o) ps) t f e = absurd (no_other (λ z. z == 36) t refl (or_not (starts (λ b. b == 47) t) (unit_starts in_word t) e f.0) f.1)
slash_follows (part (listing s) ps) t f e = absurd (no_other (λ z. z == 36) t refl (or_not (starts (λ b. b == 47) t) (unit_starts in_word t) e f.0) f.1)
slash_follows (part (arith x ws) ps) t f e = absurd (no_other (λ z. z == 36) t refl (or_not (starts (λ b. b == 47) t) (unit_starts in_word t) e f.0) f.1)

-- ---- bytes that aren't a tilde's

abbrev first_byte : Text → ℕ
first_byte [] = 0
first_byte (b ∷ bs) = b

abbrev tail_of : Text → Text
tail_of [] = []
tail_of (b ∷ bs) = bs

pair_first : (x : Text × Text) (b c : ℕ) (text rest : Text) → with_byte b x ≡ (c ∷ text, rest) → (b ≡ c) × (x ≡ (text, rest))
pair_first x b c text rest e =
    let f : b ∷ x.0 ≡ c ∷ text = ap (λ (z : Text × Text). z.0) e in
    let g : x.1 ≡ rest = ap (λ (z : Text × Text). z.1) e in
    (ap first_byte f, ap (λ (z : Text). (tail_of z, x.1)) f ∙ ap (λ (z : Text). (text, z)) g)

nil_cons : (c : ℕ) (text : Text) → [] ≡ c ∷ text → ⊥
nil_cons c text e = absurd cc

no_cons : (t : Text) (c : ℕ) (text rest : Text) → ◌≡◌ {A = Text × Text} ([], t) (c ∷ text, rest) → ⊥
no_cons t c text rest e = nil_cons c text (ap (λ (z : Text × Text). z.0) e)

run_tail_at : (b c : ℕ) (bs text rest : Text) (g : Bool) → is_literal in_word b bs ≡ g → cond g (with_byte b (run_from (is_literal in_word) false bs)) ([], b ∷ bs) ≡ (c ∷ text, rest) → (b ≡ c) × (run_from (is_literal in_word) false bs ≡ (text, rest))
run_tail_at b c bs text rest true g e = pair_first (run_from (is_literal in_word) false bs) b c text rest e
run_tail_at b c bs text rest false g e = absurd (no_cons (b ∷ bs) c text rest e)

-- a run behind its first byte
pub run_tail : (b c : ℕ) (bs text rest : Text) → is_join b bs ≡ false → literal_run in_word (b ∷ bs) ≡ (c ∷ text, rest) → (b ≡ c) × (literal_run in_word bs ≡ (text, rest))
unfolding literal_run
run_tail b c bs text rest j e =
    run_tail_at b c bs text rest (is_literal in_word b bs) refl (subst (λ (z : Bool). cond z (run_from (is_literal in_word) true bs) (cond (is_literal in_word b bs) (with_byte b (run_from (is_literal in_word) false bs)) ([], b ∷ bs)) ≡ (c ∷ text, rest)) j e)

open_at : (p : Bool) (rest : Text) → cond p (Some rest) None ≡ None → p ≡ false
open_at true rest e = absurd cc
open_at false rest e = refl

not_false : (a : Bool) → not a ≡ false → a ≡ true
not_false true e = refl
not_false false e = absurd cc

-- where a tilde stands for itself, neither the word's end nor a slash is behind it
tilde_open : (rest : Text) → tilde_at (126 ∷ rest) ≡ None → (starts (λ b. b == 47) (clear rest) || not (unit_starts in_word (clear rest))) ≡ false
unfolding tilde_at
tilde_open rest e = open_at (starts (λ b. b == 47) (clear rest) || not (unit_starts in_word (clear rest))) rest e

none_is : {A : Type 0} (o : Option A) → is_something o ≡ false → o ≡ None
none_is None e = refl
none_is (Some x) e = absurd (true≢false e)

tilde_first : (b : ℕ) (text m : Text) (x : ℕ) (xs : Text) (ps : shape.Parts) → (b == 126) ≡ true → is_join x xs ≡ false → literal_run in_word (x ∷ xs) ≡ (b ∷ text, m) → tilde_at (x ∷ xs) ≡ None → Fronts in_word ps (clear m) →
    reads_tilde (b ∷ text) ps ≡ false
tilde_first b [] m x xs (part p ps) e j r n f = rw e refl
tilde_first b [] m x xs no_part e j r n f =
    let t = run_tail x b xs [] m j r in
    let is : x ≡ 126 = t.0 ∙ eqb-true b 126 e in
    let o = tilde_open xs (subst (λ (z : ℕ). tilde_at (z ∷ xs) ≡ None) is n) in
    let u : unit_starts in_word (clear xs) ≡ true = not_false (unit_starts in_word (clear xs)) (neither (starts (λ b. b == 47) (clear xs)) (not (unit_starts in_word (clear xs))) o).1 in
    let ran = subst (λ (z : Text × Text). Ran in_word (clear xs) z.0 z.1) t.1 (literal_ran in_word xs) in
    let w : unit_starts in_word (clear xs) ≡ false = subst (λ (z : Text). unit_starts in_word z ≡ false) (ap clear ran.front ∙ clear_twice xs) f.0 in
    absurd (false≢true (sym w ∙ u))
tilde_first b (c ∷ cs) m x xs ps e j r n f =
    let t = run_tail x b xs (c ∷ cs) m j r in
    let is : x ≡ 126 = t.0 ∙ eqb-true b 126 e in
    let o = tilde_open xs (subst (λ (z : ℕ). tilde_at (z ∷ xs) ≡ None) is n) in
    let ran = subst (λ (z : Text × Text). Ran in_word (clear xs) z.0 z.1) t.1 (literal_ran in_word xs) in
    let w = sym (same_byte (λ z. z == 47) c (clear xs) ran.front.0) ∙ (neither (starts (λ b. b == 47) (clear xs)) (not (unit_starts in_word (clear xs))) o).0 in
    rw (e, w) refl

no_tilde_at : (text m t : Text) (ps : shape.Parts) (p : Bool) → starts (λ z. z == 126) text ≡ p → joins t ≡ false → literal_run in_word t ≡ (text, m) → tilde_at t ≡ None → Fronts in_word ps (clear m) → reads_tilde text ps ≡ false
unfolding literal_run
no_tilde_at [] m t ps p e j r n f = refl
no_tilde_at (b ∷ []) m t ps false e j r n f = rw e refl
no_tilde_at (b ∷ c ∷ cs) m t ps false e j r n f = rw e refl
no_tilde_at (b ∷ bs) m [] ps true e j r n f = absurd (no_cons [] b bs m r)
no_tilde_at (b ∷ bs) m (x ∷ xs) ps true e j r n f = tilde_first b bs m x xs ps e j r n f

-- ---- the parts of a word

-- a first part that is bytes, before others
plain_word : (i : Bool) (d : ℕ) (s m e : State) (text : Text) (ps : shape.Parts) → tilde_next s.bytes ≡ false → part_fits i d in_word ps (plain text) ≡ true → literal_run in_word (clear s.bytes) ≡ (text, m.bytes) → PartsOk i d in_word m e ps →
    word_fits i d false (part (plain text) ps) ≡ true
unfolding tilde_next
plain_word i d s m e text ps t f r p =
    rw (no_tilde_at text m.bytes (clear s.bytes) ps (starts (λ z. z == 126) text) refl (clear_free s.bytes) r (none_is (tilde_at (clear s.bytes)) t) p.front, f, p.fits) refl

word_front : (i : Bool) (d : ℕ) (s m e : State) (text : Text) (ps : shape.Parts) → literal_run in_word (clear s.bytes) ≡ (text, m.bytes) → PartsOk i d in_word m e ps → WordFront (part (plain text) ps) (clear s.bytes)
word_front i d s m e text (part q qs) r p = ap (λ (z : Text × Text). z.0) r
word_front i d s m e text no_part r p =
    let ran = subst (λ (z : Text × Text). Ran in_word (clear (clear s.bytes)) z.0 z.1) r (literal_ran in_word (clear s.bytes)) in
    (ap (λ (z : Text × Text). z.0) r, subst (λ (z : Text × Text). unit_starts in_word z.1 ≡ false) (sym r) (subst (λ (z : Text). unit_starts in_word z ≡ false) (clear_is m.bytes ran.rest_free) p.front.0))

first_part : (i : Bool) (d : ℕ) (s m e : State) (p : shape.Part) (ps : shape.Parts) → tilde_next s.bytes ≡ false → Begins in_word p (clear s.bytes) → PlainRun in_word p s m → part_fits i d in_word ps p ≡ true → PartsOk i d in_word m e ps → PartsOfWord i d s (part p ps)
first_part i d s m e (plain text) ps t b r f o = record { fits = plain_word i d s m e text ps t f r o; front = word_front i d s m e text ps r o }
first_part i d s m e (exact text) ps t b r f o = record { fits = rw (f, o.fits) refl; front = tt }
first_part i d s m e (double qs) ps t b r f o = record { fits = rw (f, o.fits) refl; front = tt }
first_part i d s m e tilde ps t b r f o = absurd b
first_part i d s m e (param p x) ps t b r f o = record { fits = rw (f, o.fits) refl; front = tt }
first_part i d s m e (listing x) ps t b r f o = record { fits = rw (f, o.fits) refl; front = tt }
first_part i d s m e (arith x ws) ps t b r f o = record { fits = rw (f, o.fits) refl; front = tt }

tilde_part : (i : Bool) (d : ℕ) (s m e : State) (ps : shape.Parts) → (starts (λ b. b == 47) (clear m.bytes) || not (unit_starts in_word (clear m.bytes))) ≡ true → PartsOk i d in_word m e ps → PartsOfWord i d s (part tilde ps)
tilde_part i d s m e ps t o = record { fits = rw (slash_follows ps (clear m.bytes) o.front t, o.fits) refl; front = tt }

parts_of_word : (k : Known) (i : Bool) (d : ℕ) (s m e : State) (ones others vs : List Node) →
    (((tilde_next s.bytes ≡ true) × Stepped k (Fine k i) table.tilde d s m ones) ⊎ ((tilde_next s.bytes ≡ false) × Ruled (Fine k i) (Says i (table.part in_word)) d s m ones)) →
    PartsOk i d in_word m e (parts_in others) → vs ≡ ones ++ others → PartsOfWord i d s (parts_in vs)
parts_of_word k i d s m e ones others vs (inl a) o is =
    let t = tilde_step a.1 in
    subst (PartsOfWord i d s) (sym (ap parts_in is ∙ parts_behind tilde ones others t.is)) (tilde_part i d s m e (parts_in others) t.ends o)
parts_of_word k i d s m e ones others vs (inr a) o is =
    let p = a.1.claim in
    subst (PartsOfWord i d s) (sym (ap parts_in is ∙ parts_behind p.one ones others p.is)) (first_part i d s m e p.one (parts_in others) a.0 p.ok.begins p.ok.runs (p.ok.fits (parts_in others) o.front) o)

pub word_parts_rule : (k : Known) (i : Bool) (d : ℕ) (s e : State) (vs : List Node) → Sat k (Fine k i) (Says i) (body table.word_parts) d s e vs → Says i table.word_parts d s e vs
unfolding holds
word_parts_rule k i d s e vs a = parts_of_word k i d s a.middle e a.ones a.others vs a.before a.rest.claim a.is
