-- The example with notes: what it owes, and what two readings give.
use Rattle.std.proofs.Common.{◌≡◌, ℕ, suc, ◌+◌, ◌≤◌, true, List, [], ◌∷◌, length, Option, Some, None, refl, ap, inl, inr, arith}
use Rattle.std.specs.Prelude.{nat_le, ◌==◌, ◌||◌}
use Rattle.text_grammar.specs.Grammar.{Leaf, quiet, said, rule}
use Rattle.text_grammar.specs.Ranks.{takes, shallow, small}
use Rattle.text_grammar.specs.Language.{Ends}
use Rattle.text_grammar.specs.Reading.{parse, read}
use Rattle.text_grammar.specs.Values.{vals}
use Rattle.text_grammar.specs.Later.{Later, vals_twice}
use Rattle.text_grammar.specs.LaterExample.{NoteStep, letter, mark, notes, NoteRule, line, noted, Noting, Noted, byte_of, note_of, pair_of, note_at, behind_mark, read_note, at_letter, at_mark, at_notes, note_step, note_language, starts_at}
use Rattle.text_grammar.proofs.Tools.{chosen, some_is}

-- ---- steps leave fewer bytes

same_end : (x y : Leaf Noted) (s m : Noting) → ◌≡◌ {A = Option (Leaf Noted × Noting)} (Some (x, s)) (Some (y, m)) → s ≡ m
same_end x y s m e = ap (λ (z : Leaf Noted × Noting). z.1) (some_is (x, s) (y, m) e)

note_end : (o : Option ℕ) (s m : Noting) (x : Leaf Noted) → read_note o s ≡ Some (x, m) → s ≡ m
note_end None s m x e = same_end (said (note_of 0)) x s m e
note_end (Some b) s m x e = elim (chosen (b == 33) None (Some (said (note_of b), s)) (Some (x, m)) e) [
  | inl c ↦ absurd cc
  | inr c ↦ same_end (said (note_of b)) x s m c.1
]

letter_fits : (bs : List ℕ) (s m : Noting) (x : Leaf Noted) → at_letter bs s ≡ Some (x, m) → length m.bytes + 1 ≤ length bs
letter_fits [] s m x e = absurd cc
letter_fits (b ∷ bs) s m x e =
    let r : Noting = record { bytes = bs; marks = s.marks; found = s.found } in
    elim (chosen (b == 42 || b == 59) None (Some (said (byte_of b), r)) (Some (x, m)) e) [
      | inl c ↦ absurd cc
      | inr c ↦ rw (← same_end (said (byte_of b)) x r m c.1) (omega arith)
    ]

mark_fits : (known bs : List ℕ) (s m : Noting) (x : Leaf Noted) → at_mark known bs s ≡ Some (x, m) → length m.bytes + 1 ≤ length bs
mark_fits known [] s m x e = absurd cc
mark_fits known (b ∷ bs) s m x e = elim (chosen (b == 42) (read_note (note_at known s.marks) (behind_mark s bs)) None (Some (x, m)) e) [
  | inl c ↦ rw (← note_end (note_at known s.marks) (behind_mark s bs) m x c.1) (omega arith)
  | inr c ↦ absurd cc
]

notes_fit : (bs : List ℕ) (s m : Noting) (x : Leaf Noted) → at_notes bs s ≡ Some (x, m) → length m.bytes + 1 ≤ length bs
notes_fit [] s m x e = absurd cc
notes_fit (b ∷ bs) s m x e =
    let r : Noting = record { bytes = []; marks = s.marks; found = bs } in
    elim (chosen (b == 59) (Some (quiet, r)) None (Some (x, m)) e) [
      | inl c ↦ rw (← same_end quiet x r m c.1) (omega arith)
      | inr c ↦ absurd cc
    ]

step_fits : (known : List ℕ) (p : NoteStep) (s m : Noting) (x : Leaf Noted) → note_step known p s ≡ Some (x, m) → length m.bytes + 1 ≤ length s.bytes
step_fits known letter s m x e = letter_fits s.bytes s m x e
step_fits known mark s m x e = mark_fits known s.bytes s m x e
step_fits known notes s m x e = notes_fit s.bytes s m x e

-- ---- what it owes

rule_takes : (known : List ℕ) (r : NoteRule) → takes (note_language known).ranks ((note_language known).body r) ≡ (note_language known).ranks.rule_takes r
unfolding note_language
rule_takes known line = refl
rule_takes known noted = refl

rule_shallow : (known : List ℕ) (r : NoteRule) → shallow (note_language known).ranks ((note_language known).body r) ((note_language known).ranks.rank r) ≡ true
unfolding note_language
rule_shallow known line = refl
rule_shallow known noted = refl

rule_small : (known : List ℕ) (r : NoteRule) → small (note_language known).ranks ((note_language known).body r) ≡ true
unfolding note_language
rule_small known line = refl
rule_small known noted = refl

rank_below : (known : List ℕ) (r : NoteRule) → nat_le (suc ((note_language known).ranks.rank r)) (note_language known).ranks.levels ≡ true
unfolding note_language
rank_below known line = refl
rank_below known noted = refl

note_ends : (known : List ℕ) → Ends (note_language known)
unfolding note_language
note_ends known = record {
  step_fits = step_fits known;
  rule_takes = rule_takes known;
  rule_shallow = rule_shallow known;
  rule_small = rule_small known;
  weighs = refl;
  rank_below = rank_below known;
}

-- where a note is known to read, it reads where none is known
any_mark : (known bs : List ℕ) (s m : Noting) (x : Leaf Noted) → at_mark known bs s ≡ Some (x, m) → (y : Leaf Noted) × (at_mark [] bs s ≡ Some (y, m))
any_mark known [] s m x e = absurd cc
any_mark known (b ∷ bs) s m x e = elim (chosen (b == 42) (read_note (note_at known s.marks) (behind_mark s bs)) None (Some (x, m)) e) [
  | inl c ↦ (said (note_of 0), rw c.0 (ap (λ (z : Noting). Some (said (note_of 0), z)) (note_end (note_at known s.marks) (behind_mark s bs) m x c.1)))
  | inr c ↦ absurd cc
]

any_step : (known : List ℕ) (p : NoteStep) (s m : Noting) (x : Leaf Noted) → note_step known p s ≡ Some (x, m) → (y : Leaf Noted) × (note_step [] p s ≡ Some (y, m))
any_step known letter s m x e = (x, e)
any_step known mark s m x e = any_mark known s.bytes s m x e
any_step known notes s m x e = (x, e)

pub notes_later : Later note_language []
unfolding note_language
notes_later = record {
  ends = note_ends;
  allows = λ known. record { step = any_step known; test = λ p s. refl; body = λ r. refl };
}

-- ---- texts that are read

-- `a*b*;xy`
two_notes : vals_twice note_language (λ s. s.found) [] (rule line) (starts_at (97 ∷ 42 ∷ 98 ∷ 42 ∷ 59 ∷ 120 ∷ 121 ∷ [])) ≡
    Some (pair_of 97 120 ∷ pair_of 98 121 ∷ [], record { bytes = []; marks = 2; found = 120 ∷ 121 ∷ [] })
unfolding note_language vals_twice vals read parse
two_notes = refl

-- `a*;!` reads where no note is known, and not with its note
bad_note : vals_twice note_language (λ s. s.found) [] (rule line) (starts_at (97 ∷ 42 ∷ 59 ∷ 33 ∷ [])) ≡ None
unfolding note_language vals_twice vals read parse
bad_note = refl
