-- Notes that stand behind a text, to show what `Later` is for: `a*b*;xy` has the letter a with the note x, and b
-- with the note y. The mark `*` holds its note, which only comes later; and a note must read: `!` is none.
use Rattle.std.specs.Prelude.{ℕ, zero, suc, Bool, true, ◌||◌, not, ◌==◌, List, [], ◌∷◌, length, Option, Some, None, if◌then◌else◌}
use Rattle.text_grammar.specs.Grammar.{Grammar, step, star, rule, ◌then◌, Leaf, quiet, said}
use Rattle.text_grammar.specs.Language.{Language}

pub data NoteStep : Type 0 where
  letter : NoteStep
  mark : NoteStep
  notes : NoteStep

pub data NoteTest : Type 0 where
  goes_on : NoteTest

pub data NoteRule : Type 0 where
  line : NoteRule
  noted : NoteRule

-- the bytes ahead, how many marks came, and the notes that were found
pub record Noting : Type 0 where
  pub bytes : List ℕ
  pub marks : ℕ
  pub found : List ℕ

pub data Noted : Type 0 where
  byte_of : ℕ → Noted
  note_of : ℕ → Noted
  pair_of : ℕ → ℕ → Noted

-- the note of this number, and nothing where none is known
abbrev pub note_at : List ℕ → ℕ → Option ℕ
note_at [] n = None
note_at (b ∷ bs) zero = Some b
note_at (b ∷ bs) (suc n) = note_at bs n

abbrev pub behind_mark : Noting → List ℕ → Noting
behind_mark s bs = record { bytes = bs; marks = suc s.marks; found = s.found }

-- a note that isn't known yet is any; a known one must read
abbrev pub read_note : Option ℕ → Noting → Option (Leaf Noted × Noting)
read_note None s = Some (said (note_of 0), s)
read_note (Some b) s = if b == 33 then None else Some (said (note_of b), s)

abbrev pub at_letter : List ℕ → Noting → Option (Leaf Noted × Noting)
at_letter [] s = None
at_letter (b ∷ bs) s = if b == 42 || b == 59 then None else Some (said (byte_of b), record { bytes = bs; marks = s.marks; found = s.found })

abbrev pub at_mark : List ℕ → List ℕ → Noting → Option (Leaf Noted × Noting)
at_mark known [] s = None
at_mark known (b ∷ bs) s = if b == 42 then read_note (note_at known s.marks) (behind_mark s bs) else None

abbrev pub at_notes : List ℕ → Noting → Option (Leaf Noted × Noting)
at_notes [] s = None
at_notes (b ∷ bs) s = if b == 59 then Some (quiet, record { bytes = []; marks = s.marks; found = bs }) else None

-- by the notes that are known
abbrev pub note_step : List ℕ → NoteStep → Noting → Option (Leaf Noted × Noting)
note_step known letter s = at_letter s.bytes s
note_step known mark s = at_mark known s.bytes s
note_step known notes s = at_notes s.bytes s

abbrev pub is_end : List ℕ → Bool
is_end [] = true
is_end (b ∷ bs) = b == 59

abbrev pub note_test : NoteTest → Noting → Bool
note_test goes_on s = not (is_end s.bytes)

-- line: noted* notes
-- noted: letter '*'
abbrev pub note_body : NoteRule → Grammar NoteStep NoteTest NoteRule
note_body line = star goes_on (rule noted) then step notes
note_body noted = step letter then step mark

abbrev pub paired : List Noted → List Noted
paired (byte_of a ∷ note_of b ∷ vs) = pair_of a b ∷ []
paired vs = vs

abbrev pub note_act : NoteRule → List Noted → List Noted
note_act line vs = vs
note_act noted vs = paired vs

abbrev pub note_takes : NoteStep → Bool
note_takes s = true

abbrev pub note_rule_takes : NoteRule → Bool
note_rule_takes r = true

abbrev pub note_rank : NoteRule → ℕ
note_rank line = 8
note_rank noted = 3

unfoldable pub note_language : List ℕ → Language Noting NoteStep NoteTest NoteRule Noted
note_language known = record {
  run_step = note_step known;
  holds = note_test;
  body = note_body;
  act = note_act;
  size = λ s. length s.bytes;
  ranks = record { step_takes = note_takes; rule_takes = note_rule_takes; rank = note_rank; levels = 10; weight = 10 };
}

abbrev pub starts_at : List ℕ → Noting
starts_at bs = record { bytes = bs; marks = 0; found = [] }
