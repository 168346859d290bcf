-- What one read puts behind a text.
use Rattle.std.specs.Prelude.{◌≡◌, ℕ, ◌≤◌, ◌<◌, List, ◌++◌, length, Option, Result, Ok, Err}
use Rattle.span_text.specs.Streams.{Rose}
use Rattle.bash2sh.specs.declared.input.InputFault.{InputFault}
use Rattle.bash2sh.specs.declared.input.InputFault.TheVariants as input
use Rattle.bash2sh.specs.Answers.{Took, Over}

-- n bytes were taken and put behind what was held; where there was room, none only at the end
pub record Piece (before later : Option (List ℕ)) (faults now : ℕ) (held text : List ℕ) (room n : ℕ) : Type 0 where
  pub taken : List ℕ
  pub took : Took before later taken
  pub behind : text ≡ held ++ taken
  pub counted : length taken ≡ n
  pub within : n ≤ room
  pub ends : n ≡ 0 → 0 < room → Over before later
  pub never_falls : faults ≤ now

abbrev pub Reads : Option (List ℕ) → Option (List ℕ) → ℕ → ℕ → List ℕ → List ℕ → ℕ → Result ℕ InputFault → Type 0
Reads before later faults now held text room (Ok n) = Piece before later faults now held text room n
Reads before later faults now held text room (Err input.Memory) = faults ≤ now
Reads before later faults now held text room (Err input.Failed) = Rose faults now
Reads before later faults now held text room (Err input.TooLong) = ⊥
