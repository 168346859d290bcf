-- What the first of some pieces does with a byte.
use Rattle.std.specs.Prelude.{ℕ, Bool, if◌then◌else◌, List, [], ◌∷◌}
use Rattle.std.specs.List.{list_all}
use Rattle.glob_pattern.specs.declared.piece.Piece.{Piece}
use Rattle.glob_pattern.specs.declared.matching.Step.{Step}
use Rattle.glob_pattern.specs.declared.matching.Step.TheVariants as step
use Rattle.glob_pattern.specs.Pieces.{is_run, takes}

abbrev pub step_of : List Piece → ℕ → Step
step_of [] b = step.Refuses
step_of (piece ∷ pieces) b = if is_run piece then step.Run else (if takes piece b then step.Takes else step.Refuses)

abbrev pub all_runs : List Piece → Bool
all_runs pieces = list_all is_run pieces
