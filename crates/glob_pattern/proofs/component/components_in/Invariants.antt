use Rattle.std.proofs.Common.{◌≡◌, ◌++◌, drop, map}
use Rattle.glob_pattern.specs.Brackets.{parts}
use Rattle.glob_pattern.specs.Reading.{piece_len, piece_at}
use Rattle.glob_pattern.specs.Paths.{component_of}
use Rattle.glob_pattern.proofs.component.components_in.Given as goal

abbrev pub invariant-loop-part : goal.invariant-loop-part
invariant-loop-part l = l.components ++ map (λ part. component_of (parts piece_len piece_at 0 part)) (drop l.part-index l.all) ≡ map (λ part. component_of (parts piece_len piece_at 0 part)) l.all
