use Rattle.std.proofs.Common.{◌≡◌, ◌++◌, drop}
use Rattle.glob_pattern.specs.Paths.{put_first, cut, is_slash_sign}
use Rattle.glob_pattern.proofs.component.cut_signs.Given as goal

abbrev pub invariant-loop-sign : goal.invariant-loop-sign
invariant-loop-sign l = l.all ++ put_first l.part (cut is_slash_sign (drop l.sign-index l.signs)) ≡ cut is_slash_sign l.signs
