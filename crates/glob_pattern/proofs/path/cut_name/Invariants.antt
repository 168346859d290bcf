use Rattle.std.proofs.Common.{◌≡◌, ◌++◌, drop}
use Rattle.glob_pattern.specs.Paths.{put_first, cut, is_slash_byte}
use Rattle.glob_pattern.proofs.path.cut_name.Given as goal

abbrev pub invariant-loop-b : goal.invariant-loop-b
invariant-loop-b l = l.all ++ put_first l.part (cut is_slash_byte (drop l.b-index l.name)) ≡ cut is_slash_byte l.name
