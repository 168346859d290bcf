use Rattle.std.proofs.Common.{◌≡◌, ◌++◌, drop}
use Rattle.name_codec.specs.Encoding.{encoded}
use Rattle.name_codec.proofs.lists.encode.Given as goal

abbrev pub invariant-loop-entry : goal.invariant-loop-entry
invariant-loop-entry l = l.text ++ encoded (drop l.entry-index l.entry-items) ≡ encoded l.entry-items
