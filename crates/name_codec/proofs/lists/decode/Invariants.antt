use Rattle.std.proofs.Common.{length}
use Rattle.name_codec.proofs.Entries.{Reads}
use Rattle.name_codec.proofs.lists.decode.Given as goal

abbrev pub invariant-entries : goal.invariant-entries
invariant-entries l = Reads l.text l.entries l.rest

abbrev pub decreases-entries : goal.decreases-entries
decreases-entries l = length l.rest
