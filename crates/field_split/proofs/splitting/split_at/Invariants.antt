use Rattle.std.proofs.Common.{length}
use Rattle.field_split.specs.declared.sort.Sort.TheVariants as sort
use Rattle.field_split.specs.Fields.{after}
use Rattle.field_split.proofs.Loops.{Cut}
use Rattle.field_split.proofs.splitting.split_at.Given as goal

abbrev pub invariant-fields : goal.invariant-fields
invariant-fields l = Cut l.ifs (after sort.White l.ifs l.fn.items) l.rest l.all

abbrev pub decreases-fields : goal.decreases-fields
decreases-fields l = length l.rest
