use Rattle.std.proofs.Common.{w64, ap, Ok}
use Rattle.std.proofs.lemmas.Int.{wrapping_add_is, wrapping_sub_is}
use Rattle.arith64.proofs.operators.apply.Goals as goal

pub returns-in-Add : goal.returns-in-Add
returns-in-Add c = rw c.in-Add.is (ap Ok (wrapping_add_is w64 c.args.a c.args.b c.ranges.a c.ranges.b))

pub returns-in-Subtract : goal.returns-in-Subtract
returns-in-Subtract c = rw c.in-Subtract.is (ap Ok (wrapping_sub_is w64 c.args.a c.args.b c.ranges.a c.ranges.b))
