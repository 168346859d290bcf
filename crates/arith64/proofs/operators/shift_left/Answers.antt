use Rattle.std.proofs.Common.{w64}
use Rattle.std.proofs.lemmas.Int.{to_z-of_z}
use Rattle.arith64.proofs.Wraps.{shift_left_is}
use Rattle.arith64.proofs.operators.shift_left.Goals as goal

pub returns : goal.returns
returns c = shift_left_is c.args.a c.args.b _ c.ranges.a (to_z-of_z w64 c.args.b c.ranges.b) c.if-b-lt0.false c.if-b-gt-GREATEST_SHIFT.false
