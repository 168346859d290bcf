use Rattle.std.proofs.Common.{rules, FitsSigned, w64}
use Rattle.std.proofs.lemmas.Int.{to_z-of_z}
use Rattle.arith64.proofs.Wraps.{quotient_is}
use Rattle.arith64.proofs.operators.divide.Goals as goal

pub returns : goal.returns
returns c =
    let whole : FitsSigned w64 c.wrapping_div.result = search rules in
    quotient_is c.args.a c.args.b _ _ c.wrapping_div.result c.ranges.a whole (to_z-of_z w64 c.args.a c.ranges.a) (to_z-of_z w64 c.args.b c.ranges.b) c.wrapping_div.ensures c.if-b-eq0.false
