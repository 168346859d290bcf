use Rattle.sh_expansion.proofs.Positions.{digits_more}
use Rattle.sh_expansion.proofs.parameters.number_within.Goals as goal

pub loop-digit-preserved : goal.loop-digit-preserved
loop-digit-preserved c = digits_more c.args.most c.loop-digit.number c.next_within-number.result c.args.digits.now c.loop-digit.digit-index _ c.loop-digit-test.true c.next_within-number.ensures c.loop-digit.invariant
