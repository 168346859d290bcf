use Rattle.std.proofs.Common.{sym, ◌∙◌}
use Rattle.arith64.proofs.Binding.{popped, stops}
use Rattle.arith64.proofs.reducing.reduce.Goals as goal

pub frames-preserved : goal.frames-preserved
frames-preserved c = rw c.in_ok-operand-in-Some.ensures (sym (popped c.args.before c.frames.frames c.pop_bound.new.frames c.in-Some.frame c.frames.operand c.in-Some.ensures.0 c.in-Some.ensures.1) ∙ c.frames.invariant)

pub returns-in-None : goal.returns-in-None
returns-in-None c = rw c.in-None.ensures.1 (sym (stops c.args.before c.frames.frames c.frames.operand c.in-None.ensures.0) ∙ c.frames.invariant)
