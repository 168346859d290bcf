use Rattle.sh_interp.proofs.sums.operand.Goals as goal

pub returns : goal.returns
returns c = λ z. rw (rw c.as_slice.ensures at c.in_ok-more.ensures) (c.operands.ensures z)
