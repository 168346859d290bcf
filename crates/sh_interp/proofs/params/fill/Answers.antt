use Rattle.sh_interp.proofs.params.fill.Goals as goal

pub returns : goal.returns
returns c = λ z. rw (← c.is_list.ensures, c.if-is_list.false, ← c.is_misassigned.ensures, c.if-is_misassigned.false, ← c.in_ok-lacking.ensures) (c.filled.ensures z)
