use Rattle.sh_interp.proofs.params.filled.Goals as goal

pub returns-in-Default-true : goal.returns-in-Default-true
returns-in-Default-true c = λ z. rw (c.in-Default-true.is-0, c.in-Default-true.is-1) (c.in_place.ensures z)

pub returns-in-Alternate-false : goal.returns-in-Alternate-false
returns-in-Alternate-false c = λ z. rw (c.in-Alternate-false.is-0, c.in-Alternate-false.is-1) (c.in_place-in-Alternate-false.ensures z)

pub returns-in-Assign-true : goal.returns-in-Assign-true
returns-in-Assign-true c = λ z. rw (c.in-Assign-true.is-0, c.in-Assign-true.is-1) (c.assigning.ensures z)
