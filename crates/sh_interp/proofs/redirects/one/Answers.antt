use Rattle.sh_interp.proofs.redirects.one.Goals as goal

pub returns-in-Read : goal.returns-in-Read
returns-in-Read c = λ z. rw c.in-Read.is (rw c.in-Read.is at (c.worded.ensures z))

pub returns-in-Write : goal.returns-in-Write
returns-in-Write c = λ z. rw c.in-Write.is (rw c.in-Write.is at (c.worded-in-Write.ensures z))

pub returns-in-Append : goal.returns-in-Append
returns-in-Append c = λ z. rw c.in-Append.is (rw c.in-Append.is at (c.worded-in-Append.ensures z))

pub returns-in-HereExpanded : goal.returns-in-HereExpanded
returns-in-HereExpanded c = λ z. rw c.in-HereExpanded.is (rw c.in-HereExpanded.is at (c.worded-in-HereExpanded.ensures z))
