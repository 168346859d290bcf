use Rattle.sh_syntax.proofs.Views.{fill_is, trim_is}
use Rattle.sh_interp.proofs.words.expansion.Goals as goal

pub returns-in-Fill : goal.returns-in-Fill
returns-in-Fill c = λ z. rw (c.in-Fill.is, fill_is c.in-Fill.test c.in-Fill.colon c.in-Fill.inner) (c.fill.ensures z)

pub returns-in-Trim : goal.returns-in-Trim
returns-in-Trim c = λ z. rw (c.in-Trim.is, trim_is c.in-Trim.suffix c.in-Trim.longest c.in-Trim.pattern) (c.trim.ensures z)
