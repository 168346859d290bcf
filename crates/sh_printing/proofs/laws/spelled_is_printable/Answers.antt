use Rattle.sh_printing.proofs.ExactScripts as exact
use Rattle.sh_printing.proofs.laws.spelled_is_printable.Goals as goal

-- src/laws.rt
pub returns : goal.returns
returns c = λ text s r. exact.spelled_is_printable text s r
