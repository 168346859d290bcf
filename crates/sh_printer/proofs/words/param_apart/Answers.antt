use Rattle.std.proofs.Common.{refl, arith}
use Rattle.sh_printer.proofs.Comings.{coming}
use Rattle.sh_syntax.proofs.Views.{as_is_is, length_is, fill_is, trim_is}
use Rattle.sh_printer.proofs.words.param_apart.Goals as goal

pub returns-in-Plain : goal.returns-in-Plain
returns-in-Plain c = rw (c.in-Plain.is, as_is_is) (coming _ _ _ _ _ (λ full. refl) (omega arith) c.leaf_apart.ensures)

pub returns-in-Length : goal.returns-in-Length
returns-in-Length c = rw (c.in-Length.is, length_is) (coming _ _ _ _ _ (λ full. refl) (omega arith) c.leaf_apart-in-Length.ensures)

pub returns-in-Fill : goal.returns-in-Fill
returns-in-Fill c = rw (c.in-Fill.is, fill_is c.in-Fill.test c.in-Fill.colon c.in-Fill.word) (coming _ _ _ _ _ (λ full. rw c.fill_context.ensures refl) (omega arith) c.closed_apart.ensures)

pub returns-in-Trim : goal.returns-in-Trim
returns-in-Trim c = rw (c.in-Trim.is, trim_is c.in-Trim.suffix c.in-Trim.longest c.in-Trim.pattern) (coming _ _ _ _ _ (λ full. rw (c.trim_mark.ensures, c.trim_context.ensures) refl) (omega arith) c.closed_apart-in-Trim.ensures)
