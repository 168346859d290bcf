use Rattle.std.proofs.Common.{◌∙◌, ap, length, List, ℕ}
use Rattle.memchr.specs.Find.{is_byte}
use Rattle.span_text.proofs.Newlines.{counted}
use Rattle.span_text.proofs.span.newlines.Goals as goal

pub returns : goal.returns
returns c = c.count.ensures ∙ ap (λ (l : List ℕ). length l) c.memchr_iter.ensures.value ∙ counted (is_byte 10) c.args.bytes.now
