use Rattle.std.proofs.Common.{subst, Option, ℕ, Some, None}
use Rattle.memchr.specs.Find.{is_byte, IsLastByte}
use Rattle.span_text.proofs.Newlines.{behind_last}
use Rattle.span_text.proofs.span.last_line_start.Goals as goal

pub returns-in-None : goal.returns-in-None
returns-in-None c = behind_last (is_byte 10) c.args.bytes.now None c.in-None.ensures

pub returns-in-Some : goal.returns-in-Some
returns-in-Some c = behind_last (is_byte 10) c.args.bytes.now (Some c.in-Some.newline) c.in-Some.ensures
