use Rattle.std.proofs.Common.{◌≡◌, length}
use Rattle.sh_printer.specs.Codes.{view_context}
use Rattle.sh_printing.specs.Spellable.{is_literal_text}
use Rattle.sh_printer.proofs.checking.bytes.is_literal_text.Given as goal

abbrev pub invariant-bytes : goal.invariant-bytes
invariant-bytes l = is_literal_text (view_context l.context) l.rest ≡ is_literal_text (view_context l.context) l.text

abbrev pub decreases-bytes : goal.decreases-bytes
decreases-bytes l = length l.rest
