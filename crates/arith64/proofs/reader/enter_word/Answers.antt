use Rattle.std.proofs.Common.{sym, ◌∙◌}
use Rattle.arith64.proofs.Words.{is_digit_else}
use Rattle.arith64.proofs.reader.enter_word.Goals as goal

pub enter_number-requires : goal.enter_number-requires
enter_number-requires c = is_digit_else c.args.byte c.requires (sym c.is_in.ensures ∙ c.if-is_in.false)
