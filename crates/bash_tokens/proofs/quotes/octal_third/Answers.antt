use Rattle.std.proofs.Common.{get_or, take, drop, length, ◌-◌, ap, sym, ◌∙◌}
use Rattle.bash_grammar.specs.Quotes.{ansi_from, octal}
use Rattle.bash_tokens.proofs.Escapes.{octal_more}
use Rattle.bash_tokens.proofs.Kept.{parts_of}
use Rattle.bash_tokens.proofs.quotes.octal_third.Goals as goal

pub returns-then-is_octal-clause-is : goal.returns-then-is_octal-clause-is
returns-then-is_octal-clause-is c = λ at. ap (ansi_from (octal at 2 c.args.value)) (sym (parts_of c.args.bytes.now c.in-len1-up.len_at_least)) ∙ octal_more at c.args.value (get_or c.args.bytes.now 0 0) (take (length c.args.bytes.now - 1) (drop 1 c.args.bytes.now)) (sym c.is_octal.ensures.is ∙ c.if-is_octal.true)
