use Rattle.std.proofs.Common.{Some, sym, ap, ◌∙◌, arith}
use Rattle.fmt_print.proofs.Passes.{argument_taken}
use Rattle.fmt_print.proofs.printing.argument_of.Goals as goal

pub returns-then-used-len-clause-argument : goal.returns-then-used-len-clause-argument
returns-then-used-len-clause-argument c =
    argument_taken c.args.piece c.args.arguments.now c.args.used c.bytes.result.now (cc) (omega arith) (c.at.ensures ∙ ap (λ t. Some t) (sym c.bytes.ensures))
