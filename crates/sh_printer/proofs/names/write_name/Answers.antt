use Rattle.std.proofs.Common.{rules, arith}
use Rattle.std.proofs.lemmas.List.{take_more_set}
use Rattle.sh_printer.proofs.names.write_name.Goals as goal

pub loop-i-init : goal.loop-i-init
loop-i-init c = (take_more_set c.args.buffer.now 0 69 (omega arith), search rules)
