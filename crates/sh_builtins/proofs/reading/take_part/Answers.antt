use Rattle.std.proofs.Common.{ap, ◌∙◌, false, ◌++◌, arith}
use Rattle.shell_world.specs.Running.{index_of}
use Rattle.sh_builtins.specs.Lines.{quotes_behind}
use Rattle.sh_builtins.proofs.Joins.{part_joined, part_last, not_first, not_second}
use Rattle.sh_builtins.proofs.reading.take_part.Goals.{else-line-via-then-line+else-quotes_behind, else-line-via-else-line}
use Rattle.sh_builtins.proofs.reading.take_part.Goals as goal

pub returns-then-quotes_behind-clause-takes : goal.returns-then-quotes_behind-clause-takes
returns-then-quotes_behind-clause-takes c =
    part_joined (index_of c.args.from) c.args.outside.now.outside c.read_line.new.self.outside c.args.text.now c.append.new.self c.append-then-quotes_behind.new.self c.in_ok-line.line
    c.in_ok-line.ensures.line (ap (λ r. r.outside) c.in_ok-line.ensures.new) (c.in_ok-append.ensures.ok ∙ ap (λ t. c.args.text.now ++ t) c.bytes.ensures) c.in_ok-append-2.ensures.ok
    (grind (arith, c.if-line.true)) (grind (arith, c.quotes_behind.ensures, c.bytes-then-line.ensures, c.if-quotes_behind.true))

pub returns-clause-takes : goal.returns-clause-takes
returns-clause-takes c =
    part_last (index_of c.args.from) c.args.outside.now.outside c.read_line.new.self.outside c.args.text.now c.append.new.self c.in_ok-line.line
    c.in_ok-line.ensures.line (ap (λ r. r.outside) c.in_ok-line.ensures.new) (c.in_ok-append.ensures.ok ∙ ap (λ t. c.args.text.now ++ t) c.bytes.ensures)
    (elim c.else-line.branch [
      | else-line-via-then-line+else-quotes_behind w ↦ not_second c.in_ok-line.line.ended (quotes_behind false c.in_ok-line.line.text) (grind (arith, w.quotes_behind.ensures, w.bytes-then-line.ensures, w.if-quotes_behind.false))
      | else-line-via-else-line w ↦ not_first c.in_ok-line.line.ended (quotes_behind false c.in_ok-line.line.text) (grind (arith, w.if-line.false))
    ])
