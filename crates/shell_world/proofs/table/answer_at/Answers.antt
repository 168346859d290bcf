use Rattle.std.proofs.Common.{◌≡◌, ◌-◌, ◌<◌, ◌∙◌, sym, ap, get_or, length, min, arith}
use Rattle.std.proofs.lemmas.Bool.Decides.{nat_tests}
use Rattle.shell_world.proofs.Rows.{answer_is}
use Rattle.shell_world.proofs.table.answer_at.Goals as goal

pub returns : goal.returns
returns c =
    let answers = c.args.answers.now in
    let item = c.index-answers-min.result in
    let some : 0 < length answers = grind (arith, nat_tests) in
    let at : c.min.result ≡ min c.args.turn (length answers - 1) = c.min.ensures in
    answer_is c.args.turn answers item some ∙ ap (λ k. get_or answers k item) (sym at) ∙ sym c.index-answers-min.is
