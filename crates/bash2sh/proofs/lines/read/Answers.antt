use Rattle.std.proofs.lemmas.Result.{err_from_is_err_and}
use Rattle.bash2sh.proofs.Rest.{items_found, items_refused, items_placed}
use Rattle.bash2sh.proofs.lines.read.Goals as goal

pub returns-in_err-items-clause-refused : goal.returns-in_err-items-clause-refused
returns-in_err-items-clause-refused c =
    let p = err_from_is_err_and c.from_residual.result c.from_residual.ensures.1 in
    rw (p.1, p.2) (items_refused c.in_err-items.field-0.0 c.args.text.now c.in_err-items.ensures)

pub returns-in_err-items-clause-place : goal.returns-in_err-items-clause-place
returns-in_err-items-clause-place c =
    let p = err_from_is_err_and c.from_residual.result c.from_residual.ensures.1 in
    rw (p.1, p.2) (items_placed c.in_err-items.field-0.0 c.args.text.now c.in_err-items.ensures)

pub returns-clause-found : goal.returns-clause-found
returns-clause-found c = items_found c.args.text.now c.in_ok-items.items c.in_ok-items.ensures
