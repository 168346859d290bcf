use Rattle.std.proofs.Common.{◌∷◌, []}
use Rattle.std.proofs.lemmas.Result.{err_from_is_err_and}
use Rattle.sh_printer.proofs.Puts.{put_then, put_early}
use Rattle.sh_printer.proofs.leaves.print_bare.Goals as goal

pub returns-in_err-put : goal.returns-in_err-put
returns-in_err-put g c =
    let p = err_from_is_err_and c.from_residual.result c.from_residual.ensures.1 in
    put_early _ _ _ _ _ _ c.from_residual.result _ (36 ∷ []) c.args.text.now p.1 c.in_err-put.ensures

pub returns : goal.returns
returns g c =
    put_then _ _ _ _ _ _ _ _ c.put-2.result (36 ∷ []) c.args.text.now c.in_ok-put.ensures c.put-2.ensures
