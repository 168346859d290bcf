use Rattle.std.proofs.Common.{◌∷◌, ◌++◌, []}
use Rattle.std.proofs.lemmas.Result.{err_from_is_err_and}
use Rattle.sh_printer.proofs.Puts.{put_then, put_early}
use Rattle.sh_printer.proofs.leaves.print_braced.Goals as goal

pub returns-in_err-put : goal.returns-in_err-put
returns-in_err-put g c =
    let p = err_from_is_err_and c.from_residual.result c.from_residual.ensures.1 in
    put_early _ _ _ _ _ _ c.from_residual.result _ (36 ∷ 123 ∷ []) (c.args.text.now ++ 125 ∷ []) p.1 c.in_err-put.ensures

pub returns : goal.returns
returns g c =
    put_then _ _ _ _ _ _ _ _ c.put-3.result (36 ∷ 123 ∷ []) (c.args.text.now ++ 125 ∷ []) c.in_ok-put.ensures
    (put_then _ _ _ _ _ _ _ _ c.put-3.result c.args.text.now (125 ∷ []) c.in_ok-put-2.ensures c.put-3.ensures)
