use Rattle.std.proofs.Common.{◌∷◌, ◌++◌, [], Ok}
use Rattle.std.proofs.lemmas.Result.{err_from_is_err_and}
use Rattle.sh_printing.specs.Marks.{param_name, colon_text, test_text}
use Rattle.sh_syntax.specs.View.{view_param, view_test}
use Rattle.sh_printer.proofs.Puts.{put_then, put_early}
use Rattle.sh_printer.proofs.leaves.print_filling.Goals as goal

pub returns-in_err-put : goal.returns-in_err-put
returns-in_err-put g c =
    let p = err_from_is_err_and c.from_residual.result c.from_residual.ensures.1 in
    put_early _ _ _ _ _ _ c.from_residual.result _ (36 ∷ 123 ∷ []) (param_name (view_param c.args.param.now) ++ colon_text c.args.colon ++ test_text (view_test c.args.test)) p.1 c.in_err-put.ensures

pub returns : goal.returns
returns g c =
    put_then _ _ _ _ _ _ _ _ c.put-4.result (36 ∷ 123 ∷ []) (param_name (view_param c.args.param.now) ++ colon_text c.args.colon ++ test_text (view_test c.args.test)) c.in_ok-put.ensures
    (put_then _ _ _ _ _ _ _ _ c.put-4.result (param_name (view_param c.args.param.now) ++ colon_text c.args.colon) (test_text (view_test c.args.test))
    (put_then _ _ _ _ _ _ _ _ (Ok tt) (param_name (view_param c.args.param.now)) (colon_text c.args.colon) (rw c.param_name.ensures at c.in_ok-put-2.ensures) (rw c.colon_mark.ensures at c.in_ok-put-3.ensures))
    (rw c.test_mark.ensures at c.put-4.ensures))
