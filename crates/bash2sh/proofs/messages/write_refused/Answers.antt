use Rattle.std.proofs.Common.{◌∷◌, ◌++◌, codes, decimal}
use Rattle.std.proofs.lemmas.Result.{err_from_is_err_and}
use Rattle.span_text.proofs.Writes.{Wrote-early}
use Rattle.bash2sh.specs.Answers.{refusal_tail}
use Rattle.bash2sh.proofs.messages.write_refused.Goals as goal

pub returns-in_err-write_all : goal.returns-in_err-write_all
returns-in_err-write_all g c =
    let p = err_from_is_err_and c.from_residual.result c.from_residual.ensures.1 in
    Wrote-early _ _ _ _ c.from_residual.result _ (codes "bash2sh: ") ((decimal c.args.place.line ++ 58 ∷ decimal c.args.place.column) ++ refusal_tail c.args.refusal) p.1 c.in_err-write_all.ensures
