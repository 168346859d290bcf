use Rattle.std.proofs.Common.{◌≡◌, ◌==◌, false, length, sym, ◌∙◌}
use Rattle.std.proofs.lemmas.Result.{err_from_is_err_and}
use Rattle.sh_grammar.specs.Steps.{run_step}
use Rattle.sh_grammar.specs.Sums.{sum_run}
use Rattle.sh_parser.specs.Answers.{is_memory}
use Rattle.sh_parser.specs.Views.{state}
use Rattle.text_grammar.proofs.Tools.{some_is}
use Rattle.sh_parser.proofs.Opened.{bytes_done, memory_only}
use Rattle.sh_parser.proofs.sums.sum_bytes.Goals as goal

pub returns-in_err-append : goal.returns-in_err-append
returns-in_err-append c =
    let p = err_from_is_err_and c.from_residual-in_err-append.result c.from_residual-in_err-append.ensures.1 in
    rw (p.1, p.2) (λ k. memory_only (is_memory c.in_err-append.field-0.0) _ _ (c.in_err-append.ensures c.args.bytes.now))

pub returns : goal.returns
unfolding run_step
returns c = λ k.
    let e : (sum_run c.args.bytes.now).0 ≡ c.bytes-2.result.now = some_is _ _ c.in_ok-text.ensures ∙ sym c.bytes-2.ensures in
    let h : (length c.bytes-2.result.now == 0) ≡ false = rw (c.bytes-2.ensures, ← c.bytes.ensures, ← c.is_empty.ensures) c.if-is_empty.false in
    bytes_done (state c.args.bytes.now c.args.notes.now) (sum_run c.args.bytes.now) c.bytes-2.result.now c.sum_end.result.now (state c.sum_end.result.now c.append.new.notes) e h c.sum_end.ensures (c.in_ok-append.ensures c.sum_end.result.now)
