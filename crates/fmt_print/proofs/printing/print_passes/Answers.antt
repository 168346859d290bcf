use Rattle.std.proofs.Common.{◌-◌, suc, arith}
use Rattle.std.proofs.lemmas.Result.{err_from_is_err_and}
use Rattle.fmt_print.specs.Printing.{prints_all}
use Rattle.fmt_print.proofs.Passes.{repeats_on, repeats_cut, repeats_fails}
use Rattle.fmt_print.proofs.printing.print_passes.Goals as goal

pub returns-in_err-pass : goal.returns-in_err-pass
returns-in_err-pass c =
    let p = err_from_is_err_and c.from_residual.result c.from_residual.ensures.1 in
    rw (p.1, p.2) (λ other.
    repeats_fails c.args.arguments.now c.args.pieces.now (prints_all c.args.pieces.now c.args.arguments.now) c.loop-done.text c.loop-done.used (c.passes-count.result - c.loop-done.done) (c.passes-count.result - (suc c.loop-done.done)) c.in_err-pass.field-0.0 (omega arith) c.loop-done.invariant (c.in_err-pass.ensures other))

pub returns-then-pass : goal.returns-then-pass
returns-then-pass c =
    repeats_cut c.args.arguments.now c.args.pieces.now (prints_all c.args.pieces.now c.args.arguments.now) c.loop-done.text c.print_pass.new.text c.loop-done.used (c.passes-count.result - c.loop-done.done) (c.passes-count.result - (suc c.loop-done.done)) c.in_ok-pass.pass (omega arith) c.loop-done.invariant c.if-pass.true c.in_ok-pass.ensures.1

pub loop-done-preserved : goal.loop-done-preserved
loop-done-preserved c =
    repeats_on c.args.arguments.now c.args.pieces.now (prints_all c.args.pieces.now c.args.arguments.now) c.loop-done.text c.print_pass.new.text c.loop-done.used (c.passes-count.result - c.loop-done.done) _ c.in_ok-pass.pass (omega arith) c.loop-done.invariant c.if-pass.false c.in_ok-pass.ensures.0 c.in_ok-pass.ensures.1
