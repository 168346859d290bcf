use Rattle.std.proofs.Common.{refl, subst, List, ℕ}
use Rattle.sh_syntax.specs.View.{view}
use Rattle.sh_grammar.specs.Spelling.{Reads}
use Rattle.bash2sh.specs.Sinks.{Sinks}
use Rattle.bash2sh.proofs.Reporting.{sh_job, sh_refused}
use Rattle.bash2sh.proofs.jobs.run_sh.Goals as goal

pub returns-in-Ok-run : goal.returns-in-Ok-run
returns-in-Ok-run g c =
    sh_job c.args.job (view c.in-Ok.tree) c.in-Ok-run.report _ _ c.write_report.result
    (subst (λ (t : List ℕ). Reads t (view c.in-Ok.tree)) c.bytes.ensures c.in-Ok.ensures.read) c.in-Ok-run.ensures c.write_report.ensures

pub returns-in-Err-Unreadable : goal.returns-in-Err-Unreadable
returns-in-Err-Unreadable g c =
    let before : Sinks = record { held = g.K.Sink.held c.args.out.now; write_faults = g.K.Sink.faults c.args.out.now; said = g.E.Sink.held c.args.err.now; say_faults = g.E.Sink.faults c.args.err.now } in
    let after : Sinks = record before { said = g.E.Sink.held c.say_refused.new.err; say_faults = g.E.Sink.faults c.say_refused.new.err } in
    sh_refused c.args.job c.bytes.result.now c.bytes-in-Err-Unreadable.result.now c.in-Err-Unreadable.at c.place_of.result.line c.place_of.result.column before after c.bytes.ensures c.bytes-in-Err-Unreadable.ensures
    (rw c.in-Err-Unreadable.field-0-is at c.in-Err-Unreadable.ensures.refused) (rw c.in-Err-Unreadable.field-0-is at c.in-Err-Unreadable.ensures.place)
    (rw c.in-Err-Unreadable.at-is at c.place_of.ensures.line) (rw c.in-Err-Unreadable.at-is at c.place_of.ensures.column) refl c.say_refused.ensures
