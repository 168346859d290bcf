use Rattle.std.proofs.Common.{sym, ◌∙◌}
use Rattle.bash_tokens.proofs.Backquotes.{ticks_found}
use Rattle.bash_tokens.proofs.ticks.tick_run.Goals as goal

pub returns-then-bytes-n-eq96 : goal.returns-then-bytes-n-eq96
returns-then-bytes-n-eq96 c = sym c.bytes.invariant.same ∙ ticks_found c.args.bytes.now c.bytes.n c.bytes-test.true c.if-bytes-n-eq96.true
