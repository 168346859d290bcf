use Rattle.std.proofs.Common.{◌≡◌, ◌≤◌, ◌-◌, length, take, drop}
use Rattle.bash_grammar.specs.Steps.{tick_run}
use Rattle.bash_tokens.specs.Escapes.{quoted_to}
use Rattle.bash_tokens.proofs.ticks.tick_run.Given as goal

abbrev pub invariant-bytes : goal.invariant-bytes
invariant-bytes l = record {
  within : l.n ≤ length l.bytes;
  same : quoted_to (take l.n l.bytes) (tick_run (drop l.n l.bytes)) ≡ tick_run l.bytes;
}

abbrev pub decreases-bytes : goal.decreases-bytes
decreases-bytes l = length l.bytes - l.n
