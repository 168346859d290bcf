use Rattle.std.proofs.Common.{◌≡◌, ◌+◌, drop}
use Rattle.fmt_print.specs.Echoing.{options_of, no_options}
use Rattle.fmt_print.proofs.echoing.options_of.Given as goal

abbrev pub invariant-loop-k : goal.invariant-loop-k
invariant-loop-k l = record {
  options : (options_of l.options (drop l.k l.words)).0 ≡ (options_of no_options l.words).0;
  count : l.k + (options_of l.options (drop l.k l.words)).1 ≡ (options_of no_options l.words).1;
}
