use Rattle.std.proofs.Common.{◌≡◌, false, drop}
use Rattle.glob_pattern.specs.Paths.{asks_from}
use Rattle.glob_pattern.proofs.component.asks_folder.Given as goal

abbrev pub invariant-loop-component : goal.invariant-loop-component
invariant-loop-component l = asks_from l.asks (drop l.component-index l.components) ≡ asks_from false l.components
