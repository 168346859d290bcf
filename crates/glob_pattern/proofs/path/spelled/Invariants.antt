use Rattle.std.proofs.Common.{◌≡◌, drop}
use Rattle.glob_pattern.specs.Paths.{before, spelled}
use Rattle.glob_pattern.proofs.path.spelled.Given as goal

abbrev pub invariant-loop-component : goal.invariant-loop-component
invariant-loop-component l = before l.text (spelled l.lead (drop l.component-index l.components) l.rest) ≡ spelled l.first l.components l.parts
