use Rattle.std.proofs.Common.{◌≡◌, ◌++◌, drop}
use Rattle.sh_meaning.specs.Expanded.{marked}
use Rattle.sh_expansion.proofs.expanded.push_marked.Given as goal

abbrev pub invariant-loop-b : goal.invariant-loop-b
invariant-loop-b l = l.items ++ marked l.mark (drop l.b-index l.text) ≡ l.initial.items ++ marked l.mark l.text
