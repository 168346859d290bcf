use Rattle.std.proofs.Common.{◌≡◌, drop}
use Rattle.sh_meaning.specs.builtins.Reading.{assign_all}
use Rattle.sh_builtins.proofs.reading.assign_all.Given as goal

abbrev pub invariant-loop-at : goal.invariant-loop-at
invariant-loop-at l = assign_all (drop l.at l.names) (drop l.at l.texts) l.vars ≡ assign_all l.names l.texts l.initial.vars
