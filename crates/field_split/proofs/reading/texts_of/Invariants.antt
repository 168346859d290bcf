use Rattle.std.proofs.Common.{◌≡◌, ◌++◌, ◌-◌}
use Rattle.field_split.specs.declared.sort.Sort.TheVariants as sort
use Rattle.field_split.specs.Fields.{after}
use Rattle.field_split.specs.Names.{names}
use Rattle.field_split.proofs.reading.texts_of.Given as goal

abbrev pub invariant-names : goal.invariant-names
invariant-names l = l.texts ++ names l.ifs (l.n - l.counter) l.rest ≡ names l.ifs (l.n - 1) (after sort.White l.ifs l.fn.items)
