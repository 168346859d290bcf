use Rattle.std.proofs.Common.{◌≡◌, ◌++◌, drop, flat_map, option_copied}
use Rattle.field_split.specs.Fields.{fields, separators}
use Rattle.sh_expansion.proofs.expanded.Expanded.fields_of.Given as goal

abbrev pub invariant-loop-text : goal.invariant-loop-text
invariant-loop-text l = l.all.items ++ flat_map (fields (separators (option_copied l.ifs))) (drop l.text-index l.self.before) ≡ flat_map (fields (separators (option_copied l.ifs))) l.self.before
