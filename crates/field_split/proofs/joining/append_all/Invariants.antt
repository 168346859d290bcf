use Rattle.std.proofs.Common.{◌≡◌, ◌++◌, drop}
use Rattle.std.specs.List.{flat_map}
use Rattle.field_split.proofs.joining.append_all.Given as goal

abbrev pub invariant-loop-next : goal.invariant-loop-next
invariant-loop-next l = l.text ++ flat_map (λ t. l.joint ++ t) (drop l.next-index l.texts) ≡ l.initial.text ++ flat_map (λ t. l.joint ++ t) l.texts
