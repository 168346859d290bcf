use Rattle.std.proofs.Common.{◌≡◌, ◌++◌, take}
use Rattle.std.specs.List.{flat_map}
use Rattle.bash_tree.specs.View.{view_part}
use Rattle.bash2sh.specs.Form.{literal_part_text}
use Rattle.bash2sh.proofs.form.append_all_literal.Given as goal

abbrev pub invariant-loop-part : goal.invariant-loop-part
invariant-loop-part l = l.text ≡ l.initial.text ++ flat_map (λ p. literal_part_text (view_part p)) (take l.part-index l.parts)
