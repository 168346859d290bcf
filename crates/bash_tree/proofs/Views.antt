-- Each node of the code, seen as plain data.
use Rattle.std.proofs.Common.{◌≡◌, ℕ, List, [], ◌∷◌, refl, sym, ap, ◌∙◌}
use Rattle.std.specs.Prelude.{map}
use Rattle.bash_tree.specs.declared.tree.Part.{Part}
use Rattle.bash_tree.specs.declared.tree.PartKind.{PartKind}
use Rattle.bash_tree.specs.declared.tree.PartKind.TheVariants.{Plain, Exact, Double, Param, rolls-Plain, rolls-Exact, rolls-Double, rolls-Param}
use Rattle.bash_tree.specs.declared.tree.PartKind.TheOpen as layer
use Rattle.bash_tree.specs.declared.tree.PartKind.TheFolds.{fold-roll-PartKind, fold_out-Part}
use Rattle.bash_tree.specs.declared.tree.Param.{Param as Parameter}
use Rattle.bash_tree.specs.declared.tree.ParamOp.{ParamOp}
use Rattle.bash_tree.specs.Shape as shape
use Rattle.bash_tree.specs.View.{view_part, view_kind, kind_step, part_step, parts_of, name_of_param}

pub part_is : (p : Part) → view_part p ≡ view_kind p.kind
unfolding view_part view_kind
part_is p = fold_out-Part shape.Part shape.Part kind_step part_step p

pub plain_is : (t : List ℕ) → view_kind (Plain t) ≡ shape.plain t
unfolding view_kind
plain_is t = ap view_kind (sym (rolls-Plain t)) ∙ fold-roll-PartKind shape.Part shape.Part kind_step part_step (layer.Plain t)

pub exact_is : (t : List ℕ) → view_kind (Exact t) ≡ shape.exact t
unfolding view_kind
exact_is t = ap view_kind (sym (rolls-Exact t)) ∙ fold-roll-PartKind shape.Part shape.Part kind_step part_step (layer.Exact t)

pub double_is : (ps : List Part) → view_kind (Double ps) ≡ shape.double (parts_of (map view_part ps))
unfolding view_kind view_part
double_is ps = ap view_kind (sym (rolls-Double ps)) ∙ fold-roll-PartKind shape.Part shape.Part kind_step part_step (layer.Double ps)

pub param_is : (q : Parameter) (o : ParamOp) → view_kind (Param q o) ≡ shape.param (name_of_param q)
unfolding view_kind
param_is q o = ap view_kind (sym (rolls-Param q o)) ∙ fold-roll-PartKind shape.Part shape.Part kind_step part_step (layer.Param q o)
