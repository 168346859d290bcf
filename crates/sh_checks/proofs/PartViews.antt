-- The view of a part by its kind.
use Rattle.std.proofs.Common.{◌≡◌, ℕ, Bool, List, ap, ◌∙◌}
use Rattle.std.specs.Prelude.{map}
use Rattle.sh_syntax.specs.declared.tree.Arith.{Arith}
use Rattle.sh_syntax.specs.declared.tree.FillTest.{FillTest}
use Rattle.sh_syntax.specs.declared.tree.Param.{Param}
use Rattle.sh_syntax.specs.declared.tree.ParamOp.{ParamOp}
use Rattle.sh_syntax.specs.declared.tree.ParamOp.TheVariants as op'
use Rattle.sh_syntax.specs.declared.tree.Part.{Part}
use Rattle.sh_syntax.specs.declared.tree.PartKind.TheVariants as part'
use Rattle.sh_syntax.specs.declared.tree.Script.{Script}
use Rattle.sh_syntax.specs.declared.tree.Word.{Word, out-Word}
use Rattle.sh_grammar.specs.Shape as shape
use Rattle.sh_syntax.specs.View.{view, view_arith, view_op, view_param, view_part, view_part_kind, view_test, parts_of}
use Rattle.sh_syntax.proofs.Views.{part_is, plain_is, exact_is, double_is, tilde_is, param_is, subst_is, arith_part_is, fill_is, trim_is, word_is}

pub plain_view : (p : Part) (text : List ℕ) → p.kind ≡ part'.Plain text → view_part p ≡ shape.plain text
plain_view p text e = part_is p ∙ ap view_part_kind e ∙ plain_is text

pub exact_view : (p : Part) (text : List ℕ) → p.kind ≡ part'.Exact text → view_part p ≡ shape.exact text
exact_view p text e = part_is p ∙ ap view_part_kind e ∙ exact_is text

pub double_view : (p : Part) (ps : List Part) → p.kind ≡ part'.Double ps → view_part p ≡ shape.double (parts_of (map view_part ps))
double_view p ps e = part_is p ∙ ap view_part_kind e ∙ double_is ps

pub tilde_view : (p : Part) → p.kind ≡ part'.Tilde → view_part p ≡ shape.tilde
tilde_view p e = part_is p ∙ ap view_part_kind e ∙ tilde_is

pub param_view : (p : Part) (q : Param) (o : ParamOp) → p.kind ≡ part'.Param q o → view_part p ≡ shape.param (view_param q) (view_op o)
param_view p q o e = part_is p ∙ ap view_part_kind e ∙ param_is q o

pub subst_view : (p : Part) (s : Script) → p.kind ≡ part'.Subst s → view_part p ≡ shape.subst (view s)
subst_view p s e = part_is p ∙ ap view_part_kind e ∙ subst_is s

pub arith_view : (p : Part) (a : Arith) → p.kind ≡ part'.Arith a → view_part p ≡ shape.arith (view_arith a).0 (view_arith a).1
arith_view p a e = part_is p ∙ ap view_part_kind e ∙ arith_part_is a

pub fill_view : (o : ParamOp) (t : FillTest) (colon : Bool) (w : Word) → o ≡ op'.Fill t colon w → view_op o ≡ shape.fill (view_test t) colon (parts_of (map view_part (out-Word w).parts))
fill_view o t colon w e = ap view_op e ∙ fill_is t colon w ∙ ap (λ (ps : shape.Parts). shape.fill (view_test t) colon ps) (word_is w)

pub trim_view : (o : ParamOp) (suffix longest : Bool) (w : Word) → o ≡ op'.Trim suffix longest w → view_op o ≡ shape.trim suffix longest (parts_of (map view_part (out-Word w).parts))
trim_view o suffix longest w e = ap view_op e ∙ trim_is suffix longest w ∙ ap (λ (ps : shape.Parts). shape.trim suffix longest ps) (word_is w)
