-- The view of a part by its kind.
use Rattle.std.proofs.Common.{◌≡◌, Bool, List, ap, ◌∙◌}
use Rattle.std.specs.Prelude.{map}
use Rattle.sh_syntax.specs.declared.tree.Arith.{Arith, out-Arith}
use Rattle.sh_syntax.specs.declared.tree.FillTest.{FillTest}
use Rattle.sh_syntax.specs.declared.tree.Param.{Param}
use Rattle.sh_syntax.specs.declared.tree.ParamOp.{ParamOp}
use Rattle.sh_syntax.specs.declared.tree.ParamOp.TheVariants as op'
use Rattle.sh_syntax.specs.declared.tree.Part.{Part}
use Rattle.sh_syntax.specs.declared.tree.PartKind.TheVariants as part'
use Rattle.sh_syntax.specs.declared.tree.Script.{Script}
use Rattle.sh_syntax.specs.declared.tree.Word.{Word, out-Word}
use Rattle.sh_grammar.specs.Bytes.{Text}
use Rattle.sh_grammar.specs.Shape as shape
use Rattle.sh_printing.specs.Printing.{op_opens, parts_open}
use Rattle.sh_syntax.specs.View.{Sum, view, view_op, view_param, view_part, view_part_kind, view_word, parts_of, words_of}
use Rattle.sh_syntax.proofs.Views.{part_is, plain_is, exact_is, double_is, tilde_is, param_is, subst_is, arith_part_is, arith_is, fill_is, trim_is, word_is}

pub plain_view : (p : Part) (text : Text) → p.kind ≡ part'.Plain text → view_part p ≡ shape.plain text
plain_view p text e = part_is p ∙ ap view_part_kind e ∙ plain_is text

pub exact_view : (p : Part) (text : Text) → p.kind ≡ part'.Exact text → view_part p ≡ shape.exact text
exact_view p text e = part_is p ∙ ap view_part_kind e ∙ exact_is text

pub double_view : (p : Part) (ps : List Part) → p.kind ≡ part'.Double ps → view_part p ≡ shape.double (parts_of (map view_part ps))
double_view p ps e = part_is p ∙ ap view_part_kind e ∙ double_is ps

pub tilde_view : (p : Part) → p.kind ≡ part'.Tilde → view_part p ≡ shape.tilde
tilde_view p e = part_is p ∙ ap view_part_kind e ∙ tilde_is

pub param_view : (p : Part) (q : Param) (o : ParamOp) → p.kind ≡ part'.Param q o → view_part p ≡ shape.param (view_param q) (view_op o)
param_view p q o e = part_is p ∙ ap view_part_kind e ∙ param_is q o

pub subst_view : (p : Part) (s : Script) → p.kind ≡ part'.Subst s → view_part p ≡ shape.subst (view s)
subst_view p s e = part_is p ∙ ap view_part_kind e ∙ subst_is s

pub arith_view : (p : Part) (a : Arith) → p.kind ≡ part'.Arith a → view_part p ≡ shape.arith (out-Arith a).expr (words_of (map view_word (out-Arith a).operands))
arith_view p a e = part_is p ∙ ap view_part_kind e ∙ arith_part_is a ∙ ap (λ (s : Sum). shape.arith s.0 s.1) (arith_is a)

pub fill_opens : (o : ParamOp) (t : FillTest) (colon : Bool) (w : Word) → o ≡ op'.Fill t colon w → op_opens (view_op o) ≡ parts_open (parts_of (map view_part (out-Word w).parts))
fill_opens o t colon w e = ap (λ (x : ParamOp). op_opens (view_op x)) e ∙ ap op_opens (fill_is t colon w) ∙ ap parts_open (word_is w)

pub trim_opens : (o : ParamOp) (suffix longest : Bool) (w : Word) → o ≡ op'.Trim suffix longest w → op_opens (view_op o) ≡ parts_open (parts_of (map view_part (out-Word w).parts))
trim_opens o suffix longest w e = ap (λ (x : ParamOp). op_opens (view_op x)) e ∙ ap op_opens (trim_is suffix longest w) ∙ ap parts_open (word_is w)
