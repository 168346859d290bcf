-- The texts of an expression's pieces, put together; and an expression's pieces, from those of its layer.
use Rattle.std.proofs.Common.{◌≡◌, [], ◌∷◌, ◌++◌, sym, arith, append_assoc}
use Rattle.std.proofs.lemmas.List.{append-nil}
use Rattle.span_text.specs.declared.expr.Expr.{Expr}
use Rattle.span_text.specs.declared.expr.Expr.TheOpen.{Expr-F}
use Rattle.span_text.specs.declared.expr.Expr.TheViews.{roll-Expr}
use Rattle.span_text.specs.declared.expr.Expr.TheFolds.{map-Expr}
use Rattle.span_text.specs.Expression.{nodes}
use Rattle.sh_grammar.specs.Bytes.{Text}
use Rattle.sh_printer.specs.Chains.{layer_nodes}
use Rattle.sh_printer.specs.declared.pieces.Operands.{Operands}
use Rattle.sh_printer.specs.declared.pieces.Split.{Split}
use Rattle.sh_printer.specs.Pieces.{AsLayer, Comes, operand_of, sums_weight}
use Rattle.sh_printer.proofs.Chains.{nodes_is}
use Rattle.sh_printer.proofs.Comings.{coming}
use Rattle.sh_printer.proofs.SumTexts.{text_is}
use Rattle.sh_printing.specs.Sums.{Levelled, expr_step, levelled_text}

pub member_joins : (name index : Text) → (name ++ 91 ∷ []) ++ (index ++ 93 ∷ []) ≡ name ++ 91 ∷ index ++ 93 ∷ []
member_joins name index = simp append_assoc

pub unary_joins : (mark a : Text) → (mark ++ 32 ∷ []) ++ a ≡ mark ++ 32 ∷ a
unary_joins mark a = simp append_assoc

pub step_joins : (before a behind : Text) → (before ++ a) ++ behind ≡ before ++ a ++ behind
step_joins before a behind = simp append_assoc

pub assigned_joins : (a mark b : Text) → (a ++ []) ++ ((32 ∷ mark ++ 32 ∷ []) ++ b) ≡ a ++ 32 ∷ mark ++ 32 ∷ b
assigned_joins a mark b = rw (append-nil a) (simp append_assoc)

pub choice_joins : (a mark b other c : Text) → (a ++ ((32 ∷ mark ++ 32 ∷ []) ++ b)) ++ ((32 ∷ other ++ 32 ∷ []) ++ c) ≡ (a ++ 32 ∷ mark ++ 32 ∷ b) ++ 32 ∷ other ++ 32 ∷ c
choice_joins a mark b other c = simp append_assoc

-- an expression without parentheses of its own
abbrev pub AsExpr : Operands → Expr → Split → Type 0
AsExpr o e split = Comes (λ full. levelled_text (operand_of full o) e 0) (sums_weight o (nodes e)) split

pub opened : (o : Operands) (e : Expr) (x : Expr-F Expr) (split : Split) → e ≡ roll-Expr x → AsLayer o x split → AsExpr o e split
opened o e x split is pieces =
    coming (λ full. expr_step (operand_of full o) (map-Expr Expr Levelled (levelled_text (operand_of full o)) x) 0) (λ full. levelled_text (operand_of full o) e 0) (sums_weight o (layer_nodes x)) (sums_weight o (nodes e)) split
    (λ full. sym (text_is (operand_of full o) e x 0 is)) (omega (arith, nodes_is e x is)) pieces
