-- Which expressions are sh's, a form at a time.
use Rattle.std.proofs.Common.{◌≡◌, ℕ, ℤ, Bool, true, false, List, Option, sym, ap, ◌∙◌}
use Rattle.std.specs.Prelude.{◌&&◌, not}
use Rattle.span_text.specs.declared.expr.Expr.{Expr}
use Rattle.span_text.specs.declared.expr.Expr.TheVariants.{Constant, Name, Member, Operand, Unary, Binary, And, Or, Choose, Assign, Step, Comma, rolls-Constant, rolls-Name, rolls-Member, rolls-Operand, rolls-Unary, rolls-Binary, rolls-And, rolls-Or, rolls-Choose, rolls-Assign, rolls-Step, rolls-Comma}
use Rattle.span_text.specs.declared.expr.Expr.TheOpen as layer
use Rattle.span_text.specs.declared.expr.Expr.TheFolds.{fold-roll-Expr}
use Rattle.span_text.specs.declared.expr.BinOp.{BinOp}
use Rattle.span_text.specs.declared.expr.BinOp.TheVariants as ops
use Rattle.span_text.specs.declared.expr.UnOp.{UnOp}
use Rattle.span_text.specs.declared.expr.StepOp.{StepOp}
use Rattle.sh_grammar.specs.Sums.{is_sh_expr}

pub constant_sh : (n : ℤ) → is_sh_expr (Constant n) ≡ true
unfolding is_sh_expr
constant_sh n = ap is_sh_expr (sym (rolls-Constant n)) ∙ fold-roll-Expr Bool _ (layer.Constant n)

pub name_sh : (t : List ℕ) → is_sh_expr (Name t) ≡ true
unfolding is_sh_expr
name_sh t = ap is_sh_expr (sym (rolls-Name t)) ∙ fold-roll-Expr Bool _ (layer.Name t)

pub operand_sh : (n : ℕ) → is_sh_expr (Operand n) ≡ true
unfolding is_sh_expr
operand_sh n = ap is_sh_expr (sym (rolls-Operand n)) ∙ fold-roll-Expr Bool _ (layer.Operand n)

pub member_sh : (t : List ℕ) (a : Expr) → is_sh_expr (Member t a) ≡ false
unfolding is_sh_expr
member_sh t a = ap is_sh_expr (sym (rolls-Member t a)) ∙ fold-roll-Expr Bool _ (layer.Member t a)

pub unary_sh : (o : UnOp) (a : Expr) → is_sh_expr (Unary o a) ≡ is_sh_expr a
unfolding is_sh_expr
unary_sh o a = ap is_sh_expr (sym (rolls-Unary o a)) ∙ fold-roll-Expr Bool _ (layer.Unary o a)

pub step_sh : (o : StepOp) (a : Expr) → is_sh_expr (Step o a) ≡ false
unfolding is_sh_expr
step_sh o a = ap is_sh_expr (sym (rolls-Step o a)) ∙ fold-roll-Expr Bool _ (layer.Step o a)

abbrev pub is_power : BinOp → Bool
is_power ops.Power = true
is_power op = false

pub binary_sh : (o : BinOp) (a b : Expr) → is_sh_expr (Binary o a b) ≡ (not (is_power o) && (is_sh_expr a && is_sh_expr b))
unfolding is_sh_expr
binary_sh ops.Power a b = ap is_sh_expr (sym (rolls-Binary ops.Power a b)) ∙ fold-roll-Expr Bool _ (layer.Binary ops.Power a b)
binary_sh ops.Times a b = ap is_sh_expr (sym (rolls-Binary ops.Times a b)) ∙ fold-roll-Expr Bool _ (layer.Binary ops.Times a b)
binary_sh ops.Divide a b = ap is_sh_expr (sym (rolls-Binary ops.Divide a b)) ∙ fold-roll-Expr Bool _ (layer.Binary ops.Divide a b)
binary_sh ops.Remainder a b = ap is_sh_expr (sym (rolls-Binary ops.Remainder a b)) ∙ fold-roll-Expr Bool _ (layer.Binary ops.Remainder a b)
binary_sh ops.Add a b = ap is_sh_expr (sym (rolls-Binary ops.Add a b)) ∙ fold-roll-Expr Bool _ (layer.Binary ops.Add a b)
binary_sh ops.Subtract a b = ap is_sh_expr (sym (rolls-Binary ops.Subtract a b)) ∙ fold-roll-Expr Bool _ (layer.Binary ops.Subtract a b)
binary_sh ops.ShiftLeft a b = ap is_sh_expr (sym (rolls-Binary ops.ShiftLeft a b)) ∙ fold-roll-Expr Bool _ (layer.Binary ops.ShiftLeft a b)
binary_sh ops.ShiftRight a b = ap is_sh_expr (sym (rolls-Binary ops.ShiftRight a b)) ∙ fold-roll-Expr Bool _ (layer.Binary ops.ShiftRight a b)
binary_sh ops.Less a b = ap is_sh_expr (sym (rolls-Binary ops.Less a b)) ∙ fold-roll-Expr Bool _ (layer.Binary ops.Less a b)
binary_sh ops.AtMost a b = ap is_sh_expr (sym (rolls-Binary ops.AtMost a b)) ∙ fold-roll-Expr Bool _ (layer.Binary ops.AtMost a b)
binary_sh ops.Greater a b = ap is_sh_expr (sym (rolls-Binary ops.Greater a b)) ∙ fold-roll-Expr Bool _ (layer.Binary ops.Greater a b)
binary_sh ops.AtLeast a b = ap is_sh_expr (sym (rolls-Binary ops.AtLeast a b)) ∙ fold-roll-Expr Bool _ (layer.Binary ops.AtLeast a b)
binary_sh ops.Equal a b = ap is_sh_expr (sym (rolls-Binary ops.Equal a b)) ∙ fold-roll-Expr Bool _ (layer.Binary ops.Equal a b)
binary_sh ops.Unequal a b = ap is_sh_expr (sym (rolls-Binary ops.Unequal a b)) ∙ fold-roll-Expr Bool _ (layer.Binary ops.Unequal a b)
binary_sh ops.BitAnd a b = ap is_sh_expr (sym (rolls-Binary ops.BitAnd a b)) ∙ fold-roll-Expr Bool _ (layer.Binary ops.BitAnd a b)
binary_sh ops.BitXor a b = ap is_sh_expr (sym (rolls-Binary ops.BitXor a b)) ∙ fold-roll-Expr Bool _ (layer.Binary ops.BitXor a b)
binary_sh ops.BitOr a b = ap is_sh_expr (sym (rolls-Binary ops.BitOr a b)) ∙ fold-roll-Expr Bool _ (layer.Binary ops.BitOr a b)

pub and_sh : (a b : Expr) → is_sh_expr (And a b) ≡ (is_sh_expr a && is_sh_expr b)
unfolding is_sh_expr
and_sh a b = ap is_sh_expr (sym (rolls-And a b)) ∙ fold-roll-Expr Bool _ (layer.And a b)

pub or_sh : (a b : Expr) → is_sh_expr (Or a b) ≡ (is_sh_expr a && is_sh_expr b)
unfolding is_sh_expr
or_sh a b = ap is_sh_expr (sym (rolls-Or a b)) ∙ fold-roll-Expr Bool _ (layer.Or a b)

pub assign_sh : (a : Expr) (o : Option BinOp) (b : Expr) → is_sh_expr (Assign a o b) ≡ (is_sh_expr a && is_sh_expr b)
unfolding is_sh_expr
assign_sh a o b = ap is_sh_expr (sym (rolls-Assign a o b)) ∙ fold-roll-Expr Bool _ (layer.Assign a o b)

pub comma_sh : (a b : Expr) → is_sh_expr (Comma a b) ≡ false
unfolding is_sh_expr
comma_sh a b = ap is_sh_expr (sym (rolls-Comma a b)) ∙ fold-roll-Expr Bool _ (layer.Comma a b)

pub choose_sh : (a b c : Expr) → is_sh_expr (Choose a b c) ≡ (is_sh_expr a && (is_sh_expr b && is_sh_expr c))
unfolding is_sh_expr
choose_sh a b c = ap is_sh_expr (sym (rolls-Choose a b c)) ∙ fold-roll-Expr Bool _ (layer.Choose a b c)
