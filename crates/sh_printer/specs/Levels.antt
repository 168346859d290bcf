-- How tight an arithmetic expression is: the level of its outermost operator.
use Rattle.std.specs.Prelude.{ℕ}
use Rattle.span_text.specs.declared.expr.Expr.{Expr}
use Rattle.span_text.specs.declared.expr.Expr.TheOpen.{Expr-F}
use Rattle.span_text.specs.declared.expr.Expr.TheOpen as open_expr
use Rattle.span_text.specs.declared.expr.Expr.TheFolds.{fold-Expr}
use Rattle.span_text.specs.declared.sign.Infix.TheVariants as sign
use Rattle.span_text.specs.Expressions.{level}

abbrev pub level_step : Expr-F ℕ → ℕ
level_step (open_expr.Constant n) = 15
level_step (open_expr.Name text) = 15
level_step (open_expr.Operand n) = 15
level_step (open_expr.Member text a) = 15
level_step (open_expr.Unary op a) = 14
level_step (open_expr.Step op a) = 14
level_step (open_expr.Binary op a b) = level (sign.Plain op)
level_step (open_expr.And a b) = level sign.And
level_step (open_expr.Or a b) = level sign.Or
level_step (open_expr.Comma a b) = level sign.Comma
level_step (open_expr.Assign a op b) = 1
level_step (open_expr.Choose a b c) = 2

-- 0 is the comma, 15 what stands for itself
abbrev pub own_level : Expr → ℕ
own_level = fold-Expr ℕ level_step
