-- How much of an expression there is to drop, which bounds the loop that does it.
use Rattle.std.specs.Prelude.{ℕ, suc, ◌+◌, Option, Some, None}
use Rattle.span_text.specs.declared.expr.Expr.{Expr}
use Rattle.span_text.specs.declared.expr.Expr.TheOpen.{Expr-F}
use Rattle.span_text.specs.declared.expr.Expr.TheOpen as open_expr
use Rattle.span_text.specs.declared.expr.Expr.TheFolds.{fold-Expr}

-- the nodes of an expression; and those of the expressions that wait in it, where it is such a chain
abbrev pub Size : Type 0
Size = ℕ × ℕ

abbrev node : ℕ → Size
node below = (suc below, suc below)

abbrev size_step : Expr-F Size → Size
size_step (open_expr.Constant n) = (1, 0)
size_step (open_expr.Name text) = (1, 0)
size_step (open_expr.Operand n) = (1, 0)
size_step (open_expr.Member text a) = node a.0
size_step (open_expr.Unary op a) = node a.0
size_step (open_expr.Step op a) = node a.0
size_step (open_expr.Binary op a b) = node (a.0 + b.0)
size_step (open_expr.And a b) = node (a.0 + b.0)
size_step (open_expr.Or a b) = node (a.0 + b.0)
size_step (open_expr.Assign a op b) = node (a.0 + b.0)
size_step (open_expr.Comma a others) = (suc (a.0 + others.0), a.0 + others.1)
size_step (open_expr.Choose a b others) = (suc (a.0 + (b.0 + others.0)), a.0 + (b.0 + others.1))

abbrev pub size : Expr → Size
size = fold-Expr Size size_step

abbrev pub nodes : Expr → ℕ
nodes e = (size e).0

abbrev pub waiting : Expr → ℕ
waiting e = (size e).1

-- the nodes of what is dropped next and of what waits, if there is anything
abbrev pub left : Option (Expr × Expr) → ℕ
left None = 0
left (Some next) = nodes next.0 + waiting next.1
