-- Chains of operators between operands, as `a + b - c`, whose first operands stand without parentheses (POSIX 2.6.4).
use Rattle.std.specs.Prelude.{◌≡◌, ℕ, zero, suc, ◌+◌, ◌-◌, ◌/◌, ◌<◌, nat_le, Bool, true, false, [], ◌∷◌, ◌++◌, Option, Some, None, codes, if◌then◌else◌}
use Rattle.span_text.specs.declared.expr.Expr.{Expr}
use Rattle.span_text.specs.declared.expr.Expr.TheOpen.{Expr-F}
use Rattle.span_text.specs.declared.expr.Expr.TheOpen as open_expr
use Rattle.span_text.specs.declared.expr.Expr.TheViews.{out-Expr}
use Rattle.span_text.specs.declared.sign.Infix.{Infix}
use Rattle.span_text.specs.declared.sign.Infix.TheVariants as sign
use Rattle.span_text.specs.Expression.{nodes}
use Rattle.span_text.specs.Expressions.{level, left_level}
use Rattle.sh_grammar.specs.Bytes.{Text}
use Rattle.sh_printer.specs.Levels.{own_level}
use Rattle.sh_printing.specs.Sums.{binary_text, levelled_text}

-- the expression, where it stands without parentheses where one of this level or a tighter one is asked for
abbrev pub if_bare : (wanted : ℕ) → Expr → Option Expr
if_bare wanted e = if nat_le wanted (own_level e) then Some e else None

abbrev pub first_step : Expr-F Expr → Option Expr
first_step (open_expr.Constant n) = None
first_step (open_expr.Name text) = None
first_step (open_expr.Operand n) = None
first_step (open_expr.Member text a) = None
first_step (open_expr.Unary op a) = None
first_step (open_expr.Step op a) = None
first_step (open_expr.Binary op a b) = if_bare (left_level (sign.Plain op)) a
first_step (open_expr.And a b) = if_bare (left_level sign.And) a
first_step (open_expr.Or a b) = if_bare (left_level sign.Or) a
first_step (open_expr.Comma a b) = if_bare (left_level sign.Comma) a
first_step (open_expr.Assign a op b) = None
first_step (open_expr.Choose a b c) = None

-- the first operand of an operator between operands, where it stands without parentheses
abbrev pub first_of : Expr → Option Expr
first_of e = first_step (out-Expr e)

abbrev pub has_first_by : Option Expr → Bool
has_first_by None = false
has_first_by (Some a) = true

abbrev pub has_first : Expr → Bool
has_first e = has_first_by (first_of e)

abbrev pub next_by : Expr → Option Expr → Expr
next_by e None = e
next_by e (Some a) = a

-- that operand, or the expression itself
abbrev pub next_down : Expr → Expr
next_down e = next_by e (first_of e)

-- the expression so many first operands down
unfoldable pub down : ℕ → Expr → Expr
down zero e = e
down (suc n) e = down n (next_down e)

abbrev operator_text : (ℕ → Text) → Infix → Text → Expr → Text
operator_text operand i mark b = (32 ∷ mark ++ 32 ∷ []) ++ levelled_text operand b (level i + 1)

abbrev pub last_step : (ℕ → Text) → Expr-F Expr → Text
last_step operand (open_expr.Constant n) = []
last_step operand (open_expr.Name text) = []
last_step operand (open_expr.Operand n) = []
last_step operand (open_expr.Member text a) = []
last_step operand (open_expr.Unary op a) = []
last_step operand (open_expr.Step op a) = []
last_step operand (open_expr.Binary op a b) = operator_text operand (sign.Plain op) (binary_text op) b
last_step operand (open_expr.And a b) = operator_text operand sign.And (codes "&&") b
last_step operand (open_expr.Or a b) = operator_text operand sign.Or (codes "||") b
last_step operand (open_expr.Comma a b) = operator_text operand sign.Comma (codes ",") b
last_step operand (open_expr.Assign a op b) = []
last_step operand (open_expr.Choose a b c) = []

-- the last operator of a chain, and the operand behind it
abbrev pub last_operator : (ℕ → Text) → Expr → Text
last_operator operand e = last_step operand (out-Expr e)

-- the last operators of a chain, so many of them, each with the operand behind it
unfoldable pub operators_text : (ℕ → Text) → Expr → ℕ → Text
operators_text operand e zero = []
operators_text operand e (suc n) = operators_text operand (next_down e) n ++ last_operator operand e

abbrev pub few_text : (ℕ → Text) → Expr → ℕ → Text
few_text operand e zero = []
few_text operand e (suc n) = last_operator operand e

-- the same, put together by halves so many times
unfoldable pub halves_text : (ℕ → Text) → (bits : ℕ) → Expr → ℕ → Text
halves_text operand zero e n = few_text operand e n
halves_text operand (suc bits) e n = if nat_le n 1 then few_text operand e n else halves_text operand bits (down (n / 2) e) (n - n / 2) ++ halves_text operand bits e (n / 2)

-- each of so many first operands stands without parentheses
abbrev pub Chained : ℕ → Expr → Type 0
Chained n e = (k : ℕ) → k < n → has_first (down k e) ≡ true

-- how many nodes an expression has that was opened once
abbrev pub layer_nodes : Expr-F Expr → ℕ
layer_nodes (open_expr.Constant n) = 1
layer_nodes (open_expr.Name text) = 1
layer_nodes (open_expr.Operand n) = 1
layer_nodes (open_expr.Member text a) = suc (nodes a)
layer_nodes (open_expr.Unary op a) = suc (nodes a)
layer_nodes (open_expr.Step op a) = suc (nodes a)
layer_nodes (open_expr.Binary op a b) = suc (nodes a + nodes b)
layer_nodes (open_expr.And a b) = suc (nodes a + nodes b)
layer_nodes (open_expr.Or a b) = suc (nodes a + nodes b)
layer_nodes (open_expr.Comma a b) = suc (nodes a + nodes b)
layer_nodes (open_expr.Assign a op b) = suc (nodes a + nodes b)
layer_nodes (open_expr.Choose a b c) = suc (nodes a + (nodes b + nodes c))
