-- Arithmetic expansions (POSIX 2.6.4): which of their bytes and operands spell an expression of sh.
use Rattle.std.specs.Prelude.{ℕ, ◌+◌, Bool, true, false, ◌&&◌, ◌||◌, not, ◌==◌, List, [], ◌∷◌, ◌++◌, length, Option, Some, None, if◌then◌else◌}
use Rattle.span_text.specs.declared.expr.Expr.{Expr}
use Rattle.span_text.specs.declared.expr.Expr.TheOpen.{Expr-F}
use Rattle.span_text.specs.declared.expr.Expr.TheOpen as open_expr
use Rattle.span_text.specs.declared.expr.Expr.TheFolds.{fold-Expr}
use Rattle.span_text.specs.declared.expr.BinOp.{BinOp}
use Rattle.span_text.specs.declared.expr.BinOp.TheVariants.{Power}
use Rattle.span_text.specs.ExprTokens.{gap, tokens, cells_of, without_joins}
use Rattle.arith64.specs.Parsing.{parsed}
use Rattle.sh_grammar.specs.Bytes.{Text, is_bare_dollar}
use Rattle.sh_grammar.specs.Expansions.{◌>>=◌}
use Rattle.sh_grammar.specs.State.{Sum}

abbrev is_power : BinOp → Bool
is_power Power = true
is_power op = false

-- sh has no `**`, no `++` and `--`, no comma and no members
abbrev sh_step : Expr-F Bool → Bool
sh_step (open_expr.Constant n) = true
sh_step (open_expr.Name text) = true
sh_step (open_expr.Operand n) = true
sh_step (open_expr.Member text a) = false
sh_step (open_expr.Unary op a) = a
sh_step (open_expr.Step op a) = false
sh_step (open_expr.Binary op a b) = not (is_power op) && (a && b)
sh_step (open_expr.And a b) = a && b
sh_step (open_expr.Or a b) = a && b
sh_step (open_expr.Assign a op b) = a && b
sh_step (open_expr.Comma a b) = false
sh_step (open_expr.Choose a b c) = a && (b && c)

unfoldable pub is_sh_expr : Expr → Bool
is_sh_expr = fold-Expr Bool sh_step

abbrev if_sh : Expr → Option Expr
if_sh e = if is_sh_expr e then Some e else None

-- The expression of the text, whose operands have these spans.
unfoldable pub expression : Sum → Option Expr
expression s = tokens gap (without_joins false (cells_of s.text s.operands)) >>= λ ts. parsed ts >>= λ e. if_sh e

-- ---- bytes

-- a byte of an arithmetic expansion: no parenthesis, no NUL, and no `$` that begins an expansion
abbrev pub is_sum_byte : ℕ → Text → Bool
is_sum_byte b bs = not (b == 40 || b == 41 || b == 0 || b == 36) || (b == 36 && is_bare_dollar bs)

-- the bytes up to a parenthesis or an expansion, joins among them
unfoldable pub sum_run : Text → Text × Text
sum_run [] = ([], [])
sum_run (b ∷ bs) = if is_sum_byte b bs then (b ∷ (sum_run bs).0, (sum_run bs).1) else ([], b ∷ bs)

-- ---- the innermost that stands open

abbrev pub with_bytes : Text → List Sum → List Sum
with_bytes t [] = []
with_bytes t (x ∷ xs) = record x { text = x.text ++ t } ∷ xs

-- an operand is a byte, `$`, with a span of its own
abbrev pub with_operand : List Sum → List Sum
with_operand [] = []
with_operand (x ∷ xs) = record { text = x.text ++ 36 ∷ []; operands = x.operands ++ record { from = length x.text; to = length x.text + 1 } ∷ [] } ∷ xs

abbrev pub no_sum : Sum
no_sum = record { text = []; operands = [] }

abbrev pub innermost : List Sum → Option Expr
innermost [] = None
innermost (x ∷ xs) = expression x

abbrev pub without_innermost : List Sum → List Sum
without_innermost [] = []
without_innermost (x ∷ xs) = xs
