-- What an expression that is checked says: how many operands there are with its own, behind those before it, if it fits.
use Rattle.std.specs.Prelude.{◌≡◌, ℕ, zero, suc, ◌+◌, ◌-◌, ◌*◌, ◌/◌, ◌<◌, nat_le, ℤ, pos, negsuc, Bool, true, false, ◌&&◌, ◌==◌, map, Option, Some, None, if◌then◌else◌}
use Rattle.span_text.specs.Names.{is_name}
use Rattle.span_text.specs.declared.expr.Expr.{Expr}
use Rattle.span_text.specs.declared.expr.Expr.TheOpen.{Expr-F}
use Rattle.span_text.specs.declared.expr.Expr.TheOpen as open_expr
use Rattle.span_text.specs.declared.expr.Expr.TheViews.{out-Expr}
use Rattle.span_text.specs.declared.sign.Infix.TheVariants as sign
use Rattle.span_text.specs.Expression.{nodes}
use Rattle.span_text.specs.Expressions.{level}
use Rattle.sh_grammar.specs.Expansions.{◌>>=◌}
use Rattle.sh_printer.specs.Chains.{down, next_down}
use Rattle.sh_printer.specs.declared.checking.checks.Given.{Given}
use Rattle.sh_printer.specs.declared.checking.checks.SumCheck.{SumCheck}
use Rattle.sh_printer.specs.declared.checking.checks.SumCheck.TheVariants as sums
use Rattle.sh_printer.specs.declared.checking.checks.SumChecks.{SumChecks}
use Rattle.sh_printer.specs.declared.checking.checks.SumNode.{SumNode}
use Rattle.sh_printer.specs.declared.checking.checks.SumNode.TheVariants as node
use Rattle.sh_printing.specs.Printable.{operand_checks}
use Rattle.sh_printing.specs.Spellable.{is_power, nth_check, placed}
use Rattle.sh_syntax.specs.View.{view_word, words_of}

-- the operands behind those before an expression, if it fits
abbrev pub Counting : Type 0
Counting = ℕ → Option ℕ

-- whether an operand fits, by its number and depth
abbrev pub Check : Type 0
Check = ℕ → ℕ → Bool

-- one behind the other
abbrev pub behind : Counting → Counting → Counting
behind f g n = f n >>= g

abbrev pub known : Bool → Counting
known true n = Some n
known false n = None

-- an expression where one of this level or a tighter one is asked for, so deep
unfoldable pub fits : Check → Expr → (wanted depth : ℕ) → Counting
fits check e wanted d n = (placed check e).fits wanted d n

abbrev pub power_fits : Bool → Check → Expr → (wanted depth : ℕ) → Counting
power_fits true check b wanted d n = None
power_fits false check b wanted d n = fits check b wanted d n

abbrev pub last_step : Check → ℕ → Expr-F Expr → Counting
last_step check d (open_expr.Constant c) n = None
last_step check d (open_expr.Name text) n = None
last_step check d (open_expr.Operand k) n = None
last_step check d (open_expr.Member text a) n = None
last_step check d (open_expr.Unary op a) n = None
last_step check d (open_expr.Step op a) n = None
last_step check d (open_expr.Binary op a b) n = power_fits (is_power op) check b (level (sign.Plain op) + 1) d n
last_step check d (open_expr.And a b) n = fits check b (level sign.And + 1) d n
last_step check d (open_expr.Or a b) n = fits check b (level sign.Or + 1) d n
last_step check d (open_expr.Comma a b) n = None
last_step check d (open_expr.Assign a op b) n = None
last_step check d (open_expr.Choose a b c) n = None

-- the second operand of the last operator of a chain
unfoldable pub last_fits : Check → Expr → ℕ → Counting
last_fits check e d n = last_step check d (out-Expr e) n

-- the last operators of a chain, so many of them
unfoldable pub operators_fit : Check → ℕ → Expr → ℕ → Counting
operators_fit check d e zero m = Some m
operators_fit check d e (suc n) m = operators_fit check d (next_down e) n m >>= last_fits check e d

abbrev pub few_fit : Check → ℕ → Expr → ℕ → Counting
few_fit check d e zero m = Some m
few_fit check d e (suc n) m = last_fits check e d m

-- the same, put together by halves so many times
unfoldable pub halves_fit : Check → ℕ → (bits : ℕ) → Expr → ℕ → Counting
halves_fit check d zero e n m = few_fit check d e n m
halves_fit check d (suc bits) e n m = if nat_le n 1 then few_fit check d e n m else (halves_fit check d bits (down (n / 2) e) (n - n / 2) m >>= halves_fit check d bits e (n / 2))

abbrev pub operand_counts : Check → (number depth : ℕ) → Counting
operand_counts check k d n = if k == n && check k d then Some (suc n) else None

abbrev pub node_counts : Check → SumNode → ℕ → Counting
node_counts check (node.Expr e wanted) d = fits check e.now wanted d
node_counts check (node.Bare e) d = fits check e.now 0 d
node_counts check (node.Links e count bits) d = halves_fit check d bits e.now count

abbrev pub sum_counts : Check → SumCheck → Counting
sum_counts check (sums.Known b) = known b
sum_counts check (sums.Operand k d) = operand_counts check k d
sum_counts check (sums.Node p d) = node_counts check p d

-- ---- in code

abbrev pub check_of : Given → Check
check_of given = nth_check (operand_checks given.in_body (words_of (map view_word given.words.now)))

unfoldable pub counted : Given → SumCheck → Counting
counted given sum n = sum_counts (check_of given) sum n

unfoldable pub operand_counted : Given → (number depth : ℕ) → Counting
operand_counted given k d n = operand_counts (check_of given) k d n

abbrev pub counted_if : Bool → Counting
counted_if b = known b

abbrev pub node_rank : SumNode → ℕ
node_rank (node.Expr e wanted) = 200 * nodes e.now + 102
node_rank (node.Bare e) = 200 * nodes e.now + 100
node_rank (node.Links e count bits) = 200 * nodes e.now + bits

abbrev pub sum_rank : SumCheck → ℕ
sum_rank (sums.Known b) = 0
sum_rank (sums.Operand k d) = 2
sum_rank (sums.Node p d) = node_rank p

-- The pieces count, one behind the other, what this does, and each weighs less than this.
pub record Counts (whole : Check → Counting) (rank : ℕ) (split : SumChecks) : Type 0 where
  pub same : (check : Check) (n : ℕ) → ((sum_counts check split.first n >>= sum_counts check split.second) >>= sum_counts check split.rest) ≡ whole check n
  pub first_less : sum_rank split.first < rank
  pub second_less : sum_rank split.second < rank
  pub rest_less : sum_rank split.rest < rank

-- the pieces of an expression so deep
abbrev pub SumSplits : SumNode → ℕ → SumChecks → Type 0
SumSplits p d split = Counts (λ check. node_counts check p d) (node_rank p) split

-- ---- expressions

abbrev pub is_constant : ℤ → Bool
is_constant (pos n) = true
is_constant (negsuc n) = false

abbrev pub variable_step : Expr-F Expr → Bool
variable_step (open_expr.Constant c) = false
variable_step (open_expr.Name text) = is_name text
variable_step (open_expr.Operand k) = false
variable_step (open_expr.Member text a) = false
variable_step (open_expr.Unary op a) = false
variable_step (open_expr.Step op a) = false
variable_step (open_expr.Binary op a b) = false
variable_step (open_expr.And a b) = false
variable_step (open_expr.Or a b) = false
variable_step (open_expr.Comma a b) = false
variable_step (open_expr.Assign a op b) = false
variable_step (open_expr.Choose a b c) = false

-- a variable alone
abbrev pub is_variable : Expr → Bool
is_variable e = variable_step (out-Expr e)
