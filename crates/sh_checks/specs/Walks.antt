-- What is asked of the expressions that are still to be gone over.
use Rattle.std.specs.Prelude.{ℕ, ◌+◌, Bool, false, ◌||◌, List, [], ◌∷◌, ◌++◌, Option, Some, None}
use Rattle.span_text.specs.declared.expr.Expr.{Expr}
use Rattle.span_text.specs.declared.expr.Expr.TheFolds.{fold-Expr}
use Rattle.span_text.specs.Expression.{nodes}
use Rattle.span_text.specs.KnownNames.{is_among}
use Rattle.sh_meaning.specs.Arithmetic.{Behind, behind_step, if_so}
use Rattle.sh_meaning.specs.Lists.{is_used_in_sum}
use Rattle.sh_checks.specs.declared.sums.Leaf.{Leaf}
use Rattle.sh_checks.specs.declared.sums.Leaf.TheVariants.{Nothing, Name, Operand}
use Rattle.sh_checks.specs.declared.sums.Split.{Split}
use Rattle.sh_checks.specs.declared.sums.Waiting.{Waiting}

-- the operands behind a sign in an expression that stands behind one or not
abbrev pub behind : Expr → Bool → List ℕ
behind e = fold-Expr Behind behind_step e

-- those of expressions, one behind the other
abbrev pub signs_of : List Waiting → List ℕ
signs_of [] = []
signs_of (w ∷ ws) = behind w.expr.now w.signed ++ signs_of ws

abbrev pub any_uses : List (List ℕ) → List Waiting → Bool
any_uses names [] = false
any_uses names (w ∷ ws) = is_used_in_sum names w.expr.now || any_uses names ws

-- how much there is to do
abbrev pub nodes_in : List Waiting → ℕ
nodes_in [] = 0
nodes_in (w ∷ ws) = nodes w.expr.now + nodes_in ws

-- ---- what an expression is made of

abbrev pub leaf_signs : (signed : Bool) → Leaf → List ℕ
leaf_signs signed Nothing = []
leaf_signs signed (Name text) = []
leaf_signs signed (Operand k) = if_so signed k

abbrev pub leaf_uses : List (List ℕ) → Leaf → Bool
leaf_uses names Nothing = false
leaf_uses names (Name text) = is_among names text.now
leaf_uses names (Operand k) = false

abbrev pub taken : Option Waiting → List Waiting
taken None = []
taken (Some w) = w ∷ []

abbrev pub below : Split → List Waiting
below s = taken s.first ++ (taken s.second ++ taken s.third)
