-- What stands open while an expression is evaluated, and what it makes of a value.
use Rattle.std.specs.Prelude.{ℕ, ◌+◌, ◌*◌, List, [], ◌∷◌, Option, Some, None, ℤ, pos, if◌then◌else◌}
use Rattle.span_text.specs.declared.expr.Expr.{Expr}
use Rattle.span_text.specs.declared.expr.Expr.TheOpen.{Expr-F}
use Rattle.span_text.specs.declared.expr.Expr.TheOpen as layer
use Rattle.span_text.specs.declared.expr.Expr.TheFolds.{fold-Expr}
use Rattle.span_text.specs.Expression.{nodes}
use Rattle.arith64.specs.Values.{value_of, truth}
use Rattle.shell_world.specs.Texts.{Text}
use Rattle.sh_meaning.specs.Variables.{Variables}
use Rattle.sh_meaning.specs.Arithmetic.{Sum, ◌>>=◌, gives, ok, is_true, unary_value, stored, applied, evaluated}
use Rattle.sh_sums.specs.declared.frames.Frame.{Frame}
use Rattle.sh_sums.specs.declared.frames.Frame.TheVariants as frame
use Rattle.sh_sums.specs.declared.frames.Turn.{Turn}
use Rattle.sh_sums.specs.declared.frames.Turn.TheVariants as turn

-- the name that an expression is, where it is one
abbrev pub target_step : Expr-F (Option Text) → Option Text
target_step (layer.Name t) = Some t
target_step (layer.Constant n) = None
target_step (layer.Operand k) = None
target_step (layer.Member t a) = None
target_step (layer.Step op a) = None
target_step (layer.Unary op a) = None
target_step (layer.Binary op a b) = None
target_step (layer.And a b) = None
target_step (layer.Or a b) = None
target_step (layer.Comma a b) = None
target_step (layer.Choose a b c) = None
target_step (layer.Assign a op b) = None

unfoldable pub target_name : Expr → Option Text
target_name e = fold-Expr (Option Text) target_step e

-- 1 or 0, and the variables behind it
abbrev pub as_truth : ℤ × Variables → Sum
as_truth y = Some (truth (is_true y.0), y.1)

-- a number that is stored in a variable
abbrev pub stored_in : Text → Sum → Sum
stored_in name r = r >>= stored name

-- what a frame makes of the value that it waits for, with the variables there
abbrev pub resumed : Frame → List ℤ → ℤ × Variables → Sum
resumed (frame.Unary op) ns x = Some (unary_value op x.0, x.1)
resumed (frame.Right op b) ns x = evaluated b.now ns x.1 >>= λ y. gives (ok (value_of op x.0 y.0)) y.1
resumed (frame.Left op a) ns y = gives (ok (value_of op a y.0)) y.1
resumed (frame.And b) ns x = if is_true x.0 then (evaluated b.now ns x.1 >>= as_truth) else Some (pos 0, x.1)
resumed (frame.Or b) ns x = if is_true x.0 then Some (pos 1, x.1) else (evaluated b.now ns x.1 >>= as_truth)
resumed frame.Truth ns y = as_truth y
resumed (frame.Choose b c) ns x = if is_true x.0 then evaluated b.now ns x.1 else evaluated c.now ns x.1
resumed (frame.Store name op old) ns y = stored_in name.now (applied op old y)

-- what frames make of a value, the innermost first
abbrev pub unwound : List Frame → List ℤ → Sum → Sum
unwound [] ns r = r
unwound (f ∷ fs) ns r = unwound fs ns (r >>= resumed f ns)

-- what comes of a turn before frames
abbrev pub meant : Turn → List Frame → List ℤ → Variables → Sum
meant (turn.Down e) fs ns vs = unwound fs ns (evaluated e.now ns vs)
meant (turn.Up n) fs ns vs = unwound fs ns (Some (n, vs))
meant turn.Unclear fs ns vs = None

-- a number that the code gives, and the variables that it leaves
abbrev pub sum_of : Option ℤ → Variables → Sum
sum_of None vs = None
sum_of (Some n) vs = Some (n, vs)

-- ---- how much there is to do, which falls at each turn

abbrev pub frame_weight : Frame → ℕ
frame_weight (frame.Unary op) = 1
frame_weight (frame.Right op b) = 3 * nodes b.now + 2
frame_weight (frame.Left op a) = 1
frame_weight (frame.And b) = 3 * nodes b.now + 2
frame_weight (frame.Or b) = 3 * nodes b.now + 2
frame_weight frame.Truth = 1
frame_weight (frame.Choose b c) = 3 * nodes b.now + 3 * nodes c.now + 1
frame_weight (frame.Store name op old) = 1

abbrev pub frames_weight : List Frame → ℕ
frames_weight [] = 0
frames_weight (f ∷ fs) = frame_weight f + frames_weight fs

abbrev pub turn_weight : Turn → ℕ
turn_weight (turn.Down e) = 3 * nodes e.now
turn_weight (turn.Up n) = 0
turn_weight turn.Unclear = 0
