-- Reading the tokens of an expression from left to right, with a stack of what stands open.
use Rattle.std.specs.Prelude.{◌≡◌, ℕ, ◌+◌, Bool, true, false, ◌&&◌, nat_le, List, [], ◌∷◌, Option, Some, None, Result, Ok, Err, pos, if◌then◌else◌}
use Rattle.span_text.specs.declared.expr.UnOp.TheVariants as unary
use Rattle.span_text.specs.declared.expr.BinOp.TheVariants.{Add, Subtract}
use Rattle.span_text.specs.declared.expr.StepOp.{StepOp}
use Rattle.span_text.specs.declared.expr.StepOp.TheVariants.{PreAdd, PreSub, PostAdd, PostSub}
use Rattle.span_text.specs.declared.expr.Expr.{Expr}
use Rattle.span_text.specs.declared.expr.Expr.TheVariants as expr
use Rattle.span_text.specs.declared.sign.Infix.{Infix}
use Rattle.span_text.specs.declared.sign.Infix.TheVariants.{Plain}
use Rattle.span_text.specs.declared.sign.Sign.{Sign}
use Rattle.span_text.specs.declared.sign.Sign.TheVariants.{Between, Assign, Not, Complement, Increment, Decrement, Question, Colon, Open, Close, EndIndex}
use Rattle.span_text.specs.ExprTokens.{Token, number, name, indexed, operand, sign}
use Rattle.span_text.specs.Expressions.{joined, level, left_level}
use Rattle.arith64.specs.declared.fault.Stop.{Stop}
use Rattle.arith64.specs.declared.fault.Stop.TheVariants as stop
use Rattle.arith64.specs.declared.frames.Frame.{Frame}
use Rattle.arith64.specs.declared.frames.Frame.TheVariants.{Group, Index, Prefix, Left, Test, Otherwise, Target}
use Rattle.arith64.specs.declared.frames.Slot.{Slot}
use Rattle.arith64.specs.declared.frames.Slot.TheVariants.{Wanted, Stepping, Held}
use Rattle.arith64.specs.declared.frames.Parser.{Parser}

infixl 10 ◌>>=◌
abbrev pub ◌>>=◌ : {A B : Type 0} → Option A → (A → Option B) → Option B
(Some x) >>= f = f x
None >>= f = None

abbrev pub Fails : {Y : Type 0} → Stop → Option Y → Type 0
Fails stop.Memory read = Unit {0}
Fails stop.Bad read = read ≡ None

-- what a function returned is what reading gives, unless memory ran out
abbrev pub Gives : {Y : Type 0} → Result Y Stop → Option Y → Type 0
Gives (Ok x) read = read ≡ Some x
Gives (Err e) read = Fails e read

-- what stands in front of an operator of this level binds its operand first
abbrev pub binds : ℕ → Frame → Bool
binds l Group = false
binds l (Index text step) = false
binds l (Prefix op) = true
binds l (Left op a) = nat_le l (level op)
binds l (Test a) = false
binds l (Otherwise a b) = nat_le l 2
binds l (Target a op) = nat_le l 1

-- the expression of a frame that binds this operand
abbrev pub built : Frame → Expr → Expr
built Group e = e
built (Index text step) e = e
built (Prefix op) e = expr.Unary op e
built (Left op a) e = joined op a e
built (Test a) e = e
built (Otherwise a b) e = expr.Choose a b e
built (Target a op) e = expr.Assign a op e

-- all frames that bind before an operator of this level, with the operand
unfoldable pub reduce : ℕ → List Frame → Expr → List Frame × Expr
reduce l [] e = ([], e)
reduce l (f ∷ fs) e = if binds l f then reduce l fs (built f e) else (f ∷ fs, e)

abbrev pub binds_top : ℕ → List Frame → Bool
binds_top l [] = false
binds_top l (f ∷ fs) = binds l f

-- the top leaves, if it binds before an operator of this level
abbrev pub PopsBinding : ℕ → List Frame → List Frame → Option Frame → Type 0
PopsBinding l before later None = (binds_top l before ≡ false) × (later ≡ before)
PopsBinding l before later (Some f) = (before ≡ f ∷ later) × (binds l f ≡ true)

-- the loosest level of what may stand behind these frames
abbrev pub asked : Frame → ℕ
asked Group = 0
asked (Index text step) = 0
asked (Prefix op) = 14
asked (Left op a) = level op + 1
asked (Test a) = 0
asked (Otherwise a b) = 2
asked (Target a op) = 1

abbrev pub room : List Frame → ℕ
room [] = 0
room (f ∷ fs) = asked f

abbrev pub wanted : List Frame → Option Parser
wanted fs = Some (record { frames = fs; slot = Wanted })

abbrev pub stepping : List Frame → StepOp → Option Parser
stepping fs op = Some (record { frames = fs; slot = Stepping op })

abbrev pub held : List Frame → Expr → Bool → Option Parser
held fs e bare = Some (record { frames = fs; slot = Held e bare })

abbrev pub prefix_at : List Frame → Sign → Option Parser
prefix_at fs (Between (Plain Add)) = wanted (Prefix unary.Plus ∷ fs)
prefix_at fs (Between (Plain Subtract)) = wanted (Prefix unary.Minus ∷ fs)
prefix_at fs Not = wanted (Prefix unary.Not ∷ fs)
prefix_at fs Complement = wanted (Prefix unary.Complement ∷ fs)
prefix_at fs Increment = stepping fs PreAdd
prefix_at fs Decrement = stepping fs PreSub
prefix_at fs Open = wanted (Group ∷ fs)
prefix_at fs s = None

-- where an operand has to come
abbrev pub operand_at : List Frame → Token → Option Parser
operand_at fs (number n) = held fs (expr.Constant (pos n)) false
operand_at fs (operand n) = held fs (expr.Operand n) false
operand_at fs (name text) = held fs (expr.Name text) true
operand_at fs (indexed text) = wanted (Index text None ∷ fs)
operand_at fs (sign s) = prefix_at fs s

-- where a variable has to come
abbrev pub variable_at : List Frame → StepOp → Token → Option Parser
variable_at fs op (name text) = held fs (expr.Step op (expr.Name text)) false
variable_at fs op (indexed text) = wanted (Index text (Some op) ∷ fs)
variable_at fs op (number n) = None
variable_at fs op (operand n) = None
variable_at fs op (sign s) = None

abbrev pub left_at : Infix → List Frame × Expr → Option Parser
left_at op x = if nat_le (room x.0) (level op) then wanted (Left op x.1 ∷ x.0) else None

abbrev pub test_at : List Frame × Expr → Option Parser
test_at x = wanted (Test x.1 ∷ x.0)

abbrev pub otherwise_at : List Frame → Expr → Option Parser
otherwise_at (Test a ∷ fs) b = wanted (Otherwise a b ∷ fs)
otherwise_at fs b = None

abbrev pub close_at : List Frame → Expr → Option Parser
close_at (Group ∷ fs) e = held fs e false
close_at fs e = None

abbrev pub member_at : List Frame → List ℕ → Option StepOp → Expr → Option Parser
member_at fs text None e = held fs (expr.Member text e) true
member_at fs text (Some op) e = held fs (expr.Step op (expr.Member text e)) false

abbrev pub end_index_at : List Frame → Expr → Option Parser
end_index_at (Index text step ∷ fs) e = member_at fs text step e
end_index_at fs e = None

abbrev pub end_at : List Frame × Expr → Sign → Option Parser
end_at x Colon = otherwise_at x.0 x.1
end_at x Close = close_at x.0 x.1
end_at x EndIndex = end_index_at x.0 x.1
end_at x s = None

-- where an operand came
abbrev pub sign_at : List Frame → Expr → Bool → Sign → Option Parser
sign_at fs e bare (Between op) = left_at op (reduce (left_level op) fs e)
sign_at fs e bare (Assign op) = if bare && nat_le (room fs) 1 then wanted (Target e op ∷ fs) else None
sign_at fs e bare Increment = if bare then held fs (expr.Step PostAdd e) false else None
sign_at fs e bare Decrement = if bare then held fs (expr.Step PostSub e) false else None
sign_at fs e bare Question = test_at (reduce 3 fs e)
sign_at fs e bare Colon = end_at (reduce 0 fs e) Colon
sign_at fs e bare Close = end_at (reduce 0 fs e) Close
sign_at fs e bare EndIndex = end_at (reduce 0 fs e) EndIndex
sign_at fs e bare Not = None
sign_at fs e bare Complement = None
sign_at fs e bare Open = None

abbrev pub behind_at : List Frame → Expr → Bool → Token → Option Parser
behind_at fs e bare (sign s) = sign_at fs e bare s
behind_at fs e bare (number n) = None
behind_at fs e bare (operand n) = None
behind_at fs e bare (name text) = None
behind_at fs e bare (indexed text) = None

abbrev pub shift_at : List Frame → Slot → Token → Option Parser
shift_at fs Wanted t = operand_at fs t
shift_at fs (Stepping op) t = variable_at fs op t
shift_at fs (Held e bare) t = behind_at fs e bare t

-- one token more
abbrev pub shift : Parser → Token → Option Parser
shift p t = shift_at p.frames p.slot t

abbrev pub run : Parser → List Token → Option Parser
run p [] = Some p
run p (t ∷ ts) = shift p t >>= λ q. run q ts

abbrev pub only : List Frame × Expr → Option Expr
only ([], e) = Some e
only (f ∷ fs, e) = None

-- the expression, where nothing stands open
abbrev pub accept_at : List Frame → Slot → Option Expr
accept_at fs Wanted = None
accept_at fs (Stepping op) = None
accept_at fs (Held e bare) = only (reduce 0 fs e)

abbrev pub accept : Parser → Option Expr
accept p = accept_at p.frames p.slot

abbrev pub nothing_read : Parser
nothing_read = record { frames = []; slot = Wanted }

-- THE EXPRESSION that these tokens are read as
abbrev pub parsed : List Token → Option Expr
parsed ts = run nothing_read ts >>= accept
