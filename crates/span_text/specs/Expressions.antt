-- Which text spells which arithmetic expression (Bash manual, section 6.5).
use Rattle.std.specs.Prelude.{◌≡◌, ℕ, ◌+◌, ◌<◌, ◌≤◌, Bool, true, false, List, [], ◌∷◌, ◌++◌, length, take, Option, Some, pos, ◌⊎◌}
use Rattle.span_text.specs.declared.expr.UnOp.{UnOp}
use Rattle.span_text.specs.declared.expr.UnOp.TheVariants as unary
use Rattle.span_text.specs.declared.expr.BinOp.{BinOp}
use Rattle.span_text.specs.declared.expr.BinOp.TheVariants.{Power, Times, Divide, Remainder, Add, Subtract, ShiftLeft, ShiftRight, Less, AtMost, Greater, AtLeast, Equal, Unequal, BitAnd, BitXor, BitOr}
use Rattle.span_text.specs.declared.expr.StepOp.{StepOp}
use Rattle.span_text.specs.declared.expr.StepOp.TheVariants.{PreAdd, PreSub, PostAdd, PostSub}
use Rattle.span_text.specs.declared.expr.Expr.{Expr}
use Rattle.span_text.specs.declared.expr.Expr.TheVariants as expr
use Rattle.span_text.specs.declared.sign.Infix.{Infix}
use Rattle.span_text.specs.declared.sign.Infix.TheVariants.{Plain, And, Or, Comma}
use Rattle.span_text.specs.declared.sign.Sign.{Sign}
use Rattle.span_text.specs.declared.sign.Sign.TheVariants.{Between, Assign, Not, Complement, Increment, Decrement, Question, Colon, Open, Close, EndIndex}
use Rattle.span_text.specs.declared.span.Span.{Span}
use Rattle.span_text.specs.ExprTokens.{Cell, cells_of, without_joins, Token, number, name, indexed, operand, sign, gap, tokens}

-- An expression as it is written, with its parentheses.
pub data Form : Type 0 where
  literal : ℕ → Form
  expanded : ℕ → Form
  variable : List ℕ → Form
  member : List ℕ → Form → Form
  group : Form → Form
  prefixed : UnOp → Form → Form
  stepped : StepOp → Form → Form
  between : Infix → Form → Form → Form
  chosen : Form → Form → Form → Form
  assigned : Form → Option BinOp → Form → Form

abbrev pub joined : Infix → Expr → Expr → Expr
joined (Plain op) a b = expr.Binary op a b
joined And a b = expr.And a b
joined Or a b = expr.Or a b
joined Comma a b = expr.Comma a b

-- the expression itself
abbrev pub tree : Form → Expr
tree (literal n) = expr.Constant (pos n)
tree (expanded n) = expr.Operand n
tree (variable text) = expr.Name text
tree (member text f) = expr.Member text (tree f)
tree (group f) = tree f
tree (prefixed op f) = expr.Unary op (tree f)
tree (stepped op f) = expr.Step op (tree f)
tree (between op f g) = joined op (tree f) (tree g)
tree (chosen f g h) = expr.Choose (tree f) (tree g) (tree h)
tree (assigned f op g) = expr.Assign (tree f) op (tree g)

abbrev pub prefix : UnOp → Sign
prefix unary.Plus = Between (Plain Add)
prefix unary.Minus = Between (Plain Subtract)
prefix unary.Not = Not
prefix unary.Complement = Complement

-- what an operator that steps a variable writes before it, and behind it
abbrev pub before_target : StepOp → List Token → List Token
before_target PreAdd ts = sign Increment ∷ ts
before_target PreSub ts = sign Decrement ∷ ts
before_target PostAdd ts = ts
before_target PostSub ts = ts

abbrev pub behind_target : StepOp → List Token → List Token
behind_target PreAdd ts = ts
behind_target PreSub ts = ts
behind_target PostAdd ts = sign Increment ∷ ts
behind_target PostSub ts = sign Decrement ∷ ts

-- the tokens of a form, and others behind them
abbrev pub written : Form → List Token → List Token
written (literal n) ts = number n ∷ ts
written (expanded n) ts = operand n ∷ ts
written (variable text) ts = name text ∷ ts
written (member text f) ts = indexed text ∷ written f (sign EndIndex ∷ ts)
written (group f) ts = sign Open ∷ written f (sign Close ∷ ts)
written (prefixed op f) ts = sign (prefix op) ∷ written f ts
written (stepped op f) ts = before_target op (written f (behind_target op ts))
written (between op f g) ts = written f (sign (Between op) ∷ written g ts)
written (chosen f g h) ts = written f (sign Question ∷ written g (sign Colon ∷ written h ts))
written (assigned f op g) ts = written f (sign (Assign op) ∷ written g ts)

-- The levels of precedence, from the loosest: 0 is the comma, 1 assignments, 2 `?:`, 14 the operators before an operand.
abbrev pub level : Infix → ℕ
level Comma = 0
level Or = 3
level And = 4
level (Plain BitOr) = 5
level (Plain BitXor) = 6
level (Plain BitAnd) = 7
level (Plain Equal) = 8
level (Plain Unequal) = 8
level (Plain Less) = 9
level (Plain AtMost) = 9
level (Plain Greater) = 9
level (Plain AtLeast) = 9
level (Plain ShiftLeft) = 10
level (Plain ShiftRight) = 10
level (Plain Add) = 11
level (Plain Subtract) = 11
level (Plain Times) = 12
level (Plain Divide) = 12
level (Plain Remainder) = 12
level (Plain Power) = 13

-- The level of what stands before such an operator. All group from the left but `**`, which stands in no chain.
abbrev pub left_level : Infix → ℕ
left_level (Plain Power) = 14
left_level op = level op

abbrev pub is_bare : Form → Bool
is_bare (variable text) = true
is_bare (member text f) = true
is_bare f = false

-- the form may stand where an expression of this level or a tighter one is asked for
abbrev pub Fits : ℕ → Form → Type 0
Fits l (literal n) = Unit {0}
Fits l (expanded n) = Unit {0}
Fits l (variable text) = Unit {0}
Fits l (member text f) = Fits 0 f
Fits l (group f) = Fits 0 f
Fits l (prefixed op f) = (l ≤ 14) × Fits 14 f
Fits l (stepped op f) = (is_bare f ≡ true) × Fits 0 f
Fits l (between op f g) = (l ≤ level op) × Fits (left_level op) f × Fits (level op + 1) g
Fits l (chosen f g h) = (l ≤ 2) × Fits 3 f × Fits 0 g × Fits 2 h
Fits l (assigned f op g) = (l ≤ 1) × (is_bare f ≡ true) × Fits 0 f × Fits 1 g

-- the cells spell the expression
pub record Spells (cells : List Cell) (e : Expr) : Type 0 where
  pub form : Form
  pub fits : Fits 0 form
  pub is_written : tokens gap (without_joins false cells) ≡ Some (written form [])
  pub is : tree form ≡ e

-- THE SPELLING: the text, whose expansions have these spans, spells the expression
abbrev pub IsSpelled : List ℕ → List Span → Expr → Type 0
IsSpelled text operands e = Spells (cells_of text operands) e

-- each span has a byte and lies in a text of so many bytes, in order and apart, from an offset on
abbrev pub Apart : ℕ → ℕ → List Span → Type 0
Apart from n [] = Unit {0}
Apart from n (s ∷ ss) = (from ≤ s.from) × (s.from < s.to) × (s.to ≤ n) × Apart s.to n ss

-- the offset is inside of no span
abbrev pub Outside : ℕ → List Span → Type 0
Outside at [] = Unit {0}
Outside at (s ∷ ss) = ((at ≤ s.from) ⊎ (s.to ≤ at)) × Outside at ss

-- The least offset, inside of no span, at which no spelled text has the same cells before it and this cell there, or the
-- text's length where there is none: some spelled text has the same cells before it, and none has this cell too.
pub record IsFirstBad (text : List ℕ) (operands : List Span) (at : ℕ) : Type 0 where
  pub within : at ≤ length text
  pub outside : Outside at operands
  pub goes_on : (more : List Cell) × (e : Expr) × Spells (cells_of (take at text) operands ++ more) e
  pub ends_here : at < length text → (more : List Cell) (e : Expr) → Spells (cells_of (take (at + 1) text) operands ++ more) e → ⊥
