-- Which texts and expressions can stand in a script that some text spells: bytes, quotes, names, reserved words, arithmetic.
use Rattle.std.specs.Prelude.{ℕ, zero, suc, ◌+◌, ℤ, pos, negsuc, Bool, true, false, ◌||◌, ◌&&◌, not, ◌==◌, nat_le, nat_lt, List, [], ◌∷◌, length, Option, Some, None, if◌then◌else◌}
use Rattle.std.specs.List.{list_all}
use Rattle.span_text.specs.Names.{begins_name, continues_name, is_digit, is_name}
use Rattle.span_text.specs.KnownNames.{same_text}
use Rattle.span_text.specs.ExprTokens.{greatest}
use Rattle.span_text.specs.declared.expr.BinOp.{BinOp}
use Rattle.span_text.specs.declared.expr.BinOp.TheVariants.{Power, Times, Divide, Remainder, Add, Subtract, ShiftLeft, ShiftRight, BitAnd, BitXor, BitOr}
use Rattle.span_text.specs.declared.expr.Expr.{Expr}
use Rattle.span_text.specs.declared.expr.Expr.TheOpen.{Expr-F}
use Rattle.span_text.specs.declared.expr.Expr.TheOpen as open_expr
use Rattle.span_text.specs.declared.expr.Expr.TheFolds.{fold-Expr}
use Rattle.span_text.specs.declared.sign.Infix.{Infix}
use Rattle.span_text.specs.declared.sign.Infix.TheVariants as sign
use Rattle.span_text.specs.Expressions.{level, left_level}
use Rattle.sh_grammar.specs.Shape.{Param, named, digits, count, status, at, star, Parts, no_part, part, plain}
use Rattle.sh_grammar.specs.Bytes.{Text, Context, is_join, is_literal, is_escaped, has_single}
use Rattle.sh_grammar.specs.Expansions.{◌>>=◌}
use Rattle.sh_grammar.specs.Steps.{limit, is_empty}
use Rattle.sh_grammar.specs.Tokens.{Key, If, Then, Elif, Else, Fi, For, In, Until, While, Do, Done, Case, Esac, OpenBrace, CloseBrace, Bang, key_text}
use Rattle.sh_printing.specs.Marks.{is_quote}

-- ---- bytes

-- bytes that stand for themselves there, each by what follows it
abbrev pub is_literal_text : Context → Text → Bool
is_literal_text c [] = true
is_literal_text c (b ∷ bs) = not (is_join b bs) && is_literal c b bs && is_literal_text c bs

abbrev pub ends_with : ℕ → Text → Bool
ends_with k [] = false
ends_with k (b ∷ []) = b == k
ends_with k (b ∷ c ∷ bs) = ends_with k (c ∷ bs)

-- There is no join: no newline stands behind a backslash that isn't quoted by another. The Bool: a backslash quotes the first byte.
abbrev pub is_unjoined : Bool → Text → Bool
is_unjoined quoted [] = true
is_unjoined true (b ∷ bs) = is_unjoined false bs
is_unjoined false (b ∷ bs) = not (is_join b bs) && is_unjoined (b == 92) bs

-- What stands in the body of a here-document that is expanded has no joins: they were removed before it was read (2.7.4).
abbrev pub keeps : (inside : Bool) → Text → Bool
keeps false text = true
keeps true text = is_unjoined false text

-- ---- quotes (2.2)

-- a byte that `'..'` quotes
abbrev pub is_exact_byte : ℕ → Bool
is_exact_byte b = not (b == 39 || b == 0)

-- a byte that a backslash quotes; before a newline it is a join
abbrev pub is_escaped_text : Context → Text → Bool
is_escaped_text c [] = false
is_escaped_text c (b ∷ []) = is_escaped c b && not (b == 10)
is_escaped_text c (b ∷ d ∷ bs) = false

abbrev pub exact_fits_by : (single inside : Bool) → Context → Text → Bool
exact_fits_by true inside c text = is_quote text || (list_all is_exact_byte text && keeps inside text)
exact_fits_by false inside c text = is_escaped_text c text

abbrev pub exact_fits : (inside : Bool) → Context → Text → Bool
exact_fits inside c text = exact_fits_by (has_single c) inside c text

-- ---- parameters (2.5)

abbrev pub is_digits : Text → Bool
is_digits text = not (is_empty text) && list_all is_digit text

-- between braces
abbrev pub param_fits : Param → Bool
param_fits (named name) = is_name name
param_fits (digits text) = is_digits text
param_fits count = true
param_fits status = true
param_fits at = true
param_fits star = true

-- several digits stand between braces
abbrev pub is_long : Text → Bool
is_long [] = false
is_long (b ∷ []) = false
is_long (b ∷ c ∷ bs) = true

-- `$a`; with braces, which are a level of nesting, where more of a name follows
abbrev pub bare_fits : ℕ → (more : Bool) → Param → Bool
bare_fits d more (named name) = is_name name && (not more || nat_lt d limit)
bare_fits d more (digits text) = is_digits text && (not (is_long text) || nat_lt d limit)
bare_fits d more count = true
bare_fits d more status = true
bare_fits d more at = true
bare_fits d more star = true

abbrev pub is_count : Param → Bool
is_count (named name) = false
is_count (digits text) = false
is_count count = true
is_count status = false
is_count at = false
is_count star = false

-- ---- words that are something else at their place

-- an assignment's front behind the first byte of its name
abbrev pub equals_behind : Text → Bool
equals_behind [] = false
equals_behind (b ∷ bs) = if continues_name b then equals_behind bs else b == 61

-- `name=` (2.9.1)
abbrev pub begins_assign : Text → Bool
begins_assign [] = false
begins_assign (b ∷ bs) = begins_name b && equals_behind bs

-- the text of this reserved word
abbrev pub is_text : Key → Text → Bool
is_text k text = same_text text (key_text k)

-- a reserved word (2.4)
abbrev pub is_reserved_text : Text → Bool
is_reserved_text text = (is_text If text || is_text For text || is_text While text || is_text Until text || is_text Case text || is_text OpenBrace text)
    || (is_text Then text || is_text Elif text || is_text Else text || is_text Fi text || is_text In text || is_text Do text || is_text Done text || is_text Esac text || is_text CloseBrace text || is_text Bang text)

-- a word that would be a reserved word where a command begins
abbrev pub is_reserved_word : Parts → Bool
is_reserved_word (part (plain text) no_part) = is_reserved_text text
is_reserved_word ps = false

-- the rest of a first part that stands for the home directory: nothing, or what begins with `/` (2.6.1)
abbrev pub begins_with : ℕ → Text → Bool
begins_with k [] = false
begins_with k (b ∷ bs) = b == k

-- ---- arithmetic (2.6.4)

-- What an expression is where it stands: whether it is a variable alone; and, where one of this level or a tighter one is asked for, so
-- deep, with so many operands before it, how many there are with its own, if they fit.
pub record Placed : Type 0 where
  pub is_variable : Bool
  pub fits : ℕ → ℕ → ℕ → Option ℕ

-- the same of an expression of a level of its own, which may need parentheses
abbrev pub Inside : Type 0
Inside = ℕ → ℕ → Option ℕ

abbrev pub one : Inside → Placed
one f = record { is_variable = false; fits = λ wanted d n. f d n }

abbrev nowhere : Placed
nowhere = one (λ d n. None)

abbrev at_level : ℕ → Inside → Placed
at_level own f = record { is_variable = false; fits = λ wanted d n. if nat_le wanted own then f d n else (if nat_lt d limit then f (suc d) n else None) }

abbrev both : ℕ → Placed → ℕ → Placed → Inside
both l a m b d n = a.fits l d n >>= λ k. b.fits m d k

abbrev pub infix_fits : Infix → Placed → Placed → Placed
infix_fits i a b = at_level (level i) (both (left_level i) a (level i + 1) b)

abbrev constant_fits : ℤ → Bool
constant_fits (pos n) = nat_le n greatest
constant_fits (negsuc n) = false

-- an operator that may stand before the `=` of an assignment
abbrev pub assigns : Option BinOp → Bool
assigns None = true
assigns (Some Times) = true
assigns (Some Divide) = true
assigns (Some Remainder) = true
assigns (Some Add) = true
assigns (Some Subtract) = true
assigns (Some ShiftLeft) = true
assigns (Some ShiftRight) = true
assigns (Some BitAnd) = true
assigns (Some BitXor) = true
assigns (Some BitOr) = true
assigns (Some op) = false

abbrev pub is_power : BinOp → Bool
is_power Power = true
is_power op = false

abbrev pub placed_if : Bool → Placed → Placed
placed_if true p = p
placed_if false p = nowhere

-- the operands are numbered in their order, and each fits at its depth
abbrev operand_fits : (ℕ → ℕ → Bool) → ℕ → Inside
operand_fits check k d n = if k == n && check k d then Some (suc n) else None

abbrev pub place_step : (ℕ → ℕ → Bool) → Expr-F Placed → Placed
place_step check (open_expr.Constant n) = placed_if (constant_fits n) (one (λ d n. Some n))
place_step check (open_expr.Name text) = placed_if (is_name text) (record { is_variable = true; fits = λ wanted d n. Some n })
place_step check (open_expr.Operand k) = one (operand_fits check k)
place_step check (open_expr.Member text a) = nowhere
place_step check (open_expr.Unary op a) = at_level 14 (λ d n. a.fits 14 d n)
place_step check (open_expr.Step op a) = nowhere
place_step check (open_expr.Binary op a b) = placed_if (not (is_power op)) (infix_fits (sign.Plain op) a b)
place_step check (open_expr.And a b) = infix_fits sign.And a b
place_step check (open_expr.Or a b) = infix_fits sign.Or a b
place_step check (open_expr.Comma a b) = nowhere
place_step check (open_expr.Assign a op b) = placed_if (a.is_variable && assigns op) (at_level 1 (both 0 a 1 b))
place_step check (open_expr.Choose a b c) = at_level 2 (λ d n. both 3 a 0 b d n >>= λ k. c.fits 2 d k)

-- the expression where it stands, whose operands are checked by their number and depth
unfoldable pub placed : (ℕ → ℕ → Bool) → Expr → Placed
placed check e = fold-Expr Placed (place_step check) e

abbrev pub is_number : ℕ → Option ℕ → Bool
is_number n None = false
is_number n (Some m) = m == n

abbrev pub nth_check : List (ℕ → Bool) → ℕ → ℕ → Bool
nth_check [] k d = false
nth_check (f ∷ fs) zero d = f d
nth_check (f ∷ fs) (suc k) d = nth_check fs k d

-- an expression so deep that has just these operands
abbrev pub sum_fits : List (ℕ → Bool) → ℕ → Expr → Bool
sum_fits checks d e = is_number (length checks) ((placed (nth_check checks) e).fits 0 d 0)
