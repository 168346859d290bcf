-- Reading the cells of an expression from left to right.
use Rattle.std.specs.Prelude.{ℕ, ◌-◌, Bool, true, false, ◌||◌, ◌==◌, nat_le, List, [], ◌∷◌, ◌++◌, Option, Some, None, if◌then◌else◌}
use Rattle.span_text.specs.declared.expr.BinOp.TheVariants.{Times, Divide, Remainder, Add, Subtract, ShiftLeft, ShiftRight, Less, Greater, BitAnd, BitXor, BitOr}
use Rattle.span_text.specs.declared.expr.Expr.{Expr}
use Rattle.span_text.specs.declared.sign.Infix.TheVariants.{Plain}
use Rattle.span_text.specs.declared.sign.Sign.{Sign}
use Rattle.span_text.specs.declared.sign.Sign.TheVariants.{Between, Assign, Not}
use Rattle.span_text.specs.Names.{begins_name, continues_name}
use Rattle.span_text.specs.ExprTokens.{Cell, byte, expansion, is_byte, is_gap, sign_of, longer, greatest, number, name, indexed, operand, sign}
use Rattle.arith64.specs.declared.frames.Slot.{Slot}
use Rattle.arith64.specs.declared.frames.Slot.TheVariants.{Wanted, Stepping, Held}
use Rattle.arith64.specs.declared.frames.Parser.{Parser}
use Rattle.arith64.specs.declared.pending.Digits.{Digits}
use Rattle.arith64.specs.declared.pending.Digits.TheVariants.{Zero, Octal, Decimal, Hexadecimal}
use Rattle.arith64.specs.declared.pending.Pending.{Pending}
use Rattle.arith64.specs.declared.pending.Pending.TheVariants.{Gap, Name, Number, Operator}
use Rattle.arith64.specs.declared.reader.Reader.{Reader}
use Rattle.arith64.specs.Digits.{with_digit}
use Rattle.arith64.specs.Parsing.{◌>>=◌, shift, accept, nothing_read}

-- ---- constants

abbrev pub as_octal : Option ℕ → Option Digits
as_octal None = None
as_octal (Some n) = Some (Octal n)

abbrev pub as_decimal : Option ℕ → Option Digits
as_decimal None = None
as_decimal (Some n) = Some (Decimal n)

abbrev pub as_hexadecimal : Option ℕ → Option Digits
as_hexadecimal None = None
as_hexadecimal (Some n) = Some (Hexadecimal (Some n))

abbrev pub first_digit : ℕ → Digits
first_digit b = if b == 48 then Zero else Decimal (b - 48)

-- the digits with one byte more, where a constant begins so
abbrev pub next_digit : Digits → ℕ → Option Digits
next_digit Zero b = if b == 120 || b == 88 then Some (Hexadecimal None) else as_octal (with_digit greatest 8 0 b)
next_digit (Octal n) b = as_octal (with_digit greatest 8 n b)
next_digit (Decimal n) b = as_decimal (with_digit greatest 10 n b)
next_digit (Hexadecimal None) b = as_hexadecimal (with_digit greatest 16 0 b)
next_digit (Hexadecimal (Some n)) b = as_hexadecimal (with_digit greatest 16 n b)

abbrev pub value_of_digits : Digits → Option ℕ
value_of_digits Zero = Some 0
value_of_digits (Octal n) = Some n
value_of_digits (Decimal n) = Some n
value_of_digits (Hexadecimal n) = n

-- ---- what may become longer

-- the sign may become longer with one byte more
abbrev pub may_grow : Sign → Bool
may_grow (Between (Plain Add)) = true
may_grow (Between (Plain Subtract)) = true
may_grow (Between (Plain Times)) = true
may_grow (Between (Plain Divide)) = true
may_grow (Between (Plain Remainder)) = true
may_grow (Between (Plain Less)) = true
may_grow (Between (Plain Greater)) = true
may_grow (Between (Plain ShiftLeft)) = true
may_grow (Between (Plain ShiftRight)) = true
may_grow (Between (Plain BitAnd)) = true
may_grow (Between (Plain BitXor)) = true
may_grow (Between (Plain BitOr)) = true
may_grow (Assign None) = true
may_grow Not = true
may_grow s = false

abbrev pub is_prefix : Sign → Bool
is_prefix (Between (Plain Add)) = true
is_prefix (Between (Plain Subtract)) = true
is_prefix Not = true
is_prefix s = false

-- the sign, which may become longer, or one that it becomes may stand here
abbrev pub opens : Slot → Sign → Bool
opens Wanted s = is_prefix s
opens (Stepping op) s = false
opens (Held e bare) s = true

abbrev pub wants_operand : Slot → Bool
wants_operand Wanted = true
wants_operand (Stepping op) = false
wants_operand (Held e bare) = false

abbrev pub wants_variable : Slot → Bool
wants_variable Wanted = true
wants_variable (Stepping op) = true
wants_variable (Held e bare) = false

-- ---- one cell more

abbrev pub settled : Option Parser → Option (Pending × Parser)
settled None = None
settled (Some p) = Some (Gap, p)

abbrev pub enter_word : Parser → ℕ → Option (Pending × Parser)
enter_word p b = if begins_name b then (if wants_variable p.slot then Some (Name (b ∷ []), p) else None) else (if wants_operand p.slot then Some (Number (first_digit b), p) else None)

abbrev pub enter_sign : Parser → Sign → Option (Pending × Parser)
enter_sign p s = if may_grow s then (if opens p.slot s then Some (Operator s, p) else None) else settled (shift p (sign s))

abbrev pub enter_sign_if : Parser → Option Sign → Option (Pending × Parser)
enter_sign_if p None = None
enter_sign_if p (Some s) = enter_sign p s

abbrev pub start : Parser → Cell → Option (Pending × Parser)
start p (expansion n) = settled (shift p (operand n))
start p (byte b) = if is_gap b then Some (Gap, p) else (if continues_name b then enter_word p b else enter_sign_if p (sign_of b))

abbrev pub number_at : Parser → ℕ → Option Parser
number_at p n = if nat_le n greatest then shift p (number n) else None

abbrev pub finish : Parser → Pending → Option Parser
finish p Gap = Some p
finish p (Name text) = shift p (name text)
finish p (Number digits) = value_of_digits digits >>= number_at p
finish p (Operator s) = shift p (sign s)

abbrev pub flush : Parser → Pending → Cell → Option (Pending × Parser)
flush p x c = finish p x >>= λ q. start q c

abbrev pub as_number : Parser → Option Digits → Option (Pending × Parser)
as_number p None = None
as_number p (Some digits) = Some (Number digits, p)

abbrev pub more_name : Parser → List ℕ → ℕ → Option (Pending × Parser)
more_name p text b = if continues_name b then Some (Name (text ++ b ∷ []), p) else (if b == 91 then settled (shift p (indexed text)) else flush p (Name text) (byte b))

abbrev pub more_number : Parser → Digits → ℕ → Option (Pending × Parser)
more_number p digits b = if continues_name b then as_number p (next_digit digits b) else flush p (Number digits) (byte b)

abbrev pub more_sign : Parser → Sign → Option Sign → ℕ → Option (Pending × Parser)
more_sign p s None b = flush p (Operator s) (byte b)
more_sign p s (Some t) b = enter_sign p t

abbrev pub step : Parser → Pending → Cell → Option (Pending × Parser)
step p x (expansion n) = flush p x (expansion n)
step p Gap (byte b) = start p (byte b)
step p (Name text) (byte b) = more_name p text b
step p (Number digits) (byte b) = more_number p digits b
step p (Operator s) (byte b) = more_sign p s (longer s b) b

abbrev pub reader : Bool → Pending × Parser → Reader
reader joins x = record { joins = joins; pending = x.0; parser = x.1 }

abbrev pub placed : Option (Pending × Parser) → Option Reader
placed None = None
placed (Some x) = Some (reader false x)

abbrev pub read_cell : Reader → Cell → Option Reader
read_cell r c = if r.joins then (if is_byte 10 c then Some (reader false (r.pending, r.parser)) else None)
    else (if is_byte 92 c then Some (reader true (r.pending, r.parser)) else placed (step r.parser r.pending c))

abbrev pub read_cells : Reader → List Cell → Option Reader
read_cells r [] = Some r
read_cells r (c ∷ cs) = read_cell r c >>= λ q. read_cells q cs

-- the expression, where the cells end here
abbrev pub read_end : Reader → Option Expr
read_end r = if r.joins then None else (finish r.parser r.pending >>= accept)

abbrev pub at_start : Reader
at_start = record { joins = false; pending = Gap; parser = nothing_read }
