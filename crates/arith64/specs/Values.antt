-- What an operator gives: the result in whole numbers, taken modulo 2^64 into the range from -2^63 to 2^63 - 1.
use Rattle.std.specs.Prelude.{ℕ, zero, suc, ◌^◌, Bool, true, false, ◌&&◌, not, Result, Ok, Err, ℤ, pos, ◌+ℤ◌, ◌-ℤ◌, ◌*ℤ◌, int_lt, int_le, int_div, int_rem, unsigned_abs, if◌then◌else◌}
use Rattle.std.specs.Int.{w64, int_wrap, int_bit_and, int_bit_or, int_bit_xor, int_shr}
use Rattle.std.specs.Ordering.{int_eq}
use Rattle.span_text.specs.declared.expr.BinOp.{BinOp}
use Rattle.span_text.specs.declared.expr.BinOp.TheVariants.{Power, Times, Divide, Remainder, Add, Subtract, ShiftLeft, ShiftRight, Less, AtMost, Greater, AtLeast, Equal, Unequal, BitAnd, BitXor, BitOr}
use Rattle.arith64.specs.declared.fault.ArithFault.{ArithFault}
use Rattle.arith64.specs.declared.fault.ArithFault.TheVariants.{DivZero, BadShift, BadPower}

-- a to the power n
unfoldable pub power : ℤ → ℕ → ℤ
power a zero = pos 1
power a (suc n) = a *ℤ power a n

abbrev pub truth : Bool → ℤ
truth true = pos 1
truth false = pos 0

-- from 0 to 63
abbrev pub is_shift : ℤ → Bool
is_shift b = int_le (pos 0) b && int_le b (pos 63)

-- Division rounds to 0, the remainder has the sign of a, and a shift to the right rounds down.
abbrev pub value_of : BinOp → ℤ → ℤ → Result ℤ ArithFault
value_of Power a b = if int_lt b (pos 0) then Err BadPower else Ok (int_wrap w64 (power a (unsigned_abs b)))
value_of Times a b = Ok (int_wrap w64 (a *ℤ b))
value_of Divide a b = if int_eq b (pos 0) then Err DivZero else Ok (int_wrap w64 (int_div a b))
value_of Remainder a b = if int_eq b (pos 0) then Err DivZero else Ok (int_rem a b)
value_of Add a b = Ok (int_wrap w64 (a +ℤ b))
value_of Subtract a b = Ok (int_wrap w64 (a -ℤ b))
value_of ShiftLeft a b = if is_shift b then Ok (int_wrap w64 (a *ℤ pos (2 ^ unsigned_abs b))) else Err BadShift
value_of ShiftRight a b = if is_shift b then Ok (int_shr a (unsigned_abs b)) else Err BadShift
value_of Less a b = Ok (truth (int_lt a b))
value_of AtMost a b = Ok (truth (int_le a b))
value_of Greater a b = Ok (truth (int_lt b a))
value_of AtLeast a b = Ok (truth (int_le b a))
value_of Equal a b = Ok (truth (int_eq a b))
value_of Unequal a b = Ok (truth (not (int_eq a b)))
value_of BitAnd a b = Ok (int_bit_and w64 a b)
value_of BitXor a b = Ok (int_bit_xor w64 a b)
value_of BitOr a b = Ok (int_bit_or w64 a b)
