-- What is left of numbers in 64 bits.
use Rattle.std.proofs.Common.{◌≡◌, ℕ, zero, suc, ◌*◌, ◌-◌, ◌%◌, ◌/◌, ◌^◌, ◌<◌, ◌≤◌, refl, sym, ◌∙◌, ap, arith, ℤ, pos, negsuc, ◌*ℤ◌, FitsSigned, to_z, of_z, w64, unsigned_abs, int_div, neg_ℤ, Ok, nat_le, nat_lt, int_lt, Bool, true, false, ◌&&◌}
use Rattle.std.specs.Int.{int_wrap, int_wrapping_div}
use Rattle.std.specs.Ordering.{int_eq}
use Rattle.std.specs.Cmp.{signed_Decides}
use Rattle.std.specs.Prelude.{if◌then◌else◌}
use Rattle.std.proofs.lemmas.Nat.{pow_below}
use Rattle.arith64.specs.Values.{value_of}
use Rattle.span_text.specs.declared.expr.BinOp.TheVariants.{ShiftLeft, Divide}
use Rattle.std.proofs.lemmas.Int.{to_z-of_z, wrapping_mul-bits, int_wrap-mul_right}
use Rattle.std.proofs.lemmas.Bool.Decides.{nat_tests}
use Rattle.std.proofs.Math.Nat.{mod-eq_of_lt, div-le_self}

pub near_wraps : (z : ℤ) → unsigned_abs z < 2 ^ 64 → to_z w64 (of_z w64 z) ≡ int_wrap w64 z
unfolding int_wrap
near_wraps (pos n) lt = ap (to_z w64) (sym (mod-eq_of_lt lt))
near_wraps (negsuc n) lt = let e : 18446744073709551616 - suc n ≡ 18446744073709551616 - 1 - n % 18446744073709551616 = omega arith in ap (to_z w64) e

bits_wrap : (n : ℕ) → n < 2 ^ 64 → to_z w64 n ≡ int_wrap w64 (pos n)
unfolding int_wrap
bits_wrap n lt = ap (to_z w64) (sym (mod-eq_of_lt lt))

pub bits_below : (a : ℤ) → FitsSigned w64 a → of_z w64 a < 2 ^ 64
bits_below (pos n) fits = let f : n < 2 ^ 63 = fits.sfits in omega arith
bits_below (negsuc n) fits = omega arith

pub shift_wraps : (a : ℤ) (n : ℕ) → n < 2 ^ 64 → FitsSigned w64 a → to_z w64 ((of_z w64 a * n) % 2 ^ 64) ≡ int_wrap w64 (a *ℤ pos n)
shift_wraps a n lt fits =
    wrapping_mul-bits w64 (of_z w64 a) n (bits_below a fits) lt
    ∙ ap (λ (x : ℤ). int_wrap w64 (x *ℤ to_z w64 n)) (to_z-of_z w64 a fits)
    ∙ ap (λ (x : ℤ). int_wrap w64 (a *ℤ x)) (bits_wrap n lt)
    ∙ int_wrap-mul_right w64 a (pos n)

abs_neg : (q : ℕ) → unsigned_abs (neg_ℤ (pos q)) ≡ q
abs_neg zero = refl
abs_neg (suc q) = refl

quotient_near : (a b : ℤ) → FitsSigned w64 a → unsigned_abs (int_div a b) < 2 ^ 64
quotient_near (pos a) (pos b) fits = let f : a < 2 ^ 63 = fits.sfits in omega (arith, div-le_self a b)
quotient_near (pos a) (negsuc b) fits = let f : a < 2 ^ 63 = fits.sfits in omega (arith, div-le_self a (suc b), abs_neg (a / suc b))
quotient_near (negsuc a) (pos b) fits = let f : a < 2 ^ 63 = fits.sfits in omega (arith, div-le_self (suc a) b, abs_neg (suc a / b))
quotient_near (negsuc a) (negsuc b) fits = let f : a < 2 ^ 63 = fits.sfits in omega (arith, div-le_self (suc a) (suc b))

pub quotient_wraps : (a b : ℤ) → FitsSigned w64 a → to_z w64 (of_z w64 (int_div a b)) ≡ int_wrap w64 (int_div a b)
quotient_wraps a b fits = near_wraps (int_div a b) (quotient_near a b fits)

chosen : {X : Type 0} (k : ℕ) (x y : X) → k ≤ 63 → x ≡ (if nat_le 0 k && nat_le k 63 then x else y)
chosen k x y le = grind (arith, nat_tests)

at_most : (k : ℕ) → nat_lt 63 k ≡ false → k ≤ 63
at_most k e = grind (arith, nat_tests)

pub shift_left_is : (a b d : ℤ) → FitsSigned w64 a → d ≡ b → int_lt d (pos 0) ≡ false → int_lt (pos 63) d ≡ false → Ok (to_z w64 (of_z w64 a * 2 ^ unsigned_abs d % 2 ^ 64)) ≡ value_of ShiftLeft a b
shift_left_is a (negsuc k) d fits e low high = let no : true ≡ false = sym (ap (λ (x : ℤ). int_lt x (pos 0)) e) ∙ low in cc
shift_left_is a (pos k) d fits e low high =
    let le : k ≤ 63 = at_most k (sym (ap (λ (x : ℤ). int_lt (pos 63) x) e) ∙ high) in
    ap (λ (x : ℤ). Ok (to_z w64 (of_z w64 a * 2 ^ unsigned_abs x % 2 ^ 64))) e
    ∙ ap (λ (x : ℤ). Ok x) (shift_wraps a (2 ^ k) (pow_below k 64 (omega arith)) fits)
    ∙ chosen k _ _ le

otherwise : {X : Type 0} (b : Bool) (x y : X) → (b ≡ true → ⊥) → x ≡ (if b then y else x)
otherwise true x y never = absurd (never refl)
otherwise false x y never = refl

pub quotient_is : (a b x y r : ℤ) → FitsSigned w64 a → FitsSigned w64 r → x ≡ a → y ≡ b → r ≡ int_wrapping_div w64 x y → (of_z w64 b ≡ 0 → ⊥) → Ok (to_z w64 (of_z w64 r)) ≡ value_of Divide a b
quotient_is a b x y r fits whole at_a at_b e some =
    ap (λ (z : ℤ). Ok z) (to_z-of_z w64 r whole ∙ e ∙ ap (λ (z : ℤ). int_wrapping_div w64 z y) at_a ∙ ap (λ (z : ℤ). int_wrapping_div w64 a z) at_b ∙ quotient_wraps a b fits)
    ∙ otherwise (int_eq b (pos 0)) _ _ (λ (same : int_eq b (pos 0) ≡ true). some (ap (of_z w64) ((signed_Decides b (pos 0)).0 same)))
