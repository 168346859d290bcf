-- Powers by squaring, and powers modulo 2^64 as powers in whole numbers.
use Rattle.std.proofs.Common.{◌≡◌, ℕ, zero, suc, ◌*◌, ◌+◌, ◌%◌, ◌/◌, ◌^◌, ◌<◌, sym, ◌∙◌, ap, arith, ℤ, ◌*ℤ◌, FitsSigned, to_z, of_z, w64}
use Rattle.std.specs.Int.{int_wrap}
use Rattle.std.proofs.lemmas.Int.{to_z-of_z, wrapping_mul-bits, int_wrap-mul_right}
use Rattle.std.proofs.lemmas.Nat.{mul-mod_second, mul-mod_first, mul-pow, pow-add, mod_below, pow-mod}
use Rattle.std.proofs.Math.Nat.{pow-suc, pow-zero, mul_comm, mul_assoc, mul_right_comm}
use Rattle.arith64.specs.Values.{power}
use Rattle.arith64.proofs.Wraps.{bits_below}

-- a factor and a power whose base is cut to m
cut : (p b k m : ℕ) → (p * (b % m) ^ k) % m ≡ (p * b ^ k) % m
cut p b k m = sym (mul-mod_second p ((b % m) ^ k) m) ∙ ap (λ (x : ℕ). (p * x) % m) (pow-mod b k m) ∙ mul-mod_second p (b ^ k) m

squared : (b k : ℕ) → (b * b) ^ k ≡ b ^ (k + k)
squared b k = mul-pow b b k ∙ sym (pow-add b k k)

pub even_step : (p b e m : ℕ) → (e % 2 ≡ 1 → ⊥) → (p * ((b * b) % m) ^ (e / 2)) % m ≡ (p * b ^ e) % m
even_step p b e m h = let twice : e / 2 + e / 2 ≡ e = omega arith in
    cut p (b * b) (e / 2) m ∙ ap (λ (x : ℕ). (p * x) % m) (squared b (e / 2) ∙ ap (λ (x : ℕ). b ^ x) twice)

pub odd_step : (p b e m : ℕ) → e % 2 ≡ 1 → ((p * b) % m * ((b * b) % m) ^ (e / 2)) % m ≡ (p * b ^ e) % m
odd_step p b e m h = let twice : suc (e / 2 + e / 2) ≡ e = omega arith in
    mul-mod_first (p * b) (((b * b) % m) ^ (e / 2)) m ∙ cut (p * b) (b * b) (e / 2) m
    ∙ ap (λ (x : ℕ). x % m) (ap (λ (x : ℕ). p * b * x) (squared b (e / 2)) ∙ mul_right_comm p b _ ∙ mul_assoc p _ b
    ∙ ap (λ (x : ℕ). p * x) (sym (pow-suc b (e / 2 + e / 2)) ∙ ap (λ (x : ℕ). b ^ x) twice))

pub last_step : (p b e m : ℕ) → e ≡ 0 → (p * b ^ e) % m ≡ p % m
last_step p b e m h = let one : p * 1 ≡ p = omega arith in ap (λ (x : ℕ). (p * b ^ x) % m) h ∙ ap (λ (x : ℕ). (p * x) % m) (pow-zero b) ∙ ap (λ (x : ℕ). x % m) one

-- the bits of a power
pub bits_of_power : (a : ℤ) (n : ℕ) → FitsSigned w64 a → to_z w64 ((of_z w64 a ^ n) % 2 ^ 64) ≡ int_wrap w64 (power a n)
unfolding power int_wrap
bits_of_power a zero fits = ap (λ (x : ℕ). to_z w64 (x % 2 ^ 64)) (pow-zero (of_z w64 a))
bits_of_power a (suc n) fits =
    let m = of_z w64 a in
    let split : m ^ suc n % 2 ^ 64 ≡ (m ^ n % 2 ^ 64 * m) % 2 ^ 64 = ap (λ (x : ℕ). x % 2 ^ 64) (pow-suc m n) ∙ sym (mul-mod_first (m ^ n) m (2 ^ 64)) in
    let swap : m ^ n % 2 ^ 64 * m ≡ m * (m ^ n % 2 ^ 64) = mul_comm _ _ in
    let low : m ^ n % 2 ^ 64 < 2 ^ 64 = mod_below (m ^ n) (2 ^ 64) (omega arith) in
    ap (to_z w64) (split ∙ ap (λ (x : ℕ). x % 2 ^ 64) swap)
    ∙ wrapping_mul-bits w64 m (m ^ n % 2 ^ 64) (bits_below a fits) low
    ∙ ap (λ (x : ℤ). int_wrap w64 (x *ℤ to_z w64 (m ^ n % 2 ^ 64))) (to_z-of_z w64 a fits)
    ∙ ap (λ (x : ℤ). int_wrap w64 (a *ℤ x)) (bits_of_power a n fits)
    ∙ int_wrap-mul_right w64 a (power a n)
