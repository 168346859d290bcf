-- Small tools on tests, options and numbers.
use Rattle.std.proofs.Common.{◌≡◌, ℕ, zero, suc, ◌+◌, ◌*◌, ◌≤◌, Bool, true, false, cond, Option, Some, None, refl, ◌⊎◌, inl, inr, arith}
use Rattle.std.specs.Prelude.{◌||◌, ◌&&◌}
use Rattle.text_grammar.specs.Ranks.{bonus}
use Rattle.text_grammar.specs.Language.{one_if}
use Rattle.text_grammar.specs.Reading.{◌>>=◌}

pub chosen : {A : Type 0} (b : Bool) (x y z : A) → cond b x y ≡ z → ((b ≡ true) × (x ≡ z)) ⊎ ((b ≡ false) × (y ≡ z))
chosen true x y z e = inl (refl, e)
chosen false x y z e = inr (refl, e)

pub some_is : {A : Type 0} (x y : A) → Some x ≡ Some y → x ≡ y
some_is x y e = cc

pub bind_some : {A B : Type 0} (r : Option A) (f : A → Option B) (y : B) → (r >>= f) ≡ Some y → (x : A) × (r ≡ Some x) × (f x ≡ Some y)
bind_some (Some x) f y e = (x, refl, e)
bind_some None f y e = absurd cc

pub both_true : (a b : Bool) → (a && b) ≡ true → (a ≡ true) × (b ≡ true)
both_true true b e = (refl, e)
both_true false b e = absurd cc

pub one_or : (a b : Bool) → one_if (a || b) ≤ one_if a + one_if b
one_or true b = omega arith
one_or false true = omega arith
one_or false false = omega arith

pub one_and : (a b : Bool) → (one_if (a && b) ≤ one_if a) × (one_if (a && b) ≤ one_if b)
one_and true true = (omega arith, omega arith)
one_and true false = (omega arith, omega arith)
one_and false true = (omega arith, omega arith)
one_and false false = (omega arith, omega arith)

-- fewer bytes are fewer levels
pub scaled : (w a c : ℕ) → a ≤ c → w * a ≤ w * c
scaled zero a c le = omega arith
scaled (suc w) a c le = let k = scaled w a c le in grind arith

pub scaled_bonus : (w : ℕ) (b : Bool) (a c : ℕ) → a + one_if b ≤ c → w * a + bonus w b ≤ w * c
scaled_bonus w true a c le = let k = scaled w (a + 1) c le in grind arith
scaled_bonus w false a c le = let k = scaled w a c (omega arith) in omega arith
