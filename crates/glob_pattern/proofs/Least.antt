-- The least and the greatest number that passes.
use Rattle.std.proofs.Common.{◌≡◌, ℕ, zero, suc, ◌<◌, ◌≤◌, ◌⊎◌, inl, inr, Bool, true, false, Some, None, refl, sym, subst, arith}
use Rattle.glob_pattern.specs.Lengths.{least, greatest}

pub least_none : (test : ℕ → Bool) (m : ℕ) → ((k : ℕ) → k ≤ m → test k ≡ false) → None ≡ least test m
least_none test zero none = let e : test 0 ≡ false = none 0 (omega arith) in rw e refl
least_none test (suc m) none =
    let e : test (suc m) ≡ false = none (suc m) (omega arith) in
    let before = least_none test m (λ k h. none k (omega arith)) in
    rw (← before, e) refl

last_or_before : (n m : ℕ) → n ≤ suc m → (n ≤ m) ⊎ (n ≡ suc m)
last_or_before zero m h = inl (omega arith)
last_or_before (suc n) zero h = inr (omega arith)
last_or_before (suc n) (suc m) h = elim (last_or_before n m (omega arith)) [ inl l ↦ inl (omega arith) | inr e ↦ inr (omega arith) ]

least_new : (test : ℕ → Bool) (m : ℕ) → test (suc m) ≡ true → ((k : ℕ) → k < suc m → test k ≡ false) → Some (suc m) ≡ least test (suc m)
least_new test m e none = let before = least_none test m (λ k h. none k (omega arith)) in rw (← before, e) refl

least_old : (test : ℕ → Bool) (n m : ℕ) → Some n ≡ least test m → Some n ≡ least test (suc m)
least_old test n m h = rw (← h) refl

pub least_found : (test : ℕ → Bool) (n m : ℕ) → n ≤ m → test n ≡ true → ((k : ℕ) → k < n → test k ≡ false) → Some n ≡ least test m
least_found test n zero l e none = let z : n ≡ 0 = omega arith in let f : test 0 ≡ true = subst (λ (k : ℕ). test k ≡ true) z e in rw (z, f) refl
least_found test n (suc m) l e none = elim (last_or_before n m l) [
  | inl h ↦ least_old test n m (least_found test n m h e none)
  | inr h ↦ subst (λ (k : ℕ). Some k ≡ least test (suc m)) (sym h) (least_new test m (subst (λ (k : ℕ). test k ≡ true) h e) (λ k g. none k (omega arith)))
]

pub greatest_none : (test : ℕ → Bool) (m : ℕ) → ((k : ℕ) → k ≤ m → test k ≡ false) → None ≡ greatest test m
greatest_none test zero none = let e : test 0 ≡ false = none 0 (omega arith) in rw e refl
greatest_none test (suc m) none =
    let e : test (suc m) ≡ false = none (suc m) (omega arith) in
    let before = greatest_none test m (λ k h. none k (omega arith)) in
    rw e before

greatest_here : (test : ℕ → Bool) (m : ℕ) → test m ≡ true → Some m ≡ greatest test m
greatest_here test zero e = rw e refl
greatest_here test (suc m) e = rw e refl

pub greatest_found : (test : ℕ → Bool) (n m : ℕ) → n ≤ m → test n ≡ true → ((k : ℕ) → n < k → k ≤ m → test k ≡ false) → Some n ≡ greatest test m
greatest_found test n zero l e none = let z : n ≡ 0 = omega arith in let f : test 0 ≡ true = subst (λ (k : ℕ). test k ≡ true) z e in rw (z, f) refl
greatest_found test n (suc m) l e none = elim (last_or_before n m l) [
  | inl h ↦ let f : test (suc m) ≡ false = none (suc m) (omega arith) (omega arith) in rw f (greatest_found test n m h e (λ k g j. none k g (omega arith)))
  | inr h ↦ subst (λ (k : ℕ). Some k ≡ greatest test (suc m)) (sym h) (greatest_here test (suc m) (subst (λ (k : ℕ). test k ≡ true) h e))
]
