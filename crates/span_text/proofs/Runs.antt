-- The longest front of a list that passes.
use Rattle.std.proofs.Common.{◌≡◌, ℕ, zero, suc, ◌+◌, ◌<◌, ◌≤◌, Bool, true, false, cond, List, [], ◌∷◌, ◌++◌, length, take, drop, refl, sym, ap, subst, ◌∙◌, arith}
use Rattle.std.specs.List.{prefix_len}
use Rattle.std.proofs.lemmas.List.{take_at, drop_at, take-append-drop, length-append}
use Rattle.span_text.specs.Scanning.{starts, Each, Run}

each_step : (p : ℕ → Bool) (x : ℕ) (xs : List ℕ) (b : Bool) → p x ≡ b → Each p (take (prefix_len p xs) xs) → Each p (take (cond b (1 + prefix_len p xs) 0) (x ∷ xs))
each_step p x xs true e h = let k : 1 + prefix_len p xs ≡ suc (prefix_len p xs) = omega arith in rw k (e, h)
each_step p x xs false e h = tt

each_front : (p : ℕ → Bool) (bs : List ℕ) → Each p (take (prefix_len p bs) bs)
each_front p [] = tt
each_front p (x ∷ xs) = each_step p x xs (p x) refl (each_front p xs)

stops_step : (p : ℕ → Bool) (x : ℕ) (xs : List ℕ) (b : Bool) → p x ≡ b → starts p (drop (prefix_len p xs) xs) ≡ false → starts p (drop (cond b (1 + prefix_len p xs) 0) (x ∷ xs)) ≡ false
stops_step p x xs true e h = let k : 1 + prefix_len p xs ≡ suc (prefix_len p xs) = omega arith in rw k h
stops_step p x xs false e h = e

stops_after : (p : ℕ → Bool) (bs : List ℕ) → starts p (drop (prefix_len p bs) bs) ≡ false
stops_after p [] = refl
stops_after p (x ∷ xs) = stops_step p x xs (p x) refl (stops_after p xs)

pub Run-front : (p : ℕ → Bool) (bs : List ℕ) → Run p (take (prefix_len p bs) bs) bs (drop (prefix_len p bs) bs)
Run-front p bs = record { whole = sym (take-append-drop (prefix_len p bs) bs); each = each_front p bs; stops = stops_after p bs }

none_front : (p : ℕ → Bool) (rest : List ℕ) → starts p rest ≡ false → prefix_len p rest ≡ 0
none_front p [] e = refl
none_front p (x ∷ xs) e = rw e refl

front_len : (p : ℕ → Bool) (text rest : List ℕ) → Each p text → starts p rest ≡ false → prefix_len p (text ++ rest) ≡ length text
front_len p [] rest h e = none_front p rest e
front_len p (x ∷ xs) rest h e =
    let yes : p x ≡ true = h.0 in
    let more : prefix_len p (xs ++ rest) ≡ length xs = front_len p xs rest h.1 e in
    rw (yes, more) (omega arith)

-- there is no other
pub Run-is : (p : ℕ → Bool) (text bytes rest : List ℕ) → Run p text bytes rest → (take (prefix_len p bytes) bytes ≡ text) × (drop (prefix_len p bytes) bytes ≡ rest)
Run-is p text bytes rest r =
    let k = front_len p text rest r.each r.stops in
    rw r.whole (rw k (take_at text rest (length text) refl), rw k (drop_at text rest (length text) refl))

pub Run-length : (p : ℕ → Bool) (text bytes rest : List ℕ) → Run p text bytes rest → length bytes ≡ length text + length rest
Run-length p text bytes rest r = ap length r.whole ∙ length-append text rest

pub Run-shorter : (p : ℕ → Bool) (text bytes rest : List ℕ) → Run p text bytes rest → starts p bytes ≡ true → length rest < length bytes
Run-shorter p [] bytes rest r e = let same : bytes ≡ rest = r.whole in let no : starts p rest ≡ false = r.stops in absurd cc
Run-shorter p (x ∷ xs) bytes rest r e = let k = Run-length p (x ∷ xs) bytes rest r in omega arith
