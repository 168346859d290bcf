-- Newlines that a search found, counted.
use Rattle.std.proofs.Common.{◌≡◌, ℕ, zero, suc, ◌+◌, ◌-◌, ◌<◌, ◌≤◌, Bool, true, false, not, cond, List, [], ◌∷◌, length, take, drop, get_or, Option, Some, None, refl, sym, ap, ◌∙◌, arith, length-drop}
use Rattle.std.specs.Prelude.{count_by}
use Rattle.std.specs.List.{suffix_len, after_last}
use Rattle.std.proofs.Math.Seq.{take-length}
use Rattle.std.proofs.lemmas.List.Sums.{count_by_more_yes, count_by_more_no, suffix_len_is, suffix_len-le-length}
use Rattle.memchr.specs.Find.{places, places_from, Passes, IsLast}

-- the places from i on are those that are not counted before i
count_at : (test : ℕ → Bool) (hay : List ℕ) (i n : ℕ) (b : Bool) → test (get_or hay i 0) ≡ b → i < length hay → length (places_from test hay (i + 1) n) + count_by test (take (i + 1) hay) ≡ count_by test (take (i + suc n) hay) → length (cond b (i ∷ places_from test hay (i + 1) n) (places_from test hay (i + 1) n)) + count_by test (take i hay) ≡ count_by test (take (i + suc n) hay)
count_at test hay i n true e lt h = let m = count_by_more_yes test hay i 0 lt e in omega (arith, h, m)
count_at test hay i n false e lt h = let m = count_by_more_no test hay i 0 lt e in omega (arith, h, m)

count_from : (test : ℕ → Bool) (hay : List ℕ) (i n : ℕ) → i + n ≤ length hay → length (places_from test hay i n) + count_by test (take i hay) ≡ count_by test (take (i + n) hay)
unfolding places_from
count_from test hay i zero le = let e : i + 0 ≡ i = omega arith in rw e (omega arith)
count_from test hay i (suc n) le =
    let e : i + 1 + n ≡ i + suc n = omega arith in
    count_at test hay i n (test (get_or hay i 0)) refl (omega arith) (count_from test hay (i + 1) n (omega arith) ∙ ap (λ k. count_by test (take k hay)) e)

pub counted : (test : ℕ → Bool) (hay : List ℕ) → length (places test hay) ≡ count_by test hay
counted test hay =
    let h = count_from test hay 0 (length hay) (omega arith) in
    let e : 0 + length hay ≡ length hay = omega arith in
    let f : length hay - 0 ≡ length hay = omega arith in
    let all : count_by test (take (0 + length hay) hay) ≡ count_by test hay = rw (e, take-length hay) refl in
    let none : count_by test (take 0 hay) ≡ 0 = refl in
    ap (λ n. length (places_from test hay 0 n)) f ∙ omega (arith, h, all, none)

other : (b : Bool) → (b ≡ true → ⊥) → not b ≡ true
other true h = absurd (h refl)
other false h = refl

-- where the bytes begin that stand behind the last byte that passes
abbrev pub behind : Option ℕ → ℕ
behind None = 0
behind (Some k) = k + 1

pub behind_last : (test : ℕ → Bool) (hay : List ℕ) (r : Option ℕ) → IsLast (Passes test hay) 0 (length hay) r → behind r + length (after_last test hay) ≡ length hay
behind_last test hay None h =
    let s = suffix_len_is (λ x. not (test x)) hay 0 0 (omega arith) (λ k low high. other (test (get_or hay k 0)) (h k low high)) (λ lt. absurd (omega arith)) in
    omega (arith, s, length-drop (length hay - suffix_len (λ x. not (test x)) hay) hay)
behind_last test hay (Some k) h =
    let high : k < length hay = h.0.high in
    let s = suffix_len_is (λ x. not (test x)) hay (k + 1) 0 (omega arith) (λ j low high. other (test (get_or hay j 0)) (h.0.after j low high)) (λ lt. last k (h.1)) in
    omega (arith, s, length-drop (length hay - suffix_len (λ x. not (test x)) hay) hay)
  where
    last : (k : ℕ) → test (get_or hay k 0) ≡ true → not (test (get_or hay (k + 1 - 1) 0)) ≡ false
    last k e = let i : k + 1 - 1 ≡ k = omega arith in rw (i, e) refl
