-- The place of a syntax error.
use Rattle.std.proofs.Common.{◌≡◌, ℕ, zero, suc, ◌+◌, ◌<◌, ◌≤◌, List, [], ◌∷◌, ◌++◌, Option, Some, None, refl, sym, ap, subst, ◌∙◌, arith}
use Rattle.text_grammar.specs.Place.{FrontAt, Stuck, IsPlace, WholeAt, OneEach, EndsStuck, Reader, goes_on, front_in, front}

-- two fronts that go as far as pieces go are one
pub one_front : {X S : Type 0} (piece : X → S → S → Type 0) → OneEach piece → (xs ys : List X) (s a b : S) → FrontAt piece xs s a → FrontAt piece ys s b → Stuck piece a → Stuck piece b → (xs ≡ ys) × (a ≡ b)
one_front piece once [] [] s a b p q i j = (refl, sym p ∙ q)
one_front {S = S} piece once [] (y ∷ ys) s a b p q i j = absurd (i y q.0 (subst (λ (z : S). piece y z q.0) p q.1))
one_front {S = S} piece once (x ∷ xs) [] s a b p q i j = absurd (j x p.0 (subst (λ (z : S). piece x z p.0) q p.1))
one_front {X} {S} piece once (x ∷ xs) (y ∷ ys) s a b p q i j =
    let u = once x y s p.0 q.0 p.1 q.1 in
    let r = one_front piece once xs ys p.0 a b p.2 (subst (λ (z : S). FrontAt piece ys z b) (sym u.1) q.2) i j in
    (ap (λ (z : X). z ∷ xs) u.0 ∙ ap (λ (zs : List X). y ∷ zs) r.0, r.1)

-- there is at most one place
pub one_place : {X S : Type 0} (piece : X → S → S → Type 0) → OneEach piece → (s : S) (left : S → ℕ) (whole p q : ℕ) → IsPlace piece s left whole p → IsPlace piece s left whole q → p ≡ q
one_place piece once s left whole p q a b =
    let same = (one_front piece once a.before b.before s a.end b.end a.reads b.reads a.longest b.longest).1 in
    let k : left a.end ≡ left b.end = ap left same in
    let i = a.is in let j = b.is in omega arith

-- ---- all of a text

-- a text is at most one list of pieces
pub one_whole : {X S : Type 0} (piece : X → S → S → Type 0) → OneEach piece → (left : S → ℕ) → EndsStuck piece left → (xs ys : List X) (s : S) → WholeAt piece left xs s → WholeAt piece left ys s → xs ≡ ys
one_whole piece once left ends xs ys s p q = (one_front piece once xs ys s p.0 q.0 p.1 q.1 (ends p.0 p.2) (ends q.0 q.2)).0

-- a text that is pieces has its place at its end
pub whole_place : {X S : Type 0} (piece : X → S → S → Type 0) → OneEach piece → (left : S → ℕ) → EndsStuck piece left → (xs : List X) (s : S) (whole p : ℕ) → WholeAt piece left xs s → IsPlace piece s left whole p → p ≡ whole
whole_place piece once left ends xs s whole p w at =
    let same : w.0 ≡ at.end = (one_front piece once xs at.before s w.0 at.end w.1 at.reads (ends w.0 w.2) at.longest).1 in
    let k : left w.0 ≡ left at.end = ap left same in
    let i = at.is in let j = w.2 in omega arith

-- and one whose place is its end is pieces
pub place_whole : {X S : Type 0} (piece : X → S → S → Type 0) (left : S → ℕ) (s : S) (whole : ℕ) → IsPlace piece s left whole whole → (xs : List X) × WholeAt piece left xs s
place_whole piece left s whole at = let i = at.is in (at.before, (at.end, at.reads, omega arith))

-- one piece more
pub front_push : {X S : Type 0} (piece : X → S → S → Type 0) (xs : List X) (t : X) (s m e : S) → FrontAt piece xs s m → piece t m e → FrontAt piece (xs ++ t ∷ []) s e
front_push {S = S} piece [] t s m e h k = (e, subst (λ (z : S). piece t z e) (sym h) k, refl)
front_push piece (x ∷ xs) t s m e h k = (h.0, h.1, front_push piece xs t h.0 m e h.2 k)

-- ---- where the longest front ends

-- where no piece is read none stands
pub stuck_here : {X Y S : Type 0} (piece : X → S → S → Type 0) (size : S → ℕ) (next : S → Option (Y × S)) → Reader piece size next → (s : S) → next s ≡ None → Stuck piece s
stuck_here piece size next reads s e t m h = let c = (reads.complete t s m h).1 in absurd cc

abbrev Longest : {X S : Type 0} → (X → S → S → Type 0) → S → S → Type 0
Longest {X} piece s e = ((ts : List X) × FrontAt piece ts s e) × Stuck piece e

longest_on : {X Y S : Type 0} (piece : X → S → S → Type 0) (size : S → ℕ) (next : S → Option (Y × S)) → Reader piece size next → (n : ℕ) (s : S) (o : Option (Y × S)) → next s ≡ o → size s ≤ n →
    ((m : S) → size m < n → Longest piece m (front_in next n m)) → Longest piece s (goes_on s o (front_in next n))
longest_on piece size next reads n s None e le further = (([], refl), stuck_here piece size next reads s e)
longest_on piece size next reads n s (Some y) e le further =
    let t = reads.sound s y.1 y.0 e in
    let i = reads.less t.0 s y.1 t.1 in
    let r = further y.1 (omega arith) in
    ((t.0 ∷ r.0.0, (y.1, t.1, r.0.1)), r.1)

longest_in : {X Y S : Type 0} (piece : X → S → S → Type 0) (size : S → ℕ) (next : S → Option (Y × S)) → Reader piece size next → (n : ℕ) (s : S) → size s < n → Longest piece s (front_in next n s)
unfolding front_in
longest_in piece size next reads zero s lt = absurd (omega arith)
longest_in piece size next reads (suc n) s lt = longest_on piece size next reads n s (next s) refl (omega arith) (λ m i. longest_in piece size next reads n m i)

pub front_reads : {X Y S : Type 0} (piece : X → S → S → Type 0) (size : S → ℕ) (next : S → Option (Y × S)) → Reader piece size next → (s : S) → (ts : List X) × FrontAt piece ts s (front size next s)
unfolding front
front_reads piece size next reads s = (longest_in piece size next reads (suc (size s)) s (omega arith)).0

pub front_stuck : {X Y S : Type 0} (piece : X → S → S → Type 0) (size : S → ℕ) (next : S → Option (Y × S)) → Reader piece size next → (s : S) → Stuck piece (front size next s)
unfolding front
front_stuck piece size next reads s = (longest_in piece size next reads (suc (size s)) s (omega arith)).1

-- there is a place, and it is computed so
pub front_place : {X Y S : Type 0} (piece : X → S → S → Type 0) (size : S → ℕ) (next : S → Option (Y × S)) → Reader piece size next → (s : S) (left : S → ℕ) (whole place : ℕ) →
    place + left (front size next s) ≡ whole → IsPlace piece s left whole place
front_place piece size next reads s left whole place e =
    let r = front_reads piece size next reads s in
    record { before = r.0; end = front size next s; reads = r.1; longest = front_stuck piece size next reads s; is = e }

-- ---- piece by piece

next_less : {X Y S : Type 0} (piece : X → S → S → Type 0) (size : S → ℕ) (next : S → Option (Y × S)) → Reader piece size next → (s : S) (y : Y × S) → next s ≡ Some y → size y.1 < size s
next_less piece size next reads s y e = let t = reads.sound s y.1 y.0 e in reads.less t.0 s y.1 t.1

on_enough : {Y S : Type 0} (s : S) (o : Option (Y × S)) (f h : S → S) → ((y : Y × S) → o ≡ Some y → f y.1 ≡ h y.1) → goes_on s o f ≡ goes_on s o h
on_enough s None f h e = refl
on_enough s (Some y) f h e = e y refl

enough : {X Y S : Type 0} (piece : X → S → S → Type 0) (size : S → ℕ) (next : S → Option (Y × S)) → Reader piece size next → (n m : ℕ) (s : S) → size s < n → size s < m → front_in next n s ≡ front_in next m s
unfolding front_in
enough piece size next reads zero m s i j = absurd (omega arith)
enough piece size next reads (suc n) zero s i j = absurd (omega arith)
enough piece size next reads (suc n) (suc m) s i j =
    on_enough s (next s) (front_in next n) (front_in next m) (λ y e. let k = next_less piece size next reads s y e in enough piece size next reads n m y.1 (omega arith) (omega arith))

front_on : {X Y S : Type 0} (piece : X → S → S → Type 0) (size : S → ℕ) (next : S → Option (Y × S)) → Reader piece size next → (s : S) → front size next s ≡ goes_on s (next s) (front size next)
unfolding front front_in
front_on piece size next reads s =
    on_enough s (next s) (front_in next (size s)) (front size next) (λ y e. let k = next_less piece size next reads s y e in enough piece size next reads (size s) (suc (size y.1)) y.1 (omega arith) (omega arith))

-- a piece reads: the front goes on behind it
pub front_more : {X Y S : Type 0} (piece : X → S → S → Type 0) (size : S → ℕ) (next : S → Option (Y × S)) → Reader piece size next → (s m : S) (y : Y) → next s ≡ Some (y, m) → front size next s ≡ front size next m
front_more piece size next reads s m y e = front_on piece size next reads s ∙ ap (λ o. goes_on s o (front size next)) e

-- none reads: it ends here
pub front_done : {X Y S : Type 0} (piece : X → S → S → Type 0) (size : S → ℕ) (next : S → Option (Y × S)) → Reader piece size next → (s : S) → next s ≡ None → front size next s ≡ s
front_done piece size next reads s e = front_on piece size next reads s ∙ ap (λ o. goes_on s o (front size next)) e
