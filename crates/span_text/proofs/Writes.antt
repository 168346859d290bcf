-- One text written after another.
use Rattle.std.proofs.Common.{◌≡◌, ℕ, ◌+◌, ◌<◌, ◌≤◌, ◌-◌, ◌^◌, min, List, [], ◌∷◌, ◌++◌, length, get_or, take, drop, Option, Some, None, Result, Ok, Err, refl, sym, ap, subst, ◌∙◌, append_assoc, arith}
use Rattle.std.proofs.lemmas.List.{append-nil, length-append, take-append-drop}
use Rattle.std.specs.List.{flat_map}
use Rattle.std.proofs.lemmas.List.{drop_more}
use Rattle.std.proofs.lemmas.List.Concat.{flat_map-append, flat_map-cons}
use Rattle.span_text.specs.Streams.{Grows, Falls, Keeps, Rose, Wrote}

pub Grows-none : (a : Option (List ℕ)) → Grows a a []
Grows-none None = tt
Grows-none (Some before) = ap (λ (l : List ℕ). Some l) (sym (append-nil before))

pub Grows-then : (a b c : Option (List ℕ)) (x y : List ℕ) → Grows a b x → Grows b c y → Grows a c (x ++ y)
Grows-then None b c x y p q = tt
Grows-then (Some before) b c x y p q =
    let r : Grows (Some (before ++ x)) c y = subst (λ (o : Option (List ℕ)). Grows o c y) p q in
    r ∙ ap (λ (l : List ℕ). Some l) (append_assoc before x y)

pub Falls-then : (a b c : Option (List ℕ)) (x y : List ℕ) → Grows a b x → Falls b c y → Falls a c (x ++ y)
Falls-then None b c x y p q = tt
Falls-then (Some before) b c x y p q =
    let r : Falls (Some (before ++ x)) c y = subst (λ (o : Option (List ℕ)). Falls o c y) p q in
    (x ++ r.0, r.1, ap (λ (l : List ℕ). x ++ l) r.2 ∙ sym (append_assoc x r.0 r.1), r.3, r.4 ∙ ap (λ (l : List ℕ). Some l) (append_assoc before x r.0))

pub Falls-early : (a b : Option (List ℕ)) (x y : List ℕ) → Falls a b x → Falls a b (x ++ y)
Falls-early None b x y p = tt
Falls-early (Some before) b x y p =
    (p.0, p.1 ++ y, ap (λ (l : List ℕ). l ++ y) p.2 ∙ append_assoc p.0 p.1 y, omega (arith, length-append p.1 y, p.3), p.4)

-- a sink that keeps what it held, with something still to write
pub Keeps-falls : (a b c : Option (List ℕ)) (x y : List ℕ) → Grows a b x → Keeps b c → 0 < length y → Falls a c (x ++ y)
Keeps-falls None b c x y p q lt = tt
Keeps-falls (Some before) b c x y p q lt =
    let r : Keeps (Some (before ++ x)) c = subst (λ (o : Option (List ℕ)). Keeps o c) p q in
    (x, y, refl, lt, r)

-- a later count that rose did so from every earlier one
pub Rose-from : (i j k : ℕ) → i ≤ j → Rose j k → Rose i k
Rose-from i j k le r = omega arith

pub Rose-to : (i j k : ℕ) → Rose i j → j ≤ k → Rose i k
Rose-to i j k r le = omega arith

pub Wrote-then : {E : Type 0} (a b c : Option (List ℕ)) (i j k : ℕ) (r : Result (Unit {0}) E) (x y : List ℕ) → Grows a b x × (i ≤ j) → Wrote b c j k r y → Wrote a c i k r (x ++ y)
Wrote-then a b c i j k (Ok u) x y p q = (Grows-then a b c x y p.0 q.0, omega (arith, p.1, q.1))
Wrote-then a b c i j k (Err e) x y p q = (Falls-then a b c x y p.0 q.0, omega (arith, p.1, q.1), Rose-from i j k p.1 q.2)

pub Wrote-early : {E : Type 0} (a b : Option (List ℕ)) (i j : ℕ) (r : Result (Unit {0}) E) (e : E) (x y : List ℕ) → r ≡ Err e → Falls a b x × (i ≤ j) × Rose i j → Wrote a b i j r (x ++ y)
Wrote-early a b i j r e x y is p = rw is (Falls-early a b x y p.0, p.1, p.2)

-- what a loop that writes `all` has done where `rest` is still to be written
pub record SoFar (before now : Option (List ℕ)) (faults count : ℕ) (all rest : List ℕ) : Type 0 where
  pub front : List ℕ
  pub whole : all ≡ front ++ rest
  pub held : Grows before now front
  pub never_falls : faults ≤ count

pub SoFar-none : (a : Option (List ℕ)) (i : ℕ) (all : List ℕ) → SoFar a a i i all all
SoFar-none a i all = record { front = []; whole = refl; held = Grows-none a; never_falls = omega arith }

pub SoFar-more : (a b c : Option (List ℕ)) (i j k n : ℕ) (all rest : List ℕ) → SoFar a b i j all rest → Grows b c (take n rest) → j ≤ k → SoFar a c i k all (drop n rest)
SoFar-more a b c i j k n all rest s g le = record {
  front = s.front ++ take n rest;
  whole = s.whole ∙ ap (λ (l : List ℕ). s.front ++ l) (sym (take-append-drop n rest)) ∙ sym (append_assoc s.front (take n rest) (drop n rest));
  held = Grows-then a b c s.front (take n rest) s.held g;
  never_falls = omega (arith, s.never_falls);
}

pub SoFar-done : (a b : Option (List ℕ)) (i j : ℕ) (all rest : List ℕ) → SoFar a b i j all rest → rest ≡ [] → Grows a b all × (i ≤ j)
SoFar-done a b i j all rest s e =
    let is : all ≡ s.front = s.whole ∙ ap (λ (l : List ℕ). s.front ++ l) e ∙ append-nil s.front in
    rw is (s.held, s.never_falls)

pub SoFar-fails : {E : Type 0} (a b c : Option (List ℕ)) (i j k : ℕ) (all rest : List ℕ) (r : Result (Unit {0}) E) (e : E) → r ≡ Err e → SoFar a b i j all rest → 0 < length rest → Keeps b c → j ≤ k → Rose j k → Wrote a c i k r all
SoFar-fails a b c i j k all rest r e is s lt kept le rose =
    rw (is, s.whole) (Keeps-falls a b c s.front rest s.held kept lt, omega (arith, s.never_falls), Rose-from i j k s.never_falls rose)

-- ---- a loop that writes a text for each item

-- what it has written so far
pub record Printed (before now : Option (List ℕ)) (faults count : ℕ) (text : List ℕ) : Type 0 where
  pub held : Grows before now text
  pub never_falls : faults ≤ count

flat_at : {X : Type 0} (f : X → List ℕ) (xs : List X) (i : ℕ) (x : X) → i < length xs → x ≡ get_or xs i x → flat_map f xs ≡ flat_map f (take i xs) ++ (f x ++ flat_map f (drop (i + 1) xs))
flat_at {X} f xs i x lt is =
    let a : drop i xs ≡ x ∷ drop (i + 1) xs = drop_more xs i x lt ∙ ap (λ (y : X). y ∷ drop (i + 1) xs) (sym is) in
    let b : xs ≡ take i xs ++ (x ∷ drop (i + 1) xs) = sym (take-append-drop i xs) ∙ ap (λ (l : List X). take i xs ++ l) a in
    ap (λ (l : List X). flat_map f l) b ∙ flat_map-append f (take i xs) (x ∷ drop (i + 1) xs) ∙ ap (λ (l : List ℕ). flat_map f (take i xs) ++ l) (flat_map-cons f x (drop (i + 1) xs))

-- the exit where an item was not written
pub Printed-fails : {X E : Type 0} (f : X → List ℕ) (xs : List X) (n : ℕ) (x : X) (a b c : Option (List ℕ)) (i j k : ℕ) (r : Result (Unit {0}) E) (e : E) → n < length xs → x ≡ get_or xs n x → Printed a b i j (flat_map f (take n xs)) → r ≡ Err e → Falls b c (f x) × (j ≤ k) × Rose j k → Wrote a c i k r (flat_map f xs)
Printed-fails {X} {E} f xs n x a b c i j k r e lt is so_far fails w =
    rw (flat_at f xs n x lt is, fails)
    (Falls-then a b c (flat_map f (take n xs)) (f x ++ flat_map f (drop (n + 1) xs)) so_far.held (Falls-early b c (f x) (flat_map f (drop (n + 1) xs)) w.0), omega (arith, so_far.never_falls, w.1), Rose-from i j k so_far.never_falls w.2)
