-- As many bodies come as were owed.
use Rattle.std.proofs.Common.{◌≡◌, ℕ, suc, ◌+◌, Bool, true, false, List, [], ◌∷◌, ◌++◌, length, length-append, Option, Some, None, refl, ap, arith}
use Rattle.std.specs.Prelude.{map, if◌then◌else◌}
use Rattle.text_grammar.proofs.Tools.{some_is}
use Rattle.sh_grammar.specs.State.{State}
use Rattle.sh_grammar.specs.Steps.{when}
use Rattle.sh_parser.specs.Views.{found_behind, lined}
use Rattle.sh_grammar.specs.Bytes.{Text}
use Rattle.sh_grammar.specs.Expansions.{◌>>=◌}
use Rattle.sh_grammar.specs.Bodies.{Owed, body_at, bodies_at}

after_one : (o : Option (List Text × Text)) (b : Text) (n : ℕ) (x : List Text × Text) → ((y : List Text × Text) → o ≡ Some y → length y.0 ≡ n) → (o >>= λ y. Some (b ∷ y.0, y.1)) ≡ Some x → length x.0 ≡ suc n
after_one None b n x h e = absurd cc
after_one (Some y) b n x h e = grind arith

counted : (first : Option (Text × Text)) (os : List Owed) (x : List Text × Text) → ((bs : Text) (y : List Text × Text) → bodies_at os bs ≡ Some y → length y.0 ≡ length os) →
    (first >>= λ f. bodies_at os f.1 >>= λ y. Some (f.0 ∷ y.0, y.1)) ≡ Some x → length x.0 ≡ suc (length os)
counted None os x h e = absurd cc
counted (Some f) os x h e = after_one (bodies_at os f.1) f.0 (length os) x (h f.1) e

pub bodies_count : (os : List Owed) (bytes : Text) (x : List Text × Text) → bodies_at os bytes ≡ Some x → length x.0 ≡ length os
unfolding bodies_at
bodies_count [] bytes x e = grind arith
bodies_count (o ∷ os) bytes x e = counted (body_at o bytes) os x (λ bs y h. bodies_count os bs y h) e

pub owed_count : {A B : Type 0} (f : A → B) (xs : List A) → length (map f xs) ≡ length xs
owed_count f [] = refl
owed_count f (x ∷ xs) = ap suc (owed_count f xs)

-- behind a newline, where as many bodies came as were owed
line_at : (s : State) (o : Option (List Text × Text)) (n : ℕ) (new : List Text) (rest : Text) (named : ℕ) → ((x : List Text × Text) → o ≡ Some x → length x.0 ≡ n) → s.named ≡ n + length s.found →
    named ≡ length new → found_behind s.found o ≡ Some (new, rest) → lined s o ≡ Some (record s { bytes = rest; owed = []; named = named; found = new })
line_at s None n new rest named h e k f = absurd cc
line_at s (Some x) n new rest named h e k f =
    let c : length x.0 ≡ n = h x refl in
    let p : (s.found ++ x.0, x.1) ≡ (new, rest) = some_is (s.found ++ x.0, x.1) (new, rest) f in
    let q : s.found ++ x.0 ≡ new = ap (λ (y : List Text × Text). y.0) p in
    let r : x.1 ≡ rest = ap (λ (y : List Text × Text). y.1) p in
    let l : length (s.found ++ x.0) ≡ length s.found + length x.0 = length-append s.found x.0 in
    let m : s.named ≡ named = rw (k, ← q, l) (omega arith) in
    rw (← q, ← r, ← m) refl

pub line_is : (s : State) (t : Bool) (at after : Text) (os : List Owed) (new : List Text) (rest : Text) (named : ℕ) → when t at ≡ Some after → s.named ≡ length os + length s.found → named ≡ length new →
    found_behind s.found (bodies_at os after) ≡ Some (new, rest) → (if t then lined s (bodies_at os at) else None) ≡ Some (record s { bytes = rest; owed = []; named = named; found = new })
line_is s false at after os new rest named w e k f = absurd cc
line_is s true at after os new rest named w e k f =
    let a : at ≡ after = some_is at after w in
    rw a (line_at s (bodies_at os after) (length os) new rest named (λ x h. bodies_count os after x h) e k f)
