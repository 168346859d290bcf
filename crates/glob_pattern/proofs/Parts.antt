-- Loops over the parts of signs.
use Rattle.std.proofs.Common.{◌≡◌, ℕ, zero, suc, ◌-◌, ◌<◌, ◌≤◌, true, false, List, [], ◌∷◌, ◌++◌, length, drop, Option, Some, None, refl, sym, ap, ◌∙◌, arith}
use Rattle.std.specs.Prelude.{◌==◌}
use Rattle.std.proofs.lemmas.Bool.Decides.{nat_tests}
use Rattle.std.proofs.lemmas.List.{append_assoc, append-nil, length-drop}
use Rattle.glob_pattern.specs.declared.sign.Sign.{Sign}
use Rattle.glob_pattern.specs.Brackets.{parts, lesser, least_place}

parts_skip : {X : Type 0} (len : List Sign → ℕ) (at : List Sign → X) (k : ℕ) (signs : List Sign) → parts len at k signs ≡ parts len at 0 (drop k signs)
parts_skip len at zero signs = refl
parts_skip len at (suc k) [] = refl
parts_skip len at (suc k) (sign ∷ signs) = parts_skip len at k signs

parts_on : {X : Type 0} (len : List Sign → ℕ) (at : List Sign → X) (signs : List Sign) (n : ℕ) → 1 ≤ length signs → len signs ≡ suc n → parts len at 0 signs ≡ at signs ∷ parts len at 0 (drop (suc n) signs)
parts_on len at [] n l e = absurd (omega arith)
parts_on len at (sign ∷ signs) n l e =
    let k : len (sign ∷ signs) - 1 ≡ n = omega arith in
    rw k (ap (λ xs. at (sign ∷ signs) ∷ xs) (parts_skip len at n signs))

some_left : (signs : List Sign) → (length signs == 0) ≡ false → 1 ≤ length signs
some_left [] h = absurd cc
some_left (sign ∷ signs) h = omega arith

none_left : (signs : List Sign) → (length signs == 0) ≡ true → signs ≡ []
none_left [] h = refl
none_left (sign ∷ signs) h = absurd (grind (arith, nat_tests))

-- one part more
pub parts_next : {X : Type 0} (len : List Sign → ℕ) (at : List Sign → X) (signs : List Sign) (n : ℕ) → (length signs == 0) ≡ false → 0 < n → len signs ≡ n → parts len at 0 signs ≡ at signs ∷ parts len at 0 (drop n signs)
parts_next len at signs zero l p e = absurd (omega arith)
parts_next len at signs (suc n) l p e = parts_on len at signs n (some_left signs l) e

pub shorter_next : (signs : List Sign) (n : ℕ) → (length signs == 0) ≡ false → 0 < n → length (drop n signs) < length signs
shorter_next signs n l p = let s = some_left signs l in let d = length-drop n signs in omega arith

-- a list of them
pub list_next : {X : Type 0} (len : List Sign → ℕ) (at : List Sign → X) (signs : List Sign) (n : ℕ) (done all : List X) → (length signs == 0) ≡ false → 0 < n → len signs ≡ n → done ++ parts len at 0 signs ≡ all → (done ++ at signs ∷ []) ++ parts len at 0 (drop n signs) ≡ all
list_next len at signs n done all l p e before =
    let one : done ++ parts len at 0 signs ≡ done ++ (at signs ∷ parts len at 0 (drop n signs)) = ap (λ xs. done ++ xs) (parts_next len at signs n l p e) in
    append_assoc done (at signs ∷ []) (parts len at 0 (drop n signs)) ∙ sym one ∙ before

pub list_end : {X : Type 0} (len : List Sign → ℕ) (at : List Sign → X) (signs : List Sign) (done all : List X) → (length signs == 0) ≡ true → done ++ parts len at 0 signs ≡ all → done ≡ all
list_end len at signs done all l before =
    let none : signs ≡ [] = none_left signs l in
    let one : done ++ parts len at 0 signs ≡ done = rw none (append-nil done) in
    sym one ∙ before

lesser_assoc : (a b c : Option ℕ) → lesser (lesser a b) c ≡ lesser a (lesser b c)
lesser_assoc None b c = refl
lesser_assoc (Some m) None c = refl
lesser_assoc (Some m) (Some n) None = refl
lesser_assoc (Some m) (Some n) (Some k) = ap (λ (x : ℕ). Some x) (omega arith)

lesser_none : (a : Option ℕ) → lesser a None ≡ a
lesser_none None = refl
lesser_none (Some m) = refl

-- the least of their places
pub least_next : (len : List Sign → ℕ) (at : List Sign → Option ℕ) (signs : List Sign) (n : ℕ) (found all : Option ℕ) → (length signs == 0) ≡ false → 0 < n → len signs ≡ n → lesser found (least_place (parts len at 0 signs)) ≡ all → lesser (lesser found (at signs)) (least_place (parts len at 0 (drop n signs))) ≡ all
least_next len at signs n found all l p e before =
    let one : lesser found (least_place (parts len at 0 signs)) ≡ lesser found (lesser (at signs) (least_place (parts len at 0 (drop n signs)))) = ap (λ (xs : List (Option ℕ)). lesser found (least_place xs)) (parts_next len at signs n l p e) in
    lesser_assoc found (at signs) (least_place (parts len at 0 (drop n signs))) ∙ sym one ∙ before

pub least_end : (len : List Sign → ℕ) (at : List Sign → Option ℕ) (signs : List Sign) (found all : Option ℕ) → (length signs == 0) ≡ true → lesser found (least_place (parts len at 0 signs)) ≡ all → found ≡ all
least_end len at signs found all l before =
    let none : signs ≡ [] = none_left signs l in
    let one : lesser found (least_place (parts len at 0 signs)) ≡ found = rw none (lesser_none found) in
    sym one ∙ before
