-- Texts read from left to right, an item after another.
use Rattle.std.specs.Prelude.{ℕ, zero, suc, List, Option, None, Some}
use denote.Ref.{Bor}

-- a front of a text, and what stands behind it
abbrev pub seen : {X : Type 0} → Option (X × Bor (List ℕ)) → Option (X × List ℕ)
seen None = None
seen (Some front) = Some (front.0, front.1.now)

-- what is made of the item at the front, and what is made where no item is read
abbrev pub at_front : {X R : Type 0} → Option (X × List ℕ) → R → (X → List ℕ → R) → R
at_front None none some = none
at_front (Some front) none some = some front.0 front.1

-- what is made of all items, with n of them at most
abbrev pub fold_items : {X R : Type 0} → (List ℕ → Option (X × List ℕ)) → (List ℕ → R) → (X → R → R) → ℕ → List ℕ → R
fold_items item none more zero text = none text
fold_items item none more (suc n) text = at_front (item text) (none text) (λ x rest. more x (fold_items item none more n rest))
