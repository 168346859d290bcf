-- Maps whose keys are texts, kept in the order of their keys, and a few words on lists.
use Rattle.std.specs.Prelude.{ℕ, zero, suc, Bool, false, List, [], ◌∷◌, Option, Some, None}
use Rattle.std.specs.declared.cmp.Ordering.{Ordering}
use Rattle.std.specs.Ordering.{nat_cmp, is_eq, is_gt}
use Rattle.std.specs.Cmp.Lexicographic.{slice_cmp}
use Rattle.std.specs.FinMap.{find, put}

abbrev pub Text : Type 0
Text = List ℕ

-- the order of bytes
abbrev pub text_cmp : Text → Text → Ordering
text_cmp = slice_cmp nat_cmp

-- whether the second text stands before the first
abbrev pub is_below : Text → Text → Bool
is_below key text = is_gt (text_cmp key text)

-- a finite map from texts, as its entries in the order of their keys
abbrev pub Map : Type 0 → Type 0
Map X = List (Text × X)

abbrev pub lookup : {X : Type 0} → Text → Map X → Option X
lookup k m = find text_cmp k m

abbrev pub insert : {X : Type 0} → Text → X → Map X → Map X
insert k x m = put text_cmp k x m

-- the map of these entries, of which the first counts where a key stands twice
abbrev pub map_of : {X : Type 0} → List (Text × X) → Map X
map_of [] = []
map_of (e ∷ es) = insert e.0 e.1 (map_of es)

-- the item at an index, from 0
abbrev pub nth : {X : Type 0} → ℕ → List X → Option X
nth n [] = None
nth zero (x ∷ xs) = Some x
nth (suc n) (x ∷ xs) = nth n xs

-- the list with another item at an index
abbrev pub with_nth : {X : Type 0} → ℕ → X → List X → List X
with_nth n y [] = []
with_nth zero y (x ∷ xs) = y ∷ xs
with_nth (suc n) y (x ∷ xs) = x ∷ with_nth n y xs

abbrev pub text_or_none : Option Text → Text
text_or_none None = []
text_or_none (Some t) = t

-- whether the first entry is at this key
abbrev pub first_is : {X : Type 0} → Text → Map X → Bool
first_is key [] = false
first_is key (e ∷ es) = is_eq (text_cmp key e.0)
