-- What stands behind a field is shorter.
use Rattle.std.proofs.Common.{◌≡◌, ℕ, suc, ◌+◌, ◌-◌, ◌≤◌, Bool, true, false, cond, List, [], ◌∷◌, length, refl, arith}
use Rattle.std.specs.List.{prefix_len}
use Rattle.std.proofs.lemmas.List.{length-drop}
use Rattle.span_text.specs.declared.flagged.Item.{Item}
use Rattle.field_split.specs.declared.sort.Sort.{Sort}
use Rattle.field_split.specs.declared.sort.Sort.TheVariants.{Kept, White, Other}
use Rattle.field_split.specs.Fields.{splits, is_blank, is_of, after, after_one, behind}

after_le : (s : Sort) (ifs : List ℕ) (xs : List Item) → length (after s ifs xs) ≤ length xs
after_le s ifs xs = omega (arith, length-drop (prefix_len (is_of s ifs) xs) xs)

after_lt : (s : Sort) (ifs : List ℕ) (x : Item) (xs : List Item) → is_of s ifs x ≡ true → length (after s ifs (x ∷ xs)) ≤ length xs
after_lt s ifs x xs e =
    let k : prefix_len (is_of s ifs) (x ∷ xs) ≡ 1 + prefix_len (is_of s ifs) xs = rw e refl in
    let l : length (after s ifs (x ∷ xs)) ≡ suc (length xs) - prefix_len (is_of s ifs) (x ∷ xs) = length-drop (prefix_len (is_of s ifs) (x ∷ xs)) (x ∷ xs) in
    omega arith

after_none : (s : Sort) (ifs : List ℕ) (x : Item) (xs : List Item) → is_of s ifs x ≡ false → after s ifs (x ∷ xs) ≡ x ∷ xs
after_none s ifs x xs e = rw e refl

one_le : (ifs : List ℕ) (xs : List Item) → length (after_one ifs xs) ≤ length xs
one_le ifs [] = omega arith
one_le ifs (x ∷ xs) = elim (is_of Other ifs x) as (λ b. length (cond b xs (x ∷ xs)) ≤ suc (length xs)) [ true ↦ omega arith | false ↦ omega arith ]

one_lt : (ifs : List ℕ) (x : Item) (xs : List Item) → is_of Other ifs x ≡ true → after_one ifs (x ∷ xs) ≡ xs
one_lt ifs x xs e = rw e refl

-- An item is white, another separator or kept.
by_sort : (ifs : List ℕ) (x : Item) (xs : List Item) (a b : Bool) → splits ifs x ≡ a → is_blank x ≡ b → length (behind ifs (x ∷ xs)) ≤ length xs
unfolding behind is_of
by_sort ifs x xs false b e f =
    let k : is_of Kept ifs x ≡ true = rw e refl in
    let h1 = after_lt Kept ifs x xs k in
    let h2 = after_le White ifs (after Kept ifs (x ∷ xs)) in
    let h3 = one_le ifs (after White ifs (after Kept ifs (x ∷ xs))) in
    let h4 = after_le White ifs (after_one ifs (after White ifs (after Kept ifs (x ∷ xs)))) in
    omega arith
by_sort ifs x xs true true e f =
    let n : is_of Kept ifs x ≡ false = rw e refl in
    let k : is_of White ifs x ≡ true = rw (e, f) refl in
    let h1 : after Kept ifs (x ∷ xs) ≡ x ∷ xs = after_none Kept ifs x xs n in
    let h2 = after_lt White ifs x xs k in
    let h3 = one_le ifs (after White ifs (x ∷ xs)) in
    let h4 = after_le White ifs (after_one ifs (after White ifs (x ∷ xs))) in
    rw h1 (omega arith)
by_sort ifs x xs true false e f =
    let n : is_of Kept ifs x ≡ false = rw e refl in
    let m : is_of White ifs x ≡ false = rw (e, f) refl in
    let k : is_of Other ifs x ≡ true = rw (e, f) refl in
    let h1 : after Kept ifs (x ∷ xs) ≡ x ∷ xs = after_none Kept ifs x xs n in
    let h2 : after White ifs (x ∷ xs) ≡ x ∷ xs = after_none White ifs x xs m in
    let h3 : after_one ifs (x ∷ xs) ≡ xs = one_lt ifs x xs k in
    let h4 = after_le White ifs xs in
    rw (h1, h2, h3) h4

pub behind_shorter : (ifs : List ℕ) (x : Item) (xs : List Item) → length (behind ifs (x ∷ xs)) ≤ length xs
behind_shorter ifs x xs = by_sort ifs x xs (splits ifs x) (is_blank x) refl refl
