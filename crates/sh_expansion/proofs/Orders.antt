-- Texts have one order, so what is sorted is what the definition gives.
use Rattle.std.proofs.Common.{◌≡◌, ℕ, zero, suc, ◌+◌, Bool, true, false, ◌<◌, List, [], ◌∷◌, ◌++◌, length, drop, get_or, sum_by, refl, sym, ap, ◌∙◌, subst, arith, Ordering, Less, Equal, Greater, is_lt, is_gt, is_eq, true≢false, IsPermutation, IsSorted, bytes_eq}
use Rattle.std.specs.Prelude.{◌==◌, if◌then◌else◌, Option, Some, None}
use Rattle.std.specs.List.{AllByRecursion}
use Rattle.std.specs.Cmp.Lexicographic.{nat_list_cmp_total, same_text as alike}
use Rattle.std.specs.Ordering.{ordering_reverse}
use Rattle.std.proofs.lemmas.Bool.Decides.{nat_tests}
use Rattle.std.proofs.lemmas.Cmp.{tied_itself, upto}
use Rattle.std.proofs.lemmas.List.{drop_more}
use Rattle.std.proofs.lemmas.List.Sums.{sum_by-cons}
use Rattle.std.proofs.lemmas.List.Sorted.{sum_by-IsPermutation, length_permutation}
use Rattle.std.proofs.lemmas.Map.Text.{is_eq-slice_cmp}
use Rattle.shell_world.specs.Texts.{Text, text_cmp}
use Rattle.span_text.specs.declared.flagged.Item.{Item}
use Rattle.sh_meaning.specs.Pathnames.{placed, in_order, field_texts, found_or, both, texts_among}

abbrev AtMost : Text → Text → Type 0
AtMost a b = is_gt (text_cmp a b) ≡ false

abbrev Rises : List Text → Type 0
Rises [] = Unit {0}
Rises (x ∷ xs) = AllByRecursion (AtMost x) xs × Rises xs

turned : (o : Ordering) → is_lt o ≡ false → is_gt (ordering_reverse o) ≡ false
turned Less h = h
turned Equal h = refl
turned Greater h = refl

turned_up : (o : Ordering) → is_gt o ≡ true → is_gt (ordering_reverse o) ≡ false
turned_up Less h = absurd (true≢false (sym h))
turned_up Equal h = refl
turned_up Greater h = refl

all_from : (x y : Text) (ys : List Text) → AtMost x y → AllByRecursion (AtMost y) ys → AllByRecursion (AtMost x) ys
all_from x y [] first all = tt
all_from x y (z ∷ zs) first all = (upto nat_list_cmp_total x y z first all.0, all_from x y zs first all.1)

below_all : (x : Text) (ys : List Text) → IsSorted text_cmp (x ∷ ys) → Rises ys → AllByRecursion (AtMost x) ys
below_all x [] sorted up = tt
below_all x (y ∷ ys) sorted up =
    let first : AtMost x y = ap is_gt (nat_list_cmp_total.antisymm x y) ∙ turned _ (sorted 0 x (omega arith) (omega arith)) in
    (first, all_from x y ys first up.0)

rises_sorted : (xs : List Text) → IsSorted text_cmp xs → Rises xs
rises_sorted [] sorted = tt
rises_sorted (x ∷ xs) sorted =
    let tail : IsSorted text_cmp xs = λ k d p q. rw Rattle.std.proofs.Common.add-one (rw Rattle.std.proofs.Common.add-one at (sorted (suc k) d (omega arith) (omega arith))) in
    let up = rises_sorted xs tail in
    (below_all x xs sorted up, up)

all_placed : (x t : Text) (xs : List Text) → AtMost x t → AllByRecursion (AtMost x) xs → AllByRecursion (AtMost x) (placed t xs)
all_placed x t [] first all = (first, tt)
all_placed x t (y ∷ ys) first all =
    elim (is_gt (text_cmp t y)) as (λ b. AllByRecursion (AtMost x) (if b then y ∷ placed t ys else t ∷ y ∷ ys)) [ true ↦ (all.0, all_placed x t ys first all.1) | false ↦ (first, all) ]

rises_placed : (t : Text) (xs : List Text) → Rises xs → Rises (placed t xs)
rises_placed t [] up = (tt, tt)
rises_placed t (y ∷ ys) up = go (is_gt (text_cmp t y)) refl (rises_placed t ys up.1)
  where
    go : (b : Bool) → is_gt (text_cmp t y) ≡ b → Rises (placed t ys) → Rises (if b then y ∷ placed t ys else t ∷ y ∷ ys)
    go true e more = (all_placed y t ys (ap is_gt (nat_list_cmp_total.antisymm y t) ∙ turned_up _ e) up.0, more)
    go false e more = ((e, all_from t y ys e up.0), up)

rises_in_order : (xs : List Text) → Rises (in_order xs)
rises_in_order [] = tt
rises_in_order (x ∷ xs) = rises_placed x (in_order xs) (rises_in_order xs)

sum_placed : (f : Text → ℕ) (t : Text) (xs : List Text) → sum_by f (placed t xs) ≡ f t + sum_by f xs
sum_placed f t [] = sum_by-cons f t []
sum_placed f t (y ∷ ys) =
    elim (is_gt (text_cmp t y)) as (λ b. sum_by f (if b then y ∷ placed t ys else t ∷ y ∷ ys) ≡ f t + sum_by f (y ∷ ys)) [
      | true ↦ rw (sum_by-cons f y (placed t ys), sum_by-cons f y ys, sum_placed f t ys) (omega arith)
      | false ↦ sum_by-cons f t (y ∷ ys)
    ]

sum_in_order : (f : Text → ℕ) (xs : List Text) → sum_by f (in_order xs) ≡ sum_by f xs
sum_in_order f [] = refl
sum_in_order f (x ∷ xs) = sum_placed f x (in_order xs) ∙ ap (λ n. f x + n) (sum_in_order f xs) ∙ sym (sum_by-cons f x xs)

abbrev as_number : Bool → ℕ
as_number true = 1
as_number false = 0

-- whether the second text stands before the first, as a number
abbrev below : Text → Text → ℕ
below x y = as_number (is_gt (text_cmp x y))

none_below : (x : Text) (xs : List Text) → AllByRecursion (AtMost x) xs → sum_by (below x) xs ≡ 0
none_below x [] all = refl
none_below x (y ∷ ys) all = rw (sum_by-cons (below x) y ys, all.0, none_below x ys all.1) refl

head_first : (x : Text) (xs : List Text) → Rises (x ∷ xs) → sum_by (below x) (x ∷ xs) ≡ 0
head_first x xs up = none_below x (x ∷ xs) (ap is_gt (tied_itself nat_list_cmp_total x), up.0)

not_below : (x y : Text) → below x y ≡ 0 → is_gt (text_cmp x y) ≡ false
not_below x y none = go (is_gt (text_cmp x y)) none
  where
    go : (b : Bool) → as_number b ≡ 0 → b ≡ false
    go false e = refl
    go true e = absurd (omega (arith, e))

tied : (o : Ordering) → is_gt o ≡ false → is_gt (ordering_reverse o) ≡ false → is_eq o ≡ true
tied Less up down = absurd (true≢false down)
tied Equal up down = refl
tied Greater up down = absurd (true≢false up)

same_text : (x y : Text) → is_gt (text_cmp x y) ≡ false → is_gt (text_cmp y x) ≡ false → x ≡ y
same_text x y up down = alike x y (sym (sym (is_eq-slice_cmp x y) ∙ tied (text_cmp x y) up (ap is_gt (sym (nat_list_cmp_total.antisymm y x)) ∙ down)))

same_order : (xs ys : List Text) → Rises xs → Rises ys → ((f : Text → ℕ) → sum_by f xs ≡ sum_by f ys) → xs ≡ ys
same_order [] [] up up' same = refl
same_order [] (y ∷ ys) up up' same = absurd (omega (arith, same (λ t. 1), sum_by-cons (λ (t : Text). 1) y ys))
same_order (x ∷ xs) [] up up' same = absurd (omega (arith, same (λ t. 1), sum_by-cons (λ (t : Text). 1) x xs))
same_order (x ∷ xs) (y ∷ ys) up up' same =
    let a : below x y ≡ 0 = omega (arith, same (below x), head_first x xs up, sum_by-cons (below x) y ys) in
    let b : below y x ≡ 0 = omega (arith, same (below y), head_first y ys up', sum_by-cons (below y) x xs) in
    let e : x ≡ y = same_text x y (not_below x y a) (not_below y x b) in
    let rest : (f : Text → ℕ) → sum_by f xs ≡ sum_by f ys = λ f. omega (arith, same f, ap f e, sum_by-cons f x xs, sum_by-cons f y ys) in
    rw (e, same_order xs ys up.1 up'.1 rest) refl

-- the names that are found, in order
pub sorted_is : (all found : List Text) → IsPermutation all found → IsSorted text_cmp found → in_order all ≡ found
sorted_is all found moved sorted = same_order (in_order all) found (rises_in_order all) (rises_sorted found sorted) (λ f. sum_in_order f all ∙ sym (sum_by-IsPermutation f all found moved))

pub found_is : (t : Text) (all found : List Text) → IsPermutation all found → IsSorted text_cmp found → (if length found == 0 then t ∷ [] else found) ≡ found_or t all
found_is t [] [] moved sorted = refl
found_is t [] (y ∷ ys) moved sorted = absurd (omega (arith, length_permutation _ _ moved))
found_is t (x ∷ xs) [] moved sorted = absurd (omega (arith, length_permutation _ _ moved))
found_is t (x ∷ xs) (y ∷ ys) moved sorted =
    let some : (length (y ∷ ys) == 0) ≡ false = grind (arith, nat_tests) in
    rw some (sym (sorted_is (x ∷ xs) (y ∷ ys) moved sorted))

-- ---- texts of one field behind another

pub both_none : (a : Option (List Text)) → both (Some []) a ≡ a
both_none None = refl
both_none (Some xs) = refl

pub both_assoc : (a b c : Option (List Text)) → both a (both b c) ≡ both (both a b) c
both_assoc None b c = refl
both_assoc (Some xs) None c = refl
both_assoc (Some xs) (Some ys) None = refl
both_assoc (Some xs) (Some ys) (Some zs) = ap (λ (l : List Text). Some l) (sym (Rattle.std.proofs.Common.append_assoc xs ys zs))

-- a field more
pub texts_more : (names : List Text) (fields : List (List Item)) (i : ℕ) (field : List Item) (a b : List Text) (whole : Option (List Text)) → i < length fields → field ≡ get_or fields i field → both (Some a) (field_texts names field) ≡ Some b → both (Some a) (texts_among names (drop i fields)) ≡ whole → both (Some b) (texts_among names (drop (i + 1) fields)) ≡ whole
texts_more names fields i field a b whole lt is clear inv =
    let e : drop i fields ≡ field ∷ drop (i + 1) fields = drop_more fields i field lt ∙ ap (λ (y : List Item). y ∷ drop (i + 1) fields) (sym is) in
    let one : both (Some a) (both (field_texts names field) (texts_among names (drop (i + 1) fields))) ≡ whole = rw e at inv in
    ap (λ z. both z (texts_among names (drop (i + 1) fields))) (sym clear) ∙ sym (both_assoc (Some a) (field_texts names field) (texts_among names (drop (i + 1) fields))) ∙ one
