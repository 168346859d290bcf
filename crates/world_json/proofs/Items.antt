-- Values put one behind another, beside the items and members that they are seen as.
use Rattle.std.proofs.Common.{◌≡◌, ℕ, ◌+◌, ◌<◌, ◌≤◌, List, [], ◌∷◌, ◌++◌, length, get_or, drop, refl, sym, ap, ◌∙◌}
use Rattle.std.proofs.lemmas.List.{drop_more, at_drop_all}
use Rattle.serde_json.specs.Data.{Data, Items, no_items, item, Members, put}
use Rattle.serde_json.specs.View.{view, items_view}
use Rattle.serde_json.specs.declared.value.Value.{Value}
use Rattle.shell_world.specs.Texts.{Text}
use Rattle.world_json.specs.Texts.{characters, text_data}
use Rattle.world_json.specs.Reports.{items_for, pairs_members}

-- the items of these values, and then more
abbrev pub joined : List Value → Items → Items
joined [] more = more
joined (v ∷ vs) more = item (view v) (joined vs more)

joined_push : (vs : List Value) (v : Value) (more : Items) → joined (vs ++ v ∷ []) more ≡ joined vs (item (view v) more)
joined_push [] v more = refl
joined_push (w ∷ vs) v more = ap (item (view w)) (joined_push vs v more)

joined_none : (vs : List Value) → joined vs no_items ≡ items_view vs
joined_none [] = refl
joined_none (v ∷ vs) = ap (item (view v)) (joined_none vs)

-- the next item of a loop over xs, and its end
pub item_more : {X : Type 0} (f : X → Data) (xs : List X) (i : ℕ) (x : X) (done later : List Value) (v : Value) → i < length xs → x ≡ get_or xs i x → view v ≡ f x
    → later ≡ done ++ v ∷ [] → joined done (items_for f (drop i xs)) ≡ items_for f xs → joined later (items_for f (drop (i + 1) xs)) ≡ items_for f xs
item_more {X = X} f xs i x done later v lt is seen pushed so_far =
    let next : drop i xs ≡ x ∷ drop (i + 1) xs = drop_more xs i x lt ∙ ap (λ (y : X). y ∷ drop (i + 1) xs) (sym is) in
    ap (λ vs. joined vs (items_for f (drop (i + 1) xs))) pushed ∙ joined_push done v _ ∙ ap (λ d. joined done (item d (items_for f (drop (i + 1) xs)))) seen
    ∙ ap (λ l. joined done (items_for f l)) (sym next) ∙ so_far

pub items_all : {X : Type 0} (f : X → Data) (xs : List X) (i : ℕ) (done : List Value) → length xs ≤ i → joined done (items_for f (drop i xs)) ≡ items_for f xs → items_view done ≡ items_for f xs
items_all f xs i done le so_far = sym (joined_none done) ∙ sym (at_drop_all (λ l. joined done (items_for f l)) xs i le) ∙ so_far

pub pair_more : (xs : List (Text × Text)) (i : ℕ) (x : Text × Text) (done later : Members) → i < length xs → x ≡ get_or xs i x → later ≡ put (characters x.0) (text_data x.1) done
    → (all : Members) → pairs_members done (drop i xs) ≡ all → pairs_members later (drop (i + 1) xs) ≡ all
pair_more xs i x done later lt is added all so_far =
    let next : drop i xs ≡ x ∷ drop (i + 1) xs = drop_more xs i x lt ∙ ap (λ (y : Text × Text). y ∷ drop (i + 1) xs) (sym is) in
    ap (λ ms. pairs_members ms (drop (i + 1) xs)) added ∙ ap (pairs_members done) (sym next) ∙ so_far

pub pairs_all : (xs : List (Text × Text)) (i : ℕ) (done all : Members) → length xs ≤ i → pairs_members done (drop i xs) ≡ all → done ≡ all
pairs_all xs i done all le so_far = sym (at_drop_all (pairs_members done) xs i le) ∙ so_far
