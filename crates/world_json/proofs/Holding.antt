-- What holds of a good value, by what holds of its parts.
use Rattle.std.proofs.Common.{◌≡◌, ◌≢◌, ℕ, ◌+◌, Bool, true, false, List, [], ◌∷◌, decimal, Option, Some, None, refl}
use Rattle.std.specs.List.{AllByRecursion}
use Rattle.serde_json.specs.Data.{Data, Items, no_items, item, Members, no_members, member}
use Rattle.serde_json.specs.Find.{get, as_array}
use Rattle.shell_world.specs.Texts.{Text}
use Rattle.world_json.specs.declared.fault.Reason.{Reason}
use Rattle.world_json.specs.Judging.{Judged, Good, Bad, and_then, within, tested, items_of, list_from, list_of, some_from, some_of, wanted, wanted_from, member_or, member_from}
use Rattle.world_json.specs.Jobs.{pairs_of}

-- P of the value, where it is good
abbrev pub Holds : {X : Type 0} → (X → Type 0) → Judged X → Type 0
Holds P (Good x) = P x
Holds P (Bad pointer r) = Unit {0}

pub anything : {X : Type 0} (j : Judged X) → Holds (λ x. Unit {0}) j
anything (Good x) = tt
anything (Bad pointer r) = tt

pub holds_then : {X Y : Type 0} (P : X → Type 0) (Q : Y → Type 0) (j : Judged X) (f : X → Judged Y) → Holds P j → ((x : X) → P x → Holds Q (f x)) → Holds Q (and_then j f)
holds_then P Q (Good x) f h g = g x h
holds_then P Q (Bad pointer r) f h g = tt

pub holds_within : {X : Type 0} (P : X → Type 0) (name : Text) (j : Judged X) → Holds P j → Holds P (within name j)
holds_within P name (Good x) h = h
holds_within P name (Bad pointer r) h = tt

pub holds_tested : {X : Type 0} (P : X → Type 0) (b : Bool) (r : Reason) (x : X) → (b ≡ true → P x) → Holds P (tested b r x)
holds_tested P true r x h = h refl
holds_tested P false r x h = tt

holds_member : {X : Type 0} (P : X → Type 0) (missing : X) (judge : Data → Judged X) (name : Text) (o : Option Data) → P missing → ((d : Data) → o ≡ Some d → Holds P (judge d)) → Holds P (within name (member_from missing judge o))
holds_member P missing judge name None h g = h
holds_member P missing judge name (Some d) h g = holds_within P name (judge d) (g d refl)

pub holds_or : {X : Type 0} (P : X → Type 0) (missing : X) (judge : Data → Judged X) (name : Text) (d : Data) → P missing → ((m : Data) → get name d ≡ Some m → Holds P (judge m)) → Holds P (member_or missing judge name d)
holds_or P missing judge name d h g = holds_member P missing judge name (get name d) h g

holds_there : {X : Type 0} (P : X → Type 0) (judge : Data → Judged X) (name : Text) (o : Option Data) → ((d : Data) → Holds P (judge d)) → Holds P (within name (wanted_from judge o))
holds_there P judge name None g = tt
holds_there P judge name (Some d) g = holds_within P name (judge d) (g d)

pub holds_wanted : {X : Type 0} (P : X → Type 0) (judge : Data → Judged X) (name : Text) (d : Data) → ((m : Data) → Holds P (judge m)) → Holds P (wanted judge name d)
holds_wanted P judge name d g = holds_there P judge name (get name d) g

pub holds_items : {X : Type 0} (P : X → Type 0) (judge : Data → Judged X) (i : ℕ) (ds : Items) → ((d : Data) → Holds P (judge d)) → Holds (AllByRecursion P) (items_of judge i ds)
holds_items P judge i no_items g = tt
holds_items P judge i (item d ds) g =
    holds_then P (AllByRecursion P) (within (decimal i) (judge d)) _ (holds_within P (decimal i) (judge d) (g d))
    (λ x h. holds_then (AllByRecursion P) (AllByRecursion P) (items_of judge (i + 1) ds) _ (holds_items P judge (i + 1) ds g) (λ xs k. (h, k)))

list_holds : {X : Type 0} (P : X → Type 0) (judge : Data → Judged X) (o : Option Items) → ((d : Data) → Holds P (judge d)) → Holds (AllByRecursion P) (list_from judge o)
list_holds P judge None g = tt
list_holds P judge (Some ds) g = holds_items P judge 0 ds g

pub holds_list : {X : Type 0} (P : X → Type 0) (judge : Data → Judged X) (d : Data) → ((d : Data) → Holds P (judge d)) → Holds (AllByRecursion P) (list_of judge d)
holds_list P judge d g = list_holds P judge (as_array d) g

-- one item at least, and P of each
abbrev pub SomeItems : {X : Type 0} → (X → Type 0) → List X → Type 0
SomeItems P xs = (xs ≢ []) × AllByRecursion P xs

cons_some : {X : Type 0} (x : X) (xs : List X) → x ∷ xs ≢ []
cons_some x xs e = cc

some_holds : {X : Type 0} (P : X → Type 0) (judge : Data → Judged X) (o : Option Items) → ((d : Data) → Holds P (judge d)) → Holds (SomeItems P) (some_from judge o)
some_holds P judge None g = tt
some_holds P judge (Some no_items) g = tt
some_holds P judge (Some (item d ds)) g =
    holds_then P (SomeItems P) (within (decimal 0) (judge d)) _ (holds_within P (decimal 0) (judge d) (g d))
    (λ x h. holds_then (AllByRecursion P) (SomeItems P) (items_of judge 1 ds) _ (holds_items P judge 1 ds g) (λ xs k. (cons_some x xs, (h, k))))

pub holds_some : {X : Type 0} (P : X → Type 0) (judge : Data → Judged X) (d : Data) → ((d : Data) → Holds P (judge d)) → Holds (SomeItems P) (some_of judge d)
holds_some P judge d g = some_holds P judge (as_array d) g

-- R of each key and its pair, in order
abbrev pub Paired : (Text → Text × Text → Type 0) → Members → List (Text × Text) → Type 0
Paired R no_members [] = Unit {0}
Paired R no_members (p ∷ ps) = ⊥
Paired R (member k d ms) [] = ⊥
Paired R (member k d ms) (p ∷ ps) = R k p × Paired R ms ps

pub holds_pairs : (R : Text → Text × Text → Type 0) (judge : Text → Data → Judged (Text × Text)) (ms : Members) → ((k : Text) (d : Data) → Holds (R k) (judge k d)) → Holds (Paired R ms) (pairs_of judge ms)
holds_pairs R judge no_members g = tt
holds_pairs R judge (member k d ms) g =
    holds_then (R k) (Paired R (member k d ms)) (within k (judge k d)) _ (holds_within (R k) k (judge k d) (g k d))
    (λ p h. holds_then (Paired R ms) (Paired R (member k d ms)) (pairs_of judge ms) _ (holds_pairs R judge ms g) (λ ps q. (h, q)))

-- a weaker fact
pub holds_more : {X : Type 0} (P Q : X → Type 0) (j : Judged X) → Holds P j → ((x : X) → P x → Q x) → Holds Q j
holds_more P Q (Good x) h g = g x h
holds_more P Q (Bad pointer r) h g = tt
