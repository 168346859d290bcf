-- What a call answers of a field, by what its calls answered of the parts.
use Rattle.std.proofs.Common.{◌≡◌, ◌≢◌, ◌==◌, ℕ, ◌+◌, ◌<◌, ◌≤◌, Bool, true, false, List, [], ◌∷◌, ◌++◌, length, get_or, drop, map, decimal, Option, Some, None, Result, Ok, Err, refl, sym, ap, ◌∙◌, subst, append_assoc, append-nil, ◌||◌, arith, Bor, string_bytes, if◌then◌else◌}
use Rattle.std.proofs.lemmas.List.{drop_more, at_drop_all}
use Rattle.std.proofs.lemmas.Result.{err_from_is_err_and}
use Rattle.std.specs.Result.{IsErrAnd}
use Rattle.std.specs.List.{list_any}
use Rattle.span_text.specs.KnownNames.{same_text, is_among}
use Rattle.serde_json.specs.Data.{Data, Items, no_items, item, Members}
use Rattle.serde_json.specs.Find.{get, as_array, as_object}
use Rattle.serde_json.specs.View.{view, items_view, members_view}
use Rattle.serde_json.specs.declared.value.Value.{Value}
use Rattle.serde_json.proofs.Views.{Entry}
use Rattle.shell_world.specs.Texts.{Text}
use Rattle.world_json.specs.declared.fault.Reason.TheVariants as reason
use Rattle.world_json.specs.declared.fault.Reason.{Reason}
use Rattle.world_json.specs.declared.fault.JobFault.{JobFault}
use Rattle.world_json.specs.declared.fault.JobFault.TheVariants.{BadWorld, Memory}
use Rattle.world_json.specs.Judging.{Judged, Good, Bad, IsJudged, and_then, within, items_of, some_from, some_of, first_unknown, none_unknown, only_from, only, refused, wanted, wanted_from, member_or, member_from}

-- ---- one after another

pub ok_then : {X Y : Type 0} (j : Judged X) (f : X → Judged Y) (x : X) (r : Result Y JobFault) → j ≡ Good x → IsJudged (f x) r → IsJudged (and_then j f) r
ok_then {X = X} {Y = Y} j f x r e h = let P : Judged X → Type 0 = λ k. IsJudged (and_then k f) r in subst P (sym e) h

-- a part that failed, and the whole with it
pub err_then : {X Y : Type 0} (j : Judged X) (f : X → Judged Y) (e : JobFault) → IsJudged j (Err e) → IsJudged (and_then j f) (Err e)
err_then j f (BadWorld pointer r) h = ap (λ k. and_then k f) h
err_then j f Memory h = tt

-- a fault of the field itself
pub refused_is : {X : Type 0} (j : Judged X) (r : Reason) (e : JobFault) → e ≡ BadWorld [] r → j ≡ Bad [] r → IsJudged j (Err e)
refused_is {X = X} j r e is bad = let P : JobFault → Type 0 = λ f. IsJudged j (Err f) in subst P (sym is) bad

-- what the exit of a `?` returns
pub exit : {X : Type 0} (j : Judged X) (e : JobFault) (r : Result X JobFault) → IsErrAnd r (λ y. y ≡ e) → IsJudged j (Err e) → IsJudged j r
exit {X = X} j e r h judged =
    let p = err_from_is_err_and r h in
    let P : Result X JobFault → Type 0 = λ q. IsJudged j q in
    subst P (sym (p.1 ∙ ap (λ y. Err y) p.2)) judged

-- the fault of a part, of which another judgement says the same
pub same_judged : {X : Type 0} (j k : Judged X) (r : Result X JobFault) → j ≡ k → IsJudged k r → IsJudged j r
same_judged {X = X} j k r e h = let P : Judged X → Type 0 = λ i. IsJudged i r in subst P (sym e) h

-- ---- members

pub member_there : {X : Type 0} (missing : X) (judge : Data → Judged X) (name : Text) (d m : Data) (r : Result X JobFault) → Some m ≡ get name d
    → (n : Text) → n ≡ name → IsJudged (within n (judge m)) r → IsJudged (member_or missing judge name d) r
member_there {X = X} missing judge name d m r e n is h =
    let P : Option Data → Type 0 = λ o. IsJudged (within name (member_from missing judge o)) r in
    let Q : Text → Type 0 = λ t. IsJudged (within t (judge m)) r in
    subst P e (subst Q is h)

pub member_missing : {X : Type 0} (missing : X) (judge : Data → Judged X) (name : Text) (d : Data) → None ≡ get name d → IsJudged (member_or missing judge name d) (Ok missing)
member_missing {X = X} missing judge name d e = let P : Option Data → Type 0 = λ o. IsJudged (within name (member_from missing judge o)) (Ok missing) in subst P e refl

pub wanted_there : {X : Type 0} (judge : Data → Judged X) (name : Text) (d m : Data) (r : Result X JobFault) → Some m ≡ get name d
    → (n : Text) → n ≡ name → IsJudged (within n (judge m)) r → IsJudged (wanted judge name d) r
wanted_there {X = X} judge name d m r e n is h =
    let P : Option Data → Type 0 = λ o. IsJudged (within name (wanted_from judge o)) r in
    let Q : Text → Type 0 = λ t. IsJudged (within t (judge m)) r in
    subst P e (subst Q is h)

pub wanted_missing : {X : Type 0} (judge : Data → Judged X) (name : Text) (d : Data) (r : Result X JobFault) → None ≡ get name d → IsJudged (within name (wanted_from judge None)) r → IsJudged (wanted judge name d) r
wanted_missing {X = X} judge name d r e h = let P : Option Data → Type 0 = λ o. IsJudged (within name (wanted_from judge o)) r in subst P e h

-- ---- lists

-- what a judgement says with these in front
abbrev pub with_front : {X : Type 0} → List X → Judged (List X) → Judged (List X)
with_front done (Good xs) = Good (done ++ xs)
with_front done (Bad pointer r) = Bad pointer r

pub front_more : {X : Type 0} (done : List X) (x : X) (j : Judged (List X)) → with_front done (and_then j (λ xs. Good (x ∷ xs))) ≡ with_front (done ++ x ∷ []) j
front_more done x (Good xs) = ap Good (sym (append_assoc done (x ∷ []) xs))
front_more done x (Bad pointer r) = refl

pub front_none : {X : Type 0} (j : Judged (List X)) → with_front [] j ≡ j
front_none (Good xs) = refl
front_none (Bad pointer r) = refl

-- the items behind those that are done
abbrev pub items_left : {X : Type 0} → (Data → Judged X) → List X → ℕ → List Value → Judged (List X)
items_left judge done i vs = with_front done (items_of judge (length done) (items_view (drop i vs)))

items_next : {X : Type 0} (judge : Data → Judged X) (done : List X) (i : ℕ) (vs : List Value) (v : Value) → i < length vs → v ≡ get_or vs i v
    → items_left judge done i vs ≡ with_front done (items_of judge (length done) (item (view v) (items_view (drop (i + 1) vs))))
items_next judge done i vs v lt is =
    let next : drop i vs ≡ v ∷ drop (i + 1) vs = drop_more vs i v lt ∙ ap (λ (y : Value). y ∷ drop (i + 1) vs) (sym is) in
    ap (λ l. with_front done (items_of judge (length done) (items_view l))) next

length_more : {X : Type 0} (done : List X) (x : X) → length (done ++ x ∷ []) ≡ length done + 1
length_more [] x = refl
length_more (y ∷ done) x = omega (arith, length_more done x)

pub item_good : {X : Type 0} (judge : Data → Judged X) (done later : List X) (i : ℕ) (vs : List Value) (v : Value) (x : X) (all : Judged (List X)) → i < length vs → v ≡ get_or vs i v
    → within (decimal (length done)) (judge (view v)) ≡ Good x → later ≡ done ++ x ∷ [] → items_left judge done i vs ≡ all → items_left judge later (i + 1) vs ≡ all
item_good {X = X} judge done later i vs v x all lt is good pushed so_far =
    let rest = items_view (drop (i + 1) vs) in
    let here = ap (λ (j : Judged X). with_front done (and_then j (λ x. and_then (items_of judge (length done + 1) rest) (λ xs. Good (x ∷ xs))))) good in
    let moved = front_more done x (items_of judge (length done + 1) rest) ∙ ap (λ n. with_front (done ++ x ∷ []) (items_of judge n rest)) (sym (length_more done x)) in
    ap (λ l. items_left judge l (i + 1) vs) pushed ∙ sym moved ∙ sym here ∙ sym (items_next judge done i vs v lt is) ∙ so_far

pub front_bad : {X Y : Type 0} (done : List X) (j : Judged Y) (f : Y → Judged (List X)) (e : JobFault) → IsJudged j (Err e) → IsJudged (with_front done (and_then j f)) (Err e)
front_bad done j f (BadWorld pointer r) h = ap (λ k. with_front done (and_then k f)) h
front_bad done j f Memory h = tt

pub item_bad : {X : Type 0} (judge : Data → Judged X) (done : List X) (i : ℕ) (vs : List Value) (v : Value) (all : Judged (List X)) (e : JobFault) → i < length vs → v ≡ get_or vs i v
    → IsJudged (within (decimal (length done)) (judge (view v))) (Err e) → items_left judge done i vs ≡ all → IsJudged all (Err e)
item_bad judge done i vs v all e lt is bad so_far =
    same_judged _ _ (Err e) (sym so_far ∙ items_next judge done i vs v lt is) (front_bad done (within (decimal (length done)) (judge (view v))) _ e bad)

pub items_end : {X : Type 0} (judge : Data → Judged X) (done : List X) (i : ℕ) (vs : List Value) (all : Judged (List X)) → length vs ≤ i → items_left judge done i vs ≡ all → all ≡ Good done
items_end judge done i vs all le so_far =
    sym so_far ∙ at_drop_all (λ l. with_front done (items_of judge (length done) (items_view l))) vs i le ∙ ap Good (append-nil done)

some_items : {X : Type 0} (judge : Data → Judged X) (ds : Items) (r : Result (List X) JobFault) → ds ≢ no_items → IsJudged (items_of judge 0 ds) r → IsJudged (some_from judge (Some ds)) r
some_items judge no_items r some h = absurd (some refl)
some_items judge (item d ds) r some h = h

pub has_items : (vs : List Value) → false ≡ (length vs == 0) → items_view vs ≢ no_items
has_items [] h e = absurd cc
has_items (v ∷ vs) h e = cc

-- where a list has an item, it is judged item by item
pub some_there : {X : Type 0} (judge : Data → Judged X) (d : Data) (ds : Items) (r : Result (List X) JobFault) → Some ds ≡ as_array d → ds ≢ no_items → IsJudged (items_of judge 0 ds) r → IsJudged (some_of judge d) r
some_there {X = X} judge d ds r e some h =
    let P : Option Items → Type 0 = λ o. IsJudged (some_from judge o) r in
    subst P e (some_items judge ds r some h)

-- ---- names

pub among_now : (names : List (Bor Text)) (text : Text) → list_any (λ name. same_text name.now text) names ≡ is_among (map (λ name. name.now) names) text
among_now [] text = refl
among_now (n ∷ names) text = ap (λ b. same_text n.now text || b) (among_now names text)

-- ---- unknown members

unknown_or : (found : Bool) (k : Text) (rest : Option Text) → found ≡ true → (if found then rest else Some k) ≡ rest
unknown_or found k rest e = rw e refl

unknown_here : (found : Bool) (k : Text) (rest : Option Text) → found ≡ false → (if found then rest else Some k) ≡ Some k
unknown_here found k rest e = rw e refl

pub known_next : (names : List (Bor Text)) (left : List Entry) (e : Entry) (es : List Entry) (text : Text) (found : Bool) → left ≡ e ∷ es → text ≡ string_bytes e.0
    → found ≡ list_any (λ name. same_text name.now text) names → found ≡ true
    → first_unknown (map (λ name. name.now) names) (members_view left) ≡ first_unknown (map (λ name. name.now) names) (members_view es)
known_next names left e es text found is named tells passed =
    let among : is_among (map (λ name. name.now) names) (string_bytes e.0) ≡ true = ap (is_among (map (λ name. name.now) names)) (sym named) ∙ sym (among_now names text) ∙ sym tells ∙ passed in
    ap (λ l. first_unknown (map (λ name. name.now) names) (members_view l)) is ∙ unknown_or _ (string_bytes e.0) (first_unknown (map (λ name. name.now) names) (members_view es)) among

pub unknown_next : (names : List (Bor Text)) (left : List Entry) (e : Entry) (es : List Entry) (text : Text) (found : Bool) → left ≡ e ∷ es → text ≡ string_bytes e.0
    → found ≡ list_any (λ name. same_text name.now text) names → found ≡ false
    → first_unknown (map (λ name. name.now) names) (members_view left) ≡ Some (string_bytes e.0)
unknown_next names left e es text found is named tells failed =
    let among : is_among (map (λ name. name.now) names) (string_bytes e.0) ≡ false = ap (is_among (map (λ name. name.now) names)) (sym named) ∙ sym (among_now names text) ∙ sym tells ∙ failed in
    ap (λ l. first_unknown (map (λ name. name.now) names) (members_view l)) is ∙ unknown_here _ (string_bytes e.0) (first_unknown (map (λ name. name.now) names) (members_view es)) among

pub only_unknown : (names : List Text) (d : Data) (ms : Members) (k n : Text) (r : Result (Unit {0}) JobFault) → Some ms ≡ as_object d → Some k ≡ first_unknown names ms
    → n ≡ k → IsJudged (within n (refused reason.Unknown)) r → IsJudged (only names d) r
only_unknown names d ms k n r e found is h =
    let P : Option Members → Type 0 = λ o. IsJudged (only_from names o) r in
    let Q : Option Text → Type 0 = λ o. IsJudged (none_unknown o) r in
    let R : Text → Type 0 = λ t. IsJudged (within t (refused reason.Unknown)) r in
    subst P e (subst Q found (subst R is h))
