-- The files of a run are a map of files throughout.
use Rattle.std.proofs.Common.{◌≡◌, ◌≢◌, ℕ, zero, suc, ◌+◌, ◌<◌, Bool, true, false, ◌==◌, ◌&&◌, ◌||◌, cond, if◌then◌else◌, nat_lt, T, List, [], ◌∷◌, ◌++◌, length, map, is_some, All, Option, Some, None, refl, sym, ap, ◌∙◌, subst, arith, append_assoc, append-nil}
use Rattle.std.specs.declared.cmp.Ordering.{Ordering}
use Rattle.std.specs.declared.cmp.Ordering.TheVariants.{Less, Equal, Greater}
use Rattle.std.specs.Ordering.{is_eq, is_lt}
use Rattle.std.specs.List.{AllByRecursion, list_any}
use Rattle.std.specs.FinMap.{is_sorted}
use Rattle.std.specs.FinMap.Entries.{below_all, is_sorted-put, find-put}
use Rattle.std.proofs.lemmas.Bool.{false≢true}
use Rattle.std.proofs.lemmas.Bool.Decides.{nat_tests}
use Rattle.std.proofs.lemmas.Cmp.{nat_list_cmp_total, tied_itself}
use Rattle.std.proofs.lemmas.List.{length-append}
use Rattle.std.proofs.lemmas.List.Elements.{All-from_recursion, recursion_from_All}
use Rattle.std.proofs.lemmas.Map.Lookups.{exact_bytes}
use Rattle.shell_world.specs.declared.world.World.{World}
use Rattle.shell_world.specs.declared.world.Row.{Row}
use Rattle.shell_world.specs.declared.world.Answer.{Answer}
use Rattle.shell_world.specs.declared.world.RowInput.{RowInput}
use Rattle.shell_world.specs.declared.world.RowInput.TheVariants.{Nothing, Any, Exactly}
use Rattle.shell_world.specs.declared.description.Description.TheVariants.{Reading, Writing, Appending, Given, Buffer, Output, Errors}
use Rattle.shell_world.specs.Texts.{Text, Map, text_cmp, lookup, insert, map_of, nth, with_nth}
use Rattle.shell_world.specs.Outside.{Desc, Outside, Trace, Fds, index_at, desc_at, open_at, change_desc, file_bytes, unread, read_on, consumed_at, drained_at, overwritten, written_at, write_to, written}
use Rattle.shell_world.specs.World.{IsPath, IsFolderOf, AreFiles, Distinct, IsGood, start_outside}
use Rattle.shell_world.specs.Paths.{names_path, path_text, path_of, folders_from, folders_of, is_folder_of, is_folder, is_under_file}
use Rattle.shell_world.specs.Files.{IsThere, WritesThere, IsSound}
use Rattle.shell_world.proofs.PathLaws.{named_is_path, folder_found}

first_true : (a b : Bool) → (a && b) ≡ true → a ≡ true
first_true true b e = refl
first_true false b e = e

second_true : (a b : Bool) → (a && b) ≡ true → b ≡ true
second_true true b e = e
second_true false b e = absurd (false≢true e)

as_T : (b : Bool) → b ≡ true → T b
as_T b e = subst T (sym e) tt

from_T : (b : Bool) → T b → b ≡ true
from_T true h = refl
from_T false h = absurd h

both_all : {X : Type 0} (P Q R : X → Type 0) → ((x : X) → P x → Q x → R x) → (xs : List X) → AllByRecursion P xs → AllByRecursion Q xs → AllByRecursion R xs
both_all P Q R f [] g h = tt
both_all P Q R f (x ∷ xs) g h = (f x g.0 h.0, both_all P Q R f xs g.1 h.1)

-- ---- maps

module _ {X : Type 0} where
  -- what holds of a key and of those of a map holds of all with it
  put_all : (P : Text → Type 0) (k : Text) (v : X) (m : Map X) → P k → AllByRecursion (λ e. P e.0) m → AllByRecursion (λ e. P e.0) (insert k v m)
  put_all P k v [] p h = (p, tt)
  put_all P k v (e ∷ es) p h = by (text_cmp k e.0) refl (put_all P k v es p h.1)
    where
      by : (r : Ordering) → text_cmp k e.0 ≡ r → AllByRecursion (λ e. P e.0) (insert k v es) → AllByRecursion (λ e. P e.0) (insert k v (e ∷ es))
      by Less is more = rw is (p, h)
      by Equal is more = rw is h
      by Greater is more = rw is (h.0, more)

  lookup_all : (P : Text → Type 0) (k : Text) (m : Map X) → is_some (lookup k m) ≡ true → AllByRecursion (λ e. P e.0) m → P k
  lookup_all P k [] some h = absurd (false≢true some)
  lookup_all P k (e ∷ es) some h = by (text_cmp k e.0) refl (λ s. lookup_all P k es s h.1)
    where
      by : (r : Ordering) → text_cmp k e.0 ≡ r → (is_some (lookup k es) ≡ true → P k) → P k
      by Less is more = more (sym (rw is refl) ∙ some)
      by Equal is more = subst P (sym (exact_bytes k e.0 is)) h.0
      by Greater is more = more (sym (rw is refl) ∙ some)

  some_either : (b : Bool) (x : X) (o : Option X) → is_some o ≡ true → is_some (cond b (Some x) o) ≡ true
  some_either true x o h = refl
  some_either false x o h = h

  later_found : (e : Text × X) (m ms : Map X) → AllByRecursion (λ f. is_some (lookup f.0 ms) ≡ true) m → AllByRecursion (λ f. is_some (lookup f.0 (e ∷ ms)) ≡ true) m
  later_found e [] ms h = tt
  later_found e (f ∷ m) ms h = (some_either (is_eq (text_cmp f.0 e.0)) e.1 (lookup f.0 ms) h.0, later_found e m ms h.1)

  keys_found : (m : Map X) → AllByRecursion (λ f. is_some (lookup f.0 m) ≡ true) m
  keys_found [] = tt
  keys_found (e ∷ es) = (ap (λ r. is_some (cond (is_eq r) (Some e.1) (lookup e.0 es))) (tied_itself nat_list_cmp_total e.0), later_found e es es (keys_found es))

  pub still_there : (q k : Text) (v : X) (m : Map X) → is_some (lookup q m) ≡ true → is_some (lookup q (insert k v m)) ≡ true
  still_there q k v m h = ap is_some (find-put text_cmp nat_list_cmp_total q k v m) ∙ some_either (is_eq (text_cmp q k)) v (lookup q m) h

  pub now_there : (k : Text) (v : X) (m : Map X) → is_some (lookup k (insert k v m)) ≡ true
  now_there k v m = ap is_some (find-put text_cmp nat_list_cmp_total k k v m) ∙ ap (λ r. is_some (cond (is_eq r) (Some v) (lookup k m))) (tied_itself nat_list_cmp_total k)

  pub put_ordered : (k : Text) (v : X) (m : Map X) → is_sorted text_cmp m ≡ true → is_sorted text_cmp (insert k v m) ≡ true
  put_ordered k v m h = from_T _ (is_sorted-put text_cmp nat_list_cmp_total k v m (as_T _ h))

  below_apart : (x : Text) (es : Map X) → below_all text_cmp x es ≡ true → AllByRecursion (λ u. u ≢ x) (map (λ e. e.0) es)
  below_apart x [] h = tt
  below_apart x (e ∷ es) h = (other (first_true _ _ h), below_apart x es (second_true (is_lt (text_cmp x e.0)) _ h))
    where
      other : is_lt (text_cmp x e.0) ≡ true → e.0 ≢ x
      other less is = false≢true (sym (ap is_lt (ap (text_cmp x) is ∙ tied_itself nat_list_cmp_total x)) ∙ less)

  ordered_distinct : (m : Map X) → is_sorted text_cmp m ≡ true → Distinct (map (λ e. e.0) m)
  ordered_distinct [] h = tt
  ordered_distinct (e ∷ es) h = (All-from_recursion (λ u. u ≢ e.0) (map (λ e. e.0) es) (below_apart e.0 es (first_true _ _ h)), ordered_distinct es (second_true (below_all text_cmp e.0 es) _ h))

  pub map_all : (P : Text → Type 0) (es : List (Text × X)) → AllByRecursion (λ e. P e.0) es → AllByRecursion (λ e. P e.0) (map_of es)
  map_all P [] h = tt
  map_all P (e ∷ es) h = put_all P e.0 e.1 (map_of es) h.0 (map_all P es h.1)

  pub map_ordered : (es : List (Text × X)) → is_sorted text_cmp (map_of es) ≡ true
  map_ordered [] = refl
  map_ordered (e ∷ es) = put_ordered e.0 e.1 (map_of es) (map_ordered es)

-- ---- folders

abbrev pub AllApart : Map Text → Type 0
AllApart m = AllByRecursion (λ f. AllByRecursion (λ g. ¬ IsFolderOf f.0 g.0) m) m

not_of_itself : (path : Text) → ¬ IsFolderOf path path
not_of_itself path h = absurd (omega (arith, ap length h.1.1, length-append path (47 ∷ h.1.0)))

put_apart : (k v : Text) (m : Map Text) → AllApart m → AllByRecursion (λ g. ¬ IsFolderOf k g.0) m → AllByRecursion (λ f. ¬ IsFolderOf f.0 k) m → AllApart (insert k v m)
put_apart k v m all from_key to_key =
    put_all (λ t. AllByRecursion (λ g. ¬ IsFolderOf t g.0) (insert k v m)) k v m
    (put_all (λ t. ¬ IsFolderOf k t) k v m (not_of_itself k) from_key)
    (both_all (λ f. AllByRecursion (λ g. ¬ IsFolderOf f.0 g.0) m) (λ f. ¬ IsFolderOf f.0 k) (λ f. AllByRecursion (λ g. ¬ IsFolderOf f.0 g.0) (insert k v m))
    (λ f row one. put_all (λ t. ¬ IsFolderOf f.0 t) k v m one row) m all to_key)

neither_one : (a b : Bool) → (a || b) ≡ false → (a ≡ false) × (b ≡ false)
neither_one true b e = absurd (false≢true (sym e))
neither_one false b e = (refl, e)

no_folder : (path : Text) (m : Map Text) → is_folder path m ≡ false → AllByRecursion (λ g. ¬ IsFolderOf path g.0) m
no_folder path [] e = tt
no_folder path (g ∷ m) e =
    let two = neither_one (is_folder_of path g.0) (is_folder path m) e in
    ((λ folder. false≢true (sym two.0 ∙ folder_found path g.0 folder)), no_folder path m two.1)

or_true : (a b : Bool) → b ≡ true → (a || b) ≡ true
or_true true b e = refl
or_true false b e = e

any_if : (P : Text → Bool) (c : Bool) (front : Text) (more : List Text) → list_any P more ≡ true → list_any P (if c then front ∷ more else more) ≡ true
any_if P true front more e = or_true (P front) _ e
any_if P false front more e = e

first_if : (P : Text → Bool) (c : Bool) (front : Text) (more : List Text) → c ≡ true → P front ≡ true → list_any P (if c then front ∷ more else more) ≡ true
first_if P c front more e f = rw (e, f) refl

-- a front that stands before a `/` is among the folders
pub folder_listed : (P : Text → Bool) (front mid more : Text) → P (front ++ mid) ≡ true → 0 < length (front ++ mid) → list_any P (folders_from front (mid ++ 47 ∷ more)) ≡ true
folder_listed P front [] more e some =
    let same : front ++ [] ≡ front = append-nil front in
    first_if P (nat_lt 0 (length front)) front (folders_from (front ++ 47 ∷ []) more) (grind (arith, nat_tests, ap length same)) (ap P (sym same) ∙ e)
folder_listed P front (b ∷ mid) more e some =
    let moved : (front ++ b ∷ []) ++ mid ≡ front ++ b ∷ mid = append_assoc front (b ∷ []) mid in
    let Q : Text → Type 0 = λ t. 0 < length t in
    any_if P (b == 47 && nat_lt 0 (length front)) front (folders_from (front ++ b ∷ []) (mid ++ 47 ∷ more)) (folder_listed P (front ++ b ∷ []) mid more (ap P moved ∙ e) (subst Q (sym moved) some))

pub nonempty : (t : Text) → t ≢ [] → 0 < length t
nonempty [] h = absurd (h refl)
nonempty (b ∷ t) h = omega arith

file_above : (f path : Text) (m : Map Text) → is_some (lookup f m) ≡ true → IsFolderOf f path → is_under_file path m ≡ true
file_above f path m there h =
    ap (λ p. is_under_file p m) h.1.1 ∙ folder_listed (λ folder. is_some (lookup folder m)) [] f h.1.0 there (nonempty f h.0)

no_file_above : (path : Text) (m fs : Map Text) → is_under_file path m ≡ false → AllByRecursion (λ f. is_some (lookup f.0 m) ≡ true) fs → AllByRecursion (λ f. ¬ IsFolderOf f.0 path) fs
no_file_above path m [] e h = tt
no_file_above path m (f ∷ fs) e h = ((λ folder. false≢true (sym e ∙ file_above f.0 path m h.0 folder)), no_file_above path m fs e h.1)

-- ---- maps of files

-- the same by recursion on the list
pub record Sound (m : Map Text) : Type 0 where
  pub paths : AllByRecursion (λ f. IsPath f.0) m
  pub apart : AllApart m
  pub ordered : is_sorted text_cmp m ≡ true

pub from_sound : (m : Map Text) → Sound m → AreFiles m
from_sound m s = record {
  paths = All-from_recursion (λ f. IsPath f.0) m s.paths;
  distinct = ordered_distinct m s.ordered;
  apart = All-from_recursion (λ f. All (λ g. ¬ IsFolderOf f.0 g.0) m) m (rows m s.apart);
}
  where
    rows : (fs : Map Text) → AllByRecursion (λ f. AllByRecursion (λ g. ¬ IsFolderOf f.0 g.0) m) fs → AllByRecursion (λ f. All (λ g. ¬ IsFolderOf f.0 g.0) m) fs
    rows [] h = tt
    rows (f ∷ fs) h = (All-from_recursion (λ g. ¬ IsFolderOf f.0 g.0) m h.0, rows fs h.1)

pub rows_from : (m fs : Map Text) → AllByRecursion (λ f. All (λ g. ¬ IsFolderOf f.0 g.0) m) fs → AllByRecursion (λ f. AllByRecursion (λ g. ¬ IsFolderOf f.0 g.0) m) fs
rows_from m [] h = tt
rows_from m (f ∷ fs) h = (recursion_from_All (λ g. ¬ IsFolderOf f.0 g.0) m h.0, rows_from m fs h.1)

pub to_sound : (m : Map Text) → AreFiles m → is_sorted text_cmp m ≡ true → Sound m
to_sound m h o = record {
  paths = recursion_from_All (λ f. IsPath f.0) m h.paths;
  apart = rows_from m m (recursion_from_All (λ f. All (λ g. ¬ IsFolderOf f.0 g.0) m) m h.apart);
  ordered = o;
}

-- a new path
pub sound_new : (k v : Text) (m : Map Text) → Sound m → IsPath k → is_folder k m ≡ false → is_under_file k m ≡ false → Sound (insert k v m)
sound_new k v m s path above below = record {
  paths = put_all IsPath k v m path s.paths;
  apart = put_apart k v m s.apart (no_folder k m above) (no_file_above k m m below (keys_found m));
  ordered = put_ordered k v m s.ordered;
}

column : (k : Text) (m fs : Map Text) → is_some (lookup k m) ≡ true → AllByRecursion (λ f. AllByRecursion (λ g. ¬ IsFolderOf f.0 g.0) m) fs → AllByRecursion (λ f. ¬ IsFolderOf f.0 k) fs
column k m [] there h = tt
column k m (f ∷ fs) there h = (lookup_all (λ t. ¬ IsFolderOf f.0 t) k m there h.0, column k m fs there h.1)

-- a path that is there
pub sound_old : (k v : Text) (m : Map Text) → Sound m → is_some (lookup k m) ≡ true → Sound (insert k v m)
sound_old k v m s there = record {
  paths = put_all IsPath k v m (lookup_all IsPath k m there s.paths) s.paths;
  apart = put_apart k v m s.apart (lookup_all (λ t. AllByRecursion (λ g. ¬ IsFolderOf t g.0) m) k m there s.apart) (column k m m there s.apart);
  ordered = put_ordered k v m s.ordered;
}
