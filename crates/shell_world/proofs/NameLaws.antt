-- The names are those of the files and of their folders, in order.
use Rattle.std.proofs.Common.{◌≡◌, ◌≢◌, ◌↔◌, ℕ, zero, suc, Bool, true, false, cond, ◌==◌, ◌&&◌, ◌||◌, nat_lt, ◌<◌, if◌then◌else◌, List, [], ◌∷◌, ◌++◌, length, map, is_some, Option, Some, None, refl, sym, ap, ◌∙◌, subst, arith, append_assoc, append-nil}
use Rattle.std.specs.declared.cmp.Ordering.{Ordering}
use Rattle.std.specs.declared.cmp.Ordering.TheVariants.{Less, Equal, Greater}
use Rattle.std.specs.Ordering.{is_eq, ordering_then}
use Rattle.std.specs.List.{list_any}
use Rattle.std.specs.FinMap.{is_sorted}
use Rattle.std.specs.FinMap.Entries.{find-put, is_some-find}
use Rattle.std.proofs.lemmas.Bool.{false≢true}
use Rattle.std.proofs.lemmas.Bool.Decides.{nat_tests}
use Rattle.std.proofs.lemmas.Cmp.{nat_list_cmp_total}
use Rattle.span_text.specs.KnownNames.{same_text, is_among}
use Rattle.shell_world.specs.Texts.{Text, Map, text_cmp, lookup, insert}
use Rattle.shell_world.specs.World.{IsFolderOf}
use Rattle.shell_world.specs.Paths.{folders_from, folders_of, Names, with_names, names_from, names_of}
use Rattle.shell_world.proofs.FileLaws.{put_ordered, folder_listed, nonempty}

-- ---- equal texts

neither : (b : Bool) (o : Ordering) → is_eq (ordering_then (cond b Less Greater) o) ≡ false
neither true o = refl
neither false o = refl

tied_is : (a b : Text) → is_eq (text_cmp a b) ≡ same_text b a
tied_is [] [] = refl
tied_is [] (y ∷ b) = refl
tied_is (x ∷ a) [] = refl
tied_is (x ∷ a) (y ∷ b) = by (x == y) refl (tied_is a b)
  where
    by : (r : Bool) → (x == y) ≡ r → is_eq (text_cmp a b) ≡ same_text b a → is_eq (text_cmp (x ∷ a) (y ∷ b)) ≡ same_text (y ∷ b) (x ∷ a)
    by true is more = let least : nat_lt x y ≡ false = grind (arith, nat_tests) in let back : (y == x) ≡ true = grind (arith, nat_tests) in rw (is, least, back) more
    by false is more = let back : (y == x) ≡ false = grind (arith, nat_tests) in rw (is, back) (neither (nat_lt x y) (text_cmp a b))

same_is : (a b : Text) → same_text a b ≡ true → a ≡ b
same_is [] [] e = refl
same_is [] (y ∷ b) e = absurd (false≢true e)
same_is (x ∷ a) [] e = absurd (false≢true e)
same_is (x ∷ a) (y ∷ b) e = by (x == y) refl (same_is a b)
  where
    by : (r : Bool) → (x == y) ≡ r → (same_text a b ≡ true → a ≡ b) → x ∷ a ≡ y ∷ b
    by true is more = let same : x ≡ y = grind (arith, nat_tests) in rw same (ap (λ t. y ∷ t) (more (sym (rw is refl) ∙ e)))
    by false is more = absurd (false≢true (sym (rw is refl) ∙ e))

itself : (a : Text) → same_text a a ≡ true
itself [] = refl
itself (x ∷ a) = let here : (x == x) ≡ true = grind (arith, nat_tests) in rw here (itself a)

-- ---- what is among the names

is_some_or : (b : Bool) {X : Type 0} (x : X) (o : Option X) → is_some (cond b (Some x) o) ≡ (b || is_some o)
is_some_or true x o = refl
is_some_or false x o = refl

one_behind : (x y z : Bool) → (x || (y || z)) ≡ ((y || x) || z)
one_behind true true z = refl
one_behind true false z = refl
one_behind false true z = refl
one_behind false false z = refl

two_behind : (x y z w : Bool) → (x || (y || (z || w))) ≡ (((z || y) || x) || w)
two_behind true true true w = refl
two_behind true true false w = refl
two_behind true false true w = refl
two_behind true false false w = refl
two_behind false true true w = refl
two_behind false true false w = refl
two_behind false false true w = refl
two_behind false false false w = refl

module _ (q : Text) where
  has_put : (k : Text) (m : Names) → is_some (lookup q (insert k tt m)) ≡ (same_text k q || is_some (lookup q m))
  has_put k m = ap is_some (find-put text_cmp nat_list_cmp_total q k tt m) ∙ is_some_or (is_eq (text_cmp q k)) tt (lookup q m) ∙ ap (λ b. b || is_some (lookup q m)) (tied_is q k)

  has_names : (ts : List Text) (m : Names) → is_some (lookup q (with_names ts m)) ≡ (is_among ts q || is_some (lookup q m))
  has_names [] m = refl
  has_names (t ∷ ts) m = has_names ts (insert t tt m) ∙ ap (λ b. is_among ts q || b) (has_put t m) ∙ one_behind (is_among ts q) (same_text t q) (is_some (lookup q m))

  abbrev among_files : Map Text → Bool
  among_files files = list_any (λ f. is_among (f.0 ∷ folders_of f.0) q) files

  has_files : (files : Map Text) (m : Names) → is_some (lookup q (names_from files m)) ≡ (among_files files || is_some (lookup q m))
  has_files [] m = refl
  has_files (f ∷ files) m =
      has_files files (with_names (folders_of f.0) (insert f.0 tt m))
      ∙ ap (λ b. among_files files || b) (has_names (folders_of f.0) (insert f.0 tt m) ∙ ap (λ b. is_among (folders_of f.0) q || b) (has_put f.0 m))
      ∙ two_behind (among_files files) (is_among (folders_of f.0) q) (same_text f.0 q) (is_some (lookup q m))

  among_keys : (ts : List Text) → list_any (λ t. is_eq (text_cmp q t)) ts ≡ is_among ts q
  among_keys [] = refl
  among_keys (t ∷ ts) = ap (λ b. b || list_any (λ t. is_eq (text_cmp q t)) ts) (tied_is q t) ∙ ap (λ b. same_text t q || b) (among_keys ts)

or_none : (b : Bool) → (b || false) ≡ b
or_none true = refl
or_none false = refl

-- a text is among the names where it is among the paths or their folders
pub names_told : (files : Map Text) (q : Text) → is_among (names_of files) q ≡ list_any (λ f. is_among (f.0 ∷ folders_of f.0) q) files
names_told files q =
    sym (among_keys q (names_of files)) ∙ sym (is_some-find text_cmp q (names_from files [])) ∙ has_files q files [] ∙ or_none (among_files q files)

-- ---- their order

names_ordered : (ts : List Text) (m : Names) → is_sorted text_cmp m ≡ true → is_sorted text_cmp (with_names ts m) ≡ true
names_ordered [] m h = h
names_ordered (t ∷ ts) m h = names_ordered ts (insert t tt m) (put_ordered t tt m h)

files_ordered : (files : Map Text) (m : Names) → is_sorted text_cmp m ≡ true → is_sorted text_cmp (names_from files m) ≡ true
files_ordered [] m h = h
files_ordered (f ∷ files) m h = files_ordered files _ (names_ordered (folders_of f.0) (insert f.0 tt m) (put_ordered f.0 tt m h))

pub names_rise : (files : Map Text) → is_sorted text_cmp (names_from files []) ≡ true
names_rise files = files_ordered files [] refl

-- ---- the folders of a path

-- a folder that is listed, behind a front that was passed
record Listed (front path t : Text) : Type 0 where
  mid : Text
  rest : Text
  whole : path ≡ mid ++ 47 ∷ rest
  folder : t ≡ front ++ mid
  some : 0 < length t

or_cases : (a b : Bool) → (a || b) ≡ true → a ≡ false → b ≡ true
or_cases true b e f = absurd (false≢true (sym f))
or_cases false b e f = e

both_true : (a b : Bool) → (a && b) ≡ true → (a ≡ true) × (b ≡ true)
both_true true b e = (refl, e)
both_true false b e = absurd (false≢true e)

later : (front path t : Text) (b : ℕ) → Listed (front ++ b ∷ []) path t → Listed front (b ∷ path) t
later front path t b l = record { mid = b ∷ l.mid; rest = l.rest; whole = ap (λ p. b ∷ p) l.whole; folder = l.folder ∙ append_assoc front (b ∷ []) l.mid; some = l.some }

listed : (front path t : Text) → is_among (folders_from front path) t ≡ true → Listed front path t
listed front [] t e = absurd (false≢true e)
listed front (b ∷ path) t e = by (b == 47 && nat_lt 0 (length front)) refl (listed (front ++ b ∷ []) path t)
  where
    here : (r : Bool) → same_text front t ≡ r → (b == 47 && nat_lt 0 (length front)) ≡ true → (is_among (folders_from (front ++ b ∷ []) path) t ≡ true → Listed (front ++ b ∷ []) path t)
        → (same_text front t || is_among (folders_from (front ++ b ∷ []) path) t) ≡ true → Listed front (b ∷ path) t
    here true is passed more f =
        let two = both_true (b == 47) (nat_lt 0 (length front)) passed in
        let slash : b ≡ 47 = grind (arith, nat_tests, two.0) in
        let same : front ≡ t = same_is front t is in
        let some : 0 < length front = grind (arith, nat_tests, two.1) in
        record { mid = []; rest = path; whole = ap (λ c. c ∷ path) slash; folder = sym same ∙ sym (append-nil front); some = subst (λ (s : Text). 0 < length s) same some }
    here false is passed more f = later front path t b (more (or_cases (same_text front t) _ f is))

    by : (r : Bool) → (b == 47 && nat_lt 0 (length front)) ≡ r → (is_among (folders_from (front ++ b ∷ []) path) t ≡ true → Listed (front ++ b ∷ []) path t) → Listed front (b ∷ path) t
    by true is more = here (same_text front t) refl is more (sym (rw is refl) ∙ e)
    by false is more = later front path t b (more (sym (rw is refl) ∙ e))

not_empty : (t : Text) → 0 < length t → t ≢ []
not_empty [] h e = absurd (omega arith)
not_empty (b ∷ t) h e = absurd (grind arith)

pub folders_told : (path t : Text) → (is_among (folders_of path) t ≡ true) ↔ IsFolderOf t path
folders_told path t = (
  (λ e. let l = listed [] path t e in (not_empty t l.some, (l.rest, l.whole ∙ ap (λ s. s ++ 47 ∷ l.rest) (sym l.folder)))),
  (λ h. ap (λ p. is_among (folders_of p) t) h.1.1 ∙ folder_listed (λ name. same_text name t) [] t h.1.0 (itself t) (nonempty t h.0)),
)
