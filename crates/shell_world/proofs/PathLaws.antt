-- What a text names is a path, and the tests of folders say what a folder is.
use Rattle.std.proofs.Common.{◌≡◌, ◌≢◌, ◌⊎◌, inl, inr, ℕ, Bool, true, false, not, ◌==◌, ◌&&◌, ◌||◌, if◌then◌else◌, List, [], ◌∷◌, ◌++◌, filter, All, Option, Some, None, refl, sym, ap, ◌∙◌, subst, arith, append-nil, codes}
use Rattle.std.specs.List.{AllByRecursion, list_any, slice_split, onto_first}
use Rattle.std.proofs.lemmas.Bool.{false≢true}
use Rattle.std.proofs.lemmas.Bool.Decides.{nat_tests}
use Rattle.std.proofs.lemmas.List.Elements.{All-from_recursion}
use Rattle.std.proofs.lemmas.List.Splits.{slice_split_none, slice_split_at}
use Rattle.span_text.specs.KnownNames.{same_text}
use Rattle.span_text.specs.Scanning.{starts}
use Rattle.shell_world.specs.Texts.{Text}
use Rattle.shell_world.specs.World.{IsComponent, IsPath, IsFolderOf, below_root}
use Rattle.shell_world.specs.Paths.{is_slash, parts, is_kept, is_above, names_path, joined, lead_of, path_text, behind, begins_below, is_folder_of}

-- without a `/`
abbrev Clear : Text → Type 0
Clear text = AllByRecursion (λ b. is_slash b ≡ false) text

abbrev NoZero : Text → Type 0
NoZero text = AllByRecursion (λ b. b ≢ 0) text

-- ---- what every part is

cut_or_not : (P : ℕ → Type 0) (c : Bool) (x : ℕ) (ps : List Text) → (c ≡ false → P x) → AllByRecursion (AllByRecursion P) ps → AllByRecursion (AllByRecursion P) (if c then [] ∷ ps else onto_first x ps)
cut_or_not P true x ps h g = (tt, g)
cut_or_not P false x [] h g = ((h refl, tt), tt)
cut_or_not P false x (part ∷ ps) h g = ((h refl, g.0), g.1)

parts_clear : (text : Text) → AllByRecursion Clear (parts text)
parts_clear [] = (tt, tt)
parts_clear (b ∷ text) = cut_or_not (λ b. is_slash b ≡ false) (is_slash b) b (parts text) (λ e. e) (parts_clear text)

parts_no_zero : (text : Text) → NoZero text → AllByRecursion NoZero (parts text)
parts_no_zero [] h = (tt, tt)
parts_no_zero (b ∷ text) h = cut_or_not (λ b. b ≢ 0) (is_slash b) b (parts text) (λ e. h.0) (parts_no_zero text h.1)

no_zero_from : (text : Text) → list_any (λ b. b == 0) text ≡ false → NoZero text
no_zero_from [] e = tt
no_zero_from (b ∷ text) e = by (b == 0) refl (no_zero_from text)
  where
    by : (r : Bool) → (b == 0) ≡ r → (list_any (λ b. b == 0) text ≡ false → NoZero text) → NoZero (b ∷ text)
    by true is more = absurd (false≢true (sym e ∙ rw is refl))
    by false is more = ((λ zero. absurd (grind (arith, nat_tests))), more (sym (rw is refl) ∙ e))

-- ---- the parts that are kept

clear_all : (text : Text) → Clear text → All (λ b. is_slash b ≡ false) text
clear_all text h = All-from_recursion (λ b. is_slash b ≡ false) text h

-- a part, and what is joined behind it
split_rest : (ps : List Text) (front : Text) → Clear front → AllByRecursion Clear ps → slice_split is_slash (front ++ joined (47 ∷ []) ps) ≡ front ∷ filter is_kept ps
split_rest [] front h g = ap (slice_split is_slash) (append-nil front) ∙ slice_split_none is_slash front (clear_all front h)
split_rest (p ∷ ps) front h g = by (is_kept p) refl (split_rest ps)
  where
    by : (r : Bool) → is_kept p ≡ r → ((front : Text) → Clear front → AllByRecursion Clear ps → slice_split is_slash (front ++ joined (47 ∷ []) ps) ≡ front ∷ filter is_kept ps)
        → slice_split is_slash (front ++ joined (47 ∷ []) (p ∷ ps)) ≡ front ∷ filter is_kept (p ∷ ps)
    by true is more = rw is (slice_split_at is_slash front 47 (p ++ joined (47 ∷ []) ps) (clear_all front h) refl ∙ ap (λ qs. front ∷ qs) (more p g.0 g.1))
    by false is more = rw is (more front h g.1)

-- a part that is kept begins the path
split_first : (lead p : Text) (ps : List Text) → (lead ≡ []) ⊎ (lead ≡ 47 ∷ []) → is_kept p ≡ true → Clear p → AllByRecursion Clear ps
    → slice_split is_slash (below_root ((lead ++ p) ++ joined (47 ∷ []) ps)) ≡ p ∷ filter is_kept ps
split_first lead [] ps l stays h g = absurd (false≢true stays)
split_first lead (b ∷ p) ps (inl none) stays h g =
    rw none (let first : (b == 47) ≡ false = h.0 in rw first (split_rest ps (b ∷ p) h g))
split_first lead (b ∷ p) ps (inr one) stays h g = rw one (split_rest ps (b ∷ p) h g)

split_joined : (lead : Text) (ps : List Text) → (lead ≡ []) ⊎ (lead ≡ 47 ∷ []) → list_any is_kept ps ≡ true → AllByRecursion Clear ps
    → slice_split is_slash (below_root (joined lead ps)) ≡ filter is_kept ps
split_joined lead [] l some g = absurd (false≢true some)
split_joined lead (p ∷ ps) l some g = by (is_kept p) refl (split_joined lead ps l)
  where
    by : (r : Bool) → is_kept p ≡ r → (list_any is_kept ps ≡ true → AllByRecursion Clear ps → slice_split is_slash (below_root (joined lead ps)) ≡ filter is_kept ps)
        → slice_split is_slash (below_root (joined lead (p ∷ ps))) ≡ filter is_kept (p ∷ ps)
    by true is more = rw is (split_first lead p ps l is g.0 g.1)
    by false is more = rw is (more (sym (rw is refl) ∙ some) g.1)

-- ---- components

other_text : (a t : Text) → same_text a t ≡ false → t ≢ a
other_text a t e is = false≢true (sym e ∙ ap (same_text a) is ∙ same_itself a)
  where
    same_itself : (a : Text) → same_text a a ≡ true
    same_itself [] = refl
    same_itself (b ∷ bs) = let here : (b == b) ≡ true = grind (arith, nat_tests) in rw here (same_itself bs)

neither : (x y : Bool) → not (x || y) ≡ true → (x ≡ false) × (y ≡ false)
neither true y e = absurd (false≢true e)
neither false true e = absurd (false≢true e)
neither false false e = (refl, refl)

is_one : (part : Text) → NoZero part → is_above part ≡ false → is_kept part ≡ true → IsComponent part
is_one part no_nul above e =
    let h = neither (same_text [] part) (same_text (codes ".") part) e in
    record {
      something = other_text [] part h.0;
      no_here = other_text (codes ".") part h.1;
      no_above = other_text (codes "..") part above;
      no_nul = All-from_recursion (λ b. b ≢ 0) part no_nul;
    }

none_above : (x y : Bool) → (x || y) ≡ false → (x ≡ false) × (y ≡ false)
none_above true y e = absurd (false≢true (sym e))
none_above false y e = (refl, e)

kept_parts : (ps : List Text) → AllByRecursion NoZero ps → list_any is_above ps ≡ false → AllByRecursion IsComponent (filter is_kept ps)
kept_parts [] h e = tt
kept_parts (p ∷ ps) h e =
    let two = none_above (is_above p) (list_any is_above ps) e in
    by (is_kept p) refl two.0 (kept_parts ps h.1 two.1)
  where
    by : (r : Bool) → is_kept p ≡ r → is_above p ≡ false → AllByRecursion IsComponent (filter is_kept ps) → AllByRecursion IsComponent (filter is_kept (p ∷ ps))
    by true is above more = rw is (is_one p h.0 above is, more)
    by false is above more = rw is more

-- ---- the law

three : (x y z : Bool) → (not x && not y && z) ≡ true → (x ≡ false) × (y ≡ false) × (z ≡ true)
three true y z e = absurd (false≢true e)
three false true z e = absurd (false≢true e)
three false false z e = (refl, refl, e)

lead_is : (text : Text) → (lead_of text ≡ []) ⊎ (lead_of text ≡ 47 ∷ [])
lead_is text = by (starts is_slash text) refl
  where
    by : (r : Bool) → starts is_slash text ≡ r → (lead_of text ≡ []) ⊎ (lead_of text ≡ 47 ∷ [])
    by true is = inr (rw is refl)
    by false is = inl (rw is refl)

-- what a text names is a path
pub named_is_path : (text : Text) → names_path text ≡ true → IsPath (path_text text)
unfolding names_path path_text
named_is_path text e =
    let h = three (list_any (λ b. b == 0) text) (list_any is_above (parts text)) (list_any is_kept (parts text)) e in
    let cut : slice_split is_slash (below_root (joined (lead_of text) (parts text))) ≡ filter is_kept (parts text) = split_joined (lead_of text) (parts text) (lead_is text) h.2 (parts_clear text) in
    All-from_recursion IsComponent _ (subst (AllByRecursion IsComponent) (sym cut) (kept_parts (parts text) (parts_no_zero text (no_zero_from text h.0)) h.1))

-- ---- folders

-- what stands behind a front is what is left of the text
behind_is : (front text rest : Text) → behind front text ≡ Some rest → text ≡ front ++ rest
behind_is [] text rest e = grind arith
behind_is (b ∷ front) [] rest e = cc
behind_is (b ∷ front) (c ∷ text) rest e = by (b == c) refl (behind_is front text rest)
  where
    by : (r : Bool) → (b == c) ≡ r → (behind front text ≡ Some rest → text ≡ front ++ rest) → c ∷ text ≡ (b ∷ front) ++ rest
    by true is more = let same : c ≡ b = grind (arith, nat_tests) in let tail = more (sym (rw is refl) ∙ e) in rw same (ap (λ t. b ∷ t) tail)
    by false is more = let none : behind (b ∷ front) (c ∷ text) ≡ None = rw is refl in cc

is_behind : (front rest : Text) → behind front (front ++ rest) ≡ Some rest
is_behind [] rest = refl
is_behind (b ∷ front) rest = let here : (b == b) ≡ true = grind (arith, nat_tests) in rw here (is_behind front rest)

below : (folder path : Text) (o : Option Text) → behind folder path ≡ o → begins_below o ≡ true → (rest : Text) × (path ≡ folder ++ 47 ∷ rest)
below folder path None is e = absurd (false≢true e)
below folder path (Some []) is e = absurd (false≢true e)
below folder path (Some (b ∷ rest)) is e = let slash : b ≡ 47 = grind (arith, nat_tests) in (rest, behind_is folder path (b ∷ rest) is ∙ ap (λ c. folder ++ c ∷ rest) slash)

-- the test tells the folders of a path
pub folder_told : (folder path : Text) → folder ≢ [] → is_folder_of folder path ≡ true → IsFolderOf folder path
folder_told folder path some e = (some, below folder path (behind folder path) refl e)

pub folder_found : (folder path : Text) → IsFolderOf folder path → is_folder_of folder path ≡ true
folder_found folder path h = ap (λ p. begins_below (behind folder p)) h.1.1 ∙ ap begins_below (is_behind folder (47 ∷ h.1.0))
