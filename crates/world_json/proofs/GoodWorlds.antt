-- The world of a job that is read is a good one.
use Rattle.std.proofs.Common.{◌≡◌, ◌≢◌, ℕ, ◌<◌, ◌==◌, ◌&&◌, ◌||◌, not, nat_lt, Bool, true, false, if◌then◌else◌, List, [], ◌∷◌, ◌++◌, map, length, codes, Option, Some, None, is_some, Ordering, Less, Equal, Greater, refl, sym, ap, ◌∙◌, subst, append_assoc, append-nil, arith}
use Rattle.std.proofs.lemmas.List.Elements.{All-from_recursion, recursion_from_All, All-weaker}
use Rattle.std.proofs.lemmas.List.Sums.{AllPass-from_list_all}
use Rattle.std.proofs.lemmas.Slice.Eq.{bytes_eq-Decides}
use Rattle.std.proofs.lemmas.Bool.{false≢true}
use Rattle.std.proofs.lemmas.Bool.Decides.{nat_tests}
use Rattle.std.proofs.lemmas.Cmp.{nat_list_cmp_total, tied_itself}
use Rattle.std.proofs.lemmas.Str.{encodes-append, encode_ascii, length-le-encodes}
use Rattle.std.specs.Cmp.Lexicographic.{slice_cmp}
use Rattle.std.specs.List.{All, AllByRecursion, list_all, list_any, slice_split, onto_first}
use Rattle.std.specs.Ordering.{nat_cmp, match_ordering}
use Rattle.std.specs.Str.{chars}
use Rattle.span_text.specs.Names.{is_name, is_reserved}
use Rattle.span_text.specs.KnownNames.{same_text, is_special_name}
use Rattle.serde_json.specs.Data.{Data, object, Members, no_members, member}
use Rattle.serde_json.specs.Find.{get, get_member, as_str}
use Rattle.shell_world.specs.Texts.{Text}
use Rattle.shell_world.specs.World.{NoNul, Distinct, IsComponent, IsPath, IsFolderOf, AreFiles, IsVariable, below_root}
use Rattle.world_json.specs.declared.fault.Reason.{Reason}
use Rattle.world_json.specs.declared.fault.Reason.TheVariants as reason
use Rattle.world_json.specs.Texts.{characters}
use Rattle.world_json.specs.Judging.{refused, tested, stands_for_byte, bytes_of, bytes_from, text_of}
use Rattle.world_json.specs.Jobs.{variable_of, is_component, is_path, folders_from, clashes, file_of}
use Rattle.world_json.proofs.Holding.{Holds, holds_then, holds_tested, holds_more, Paired}
use Rattle.world_json.proofs.Ordered.{Above, MembersOrdered, not_itself}

pub first_true : (a b : Bool) → (a && b) ≡ true → a ≡ true
first_true true b e = refl
first_true false b e = e

pub second_true : (a b : Bool) → (a && b) ≡ true → b ≡ true
second_true true b e = e
second_true false b e = absurd (false≢true e)

-- ---- texts

-- the bytes of a text: none is 0, and their characters are the text
pub record AreBytes (s t : Text) : Type 0 where
  pub no_nul : NoNul t
  pub whole : characters t ≡ s

not_nul : (b : ℕ) → stands_for_byte b ≡ true → b ≢ 0
not_nul b e is = grind (arith, nat_tests)

pub bytes_hold : (s : Text) → Holds (AreBytes s) (bytes_of s)
bytes_hold s = holds_tested (AreBytes s) _ reason.NotBytes (chars s) (λ e. record {
  no_nul = All-weaker (λ b. stands_for_byte b ≡ true) (λ b. b ≢ 0) not_nul (chars s) (AllPass-from_list_all stands_for_byte (chars s) (first_true _ _ e));
  whole = (bytes_eq-Decides (characters (chars s)) s).0 (second_true _ _ e);
})

text_from : (o : Option Text) → Holds NoNul (bytes_from o)
text_from None = tt
text_from (Some s) = holds_more (AreBytes s) NoNul (bytes_of s) (bytes_hold s) (λ t h. h.no_nul)

pub text_holds : (d : Data) → Holds NoNul (text_of d)
text_holds d = text_from (as_str d)

-- ---- the environment

pub record Named (k : Text) (p : Text × Text) : Type 0 where
  pub variable : IsVariable p.0 p.1
  pub whole : characters p.0 ≡ k

passes : {X : Type 0} (P : X → Type 0) (a b c : Bool) (q r s : Reason) (x : X) → (a ≡ true → b ≡ false → c ≡ false → P x)
    → Holds P (if not a then refused q else (if b then refused r else tested (not c) s x))
passes P false b c q r s x h = tt
passes P true true c q r s x h = tt
passes P true false true q r s x h = tt
passes P true false false q r s x h = h refl refl refl

pub variable_holds : (k : Text) (d : Data) → Holds (Named k) (variable_of k d)
variable_holds k d =
    holds_then NoNul (Named k) (text_of d) _ (text_holds d) (λ value no_nul.
    holds_then (AreBytes k) (Named k) (bytes_of k) _ (bytes_hold k) (λ name h.
    passes (Named k) (is_name name) (is_reserved name) (is_special_name name) reason.Name reason.Reserved reason.Special (name, value) (λ valid unreserved plain.
    record { variable = record { valid = valid; unreserved = unreserved; plain = plain; no_nul = no_nul }; whole = h.whole })))

-- ---- files

pub record Filed (files : Data) (k : Text) (p : Text × Text) : Type 0 where
  pub path : IsPath p.0
  pub no_nul : NoNul p.1
  pub whole : characters p.0 ≡ k
  pub apart : clashes files k ≡ false

other_text : (a t : Text) → same_text a t ≡ false → t ≢ a
other_text a t e is = false≢true (sym e ∙ (bytes_eq-Decides a t).1 (sym is))

none_of : (x y z : Bool) → not (x || y || z) ≡ true → (x ≡ false) × (y ≡ false) × (z ≡ false)
none_of true y z e = absurd (false≢true e)
none_of false true z e = absurd (false≢true e)
none_of false false true e = absurd (false≢true e)
none_of false false false e = (refl, refl, refl)

is_one : (part : Text) → NoNul part → is_component part ≡ true → IsComponent part
is_one part no_nul e =
    let h = none_of (same_text [] part) (same_text (codes ".") part) (same_text (codes "..") part) e in
    record { something = other_text [] part h.0; no_here = other_text (codes ".") part h.1; no_above = other_text (codes "..") part h.2; no_nul = no_nul }

-- `NoNul` by cases on the list
abbrev NoZero : Text → Type 0
NoZero t = AllByRecursion (λ b. b ≢ 0) t

cut_or_not : (b : Bool) (x : ℕ) (parts : List Text) → x ≢ 0 → AllByRecursion NoZero parts → AllByRecursion NoZero (if b then [] ∷ parts else onto_first x parts)
cut_or_not true x parts h g = (tt, g)
cut_or_not false x [] h g = ((h, tt), tt)
cut_or_not false x (part ∷ parts) h g = ((h, g.0), g.1)

parts_no_zero : (p : ℕ → Bool) (t : Text) → NoZero t → AllByRecursion NoZero (slice_split p t)
parts_no_zero p [] h = (tt, tt)
parts_no_zero p (b ∷ t) h = cut_or_not (p b) b (slice_split p t) h.0 (parts_no_zero p t h.1)

components : (parts : List Text) → AllByRecursion NoZero parts → list_all is_component parts ≡ true → AllByRecursion IsComponent parts
components [] h e = tt
components (part ∷ parts) h e =
    (is_one part (All-from_recursion (λ b. b ≢ 0) part h.0) (first_true _ _ e), components parts h.1 (second_true (is_component part) _ e))

either_no_zero : (b : Bool) (s t : Text) → NoZero s → NoZero t → NoZero (if b then s else t)
either_no_zero true s t g h = g
either_no_zero false s t g h = h

root_no_zero : (path : Text) → NoZero path → NoZero (below_root path)
root_no_zero [] h = tt
root_no_zero (b ∷ path) h = either_no_zero (b == 47) path (b ∷ path) h.1 h

file_passes : {X : Type 0} (P : X → Type 0) (a c : Bool) (q r : Reason) (x : X) → (a ≡ true → c ≡ false → P x) → Holds P (if not a then refused q else tested (not c) r x)
file_passes P false c q r x h = tt
file_passes P true true q r x h = tt
file_passes P true false q r x h = h refl refl

paths : (path : Text) → NoNul path → is_path path ≡ true → IsPath path
paths path no_nul e =
    let below = root_no_zero path (recursion_from_All (λ b. b ≢ 0) path no_nul) in
    All-from_recursion IsComponent _ (components (slice_split (λ b. b == 47) (below_root path)) (parts_no_zero (λ b. b == 47) (below_root path) below) e)

pub file_holds : (files : Data) (k : Text) (d : Data) → Holds (Filed files k) (file_of files k d)
file_holds files k d =
    holds_then NoNul (Filed files k) (text_of d) _ (text_holds d) (λ contents no_nul.
    holds_then (AreBytes k) (Filed files k) (bytes_of k) _ (bytes_hold k) (λ path h.
    file_passes (Filed files k) (is_path path) (clashes files k) reason.Path reason.PathClash (path, contents) (λ valid apart.
    record { path = paths path h.no_nul valid; no_nul = no_nul; whole = h.whole; apart = apart })))

-- ---- names that are put in order are distinct

above_other : (R : Text → Text × Text → Type 0) (named : (l : Text) (q : Text × Text) → R l q → characters q.0 ≡ l) (k : Text) (p : Text × Text) (same : characters p.0 ≡ k)
    → (ms : Members) (ps : List (Text × Text)) → Above k ms → Paired R ms ps → AllByRecursion (λ u. u ≢ p.0) (map (λ q. q.0) ps)
above_other R named k p same no_members [] above h = tt
above_other R named k p same no_members (q ∷ ps) above h = absurd h
above_other R named k p same (member l d ms) [] above h = absurd h
above_other R named k p same (member l d ms) (q ∷ ps) above h =
    ((λ e. not_itself k l above.0 (sym same ∙ ap characters (sym e) ∙ named l q h.0)), above_other R named k p same ms ps above.1 h.1)

pub names_distinct : (R : Text → Text × Text → Type 0) (named : (l : Text) (q : Text × Text) → R l q → characters q.0 ≡ l)
    → (ms : Members) (ps : List (Text × Text)) → MembersOrdered ms → Paired R ms ps → Distinct (map (λ q. q.0) ps)
names_distinct R named no_members [] ordered h = tt
names_distinct R named no_members (p ∷ ps) ordered h = absurd h
names_distinct R named (member k d ms) [] ordered h = absurd h
names_distinct R named (member k d ms) (p ∷ ps) ordered h = (
  All-from_recursion (λ u. u ≢ p.0) (map (λ q. q.0) ps) (above_other R named k p (named k p h.0) ms ps ordered.0 h.1),
  names_distinct R named ms ps ordered.2 h.1,
)

pub paired_all : (R : Text → Text × Text → Type 0) (P : Text × Text → Type 0) (gives : (k : Text) (p : Text × Text) → R k p → P p) (ms : Members) (ps : List (Text × Text)) → Paired R ms ps → AllByRecursion P ps
paired_all R P gives no_members [] h = tt
paired_all R P gives no_members (p ∷ ps) h = absurd h
paired_all R P gives (member k d ms) [] h = absurd h
paired_all R P gives (member k d ms) (p ∷ ps) h = (gives k p h.0, paired_all R P gives ms ps h.1)

-- ---- no file is a folder of another

found_either : (o : Ordering) (a b : Option Data) → is_some a ≡ true → is_some b ≡ true → is_some (match_ordering o a b a) ≡ true
found_either Less a b e f = e
found_either Equal a b e f = f
found_either Greater a b e f = e

found_here : (k : Text) (d : Data) (ms : Members) → is_some (get_member k (member k d ms)) ≡ true
found_here k d ms = ap (λ o. is_some (match_ordering o (get_member k ms) (Some d) (get_member k ms))) (tied_itself nat_list_cmp_total k)

later_found : (k : Text) (d : Data) (ms : Members) (ps : List (Text × Text)) → AllByRecursion (λ p. is_some (get_member (characters p.0) ms) ≡ true) ps
    → AllByRecursion (λ p. is_some (get_member (characters p.0) (member k d ms)) ≡ true) ps
later_found k d ms [] h = tt
later_found k d ms (p ∷ ps) h = (found_either (slice_cmp nat_cmp (characters p.0) k) (get_member (characters p.0) ms) (Some d) h.0 refl, later_found k d ms ps h.1)

-- the keys of the pairs are members, also where more stand before them
keys_found : (R : Text → Text × Text → Type 0) (named : (l : Text) (q : Text × Text) → R l q → characters q.0 ≡ l) (ms : Members) (ps : List (Text × Text)) → Paired R ms ps
    → AllByRecursion (λ p. is_some (get_member (characters p.0) ms) ≡ true) ps
keys_found R named no_members [] h = tt
keys_found R named no_members (p ∷ ps) h = absurd h
keys_found R named (member k d ms) [] h = absurd h
keys_found R named (member k d ms) (p ∷ ps) h = (
  ap (λ t. is_some (get_member t (member k d ms))) (named k p h.0) ∙ found_here k d ms,
  later_found k d ms ps (keys_found R named ms ps h.1),
)

or_true : (a b : Bool) → b ≡ true → (a || b) ≡ true
or_true true b e = refl
or_true false b e = e

any_if : (P : Text → Bool) (c : Bool) (front : Text) (more : List Text) → list_any P more ≡ true → list_any P (if c then front ∷ more else more) ≡ true
any_if P true front more e = or_true (P front) _ e
any_if P false front more e = e

first_if : (P : Text → Bool) (c : Bool) (front : Text) (more : List Text) → c ≡ true → P front ≡ true → list_any P (if c then front ∷ more else more) ≡ true
first_if P c front more e f = rw (e, f) refl

-- a front that stands before a `/` is among the folders
folder_found : (P : Text → Bool) (front mid more : Text) → P (front ++ mid) ≡ true → 0 < length (front ++ mid) → list_any P (folders_from front (mid ++ 47 ∷ more)) ≡ true
folder_found P front [] more e some =
    let same : front ++ [] ≡ front = append-nil front in
    first_if P (nat_lt 0 (length front)) front (folders_from (front ++ 47 ∷ []) more) (grind (arith, nat_tests, ap length same)) (ap P (sym same) ∙ e)
folder_found P front (b ∷ mid) more e some =
    let moved : (front ++ b ∷ []) ++ mid ≡ front ++ b ∷ mid = append_assoc front (b ∷ []) mid in
    let Q : Text → Type 0 = λ t. 0 < length t in
    any_if P (b == 47 && nat_lt 0 (length front)) front (folders_from (front ++ b ∷ []) (mid ++ 47 ∷ more)) (folder_found P (front ++ b ∷ []) mid more (ap P moved ∙ e) (subst Q (sym moved) some))

nonempty : (t : Text) → t ≢ [] → 0 < length t
nonempty [] h = absurd (h refl)
nonempty (b ∷ t) h = omega arith

slash_first : (rest : Text) → characters (47 ∷ rest) ≡ 47 ∷ characters rest
slash_first rest = ap (λ l. l ++ characters rest) (encode_ascii 47 (omega arith))

clash_found : (files : Data) (f g : Text) → is_some (get (characters f) files) ≡ true → IsFolderOf f g → clashes files (characters g) ≡ true
clash_found files f g e folder =
    let rest = folder.1.0 in
    let cut : characters g ≡ characters f ++ 47 ∷ characters rest = ap characters folder.1.1 ∙ encodes-append f (47 ∷ rest) ∙ ap (λ l. characters f ++ l) (slash_first rest) in
    let some : 0 < length (characters f) = omega (arith, nonempty f folder.0, length-le-encodes f) in
    ap (clashes files) cut ∙ folder_found (λ t. is_some (get t files)) [] (characters f) (characters rest) e some

apart_from : (ms : Members) (f : Text) → is_some (get_member (characters f) ms) ≡ true → (qs : List (Text × Text))
    → AllByRecursion (λ g. clashes (object ms) (characters g.0) ≡ false) qs → AllByRecursion (λ g. ¬ IsFolderOf f g.0) qs
apart_from ms f e [] h = tt
apart_from ms f e (g ∷ qs) h = ((λ folder. false≢true (sym h.0 ∙ clash_found (object ms) f g.0 e folder)), apart_from ms f e qs h.1)

all_apart : (ms : Members) (qs : List (Text × Text)) → AllByRecursion (λ g. clashes (object ms) (characters g.0) ≡ false) qs
    → (ps : List (Text × Text)) → AllByRecursion (λ p. is_some (get_member (characters p.0) ms) ≡ true) ps → AllByRecursion (λ f. All (λ g. ¬ IsFolderOf f.0 g.0) qs) ps
all_apart ms qs free [] h = tt
all_apart ms qs free (f ∷ ps) h = (All-from_recursion (λ g. ¬ IsFolderOf f.0 g.0) qs (apart_from ms f.0 h.0 qs free), all_apart ms qs free ps h.1)

pub record GoodFiles (listed : List (Text × Text)) : Type 0 where
  pub files : AreFiles listed
  pub contents : All (λ f. NoNul f.1) listed

whole_of : (files : Data) (k : Text) (p : Text × Text) → Filed files k p → characters p.0 ≡ k
whole_of files k p h = h.whole

free_of : (files : Data) (k : Text) (p : Text × Text) → Filed files k p → clashes files (characters p.0) ≡ false
free_of files k p h = ap (clashes files) h.whole ∙ h.apart

pub files_good : (ms : Members) (ps : List (Text × Text)) → MembersOrdered ms → Paired (Filed (object ms)) ms ps → GoodFiles ps
files_good ms ps ordered h =
    let R = Filed (object ms) in
    let free = paired_all R (λ p. clashes (object ms) (characters p.0) ≡ false) (free_of (object ms)) ms ps h in
    record {
      files = record {
        paths = All-from_recursion (λ f. IsPath f.0) ps (paired_all R (λ f. IsPath f.0) (λ k p g. g.path) ms ps h);
        distinct = names_distinct R (whole_of (object ms)) ms ps ordered h;
        apart = All-from_recursion (λ f. All (λ g. ¬ IsFolderOf f.0 g.0) ps) ps (all_apart ms ps free ps (keys_found R (whole_of (object ms)) ms ps h));
      };
      contents = All-from_recursion (λ f. NoNul f.1) ps (paired_all R (λ f. NoNul f.1) (λ k p g. g.no_nul) ms ps h);
    }

pub record GoodEnvironment (env : List (Text × Text)) : Type 0 where
  pub variables : All (λ v. IsVariable v.0 v.1) env
  pub distinct : Distinct (map (λ v. v.0) env)

pub environment_good : (ms : Members) (ps : List (Text × Text)) → MembersOrdered ms → Paired Named ms ps → GoodEnvironment ps
environment_good ms ps ordered h = record {
  variables = All-from_recursion (λ v. IsVariable v.0 v.1) ps (paired_all Named (λ v. IsVariable v.0 v.1) (λ k p g. g.variable) ms ps h);
  distinct = names_distinct Named (λ k p g. g.whole) ms ps ordered h;
}
