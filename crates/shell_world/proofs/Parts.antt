-- The parts of a text that names a path, taken one at a time, and fronts of paths.
use Rattle.std.proofs.Common.{◌≡◌, ℕ, ◌+◌, ◌<◌, Bool, true, false, cond, ◌==◌, nat_lt, length, take, drop, get_or, List, [], ◌∷◌, ◌++◌, Option, Some, None, All, refl, sym, ap, ◌∙◌, arith, take-append-drop}
use Rattle.std.specs.declared.cmp.Ordering.{Ordering}
use Rattle.std.specs.declared.cmp.Ordering.TheVariants.{Less, Greater}
use Rattle.std.specs.Ordering.{is_eq, ordering_then}
use Rattle.std.specs.Cmp.Lexicographic.{pointwise}
use Rattle.std.specs.List.{slice_split}
use Rattle.std.proofs.lemmas.Bool.Decides.{nat_tests}
use Rattle.std.proofs.lemmas.List.{drop_more}
use Rattle.std.proofs.lemmas.List.Splits.{slice_split_none, slice_split_at}
use Rattle.shell_world.specs.Texts.{Text, text_cmp}
use Rattle.shell_world.specs.Paths.{is_slash, is_kept, parts, placed, next_lead, joined, behind}

-- the first part ends at a `/`
pub first_ends : (text : Text) (i d : ℕ) → i < length text → is_slash (get_or text i d) ≡ true → All (λ b. is_slash b ≡ false) (take i text) → parts text ≡ take i text ∷ parts (drop (i + 1) text)
first_ends text i d lt e h =
    let cut : text ≡ take i text ++ get_or text i d ∷ drop (i + 1) text = sym (take-append-drop i text) ∙ ap (λ zs. take i text ++ zs) (drop_more text i d lt) in
    ap (slice_split is_slash) cut ∙ slice_split_at is_slash (take i text) (get_or text i d) (drop (i + 1) text) h e

pub last_part : (text : Text) → All (λ b. is_slash b ≡ false) text → parts text ≡ text ∷ []
last_part text h = slice_split_none is_slash text h

-- ---- what stands behind a front

pub behind_found : (front text : Text) → pointwise ◌==◌ (take (length front) text) front ≡ true → behind front text ≡ Some (drop (length front) text)
behind_found [] text e = refl
behind_found (b ∷ front) [] e = cc
behind_found (b ∷ front) (c ∷ text) e = found (b == c) refl (behind_found front text)
  where
    found : (r : Bool) → (b == c) ≡ r → (pointwise ◌==◌ (take (length front) text) front ≡ true → behind front text ≡ Some (drop (length front) text)) → behind (b ∷ front) (c ∷ text) ≡ Some (drop (length (b ∷ front)) (c ∷ text))
    found true is more = rw is (more (grind (arith, nat_tests)))
    found false is more = absurd (grind (arith, nat_tests))

pub behind_missed : (front text : Text) → pointwise ◌==◌ (take (length front) text) front ≡ false → behind front text ≡ None
behind_missed [] text e = cc
behind_missed (b ∷ front) [] e = refl
behind_missed (b ∷ front) (c ∷ text) e = missed (b == c) refl (behind_missed front text)
  where
    missed : (r : Bool) → (b == c) ≡ r → (pointwise ◌==◌ (take (length front) text) front ≡ false → behind front text ≡ None) → behind (b ∷ front) (c ∷ text) ≡ None
    missed true is more = rw is (more (grind (arith, nat_tests)))
    missed false is more = rw is refl

-- a front of two parts
abbrev pub then_behind : Text → Option Text → Option Text
then_behind back None = None
then_behind back (Some rest) = behind back rest

pub behind_append : (front back text : Text) → behind (front ++ back) text ≡ then_behind back (behind front text)
behind_append [] back text = refl
behind_append (b ∷ front) back [] = refl
behind_append (b ∷ front) back (c ∷ text) = both (b == c) refl (behind_append front back text)
  where
    both : (r : Bool) → (b == c) ≡ r → behind (front ++ back) text ≡ then_behind back (behind front text) → behind (b ∷ front ++ back) (c ∷ text) ≡ then_behind back (behind (b ∷ front) (c ∷ text))
    both true is more = rw is more
    both false is more = rw is refl

-- behind a lead and a part that is kept
pub two_missed : (lead part text : Text) (o : Option Text) → is_kept part ≡ true → o ≡ behind lead text → o ≡ None → None ≡ behind (placed lead part) text
two_missed lead part text o kept is none = rw kept (sym (behind_append lead part text ∙ ap (then_behind part) (sym is ∙ none)))

pub two_found : (lead part text rest : Text) (o : Option Text) → is_kept part ≡ true → o ≡ behind lead text → o ≡ Some rest → behind part rest ≡ behind (placed lead part) text
two_found lead part text rest o kept is some = rw kept (sym (behind_append lead part text ∙ ap (then_behind part) (sym is ∙ some)))

pub one_kept : (lead part text : Text) → is_kept part ≡ false → Some text ≡ behind (placed lead part) text
one_kept lead part text dropped = rw dropped refl

-- the parts that are left, where the first of them doesn't stand there
pub parts_stop : (lead part left : Text) (more ps : List Text) → ps ≡ part ∷ more → None ≡ behind (placed lead part) left → None ≡ behind (joined lead ps) left
parts_stop lead part left more ps is none = ap (then_behind (joined (next_lead lead part) more)) none ∙ sym (behind_append (placed lead part) (joined (next_lead lead part) more) left) ∙ ap (λ qs. behind (joined lead qs) left) (sym is)

pub parts_go_on : (lead part left rest : Text) (more ps : List Text) → ps ≡ part ∷ more → Some rest ≡ behind (placed lead part) left → behind (joined (next_lead lead part) more) rest ≡ behind (joined lead ps) left
parts_go_on lead part left rest more ps is some = ap (then_behind (joined (next_lead lead part) more)) some ∙ sym (behind_append (placed lead part) (joined (next_lead lead part) more) left) ∙ ap (λ qs. behind (joined lead qs) left) (sym is)

-- ---- the same text

abbrev pub ends_here : Option Text → Bool
ends_here None = false
ends_here (Some rest) = length rest == 0

neither : (b : Bool) (o : Ordering) → is_eq (ordering_then (cond b Less Greater) o) ≡ false
neither true o = refl
neither false o = refl

pub same_end : (front text : Text) → is_eq (text_cmp front text) ≡ ends_here (behind front text)
same_end [] [] = refl
same_end [] (c ∷ text) = grind (arith, nat_tests)
same_end (b ∷ front) [] = refl
same_end (b ∷ front) (c ∷ text) = same (b == c) refl (same_end front text)
  where
    same : (r : Bool) → (b == c) ≡ r → is_eq (text_cmp front text) ≡ ends_here (behind front text) → is_eq (text_cmp (b ∷ front) (c ∷ text)) ≡ ends_here (behind (b ∷ front) (c ∷ text))
    same true is more = let least : nat_lt b c ≡ false = grind (arith, nat_tests) in rw (is, least) more
    same false is more = rw is (neither (nat_lt b c) (text_cmp front text))
