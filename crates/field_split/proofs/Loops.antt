-- What the loop over fields keeps.
use Rattle.std.proofs.Common.{◌≡◌, ℕ, zero, suc, ◌+◌, ◌-◌, ◌<◌, ◌≤◌, true, false, List, [], ◌∷◌, ◌++◌, length, refl, sym, ◌∙◌, arith}
use Rattle.std.specs.Prelude.{◌==◌}
use Rattle.std.proofs.lemmas.Bool.Decides.{nat_tests}
use Rattle.std.proofs.lemmas.List.{length-append, append_assoc, append-nil}
use Rattle.span_text.specs.declared.flagged.Item.{Item}
use Rattle.field_split.specs.Fields.{field, behind, fields_in}
use Rattle.field_split.proofs.Shorter.{behind_shorter}

-- these fields, and those of the rest, are those of the text
pub record Cut (ifs : List ℕ) (text rest : List Item) (done : List (List Item)) : Type 0 where
  pub so_far : done ++ fields_in ifs (length text - length done) rest ≡ fields_in ifs (length text) text
  pub fits : length done + length rest ≤ length text

pub Cut-none : (ifs : List ℕ) (text : List Item) → Cut ifs text text []
Cut-none ifs text = let k : length text - 0 ≡ length text = omega arith in record { so_far = rw k refl; fits = omega arith }

pub Cut-more : (ifs : List ℕ) (text : List Item) (x : Item) (xs : List Item) (done : List (List Item)) → Cut ifs text (x ∷ xs) done → Cut ifs text (behind ifs (x ∷ xs)) (done ++ field ifs (x ∷ xs) ∷ [])
Cut-more ifs text x xs done before =
    let fits = before.fits in
    let lt = behind_shorter ifs x xs in
    let len : length (done ++ field ifs (x ∷ xs) ∷ []) ≡ length done + 1 = length-append done (field ifs (x ∷ xs) ∷ []) in
    let k : length text - length done ≡ suc (length text - length (done ++ field ifs (x ∷ xs) ∷ [])) = omega arith in
    let one : done ++ fields_in ifs (length text - length done) (x ∷ xs) ≡ (done ++ field ifs (x ∷ xs) ∷ []) ++ fields_in ifs (length text - length (done ++ field ifs (x ∷ xs) ∷ [])) (behind ifs (x ∷ xs)) = rw k (sym (append_assoc done (field ifs (x ∷ xs) ∷ []) (fields_in ifs (length text - length (done ++ field ifs (x ∷ xs) ∷ [])) (behind ifs (x ∷ xs))))) in
    record { so_far = sym one ∙ before.so_far; fits = omega arith }

-- where something is left
pub Cut-next : (ifs : List ℕ) (text rest : List Item) (done : List (List Item)) → (length rest == 0) ≡ false → Cut ifs text rest done → Cut ifs text (behind ifs rest) (done ++ field ifs rest ∷ [])
Cut-next ifs text [] done h before = absurd (cc)
Cut-next ifs text (x ∷ xs) done h before = Cut-more ifs text x xs done before

pub behind_smaller : (ifs : List ℕ) (rest : List Item) → (length rest == 0) ≡ false → length (behind ifs rest) < length rest
behind_smaller ifs [] h = absurd (cc)
behind_smaller ifs (x ∷ xs) h = let k = behind_shorter ifs x xs in omega arith

pub none_left : (ifs : List ℕ) (n : ℕ) → fields_in ifs n [] ≡ []
none_left ifs zero = refl
none_left ifs (suc n) = refl

pub Cut-done : (ifs : List ℕ) (text rest : List Item) (done : List (List Item)) → (length rest == 0) ≡ true → Cut ifs text rest done → done ≡ fields_in ifs (length text) text
Cut-done ifs text (x ∷ xs) done h before = absurd (grind (arith, nat_tests))
Cut-done ifs text [] done h before =
    let e = none_left ifs (length text - length done) in
    let one : done ++ fields_in ifs (length text - length done) [] ≡ done = rw e (append-nil done) in
    sym one ∙ before.so_far
