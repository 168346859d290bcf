-- What names get one after the other is what they get of the list of fields.
use Rattle.std.proofs.Common.{◌≡◌, ℕ, zero, suc, ◌+◌, ◌-◌, ◌<◌, ◌≤◌, Bool, true, false, List, [], ◌∷◌, ◌++◌, length, take, map, replicate, refl, sym, ap, ◌∙◌, arith}
use Rattle.std.proofs.lemmas.Bool.Decides.{nat_tests}
use Rattle.std.proofs.lemmas.List.{nil_from_length, append_assoc}
use Rattle.std.specs.Prelude.{◌==◌, nat_le}
use Rattle.span_text.specs.declared.flagged.Item.{Item}
use Rattle.field_split.specs.declared.sort.Sort.TheVariants.{White}
use Rattle.field_split.specs.Fields.{after, field, behind, fields_in, fields}
use Rattle.field_split.specs.Reading.{bytes_of, from_field, without_end, shared, texts_of}
use Rattle.field_split.specs.Names.{last, names}
use Rattle.field_split.proofs.Shorter.{behind_shorter}
use Rattle.field_split.proofs.Loops.{none_left}

no_field : (ifs : List ℕ) (n : ℕ) (text : List Item) → length text ≤ n → length (fields_in ifs n text) ≡ 0 → length text ≡ 0
no_field ifs n [] h l = refl
no_field ifs zero (x ∷ xs) h l = absurd (omega arith)
no_field ifs (suc n) (x ∷ xs) h l = absurd (omega arith)

field_some : (ifs : List ℕ) (n : ℕ) (text : List Item) → 0 < length (fields_in ifs n text) → 0 < length text
field_some ifs n [] h = let e : length (fields_in ifs n []) ≡ 0 = rw (none_left ifs n) refl in absurd (omega arith)
field_some ifs n (x ∷ xs) h = omega arith

behind_nothing : (ifs : List ℕ) → behind ifs [] ≡ []
unfolding behind
behind_nothing ifs = refl

last_nothing : (ifs : List ℕ) → bytes_of (last ifs []) ≡ []
unfolding last bytes_of
last_nothing ifs = rw (behind_nothing ifs) refl

first_nothing : (ifs : List ℕ) → bytes_of (field ifs []) ≡ []
unfolding bytes_of
first_nothing ifs = refl

last_alone : (ifs : List ℕ) (text : List Item) → length (behind ifs text) ≡ 0 → last ifs text ≡ field ifs text
unfolding last
last_alone ifs text e = rw e refl

last_more : (ifs : List ℕ) (text : List Item) → 0 < length (behind ifs text) → last ifs text ≡ without_end ifs text
unfolding last
last_more ifs text h = let e : (length (behind ifs text) == 0) ≡ false = grind (arith, nat_tests) in rw e refl

nothing_left : (ifs : List ℕ) (k : ℕ) → names ifs k [] ≡ replicate (suc k) []
nothing_left ifs zero = rw (last_nothing ifs) refl
nothing_left ifs (suc k) = rw (first_nothing ifs, behind_nothing ifs, nothing_left ifs k) refl

enough : (ifs : List ℕ) (k n : ℕ) (text : List Item) → length text ≤ n → length (fields_in ifs n text) ≤ k + 1 → names ifs k text ≡ map bytes_of (fields_in ifs n text) ++ replicate (k + 1 - length (fields_in ifs n text)) []
enough ifs k n [] h l =
    let e : k + 1 - 0 ≡ suc k = omega arith in
    rw (none_left ifs n, e) (nothing_left ifs k)
enough ifs k zero (x ∷ xs) h l = absurd (omega arith)
enough ifs zero (suc n) (x ∷ xs) h l =
    let s = behind_shorter ifs x xs in
    let fits : length (behind ifs (x ∷ xs)) ≤ n = omega arith in
    let z : length (behind ifs (x ∷ xs)) ≡ 0 = no_field ifs n (behind ifs (x ∷ xs)) fits (omega arith) in
    let none : fields_in ifs n (behind ifs (x ∷ xs)) ≡ [] = nil_from_length (fields_in ifs n (behind ifs (x ∷ xs))) (omega arith) in
    rw (last_alone ifs (x ∷ xs) z, none) refl
enough ifs (suc k) (suc n) (x ∷ xs) h l =
    let s = behind_shorter ifs x xs in
    let e : suc k + 1 - suc (length (fields_in ifs n (behind ifs (x ∷ xs)))) ≡ k + 1 - length (fields_in ifs n (behind ifs (x ∷ xs))) = omega arith in
    rw e (ap (λ (ts : List (List ℕ)). bytes_of (field ifs (x ∷ xs)) ∷ ts) (enough ifs k n (behind ifs (x ∷ xs)) (omega arith) (omega arith)))

more : (ifs : List ℕ) (k n : ℕ) (text : List Item) → length text ≤ n → k + 1 < length (fields_in ifs n text) → names ifs k text ≡ map bytes_of (take k (fields_in ifs n text)) ++ bytes_of (without_end ifs (from_field ifs k text)) ∷ []
more ifs k n [] h l = let e : length (fields_in ifs n []) ≡ 0 = rw (none_left ifs n) refl in absurd (omega arith)
more ifs k zero (x ∷ xs) h l = absurd (omega arith)
more ifs zero (suc n) (x ∷ xs) h l =
    let s = field_some ifs n (behind ifs (x ∷ xs)) (omega arith) in
    rw (last_more ifs (x ∷ xs) s) refl
more ifs (suc k) (suc n) (x ∷ xs) h l =
    let s = behind_shorter ifs x xs in
    ap (λ (ts : List (List ℕ)). bytes_of (field ifs (x ∷ xs)) ∷ ts) (more ifs k n (behind ifs (x ∷ xs)) (omega arith) (omega arith))

by_test : (ifs : List ℕ) (k n : ℕ) (text : List Item) (b : Bool) → nat_le (length (fields_in ifs n text)) (k + 1) ≡ b → length text ≤ n → names ifs k text ≡ shared ifs k (fields_in ifs n text) text
by_test ifs k n text true e h = let l : length (fields_in ifs n text) ≤ k + 1 = grind (arith, nat_tests) in rw e (enough ifs k n text h l)
by_test ifs k n text false e h = let l : k + 1 < length (fields_in ifs n text) = grind (arith, nat_tests) in rw e (more ifs k n text h l)

-- what the loop over names keeps
pub names_more : (ifs : List ℕ) (texts all : List (List ℕ)) (k j : ℕ) (rest : List Item) → k ≡ suc j → texts ++ names ifs k rest ≡ all → (texts ++ bytes_of (field ifs rest) ∷ []) ++ names ifs j (behind ifs rest) ≡ all
names_more ifs texts all k j rest e h =
    let one : texts ++ names ifs k rest ≡ (texts ++ bytes_of (field ifs rest) ∷ []) ++ names ifs j (behind ifs rest) = rw e (sym (append_assoc texts (bytes_of (field ifs rest) ∷ []) (names ifs j (behind ifs rest)))) in
    sym one ∙ h

pub names_done : (ifs : List ℕ) (texts : List (List ℕ)) (k n : ℕ) (rest items : List Item) → k ≡ 0 → texts ++ names ifs k rest ≡ names ifs (n - 1) (after White ifs items) → texts ++ bytes_of (last ifs rest) ∷ [] ≡ texts_of ifs n items
unfolding texts_of fields
names_done ifs texts k n rest items e h =
    let one : texts ++ names ifs k rest ≡ texts ++ bytes_of (last ifs rest) ∷ [] = rw e refl in
    sym one ∙ h ∙ by_test ifs (n - 1) (length (after White ifs items)) (after White ifs items) (nat_le (length (fields_in ifs (length (after White ifs items)) (after White ifs items))) (n - 1 + 1)) refl (omega arith)
