-- Cutting at slashes, and spelling.
use Rattle.std.proofs.Common.{◌≡◌, ℕ, ◌+◌, ◌<◌, length, drop, get_or, Bool, true, false, List, [], ◌∷◌, ◌++◌, Option, Some, None, refl, sym, ap, ◌∙◌}
use Rattle.std.proofs.lemmas.List.{append_assoc, append-nil, drop_more}
use Rattle.glob_pattern.specs.Paths.{put_first, cut, before}

put_put : {X : Type 0} (front : List X) (x : X) (all : List (List X)) → put_first front (put_first (x ∷ []) all) ≡ put_first (front ++ x ∷ []) all
put_put front x [] = refl
put_put front x (part ∷ others) = ap (λ xs. xs ∷ others) (sym (append_assoc front (x ∷ []) part))

put_nothing_first : {X : Type 0} (x : X) (all : List (List X)) → put_first [] (put_first (x ∷ []) all) ≡ put_first (x ∷ []) all
put_nothing_first x [] = refl
put_nothing_first x (part ∷ others) = refl

put_nothing_by : {X : Type 0} (ends : X → Bool) (x : X) (xs : List X) (b : Bool) → ends x ≡ b → put_first [] (cut ends (x ∷ xs)) ≡ cut ends (x ∷ xs)
put_nothing_by ends x xs true e = rw e refl
put_nothing_by ends x xs false e = rw e (put_nothing_first x (cut ends xs))

pub put_nothing : {X : Type 0} (ends : X → Bool) (xs : List X) → put_first [] (cut ends xs) ≡ cut ends xs
put_nothing ends [] = refl
put_nothing ends (x ∷ xs) = put_nothing_by ends x xs (ends x) refl

pub cut_at : {X : Type 0} (ends : X → Bool) (front : List X) (x : X) (xs : List X) (done all : List (List X)) → ends x ≡ true → done ++ put_first front (cut ends (x ∷ xs)) ≡ all → (done ++ front ∷ []) ++ put_first [] (cut ends xs) ≡ all
cut_at ends front x xs done all e h =
    let one : done ++ put_first front (cut ends (x ∷ xs)) ≡ done ++ (front ∷ cut ends xs) = rw (e, append-nil front) refl in
    let two : (done ++ front ∷ []) ++ put_first [] (cut ends xs) ≡ done ++ (front ∷ cut ends xs) = rw (put_nothing ends xs) (append_assoc done (front ∷ []) (cut ends xs)) in
    two ∙ sym one ∙ h

pub cut_on : {X : Type 0} (ends : X → Bool) (front : List X) (x : X) (xs : List X) (done all : List (List X)) → ends x ≡ false → done ++ put_first front (cut ends (x ∷ xs)) ≡ all → done ++ put_first (front ++ x ∷ []) (cut ends xs) ≡ all
cut_on ends front x xs done all e h =
    let one : done ++ put_first front (cut ends (x ∷ xs)) ≡ done ++ put_first (front ++ x ∷ []) (cut ends xs) = rw e (ap (λ xss. done ++ xss) (put_put front x (cut ends xs))) in
    sym one ∙ h

pub cut_end : {X : Type 0} (front : List X) (done all : List (List X)) → done ++ put_first front ([] ∷ []) ≡ all → done ++ front ∷ [] ≡ all
cut_end front done all h =
    let one : done ++ put_first front ([] ∷ []) ≡ done ++ front ∷ [] = rw (append-nil front) refl in
    sym one ∙ h

pub before_before : (front back : List ℕ) (rest : Option (List ℕ)) → before front (before back rest) ≡ before (front ++ back) rest
before_before front back None = refl
before_before front back (Some text) = ap (λ (x : List ℕ). Some x) (sym (append_assoc front back text))

pub before_nothing : (rest : Option (List ℕ)) → before [] rest ≡ rest
before_nothing None = refl
before_nothing (Some text) = refl

-- the loop's step at a place of the list
pub loop_at : {X : Type 0} (ends : X → Bool) (xs : List X) (i : ℕ) (d : X) (front : List X) (done all : List (List X)) (later : List (List X)) (part : List X) → i < length xs → ends (get_or xs i d) ≡ true → done ++ put_first front (cut ends (drop i xs)) ≡ all → later ≡ done ++ front ∷ [] → part ≡ [] → later ++ put_first part (cut ends (drop (i + 1) xs)) ≡ all
loop_at ends xs i d front done all later part l e h a b =
    let here : done ++ put_first front (cut ends (get_or xs i d ∷ drop (i + 1) xs)) ≡ all = sym (ap (λ ys. done ++ put_first front (cut ends ys)) (drop_more xs i d l)) ∙ h in
    rw (a, b) (cut_at ends front (get_or xs i d) (drop (i + 1) xs) done all e here)

pub loop_on : {X : Type 0} (ends : X → Bool) (xs : List X) (i : ℕ) (d : X) (front : List X) (done all : List (List X)) (later : List (List X)) (part : List X) → i < length xs → ends (get_or xs i d) ≡ false → done ++ put_first front (cut ends (drop i xs)) ≡ all → later ≡ done → part ≡ front ++ get_or xs i d ∷ [] → later ++ put_first part (cut ends (drop (i + 1) xs)) ≡ all
loop_on ends xs i d front done all later part l e h a b =
    let here : done ++ put_first front (cut ends (get_or xs i d ∷ drop (i + 1) xs)) ≡ all = sym (ap (λ ys. done ++ put_first front (cut ends ys)) (drop_more xs i d l)) ∙ h in
    rw (a, b) (cut_on ends front (get_or xs i d) (drop (i + 1) xs) done all e here)
