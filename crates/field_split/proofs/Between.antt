-- The fields are the parts between the delimiters.
use Rattle.std.proofs.Common.{◌≡◌, ℕ, zero, suc, ◌+◌, ◌<◌, ◌≤◌, Bool, true, false, cond, List, [], ◌∷◌, ◌++◌, length, take, refl, sym, ap, subst, ◌∙◌, arith}
use Rattle.std.specs.Prelude.{◌&&◌, not, if◌then◌else◌, count_by}
use Rattle.std.specs.List.{list_all, prefix_len}
use Rattle.std.proofs.lemmas.List.{take-append-drop, append_assoc, take_at, drop_at}
use Rattle.std.proofs.lemmas.List.Sums.{sum_by-append}
use Rattle.span_text.specs.declared.flagged.Item.{Item}
use Rattle.field_split.specs.declared.sort.Sort.{Sort}
use Rattle.field_split.specs.declared.sort.Sort.TheVariants.{Kept, White, Other}
use Rattle.field_split.specs.Fields.{splits, is_blank, is_of, after, after_one, field, behind, fields_in, fields}
use Rattle.field_split.specs.Cuts.{begins, Ends, AreBetween, AreFields}
use Rattle.field_split.proofs.Shorter.{behind_shorter}
use Rattle.field_split.proofs.Loops.{none_left}

-- the longest front of a sort

front_by : (p : Item → Bool) (x : Item) (xs : List Item) (b : Bool) → p x ≡ b → list_all p (take (prefix_len p xs) xs) ≡ true → list_all p (take (prefix_len p (x ∷ xs)) (x ∷ xs)) ≡ true
front_by p x xs true e h = let k : 1 + prefix_len p xs ≡ suc (prefix_len p xs) = omega arith in rw (e, k) (rw e h)
front_by p x xs false e h = rw e refl

front_all : (p : Item → Bool) (xs : List Item) → list_all p (take (prefix_len p xs) xs) ≡ true
front_all p [] = refl
front_all p (x ∷ xs) = front_by p x xs (p x) refl (front_all p xs)

stops_by : (s : Sort) (ifs : List ℕ) (x : Item) (xs : List Item) (b : Bool) → is_of s ifs x ≡ b → begins s ifs (after s ifs xs) ≡ false → begins s ifs (after s ifs (x ∷ xs)) ≡ false
stops_by s ifs x xs true e h = let k : 1 + prefix_len (is_of s ifs) xs ≡ suc (prefix_len (is_of s ifs) xs) = omega arith in rw (e, k) h
stops_by s ifs x xs false e h = rw e e

front_stops : (s : Sort) (ifs : List ℕ) (xs : List Item) → begins s ifs (after s ifs xs) ≡ false
front_stops s ifs [] = refl
front_stops s ifs (x ∷ xs) = stops_by s ifs x xs (is_of s ifs x) refl (front_stops s ifs xs)

-- sorts

and_true : (a b : Bool) → (a && b) ≡ true → (a ≡ true) × (b ≡ true)
and_true true b h = (refl, h)
and_true false b h = absurd cc

white_one : (ifs : List ℕ) (x : Item) → is_of White ifs x ≡ true → (splits ifs x ≡ true) × (is_of Other ifs x ≡ false)
unfolding is_of
white_one ifs x h =
    let k = and_true (splits ifs x) (is_blank x) h in
    let a : splits ifs x ≡ true = k.0 in
    let b : is_blank x ≡ true = k.1 in
    (a, rw (a, b) refl)

other_one : (ifs : List ℕ) (x : Item) → is_of Other ifs x ≡ true → splits ifs x ≡ true
unfolding is_of
other_one ifs x h = (and_true (splits ifs x) (not (is_blank x)) h).0

other_by : (ifs : List ℕ) (x : Item) (b : Bool) → is_blank x ≡ b → splits ifs x ≡ true → is_of White ifs x ≡ false → is_of Other ifs x ≡ true
unfolding is_of
other_by ifs x true e a h = let k : (splits ifs x && is_blank x) ≡ true = rw (a, e) refl in absurd cc
other_by ifs x false e a h = rw (a, e) refl

white_all : (ifs : List ℕ) (xs : List Item) → list_all (is_of White ifs) xs ≡ true → (list_all (splits ifs) xs ≡ true) × (count_by (is_of Other ifs) xs ≡ 0)
white_all ifs [] h = (refl, refl)
white_all ifs (x ∷ xs) h =
    let k = and_true (is_of White ifs x) (list_all (is_of White ifs) xs) h in
    let here = white_one ifs x (k.0) in
    let there = white_all ifs xs (k.1) in
    let a : splits ifs x ≡ true = here.0 in
    let b : is_of Other ifs x ≡ false = here.1 in
    let c : count_by (is_of Other ifs) xs ≡ 0 = there.1 in
    (rw a (there.0), rw (b, c) refl)

all_append : (p : Item → Bool) (xs ys : List Item) → list_all p xs ≡ true → list_all p ys ≡ true → list_all p (xs ++ ys) ≡ true
all_append p [] ys h g = g
all_append p (x ∷ xs) ys h g =
    let k = and_true (p x) (list_all p xs) h in
    let a : p x ≡ true = k.0 in
    rw a (all_append p xs ys (k.1) g)

all_last : (p : Item → Bool) (xs : List Item) (y : Item) → list_all p (xs ++ y ∷ []) ≡ true → p y ≡ true
all_last p [] y h = (and_true (p y) true h).0
all_last p (x ∷ xs) y h = all_last p xs y ((and_true (p x) (list_all p (xs ++ y ∷ [])) h).1)

count_append : (p : Item → Bool) (xs ys : List Item) → count_by p (xs ++ ys) ≡ count_by p xs + count_by p ys
count_append p xs ys = sum_by-append (λ x. cond (p x) 1 0) xs ys

-- one other separator

abbrev one_of : List ℕ → List Item → List Item
one_of ifs [] = []
one_of ifs (x ∷ xs) = if is_of Other ifs x then x ∷ [] else []

one_whole_by : (ifs : List ℕ) (x : Item) (xs : List Item) (b : Bool) → is_of Other ifs x ≡ b → one_of ifs (x ∷ xs) ++ after_one ifs (x ∷ xs) ≡ x ∷ xs
one_whole_by ifs x xs true e = rw e refl
one_whole_by ifs x xs false e = rw e refl

one_whole : (ifs : List ℕ) (xs : List Item) → one_of ifs xs ++ after_one ifs xs ≡ xs
one_whole ifs [] = refl
one_whole ifs (x ∷ xs) = one_whole_by ifs x xs (is_of Other ifs x) refl

one_splits_by : (ifs : List ℕ) (x : Item) (xs : List Item) (b : Bool) → is_of Other ifs x ≡ b → list_all (splits ifs) (one_of ifs (x ∷ xs)) ≡ true
one_splits_by ifs x xs true e = let a : splits ifs x ≡ true = other_one ifs x e in rw e (rw a refl)
one_splits_by ifs x xs false e = rw e refl

one_splits : (ifs : List ℕ) (xs : List Item) → list_all (splits ifs) (one_of ifs xs) ≡ true
one_splits ifs [] = refl
one_splits ifs (x ∷ xs) = one_splits_by ifs x xs (is_of Other ifs x) refl

one_yes : (ifs : List ℕ) (xs : List Item) → begins Other ifs xs ≡ true → count_by (is_of Other ifs) (one_of ifs xs) ≡ 1
one_yes ifs [] e = absurd cc
one_yes ifs (x ∷ xs) e = rw e (rw e refl)

one_no : (ifs : List ℕ) (xs : List Item) → begins Other ifs xs ≡ false → (count_by (is_of Other ifs) (one_of ifs xs) ≡ 0) × (after_one ifs xs ≡ xs)
one_no ifs [] e = (refl, refl)
one_no ifs (x ∷ xs) e = (rw e refl, rw e refl)

one_count_by : (ifs : List ℕ) (xs : List Item) (b : Bool) → begins Other ifs xs ≡ b → count_by (is_of Other ifs) (one_of ifs xs) ≤ 1
one_count_by ifs xs true e = let k = one_yes ifs xs e in omega arith
one_count_by ifs xs false e = let k = (one_no ifs xs e).0 in omega arith

-- the delimiter at the front

abbrev white : List ℕ → List Item → List Item
white ifs xs = take (prefix_len (is_of White ifs) xs) xs

abbrev delimiter : List ℕ → List Item → List Item
delimiter ifs xs = white ifs xs ++ (one_of ifs (after White ifs xs) ++ white ifs (after_one ifs (after White ifs xs)))

abbrev past : List ℕ → List Item → List Item
past ifs xs = after White ifs (after_one ifs (after White ifs xs))

delimiter_whole : (ifs : List ℕ) (xs : List Item) → delimiter ifs xs ++ past ifs xs ≡ xs
delimiter_whole ifs xs =
    let second = after White ifs xs in
    let third = after_one ifs second in
    let a : white ifs third ++ past ifs xs ≡ third = take-append-drop (prefix_len (is_of White ifs) third) third in
    let b : (one_of ifs second ++ white ifs third) ++ past ifs xs ≡ second =
    append_assoc (one_of ifs second) (white ifs third) (past ifs xs) ∙ (ap (λ (ys : List Item). one_of ifs second ++ ys) a ∙ one_whole ifs second) in
    append_assoc (white ifs xs) (one_of ifs second ++ white ifs third) (past ifs xs) ∙ (ap (λ (ys : List Item). white ifs xs ++ ys) b ∙ take-append-drop (prefix_len (is_of White ifs) xs) xs)

delimiter_splits : (ifs : List ℕ) (xs : List Item) → list_all (splits ifs) (delimiter ifs xs) ≡ true
delimiter_splits ifs xs =
    let second = after White ifs xs in
    let third = after_one ifs second in
    all_append (splits ifs) (white ifs xs) (one_of ifs second ++ white ifs third) ((white_all ifs (white ifs xs) (front_all (is_of White ifs) xs)).0)
    (all_append (splits ifs) (one_of ifs second) (white ifs third) (one_splits ifs second) ((white_all ifs (white ifs third) (front_all (is_of White ifs) third)).0))

delimiter_count : (ifs : List ℕ) (xs : List Item) → count_by (is_of Other ifs) (delimiter ifs xs) ≡ count_by (is_of Other ifs) (one_of ifs (after White ifs xs))
delimiter_count ifs xs =
    let second = after White ifs xs in
    let third = after_one ifs second in
    let a = (white_all ifs (white ifs xs) (front_all (is_of White ifs) xs)).1 in
    let b = (white_all ifs (white ifs third) (front_all (is_of White ifs) third)).1 in
    let c = count_append (is_of Other ifs) (white ifs xs) (one_of ifs second ++ white ifs third) in
    let d = count_append (is_of Other ifs) (one_of ifs second) (white ifs third) in
    omega arith

none_at_front : (s : Sort) (ifs : List ℕ) (xs : List Item) → begins s ifs xs ≡ false → after s ifs xs ≡ xs
none_at_front s ifs [] e = refl
none_at_front s ifs (x ∷ xs) e = rw e refl

-- one other separator was taken where another one stands behind
taken : (ifs : List ℕ) (xs : List Item) (x : Item) (more : List Item) (b : Bool) → begins Other ifs (after White ifs xs) ≡ b → past ifs xs ≡ x ∷ more → is_of Other ifs x ≡ true → count_by (is_of Other ifs) (delimiter ifs xs) ≡ 1
taken ifs xs x more true e h o = delimiter_count ifs xs ∙ one_yes ifs (after White ifs xs) e
taken ifs xs x more false e h o =
    let same : after_one ifs (after White ifs xs) ≡ after White ifs xs = (one_no ifs (after White ifs xs) e).1 in
    let stay : after White ifs (after White ifs xs) ≡ after White ifs xs = none_at_front White ifs (after White ifs xs) (front_stops White ifs xs) in
    let there : after White ifs xs ≡ x ∷ more = sym stay ∙ (sym (ap (after White ifs) same) ∙ h) in
    let no : begins Other ifs (x ∷ more) ≡ false = sym (ap (begins Other ifs) there) ∙ e in
    absurd cc

no_longer : (ifs : List ℕ) (xs : List Item) (x : Item) (more : List Item) → past ifs xs ≡ x ∷ more → list_all (splits ifs) (delimiter ifs xs ++ x ∷ []) ≡ true → 1 < count_by (is_of Other ifs) (delimiter ifs xs ++ x ∷ [])
no_longer ifs xs x more h all =
    let a = all_last (splits ifs) (delimiter ifs xs) x all in
    let n : is_of White ifs x ≡ false = sym (ap (begins White ifs) h) ∙ front_stops White ifs (after_one ifs (after White ifs xs)) in
    let o : is_of Other ifs x ≡ true = other_by ifs x (is_blank x) refl a n in
    let k = taken ifs xs x more (begins Other ifs (after White ifs xs)) refl h o in
    let c = count_append (is_of Other ifs) (delimiter ifs xs) (x ∷ []) in
    let l : count_by (is_of Other ifs) (x ∷ []) ≡ 1 = rw o refl in
    omega arith

ends_at : (ifs : List ℕ) (text : List Item) → Ends ifs (field ifs text) (delimiter ifs (after Kept ifs text)) (behind ifs text)
unfolding behind
ends_at ifs text =
    let rest = after Kept ifs text in
    record {
      kept = front_all (is_of Kept ifs) text;
      ended = rw (delimiter_whole ifs rest) (front_stops Kept ifs text);
      run = delimiter_splits ifs rest;
      one = let c = delimiter_count ifs rest in let l = one_count_by ifs (after White ifs rest) (begins Other ifs (after White ifs rest)) refl in omega arith;
      longest = no_longer ifs rest;
    }

whole_at : (ifs : List ℕ) (text : List Item) → text ≡ field ifs text ++ (delimiter ifs (after Kept ifs text) ++ behind ifs text)
unfolding behind
whole_at ifs text = sym (ap (λ (ys : List Item). field ifs text ++ ys) (delimiter_whole ifs (after Kept ifs text)) ∙ take-append-drop (prefix_len (is_of Kept ifs) text) text)

between : (ifs : List ℕ) (n : ℕ) (text : List Item) → length text ≤ n → AreBetween ifs (fields_in ifs n text) text
between ifs zero [] h = refl
between ifs zero (x ∷ xs) h = absurd (omega arith)
between ifs (suc n) [] h = refl
between ifs (suc n) (x ∷ xs) h =
    let l = behind_shorter ifs x xs in
    (delimiter ifs (after Kept ifs (x ∷ xs)), behind ifs (x ∷ xs), omega arith, whole_at ifs (x ∷ xs), ends_at ifs (x ∷ xs), between ifs n (behind ifs (x ∷ xs)) (omega arith))

pub fields_between : (ifs : List ℕ) (text : List Item) → AreFields ifs (fields ifs text) text
unfolding fields
fields_between ifs text = record {
  white = white ifs text;
  start = after White ifs text;
  whole = sym (take-append-drop (prefix_len (is_of White ifs) text) text);
  blank = front_all (is_of White ifs) text;
  longest = front_stops White ifs text;
  between = between ifs (length (after White ifs text)) (after White ifs text) (omega arith);
}

-- There is no other list of such parts.

front_len : (xs ys : List Item) (s : Sort) (ifs : List ℕ) → list_all (is_of s ifs) xs ≡ true → begins s ifs ys ≡ false → prefix_len (is_of s ifs) (xs ++ ys) ≡ length xs
front_len [] [] s ifs h e = refl
front_len [] (y ∷ ys) s ifs h e = rw e refl
front_len (x ∷ xs) ys s ifs h e =
    let k = and_true (is_of s ifs x) (list_all (is_of s ifs) xs) h in
    let a : is_of s ifs x ≡ true = k.0 in
    let m : prefix_len (is_of s ifs) (xs ++ ys) ≡ length xs = front_len xs ys s ifs (k.1) e in
    rw (a, m) (omega arith)

sort_by : (ifs : List ℕ) (x : Item) (b : Bool) → is_blank x ≡ b → splits ifs x ≡ true → (is_of White ifs x ≡ b) × (is_of Other ifs x ≡ not b)
unfolding is_of
sort_by ifs x true e a = (rw (a, e) refl, rw (a, e) refl)
sort_by ifs x false e a = (rw (a, e) refl, rw (a, e) refl)

after_yes : (s : Sort) (ifs : List ℕ) (x : Item) (xs : List Item) → is_of s ifs x ≡ true → after s ifs (x ∷ xs) ≡ after s ifs xs
after_yes s ifs x xs e = let k : 1 + prefix_len (is_of s ifs) xs ≡ suc (prefix_len (is_of s ifs) xs) = omega arith in rw (e, k) refl

count_yes : (p : Item → Bool) (x : Item) (xs : List Item) → p x ≡ true → count_by p (x ∷ xs) ≡ 1 + count_by p xs
count_yes p x xs e =
    let one : count_by p (x ∷ []) ≡ 1 = rw e refl in
    let c = count_append p (x ∷ []) xs in
    omega arith

count_no : (p : Item → Bool) (x : Item) (xs : List Item) → p x ≡ false → count_by p (x ∷ xs) ≡ count_by p xs
count_no p x xs e =
    let none : count_by p (x ∷ []) ≡ 0 = rw e refl in
    let c = count_append p (x ∷ []) xs in
    omega arith

-- white space alone, behind the one other separator

white_step : (ifs : List ℕ) (x : Item) (ds rest : List Item) (b : Bool) → is_blank x ≡ b → splits ifs x ≡ true → count_by (is_of Other ifs) (x ∷ ds) ≡ 0 → (count_by (is_of Other ifs) ds ≡ 0 → after White ifs (ds ++ rest) ≡ rest) → after White ifs (x ∷ (ds ++ rest)) ≡ rest
white_step ifs x ds rest true e a c more =
    let k = sort_by ifs x true e a in
    let n = count_no (is_of Other ifs) x ds (k.1) in
    after_yes White ifs x (ds ++ rest) (k.0) ∙ more (omega arith)
white_step ifs x ds rest false e a c more =
    let k = sort_by ifs x false e a in
    let n = count_yes (is_of Other ifs) x ds (k.1) in
    absurd (omega arith)

only_white : (ifs : List ℕ) (ds rest : List Item) → list_all (splits ifs) ds ≡ true → count_by (is_of Other ifs) ds ≡ 0 → begins White ifs rest ≡ false → after White ifs (ds ++ rest) ≡ rest
only_white ifs [] rest h c n = none_at_front White ifs rest n
only_white ifs (x ∷ ds) rest h c n =
    let k = and_true (splits ifs x) (list_all (splits ifs) ds) h in
    white_step ifs x ds rest (is_blank x) refl (k.0) c (λ z. only_white ifs ds rest (k.1) z n)

no_other : (b : Bool) → (b ≡ true → 0 < 0) → b ≡ false
no_other true f = absurd (let k : 0 < 0 = f refl in omega arith)
no_other false f = refl

past_step : (ifs : List ℕ) (x : Item) (ds rest : List Item) (b : Bool) → is_blank x ≡ b → splits ifs x ≡ true → list_all (splits ifs) ds ≡ true → count_by (is_of Other ifs) (x ∷ ds) ≤ 1 → begins White ifs rest ≡ false → (begins Other ifs rest ≡ true → 0 < count_by (is_of Other ifs) (x ∷ ds)) → (count_by (is_of Other ifs) ds ≤ 1 → (begins Other ifs rest ≡ true → 0 < count_by (is_of Other ifs) ds) → past ifs (ds ++ rest) ≡ rest) → past ifs (x ∷ (ds ++ rest)) ≡ rest
past_step ifs x ds rest true e a h c n o more =
    let k = sort_by ifs x true e a in
    let m = count_no (is_of Other ifs) x ds (k.1) in
    ap (λ (ys : List Item). after White ifs (after_one ifs ys)) (after_yes White ifs x (ds ++ rest) (k.0)) ∙ more (omega arith) (λ g. let q = o g in omega arith)
past_step ifs x ds rest false e a h c n o more =
    let k = sort_by ifs x false e a in
    let m = count_yes (is_of Other ifs) x ds (k.1) in
    let w : after White ifs (x ∷ (ds ++ rest)) ≡ x ∷ (ds ++ rest) = none_at_front White ifs (x ∷ (ds ++ rest)) (k.0) in
    let other : is_of Other ifs x ≡ true = k.1 in
    let t : after_one ifs (x ∷ (ds ++ rest)) ≡ ds ++ rest = rw other refl in
    ap (λ (ys : List Item). after White ifs (after_one ifs ys)) w ∙ (ap (after White ifs) t ∙ only_white ifs ds rest h (omega arith) n)

past_is : (ifs : List ℕ) (ds rest : List Item) → list_all (splits ifs) ds ≡ true → count_by (is_of Other ifs) ds ≤ 1 → begins White ifs rest ≡ false → (begins Other ifs rest ≡ true → 0 < count_by (is_of Other ifs) ds) → past ifs (ds ++ rest) ≡ rest
past_is ifs [] rest h c n o =
    let a = none_at_front White ifs rest n in
    let f = (one_no ifs rest (no_other (begins Other ifs rest) o)).1 in
    ap (λ (ys : List Item). after White ifs (after_one ifs ys)) a ∙ (ap (after White ifs) f ∙ a)
past_is ifs (x ∷ ds) rest h c n o =
    let k = and_true (splits ifs x) (list_all (splits ifs) ds) h in
    past_step ifs x ds rest (is_blank x) refl (k.0) (k.1) c n o (λ z g. past_is ifs ds rest (k.1) z n g)

-- what the longest delimiter leaves

last_count : (p : Item → Bool) (ds : List Item) (x : Item) (b : Bool) → p x ≡ b → count_by p (ds ++ x ∷ []) ≡ count_by p ds + cond b 1 0
last_count p ds x true e = let c = count_append p ds (x ∷ []) in let l = count_yes p x [] e in omega arith
last_count p ds x false e = let c = count_append p ds (x ∷ []) in let l = count_no p x [] e in omega arith

with_last : (ifs : List ℕ) (ds : List Item) (x : Item) → list_all (splits ifs) ds ≡ true → splits ifs x ≡ true → list_all (splits ifs) (ds ++ x ∷ []) ≡ true
with_last ifs ds x h e = all_append (splits ifs) ds (x ∷ []) h (rw e refl)

no_white_by : (ifs : List ℕ) (f d : List Item) (x : Item) (more : List Item) (b : Bool) → is_of White ifs x ≡ b → Ends ifs f d (x ∷ more) → b ≡ false
no_white_by ifs f d x more false e s = refl
no_white_by ifs f d x more true e s =
    let k = white_one ifs x e in
    let l = s.longest x more refl (with_last ifs d x s.run (k.0)) in
    let c = last_count (is_of Other ifs) d x false (k.1) in
    let one = s.one in
    absurd (omega arith)

no_white : (ifs : List ℕ) (f d r : List Item) → Ends ifs f d r → begins White ifs r ≡ false
no_white ifs f d [] s = refl
no_white ifs f d (x ∷ more) s = no_white_by ifs f d x more (is_of White ifs x) refl s

some_other : (ifs : List ℕ) (f d r : List Item) → Ends ifs f d r → begins Other ifs r ≡ true → 0 < count_by (is_of Other ifs) d
some_other ifs f d [] s e = absurd cc
some_other ifs f d (x ∷ more) s e =
    let l = s.longest x more refl (with_last ifs d x s.run (other_one ifs x e)) in
    let c = last_count (is_of Other ifs) d x true e in
    omega arith

field_is : (ifs : List ℕ) (text f d r : List Item) → text ≡ f ++ (d ++ r) → Ends ifs f d r → field ifs text ≡ f
field_is ifs text f d r w s =
    let k = front_len f (d ++ r) Kept ifs s.kept s.ended in
    ap (field ifs) w ∙ take_at f (d ++ r) (prefix_len (is_of Kept ifs) (f ++ (d ++ r))) (sym k)

behind_is : (ifs : List ℕ) (text f d r : List Item) → text ≡ f ++ (d ++ r) → Ends ifs f d r → behind ifs text ≡ r
unfolding behind
behind_is ifs text f d r w s =
    let k = front_len f (d ++ r) Kept ifs s.kept s.ended in
    let there : after Kept ifs text ≡ d ++ r = ap (after Kept ifs) w ∙ drop_at f (d ++ r) (prefix_len (is_of Kept ifs) (f ++ (d ++ r))) (sym k) in
    ap (past ifs) there ∙ past_is ifs d r s.run s.one (no_white ifs f d r s) (some_other ifs f d r s)

alone : (ifs : List ℕ) (n : ℕ) (all : List (List Item)) (text : List Item) → length text ≤ n → AreBetween ifs all text → all ≡ fields_in ifs n text
alone ifs n [] text h b = let e : text ≡ [] = b in rw e (sym (none_left ifs n))
alone ifs n (f ∷ all) [] h b = absurd (let z : 0 < 0 = b.2 in omega arith)
alone ifs zero (f ∷ all) (x ∷ xs) h b = absurd (omega arith)
alone ifs (suc n) (f ∷ all) (x ∷ xs) h b =
    let here : field ifs (x ∷ xs) ≡ f = field_is ifs (x ∷ xs) f (b.0) (b.1) (b.3) (b.4) in
    let there : behind ifs (x ∷ xs) ≡ b.1 = behind_is ifs (x ∷ xs) f (b.0) (b.1) (b.3) (b.4) in
    let l = behind_shorter ifs x xs in
    let fits : length (b.1) ≤ n = subst (λ (ys : List Item). length ys ≤ n) there (omega arith) in
    let more : all ≡ fields_in ifs n (b.1) = alone ifs n all (b.1) fits (b.5) in
    rw (here, there) (ap (λ (ys : List (List Item)). f ∷ ys) more)

pub fields_alone : (ifs : List ℕ) (text : List Item) (all : List (List Item)) → AreFields ifs all text → all ≡ fields ifs text
unfolding fields
fields_alone ifs text all are =
    let k = front_len are.white are.start White ifs are.blank are.longest in
    let there : after White ifs text ≡ are.start = ap (after White ifs) are.whole ∙ drop_at are.white are.start (prefix_len (is_of White ifs) (are.white ++ are.start)) (sym k) in
    rw there (alone ifs (length are.start) all are.start (omega arith) are.between)
