-- A body has fewer lines than there are delimiters, so its delimiter is no line of it.
use Rattle.std.proofs.Common.{◌≡◌, ℕ, zero, suc, ◌+◌, ◌^◌, ◌<◌, ◌≤◌, Bool, true, false, List, [], ◌∷◌, ◌++◌, length, Option, Some, None, refl, sym, ap, ◌∙◌, append_assoc, arith, inl, inr}
use Rattle.std.specs.Prelude.{◌⊎◌, ◌||◌, ◌==◌, nat_le, if◌then◌else◌}
use Rattle.std.specs.Fmt.{decimal}
use Rattle.std.specs.Str.Parse.{digits_value}
use Rattle.std.proofs.lemmas.Bool.{false≢true, eqb-true, leb-true}
use Rattle.std.proofs.lemmas.Bool.Decides.{nat_tests}
use Rattle.std.proofs.lemmas.List.{append-nil}
use Rattle.std.proofs.lemmas.Fmt.{decimal_is_IsNumeral}
use Rattle.sh_grammar.specs.Bytes.{Text}
use Rattle.sh_printing.specs.Delimiters.{Sight, sight, has_found, has_line, first_sight, is_whole, one_more, numbered, free_from, tries, delimiter}

-- ---- more names than places

abbrev In : Text → List Text → Type 0
In x [] = ⊥
In x (y ∷ ys) = (x ≡ y) ⊎ In x ys

-- without this place
abbrev rest_of : (x : Text) (ys : List Text) → In x ys → List Text
rest_of x [] i = []
rest_of x (y ∷ ys) (inl e) = ys
rest_of x (y ∷ ys) (inr i) = y ∷ rest_of x ys i

shorter : (x : Text) (ys : List Text) (i : In x ys) → length ys ≡ suc (length (rest_of x ys i))
shorter x [] i = absurd i
shorter x (y ∷ ys) (inl e) = refl
shorter x (y ∷ ys) (inr i) = ap suc (shorter x ys i)

stays_in : (x z : Text) (ys : List Text) (i : In x ys) → (z ≡ x → ⊥) → In z ys → In z (rest_of x ys i)
stays_in x z [] i n j = absurd j
stays_in x z (y ∷ ys) (inl e) n (inl f) = absurd (n (f ∙ sym e))
stays_in x z (y ∷ ys) (inl e) n (inr j) = j
stays_in x z (y ∷ ys) (inr i) n (inl f) = inl f
stays_in x z (y ∷ ys) (inr i) n (inr j) = inr (stays_in x z ys i n j)

same_decimal : (m n : ℕ) → numbered m ≡ numbered n → decimal m ≡ decimal n
same_decimal m n e = cc

same_number : (m n : ℕ) → m < 2 ^ 64 → n < 2 ^ 64 → numbered m ≡ numbered n → m ≡ n
same_number m n a b e = sym (decimal_is_IsNumeral m a).1 ∙ ap (digits_value 10) (same_decimal m n e) ∙ (decimal_is_IsNumeral n b).1

-- so many numbers from n on have places of their own
places : (k n : ℕ) (ys : List Text) → n + k ≤ 2 ^ 64 → ((j : ℕ) → n ≤ j → j < n + k → In (numbered j) ys) → k ≤ length ys
places zero n ys le h = omega arith
places (suc k) n ys le h =
    let i = h n (omega arith) (omega arith) in
    let r = rest_of (numbered n) ys i in
    let less = places k (n + 1) r (omega arith) (λ j lo hi. stays_in (numbered n) (numbered j) ys i (λ e. let same = same_number j n (omega arith) (omega arith) e in absurd (omega (arith, same))) (h j (omega arith) (omega arith))) in
    omega (arith, less, shorter (numbered n) ys i)

-- ---- lines

-- the lines of a text, of which the first has these bytes already
abbrev lines_from : Text → Text → List Text
lines_from line [] = line ∷ []
lines_from line (b ∷ bs) = if b == 10 then line ∷ lines_from [] bs else lines_from (line ++ b ∷ []) bs

few_by : (line : Text) (b : ℕ) (bs : Text) (ends : Bool) → length (lines_from [] bs) ≤ length bs + 1 → length (lines_from (line ++ b ∷ []) bs) ≤ length bs + 1 →
    length (if ends then line ∷ lines_from [] bs else lines_from (line ++ b ∷ []) bs) ≤ length (b ∷ bs) + 1
few_by line b bs true x y = omega arith
few_by line b bs false x y = omega arith

lines_few : (line t : Text) → length (lines_from line t) ≤ length t + 1
lines_few line [] = omega arith
lines_few line (b ∷ bs) = few_by line b bs (b == 10) (lines_few [] bs) (lines_few (line ++ b ∷ []) bs)

-- the sight of a name is that of the line
abbrev Sees : Text → Text → Sight → Type 0
Sees name line s = (r : Text) → s.rest ≡ Some r → name ≡ line ++ r

whole_is : (o : Option Text) → is_whole o ≡ true → o ≡ Some []
whole_is None e = absurd (false≢true e)
whole_is (Some []) e = refl
whole_is (Some (c ∷ cs)) e = absurd (false≢true e)

or_is : (a b : Bool) → (a || b) ≡ true → (a ≡ true) ⊎ (b ≡ true)
or_is true b e = inl refl
or_is false b e = inr e

one_by : (b c : ℕ) (cs r : Text) (same : Bool) → (c == b) ≡ same → (if same then Some cs else None) ≡ Some r → Some (c ∷ cs) ≡ Some (b ∷ r)
one_by b c cs r true s e = let is = eqb-true c b s in cc
one_by b c cs r false s e = absurd cc

one_is : (b : ℕ) (o : Option Text) (r : Text) → one_more b o ≡ Some r → o ≡ Some (b ∷ r)
one_is b None r e = absurd cc
one_is b (Some []) r e = absurd cc
one_is b (Some (c ∷ cs)) r e = one_by b c cs r (c == b) refl e

seen_whole : (name line : Text) (ls : List Text) (s : Sight) → Sees name line s → (s.found ≡ true) ⊎ (is_whole s.rest ≡ true) → (s.found ≡ true) ⊎ In name (line ∷ ls)
seen_whole name line ls s v (inl e) = inl e
seen_whole name line ls s v (inr e) = inr (inl (v [] (whole_is s.rest e) ∙ append-nil line))

-- behind a newline
seen_line : (name line bs : Text) (s : Sight) → Sees name line s → ((s.found || is_whole s.rest) ≡ true) ⊎ In name (lines_from [] bs) → (s.found ≡ true) ⊎ In name (line ∷ lines_from [] bs)
seen_line name line bs s v (inl e) = seen_whole name line (lines_from [] bs) s v (or_is s.found (is_whole s.rest) e)
seen_line name line bs s v (inr i) = inr (inr i)

seen_by : (name line : Text) (b : ℕ) (bs : Text) (s : Sight) → Sees name line s → (ends : Bool) → (b == 10) ≡ ends →
    ((l : Text) (z : Sight) → Sees name l z → has_found (sight name z bs) ≡ true → (z.found ≡ true) ⊎ In name (lines_from l bs)) →
    has_found (sight name (if ends then record { rest = Some name; found = s.found || is_whole s.rest } else record { rest = one_more b s.rest; found = s.found }) bs) ≡ true →
    (s.found ≡ true) ⊎ In name (if ends then line ∷ lines_from [] bs else lines_from (line ++ b ∷ []) bs)
seen_by name line b bs s v true n h e = seen_line name line bs s v (h [] (record { rest = Some name; found = s.found || is_whole s.rest }) (λ r k. cc) e)
seen_by name line b bs s v false n h e = h (line ++ b ∷ []) (record { rest = one_more b s.rest; found = s.found }) (λ r k. v (b ∷ r) (one_is b s.rest r k) ∙ sym (append_assoc line (b ∷ []) r)) e

seen : (name line t : Text) (s : Sight) → Sees name line s → has_found (sight name s t) ≡ true → (s.found ≡ true) ⊎ In name (lines_from line t)
unfolding sight
seen name line [] s v e = seen_whole name line [] s v (or_is s.found (is_whole s.rest) e)
seen name line (b ∷ bs) s v e = seen_by name line b bs s v (b == 10) refl (λ l z w h. seen name l bs z w h) e

not_before : (name t : Text) → (false ≡ true) ⊎ In name (lines_from [] t) → In name (lines_from [] t)
not_before name t (inl e) = absurd (false≢true e)
not_before name t (inr i) = i

-- a line that is found is one
found_in : (name t : Text) → has_line name t ≡ true → In name (lines_from [] t)
found_in name t e = not_before name t (seen name [] t (first_sight name) (λ r h. cc) e)

-- ---- the delimiter

by_test : (n j : ℕ) → n ≤ j → (later : Bool) → nat_le (n + 1) j ≡ later → (j ≡ n) ⊎ (n + 1 ≤ j)
by_test n j le true e = inr (leb-true (n + 1) j e)
by_test n j le false e = inl (grind (arith, nat_tests))

taken_at : (n j : ℕ) (t : Text) → has_line (numbered n) t ≡ true → (j ≡ n) ⊎ (n + 1 ≤ j) → (n + 1 ≤ j → has_line (numbered j) t ≡ true) → has_line (numbered j) t ≡ true
taken_at n j t e (inl is) h = ap (λ (z : ℕ). has_line (numbered z) t) is ∙ e
taken_at n j t e (inr le) h = h le

first_or_later : (n j : ℕ) → n ≤ j → (j ≡ n) ⊎ (n + 1 ≤ j)
first_or_later n j le = by_test n j le (nat_le (n + 1) j) refl

free_by : (k n : ℕ) (t : Text) (taken : Bool) → has_line (numbered n) t ≡ taken → (has_line (numbered (free_from k (n + 1) t)) t ≡ false) ⊎ ((j : ℕ) → n + 1 ≤ j → j < n + 1 + k → has_line (numbered j) t ≡ true) →
    (has_line (numbered (if taken then free_from k (n + 1) t else n)) t ≡ false) ⊎ ((j : ℕ) → n ≤ j → j < n + suc k → has_line (numbered j) t ≡ true)
free_by k n t false e h = inl e
free_by k n t true e (inl f) = inl f
free_by k n t true e (inr h) = inr (λ j lo hi. taken_at n j t e (first_or_later n j lo) (λ le. h j le (omega arith)))

free_or_all : (k n : ℕ) (t : Text) → (has_line (numbered (free_from k n t)) t ≡ false) ⊎ ((j : ℕ) → n ≤ j → j < n + k → has_line (numbered j) t ≡ true)
unfolding free_from
free_or_all zero n t = inr (λ j lo hi. absurd (omega arith))
free_or_all (suc k) n t = free_by k n t (has_line (numbered n) t) refl (free_or_all k (n + 1) t)

none_free : (t : Text) → length t + 1 < tries → (has_line (numbered (free_from tries 0 t)) t ≡ false) ⊎ ((j : ℕ) → 0 ≤ j → j < 0 + tries → has_line (numbered j) t ≡ true) → has_line (numbered (free_from tries 0 t)) t ≡ false
none_free t lt (inl e) = e
none_free t lt (inr h) = let most = places tries 0 (lines_from [] t) (omega arith) (λ j lo hi. found_in (numbered j) t (h j lo hi)) in absurd (omega (arith, most, lines_few [] t))

-- THE DELIMITER of a body is no line of it
pub delimiter_free : (t : Text) → length t + 1 < tries → has_line (delimiter t) t ≡ false
unfolding delimiter
delimiter_free t lt = none_free t lt (free_or_all tries 0 t)
