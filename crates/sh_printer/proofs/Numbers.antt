-- The number of a body's delimiter: what the bodies inside of a text hold, and what passes a search past them.
use Rattle.std.proofs.Common.{◌≡◌, ℕ, ◌+◌, ◌<◌, ◌≤◌, ◌^◌, Bool, true, false, ◌||◌, [], ◌∷◌, ◌++◌, drop, Option, Some, None, refl, sym, ap, subst, ◌∙◌, ◌⊎◌, inl, inr, decimal, append_assoc, arith}
use Rattle.std.specs.Prelude.{zero, suc}
use Rattle.std.proofs.lemmas.Fmt.{decimal_injective}
use Rattle.sh_grammar.specs.Bytes.{Text}
use Rattle.sh_printing.specs.Delimiters.{Sight, sight, first_sight, has_line, has_found, is_whole, numbered, free_from, tries}
use Rattle.sh_printer.specs.Covers.{seen, Covers, ends_line, ends_line_by, starting, CoversLines}
use Rattle.sh_printer.proofs.Searches.{sight_append}
use Rattle.sh_printer.proofs.Lines.{Without, Lacks, Keeps, no_letter, no_newline, no_blank, no_less, lacks, breaks, keeps, ends_append, strip, strip_none, sight_line, sight_ended, strip_whole, strip_same}
use Rattle.sh_printer.proofs.Covers.{below_or_not, seen_then, stays_found, free_more, free_stop, free_end}

-- ---- a here-document's operator

-- behind `<` the line is no name
less_breaks : (name : Text) (s : Sight) (xs : Text) → Lacks 60 s.rest → Without 10 xs → sight name s (60 ∷ xs) ≡ record { rest = None; found = s.found }
less_breaks name s xs k w =
    sight_line name s (60 ∷ xs) (refl, w)
    ∙ ap (λ (r : Option Text). record { rest = strip xs r; found = s.found }) (breaks 60 s.rest k)
    ∙ ap (λ (r : Option Text). record { rest = r; found = s.found }) (strip_none xs)

seen_less : (n : ℕ) (z xs : Text) → n < tries → Without 10 xs → seen n (z ++ (60 ∷ xs)) ≡ record { rest = None; found = (seen n z).found }
seen_less n z xs lt w = seen_then n z (60 ∷ xs) ∙ less_breaks (numbered n) (seen n z) xs (lacks 60 (numbered n) (no_less n (omega (arith, lt))) (first_sight (numbered n)) z (no_less n (omega (arith, lt)))) w

pub covers_operator : (x y : Text) (i : ℕ) → Without 10 x → Without 10 y → Covers (60 ∷ x) (60 ∷ y) i i
covers_operator x y i w v = record {
  up = omega arith;
  small = λ e. e;
  same = λ n lt le z. seen_less n z x lt w ∙ sym (seen_less n z y lt v);
  found = λ n lt le less z. absurd (omega arith);
}

-- ---- lines

-- a text behind which the search for a name stands at the start of a line, with a line found or not
record Start (n : ℕ) (found : Bool) : Type 0 where
  text : Text
  is : seen n text ≡ starting n found

start : (n : ℕ) → n < 2 ^ 64 → (found : Bool) → Start n found
unfolding sight
start n lt false = record { text = []; is = refl }
start n lt true = record { text = numbered n ++ 10 ∷ []; is = sight_ended (numbered n) (first_sight (numbered n)) (numbered n) (no_newline n lt) ∙ ap (λ (r : Option Text). record { rest = Some (numbered n); found = is_whole r }) (strip_same (numbered n)) }

behind_start : (n : ℕ) (found : Bool) (x : Text) (s : Start n found) → seen n (s.text ++ x) ≡ sight (numbered n) (starting n found) x
behind_start n found x s = seen_then n s.text x ∙ ap (λ (t : Sight). sight (numbered n) t x) s.is

same_start : (x y : Text) (i g : ℕ) → Covers x y i g → (n : ℕ) → n < tries → g ≤ n → (found : Bool) → sight (numbered n) (starting n found) x ≡ sight (numbered n) (starting n found) y
same_start x y i g p n lt le found =
    let s = start n (omega (arith, lt)) found in
    sym (behind_start n found x s) ∙ p.same n lt le s.text ∙ behind_start n found y s

found_start : (x y : Text) (i g : ℕ) → Covers x y i g → (n : ℕ) → n < tries → i ≤ n → n < g → (before : Bool) → (sight (numbered n) (starting n before) x).found ≡ true
found_start x y i g p n lt le less before =
    let s = start n (omega (arith, lt)) before in
    sym (ap (λ (t : Sight). t.found) (behind_start n before x s)) ∙ p.found n lt le less s.text

-- behind a text that ends a line, the search stands at the start of a line
ends_start : (n : ℕ) → n < 2 ^ 64 → (found : Bool) (x : Text) → ends_line x ≡ true → (sight (numbered n) (starting n found) x).rest ≡ Some (numbered n)
ends_start n lt found x e = subst (λ (t : Bool). Keeps (decimal n) t (sight (numbered n) (starting n found) x).rest) e (keeps (decimal n) (no_letter n lt) true (starting n found) x refl)

-- else no `E` is to come
open_start : (n : ℕ) → n < 2 ^ 64 → (found : Bool) (x : Text) → ends_line x ≡ false → Lacks 69 (sight (numbered n) (starting n found) x).rest
open_start n lt found x e = subst (λ (t : Bool). Keeps (decimal n) t (sight (numbered n) (starting n found) x).rest) e (keeps (decimal n) (no_letter n lt) true (starting n found) x refl)

at_start : (n : ℕ) (s : Sight) → s.rest ≡ Some (numbered n) → s ≡ starting n s.found
at_start n s e = ap (λ (r : Option Text). record { rest = r; found = s.found }) e

pub lines_none : (i : ℕ) → CoversLines [] [] i i
lines_none i = record {
  up = omega arith;
  small = λ e. e;
  ends = (refl, refl);
  same = λ n lt le found. refl;
  found = λ n lt le less before. absurd (omega arith);
}

ends_both : (x u : Text) → ends_line x ≡ true → ends_line u ≡ true → ends_line (x ++ u) ≡ true
ends_both x u e f = ends_append true x u ∙ ap (λ (t : Bool). ends_line_by t u) e ∙ f

lines_next : (n : ℕ) → n < 2 ^ 64 → (found : Bool) (x u : Text) → ends_line x ≡ true → sight (numbered n) (starting n found) (x ++ u) ≡ sight (numbered n) (starting n (sight (numbered n) (starting n found) x).found) u
lines_next n lt found x u e = sight_append (numbered n) (starting n found) x u ∙ ap (λ (s : Sight). sight (numbered n) s u) (at_start n (sight (numbered n) (starting n found) x) (ends_start n lt found x e))

pub lines_then : (x y u v : Text) (i j k : ℕ) → CoversLines x y i j → CoversLines u v j k → CoversLines (x ++ u) (y ++ v) i k
lines_then x y u v i j k p q = record {
  up = omega (arith, p.up, q.up);
  small = λ e. q.small (p.small e);
  ends = (ends_both x u p.ends.0 q.ends.0, ends_both y v p.ends.1 q.ends.1);
  same = λ n lt le found.
      lines_next n (omega (arith, lt)) found x u p.ends.0
      ∙ q.same n lt le (sight (numbered n) (starting n found) x).found
      ∙ ap (λ (s : Sight). sight (numbered n) (starting n s.found) v) (p.same n lt (omega (arith, le, q.up)) found)
      ∙ sym (lines_next n (omega (arith, lt)) found y v p.ends.1);
  found = λ n lt le less before. elim (below_or_not n j) [
    | inl l ↦ ap (λ (s : Sight). s.found) (sight_append (numbered n) (starting n before) x u) ∙ stays_found (numbered n) (sight (numbered n) (starting n before) x) u (p.found n lt le l before)
    | inr h ↦ ap (λ (s : Sight). s.found) (lines_next n (omega (arith, lt)) before x u p.ends.0) ∙ q.found n lt h less (sight (numbered n) (starting n before) x).found
  ];
}

seen_lines : (n : ℕ) (z x : Text) → seen n (z ++ (10 ∷ x)) ≡ sight (numbered n) (starting n (has_found (seen n z))) x
unfolding sight
seen_lines n z x = seen_then n z (10 ∷ x)

-- whole lines behind a newline
pub covers_lines : (x y : Text) (i j : ℕ) → CoversLines x y i j → Covers (10 ∷ x) (10 ∷ y) i j
covers_lines x y i j p = record {
  up = p.up;
  small = p.small;
  same = λ n lt le z. seen_lines n z x ∙ p.same n lt le (has_found (seen n z)) ∙ sym (seen_lines n z y);
  found = λ n lt le less z. ap (λ (s : Sight). s.found) (seen_lines n z x) ∙ p.found n lt le less (has_found (seen n z));
}

-- ---- the least free number

bound_by : (m n : ℕ) (text : Text) (line : Bool) → has_line (numbered n) text ≡ line → (n + 1 ≤ free_from m (n + 1) text) × (free_from m (n + 1) text ≤ n + 1 + m) → (n ≤ free_from (suc m) n text) × (free_from (suc m) n text ≤ n + suc m)
bound_by m n text true e k = rw (free_more m n text e) (omega (arith, k.0), omega (arith, k.1))
bound_by m n text false e k = rw (free_stop m n text e) (omega arith, omega arith)

pub free_bound : (m n : ℕ) (text : Text) → (n ≤ free_from m n text) × (free_from m n text ≤ n + m)
free_bound zero n text = rw (free_end n text) (omega arith, omega arith)
free_bound (suc m) n text = bound_by m n text (has_line (numbered n) text) refl (free_bound m (n + 1) text)

first_or_later : (n k : ℕ) → n ≤ k → (k ≡ n) ⊎ (n + 1 ≤ k)
first_or_later n k le = elim (below_or_not n k) [ inl lt ↦ inr (omega (arith, lt)) | inr ge ↦ inl (omega (arith, ge, le)) ]

below_by : (m n : ℕ) (text : Text) (line : Bool) → has_line (numbered n) text ≡ line → ((k : ℕ) → n + 1 ≤ k → k < free_from m (n + 1) text → has_line (numbered k) text ≡ true) → (k : ℕ) → n ≤ k → k < free_from (suc m) n text → has_line (numbered k) text ≡ true
below_by m n text true e rest k le lt = elim (first_or_later n k le) [
  | inl same ↦ rw same e
  | inr later ↦ rest k later (subst (λ (f : ℕ). k < f) (free_more m n text e) lt)
]
below_by m n text false e rest k le lt = absurd (omega (arith, le, subst (λ (f : ℕ). k < f) (free_stop m n text e) lt))

-- each number before the least free one is a line
pub free_below : (m n : ℕ) (text : Text) (k : ℕ) → n ≤ k → k < free_from m n text → has_line (numbered k) text ≡ true
free_below zero n text k le lt = absurd (omega (arith, le, subst (λ (f : ℕ). k < f) (free_end n text) lt))
free_below (suc m) n text k le lt = below_by m n text (has_line (numbered n) text) refl (λ i h l. free_below m (n + 1) text i h l) k le lt

-- ---- a body and the line of its delimiter

or_false : (a : Bool) → (a || false) ≡ a
or_false true = refl
or_false false = refl

or_true : (a : Bool) → (a || true) ≡ true
or_true true = refl
or_true false = refl

-- a line that isn't the name
line_past : (n : ℕ) (s : Sight) (xs : Text) → Without 10 xs → is_whole (strip xs s.rest) ≡ false → sight (numbered n) s (xs ++ 10 ∷ []) ≡ starting n s.found
line_past n s xs w e = sight_ended (numbered n) s xs w ∙ ap (λ (t : Bool). starting n (s.found || t)) e ∙ ap (λ (t : Bool). starting n t) (or_false s.found)

-- the line that is the name
line_found : (n : ℕ) (s : Sight) → n < 2 ^ 64 → s.rest ≡ Some (numbered n) → (sight (numbered n) s (numbered n ++ 10 ∷ [])).found ≡ true
line_found n s lt e =
    ap (λ (t : Sight). t.found) (sight_ended (numbered n) s (numbered n) (no_newline n lt))
    ∙ ap (λ (r : Option Text). s.found || is_whole (strip (numbered n) r)) e
    ∙ ap (λ (r : Option Text). s.found || is_whole r) (strip_same (numbered n))
    ∙ or_true s.found

breaks_first : (xs : Text) (b : ℕ) (r : Option Text) → Lacks b r → is_whole (strip (b ∷ xs) r) ≡ false
breaks_first xs b r k = ap (λ (t : Option Text). is_whole (strip xs t)) (breaks b r k) ∙ ap is_whole (strip_none xs)

-- past a search the line of a delimiter is a blank
blank_past : (n : ℕ) (s : Sight) → Lacks 32 s.rest → sight (numbered n) s (32 ∷ 10 ∷ []) ≡ starting n s.found
blank_past n s k = line_past n s (32 ∷ []) (refl, tt) (breaks_first [] 32 s.rest k)

other_by : (m n : ℕ) → m < 2 ^ 64 → n < 2 ^ 64 → n < m ⊎ m < n → (t : Bool) → is_whole (strip (numbered m) (Some (numbered n))) ≡ t → t ≡ false
other_by m n lt less ne false e = refl
other_by m n lt less (inl l) true e = absurd (omega (arith, l, decimal_injective m n lt less (ap (drop 1) (strip_whole (numbered m) (numbered n) e))))
other_by m n lt less (inr l) true e = absurd (omega (arith, l, decimal_injective m n lt less (ap (drop 1) (strip_whole (numbered m) (numbered n) e))))

-- the line of another number
other_past : (m n : ℕ) (s : Sight) → m < 2 ^ 64 → n < 2 ^ 64 → n < m ⊎ m < n → s.rest ≡ Some (numbered n) → sight (numbered n) s (numbered m ++ 10 ∷ []) ≡ starting n s.found
other_past m n s lt less ne e = line_past n s (numbered m) (no_newline m lt) (ap (λ (r : Option Text). is_whole (strip (numbered m) r)) e ∙ other_by m n lt less ne (is_whole (strip (numbered m) (Some (numbered n)))) refl)

-- behind what goes on with a line, a delimiter is no name
late_past : (m n : ℕ) (s : Sight) → m < 2 ^ 64 → Lacks 69 s.rest → sight (numbered n) s (numbered m ++ 10 ∷ []) ≡ starting n s.found
late_past m n s lt k = line_past n s (numbered m) (no_newline m lt) (breaks_first (decimal m) 69 s.rest k)

-- a body, and a line behind it
lined : (n : ℕ) (s : Sight) (x d : Text) → sight (numbered n) s (x ++ d ++ 10 ∷ []) ≡ sight (numbered n) (sight (numbered n) s x) (d ++ 10 ∷ [])
lined n s x d = ap (sight (numbered n) s) (append_assoc x d (10 ∷ [])) ∙ sight_append (numbered n) s x (d ++ 10 ∷ [])

ends_lined : (x d : Text) → ends_line (x ++ d ++ 10 ∷ []) ≡ true
ends_lined x d = ends_append true (x ++ d) (10 ∷ [])

no_blank_left : (n : ℕ) → n < tries → (found : Bool) (x : Text) → Lacks 32 (sight (numbered n) (starting n found) x).rest
no_blank_left n lt found x = lacks 32 (numbered n) (no_blank n (omega (arith, lt))) (starting n found) x (no_blank n (omega (arith, lt)))

blank_lined : (n : ℕ) → n < tries → (found : Bool) (y : Text) → sight (numbered n) (starting n found) (y ++ 32 ∷ [] ++ 10 ∷ []) ≡ starting n (sight (numbered n) (starting n found) y).found
blank_lined n lt found y = lined n (starting n found) y (32 ∷ []) ∙ blank_past n (sight (numbered n) (starting n found) y) (no_blank_left n lt found y)

-- a body that doesn't end with a newline
pub lines_open : (x y : Text) (m i g to : ℕ) → m < 2 ^ 64 → Covers x y 0 g → ends_line y ≡ false → i ≤ to → g ≤ to → (i ≤ tries → to ≤ tries) → ((n : ℕ) → i ≤ n → n < to → n < g) → CoversLines (x ++ numbered m ++ 10 ∷ []) (y ++ 32 ∷ [] ++ 10 ∷ []) i to
lines_open x y m i g to lt p late le most small less = record {
  up = le;
  small = small;
  ends = (ends_lined x (numbered m), ends_lined y (32 ∷ []));
  same = λ n l h found.
      lined n (starting n found) x (numbered m)
      ∙ ap (λ (s : Sight). sight (numbered n) s (numbered m ++ 10 ∷ [])) (same_start x y 0 g p n l (omega (arith, h, most)) found)
      ∙ late_past m n (sight (numbered n) (starting n found) y) lt (open_start n (omega (arith, l)) found y late)
      ∙ sym (blank_lined n l found y);
  found = λ n l h k before.
      ap (λ (s : Sight). s.found) (lined n (starting n before) x (numbered m))
      ∙ stays_found (numbered n) (sight (numbered n) (starting n before) x) (numbered m ++ 10 ∷ []) (found_start x y 0 g p n l (omega arith) (less n h k) before);
}

-- a line of the text is the name, and no line is begun behind it
found_ended : (n : ℕ) (s : Sight) → s.rest ≡ Some (numbered n) → has_found s ≡ true → s.found ≡ true
found_ended n s e k = sym (or_false s.found) ∙ ap (λ (r : Option Text). s.found || is_whole r) (sym e) ∙ k

rest_ended : (x y : Text) (g : ℕ) → Covers x y 0 g → ends_line y ≡ true → (n : ℕ) → n < tries → g ≤ n → (found : Bool) → (sight (numbered n) (starting n found) x).rest ≡ Some (numbered n)
rest_ended x y g p closed n lt le found = ap (λ (s : Sight). s.rest) (same_start x y 0 g p n lt le found) ∙ ends_start n (omega (arith, lt)) found y closed

found_before : (x y : Text) (g : ℕ) → Covers x y 0 g → ends_line y ≡ true → (n : ℕ) → n < tries → has_line (numbered n) x ≡ true → (before : Bool) → (sight (numbered n) (starting n before) x).found ≡ true
found_before x y g p closed n lt line true = stays_found (numbered n) (starting n true) x refl
found_before x y g p closed n lt line false = elim (below_or_not n g) [
  | inl l ↦ found_start x y 0 g p n lt (omega arith) l false
  | inr h ↦ found_ended n (sight (numbered n) (starting n false) x) (rest_ended x y g p closed n lt h false) line
]

found_delimiter : (x y : Text) (g : ℕ) → Covers x y 0 g → ends_line y ≡ true → (m : ℕ) → g ≤ m → m ≡ free_from tries 0 x → (n : ℕ) → n < tries → n ≤ m → (before : Bool) → (sight (numbered n) (starting n before) (x ++ numbered m ++ 10 ∷ [])).found ≡ true
found_delimiter x y g p closed m ge free n lt le before = ap (λ (s : Sight). s.found) (lined n (starting n before) x (numbered m)) ∙ elim (below_or_not n m) [
  | inl l ↦ stays_found (numbered n) (sight (numbered n) (starting n before) x) (numbered m ++ 10 ∷ []) (found_before x y g p closed n lt (free_below tries 0 x n (omega arith) (subst (λ (f : ℕ). n < f) free l)) before)
  | inr h ↦ let same : n ≡ m = omega (arith, le, h) in subst (λ (k : ℕ). (sight (numbered n) (sight (numbered n) (starting n before) x) (numbered k ++ 10 ∷ [])).found ≡ true) same (line_found n (sight (numbered n) (starting n before) x) (omega (arith, lt)) (rest_ended x y g p closed n lt (omega (arith, ge, h)) before))
]

-- a body that ends with a newline
pub lines_closed : (x y : Text) (m i g to : ℕ) → Covers x y 0 g → ends_line y ≡ true → g ≤ m → m ≡ free_from tries 0 x → i ≤ to → (i ≤ tries → to ≤ tries) → ((n : ℕ) → n < tries → to ≤ n → m < n) → ((n : ℕ) → n < tries → i ≤ n → n < to → n ≤ m) → CoversLines (x ++ numbered m ++ 10 ∷ []) (y ++ 32 ∷ [] ++ 10 ∷ []) i to
lines_closed x y m i g to p closed ge free le small more less = record {
  up = le;
  small = small;
  ends = (ends_lined x (numbered m), ends_lined y (32 ∷ []));
  same = λ n l h found.
      lined n (starting n found) x (numbered m)
      ∙ ap (λ (s : Sight). sight (numbered n) s (numbered m ++ 10 ∷ [])) (same_start x y 0 g p n l (omega (arith, ge, more n l h)) found)
      ∙ other_past m n (sight (numbered n) (starting n found) y) (omega (arith, l, more n l h)) (omega (arith, l)) (inr (more n l h)) (ends_start n (omega (arith, l)) found y closed)
      ∙ sym (blank_lined n l found y);
  found = λ n l h k before. found_delimiter x y g p closed m ge free n l (less n l h k) before;
}
