-- What a search for a name sees of a line, byte by byte.
use Rattle.std.proofs.Common.{◌≡◌, ℕ, ◌<◌, ◌^◌, Bool, true, false, ◌||◌, [], ◌∷◌, ◌++◌, Option, Some, None, refl, sym, ap, ap₂, ◌∙◌, ne_eqb, eqb-true, eq-eqb, true≢false, arith, decimal}
use Rattle.std.specs.Prelude.{◌==◌, if◌then◌else◌, ⊤}
use Rattle.std.specs.Char.{digit_value}
use Rattle.std.specs.Str.Parse.{AllDigits}
use Rattle.std.proofs.lemmas.Str.Parse.{digit_from_value}
use Rattle.std.proofs.lemmas.Fmt.{decimal_is_IsNumeral}
use Rattle.sh_grammar.specs.Bytes.{Text}
use Rattle.sh_printing.specs.Delimiters.{Sight, sight, next_sight, one_more, is_whole, numbered}
use Rattle.sh_printer.specs.Covers.{ends_line_by}
use Rattle.sh_printer.proofs.Searches.{sight_append}

-- the byte is none of the text's
abbrev pub Without : ℕ → Text → Type 0
Without c [] = ⊤
Without c (b ∷ bs) = ((b == c) ≡ false) × Without c bs

pub without_append : (c : ℕ) (xs ys : Text) → Without c xs → Without c ys → Without c (xs ++ ys)
without_append c [] ys w v = v
without_append c (x ∷ xs) ys w v = (w.0, without_append c xs ys w.1 v)

-- ---- digits

without_by : (c : ℕ) (ds : Text) → AllDigits 10 ds → ((x : ℕ) → digit_value x < 10 → (x == c) ≡ false) → Without c ds
without_by c [] all other = tt
without_by c (d ∷ ds) all other = (other d all.0, without_by c ds all.1 other)

pub no_letter : (n : ℕ) → n < 2 ^ 64 → Without 69 (decimal n)
no_letter n lt = without_by 69 (decimal n) (decimal_is_IsNumeral n lt).0.1 (λ x d. let r = digit_from_value x d in ne_eqb x 69 (λ e. omega (arith, r.0, r.1)))

pub no_newline : (n : ℕ) → n < 2 ^ 64 → Without 10 (numbered n)
no_newline n lt = (refl, without_by 10 (decimal n) (decimal_is_IsNumeral n lt).0.1 (λ x d. let r = digit_from_value x d in ne_eqb x 10 (λ e. omega (arith, r.0, r.1))))

pub no_blank : (n : ℕ) → n < 2 ^ 64 → Without 32 (numbered n)
no_blank n lt = (refl, without_by 32 (decimal n) (decimal_is_IsNumeral n lt).0.1 (λ x d. let r = digit_from_value x d in ne_eqb x 32 (λ e. omega (arith, r.0, r.1))))

pub no_less : (n : ℕ) → n < 2 ^ 64 → Without 60 (numbered n)
no_less n lt = (refl, without_by 60 (decimal n) (decimal_is_IsNumeral n lt).0.1 (λ x d. let r = digit_from_value x d in ne_eqb x 60 (λ e. omega (arith, r.0, r.1))))

-- ---- the rest of a name

abbrev pub Lacks : ℕ → Option Text → Type 0
Lacks c None = ⊤
Lacks c (Some xs) = Without c xs

lacks_if : (c : ℕ) (t : Bool) (xs : Text) → Without c xs → Lacks c (if t then Some xs else None)
lacks_if c true xs w = w
lacks_if c false xs w = tt

pub lacks_more : (c b : ℕ) (r : Option Text) → Lacks c r → Lacks c (one_more b r)
lacks_more c b None w = tt
lacks_more c b (Some []) w = tt
lacks_more c b (Some (x ∷ xs)) w = lacks_if c (x == b) xs w.1

lacks_byte : (c : ℕ) (name : Text) → Without c name → (s : Sight) (b : ℕ) → Lacks c s.rest → (t : Bool) → Lacks c (if◌then◌else◌ {A = Sight} t (record { rest = Some name; found = s.found || is_whole s.rest }) (record { rest = one_more b s.rest; found = s.found })).rest
lacks_byte c name w s b k true = w
lacks_byte c name w s b k false = lacks_more c b s.rest k

-- what is still to come of a name has no byte that the name lacks
pub lacks : (c : ℕ) (name : Text) → Without c name → (s : Sight) (text : Text) → Lacks c s.rest → Lacks c (sight name s text).rest
unfolding sight
lacks c name w s [] k = k
lacks c name w s (b ∷ bs) k = lacks c name w (next_sight name s b) bs (lacks_byte c name w s b k (b == 10))

-- a byte that isn't of the name
pub breaks : (c : ℕ) (r : Option Text) → Lacks c r → one_more c r ≡ None
breaks c None w = refl
breaks c (Some []) w = refl
breaks c (Some (x ∷ xs)) w = rw w.0 refl

-- ---- where a line starts

-- the whole name is still to come, or no `E` is
abbrev pub Keeps : Text → Bool → Option Text → Type 0
Keeps ds true r = r ≡ Some (69 ∷ ds)
Keeps ds false r = Lacks 69 r

keeps_more : (ds : Text) → Without 69 ds → (start : Bool) (r : Option Text) (b : ℕ) → Keeps ds start r → Lacks 69 (one_more b r)
keeps_more ds w true r b k = rw k (lacks_if 69 (69 == b) ds w)
keeps_more ds w false r b k = lacks_more 69 b r k

keeps_byte : (ds : Text) → Without 69 ds → (start : Bool) (s : Sight) (b : ℕ) → Keeps ds start s.rest → (t : Bool) → Keeps ds t (if◌then◌else◌ {A = Sight} t (record { rest = Some (69 ∷ ds); found = s.found || is_whole s.rest }) (record { rest = one_more b s.rest; found = s.found })).rest
keeps_byte ds w start s b k true = refl
keeps_byte ds w start s b k false = keeps_more ds w start s.rest b k

pub keeps : (ds : Text) → Without 69 ds → (start : Bool) (s : Sight) (text : Text) → Keeps ds start s.rest → Keeps ds (ends_line_by start text) (sight (69 ∷ ds) s text).rest
unfolding sight
keeps ds w start s [] k = k
keeps ds w start s (b ∷ bs) k = keeps ds w (b == 10) (next_sight (69 ∷ ds) s b) bs (keeps_byte ds w start s b k (b == 10))

pub ends_append : (start : Bool) (xs ys : Text) → ends_line_by start (xs ++ ys) ≡ ends_line_by (ends_line_by start xs) ys
ends_append start [] ys = refl
ends_append start (x ∷ xs) ys = ends_append (x == 10) xs ys

-- ---- a line

-- what is left of a name behind bytes of a line
abbrev pub strip : Text → Option Text → Option Text
strip [] r = r
strip (b ∷ bs) r = strip bs (one_more b r)

pub strip_none : (xs : Text) → strip xs None ≡ None
strip_none [] = refl
strip_none (x ∷ xs) = strip_none xs

pub sight_line : (name : Text) (s : Sight) (xs : Text) → Without 10 xs → sight name s xs ≡ record { rest = strip xs s.rest; found = s.found }
unfolding sight
sight_line name s [] w = refl
sight_line name s (x ∷ xs) w = rw w.0 (sight_line name (record { rest = one_more x s.rest; found = s.found }) xs w.1)

-- a line and its end
pub sight_ended : (name : Text) (s : Sight) (xs : Text) → Without 10 xs → sight name s (xs ++ 10 ∷ []) ≡ record { rest = Some name; found = s.found || is_whole (strip xs s.rest) }
unfolding sight
sight_ended name s xs w = sight_append name s xs (10 ∷ []) ∙ ap (λ (t : Sight). sight name t (10 ∷ [])) (sight_line name s xs w)

strip_step : (xs ys : Text) (t : Bool) → is_whole (strip xs (if t then Some ys else None)) ≡ true → (t ≡ true) × (is_whole (strip xs (Some ys)) ≡ true)
strip_step xs ys true e = (refl, e)
strip_step xs ys false e = absurd (true≢false (sym e ∙ ap is_whole (strip_none xs)))

-- only the name itself is the line
pub strip_whole : (xs ys : Text) → is_whole (strip xs (Some ys)) ≡ true → xs ≡ ys
strip_whole [] [] e = refl
strip_whole [] (y ∷ ys) e = absurd cc
strip_whole (x ∷ xs) [] e = absurd (true≢false (sym e ∙ ap is_whole (strip_none xs)))
strip_whole (x ∷ xs) (y ∷ ys) e =
    let p = strip_step xs ys (y == x) e in
    ap₂ (λ (b : ℕ) (bs : Text). b ∷ bs) (sym (eqb-true y x p.0)) (strip_whole xs ys p.1)

pub strip_same : (xs : Text) → strip xs (Some xs) ≡ Some []
strip_same [] = refl
strip_same (x ∷ xs) = rw (eq-eqb x x refl) (strip_same xs)
