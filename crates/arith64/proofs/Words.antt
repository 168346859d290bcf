-- Words, which are names or constants.
use Rattle.std.proofs.Common.{◌≡◌, ℕ, ◌+◌, ◌-◌, ◌*◌, ◌<◌, ◌≤◌, Bool, true, false, List, [], ◌∷◌, ◌++◌, drop, Option, Some, None, refl, sym, ap, subst, ◌∙◌, nat_le, nat_lt, arith, append_assoc}
use Rattle.std.specs.Prelude.{◌==◌, if◌then◌else◌, ◌&&◌, ◌||◌, slice_index}
use Rattle.std.specs.List.{list_all}
use Rattle.std.specs.Char.{digit_value, is_digit}
use Rattle.std.proofs.lemmas.Bool.{eqb-true}
use Rattle.std.proofs.lemmas.Bool.Decides.{nat_tests}
use Rattle.span_text.specs.Constant.{number_of, unsigned_constant}
use Rattle.span_text.specs.Names as names
use Rattle.span_text.specs.Names.{is_name, begins_name, continues_name}
use Rattle.span_text.specs.ExprTokens.{greatest}
use Rattle.arith64.specs.declared.pending.Digits.{Digits}
use Rattle.arith64.specs.declared.pending.Digits.TheVariants.{Zero, Octal, Decimal, Hexadecimal}
use Rattle.arith64.specs.Digits.{with_digit, number_after}
use Rattle.arith64.specs.Parsing.{◌>>=◌}
use Rattle.arith64.specs.Reader.{as_octal, as_decimal, as_hexadecimal, first_digit, next_digit, value_of_digits}
use Rattle.arith64.proofs.Reading.{numbers_are}

other : (x y : Bool) → (x || y) ≡ true → x ≡ false → y ≡ true
other true y e f = absurd cc
other false y e f = e

pub is_digit_else : (b : ℕ) → continues_name b ≡ true → begins_name b ≡ false → names.is_digit b ≡ true
unfolding continues_name begins_name
is_digit_else b e f = other (names.is_letter b) (names.is_digit b) e f

-- ---- names

both_true : (x y : Bool) → x ≡ true → y ≡ true → (x && y) ≡ true
both_true x y e f = rw (e, f) refl

first_true : (x y : Bool) → (x && y) ≡ true → x ≡ true
first_true true y e = refl
first_true false y e = e

second_true : (x y : Bool) → (x && y) ≡ true → y ≡ true
second_true true y e = e
second_true false y e = absurd cc

all_more : (bs : List ℕ) (b : ℕ) → list_all continues_name bs ≡ true → continues_name b ≡ true → list_all continues_name (bs ++ b ∷ []) ≡ true
all_more [] b h e = both_true (continues_name b) true e refl
all_more (a ∷ bs) b h e = both_true (continues_name a) (list_all continues_name (bs ++ b ∷ [])) (first_true (continues_name a) (list_all continues_name bs) h) (all_more bs b (second_true (continues_name a) (list_all continues_name bs) h) e)

pub name_more : (w : List ℕ) (b : ℕ) → is_name w ≡ true → continues_name b ≡ true → is_name (w ++ b ∷ []) ≡ true
name_more [] b h e = absurd cc
name_more (a ∷ w) b h e = both_true (begins_name a) (list_all continues_name (w ++ b ∷ [])) (first_true (begins_name a) (list_all continues_name w) h) (all_more w b (second_true (begins_name a) (list_all continues_name w) h) e)

-- ---- constants

-- what digits come to, with more bytes behind them
abbrev pub after : Digits → List ℕ → Option ℕ
after d [] = value_of_digits d
after d (b ∷ bs) = next_digit d b >>= λ e. after e bs

octal_step : (o : Option ℕ) (bs : List ℕ) → ((n : ℕ) → after (Octal n) bs ≡ number_after greatest 8 (Some n) bs) → (as_octal o >>= λ e. after e bs) ≡ number_after greatest 8 o bs
octal_step None bs h = refl
octal_step (Some n) bs h = h n

decimal_step : (o : Option ℕ) (bs : List ℕ) → ((n : ℕ) → after (Decimal n) bs ≡ number_after greatest 10 (Some n) bs) → (as_decimal o >>= λ e. after e bs) ≡ number_after greatest 10 o bs
decimal_step None bs h = refl
decimal_step (Some n) bs h = h n

hexadecimal_step : (o : Option ℕ) (bs : List ℕ) → ((n : ℕ) → after (Hexadecimal (Some n)) bs ≡ number_after greatest 16 (Some n) bs) → (as_hexadecimal o >>= λ e. after e bs) ≡ number_after greatest 16 o bs
hexadecimal_step None bs h = refl
hexadecimal_step (Some n) bs h = h n

octal : (bs : List ℕ) (n : ℕ) → after (Octal n) bs ≡ number_after greatest 8 (Some n) bs
octal [] n = refl
octal (b ∷ bs) n = octal_step (with_digit greatest 8 n b) bs (octal bs)

decimal : (bs : List ℕ) (n : ℕ) → after (Decimal n) bs ≡ number_after greatest 10 (Some n) bs
decimal [] n = refl
decimal (b ∷ bs) n = decimal_step (with_digit greatest 10 n b) bs (decimal bs)

hexadecimal : (bs : List ℕ) (n : ℕ) → after (Hexadecimal (Some n)) bs ≡ number_after greatest 16 (Some n) bs
hexadecimal [] n = refl
hexadecimal (b ∷ bs) n = hexadecimal_step (with_digit greatest 16 n b) bs (hexadecimal bs)

hexadecimals : (bs : List ℕ) → number_of greatest 16 bs ≡ after (Hexadecimal None) bs
unfolding number_of
hexadecimals [] = refl
hexadecimals (b ∷ bs) = sym (numbers_are greatest 16 (b ∷ bs) (omega arith) (omega arith)) ∙ sym (hexadecimal_step (with_digit greatest 16 0 b) bs (hexadecimal bs))

octals : (c : ℕ) (cs : List ℕ) → number_of greatest 8 (48 ∷ c ∷ cs) ≡ (as_octal (with_digit greatest 8 0 c) >>= λ e. after e cs)
octals c cs = sym (numbers_are greatest 8 (48 ∷ c ∷ cs) (omega arith) (omega arith)) ∙ sym (octal_step (with_digit greatest 8 0 c) cs (octal cs))

zero_more : (c : ℕ) (cs : List ℕ) (t : Bool) → (c == 120 || c == 88) ≡ t →
    number_of greatest (if t then 16 else 8) (if t then cs else 48 ∷ c ∷ cs) ≡ ((if t then Some (Hexadecimal None) else as_octal (with_digit greatest 8 0 c)) >>= λ e. after e cs)
zero_more c cs true e = hexadecimals cs
zero_more c cs false e = octals c cs

zeros : (rest : List ℕ) → unsigned_constant greatest (48 ∷ rest) ≡ after Zero rest
unfolding number_of
zeros [] = refl
zeros (c ∷ cs) = zero_more c cs (c == 120 || c == 88) refl

is_at_most : (m k : ℕ) → nat_le m k ≡ true → m ≤ k
is_at_most m k e = grind (arith, nat_tests)

is_less : (m k : ℕ) → m < k → nat_lt m k ≡ true
is_less m k lt = grind (arith, nat_tests)

not_less : (m k : ℕ) → k ≤ m → nat_lt m k ≡ false
not_less m k le = grind (arith, nat_tests)

at_most : (m k : ℕ) → m ≤ k → nat_le m k ≡ true
at_most m k le = grind (arith, nat_tests)

digit_is : (b : ℕ) → 48 ≤ b → b ≤ 57 → digit_value b ≡ b - 48
digit_is b low high = rw (not_less b 48 low, is_less b 58 (omega arith)) refl

abbrev digit_at : ℕ → Option ℕ
digit_at v = if nat_lt v 10 && nat_le (0 * 10 + v) greatest then Some (0 * 10 + v) else None

one_digit : (v : ℕ) → v < 10 → digit_at v ≡ Some v
one_digit v lt = let same : 0 * 10 + v ≡ v = omega arith in rw (is_less v 10 lt, same, at_most v greatest (omega arith)) refl

value_at : (b : ℕ) → 48 ≤ b → b ≤ 57 → with_digit greatest 10 0 b ≡ Some (b - 48)
value_at b low high = ap digit_at (digit_is b low high) ∙ one_digit (b - 48) (omega arith)

value_is : (b : ℕ) → names.is_digit b ≡ true → with_digit greatest 10 0 b ≡ Some (b - 48)
value_is b e = value_at b (is_at_most 48 b (first_true (nat_le 48 b) (nat_le b 57) e)) (is_at_most b 57 (second_true (nat_le 48 b) (nat_le b 57) e))

decimal_at : (b : ℕ) (rest : List ℕ) (t u : Bool) → t ≡ false → number_of greatest (if t && u then 16 else (if t then 8 else 10)) (if t && u then drop 2 (b ∷ rest) else b ∷ rest) ≡ number_of greatest 10 (b ∷ rest)
decimal_at b rest true u e = absurd cc
decimal_at b rest false u e = refl

decimals : (b : ℕ) (rest : List ℕ) → names.is_digit b ≡ true → (b == 48) ≡ false → unsigned_constant greatest (b ∷ rest) ≡ after (Decimal (b - 48)) rest
decimals b rest e f =
    decimal_at b rest (b == 48) (slice_index (b ∷ rest) 1 == 120 || slice_index (b ∷ rest) 1 == 88) f
    ∙ sym (numbers_are greatest 10 (b ∷ rest) (omega arith) (omega arith))
    ∙ ap (λ (o : Option ℕ). number_after greatest 10 o rest) (value_is b e)
    ∙ sym (decimal rest (b - 48))

first_is : (b : ℕ) (rest : List ℕ) (t : Bool) → (b == 48) ≡ t → names.is_digit b ≡ true → unsigned_constant greatest (b ∷ rest) ≡ after (if t then Zero else Decimal (b - 48)) rest
first_is b rest true e h = subst (λ (k : ℕ). unsigned_constant greatest (k ∷ rest) ≡ after Zero rest) (sym (eqb-true _ _ e)) (zeros rest)
first_is b rest false e h = decimals b rest h e

-- the digits are those of the word, whatever follows it
abbrev pub IsNumber : List ℕ → Digits → Type 0
IsNumber w d = (rest : List ℕ) → unsigned_constant greatest (w ++ rest) ≡ after d rest

pub number_first : (b : ℕ) → names.is_digit b ≡ true → IsNumber (b ∷ []) (first_digit b)
number_first b h = λ rest. first_is b rest (b == 48) refl h

pub number_more : (w : List ℕ) (b : ℕ) (d e : Digits) → IsNumber w d → next_digit d b ≡ Some e → IsNumber (w ++ b ∷ []) e
number_more w b d e h next = λ rest. ap (unsigned_constant greatest) (append_assoc w (b ∷ []) rest) ∙ h (b ∷ rest) ∙ ap (λ (o : Option Digits). o >>= λ x. after x rest) next

pub number_none : (w : List ℕ) (b : ℕ) (d : Digits) → IsNumber w d → next_digit d b ≡ None → (rest : List ℕ) → unsigned_constant greatest ((w ++ b ∷ []) ++ rest) ≡ None
number_none w b d h next rest = ap (unsigned_constant greatest) (append_assoc w (b ∷ []) rest) ∙ h (b ∷ rest) ∙ ap (λ (o : Option Digits). o >>= λ x. after x rest) next

-- ---- the value of digits isn't too much

abbrev pub Small : Option ℕ → Type 0
Small None = Unit {0}
Small (Some n) = nat_le n greatest ≡ true

abbrev pub SmallDigits : Option Digits → Type 0
SmallDigits None = Unit {0}
SmallDigits (Some d) = Small (value_of_digits d)

small_digit : (radix n b : ℕ) → Small (with_digit greatest radix n b)
small_digit radix n b = if_small (is_digit b radix) (n * radix + digit_value b)
  where
    if_small : (t : Bool) (k : ℕ) → Small (if t && nat_le k greatest then Some k else None)
    if_small true k = at (nat_le k greatest) refl
      where
        at : (u : Bool) → nat_le k greatest ≡ u → Small (if u then Some k else None)
        at true e = e
        at false e = tt
    if_small false k = tt

octal_small : (o : Option ℕ) → Small o → SmallDigits (as_octal o)
octal_small None h = tt
octal_small (Some n) h = h

decimal_small : (o : Option ℕ) → Small o → SmallDigits (as_decimal o)
decimal_small None h = tt
decimal_small (Some n) h = h

hexadecimal_small : (o : Option ℕ) → Small o → SmallDigits (as_hexadecimal o)
hexadecimal_small None h = tt
hexadecimal_small (Some n) h = h

zero_small : (t : Bool) (o : Option ℕ) → Small o → SmallDigits (if t then Some (Hexadecimal None) else as_octal o)
zero_small true o h = tt
zero_small false o h = octal_small o h

pub next_small : (d : Digits) (b : ℕ) → SmallDigits (next_digit d b)
next_small Zero b = zero_small (b == 120 || b == 88) (with_digit greatest 8 0 b) (small_digit 8 0 b)
next_small (Octal n) b = octal_small (with_digit greatest 8 n b) (small_digit 8 n b)
next_small (Decimal n) b = decimal_small (with_digit greatest 10 n b) (small_digit 10 n b)
next_small (Hexadecimal None) b = hexadecimal_small (with_digit greatest 16 0 b) (small_digit 16 0 b)
next_small (Hexadecimal (Some n)) b = hexadecimal_small (with_digit greatest 16 n b) (small_digit 16 n b)

pub first_small : (b : ℕ) → names.is_digit b ≡ true → Small (value_of_digits (first_digit b))
first_small b h = at (b == 48) (is_at_most b 57 (second_true (nat_le 48 b) (nat_le b 57) h))
  where
    at : (t : Bool) → b ≤ 57 → Small (value_of_digits (if t then Zero else Decimal (b - 48)))
    at true le = refl
    at false le = at_most (b - 48) greatest (omega arith)
