-- Brace expansion, on words as they are written (3.5.1).
use Rattle.std.specs.Prelude.{ℕ, zero, suc, Bool, true, false, ◌&&◌, ◌||◌, not, ◌==◌, nat_lt, nat_le, ◌+◌, ◌-◌, ◌*◌, ◌/◌, ◌^◌, ℤ, pos, ◌+ℤ◌, ◌-ℤ◌, neg_ℤ, nat_abs, int_le, max, List, [], ◌∷◌, ◌++◌, map, flat_map, length, replicate, decimal, Option, Some, None, is_some, option_map, if◌then◌else◌}
use Rattle.std.specs.List.{list_all}
use Rattle.span_text.specs.Names.{is_digit}
use Rattle.bash_grammar.specs.Bytes.{Text}
use Rattle.bash_grammar.specs.Tokens.{◌>>=◌}
use Rattle.bash_profile.specs.Cells.{Cell, written, is_written}

-- ---- sequences, as `1..10`, `a..e`, `01..10..2`

-- a number by its text
pub record Whole : Type 0 where
  pub number : ℤ
  pub width : ℕ
  -- a `0` stands before another digit
  pub padded : Bool
  pub negative : Bool

abbrev number_from : ℕ → Text → ℕ
number_from n [] = n
number_from n (b ∷ bs) = number_from (n * 10 + (b - 48)) bs

abbrev all_digits : Text → Bool
all_digits [] = false
all_digits (b ∷ bs) = list_all is_digit (b ∷ bs)

abbrev is_padded : Text → Bool
is_padded (b ∷ c ∷ bs) = b == 48
is_padded bs = false

-- in the range of 64 bits
abbrev fits : Bool → ℕ → Bool
fits true n = nat_le n (2 ^ 63)
fits false n = nat_lt n (2 ^ 63)

abbrev signed : Bool → ℕ → ℤ
signed true n = neg_ℤ (pos n)
signed false n = pos n

abbrev whole_from : Bool → ℕ → Text → Option Whole
whole_from negative signs ds =
    if all_digits ds && fits negative (number_from 0 ds)
    then Some (record { number = signed negative (number_from 0 ds); width = signs + length ds; padded = is_padded ds; negative = negative })
    else None

abbrev whole_of : Text → Option Whole
whole_of [] = None
whole_of (b ∷ bs) = if b == 45 then whole_from true 1 bs else (if b == 43 then whole_from false 1 bs else whole_from false 0 (b ∷ bs))

-- numbers from the first on, each a step further
abbrev numbers : (up : Bool) → ℤ → ℕ → ℕ → List ℤ
numbers up x step zero = []
numbers up x step (suc n) = x ∷ numbers up (if up then x +ℤ pos step else x -ℤ pos step) step n

abbrev numbers_to : ℤ → ℤ → ℕ → List ℤ
numbers_to x y step = numbers (int_le x y) x step (suc (nat_abs (y -ℤ x) / step))

-- in so many places at least, with zeros in front
abbrev padded_text : ℕ → ℤ → Text
padded_text width x =
    if int_le (pos 0) x then replicate (width - length (decimal (nat_abs x))) 48 ++ decimal (nat_abs x)
    else 45 ∷ (replicate (width - suc (length (decimal (nat_abs x)))) 48 ++ decimal (nat_abs x))

abbrev width_of : Whole → Whole → ℕ
width_of a b = if a.padded || b.padded then max a.width b.width else 0

abbrev wholes : ℕ → Option Whole → Option Whole → Option (List Text)
wholes step (Some a) (Some b) = Some (map (padded_text (width_of a b)) (numbers_to a.number b.number step))
wholes step a b = None

abbrev is_lower : ℕ → Bool
is_lower b = nat_le 97 b && nat_le b 122

abbrev is_upper : ℕ → Bool
is_upper b = nat_le 65 b && nat_le b 90

abbrev letters : ℕ → Text → Text → Option (List Text)
letters step (a ∷ []) (b ∷ []) =
    if (is_lower a && is_lower b) || (is_upper a && is_upper b) then Some (map (λ x. nat_abs x ∷ []) (numbers_to (pos a) (pos b) step)) else None
letters step a b = None

abbrev or_texts : Option (List Text) → Option (List Text) → Option (List Text)
or_texts None o = o
or_texts (Some ts) o = Some ts

abbrev between : ℕ → Text → Text → Option (List Text)
between step a b = or_texts (wholes step (whole_of a) (whole_of b)) (letters step a b)

abbrev step_of : Text → Option ℕ
step_of ds = if all_digits ds && nat_lt 0 (number_from 0 ds) && fits false (number_from 0 ds) then Some (number_from 0 ds) else None

-- the pieces around each `..`
abbrev pieces_from : Text → Text → List Text
pieces_from now [] = now ∷ []
pieces_from now (b ∷ []) = (now ++ b ∷ []) ∷ []
pieces_from now (b ∷ c ∷ bs) = if b == 46 && c == 46 then now ∷ pieces_from [] bs else pieces_from (now ++ b ∷ []) (c ∷ bs)

abbrev pub pieces_of : Text → List Text
pieces_of text = pieces_from [] text

-- the texts of a sequence, if these pieces are one
abbrev pub sequence : List Text → Option (List Text)
sequence (a ∷ b ∷ []) = between 1 a b
sequence (a ∷ b ∷ s ∷ []) = step_of s >>= λ step. between step a b
sequence ps = None

abbrev is_negative_padded : Option Whole → Option Whole → Bool
is_negative_padded (Some a) (Some b) = (a.padded || b.padded) && (a.negative || b.negative)
is_negative_padded a b = false

-- a sequence that is padded and has a minus
abbrev pub is_odd : List Text → Bool
is_odd (a ∷ b ∷ ps) = is_negative_padded (whole_of a) (whole_of b)
is_odd ps = false

-- ---- braces

-- the unquoted bytes, where nothing else is there
abbrev pub all_written : List Cell → Option Text
all_written [] = Some []
all_written (written b ∷ xs) = option_map (λ text. b ∷ text) (all_written xs)
all_written (x ∷ xs) = None

-- what a `{` opens: the parts between its commas, and what is behind its `}`
pub record Opened : Type 0 where
  pub parts : List (List Cell)
  pub behind : List Cell

-- the braces that are open in it, the part so far, and those before it
abbrev opened_from : ℕ → List Cell → List (List Cell) → List Cell → Option Opened
opened_from d now parts [] = None
opened_from zero now parts (x ∷ xs) =
    if is_written 125 x then Some (record { parts = parts ++ now ∷ []; behind = xs })
    else (if is_written 44 x then opened_from zero [] (parts ++ now ∷ []) xs
    else (if is_written 123 x then opened_from 1 (now ++ x ∷ []) parts xs else opened_from zero (now ++ x ∷ []) parts xs))
opened_from (suc d) now parts (x ∷ xs) =
    if is_written 125 x then opened_from d (now ++ x ∷ []) parts xs
    else (if is_written 123 x then opened_from (suc (suc d)) (now ++ x ∷ []) parts xs else opened_from (suc d) (now ++ x ∷ []) parts xs)

abbrev pub opened : List Cell → Option Opened
opened xs = opened_from zero [] [] xs

-- the texts of a part without commas that is a sequence
abbrev texts_of : List Cell → Option (List Text)
texts_of xs = all_written xs >>= λ text. sequence (pieces_of text)

-- the alternatives that a `{` gives, and what is behind it
abbrev alternatives : List (List Cell) → Option (List (List Cell))
alternatives [] = None
alternatives (p ∷ []) = option_map (map (map written)) (texts_of p)
alternatives ps = Some ps

abbrev pub expanding : Option Opened → Option (List (List Cell) × List Cell)
expanding None = None
expanding (Some o) = option_map (λ ps. (ps, o.behind)) (alternatives o.parts)

-- each of the first before each of the second
abbrev joined : List (List Cell) → List (List Cell) → List (List Cell)
joined xs ys = flat_map (λ x. map (λ y. x ++ y) ys) xs

-- the words that a byte and what is behind it give, where the byte opens these or none; by the words of what is shorter
abbrev words_by : (shorter : List Cell → List (List Cell)) → Cell → List Cell → Option (List (List Cell) × List Cell) → List (List Cell)
words_by shorter x xs None = map (λ w. x ∷ w) (shorter xs)
words_by shorter x xs (Some o) = joined (flat_map shorter o.0) (shorter o.1)

-- the words that a word gives, in at most so many rounds
abbrev words_in : ℕ → List Cell → List (List Cell)
words_in zero xs = xs ∷ []
words_in (suc n) [] = [] ∷ []
words_in (suc n) (x ∷ xs) = if is_written 123 x then words_by (words_in n) x xs (expanding (opened xs)) else map (λ w. x ∷ w) (words_in n xs)

-- THE WORDS that a word gives
unfoldable pub brace_words : List Cell → List (List Cell)
brace_words xs = words_in (suc (length xs)) xs

-- behind a `{`: whether it is expanded
abbrev pub is_brace : List Cell → Bool
is_brace xs = is_some (expanding (opened xs))

abbrev pub has_brace : List Cell → Bool
has_brace [] = false
has_brace (x ∷ xs) = (is_written 123 x && is_brace xs) || has_brace xs

-- behind a `{`: whether what is written is meant as a sequence and is none, or is padded and has a minus
abbrev is_something : Text → Bool
is_something [] = false
is_something (b ∷ bs) = true

abbrev has_several : List Text → Bool
has_several (a ∷ b ∷ ps) = true
has_several ps = false

abbrev is_plain_byte : ℕ → Bool
is_plain_byte b = not (b == 123 || b == 125 || b == 44)

abbrev is_bad_sequence : List Text → Bool
is_bad_sequence ps = has_several ps && list_all is_something ps && (not (is_some (sequence ps)) || is_odd ps)

abbrev is_bad_text : Option Text → Bool
is_bad_text None = false
is_bad_text (Some text) = list_all is_plain_byte text && is_bad_sequence (pieces_of text)

abbrev is_bad_part : List (List Cell) → Bool
is_bad_part (p ∷ []) = is_bad_text (all_written p)
is_bad_part ps = false

abbrev is_bad_opened : Option Opened → Bool
is_bad_opened None = false
is_bad_opened (Some o) = is_bad_part o.parts

abbrev pub is_bad_brace : List Cell → Bool
is_bad_brace xs = is_bad_opened (opened xs)
