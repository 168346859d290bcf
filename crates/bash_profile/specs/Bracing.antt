-- What is refused of braces (3.5.1).
use Rattle.std.specs.Prelude.{ℕ, Bool, true, false, ◌&&◌, ◌||◌, nat_lt, nat_le, ◌-◌, List, [], ◌∷◌, ◌++◌, flat_map, length, if◌then◌else◌}
use Rattle.span_text.specs.Names.{is_letter, is_digit}
use Rattle.bash_grammar.specs.Shape.{Word, word}
use Rattle.bash_profile.specs.Braces.{brace_words, is_brace, is_bad_brace}
use Rattle.bash_profile.specs.Known.{Known, place_if, is_keyed, word_from}
use Rattle.bash_profile.specs.Literals.{Cell, written, bare, word_cells, parts_of_word}
use Rattle.bash_profile.specs.Sites.{Around, Use, field, list_item, declaration, Within, Site, word_site, parts_sites}
use Rattle.bash_profile.specs.Written.{Spot, is_at, cells_of, word_spots}

-- words whose braces are expanded: those of commands and of `for`, and items without a subscript
abbrev is_expanded : Use → Bool
is_expanded field = true
is_expanded list_item = true
is_expanded u = false

abbrev word_count : Word → ℕ
word_count w = length (brace_words (word_cells w))

-- a word that gives two words or more
abbrev is_several : Word → Bool
is_several w = nat_le 2 (word_count w)

-- ---- 28 brace-form

-- a sequence that is none, and one that is padded and has a minus
abbrev bad_braces : List Spot → List ℕ
bad_braces [] = []
bad_braces (s ∷ ss) = place_if (is_at 123 s && is_bad_brace (cells_of ss)) s.from ++ bad_braces ss

abbrev first_brace : List Spot → List ℕ
first_brace [] = []
first_brace (s ∷ ss) = if is_at 123 s && is_brace (cells_of ss) then s.from ∷ [] else first_brace ss

-- another such word in a substitution of this one
abbrev inner_at : Site → List ℕ
inner_at (word_site a u w v) = place_if (is_expanded u && is_several v) (word_from v)
inner_at x = []

abbrev goes_on : ℕ → Bool
goes_on b = is_letter b || is_digit b

-- `$NAME` before a byte of names
abbrev lengthened : List Cell → List ℕ
lengthened (bare from ∷ written b ∷ xs) = place_if (goes_on b) from ++ lengthened (written b ∷ xs)
lengthened (x ∷ xs) = lengthened xs
lengthened [] = []

-- a `$` that stands for itself
abbrev dollars : List Spot → List ℕ
dollars [] = []
dollars (s ∷ ss) = place_if (is_at 36 s) s.from ++ dollars ss

abbrev several_at : Known → Around → Within → Word → List ℕ
several_at k a w v =
    flat_map inner_at (parts_sites (is_keyed k) a w (parts_of_word v))
    ++ (flat_map lengthened (brace_words (word_cells v)) ++ dollars (word_spots v))

abbrev form_at : Known → Around → Use → Within → Word → List ℕ
form_at k a declaration w v = bad_braces (word_spots v) ++ (if is_several v then first_brace (word_spots v) else [])
form_at k a u w v =
    if is_expanded u then bad_braces (word_spots v) ++ (if is_several v then several_at k a w v else []) else []

abbrev pub brace_form : Known → Site → List ℕ
brace_form k (word_site a u w v) = form_at k a u w v
brace_form k x = []

-- ---- 29 brace-limit: more than 4,096 words of a word or more than 1,024 bytes of it, and more than 65,536 words of all words

abbrev byte_count : Word → ℕ
byte_count (word ps s) = s.to - s.from

abbrev is_past : (left : ℕ) → Word → Bool
is_past left v = nat_lt 4096 (word_count v) || nat_lt left (word_count v) || nat_lt 1024 (byte_count v)

-- in the order of the words, where so many words are left; one that is refused isn't counted
abbrev limits_from : ℕ → List Site → List ℕ
limits_from left [] = []
limits_from left (word_site a u w v ∷ xs) =
    if is_expanded u && is_several v
    then (if is_past left v then word_from v ∷ limits_from left xs else limits_from (left - word_count v) xs)
    else limits_from left xs
limits_from left (x ∷ xs) = limits_from left xs

abbrev pub brace_limit : List Site → List ℕ
brace_limit xs = limits_from 65536 xs
