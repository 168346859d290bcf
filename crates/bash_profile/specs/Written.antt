-- What is refused of words as they are written: tildes, replacements, words of redirections and items of lists (3.5.1, 3.5.3, 3.6, 6.7).
-- In a part with joins the offset of a byte counts as if these weren't there.
use Rattle.std.specs.Prelude.{ℕ, suc, Bool, true, false, ◌&&◌, ◌||◌, not, ◌==◌, ◌+◌, List, [], ◌∷◌, ◌++◌, map, Option, Some, if◌then◌else◌}
use Rattle.span_text.specs.declared.span.Span.{Span}
use Rattle.span_text.specs.Names.{is_digit}
use Rattle.bash_grammar.specs.Bytes.{Text}
use Rattle.bash_grammar.specs.Shape.{RedirectOp, read, write, append, copy_in, copy_out, both_out, both_append, Part, plain, exact, double, tilde, param, Parts, no_part, part, Word, word, replace}
use Rattle.bash_profile.specs.Braces.{is_brace}
use Rattle.bash_profile.specs.Known.{place_if, word_from}
use Rattle.bash_profile.specs.Literals.{Cell, written, part_cells, word_cells, is_written, parts_of_word, closes, without_not}
use Rattle.bash_profile.specs.Sites.{Use, field, declaration, assigned, subject, target, here_body, operand, Site, part_site, word_site, redirect_site}

-- ---- bytes with their places

pub record Spot : Type 0 where
  pub cell : Cell
  pub from : ℕ

abbrev counted : ℕ → List Cell → List Spot
counted from [] = []
counted from (c ∷ cs) = record { cell = c; from = from } ∷ counted (suc from) cs

-- quotes are at their part's first byte
abbrev all_at : ℕ → List Cell → List Spot
all_at from [] = []
all_at from (c ∷ cs) = record { cell = c; from = from } ∷ all_at from cs

abbrev part_spots : Part → Span → List Spot
part_spots (plain text) s = counted s.from (map written text)
part_spots p s = all_at s.from (part_cells p s)

abbrev spots : Parts → List Spot
spots no_part = []
spots (part p s ps) = part_spots p s ++ spots ps

abbrev pub word_spots : Word → List Spot
word_spots w = spots (parts_of_word w)

abbrev pub cells_of : List Spot → List Cell
cells_of ss = map (λ s. s.cell) ss

abbrev pub is_at : ℕ → Spot → Bool
is_at b s = is_written b s.cell

-- ---- 24 tilde: a first `~` that isn't expanded, and one behind an unquoted `=` or `:` that isn't (3.5.2)

-- behind a `~` there is a `/` or the end
abbrev ends_tilde : List Spot → Bool
ends_tilde [] = true
ends_tilde (s ∷ ss) = is_at 47 s

abbrev is_declaration : Use → Bool
is_declaration declaration = true
is_declaration u = false

abbrev expands_tilde : Use → Bool
expands_tilde field = true
expands_tilde subject = true
expands_tilde target = true
expands_tilde assigned = true
expands_tilde u = false

-- tildes behind `=` and `:`; the first `=` of an operand `NAME=word` is that of an assignment
abbrev later_tildes : (declares : Bool) → List Spot → List ℕ
later_tildes declares [] = []
later_tildes declares (s ∷ []) = []
later_tildes declares (s ∷ t ∷ ss) =
    place_if ((is_at 61 s || is_at 58 s) && is_at 126 t && not (declares && is_at 61 s && ends_tilde ss)) t.from
    ++ later_tildes (declares && not (is_at 61 s)) (t ∷ ss)

abbrev first_tilde : Use → List Spot → List ℕ
first_tilde u [] = []
first_tilde u (s ∷ ss) = place_if (is_at 126 s && not (expands_tilde u && ends_tilde ss)) s.from

abbrev tilde_part_at : Use → Parts → List ℕ
tilde_part_at u (part tilde s ps) = place_if (not (expands_tilde u)) s.from
tilde_part_at u ps = []

abbrev tildes_in : Use → Word → List ℕ
tildes_in u w = tilde_part_at u (parts_of_word w) ++ (first_tilde u (word_spots w) ++ later_tildes (is_declaration u) (word_spots w))

-- the text of a here-document and what stands between double quotes have none
abbrev pub tilde_site : Site → List ℕ
tilde_site (word_site a here_body w v) = []
tilde_site (word_site a operand w v) = []
tilde_site (word_site a u w v) = if w.quoted then [] else tildes_in u v
tilde_site x = []

-- ---- 27 replacement: an empty written pattern; an unquoted `&`, or any backslash, written in a replacement (3.5.3)

abbrev is_empty : List Cell → Bool
is_empty [] = true
is_empty cs = false

-- one byte in a span of two is behind a backslash
abbrev is_backslashed : Text → Span → Bool
is_backslashed (b ∷ []) s = s.to == s.from + 2
is_backslashed text s = false

abbrev bytes_at : ℕ → ℕ → Text → List ℕ
bytes_at b from [] = []
bytes_at b from (c ∷ cs) = place_if (b == c) from ++ bytes_at b (suc from) cs

-- a backslash that quotes a byte, and those between single quotes
abbrev backslashes : Text → Span → List ℕ
backslashes text s = if is_backslashed text s then s.from ∷ [] else bytes_at 92 (suc s.from) text

abbrev quoted_part : Part → Span → List ℕ
quoted_part (plain text) s = bytes_at 92 s.from text
quoted_part (exact text) s = backslashes text s
quoted_part p s = []

abbrev between_double : Parts → List ℕ
between_double no_part = []
between_double (part p s ps) = quoted_part p s ++ between_double ps

abbrev replacing_part : Part → Span → List ℕ
replacing_part (plain text) s = bytes_at 38 s.from text ++ bytes_at 92 s.from text
replacing_part (exact text) s = backslashes text s
replacing_part (double ps) s = between_double ps
replacing_part p s = []

abbrev replacing : Parts → List ℕ
replacing no_part = []
replacing (part p s ps) = replacing_part p s ++ replacing ps

abbrev pub replacement_site : Site → List ℕ
replacement_site (part_site a w (param p (replace r x y)) s) = place_if (is_empty (word_cells x)) (word_from x) ++ replacing (parts_of_word y)
replacement_site x = []

-- ---- 30 redirect-word: another word of `<&` and `>&` than a digit or `-`; a pattern or a brace in a file's name

abbrev is_copied : Option Text → Bool
is_copied (Some (b ∷ [])) = is_digit b || b == 45
is_copied o = false

-- a word of one plain part, a digit or `-`
abbrev is_copy_word : Word → Bool
is_copy_word (word (part (plain text) s no_part) t) = is_copied (Some text)
is_copy_word w = false

abbrev active_from : List Spot → List ℕ
active_from [] = []
active_from (s ∷ ss) =
    place_if (is_at 42 s || is_at 63 s || (is_at 91 s && closes (without_not (cells_of ss))) || (is_at 123 s && is_brace (cells_of ss))) s.from
    ++ active_from ss

abbrev target_at : RedirectOp → Word → List ℕ
target_at copy_in w = place_if (not (is_copy_word w)) (word_from w)
target_at copy_out w = place_if (not (is_copy_word w)) (word_from w)
target_at read w = active_from (word_spots w)
target_at write w = active_from (word_spots w)
target_at append w = active_from (word_spots w)
target_at both_out w = active_from (word_spots w)
target_at both_append w = active_from (word_spots w)
target_at op w = []

abbrev pub redirect_word : Site → List ℕ
redirect_word (redirect_site fd op w s) = target_at op w
redirect_word x = []
