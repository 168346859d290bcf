-- Words as they are written, byte by byte (3.1.2).
use Rattle.std.specs.Prelude.{ℕ, Bool, false, ◌==◌, ◌+◌, List, [], ◌∷◌, ◌++◌, map, length, if◌then◌else◌}
use Rattle.std.specs.List.{list_any}
use Rattle.span_text.specs.declared.span.Span.{Span}
use Rattle.bash_grammar.specs.Shape.{Name, Part, plain, exact, double, param, named, as_is, Parts, no_part, part, Word, word}

-- What a word is written with.
pub data Cell : Type 0 where
  -- an unquoted byte
  written : ℕ → Cell
  quoted : ℕ → Cell
  -- an expansion, or what is refused
  computed : Cell
  -- `$NAME`, unquoted and without braces, at this offset
  bare : ℕ → Cell
  quoted_computed : Cell

abbrev pub quoted_part_cells : Part → List Cell
quoted_part_cells (plain text) = map quoted text
quoted_part_cells (exact text) = map quoted text
quoted_part_cells p = quoted_computed ∷ []

abbrev pub quoted_cells : Parts → List Cell
quoted_cells no_part = []
quoted_cells (part p s ps) = quoted_part_cells p ++ quoted_cells ps

-- `$NAME` has one byte more than the name, and `${NAME}` three
abbrev name_cell : Name → Span → Cell
name_cell n s = if s.to == s.from + 1 + length n.text then bare s.from else computed

abbrev pub part_cells : Part → Span → List Cell
part_cells (plain text) s = map written text
part_cells (exact text) s = map quoted text
part_cells (double ps) s = quoted_cells ps
part_cells (param (named n) as_is) s = name_cell n s ∷ []
part_cells p s = computed ∷ []

abbrev pub cells : Parts → List Cell
cells no_part = []
cells (part p s ps) = part_cells p s ++ cells ps

abbrev pub parts_of_word : Word → Parts
parts_of_word (word ps s) = ps

abbrev pub word_cells : Word → List Cell
word_cells w = cells (parts_of_word w)

abbrev pub is_written : ℕ → Cell → Bool
is_written b (written c) = b == c
is_written b x = false

abbrev pub has_written : ℕ → List Cell → Bool
has_written b xs = list_any (is_written b) xs
