-- Lines and columns, both from 1; columns are counted in bytes.
use Rattle.std.specs.Prelude.{ℕ, ◌+◌, ◌==◌, List, length, take, count_by}
use Rattle.std.specs.List.{after_last}

-- one more than the newlines before the offset
abbrev pub line_of : List ℕ → ℕ → ℕ
line_of text at = 1 + count_by (λ b. b == 10) (take at text)

-- one more than the bytes between the last newline before the offset, or the start, and the offset
abbrev pub column_of : List ℕ → ℕ → ℕ
column_of text at = 1 + length (after_last (λ b. b == 10) (take at text))
