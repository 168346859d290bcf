-- The shortest and the longest front or end of a text that matches.
use Rattle.std.specs.Prelude.{ℕ, zero, suc, ◌-◌, Bool, if◌then◌else◌, List, length, take, drop, Option, Some, None}
use Rattle.glob_pattern.specs.declared.piece.Piece.{Piece}
use Rattle.glob_pattern.specs.Pieces.{matches}

-- this number, or the other where there is none
abbrev pub or_else : Option ℕ → Option ℕ → Option ℕ
or_else (Some n) other = Some n
or_else None other = other

abbrev pub passing : (ℕ → Bool) → ℕ → Option ℕ
passing test n = if test n then Some n else None

-- the least of the numbers from 0 to n that passes
abbrev pub least : (ℕ → Bool) → ℕ → Option ℕ
least test zero = passing test zero
least test (suc n) = or_else (least test n) (passing test (suc n))

-- the greatest of them
abbrev pub greatest : (ℕ → Bool) → ℕ → Option ℕ
greatest test zero = passing test zero
greatest test (suc n) = or_else (passing test (suc n)) (greatest test n)

-- whether the front of this length matches, and the end of this length
abbrev pub front_matches : List Piece → List ℕ → ℕ → Bool
front_matches pieces text n = matches pieces (take n text)

abbrev pub end_matches : List Piece → List ℕ → ℕ → Bool
end_matches pieces text n = matches pieces (drop (length text - n) text)
