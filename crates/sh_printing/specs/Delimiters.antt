-- The delimiter of a printed here-document (POSIX 2.7.4).
use Rattle.std.specs.Prelude.{ℕ, zero, suc, ◌+◌, ◌-◌, ◌^◌, Bool, true, false, ◌||◌, ◌==◌, [], ◌∷◌, Option, Some, None, if◌then◌else◌}
use Rattle.std.specs.Fmt.{decimal}
use Rattle.sh_grammar.specs.Bytes.{Text}

-- What of a name is still to come on a line that is the same so far, and whether an earlier line was the name.
pub record Sight : Type 0 where
  pub rest : Option Text
  pub found : Bool

abbrev pub is_whole : Option Text → Bool
is_whole None = false
is_whole (Some []) = true
is_whole (Some (c ∷ cs)) = false

abbrev pub one_more : ℕ → Option Text → Option Text
one_more b None = None
one_more b (Some []) = None
one_more b (Some (c ∷ cs)) = if c == b then Some cs else None

abbrev pub goes_on : ℕ → Option Text → Bool
goes_on b None = false
goes_on b (Some []) = false
goes_on b (Some (c ∷ cs)) = c == b

abbrev pub next_sight : Text → Sight → ℕ → Sight
next_sight name s b = if b == 10 then record { rest = Some name; found = s.found || is_whole s.rest } else record { rest = one_more b s.rest; found = s.found }

unfoldable pub sight : Text → Sight → Text → Sight
sight name s [] = s
sight name s (b ∷ bs) = sight name (next_sight name s b) bs

abbrev pub first_sight : Text → Sight
first_sight name = record { rest = Some name; found = false }

abbrev pub has_found : Sight → Bool
has_found s = s.found || is_whole s.rest

-- a line of the text is the name
abbrev pub has_line : Text → Text → Bool
has_line name text = has_found (sight name (first_sight name) text)

-- `E` and a number
abbrev pub numbered : ℕ → Text
numbered n = 69 ∷ decimal n

-- the least number from n on, of so many, whose delimiter is no line of the text, or else the number behind them
unfoldable pub free_from : ℕ → ℕ → Text → ℕ
free_from zero n text = n
free_from (suc more) n text = if has_line (numbered n) text then free_from more (n + 1) text else n

-- how many numbers are tried: more than a text has lines
abbrev pub tries : ℕ
tries = 2 ^ 64 - 1

-- `E` and the least number from 0 such that no line of the body is it
unfoldable pub delimiter : Text → Text
delimiter body = numbered (free_from tries 0 body)
