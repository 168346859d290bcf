-- What a byte of a delimiter does, as the grammar says it.
use Rattle.std.specs.Prelude.{ℕ, Bool, true, false, ◌||◌, [], ◌∷◌, ◌++◌, Option, Some, None}
use Rattle.bash_grammar.specs.Bytes.{Text}
use Rattle.bash_grammar.specs.Tokens.{◌>>=◌}
use Rattle.bash_grammar.specs.Bodies as bodies
use Rattle.bash_grammar.specs.Bodies.{delimiter_from, with_quote, with, unquoted, single, doubled, kept, kept_doubled, joined, joined_doubled}
use Rattle.bash_tokens.specs.declared.delimiters.Mode.{Mode}
use Rattle.bash_tokens.specs.declared.delimiters.Mode.TheVariants as modes
use Rattle.bash_tokens.specs.declared.delimiters.Turn.{Turn}
use Rattle.bash_tokens.specs.declared.delimiters.Turn.TheVariants.{Joins, Skips, Quotes, Keeps, KeepsBoth, Ends, Fails}
use Rattle.bash_tokens.specs.declared.delimiters.Delimiter.{Delimiter}

abbrev pub mode : Mode → bodies.Mode
mode modes.Bare = unquoted
mode modes.Single = single
mode modes.Double = doubled
mode modes.Kept = kept
mode modes.KeptDouble = kept_doubled
mode modes.Joined = joined
mode modes.JoinedDouble = joined_doubled

-- what the reading gives behind a byte, where the delimiter ended before these bytes so far
abbrev pub continued : Turn → Text → ℕ → Text → Option ((Text × Bool) × Text)
continued (Joins m) end b bs = delimiter_from (mode m) end bs
continued (Skips m) end b bs = delimiter_from (mode m) bs bs
continued (Quotes m) end b bs = with_quote (delimiter_from (mode m) bs bs)
continued (Keeps m) end b bs = with b (delimiter_from (mode m) bs bs)
continued (KeepsBoth m) end b bs = with 92 (with b (delimiter_from (mode m) bs bs))
continued Ends end b bs = Some (([], false), end)
continued Fails end b bs = None

abbrev pub ended : Mode → Bool
ended modes.Bare = true
ended modes.Single = false
ended modes.Double = false
ended modes.Kept = false
ended modes.KeptDouble = false
ended modes.Joined = false
ended modes.JoinedDouble = false

abbrev pub shown : Delimiter → Text → (Text × Bool) × Text
shown d rest = ((d.text, d.quoted), rest)

-- behind what was read before
abbrev pub joined_to : Text → Bool → Option ((Text × Bool) × Text) → Option ((Text × Bool) × Text)
joined_to text q x = x >>= λ y. Some ((text ++ y.0.0, q || y.0.1), y.1)
