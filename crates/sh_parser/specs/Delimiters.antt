-- What a byte of a delimiter does, as the grammar says it.
use Rattle.std.specs.Prelude.{ℕ, Bool, true, false, ◌||◌, [], ◌∷◌, ◌++◌, Option, Some, None}
use Rattle.sh_grammar.specs.Bytes.{Text}
use Rattle.sh_grammar.specs.Expansions.{◌>>=◌}
use Rattle.sh_grammar.specs.Bodies as bodies
use Rattle.sh_grammar.specs.Bodies.{delimiter_from, quoted, with, bare, single, doubled, kept, kept_doubled, joined, joined_doubled}
use Rattle.sh_parser.specs.declared.delimiters.Mode.{Mode}
use Rattle.sh_parser.specs.declared.delimiters.Mode.TheVariants as modes
use Rattle.sh_parser.specs.declared.delimiters.Turn.{Turn}
use Rattle.sh_parser.specs.declared.delimiters.Turn.TheVariants.{Skips, Quotes, Keeps, KeepsBoth, Ends, Fails}
use Rattle.sh_parser.specs.declared.delimiters.Delimiter.{Delimiter}

abbrev pub mode : Mode → bodies.Mode
mode modes.Bare = bare
mode modes.Single = single
mode modes.Double = doubled
mode modes.Kept = kept
mode modes.KeptDouble = kept_doubled
mode modes.Joined = joined
mode modes.JoinedDouble = joined_doubled

-- what the reading gives behind a byte
abbrev pub continued : Turn → ℕ → Text → Option ((Text × Bool) × Text)
continued (Skips m) b bs = delimiter_from (mode m) bs
continued (Quotes m) b bs = quoted (delimiter_from (mode m) bs)
continued (Keeps m) b bs = with b (delimiter_from (mode m) bs)
continued (KeepsBoth m) b bs = with 92 (with b (delimiter_from (mode m) bs))
continued Ends b bs = Some (([], false), b ∷ bs)
continued Fails b bs = None

abbrev pub ended : Mode → Bool
ended modes.Bare = true
ended modes.Single = false
ended modes.Double = false
ended modes.Kept = false
ended modes.KeptDouble = false
ended modes.Joined = false
ended modes.JoinedDouble = false

abbrev pub shown : Delimiter → Text → (Text × Bool) × Text
shown d rest = ((d.text, d.quoted), rest)

-- behind what was read before
abbrev pub joined_to : Text → Bool → Option ((Text × Bool) × Text) → Option ((Text × Bool) × Text)
joined_to text q x = x >>= λ y. Some ((text ++ y.0.0, q || y.0.1), y.1)
