-- What the code finds in quotes, as the grammar says it.
use Rattle.std.specs.Prelude.{ℕ, List, ◌++◌, Option, Some, None}
use Rattle.bash_grammar.specs.Bytes.{Text}
use Rattle.bash_grammar.specs.Quotes as quotes
use Rattle.bash_grammar.specs.Quotes.{◌>>=◌, says, is_bad, or_next}
use Rattle.bash_tokens.specs.declared.quotes.Ansi.{Ansi}

abbrev pub ansi_of : Ansi → quotes.Ansi
ansi_of a = record { text = a.text; bad = a.bad; rest = a.rest.now }

-- what an escape says, if it is one, in front of what follows it
abbrev pub escaped : ℕ → Option ℕ → Option quotes.Ansi → Option quotes.Ansi
escaped at (Some b) x = says b x
escaped at None x = is_bad at x

abbrev pub first_of : Option ℕ → ℕ → ℕ
first_of (Some x) y = x
first_of None y = y

-- behind what was read before
abbrev pub joined_to : Text → Option ℕ → Option quotes.Ansi → Option quotes.Ansi
joined_to text bad x = x >>= λ a. Some (record { text = text ++ a.text; bad = or_next bad a.bad; rest = a.rest })

abbrev pub quoted_to : Text → Option (Text × Text) → Option (Text × Text)
quoted_to text x = x >>= λ y. Some (text ++ y.0, y.1)
