-- What texts are worked out for: the first of what is refused of each.
use Rattle.std.specs.Prelude.{ℕ, Option, Some, None}
use Rattle.bash_grammar.specs.Bytes.{Text}
use Rattle.bash_grammar.specs.Nodes.{chains_in}
use Rattle.bash_grammar.specs.Pieces.{nodes_from}
use Rattle.bash_grammar.specs.State.{start_at}
use Rattle.bash_grammar.specs.Tokens.{◌>>=◌}
use Rattle.bash_profile.specs.Refusals.{Refusal, first_refusal}

-- the first refusal of a text, where it reads
abbrev pub first : Text → Option (Option Refusal)
first text = nodes_from (start_at text) >>= λ ns. Some (first_refusal (chains_in ns))

abbrev pub none : Option Refusal
none = None

-- refused with this number, at this offset
abbrev pub no : ℕ → ℕ → Option Refusal
no number from = Some (record { from = from; number = number })

-- a text, and its first refusal
abbrev pub Row : Type 0
Row = Text × Option Refusal
