-- What reading a text piece by piece answers.
use Rattle.std.specs.Prelude.{ℕ, List, Option, Some}
use Rattle.sh_grammar.specs.Bytes.{Text}
use Rattle.sh_grammar.specs.Expansions.{◌>>=◌}
use Rattle.sh_grammar.specs.State.{Node, start_at}
use Rattle.sh_grammar.specs.Pieces.{next_piece}
use Rattle.sh_parser.specs.declared.fault.ReadFault.{ReadFault}
use Rattle.sh_parser.specs.declared.fault.ReadFault.TheVariants as faults

-- the nodes of the next piece, and the bytes behind it
abbrev pub next_at : Text → Option (List Node × Text)
next_at bytes = next_piece (start_at 0 bytes) >>= λ x. Some (x.0, x.1.bytes)

-- what holds of the place of a text that isn't read
abbrev pub IfUnreadable : ReadFault → (ℕ → Type 0) → Type 0
IfUnreadable (faults.Unreadable at) P = P at
IfUnreadable faults.Memory P = Unit {0}
