-- A text read piece by piece.
use Rattle.std.specs.Prelude.{ℕ, zero, suc, Bool, true, false, List, [], ◌∷◌, ◌++◌, length, Option, Some, None, if◌then◌else◌}
use Rattle.text_grammar.specs.Grammar.{rule}
use Rattle.text_grammar.specs.Later.{next_with}
use Rattle.text_grammar.specs.Place.{front}
use Rattle.bash_grammar.specs.Bytes.{Text, gap}
use Rattle.bash_grammar.specs.Tokens.{◌>>=◌}
use Rattle.bash_grammar.specs.State.{State, fresh}
use Rattle.bash_grammar.specs.Nodes.{Node}
use Rattle.bash_grammar.specs.Table.{piece, line_piece}
use Rattle.bash_grammar.specs.Spelling.{bash_with}

abbrev pub is_empty : Text → Bool
is_empty [] = true
is_empty (b ∷ bs) = false

-- the next piece: read once to find its bodies, and once with them
unfoldable pub next_piece : State → Option (List Node × State)
next_piece s = next_with bash_with (λ (e : State). e.found) [] fresh (rule piece) s

unfoldable pub next_line : State → Option (List Node × State)
next_line s = next_with bash_with (λ (e : State). e.found) [] fresh (rule line_piece) s

-- the nodes of all pieces up to the end of the text, in at most so many pieces
unfoldable pub nodes_in : ℕ → State → Option (List Node)
nodes_in zero s = None
nodes_in (suc n) s = if is_empty (gap s.bytes) then Some [] else next_piece s >>= λ x. nodes_in n x.1 >>= λ ns. Some (x.0 ++ ns)

unfoldable pub nodes_from : State → Option (List Node)
nodes_from s = nodes_in (suc (length s.bytes)) s

-- where the last piece that reads ends
unfoldable pub stop_from : State → State
stop_from s = front (λ (e : State). length e.bytes) next_piece s
