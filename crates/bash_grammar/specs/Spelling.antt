-- Which text spells which script.
use Rattle.std.specs.Prelude.{◌≡◌, ℕ, zero, suc, List, [], ◌∷◌, ◌++◌, length, Option, Some, None}
use Rattle.text_grammar.specs.Grammar.{rule}
use Rattle.text_grammar.specs.Language.{Language}
use Rattle.text_grammar.specs.Derivations.{Tree}
use Rattle.text_grammar.specs.Values.{kids, vals}
use Rattle.text_grammar.specs.Later.{PieceWith}
use Rattle.text_grammar.specs.Place.{FrontAt, IsPlace}
use Rattle.bash_grammar.specs.Shape.{Word, Script}
use Rattle.bash_grammar.specs.Bytes.{Text, in_word, gap, idle}
use Rattle.bash_grammar.specs.Tokens.{◌>>=◌}
use Rattle.bash_grammar.specs.State.{State, Found, start_at, start_in, fresh, ahead}
use Rattle.bash_grammar.specs.Nodes.{Node, nowhere, word_in, chains_in}
use Rattle.bash_grammar.specs.Moves.{Step, Test}
use Rattle.bash_grammar.specs.Table.{Rule, piece, line_piece, subscript, body_parts, body}
use Rattle.bash_grammar.specs.Steps.{Scan, Known, limit, run_step}
use Rattle.bash_grammar.specs.Tests.{holds}
use Rattle.bash_grammar.specs.Acts.{act}
use Rattle.bash_grammar.specs.Depths.{ranks}

abbrev pub Lang : Type 0
Lang = Language State Step Test Rule Node

-- Bash, where so much is known
abbrev pub knowing : Known → Lang
knowing k = record { run_step = run_step k; holds = holds k.scan; body = body; act = act; size = ahead; ranks = ranks }

abbrev pub no_word : ℕ → Found → Option Word
no_word depth f = None

abbrev pub no_scan : Scan
no_scan s = None

-- a body, by a language for each of the bodies in it
abbrev pub expanded_by : (List Found → Lang) → ℕ → Found → Option Word
expanded_by l depth f = vals (l []) (rule body_parts) (start_in depth f) >>= λ x. vals (l x.1.found) (rule body_parts) (start_in depth f) >>= λ y. Some (word_in nowhere y.0)

-- what follows a subscript
abbrev pub scanned_by : Lang → Scan
scanned_by l s = vals l (rule (subscript in_word)) s >>= λ x. Some x.1.bytes

-- Bash with bodies in bodies, and assignments in subscripts, at most n deep, where these are the bodies.
unfoldable pub bash : ℕ → List Found → Lang
bash zero bodies = knowing (record { bodies = bodies; expand = no_word; scan = no_scan })
bash (suc n) bodies = knowing (record { bodies = bodies; expand = expanded_by (bash n); scan = scanned_by (bash n []) })

-- each body in a body stands in a substitution, and so does each assignment in a subscript, so no more levels than nesting
-- has are ever used
abbrev pub levels : ℕ
levels = suc limit

-- the language of a text, of which these are the bodies
abbrev pub bash_with : List Found → Lang
bash_with bodies = bash levels bodies

-- a complete command and the newline or the end behind it, or a newline
abbrev pub PieceAt : Tree Rule Node → State → State → Type 0
PieceAt t s m = PieceWith bash_with (λ (e : State). e.found) fresh (rule piece) t s m

-- the chains of the pieces
abbrev pub chains_of : List (Tree Rule Node) → List Node
chains_of [] = []
chains_of (t ∷ ts) = kids (bash_with []) t ++ chains_of ts

-- THE SPELLING: pieces one behind the other up to the end of the text, which has blanks and a comment at most behind them
pub record Reads (text : Text) (script : Script) : Type 0 where
  pub pieces : List (Tree Rule Node)
  pub end : State
  pub reads : FrontAt PieceAt pieces (start_at text) end
  pub ends : gap end.bytes ≡ []
  pub is : chains_in (chains_of pieces) ≡ script

-- a piece that a newline ends
abbrev pub LineAt : Tree Rule Node → State → State → Type 0
LineAt t s m = PieceWith bash_with (λ (e : State). e.found) fresh (rule line_piece) t s m

-- THE PLACE of a syntax error: behind the longest front of lines, the first byte of what is no blank, newline, comment or join
abbrev pub IsErrorAt : Text → ℕ → Type 0
IsErrorAt text place = IsPlace LineAt (start_at text) (λ (s : State). length (idle s.bytes)) (length text) place
