-- Which text spells which script.
use Rattle.std.specs.Prelude.{◌≡◌, ℕ, zero, suc, List, [], ◌∷◌, ◌++◌, length, Option, Some, None}
use Rattle.text_grammar.specs.Grammar.{rule}
use Rattle.text_grammar.specs.Language.{Language}
use Rattle.text_grammar.specs.Derivations.{Tree}
use Rattle.text_grammar.specs.Values.{kids, vals}
use Rattle.text_grammar.specs.Later.{PieceWith}
use Rattle.text_grammar.specs.Place.{FrontAt, IsPlace}
use Rattle.sh_grammar.specs.Shape.{Parts, Script}
use Rattle.sh_grammar.specs.Bytes.{Text, gap, idle}
use Rattle.sh_grammar.specs.Expansions.{◌>>=◌}
use Rattle.sh_grammar.specs.State.{State, start_at, fresh, Node, word_in, chains_in}
use Rattle.sh_grammar.specs.Table.{Step, Test, Rule, piece, line_piece, body_parts, body}
use Rattle.sh_grammar.specs.Steps.{Known, limit, run_step, holds}
use Rattle.sh_grammar.specs.Acts.{act}
use Rattle.sh_grammar.specs.Depths.{ranks}

abbrev pub Lang : Type 0
Lang = Language State Step Test Rule Node

-- sh, where so much is known of its here-documents
abbrev pub knowing : Known → Lang
knowing k = record { run_step = run_step k; holds = holds; body = body; act = act; size = λ s. length s.bytes; ranks = ranks }

abbrev pub no_parts : ℕ → Text → Option Parts
no_parts depth text = None

-- Sh with bodies in bodies at most n deep, where these are the bodies.
unfoldable pub sh : ℕ → List Text → Lang
sh zero bodies = knowing (record { bodies = bodies; expand = no_parts })
sh (suc n) bodies = knowing (record { bodies = bodies; expand = λ depth text. vals (sh n []) (rule body_parts) (start_at depth text) >>= λ x. vals (sh n x.1.found) (rule body_parts) (start_at depth text) >>= λ y. Some (word_in y.0) })

-- each body in a body stands in a substitution, so no more levels than nesting has are ever used
abbrev pub levels : ℕ
levels = suc limit

-- the language of a text, of which these are the bodies
abbrev pub sh_with : List Text → Lang
sh_with bodies = sh levels bodies

-- a complete command and the newline or the end behind it, or a newline
abbrev pub PieceAt : Tree Rule Node → State → State → Type 0
PieceAt t s m = PieceWith sh_with (λ (e : State). e.found) fresh (rule piece) t s m

-- the chains of the pieces
abbrev pub chains_of : List (Tree Rule Node) → List Node
chains_of [] = []
chains_of (t ∷ ts) = kids (sh_with []) t ++ chains_of ts

-- THE SPELLING: pieces one behind the other up to the end of the text, which has blanks and a comment at most behind them
pub record Reads (text : Text) (script : Script) : Type 0 where
  pub pieces : List (Tree Rule Node)
  pub end : State
  pub reads : FrontAt PieceAt pieces (start_at 0 text) end
  pub ends : gap end.bytes ≡ []
  pub is : chains_in (chains_of pieces) ≡ script

-- a piece that a newline ends
abbrev pub LineAt : Tree Rule Node → State → State → Type 0
LineAt t s m = PieceWith sh_with (λ (e : State). e.found) fresh (rule line_piece) t s m

-- THE PLACE of a syntax error: behind the longest front of lines, the first byte of what is no blank, newline, comment or join
abbrev pub IsErrorAt : Text → ℕ → Type 0
IsErrorAt text place = IsPlace LineAt (start_at 0 text) (λ (s : State). length (idle s.bytes)) (length text) place
