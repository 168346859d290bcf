-- What each state of a reading is: its bytes have no joins in a body that is expanded, and the bodies that come are those that were named.
use Rattle.std.proofs.Common.{◌≡◌, ◌+◌, Bool, true, false, List, [], ◌∷◌, ◌++◌, length}
use Rattle.sh_grammar.specs.Bytes.{Text}
use Rattle.sh_grammar.specs.Bodies.{Owed}
use Rattle.sh_grammar.specs.State.{State}
use Rattle.sh_grammar.specs.Steps.{Known, literal_parts}
use Rattle.sh_printing.specs.Spellable.{ends_with, is_unjoined, keeps}
use Rattle.sh_printing.specs.Printable.{literal_body}
use Rattle.sh_printing.proofs.ExactRules.{All}

-- nothing, or lines
abbrev pub is_lines : Text → Bool
is_lines [] = true
is_lines (b ∷ bs) = ends_with 10 (b ∷ bs)

-- an end of a text without joins: a backslash may stand before it
abbrev pub Unjoined : Text → Type 0
Unjoined t = (quoted : Bool) × (is_unjoined quoted t ≡ true)

-- an end of a body that is expanded
abbrev pub Clean : Bool → Text → Type 0
Clean false t = Unit {0}
Clean true t = Unjoined t × (is_lines t ≡ true)

-- what is kept from left to right
pub record Forth (inside : Bool) (s : State) : Type 0 where
  pub clean : Clean inside s.bytes
  pub counted : s.named ≡ length s.found + length s.owed

-- a body of a delimiter that was quoted or not
abbrev pub BodyFits : (inside literal : Bool) → Text → Type 0
BodyFits inside true body = literal_body inside (literal_parts body) ≡ true
BodyFits inside false body = (keeps true body ≡ true) × (is_lines body ≡ true)

-- the first of these bodies are those that are owed
abbrev pub Owes : Bool → List Owed → List Text → Type 0
Owes inside [] bodies = Unit {0}
Owes inside (o ∷ os) [] = ⊥
Owes inside (o ∷ os) (b ∷ bs) = BodyFits inside o.literal b × Owes inside os bs

-- what is kept from right to left: all bodies are those that came and those that will
pub record Back (k : Known) (inside : Bool) (s : State) : Type 0 where
  pub later : List Text
  pub whole : k.bodies ≡ s.found ++ later
  pub owes : Owes inside s.owed later

abbrev pub Fine : Known → Bool → State → Type 0
Fine k inside = All (Forth inside) (Back k inside)
