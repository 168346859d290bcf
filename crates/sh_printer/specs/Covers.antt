-- A text, and what passes a search of it: which names are lines of both, and which of the first alone.
use Rattle.std.specs.Prelude.{◌≡◌, ℕ, ◌<◌, ◌≤◌, Bool, true, [], ◌∷◌, ◌++◌, Some, ◌==◌}
use Rattle.sh_grammar.specs.Bytes.{Text}
use Rattle.sh_printing.specs.Delimiters.{Sight, sight, first_sight, numbered, tries}

-- what is seen of the name of this number behind a text
abbrev pub seen : ℕ → Text → Sight
seen n text = sight (numbered n) (first_sight (numbered n)) text

-- behind any text, the two are seen alike by names from `to` on, and the first holds each name from `from` up to `to`
pub record Covers (x y : Text) (from to : ℕ) : Type 0 where
  pub up : from ≤ to
  pub small : from ≤ tries → to ≤ tries
  pub same : (n : ℕ) → n < tries → to ≤ n → (z : Text) → seen n (z ++ x) ≡ seen n (z ++ y)
  pub found : (n : ℕ) → n < tries → from ≤ n → n < to → (z : Text) → (seen n (z ++ x)).found ≡ true

-- the text ends at the start of a line, where an empty one does or doesn't
abbrev pub ends_line_by : Bool → Text → Bool
ends_line_by start [] = start
ends_line_by start (b ∷ bs) = ends_line_by (b == 10) bs

-- the text is empty or ends with a newline
abbrev pub ends_line : Text → Bool
ends_line text = ends_line_by true text

-- what is seen of a name at the start of a line
abbrev pub starting : ℕ → Bool → Sight
starting n found = record { rest = Some (numbered n); found = found }

-- the same of two texts that are whole lines, at the start of a line
pub record CoversLines (x y : Text) (from to : ℕ) : Type 0 where
  pub up : from ≤ to
  pub small : from ≤ tries → to ≤ tries
  pub ends : (ends_line x ≡ true) × (ends_line y ≡ true)
  pub same : (n : ℕ) → n < tries → to ≤ n → (found : Bool) → sight (numbered n) (starting n found) x ≡ sight (numbered n) (starting n found) y
  pub found : (n : ℕ) → n < tries → from ≤ n → n < to → (before : Bool) → (sight (numbered n) (starting n before) x).found ≡ true
