-- Trees that hold what only comes later in the text, as a redirection holds the body of its here-document:
-- a language for each of what may come.
use Rattle.std.specs.Prelude.{◌≡◌, List, Option, Some}
use Rattle.text_grammar.specs.Grammar.{Grammar, Leaf}
use Rattle.text_grammar.specs.Language.{Language, Ends}
use Rattle.text_grammar.specs.Derivations.{Tree, At}
use Rattle.text_grammar.specs.Reading.{read, ◌>>=◌}
use Rattle.text_grammar.specs.Values.{kids, vals}

-- What l reads m reads too, with the same state behind it; steps may give other things to the tree.
pub record Allows {S P T R V W : Type 0} (l : Language S P T R V) (m : Language S P T R W) : Type 0 where
  pub step : (p : P) (s e : S) (x : Leaf V) → l.run_step p s ≡ Some (x, e) → (y : Leaf W) × (m.run_step p s ≡ Some (y, e))
  pub test : (p : T) (s : S) → l.holds p s ≡ m.holds p s
  pub body : (r : R) → l.body r ≡ m.body r

-- Two languages that differ only in what steps give to the tree.
pub record Alike {S P T R V W : Type 0} (l : Language S P T R V) (m : Language S P T R W) : Type 0 where
  pub there : Allows l m
  pub back : Allows m l

-- A language for each of what may come. Where nothing is known of that (`none`), all is read that may be read at all:
-- what comes may itself have to be read, and may not read.
pub record Later {A S P T R V : Type 0} (l : A → Language S P T R V) (none : A) : Type 0 where
  pub ends : (a : A) → Ends (l a)
  pub allows : (a : A) → Allows (l a) (l none)

-- The tree holds what the end of the text had found.
abbrev pub AtWith : {A S P T R V : Type 0} → (A → Language S P T R V) → (S → A) → Tree R V → Grammar P T R → S → S → Type 0
AtWith l found t g s e = At (l (found e)) t g s e

-- read once with nothing known, to find what comes, and once with that
unfoldable pub read_twice : {A S P T R V : Type 0} → (A → Language S P T R V) → (S → A) → A → Grammar P T R → S → Option (Tree R V × S)
read_twice l found none g s = read (l none) g s >>= λ x. read (l (found x.1)) g s

-- the same of the values
unfoldable pub vals_twice : {A S P T R V : Type 0} → (A → Language S P T R V) → (S → A) → A → Grammar P T R → S → Option (List V × S)
vals_twice l found none g s = vals (l none) g s >>= λ x. vals (l (found x.1)) g s

-- Pieces that each hold what their own end has found: `fresh` is the state that a piece begins with.
abbrev pub PieceWith : {A S P T R V : Type 0} → (A → Language S P T R V) → (S → A) → (S → S) → Grammar P T R → Tree R V → S → S → Type 0
PieceWith l found fresh g t s m = AtWith l found t g (fresh s) m

-- the values of such a piece
abbrev pub SaysWith : {A S P T R V : Type 0} → (A → Language S P T R V) → (S → A) → (S → S) → Grammar P T R → List V → S → S → Type 0
SaysWith {R = R} {V = V} l found fresh g k s m = (t : Tree R V) × AtWith l found t g (fresh s) m × (kids (l (found m)) t ≡ k)

-- what the next piece gives
abbrev pub next_with : {A S P T R V : Type 0} → (A → Language S P T R V) → (S → A) → A → (S → S) → Grammar P T R → S → Option (List V × S)
next_with l found none fresh g s = vals_twice l found none g (fresh s)
