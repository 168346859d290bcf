-- The place of a syntax error, where a text is pieces one behind the other.
use Rattle.std.specs.Prelude.{◌≡◌, ℕ, zero, suc, ◌+◌, ◌<◌, true, List, [], ◌∷◌, Option, Some, None}
use Rattle.text_grammar.specs.Grammar.{Grammar}
use Rattle.text_grammar.specs.Ranks.{takes}
use Rattle.text_grammar.specs.Language.{Language, IsShallow}
use Rattle.text_grammar.specs.Derivations.{Tree, At}
use Rattle.text_grammar.specs.Values.{kids}

-- Pieces one behind the other, from s to e. `piece t s m`: the piece t stands from s to m.
abbrev pub FrontAt : {X S : Type 0} → (X → S → S → Type 0) → List X → S → S → Type 0
FrontAt piece [] s e = s ≡ e
FrontAt {S = S} piece (t ∷ ts) s e = (m : S) × piece t s m × FrontAt piece ts m e

-- no piece stands from here
abbrev pub Stuck : {X S : Type 0} → (X → S → S → Type 0) → S → Type 0
Stuck {X} {S} piece s = (t : X) (m : S) → piece t s m → ⊥

-- The longest front of pieces from s ends where so many bytes are left behind the place, of `whole` bytes in all.
pub record IsPlace {X S : Type 0} (piece : X → S → S → Type 0) (s : S) (left : S → ℕ) (whole place : ℕ) : Type 0 where
  pub before : List X
  pub end : S
  pub reads : FrontAt piece before s end
  pub longest : Stuck piece end
  pub is : place + left end ≡ whole

-- All of a text is these pieces: nothing that counts is left behind them.
abbrev pub WholeAt : {X S : Type 0} → (X → S → S → Type 0) → (S → ℕ) → List X → S → Type 0
WholeAt {S = S} piece left ts s = (e : S) × FrontAt piece ts s e × (left e ≡ 0)

-- At most one piece stands from a state, and it ends at one state.
abbrev pub OneEach : {X S : Type 0} → (X → S → S → Type 0) → Type 0
OneEach {X} {S} piece = (t u : X) (s a b : S) → piece t s a → piece u s b → (t ≡ u) × (a ≡ b)

-- Where nothing that counts is left, no piece stands.
abbrev pub EndsStuck : {X S : Type 0} → (X → S → S → Type 0) → (S → ℕ) → Type 0
EndsStuck {S = S} piece left = (s : S) → left s ≡ 0 → Stuck piece s

-- `next` reads a piece wherever one stands, to its end, and nothing else. A piece takes a byte.
pub record Reader {X Y S : Type 0} (piece : X → S → S → Type 0) (size : S → ℕ) (next : S → Option (Y × S)) : Type 0 where
  pub sound : (s m : S) (y : Y) → next s ≡ Some (y, m) → (t : X) × piece t s m
  pub complete : (t : X) (s m : S) → piece t s m → (y : Y) × (next s ≡ Some (y, m))
  pub less : (t : X) (s m : S) → piece t s m → size m < size s

-- goes on behind what was read, else ends here
abbrev pub goes_on : {Y S : Type 0} → S → Option (Y × S) → (S → S) → S
goes_on s None further = s
goes_on s (Some y) further = further y.1

-- where the longest front ends, in at most so many pieces
unfoldable pub front_in : {Y S : Type 0} → (S → Option (Y × S)) → ℕ → S → S
front_in next zero s = s
front_in next (suc n) s = goes_on s (next s) (front_in next n)

unfoldable pub front : {Y S : Type 0} → (S → ℕ) → (S → Option (Y × S)) → S → S
front size next s = front_in next (suc (size s)) s

-- ---- pieces of a language

-- a piece is spelled by this grammar
abbrev pub PieceAt : {S P T R V : Type 0} → Language S P T R V → Grammar P T R → Tree R V → S → S → Type 0
PieceAt l g t s m = At l t g s m

-- the values of a piece
abbrev pub SaysAt : {S P T R V : Type 0} → Language S P T R V → Grammar P T R → List V → S → S → Type 0
SaysAt {R = R} {V = V} l g k s m = (t : Tree R V) × At l t g s m × (kids l t ≡ k)

-- a grammar of a piece: it takes a byte, and reads in the levels of the language
abbrev pub IsPiece : {S P T R V : Type 0} → Language S P T R V → Grammar P T R → Type 0
IsPiece l piece = IsShallow l piece × (takes l.ranks piece ≡ true)
