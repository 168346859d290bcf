-- When the outsides and the descriptors of two states count as equal: they may number their descriptions otherwise, and
-- one may have opened more of them.
use Rattle.std.specs.Prelude.{◌≡◌, ◌↔◌, ◌⊎◌, ℕ, List, [], ◌∷◌, Option, Some, None}
use Rattle.shell_world.specs.Texts.{nth}
use Rattle.shell_world.specs.Outside.{Desc, Outside, Trace, Fds, index_at}
use Rattle.shell_world.specs.Calls.{Called}
use Rattle.shell_world.specs.Opening.{Opened, Refused, Opens}

-- pairs of numbers: of a description of the one state, and of one of the other
abbrev pub Matching : Type 0
Matching = List (ℕ × ℕ)

abbrev pub IsMatched : Matching → ℕ → ℕ → Type 0
IsMatched [] i j = ⊥
IsMatched (p ∷ ms) i j = ((p.0 ≡ i) × (p.1 ≡ j)) ⊎ IsMatched ms i j

-- closed in both, or open for matched descriptions
abbrev pub AreMatched : Matching → Option ℕ → Option ℕ → Type 0
AreMatched ms None None = Unit {0}
AreMatched ms None (Some j) = ⊥
AreMatched ms (Some i) None = ⊥
AreMatched ms (Some i) (Some j) = IsMatched ms i j

-- the records and the files are equal, the matching is one to one, and matched descriptions have one kind, path, text and offset
pub record Alike (ms : Matching) (a b : Trace × Outside) : Type 0 where
  pub trace : a.0 ≡ b.0
  pub files : a.1.files ≡ b.1.files
  pub one_to_one : (i j k l : ℕ) → IsMatched ms i j → IsMatched ms k l → (i ≡ k) ↔ (j ≡ l)
  pub equal : (i j : ℕ) → IsMatched ms i j → (d : Desc) × (nth i a.1.descs ≡ Some d) × (nth j b.1.descs ≡ Some d)

-- each descriptor is closed in both, or its descriptions are matched
pub record AlikeFds (ms : Matching) (fds gds : Fds) : Type 0 where
  pub at : (n : ℕ) → AreMatched ms (index_at (nth n fds)) (index_at (nth n gds))

-- what was matched stays so
pub record Keeps (ms ns : Matching) : Type 0 where
  pub by : (i j : ℕ) → IsMatched ms i j → IsMatched ns i j

-- two calls with one status, that leave what is alike
pub record CalledAlike (ms : Matching) (c d : Called) : Type 0 where
  pub status : c.status ≡ d.status
  pub after : Alike ms (c.trace, c.outside) (d.trace, d.outside)

-- both refused for one reason, or both opened, and then what was opened is matched
abbrev pub OpenedAlike : Matching → Trace → Trace → Opened → Opened → Type 0
OpenedAlike ms t u (Refused f) (Refused g) = f ≡ g
OpenedAlike ms t u (Refused f) (Opens j p) = ⊥
OpenedAlike ms t u (Opens i o) (Refused g) = ⊥
OpenedAlike ms t u (Opens i o) (Opens j p) = Alike ((i, j) ∷ ms) (t, o) (u, p)

-- what is matched at the start of a run
abbrev pub start_matching : Matching
start_matching = (0, 0) ∷ (1, 1) ∷ (2, 2) ∷ []
