-- What larger bounds change: nothing of a run that is over, and they only lengthen the record of one that goes on.
use Rattle.std.specs.Prelude.{◌≡◌, ℕ, ◌+◌, ◌≤◌}
use Rattle.shell_world.specs.Outside.{Trace}
use Rattle.shell_world.specs.Runs.{St, Res, Ends, GoesOn, Unspecified, Do}
use Rattle.shell_world.specs.Ends.{Outcome, Ended, Going, Unknown, IsPrefix, trace_of}

-- the record that a run leaves, and the turns that it leaves
abbrev pub record_of : {X S : Type 0} → Res X S → Trace
record_of (Ends x s n) = s.trace
record_of (GoesOn t n) = t
record_of (Unspecified t n) = t

abbrev pub turns_left : {X S : Type 0} → Res X S → ℕ
turns_left (Ends x s n) = n
turns_left (GoesOn t n) = n
turns_left (Unspecified t n) = n

-- What a run that was given n turns says of one that was given m, which aren't fewer: an end is the same, and as many turns more are left
abbrev pub Later : {X S : Type 0} → ℕ → ℕ → Res X S → Res X S → Type 0
Later n m (Ends x s r) o = (q : ℕ) × (o ≡ Ends x s q) × (r + m ≡ q + n)
Later n m (GoesOn t r) o = IsPrefix t (record_of o)
Later n m (Unspecified t r) o = (q : ℕ) × (o ≡ Unspecified t q)

-- one run, and one that may go on further: under more turns it ends the same, the record only grows, and no turn is given back
pub record Under {X S : Type 0} (c c' : Do X S) : Type 0 where
  pub later : (n m : ℕ) (s : St S) → n ≤ m → Later n m (c n s) (c' m s)
  pub grows : (m : ℕ) (s : St S) → IsPrefix s.trace (record_of (c' m s))
  pub spends : (n : ℕ) (s : St S) → turns_left (c n s) ≤ n

-- a run gives no turn back
abbrev pub Spends : {X S : Type 0} → Do X S → Type 0
Spends {X} {S} c = (n : ℕ) (s : St S) → turns_left (c n s) ≤ n

-- the same of whole runs
abbrev pub OutcomeLater : Outcome → Outcome → Type 0
OutcomeLater (Ended t files status) o = o ≡ Ended t files status
OutcomeLater (Going t) o = IsPrefix t (trace_of o)
OutcomeLater (Unknown t) o = o ≡ Unknown t
