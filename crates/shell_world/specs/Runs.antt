-- Runs with bounds, in either language: what both meanings are made of.
use Rattle.std.specs.Prelude.{ℕ, Bool, true, false}
use Rattle.shell_world.specs.Outside.{Trace, Outside}

-- how a command ends: it goes on with the next one, or leaves the shell environment
pub data Signal : Type 0 where
  Normal : Signal
  Exits : Signal

-- a value, or none since the run is to leave the shell environment
pub data Try (X : Type 0) : Type 0 where
  Value : X → Try X
  Fails : Try X

-- a state: the record so far, the outside, and the language's own part
pub record St (S : Type 0) : Type 0 where
  pub trace : Trace
  pub outside : Outside
  pub own : S

-- It ends with a result and a state, or goes on with the record so far, or nothing says what it does. The number is that of the turns that are left.
pub data Res (X S : Type 0) : Type 0 where
  Ends : X → St S → ℕ → Res X S
  GoesOn : Trace → ℕ → Res X S
  Unspecified : Trace → ℕ → Res X S

-- from the turns that are left and a state
abbrev pub Do : Type 0 → Type 0 → Type 0
Do X S = ℕ → St S → Res X S

-- goes on with what the result, the turns left and the state say
abbrev pub after : {X Y S : Type 0} → Res X S → (X → Do Y S) → Res Y S
after (Ends x s n) k = k x n s
after (GoesOn t n) k = GoesOn t n
after (Unspecified t n) k = Unspecified t n

-- the next command
abbrev pub if_normal : {S : Type 0} → Do Signal S → Signal → Do Signal S
if_normal k Normal n s = k n s
if_normal k Exits n s = Ends Exits s n

-- goes on with a value, in a word
abbrev pub if_value : {X Y S : Type 0} → (X → Do (Try Y) S) → Try X → Do (Try Y) S
if_value k (Value x) n s = k x n s
if_value k Fails n s = Ends Fails s n

-- goes on with a value, in a command
abbrev pub with_value : {X S : Type 0} → (X → Do Signal S) → Try X → Do Signal S
with_value k (Value x) n s = k x n s
with_value k Fails n s = Ends Exits s n

abbrev pub choose : {X S : Type 0} → Bool → Do X S → Do X S → Do X S
choose true a b = a
choose false a b = b

abbrev pub with_own : {S : Type 0} → St S → S → St S
with_own s o = record { trace = s.trace; outside = s.outside; own = o }

-- a change of the language's own part
abbrev pub now : {S : Type 0} → (S → S) → Do Signal S
now f n s = Ends Normal (with_own s (f s.own)) n

-- a value that the state gives
abbrev pub gives : {X S : Type 0} → (S → X) → Do (Try X) S
gives f n s = Ends (Value (f s.own)) s n

-- a form that no definition gives a meaning yet
abbrev pub unbuilt : {X S : Type 0} → Do X S
unbuilt n s = Unspecified s.trace n

-- what a call of a function means whose body is given
abbrev pub Calls : Type 0 → Type 0 → Type 0
Calls Body S = Body → Do Signal S
