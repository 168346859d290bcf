-- What code that reads answers, and the values of a list of nodes.
use Rattle.std.specs.Prelude.{◌≡◌, Bool, true, false, List, [], ◌∷◌, ◌++◌, Option, Some, None, Result, Ok, Err}

-- A fault that says nothing, as want of memory does, or that nothing reads.
abbrev pub FailsAs : {Y : Type 0} → Bool → Option Y → Type 0
FailsAs true o = Unit {0}
FailsAs false o = o ≡ None

-- The result, seen by view, is what is read, but for a fault that says nothing (`quiet_fault`).
abbrev pub Gives : {X Y E : Type 0} → (E → Bool) → (X → Y) → Result X E → Option Y → Type 0
Gives quiet_fault view (Ok x) o = o ≡ Some (view x)
Gives quiet_fault view (Err e) o = FailsAs (quiet_fault e) o

-- the values of a list's nodes, one behind the other
abbrev pub views : {X V : Type 0} → (X → List V) → List X → List V
views view [] = []
views view (x ∷ xs) = view x ++ views view xs

abbrev pub pick_in : {X : Type 0} → Option X → List X → List X
pick_in None xs = xs
pick_in (Some x) xs = x ∷ xs

-- those of the values that are of one kind, as a rule takes its parts
abbrev pub picks : {X V : Type 0} → (V → Option X) → List V → List X
picks pick [] = []
picks pick (v ∷ vs) = pick_in (pick v) (picks pick vs)
