-- What a read does to a source and a write to a sink, where they tell their bytes, and what their counts of faults say.
use Rattle.std.specs.Prelude.{◌≡◌, ◌≢◌, ℕ, ◌+◌, ◌<◌, ◌≤◌, min, List, [], ◌++◌, length, take, drop, ◌-◌, ◌^◌, ◌∷◌, Option, Some, None, Result, Ok, Err}

-- A fault was counted: the count is greater than before, or stands at the greatest number of 64 bits, where it stays.
abbrev pub Rose : ℕ → ℕ → Type 0
Rose before now = min (before + 1) (2 ^ 64 - 1) ≤ now

-- the first n bytes of what was left moved into the front of the buffer
abbrev pub Moved : Option (List ℕ) → Option (List ℕ) → List ℕ → ℕ → Type 0
Moved None later buffer n = Unit {0}
Moved (Some left) later buffer n = (n ≤ length left) × (take n buffer ≡ take n left) × (later ≡ Some (drop n left))

-- nothing is left, where it is told
abbrev pub IsOver : Option (List ℕ) → Type 0
IsOver None = Unit {0}
IsOver (Some left) = left ≡ []

-- the text was put behind what was held, where that is told
abbrev pub Grows : Option (List ℕ) → Option (List ℕ) → List ℕ → Type 0
Grows None later text = Unit {0}
Grows (Some before) later text = later ≡ Some (before ++ text)

-- a part of the text that isn't all of it was put behind what was held
abbrev pub Falls : Option (List ℕ) → Option (List ℕ) → List ℕ → Type 0
Falls None later text = Unit {0}
Falls (Some before) later text = (front rest : List ℕ) × (text ≡ front ++ rest) × (0 < length rest) × (later ≡ Some (before ++ front))

-- what is held is the same, where it was told
abbrev pub Keeps : Option (List ℕ) → Option (List ℕ) → Type 0
Keeps None later = Unit {0}
Keeps (Some before) later = later ≡ Some before

-- All of the text was written, or after a counted fault a front of it that isn't all. The count never falls.
abbrev pub Wrote : {E : Type 0} → Option (List ℕ) → Option (List ℕ) → ℕ → ℕ → Result (Unit {0}) E → List ℕ → Type 0
Wrote before later faults now (Ok x) text = Grows before later text × (faults ≤ now)
Wrote before later faults now (Err e) text = Falls before later text × (faults ≤ now) × Rose faults now
