-- What stands open, as a list, the innermost first.
use Rattle.std.specs.Prelude.{◌≡◌, List, [], ◌∷◌, Option, Some, None}

abbrev pub IsTop : {X : Type 0} → List X → X → Type 0
IsTop {X} xs x = (rest : List X) × (xs ≡ x ∷ rest)

-- the first leaves, if there is one
abbrev pub Pops : {X : Type 0} → List X → List X → Option X → Type 0
Pops before later None = (before ≡ []) × (later ≡ [])
Pops before later (Some x) = before ≡ x ∷ later
