-- What the functions of the reader answer.
use Rattle.std.specs.Prelude.{◌≡◌, Bool, true, false, Option, Some, None, Result}
use Rattle.bash_tokens.specs.declared.fault.Stop.{Stop}
use Rattle.bash_tokens.specs.declared.fault.Stop.TheVariants as stop
use Rattle.text_grammar.specs.Answers.{Gives as GivesBy}

abbrev pub is_memory : Stop → Bool
is_memory stop.Memory = true
is_memory stop.Mismatch = false

-- The result, seen by view, is what is read, but for want of memory.
abbrev pub Gives : {X Y : Type 0} → (X → Y) → Result X Stop → Option Y → Type 0
Gives v r o = GivesBy is_memory v r o

-- What was found, seen by view, is what stands there.
abbrev pub Shows : {X Y : Type 0} → (X → Y) → Option X → Option Y → Type 0
Shows view None o = o ≡ None
Shows view (Some x) o = o ≡ Some (view x)
