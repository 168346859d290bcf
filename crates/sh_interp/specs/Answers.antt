-- What a turn of the code says of the meaning.
use Rattle.std.specs.Prelude.{◌≡◌, ℕ, suc, List, Result, Ok, Err}
use Rattle.shell_world.specs.declared.world.Row.{Row}
use Rattle.shell_world.specs.Runs.{Res, Ends, GoesOn, Unspecified, Do, after}
use Rattle.shell_runs.specs.Flow.{Flow}
use Rattle.sh_meaning.specs.Own.{Own}
use Rattle.sh_meaning.specs.Simple.{Setting, Calls}
use Rattle.sh_meaning.specs.Commands.{level}
use Rattle.sh_builtins.specs.declared.flow.Flow.{Flow as Code}
use Rattle.sh_builtins.specs.Views.{flow_of}
use Rattle.sh_interp.specs.declared.halt.Halt.{Halt}
use Rattle.sh_interp.specs.declared.halt.Halt.TheVariants as halt
use Rattle.sh_interp.specs.declared.payload.Payload.{Payload}
use Rattle.sh_interp.specs.declared.running.Step.{Step}
use Rattle.sh_interp.specs.declared.running.Step.TheVariants as step
use Rattle.sh_interp.specs.declared.shell.Shell.{Shell}
use Rattle.sh_frames.specs.Payloads.{Next}
use Rattle.sh_interp.specs.declared.frames.Frames.{Frames}
use Rattle.sh_frames.specs.Turns.{go_on}
use Rattle.sh_interp.specs.Views.{payload_of, stack_of, state_of}

-- What the whole is, the frames make of what a turn gives; the outside keeps its table.
abbrev pub Leads : Setting → Res Flow Own → List Row → Frames → Shell → Result Payload Halt → Type 0
Leads z whole rows fs shell (Ok p) = (whole ≡ go_on z (stack_of fs) shell.levels (payload_of p) shell.turns (state_of shell)) × (shell.outside.rows ≡ rows)
Leads z whole rows fs shell (Err halt.Memory) = Unit {0}
Leads z whole rows fs shell (Err halt.GoesOn) = whole ≡ GoesOn shell.outside.trace shell.turns
Leads z whole rows fs shell (Err halt.Unspecified) = whole ≡ Unspecified shell.outside.trace shell.turns

-- a run before frames: what is done of it, and the frames behind, give what it and the frames give
abbrev pub Turns : {X : Type 0} → Setting → (Calls → Do X Own) → (Next → ℕ → X → Do Flow Own) → Frames → Frames → Shell → Shell → Result Payload Halt → Type 0
Turns z run to fs gs old new result =
    Leads z (after (run (level z old.levels) old.turns (state_of old)) (to (go_on z (stack_of fs)) old.levels)) old.outside.rows gs new result

-- what a run gives that changes nothing is what the function returned
abbrev pub Gives : {C X : Type 0} → (C → X) → Do X Own → Shell → Result C Halt → Type 0
Gives view run shell (Ok x) = run shell.turns (state_of shell) ≡ Ends (view x) (state_of shell) shell.turns
Gives view run shell (Err halt.Memory) = Unit {0}
Gives view run shell (Err halt.GoesOn) = run shell.turns (state_of shell) ≡ GoesOn shell.outside.trace shell.turns
Gives view run shell (Err halt.Unspecified) = run shell.turns (state_of shell) ≡ Unspecified shell.outside.trace shell.turns

-- the same of one that may change the state: the levels and the table stay
abbrev pub Does : {C X : Type 0} → (C → X) → Do X Own → Shell → Shell → Result C Halt → Type 0
Does view run old new (Ok x) = (run old.turns (state_of old) ≡ Ends (view x) (state_of new) new.turns) × (new.levels ≡ old.levels) × (new.outside.rows ≡ old.outside.rows)
Does view run old new (Err halt.Memory) = Unit {0}
Does view run old new (Err halt.GoesOn) = run old.turns (state_of old) ≡ GoesOn new.outside.trace new.turns
Does view run old new (Err halt.Unspecified) = run old.turns (state_of old) ≡ Unspecified new.outside.trace new.turns

-- the same of a whole run
abbrev pub Ran : Do Flow Own → Shell → Shell → Result Code Halt → Type 0
Ran run old new (Ok flow) = run old.turns (state_of old) ≡ Ends (flow_of flow) (state_of new) new.turns
Ran run old new (Err halt.Memory) = Unit {0}
Ran run old new (Err halt.GoesOn) = run old.turns (state_of old) ≡ GoesOn new.outside.trace new.turns
Ran run old new (Err halt.Unspecified) = run old.turns (state_of old) ≡ Unspecified new.outside.trace new.turns

-- what a turn of the machine came to: the rest, or the end
abbrev pub Steps : Setting → Res Flow Own → List Row → Frames → Shell → Result Step Halt → Type 0
Steps z whole rows fs shell (Ok (step.Goes p)) = (whole ≡ go_on z (stack_of fs) shell.levels (payload_of p) shell.turns (state_of shell)) × (shell.outside.rows ≡ rows)
Steps z whole rows fs shell (Ok (step.Ends flow)) = whole ≡ Ends (flow_of flow) (state_of shell) shell.turns
Steps z whole rows fs shell (Err halt.Memory) = Unit {0}
Steps z whole rows fs shell (Err halt.GoesOn) = whole ≡ GoesOn shell.outside.trace shell.turns
Steps z whole rows fs shell (Err halt.Unspecified) = whole ≡ Unspecified shell.outside.trace shell.turns

-- a turn is taken, or none is left
abbrev pub TakesTurn : Shell → Shell → Result (Unit {0}) Halt → Type 0
TakesTurn old new (Ok x) = (old.turns ≡ suc new.turns) × (new ≡ record old { turns = new.turns })
TakesTurn old new (Err halt.Memory) = ⊥
TakesTurn old new (Err halt.GoesOn) = (old.turns ≡ 0) × (new ≡ old)
TakesTurn old new (Err halt.Unspecified) = ⊥
