-- A turn is taken before a run.
use Rattle.std.proofs.Common.{◌≡◌, ◌∙◌, ℕ, suc, List, refl, sym, ap}
use Rattle.std.specs.Prelude.{Bool, true, false, Option, Some, None, Result, Ok, Err, if◌then◌else◌}
use Rattle.shell_world.specs.Texts.{Map}
use Rattle.shell_world.specs.Runs.{St, Do, Res, Unspecified, after}
use Rattle.sh_grammar.specs.Shape.{Command}
use Rattle.shell_runs.specs.Flow.{Flow}
use Rattle.shell_runs.specs.Flow as ways
use Rattle.shell_runs.specs.Sequences.{take_turn}
use Rattle.sh_meaning.specs.Own.{Own}
use Rattle.sh_meaning.specs.Simple.{Setting, Calls}
use Rattle.sh_builtins.specs.declared.flow.Flow.{Flow as Code}
use Rattle.sh_builtins.specs.declared.flow.Flow.TheVariants as code
use Rattle.sh_builtins.specs.declared.flow.Stop.{Stop}
use Rattle.sh_builtins.specs.declared.flow.Stop.TheVariants as stop
use Rattle.sh_builtins.specs.declared.environment.Environment.{Environment}
use Rattle.sh_builtins.specs.Views.{flow_of, Runs, Keeps}
use Rattle.sh_frames.specs.Payloads.{Next}
use Rattle.sh_interp.specs.declared.halt.Halt.{Halt}
use Rattle.sh_interp.specs.declared.halt.Halt.TheVariants as halt
use Rattle.sh_interp.specs.declared.payload.Payload.{Payload}
use Rattle.sh_interp.specs.declared.shell.Shell.{Shell}
use Rattle.sh_interp.specs.declared.frames.Frames.{Frames}
use Rattle.sh_meaning.specs.Commands.{level}
use Rattle.sh_frames.specs.Turns.{go_on}
use Rattle.sh_interp.specs.Answers.{Does, Leads, Ran, Steps, Turns}
use Rattle.sh_interp.specs.Views.{halt_of, stack_of, state_of}

pub taken : {X : Type 0} (z : Setting) (run : Calls → Do X Own) (to : Next → ℕ → X → Do Flow Own) (fs gs : Frames) (old new last : Shell) (r : Result Payload Halt) →
    (old.turns ≡ suc new.turns) × (new ≡ record old { turns = new.turns }) →
    Turns z run to fs gs new last r → Turns z (λ call. take_turn (run call)) to fs gs old last r
taken z run to fs gs old new last r t h = rw t.0 (rw t.1 at h)

-- a way that isn't the normal one
pub not_normal : (f : Code) → ¬ (f ≡ code.Normal) → ¬ (flow_of f ≡ ways.Normal)
not_normal code.Normal h e = h refl
not_normal (code.Breaks m) h e = cc
not_normal (code.Continues m) h e = cc
not_normal code.Returns h e = cc
not_normal code.Exits h e = cc

-- a run behind a change of the state, which `new` has
pub moved : {X : Type 0} (z : Setting) (run : Calls → Do X Own) (to : Next → ℕ → X → Do Flow Own) (fs gs : Frames) (old new last : Shell) (r : Result Payload Halt) (s : St Own) →
    state_of new ≡ s → (new.turns ≡ old.turns) × (new.levels ≡ old.levels) → new.outside.rows ≡ old.outside.rows →
    Turns z run to fs gs new last r → Leads z (after (run (level z old.levels) old.turns s) (to (go_on z (stack_of fs)) old.levels)) old.outside.rows gs last r
moved z run to fs gs old new last r s e b k h = rw (e, b.0, b.1, k) at h

-- an equation that says which of two ways was taken
pub unless : {A : Type 0} {b : Bool} {x y : A} → (if b then None else Some x) ≡ Some y → (b ≡ false) × (x ≡ y)
unless {b = true} e = absurd (cc)
unless {b = false} e = (refl, (cc))

-- what a run that may change the state gave, before frames
pub did : {C X : Type 0} (view : C → X) (run : Do X Own) (old new : Shell) (x : C) (k : ℕ → X → Do Flow Own) → Does view run old new (Ok x) →
    (after (run old.turns (state_of old)) (k old.levels) ≡ k new.levels (view x) new.turns (state_of new)) × (new.outside.rows ≡ old.outside.rows)
did view run old new x k h = (rw (h.0, h.1) refl, h.2)

-- what a built-in that stops leaves
pub stopped : (run : Do Flow Own) (functions : Map Command) (old new : Shell) (env : Environment) (s : Stop) →
    Runs functions (run old.turns (state_of old)) new.turns old.outside env new.outside (Err s) → Keeps old.outside new.outside (Err s) → Does flow_of run old new (Err (halt_of s))
stopped run functions old new env stop.Memory r k = tt
stopped run functions old new env stop.Unspecified r k = r ∙ ap (λ t. Unspecified t new.turns) (sym k)

-- a run without frames that halts is a step that halts
pub halted : (z : Setting) (run : Do Flow Own) (fs : Frames) (old new : Shell) (h : Halt) → Ran run old new (Err h) → Steps z (run old.turns (state_of old)) old.outside.rows fs new (Err h)
halted z run fs old new halt.Memory r = tt
halted z run fs old new halt.GoesOn r = r
halted z run fs old new halt.Unspecified r = r

-- what a run gave, of another that is the same from where it began
pub ran_as : (run other : Do Flow Own) (old new : Shell) (r : Result Code Halt) → run old.turns (state_of old) ≡ other old.turns (state_of old) → Ran run old new r → Ran other old new r
ran_as run other old new (Ok f) e h = sym e ∙ h
ran_as run other old new (Err halt.Memory) e h = tt
ran_as run other old new (Err halt.GoesOn) e h = sym e ∙ h
ran_as run other old new (Err halt.Unspecified) e h = sym e ∙ h
