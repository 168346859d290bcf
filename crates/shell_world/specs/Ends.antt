-- How a run ends, and when one record is a front of another.
use Rattle.std.specs.Prelude.{◌≡◌, ℕ, List, ◌++◌}
use Rattle.shell_world.specs.declared.world.Call.{Call}
use Rattle.shell_world.specs.Texts.{Text, Map}
use Rattle.shell_world.specs.Outside.{Trace}
use Rattle.shell_world.specs.Runs.{Signal, Res, Ends, GoesOn, Unspecified}

pub data Outcome : Type 0 where
  Ended : (trace : Trace) (files : Map Text) (status : ℕ) → Outcome
  Going : (trace : Trace) → Outcome
  Unknown : (trace : Trace) → Outcome

abbrev pub outcome : {S : Type 0} → (S → ℕ) → Res Signal S → Outcome
outcome status (Ends signal s left) = Ended s.trace s.outside.files (status s.own)
outcome status (GoesOn t left) = Going t
outcome status (Unspecified t left) = Unknown t

abbrev pub trace_of : Outcome → Trace
trace_of (Ended t files status) = t
trace_of (Going t) = t
trace_of (Unknown t) = t

-- each list of the one is a front of the other's
pub record IsPrefix (t u : Trace) : Type 0 where
  pub calls : (more : List Call) × (u.calls ≡ t.calls ++ more)
  pub out : (more : Text) × (u.out ≡ t.out ++ more)
  pub err : (more : Text) × (u.err ≡ t.err ++ more)
