-- When sh text does what a Bash script does.
use Rattle.std.specs.Prelude.{◌≡◌, ◌≢◌, ℕ}
use Rattle.shell_world.specs.declared.world.World.{World}
use Rattle.shell_world.specs.Texts.{Text, Map}
use Rattle.shell_world.specs.Outside.{Trace}
use Rattle.shell_world.specs.World.{IsGood}
use Rattle.shell_world.specs.Ends.{Ended, Going, Unknown, trace_of, IsPrefix}
use Rattle.bash_tree.specs.Shape.{Script as BashScript}
use Rattle.bash_meaning.specs.Meaning.{run as bash_run}
use Rattle.sh_grammar.specs.Shape.{Script as ShScript}
use Rattle.sh_meaning.specs.Running.{run as sh_run}

-- In every good world, with its latitude, and under any two numbers as bounds:
pub record SameMeaning (bash : BashScript) (sh : ShScript) : Type 0 where
  -- where the one ends, the other ends equally, under some bounds
  pub ends : (world : World) → IsGood world → (turns depth : ℕ) (trace : Trace) (files : Map Text) (status : ℕ) → bash_run world bash turns depth ≡ Ended trace files status
      → (t : ℕ) × (d : ℕ) × (sh_run world sh t d ≡ Ended trace files status)
  pub ends_only : (world : World) → IsGood world → (turns depth : ℕ) (trace : Trace) (files : Map Text) (status : ℕ) → sh_run world sh turns depth ≡ Ended trace files status
      → (t : ℕ) × (d : ℕ) × (bash_run world bash t d ≡ Ended trace files status)
  -- where the one goes on, its record so far is a front of the other's, under some bounds
  pub goes_on : (world : World) → IsGood world → (turns depth : ℕ) (trace : Trace) → bash_run world bash turns depth ≡ Going trace
      → (t : ℕ) × (d : ℕ) × IsPrefix trace (trace_of (sh_run world sh t d))
  pub goes_on_only : (world : World) → IsGood world → (turns depth : ℕ) (trace : Trace) → sh_run world sh turns depth ≡ Going trace
      → (t : ℕ) × (d : ℕ) × IsPrefix trace (trace_of (bash_run world bash t d))
  -- and sh is never left without a meaning
  pub specified : (world : World) → IsGood world → (turns depth : ℕ) (trace : Trace) → sh_run world sh turns depth ≢ Unknown trace
