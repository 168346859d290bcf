-- A built-in only lengthens the record.
use Rattle.std.proofs.Common.{ℕ, List, [], ◌∷◌, Bool, true, false, Option, Some, None, refl, length, ◌≤◌, arith}
use Rattle.std.specs.Prelude.{if◌then◌else◌, ◌-◌, drop, codes}
use Rattle.span_text.specs.KnownNames.{same_text}
use Rattle.shell_world.specs.Texts.{Text}
use Rattle.shell_world.specs.Outside.{Trace}
use Rattle.shell_world.specs.Runs.{St}
use Rattle.shell_world.specs.Ends.{IsPrefix}
use Rattle.shell_world.proofs.Monotone.{prefix_refl}
use Rattle.shell_world.proofs.Records.{written_grows}
use Rattle.shell_runs.specs.Bounds.{Later, Under, record_of, turns_left}
use Rattle.sh_meaning.specs.declared.builtin.Builtin.{Builtin}
use Rattle.sh_meaning.specs.declared.builtin.Builtin.TheVariants as builtin
use Rattle.sh_meaning.specs.Own.{Own}
use Rattle.sh_meaning.specs.builtins.Core.{Core, core_state, in_own}
use Rattle.sh_meaning.specs.builtins.Ends.{Ending, CoreEnding, ends, on_core, finished}
use Rattle.sh_meaning.specs.builtins.Forms.{Form}
use Rattle.sh_meaning.specs.builtins.Jumps.{break_run, continue_run, return_run, exit_run}
use Rattle.sh_meaning.specs.builtins.Names.{builtin_of}
use Rattle.sh_meaning.specs.builtins.Parameters.{set_run, shift_run}
use Rattle.sh_meaning.specs.builtins.Places.{Place}
use Rattle.sh_meaning.specs.builtins.Printing.{prints_some, printf_output, echo_output}
use Rattle.sh_meaning.specs.builtins.Reading.{can_read, reads, read_names, read_run}
use Rattle.sh_meaning.specs.builtins.Testing.{tested, ends_tested, test_run, is_closing, before_last, bracket_run}
use Rattle.sh_meaning.specs.builtins.Variables.{export_run, unset_run}
use Rattle.sh_meaning.specs.builtins.Run.{ending, ending_of, builtin_ending, builtin_run}

-- what it leaves has the record before it at its front
abbrev pub Grown : Trace → Ending → Type 0
Grown t None = Unit {0}
Grown t (Some x) = IsPrefix t x.1.trace

core_grown : (s : St Core) (e : CoreEnding) → Grown s.trace (on_core s e)
core_grown s None = tt
core_grown s (Some x) = prefix_refl s.trace

printed_grown : (text : Option Text) (s : St Core) → Grown s.trace (prints_some text s)
printed_grown None s = tt
printed_grown (Some text) s = written_grows 1 s.own.fds text (s.trace, s.outside)

pick_grown : (t : Trace) (b : Bool) (e f : Ending) → Grown t e → Grown t f → Grown t (if b then e else f)
pick_grown t true e f p q = p
pick_grown t false e f p q = q

names_grown : (k : ℕ) (raw : Bool) (form : Form) (names : List Text) (s : St Core) → Grown s.trace (read_names k raw form names s)
names_grown k raw form names s = pick_grown s.trace (can_read k form names) (reads raw names s) None (prefix_refl s.trace) tt

read_grown : (form : Form) (args : List Text) (s : St Core) → Grown s.trace (read_run form args s)
read_grown form [] s = tt
read_grown form (first ∷ more) s = pick_grown s.trace (same_text (codes "-r") first) (read_names 2 true form more s) (read_names 1 false form (first ∷ more) s) (names_grown 2 true form more s) (names_grown 1 false form (first ∷ more) s)

test_grown : (args : List Text) (s : St Core) → Grown s.trace (test_run args s)
test_grown args s = core_grown s (ends_tested (tested s.outside.files args) s.own)

bracket_grown : (args : List Text) (s : St Core) → Grown s.trace (bracket_run args s)
bracket_grown args s = pick_grown s.trace (is_closing (drop (length args - 1) args)) (test_run (before_last args) s) None (test_grown (before_last args) s) tt

ending_grown : (place : Place) (form : Form) (b : Builtin) (args : List Text) (s : St Core) → Grown s.trace (ending place form b args s)
ending_grown place form builtin.Colon args s = core_grown s (ends 0 s.own)
ending_grown place form builtin.True args s = core_grown s (ends 0 s.own)
ending_grown place form builtin.False args s = core_grown s (ends 1 s.own)
ending_grown place form builtin.Break args s = core_grown s (break_run place form args s.own)
ending_grown place form builtin.Continue args s = core_grown s (continue_run place form args s.own)
ending_grown place form builtin.Return args s = core_grown s (return_run place args s.own)
ending_grown place form builtin.Exit args s = core_grown s (exit_run args s.own)
ending_grown place form builtin.Set args s = core_grown s (set_run args s.own)
ending_grown place form builtin.Shift args s = core_grown s (shift_run args s.own)
ending_grown place form builtin.Export args s = core_grown s (export_run form args s.own)
ending_grown place form builtin.Unset args s = core_grown s (unset_run form args s.own)
ending_grown place form builtin.Printf args s = printed_grown (printf_output args) s
ending_grown place form builtin.Read args s = read_grown form args s
ending_grown place form builtin.Test args s = test_grown args s
ending_grown place form builtin.Bracket args s = bracket_grown args s
ending_grown place form builtin.Echo args s = printed_grown (echo_output args) s

of_grown : (place : Place) (form : Form) (b : Option Builtin) (args : List Text) (s : St Core) → Grown s.trace (ending_of place form b args s)
of_grown place form None args s = tt
of_grown place form (Some b) args s = ending_grown place form b args s

builtin_grown : (place : Place) (form : Form) (name : Text) (args : List Text) (s : St Core) → Grown s.trace (builtin_ending place form name args s)
unfolding builtin_ending
builtin_grown place form name args s = of_grown place form (builtin_of name) args s

-- ---- as a run

finished_under : (o : Own) (e : Ending) (s : St Own) → Grown s.trace e → (n m : ℕ) → Later n m (finished (in_own o e) n s) (finished (in_own o e) m s)
finished_under o None s h n m = (m, refl)
finished_under o (Some x) s h n m = (m, refl, omega arith)

finished_grows : (o : Own) (e : Ending) (s : St Own) → Grown s.trace e → (m : ℕ) → IsPrefix s.trace (record_of (finished (in_own o e) m s))
finished_grows o None s h m = prefix_refl s.trace
finished_grows o (Some x) s h m = h

finished_spends : (o : Own) (e : Ending) (s : St Own) (n : ℕ) → turns_left (finished (in_own o e) n s) ≤ n
finished_spends o None s n = omega arith
finished_spends o (Some x) s n = omega arith

pub builtin_under : (place : Place) (form : Form) (name : Text) (args : List Text) → Under (builtin_run place form name args) (builtin_run place form name args)
builtin_under place form name args = record {
  later = λ n m s le. finished_under s.own (builtin_ending place form name args (core_state s)) s (builtin_grown place form name args (core_state s)) n m;
  grows = λ m s. finished_grows s.own (builtin_ending place form name args (core_state s)) s (builtin_grown place form name args (core_state s)) m;
  spends = λ n s. finished_spends s.own (builtin_ending place form name args (core_state s)) s n;
}
