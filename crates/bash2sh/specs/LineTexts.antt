-- The sh text of commands, as it is made line by line.
use Rattle.std.specs.Prelude.{◌≡◌, ℕ, List, [], ◌++◌, Option, Some, None, Result, Ok, Err}
use Rattle.bash_tree.specs.Shape.{Command}
use Rattle.sh_printing.specs.Printing.{printed}
use Rattle.bash2sh.specs.Lower.{lower}
use Rattle.bash2sh.specs.Model.{put, script_from}
use Rattle.bash2sh.specs.declared.fault.Stop.{Stop}
use Rattle.bash2sh.specs.declared.fault.Stop.TheVariants as stop
use Rattle.bash2sh.specs.declared.fault.ReadFault.{ReadFault}
use Rattle.bash2sh.specs.declared.fault.ReadFault.TheVariants as fault

-- the sh text of these commands, a line each
abbrev pub text_from : List Command → List ℕ
text_from cs = printed (lower (script_from cs))

-- the text of a line's command, where it has one, stands behind what was written
abbrev pub PutsLine : Result (Unit {0}) Stop → Option (Option Command) → List ℕ → List ℕ → Type 0
PutsLine (Ok x) read old new = (o : Option Command) × (read ≡ Some o) × (new ≡ old ++ text_from (put o []))
PutsLine (Err stop.Memory) read old new = Unit {0}
PutsLine (Err stop.Bad) read old new = read ≡ None

-- what the loop over the lines gives
abbrev pub GivesText : Result (List ℕ) ReadFault → Result (List Command) ℕ → Type 0
GivesText (Ok text) read = (cs : List Command) × (read ≡ Ok cs) × (text ≡ text_from cs)
GivesText (Err fault.Memory) read = Unit {0}
GivesText (Err (fault.NotYet place)) read = read ≡ Err place
