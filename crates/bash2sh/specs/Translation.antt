-- What comes of a script's text, and what is written for it.
use Rattle.std.specs.Prelude.{◌≡◌, ℕ, ◌≤◌, List, Option, Result, Ok, Err}
use Rattle.span_text.specs.Streams.{Rose, Grows, Falls}
use Rattle.bash_tree.specs.Shape.{Script as BashScript}
use Rattle.sh_grammar.specs.Shape.{Script as ShScript}
use Rattle.sh_grammar.specs.Spelling.{Reads as ShReads}
use Rattle.bash2sh.specs.SameMeaning.{SameMeaning}
use Rattle.bash2sh.specs.Spelling.{Reads, IsFirstBad}
use Rattle.bash2sh.specs.declared.fault.TranslateFault.{TranslateFault}
use Rattle.bash2sh.specs.declared.fault.TranslateFault.TheVariants as fault

-- THE THEOREM: the text spells a Bash script, what is written spells an sh script, and both mean the same
pub record IsTranslated (text written : List ℕ) : Type 0 where
  pub bash : BashScript
  pub spelled : Reads text bash
  pub sh : ShScript
  pub reads : ShReads written sh
  pub same : SameMeaning bash sh

-- the text spells no script of the form that is taken, and at this offset stands its first other line
pub record IsRefused (text : List ℕ) (place : ℕ) : Type 0 where
  pub no_script : (s : BashScript) → ¬ Reads text s
  pub first : IsFirstBad text place

-- All of the translation was written; or nothing, where memory ran out or the text is refused; or a front of it that isn't all, where the sink failed.
abbrev pub Translates : List ℕ → Option (List ℕ) → Option (List ℕ) → ℕ → ℕ → Result (Unit {0}) TranslateFault → Type 0
Translates text before later faults now (Ok x) = (written : List ℕ) × IsTranslated text written × Grows before later written × (faults ≤ now)
Translates text before later faults now (Err fault.Memory) = (later ≡ before) × (now ≡ faults)
Translates text before later faults now (Err (fault.NotYet place)) = IsRefused text place × (later ≡ before) × (now ≡ faults)
Translates text before later faults now (Err fault.Output) = (written : List ℕ) × IsTranslated text written × Falls before later written × (faults ≤ now) × Rose faults now
