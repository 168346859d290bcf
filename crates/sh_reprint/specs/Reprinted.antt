-- What reading a text and printing it anew leaves.
use Rattle.std.specs.Prelude.{◌≡◌, ℕ, ◌<◌, ◌^◌, List, length, Option, Result, Ok, Err}
use Rattle.span_text.specs.Streams.{Wrote, Keeps}
use Rattle.sh_grammar.specs.Bytes.{Text}
use Rattle.sh_grammar.specs.Shape.{Script}
use Rattle.sh_grammar.specs.Spelling.{Reads, IsErrorAt}
use Rattle.sh_printing.specs.Printing.{printed}
use Rattle.sh_reprint.specs.declared.reprint.ReprintFault.{ReprintFault}
use Rattle.sh_reprint.specs.declared.reprint.ReprintFault.TheVariants as fault

-- what writing a script's text leaves: the text, or a front that isn't all where the sink failed, or nothing
abbrev pub Printed : Text → Option Text → Option Text → ℕ → ℕ → Result (Unit {0}) ReprintFault → Type 0
Printed text before later faults now (Ok x) = Wrote {E = ReprintFault} before later faults now (Ok x) text
Printed text before later faults now (Err (fault.Unreadable at)) = ⊥
Printed text before later faults now (Err fault.Output) = Wrote {E = ReprintFault} before later faults now (Err fault.Output) text
Printed text before later faults now (Err fault.Memory) = Keeps before later

-- The text spells a script, and its own text was written so.
abbrev pub Anew : Text → Option Text → Option Text → ℕ → ℕ → Result (Unit {0}) ReprintFault → Type 0
Anew text before later faults now result = (script : Script) × Reads text script × Printed (printed script) before later faults now result

-- The text spells none, and this is the place of the error; nothing was written.
abbrev pub Refused : Text → Option Text → Option Text → ℕ → Type 0
Refused text before later at = ((script : Script) → Reads text script → ⊥) × (IsErrorAt text at) × Keeps before later

-- what each answer says, of the text, the sink before and after, and its counts of faults
abbrev pub Reprinted : Text → Option Text → Option Text → ℕ → ℕ → Result (Unit {0}) ReprintFault → Type 0
Reprinted text before later faults now (Ok x) = Anew text before later faults now (Ok x)
Reprinted text before later faults now (Err (fault.Unreadable at)) = Refused text before later at
Reprinted text before later faults now (Err fault.Output) = Anew text before later faults now (Err fault.Output)
Reprinted text before later faults now (Err fault.Memory) = Keeps before later
