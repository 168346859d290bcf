-- How a run ends whose source gave its bytes.
use Rattle.std.proofs.Common.{◌≡◌, ℕ, List, Option, Some, Ok, subst}
use Rattle.bash2sh.specs.declared.asked.Asked.{Asked}
use Rattle.bash2sh.specs.declared.asked.Asked.TheVariants.{Translate, Run}
use Rattle.bash2sh.specs.declared.status.Status.{Status}
use Rattle.bash2sh.specs.declared.status.Status.TheVariants as status
use Rattle.bash2sh.specs.Answers.{GivesInput}
use Rattle.bash2sh.specs.Sinks.{Sinks}
use Rattle.bash2sh.specs.Program.{limit_of, OnBytes, Ends}

no_usage : (asked : Asked) (b a : Sinks) (text : List ℕ) → OnBytes asked b a text status.Usage → ⊥
no_usage Translate b a text o = o
no_usage (Run k) b a text o = o

no_read_fault : (asked : Asked) (b a : Sinks) (text : List ℕ) → OnBytes asked b a text status.ReadFault → ⊥
no_read_fault Translate b a text o = o
no_read_fault (Run k) b a text o = o

not_too_long : (asked : Asked) (b a : Sinks) (text : List ℕ) → OnBytes asked b a text status.TooLong → ⊥
not_too_long Translate b a text o = o
not_too_long (Run k) b a text o = o

on_bytes : (asked : Asked) (before later : Option (List ℕ)) (faults now : ℕ) (b a : Sinks) (s : Status) (text : List ℕ) → GivesInput (limit_of asked) before later faults now (Ok text) → OnBytes asked b a text s → Ends (Some asked) before later faults now b a s
on_bytes asked before later faults now b a status.Done text h o = (text, h.0, h.1, h.2, o)
on_bytes asked before later faults now b a status.Refused text h o = (text, h.0, h.1, h.2, o)
on_bytes asked before later faults now b a status.WriteFault text h o = (text, h.0, h.1, h.2, o)
on_bytes asked before later faults now b a status.BadWorld text h o = (text, h.0, h.1, h.2, o)
on_bytes asked before later faults now b a status.GoesOn text h o = (text, h.0, h.1, h.2, o)
on_bytes asked before later faults now b a status.Unspecified text h o = (text, h.0, h.1, h.2, o)
on_bytes Translate before later faults now b a status.OutOfMemory text h o = o
on_bytes (Run k) before later faults now b a status.OutOfMemory text h o = o
on_bytes asked before later faults now b a status.Usage text h o = absurd (no_usage asked b a text o)
on_bytes asked before later faults now b a status.ReadFault text h o = absurd (no_read_fault asked b a text o)
on_bytes asked before later faults now b a status.TooLong text h o = absurd (not_too_long asked b a text o)

pub ends_on_bytes : (asked : Asked) (most : ℕ) (before later : Option (List ℕ)) (faults now : ℕ) (b a : Sinks) (s : Status) (text bytes : List ℕ) → most ≡ limit_of asked → bytes ≡ text → GivesInput most before later faults now (Ok text) → OnBytes asked b a bytes s → Ends (Some asked) before later faults now b a s
ends_on_bytes asked most before later faults now b a s text bytes is same h o =
    on_bytes asked before later faults now b a s text (subst (λ (n : ℕ). GivesInput n before later faults now (Ok text)) is h) (subst (λ (l : List ℕ). OnBytes asked b a l s) same o)
