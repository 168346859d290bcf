-- How a run of the program ends, and what it leaves.
use Rattle.std.specs.Prelude.{◌≡◌, ℕ, ◌+◌, ◌≤◌, if◌then◌else◌, List, [], ◌∷◌, length, codes, Option, Some, None}
use Rattle.span_text.specs.Streams.{Rose, Grows, Falls}
use Rattle.span_text.specs.Places.{line_of, column_of}
use Rattle.span_text.specs.KnownNames.{same_text}
use Rattle.bash2sh.specs.Answers.{limit, large_limit, Took, Over, refused_line}
use Rattle.bash2sh.specs.declared.messages.Refusal.TheVariants.{NotYet}
use Rattle.bash2sh.specs.Sinks.{Sinks, Line}
use Rattle.bash2sh.specs.Jobs.{OnJob}
use Rattle.bash2sh.specs.declared.language.Language.TheVariants.{Bash, Sh}
use Rattle.bash2sh.specs.declared.asked.Asked.{Asked}
use Rattle.bash2sh.specs.declared.asked.Asked.TheVariants.{Translate, Run}
use Rattle.bash2sh.specs.Translation.{IsTranslated, IsRefused}
use Rattle.bash2sh.specs.declared.status.Status.{Status}
use Rattle.bash2sh.specs.declared.status.Status.TheVariants as status

abbrev pub number_of : Status → ℕ
number_of status.Done = 0
number_of status.Usage = 2
number_of status.Refused = 3
number_of status.ReadFault = 4
number_of status.WriteFault = 5
number_of status.BadWorld = 6
number_of status.TooLong = 7
number_of status.GoesOn = 8
number_of status.OutOfMemory = 9
number_of status.Unspecified = 10

-- the command that a word names
abbrev pub asked_by : List ℕ → Option Asked
asked_by w =
    if same_text w (codes "translate") then Some Translate
    else (if same_text w (codes "run-bash") then Some (Run Bash) else (if same_text w (codes "run-sh") then Some (Run Sh) else None))

-- the words are one command alone
abbrev pub asked_of : List (List ℕ) → Option Asked
asked_of [] = None
asked_of (w ∷ []) = asked_by w
asked_of (w ∷ v ∷ ws) = None

-- how many bytes it takes
abbrev pub limit_of : Asked → ℕ
limit_of Translate = limit
limit_of (Run language) = large_limit

-- how the translation of a text ends
abbrev pub OnText : Sinks → Sinks → List ℕ → Status → Type 0
OnText b a text status.Done = (written : List ℕ) × IsTranslated text written × Grows b.held a.held written × (a.said ≡ b.said)
OnText b a text status.Refused = (place : ℕ) × IsRefused text place × (a.held ≡ b.held) × Line b a (refused_line NotYet (line_of text place) (column_of text place))
OnText b a text status.WriteFault = (written : List ℕ) × IsTranslated text written × Falls b.held a.held written × Rose b.write_faults a.write_faults × Line b a (codes "bash2sh: write fault\n")
OnText b a text status.OutOfMemory = (a.held ≡ b.held) × Line b a (codes "bash2sh: out of memory\n")
OnText b a text status.Usage = ⊥
OnText b a text status.ReadFault = ⊥
OnText b a text status.BadWorld = ⊥
OnText b a text status.TooLong = ⊥
OnText b a text status.GoesOn = ⊥
OnText b a text status.Unspecified = ⊥

-- how a command ends once the bytes are there
abbrev pub OnBytes : Asked → Sinks → Sinks → List ℕ → Status → Type 0
OnBytes Translate b a text s = OnText b a text s
OnBytes (Run language) b a text s = OnJob language b a text s

-- bytes within the limit were all that the source had left
abbrev pub OnInput : Asked → Option (List ℕ) → Option (List ℕ) → Sinks → Sinks → Status → Type 0
OnInput asked before later b a s = (text : List ℕ) × Took before later text × Over before later × (length text ≤ limit_of asked) × OnBytes asked b a text s

-- no command was asked for: nothing is read
abbrev pub OnUsage : Option (List ℕ) → Option (List ℕ) → Sinks → Sinks → Status → Type 0
OnUsage before later b a status.Usage = (later ≡ before) × (a.held ≡ b.held) × Line b a (codes "bash2sh: usage\n")
OnUsage before later b a status.Done = ⊥
OnUsage before later b a status.Refused = ⊥
OnUsage before later b a status.ReadFault = ⊥
OnUsage before later b a status.WriteFault = ⊥
OnUsage before later b a status.BadWorld = ⊥
OnUsage before later b a status.TooLong = ⊥
OnUsage before later b a status.GoesOn = ⊥
OnUsage before later b a status.OutOfMemory = ⊥
OnUsage before later b a status.Unspecified = ⊥

-- THE PROGRAM: how it ends
abbrev pub Ends : Option Asked → Option (List ℕ) → Option (List ℕ) → ℕ → ℕ → Sinks → Sinks → Status → Type 0
Ends None before later faults now b a s = OnUsage before later b a s
Ends (Some asked) before later faults now b a status.Usage = ⊥
Ends (Some asked) before later faults now b a status.Done = OnInput asked before later b a status.Done
Ends (Some asked) before later faults now b a status.Refused = OnInput asked before later b a status.Refused
Ends (Some asked) before later faults now b a status.WriteFault = OnInput asked before later b a status.WriteFault
Ends (Some asked) before later faults now b a status.BadWorld = OnInput asked before later b a status.BadWorld
Ends (Some asked) before later faults now b a status.GoesOn = OnInput asked before later b a status.GoesOn
Ends (Some asked) before later faults now b a status.Unspecified = OnInput asked before later b a status.Unspecified
Ends (Some asked) before later faults now b a status.ReadFault = Rose faults now × (a.held ≡ b.held) × Line b a (codes "bash2sh: read fault\n")
Ends (Some asked) before later faults now b a status.TooLong =
    (taken : List ℕ) × Took before later taken × (length taken ≡ limit_of asked + 1) × (a.held ≡ b.held) × Line b a (codes "bash2sh: too long\n")
Ends (Some asked) before later faults now b a status.OutOfMemory = (a.held ≡ b.held) × Line b a (codes "bash2sh: out of memory\n")
