-- What a run of the program takes, writes and answers.
use Rattle.std.specs.Prelude.{◌≡◌, ℕ, ◌+◌, ◌≤◌, List, [], ◌∷◌, ◌++◌, length, codes, decimal, Option, Some, None, Result, Ok, Err, ◌⊎◌}
use Rattle.span_text.specs.Streams.{Rose, Grows, Falls}
use Rattle.world_json.specs.declared.fault.Reason.{Reason}
use Rattle.world_json.specs.Judging.{reason_word}
use Rattle.bash2sh.specs.declared.messages.Refusal.{Refusal}
use Rattle.bash2sh.specs.declared.messages.Refusal.TheVariants as refusal
use Rattle.bash2sh.specs.declared.input.InputFault.{InputFault}
use Rattle.bash2sh.specs.declared.input.InputFault.TheVariants as input

-- how many bytes a Bash script may have, and how many sh text and a job may have
abbrev pub limit : ℕ
limit = 1048576

abbrev pub large_limit : ℕ
large_limit = 16777216

-- ---- what is read

-- these bytes were taken from what was left, where that is told
abbrev pub Took : Option (List ℕ) → Option (List ℕ) → List ℕ → Type 0
Took None later taken = Unit {0}
Took (Some left) later taken = (rest : List ℕ) × (left ≡ taken ++ rest) × (later ≡ Some rest)

-- nothing is left, where what was left was told
abbrev pub Over : Option (List ℕ) → Option (List ℕ) → Type 0
Over None later = Unit {0}
Over (Some left) later = later ≡ Some []

-- All that was left, within the limit; or a fault that was counted; or one byte more than the limit.
abbrev pub GivesInput : ℕ → Option (List ℕ) → Option (List ℕ) → ℕ → ℕ → Result (List ℕ) InputFault → Type 0
GivesInput most before later faults now (Ok text) = Took before later text × Over before later × (length text ≤ most) × (faults ≤ now)
GivesInput most before later faults now (Err input.Memory) = faults ≤ now
GivesInput most before later faults now (Err input.Failed) = Rose faults now
GivesInput most before later faults now (Err input.TooLong) = (taken : List ℕ) × Took before later taken × (length taken ≡ most + 1) × (faults ≤ now)

-- ---- what is said

-- The line was put behind what was held; or, after a fault that was counted, a front of it that isn't all.
abbrev pub Said : Option (List ℕ) → Option (List ℕ) → ℕ → ℕ → List ℕ → Type 0
Said before later faults now line = (Grows before later line × (faults ≤ now)) ⊎ (Falls before later line × (faults ≤ now) × Rose faults now)

-- why a script is refused, as a word
abbrev pub refusal_word : Refusal → List ℕ
refusal_word refusal.ShSyntax = codes "sh-syntax"
refusal_word refusal.NotYet = codes "not-yet"

-- `: not-yet`, and the end of the line
abbrev pub refusal_tail : Refusal → List ℕ
refusal_tail r = codes ": " ++ (refusal_word r ++ 10 ∷ [])

-- `bash2sh: 2:1: not-yet`
abbrev pub refused_line : Refusal → ℕ → ℕ → List ℕ
refused_line r line column = codes "bash2sh: " ++ ((decimal line ++ 58 ∷ decimal column) ++ refusal_tail r)

-- `bash2sh: /env/__bs_q: reserved`
abbrev pub bad_world_line : List ℕ → Reason → List ℕ
bad_world_line pointer r = codes "bash2sh: " ++ (pointer ++ (codes ": " ++ (reason_word r ++ 10 ∷ [])))
