-- What comes of a run of sh and goes to what stands behind it.
use Rattle.std.specs.Prelude.{ℕ, Bool}
use Rattle.shell_world.specs.Runs.{Do}
use Rattle.shell_runs.specs.Flow.{Flow}
use Rattle.shell_runs.specs.Redirecting.{Made}
use Rattle.sh_meaning.specs.Own.{Own}
use Rattle.sh_meaning.specs.Expanded.{Expanded}
use Rattle.sh_meaning.specs.Expanding.{Operands, Fielded, Arguments}
use Rattle.sh_meaning.specs.Simple.{Saved}

pub data Payload : Type 0 where
  -- how commands ended
  ended : Flow → Payload
  -- a word so far
  word : Expanded → Payload
  -- the operands of an expression so far
  numbers : Operands → Payload
  -- fields so far, and what they became
  fields : Fielded → Payload
  arguments : Arguments → Payload
  -- whether a pattern matched, or whether a command substitution ran
  truth : Bool → Payload
  -- what the names of a prefix had before it
  saved : Saved → Payload
  -- how redirections went
  made : Made Bool → Payload

-- what goes on with a payload, with so many levels left
abbrev pub Next : Type 0
Next = ℕ → Payload → Do Flow Own

abbrev pub to_ended : Next → ℕ → Flow → Do Flow Own
to_ended k d flow n s = k d (ended flow) n s

abbrev pub to_word : Next → ℕ → Expanded → Do Flow Own
to_word k d e n s = k d (word e) n s

abbrev pub to_numbers : Next → ℕ → Operands → Do Flow Own
to_numbers k d ns n s = k d (numbers ns) n s

abbrev pub to_fields : Next → ℕ → Fielded → Do Flow Own
to_fields k d done n s = k d (fields done) n s

abbrev pub to_arguments : Next → ℕ → Arguments → Do Flow Own
to_arguments k d args n s = k d (arguments args) n s

abbrev pub to_truth : Next → ℕ → Bool → Do Flow Own
to_truth k d b n s = k d (truth b) n s

abbrev pub to_saved : Next → ℕ → Saved → Do Flow Own
to_saved k d before n s = k d (saved before) n s

abbrev pub to_made : Next → ℕ → Made Bool → Do Flow Own
to_made k d m n s = k d (made m) n s
