-- What stands open while a script runs: each frame waits for one kind of payload.
use Rattle.std.specs.Prelude.{ℕ, Bool, List}
use Rattle.span_text.specs.declared.expr.Expr.{Expr}
use Rattle.shell_world.specs.Texts.{Text}
use Rattle.shell_world.specs.Outside.{Fds}
use Rattle.sh_grammar.specs.Shape.{Parts, Words, Assigns, Redirects, RedirectOp, Command, Kind, Branches, Otherwise, Items, Stages, Links, Script}
use Rattle.sh_meaning.specs.Own.{Own}
use Rattle.sh_meaning.specs.Modes.{Mode}
use Rattle.sh_meaning.specs.Expanded.{Expanded}
use Rattle.sh_meaning.specs.Expanding.{Where, Operands, Fielded}
use Rattle.sh_meaning.specs.Simple.{Role, Saved}
use Rattle.sh_meaning.specs.builtins.Places.{Place}

-- behind a word
pub data WordFrame : Type 0 where
  -- further parts
  parts : Mode → Where → Parts → WordFrame
  -- the closing quote
  quoted : WordFrame
  -- `${a=w}`, `${a%w}`, behind w
  assigning : Mode → (name : Text) → Expanded → WordFrame
  trimming : Mode → (suffix longest : Bool) → Text → Expanded → WordFrame
  -- an operand, and those behind it
  operand : (signs : List ℕ) → Operands → Words → WordFrame
  -- a word of a command
  field : Role → Parts → Fielded → WordFrame
  -- a pattern of `case`, with those behind it, the item's body and the items behind it
  pattern : Place → Text → Words → (body : Script) → Items → WordFrame
  -- the word of `case`
  subject : Place → Items → WordFrame
  -- the value of an assignment without a command, and of one before a command
  value : (name : Text) → WordFrame
  prefix_value : (name : Text) → Saved → WordFrame
  -- the word of a redirection
  target : (fd : ℕ) → RedirectOp → WordFrame

-- behind operands
pub data NumbersFrame : Type 0 where
  operands : (signs : List ℕ) → Words → NumbersFrame
  sum : Mode → Expr → Expanded → NumbersFrame

-- behind fields
pub data FieldsFrame : Type 0 where
  words : Role → Words → FieldsFrame
  pathnames : FieldsFrame

-- behind arguments
pub data ArgumentsFrame : Type 0 where
  simple : Place → Assigns → Words → Redirects → ArgumentsFrame
  -- `for`, which stands at this place
  walk : Place → (name : Text) → (body : Script) → ArgumentsFrame

-- behind a truth value
pub data TruthFrame : Type 0 where
  patterns : Place → Text → Words → (body : Script) → Items → TruthFrame
  assigns : Assigns → TruthFrame
  nameless : TruthFrame

-- a command behind its prefix
pub data Prefixed : Type 0 where
  builtin : Place → Assigns → Words → (argv : List Text) → Prefixed
  external : (argv : List Text) → Prefixed

-- behind what the names of a prefix had
pub data SavedFrame : Type 0 where
  prefix : Assigns → SavedFrame
  prefixed : Prefixed → SavedFrame

-- a command behind its redirections
pub data Job : Type 0 where
  -- assignments without a command
  assigning_job : Assigns → Job
  special : Place → Assigns → Words → (argv : List Text) → Job
  called_job : Command → (args : List Text) → Job
  prefixed_job : Assigns → Prefixed → Job
  compound : Place → Kind → Job

-- behind redirections
pub data MadeFrame : Type 0 where
  redirects : Redirects → MadeFrame
  job : Job → MadeFrame

-- behind commands
pub data FlowFrame : Type 0 where
  script : Place → Script → FlowFrame
  links : Place → Links → FlowFrame
  negation : FlowFrame
  -- a stage that writes to the buffer of this number, with those behind it
  stage : ℕ → (before : Own) → Stages → FlowFrame
  pipeline : (before : Own) → FlowFrame
  shell : (before : Own) → FlowFrame
  substitution : ℕ → (before : Own) → Mode → Expanded → FlowFrame
  fds_back : Fds → FlowFrame
  branch : Place → (body : Script) → Branches → Otherwise → FlowFrame
  -- the last body had this status
  loop_test : Place → (until : Bool) → (test body : Script) → (last : ℕ) → FlowFrame
  loop_body : Place → (until : Bool) → (test body : Script) → FlowFrame
  -- `for`, with the texts behind this one
  round : Place → (name : Text) → (body : Script) → List Text → FlowFrame
  -- a function's body: the caller's parameters and levels
  called : (params : List Text) → (levels : ℕ) → FlowFrame

pub data Frame : Type 0 where
  on_word : WordFrame → Frame
  on_numbers : NumbersFrame → Frame
  on_fields : FieldsFrame → Frame
  on_arguments : ArgumentsFrame → Frame
  on_truth : TruthFrame → Frame
  on_saved : SavedFrame → Frame
  on_made : MadeFrame → Frame
  on_ended : FlowFrame → Frame
