-- A shell environment of sh (POSIX XCU 2.12).
use Rattle.std.specs.Prelude.{ℕ, zero, suc, Bool, true, false, List, [], ◌∷◌, drop}
use Rattle.shell_world.specs.Texts.{Text, Map, insert}
use Rattle.shell_world.specs.Outside.{Fds}
use Rattle.sh_grammar.specs.Shape.{Command}
use Rattle.sh_meaning.specs.Variables.{Variables, assign}

pub record Own : Type 0 where
  pub vars : Variables
  -- `$0` and the positional parameters
  pub params : List Text
  -- the bodies of the functions
  pub functions : Map Command
  -- `$?`
  pub status : ℕ
  pub fds : Fds

abbrev pub status_of : Own → ℕ
status_of o = o.status

abbrev pub with_status : ℕ → Own → Own
with_status n o = record o { status = n }

abbrev pub fds_of : Own → Fds
fds_of o = o.fds

abbrev pub with_fds : Fds → Own → Own
with_fds fds o = record o { fds = fds }

abbrev pub is_zero : ℕ → Bool
is_zero zero = true
is_zero (suc n) = false

abbrev pub succeeded : Own → Bool
succeeded o = is_zero o.status

-- a variable gets a text, and keeps its mark
abbrev pub assigned : Text → Text → Own → Own
assigned name text o = record o { vars = assign name text o.vars }

abbrev pub defined : Text → Command → Own → Own
defined name body o = record o { functions = insert name body o.functions; status = 0 }

-- the positional parameters, without `$0`
abbrev pub arguments : Own → List Text
arguments o = drop 1 o.params

abbrev pub script_name : List Text → Text
script_name [] = []
script_name (name ∷ args) = name

-- the parameters of a function's body (2.9.5); `$0` stays
abbrev pub with_arguments : List Text → Own → Own
with_arguments args o = record o { params = script_name o.params ∷ args }

-- behind the body
abbrev pub parameters_back : Own → Own → Own
parameters_back caller o = record o { params = caller.params }
