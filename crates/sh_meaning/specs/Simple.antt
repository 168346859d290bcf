-- Simple commands (POSIX XCU 2.9.1): words are expanded first, then redirections are made, then the values of assignments are expanded.
use Rattle.std.specs.Prelude.{Bool, true, false, ◌&&◌, if◌then◌else◌, List, [], ◌∷◌, ◌++◌, map, Option, Some, None, codes}
use Rattle.span_text.specs.KnownNames.{same_text, is_known_command}
use Rattle.shell_world.specs.declared.world.World.{World}
use Rattle.shell_world.specs.Texts.{Text, lookup, insert}
use Rattle.shell_world.specs.Calls.{Called, called}
use Rattle.shell_world.specs.Runs.{Ends, Do, after, choose, with_own}
use Rattle.shell_runs.specs.Flow.{Flow, Normal}
use Rattle.shell_runs.specs.Sequences.{now, unspecified}
use Rattle.shell_runs.specs.Calls.{call_do}
use Rattle.shell_runs.specs.Redirecting.{Made}
use Rattle.sh_grammar.specs.Shape.{Part, plain, exact, double, tilde, param, subst, arith, Parts, no_part, part, Words, Assigns, no_assign, assign, Command}
use Rattle.sh_meaning.specs.declared.variable.Variable.{Variable}
use Rattle.sh_meaning.specs.Variables.{Variables, environment, new_variable}
use Rattle.sh_meaning.specs.Own.{Own, with_status, assigned, with_arguments, parameters_back}
use Rattle.sh_meaning.specs.Modes.{Mode, in_fields, in_value}
use Rattle.sh_meaning.specs.Expanded.{Expanded, text_of}
use Rattle.sh_meaning.specs.Expanding.{Fielded, Arguments, fields_over, operand_field_over, checked}
use Rattle.sh_meaning.specs.Redirecting.{around, failed_run}
use Rattle.sh_meaning.specs.builtins.Export.{is_export_operand, is_fit_operand}
use Rattle.sh_meaning.specs.builtins.Forms.{Form}
use Rattle.sh_meaning.specs.builtins.Literals.{is_literal}
use Rattle.sh_meaning.specs.builtins.Names.{is_sh_builtin, is_special}
use Rattle.sh_meaning.specs.builtins.Places.{Place}
use Rattle.sh_meaning.specs.builtins.Run.{builtin_run}

-- what is the same for all commands of a run
pub record Setting : Type 0 where
  pub world : World
  -- the functions that the script defines anywhere
  pub functions : List Text

-- what a call of a function with this body does
abbrev pub Calls : Type 0
Calls = Command → Do Flow Own

-- ---- words

-- what a word is in its command
pub data Role : Type 0 where
  -- the first word
  Name : Role
  Argument : Role
  -- an operand of a literal `export`
  Export : Role

abbrev pub literal_part : Part → Text
literal_part (plain text) = text
literal_part (exact text) = text
literal_part (double ps) = []
literal_part tilde = []
literal_part (param p op) = []
literal_part (subst script) = []
literal_part (arith e ws) = []

abbrev pub literal_inside : Parts → Text
literal_inside no_part = []
literal_inside (part p ps) = literal_part p ++ literal_inside ps

abbrev pub literal_one : Part → Text
literal_one (double ps) = literal_inside ps
literal_one (plain text) = text
literal_one (exact text) = text
literal_one tilde = []
literal_one (param p op) = []
literal_one (subst script) = []
literal_one (arith e ws) = []

-- the text that a literal word stands for
abbrev pub literal_text : Parts → Text
literal_text no_part = []
literal_text (part p ps) = literal_one p ++ literal_text ps

abbrev pub is_literal_export : Parts → Bool
is_literal_export w = is_literal w && same_text (codes "export") (literal_text w)

abbrev pub role_behind : Role → Parts → Role
role_behind Name w = if is_literal_export w then Export else Argument
role_behind Argument w = Argument
role_behind Export w = Export

-- `name=word` behind `export` expands as an assignment does
abbrev pub word_mode : Role → Parts → Mode
word_mode Name w = in_fields
word_mode Argument w = in_fields
word_mode Export w = if is_export_operand w then in_value else in_fields

abbrev pub word_over : Role → Parts → Fielded → Expanded → Do Fielded Own
word_over Name w done e n s = fields_over done e n s
word_over Argument w done e n s = fields_over done e n s
word_over Export w done e n s = choose (is_export_operand w) (operand_field_over done e) (fields_over done e) n s

abbrev pub word_fits : Role → Parts → Bool
word_fits Name w = true
word_fits Argument w = true
word_fits Export w = is_fit_operand w

abbrev pub fitting_run : Role → Parts → Fielded → Do Expanded Own → Do Fielded Own
fitting_run role w done run n s = after (run n s) (word_over role w done)

-- one word, which is expanded by run
abbrev pub word_run : Role → Parts → Fielded → Do Expanded Own → Do Fielded Own
word_run role w done run n s = checked w (choose (word_fits role w) (fitting_run role w done run) unspecified) n s

-- ---- assignments

-- behind the value of an assignment without a command
abbrev pub assigned_over : Text → Expanded → Do Bool Own
assigned_over name e n s = Ends e.ran (with_own s (assigned name (text_of e) s.own)) n

abbrev pub assigned_run : Text → Do Expanded Own → Do Bool Own
assigned_run name v n s = after (v n s) (assigned_over name)

-- behind all of them: the status is that of the last command substitution, or 0
abbrev pub nameless_over : Bool → Do Flow Own
nameless_over true n s = Ends Normal s n
nameless_over false n s = now (with_status 0) n s

abbrev pub nameless_run : (Bool → Do Bool Own) → Bool → Do Flow Own
nameless_run assigns ran n s = after (assigns ran n s) nameless_over

-- ---- assignments before a command: its variables are exported, and gone behind it

-- what the names of a prefix had before them, the last first
abbrev pub Saved : Type 0
Saved = List (Text × Option Variable)

abbrev pub saved_names : Saved → List Text
saved_names saved = map (λ x. x.0) saved

abbrev pub exported : Text → Text → Own → Own
exported name text o = record o { vars = insert name (record { value = Some text; exported = true }) o.vars }

-- behind a value of a prefix
abbrev pub prefix_over : Text → Saved → Expanded → Do Saved Own
prefix_over name saved e n s = Ends ((name, lookup name s.own.vars) ∷ saved) (with_own s (exported name (text_of e) s.own)) n

abbrev pub prefix_value : Text → Saved → Do Expanded Own → Do Saved Own
prefix_value name saved v n s = after (v n s) (prefix_over name saved)

abbrev pub or_new : Option Variable → Variable
or_new None = new_variable
or_new (Some v) = v

abbrev pub restored : Saved → Variables → Variables
restored [] vs = vs
restored (x ∷ more) vs = restored more (insert x.0 (or_new x.1) vs)

-- behind the command
abbrev pub prefix_back : Saved → Flow → Do Flow Own
prefix_back saved flow n s = Ends flow (with_own s (record s.own { vars = restored saved s.own.vars })) n

-- behind the prefix: the command
abbrev pub command_over : Do Flow Own → Saved → Do Flow Own
command_over command saved n s = after (command n s) (prefix_back saved)

abbrev pub prefixed : Do Saved Own → Do Flow Own → Do Flow Own
prefixed prefix command n s = after (prefix n s) (command_over command)

-- ---- commands

-- an external command (2.9.1.4)
abbrev pub answered : Called → Own → Do Flow Own
answered c o n s = Ends Normal (record { trace = c.trace; outside = c.outside; own = with_status c.status o }) n

abbrev pub external_run : World → List Text → Do Flow Own
external_run world argv n s = answered (called world argv (environment s.own.vars) s.own.fds s.trace s.outside) s.own n s

-- what a command's name is: a built-in, a function, or an external command, in this order (2.9.1.1)
pub data Found : Type 0 where
  Special : Found
  Builtin : Found
  Function : Command → Found
  External : Found
  -- a name that some shells give a meaning of their own
  Foreign : Found

abbrev pub function_or : Option Command → Found
function_or None = External
function_or (Some body) = Function body

unfoldable pub found : Text → Own → Found
found name o = if is_special name then Special else if is_sh_builtin name then Builtin else if is_known_command name then Foreign else function_or (lookup name o.functions)

abbrev pub has_assigns : Assigns → Bool
has_assigns no_assign = false
has_assigns (assign name v as') = true

abbrev pub names_of : Assigns → List Text
names_of no_assign = []
names_of (assign name v as') = name ∷ names_of as'

abbrev pub form_of : Setting → Assigns → Words → Form
form_of z as' ws = record { functions = z.functions; prefix = names_of as'; words = ws }

-- the rest of a simple command whose first field is its name; what a redirection leaves isn't looked at
abbrev pub behind : {X : Type 0} → Do X Own → Bool → Do X Own
behind command ran n s = command n s

abbrev pub call_run : Calls → Command → List Text → Do Flow Own
call_run call body args n s = call_do (with_arguments args) parameters_back (call body) n s

-- its redirections, its prefix, and then the command
abbrev pub found_run : Setting → Calls → Place → Form → Do (Made Bool) Own → Do Saved Own → (led : Bool) → Text → List Text → Found → Do Flow Own
found_run z call place form redirects prefix led name args Special n s =
    choose led unspecified (around redirects (behind (builtin_run place form name args)) unspecified) n s
found_run z call place form redirects prefix led name args Builtin n s =
    around redirects (behind (prefixed prefix (builtin_run place form name args))) (failed_run z.world) n s
found_run z call place form redirects prefix led name args (Function body) n s =
    choose led unspecified (around redirects (behind (call_run call body args)) (failed_run z.world)) n s
found_run z call place form redirects prefix led name args External n s =
    around redirects (behind (prefixed prefix (external_run z.world (name ∷ args)))) (failed_run z.world) n s
found_run z call place form redirects prefix led name args Foreign n s = unspecified n s

-- behind the words: without a field, the redirections and then the assignments
abbrev pub simple_by : Setting → Calls → Place → Form → (Bool → Do (Made Bool) Own) → (Bool → Do Bool Own) → Do Saved Own → (led : Bool) → List Text → Bool → Do Flow Own
simple_by z call place form redirects assigns prefix led [] ran n s = around (redirects ran) (nameless_run assigns) (failed_run z.world) n s
simple_by z call place form redirects assigns prefix led (name ∷ args) ran n s =
    found_run z call place form (redirects ran) prefix led name args (found name s.own) n s

abbrev pub simple_over : Setting → Calls → Place → Form → (Bool → Do (Made Bool) Own) → (Bool → Do Bool Own) → Do Saved Own → (led : Bool) → Arguments → Do Flow Own
simple_over z call place form redirects assigns prefix led a n s = simple_by z call place form redirects assigns prefix led a.texts a.ran n s
