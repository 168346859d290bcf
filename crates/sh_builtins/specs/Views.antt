-- The code's state as the meaning's, and what an answer of the code says of the meaning.
use Rattle.std.specs.Prelude.{◌≡◌, ℕ, Bool, true, false, map, Option, Some, None, Result, Ok, Err}
use Rattle.shell_world.specs.Texts.{Text, Map}
use Rattle.shell_world.specs.Runs.{St, Res, Ends, Unspecified}
use Rattle.shell_world.specs.Running.{Running}
use Rattle.shell_runs.specs.Flow.{Flow}
use Rattle.shell_runs.specs.Flow as ways
use Rattle.sh_grammar.specs.Shape.{Command}
use Rattle.sh_syntax.specs.View.{view_word, words_of}
use Rattle.sh_meaning.specs.Own.{Own}
use Rattle.sh_meaning.specs.builtins.Core.{Core}
use Rattle.sh_meaning.specs.builtins.Ends.{CoreEnding, Ending}
use Rattle.sh_meaning.specs.builtins.Forms as forms
use Rattle.sh_meaning.specs.builtins.Places as places
use Rattle.sh_builtins.specs.declared.environment.Environment.{Environment}
use Rattle.sh_builtins.specs.declared.flow.Flow.{Flow as Code}
use Rattle.sh_builtins.specs.declared.flow.Flow.TheVariants.{Normal, Breaks, Continues, Returns, Exits}
use Rattle.sh_builtins.specs.declared.flow.Place.{Place}
use Rattle.sh_builtins.specs.declared.flow.Stop.{Stop}
use Rattle.sh_builtins.specs.declared.flow.Stop.TheVariants as stop
use Rattle.sh_builtins.specs.declared.form.Form.{Form}
use Rattle.sh_builtins.specs.declared.reading.Backslashes.{Backslashes}
use Rattle.sh_builtins.specs.declared.reading.Backslashes.TheVariants.{Quote, Stand}

abbrev pub flow_of : Code → Flow
flow_of Normal = ways.Normal
flow_of (Breaks more) = ways.Breaks more
flow_of (Continues more) = ways.Continues more
flow_of Returns = ways.Returns
flow_of Exits = ways.Exits

abbrev pub place_of : Place → places.Place
place_of p = record { loops = p.loops; in_function = p.in_function }

abbrev pub form_of : Form → forms.Form
form_of f = record { functions = f.functions.now; prefix = f.prefix.now; words = words_of (map view_word f.words.now) }

abbrev pub core_of : Environment → Core
core_of env = record { vars = env.vars; params = env.params; status = env.status; fds = env.fds }

abbrev pub state_of : Environment → Running → St Core
state_of env r = record { trace = r.trace; outside = r.outside; own = core_of env }

-- with the functions that the interpreter keeps
abbrev pub own_of : Map Command → Environment → Own
own_of functions env = record { vars = env.vars; params = env.params; functions = functions; status = env.status; fds = env.fds }

abbrev pub own_state : Map Command → Environment → Running → St Own
own_state functions env r = record { trace = r.trace; outside = r.outside; own = own_of functions env }

-- what a built-in that changes the environment alone answers and leaves
abbrev pub Changes : CoreEnding → Environment → Result Code Stop → Type 0
Changes e new (Ok flow) = e ≡ Some (flow_of flow, core_of new)
Changes e new (Err stop.Memory) = Unit {0}
Changes e new (Err stop.Unspecified) = e ≡ None

-- what a built-in answers and leaves
abbrev pub Leaves : Ending → Environment → Running → Result Code Stop → Type 0
Leaves e env new (Ok flow) = e ≡ Some (flow_of flow, state_of env new)
Leaves e env new (Err stop.Memory) = Unit {0}
Leaves e env new (Err stop.Unspecified) = e ≡ None

-- the same of a run, with so many turns left and this record before it
abbrev pub Runs : Map Command → Res Flow Own → ℕ → Running → Environment → Running → Result Code Stop → Type 0
Runs functions r n old env new (Ok flow) = r ≡ Ends (flow_of flow) (own_state functions env new) n
Runs functions r n old env new (Err stop.Memory) = Unit {0}
Runs functions r n old env new (Err stop.Unspecified) = r ≡ Unspecified old.trace n

-- where nothing says what is done, the record is as it was
abbrev pub Keeps : Running → Running → Result Code Stop → Type 0
Keeps old new (Ok flow) = Unit {0}
Keeps old new (Err stop.Memory) = Unit {0}
Keeps old new (Err stop.Unspecified) = new.trace ≡ old.trace

-- a text that is printed
abbrev pub Outputs : Option Text → Result Text Stop → Type 0
Outputs o (Ok text) = o ≡ Some text
Outputs o (Err stop.Memory) = Unit {0}
Outputs o (Err stop.Unspecified) = o ≡ None

abbrev pub is_raw : Backslashes → Bool
is_raw Stand = true
is_raw Quote = false

-- how many words stand before the names of `read`
abbrev pub words_before : Backslashes → ℕ
words_before Stand = 2
words_before Quote = 1
