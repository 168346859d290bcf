-- What a Bash script does (Bash manual, sections 3.2 to 3.5 and 3.7). What no form is built for yet is `unbuilt`.
use Rattle.std.specs.Prelude.{ℕ, zero, suc, Bool, true, false, List, [], ◌∷◌, ◌++◌, codes}
use Rattle.span_text.specs.KnownNames.{is_known_command}
use Rattle.shell_world.specs.declared.world.World.{World}
use Rattle.shell_world.specs.Texts.{Text}
use Rattle.shell_world.specs.Outside.{Fds}
use Rattle.shell_world.specs.Calls.{Called, called}
use Rattle.shell_world.specs.Runs.{Signal, Normal, Try, Value, St, Ends, GoesOn, Do, after, if_normal, if_value, with_value, choose, now, gives, unbuilt, Calls}
use Rattle.shell_world.specs.World.{start_outside, start_fds, start_ifs, no_trace}
use Rattle.shell_world.specs.declared.world.Report.{Report}
use Rattle.shell_world.specs.Ends.{Outcome, outcome}
use Rattle.shell_world.specs.Reports.{report as report_of}
use Rattle.bash_tree.specs.Shape.{Part, plain, exact, double, param, Parts, no_part, part, Words, no_word, word, Value as AssignedValue, no_value, value, Assigns, no_assign, assign, Command, simple, Stages, no_stage, stage, Pipeline, pipeline, Links, no_link, and_link, or_link, Chain, chain, Script, no_item, item, background_item}
use Rattle.bash_meaning.specs.Variables.{Scopes, text_of, assign as assign_to, environment, start_scopes}

pub record Own : Type 0 where
  pub scopes : Scopes
  -- `$0` and the positional parameters
  pub params : List Text
  -- `$?`
  pub status : ℕ
  pub fds : Fds

abbrev pub is_zero : ℕ → Bool
is_zero zero = true
is_zero (suc n) = false

abbrev pub succeeded : Own → Bool
succeeded o = is_zero o.status

abbrev pub with_status : ℕ → Own → Own
with_status n o = record o { status = n }

abbrev pub negation : ℕ → ℕ
negation zero = 1
negation (suc n) = 0

abbrev pub negated : Own → Own
negated o = with_status (negation o.status) o

-- ---- words (3.5)

-- a part between double quotes (3.1.2.3)
abbrev pub quoted_part : Part → Do (Try Text) Own
quoted_part (plain text) n s = gives (λ o. text) n s
quoted_part (param name) n s = gives (λ o. text_of name o.scopes) n s
quoted_part (exact text) n s = unbuilt n s
quoted_part (double parts) n s = unbuilt n s

-- the parts' texts, one behind the other
abbrev pub joined : (Part → Do (Try Text) Own) → Parts → Do (Try Text) Own
joined f no_part n s = gives (λ o. []) n s
joined f (part p ps) n s = after (f p n s) (if_value (λ t n s. after (joined f ps n s) (if_value (λ u n s. Ends (Value (t ++ u)) s n))))

abbrev pub word_part : Part → Do (Try Text) Own
word_part (plain text) n s = gives (λ o. text) n s
word_part (exact text) n s = gives (λ o. text) n s
word_part (double parts) n s = joined quoted_part parts n s
word_part (param name) n s = unbuilt n s

-- the text of a word that isn't split
abbrev pub word_text : Parts → Do (Try Text) Own
word_text parts n s = joined word_part parts n s

-- the fields of the words of a command
abbrev pub fields : Words → Do (Try (List Text)) Own
fields no_word n s = gives (λ o. []) n s
fields (word w ws) n s = after (word_text w n s) (if_value (λ t n s. after (fields ws n s) (if_value (λ ts n s. Ends (Value (t ∷ ts)) s n))))

-- ---- commands (3.2)

abbrev pub value_text : AssignedValue → Do (Try Text) Own
value_text no_value n s = gives (λ o. []) n s
value_text (value w) n s = word_text w n s

-- what a name is to hold: with `+=` its text stands before the value (3.4)
abbrev pub new_text : Bool → Text → Text → Own → Text
new_text false name t o = t
new_text true name t o = text_of name o.scopes ++ t

abbrev pub assigned : Bool → Text → Text → Own → Own
assigned append name t o = record o { scopes = assign_to name (new_text append name t o) o.scopes; status = 0 }

-- assignments from left to right; the status is 0 (3.7.1)
abbrev pub assignments : Assigns → Do Signal Own
assignments no_assign n s = now (with_status 0) n s
assignments (assign name append v as') n s =
    after (value_text v n s) (with_value (λ t n s. after (now (assigned append name t) n s) (if_normal (assignments as'))))

-- what an external command leaves behind
abbrev pub answered : Called → Own → Do Signal Own
answered c o n s = Ends Normal (record { trace = c.trace; outside = c.outside; own = with_status c.status o }) n

abbrev pub external : World → List Text → Do Signal Own
external world argv n s = answered (called world argv (environment s.own.scopes) s.own.fds s.trace s.outside) s.own n s

-- a command is found by its first field (3.7.2)
abbrev pub run_fields : World → List Text → Do Signal Own
run_fields world [] n s = now (with_status 0) n s
run_fields world (name ∷ args) n s = choose (is_known_command name) unbuilt (external world (name ∷ args)) n s

abbrev pub simple_run : World → Assigns → Words → Do Signal Own
simple_run world as' no_word n s = assignments as' n s
simple_run world no_assign (word w ws) n s = after (fields (word w ws) n s) (with_value (run_fields world))
simple_run world (assign name append v as') (word w ws) n s = unbuilt n s

-- `call` is what the call of a function with this body does, one level further down
abbrev pub command_run : World → Calls Command Own → Command → Do Signal Own
command_run world call (simple as' ws) n s = simple_run world as' ws n s

abbrev pub stages_run : World → Calls Command Own → Stages → Do Signal Own
stages_run world call no_stage n s = unbuilt n s
stages_run world call (stage c no_stage) n s = command_run world call c n s
stages_run world call (stage c (stage d ds)) n s = unbuilt n s

-- `!` turns the status round (3.2.3)
abbrev pub pipeline_run : World → Calls Command Own → Pipeline → Do Signal Own
pipeline_run world call (pipeline false stages) n s = stages_run world call stages n s
pipeline_run world call (pipeline true stages) n s = after (stages_run world call stages n s) (if_normal (now negated))

-- from left to right: `&&` goes on after success, `||` after failure (3.2.4)
abbrev pub links_run : World → Calls Command Own → Links → Do Signal Own
links_run world call no_link n s = Ends Normal s n
links_run world call (and_link p ls) n s =
    choose (succeeded s.own) (λ n s. after (pipeline_run world call p n s) (if_normal (links_run world call ls))) (links_run world call ls) n s
links_run world call (or_link p ls) n s =
    choose (succeeded s.own) (links_run world call ls) (λ n s. after (pipeline_run world call p n s) (if_normal (links_run world call ls))) n s

abbrev pub chain_run : World → Calls Command Own → Chain → Do Signal Own
chain_run world call (chain p ls) n s = after (pipeline_run world call p n s) (if_normal (links_run world call ls))

abbrev pub script_run : World → Calls Command Own → Script → Do Signal Own
script_run world call no_item n s = Ends Normal s n
script_run world call (item c more) n s = after (chain_run world call c n s) (if_normal (script_run world call more))
script_run world call (background_item c more) n s = unbuilt n s

-- a function's run, at most d levels deep
abbrev pub level : World → ℕ → Calls Command Own
level world zero body n s = GoesOn s.trace n
level world (suc d) body n s = command_run world (level world d) body n s

-- ---- whole runs

abbrev pub start : World → St Own
start world = record {
  trace = no_trace;
  outside = start_outside world;
  own = record { scopes = start_scopes world.env (codes "IFS") start_ifs; params = world.args; status = 0; fds = start_fds };
}

-- how the script ends in this world, with so many turns and levels
abbrev pub run : World → Script → ℕ → ℕ → Outcome
run world script turns depth = outcome (λ o. o.status) (script_run world (level world depth) script turns (start world))

-- what a run of the script in this world reports, under the world's own bounds
abbrev pub report : World → Script → Report
report world script = report_of (λ o. o.status) world.bounds.turns (script_run world (level world world.bounds.depth) script world.bounds.turns (start world))
