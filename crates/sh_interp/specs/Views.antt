-- The code's types as those of the definitions.
use Rattle.std.specs.Prelude.{◌≡◌, ℕ, List, [], ◌∷◌, map, reverse, drop, Option, Some, None}
use Rattle.std.specs.Prelude.{option_map}
use Rattle.shell_world.specs.Texts.{Text, Map}
use Rattle.shell_world.specs.Runs.{St}
use Rattle.shell_runs.specs.Redirecting as redirecting
use Rattle.sh_grammar.specs.Shape as shape
use Rattle.sh_syntax.specs.declared.tree.Command.{Command}
use Rattle.sh_syntax.specs.declared.tree.Script.{Script}
use Rattle.sh_syntax.specs.View.{view, view_word, view_part, view_assign, view_redirect, view_operator, view_command, view_kind, view_item, view_case_item, parts_of, words_of, assigns_of, redirects_of, branches_of, otherwise_of, case_items_of, stages_of, items_of, links_of}
use Rattle.sh_checks.specs.Branches.{branch_views, link_views}
use Rattle.sh_checks.specs.Places.{where_of}
use Rattle.sh_checks.specs.Roles.{role_of}
use Rattle.sh_meaning.specs.declared.variable.Variable.{Variable}
use Rattle.sh_meaning.specs.Own.{Own}
use Rattle.sh_meaning.specs.Simple as simple
use Rattle.sh_meaning.specs.Expanding as expanding
use Rattle.sh_expansion.specs.Views.{mode_of, word_of}
use Rattle.sh_builtins.specs.Views.{flow_of, place_of, own_of}
use Rattle.sh_builtins.specs.declared.flow.Stop.{Stop}
use Rattle.sh_builtins.specs.declared.flow.Stop.TheVariants as stop
use Rattle.sh_interp.specs.declared.halt.Halt.{Halt}
use Rattle.sh_interp.specs.declared.halt.Halt.TheVariants as halt
use Rattle.sh_interp.specs.declared.shell.Setting.{Setting}
use Rattle.sh_interp.specs.declared.shell.Whole.{Whole}
use Rattle.sh_interp.specs.declared.shell.Shell.{Shell}
use Rattle.sh_interp.specs.declared.payload.Operands.{Operands}
use Rattle.sh_interp.specs.declared.payload.Fielded.{Fielded}
use Rattle.sh_interp.specs.declared.payload.Arguments.{Arguments}
use Rattle.sh_interp.specs.declared.payload.Made.{Made}
use Rattle.sh_interp.specs.declared.payload.Made.TheVariants as made
use Rattle.sh_interp.specs.declared.payload.Payload.{Payload}
use Rattle.sh_interp.specs.declared.payload.Payload.TheVariants as payload
use Rattle.sh_interp.specs.declared.frames.WordFrame.{WordFrame}
use Rattle.sh_interp.specs.declared.frames.WordFrame.TheVariants as word_frame
use Rattle.sh_interp.specs.declared.frames.NumbersFrame.{NumbersFrame}
use Rattle.sh_interp.specs.declared.frames.NumbersFrame.TheVariants as numbers_frame
use Rattle.sh_interp.specs.declared.frames.FieldsFrame.{FieldsFrame}
use Rattle.sh_interp.specs.declared.frames.FieldsFrame.TheVariants as fields_frame
use Rattle.sh_interp.specs.declared.frames.ArgumentsFrame.{ArgumentsFrame}
use Rattle.sh_interp.specs.declared.frames.ArgumentsFrame.TheVariants as arguments_frame
use Rattle.sh_interp.specs.declared.frames.TruthFrame.{TruthFrame}
use Rattle.sh_interp.specs.declared.frames.TruthFrame.TheVariants as truth_frame
use Rattle.sh_interp.specs.declared.frames.Prefixed.{Prefixed}
use Rattle.sh_interp.specs.declared.frames.Prefixed.TheVariants as prefixed
use Rattle.sh_interp.specs.declared.frames.SavedFrame.{SavedFrame}
use Rattle.sh_interp.specs.declared.frames.SavedFrame.TheVariants as saved_frame
use Rattle.sh_interp.specs.declared.frames.Job.{Job}
use Rattle.sh_interp.specs.declared.frames.Job.TheVariants as job
use Rattle.sh_interp.specs.declared.frames.MadeFrame.{MadeFrame}
use Rattle.sh_interp.specs.declared.frames.MadeFrame.TheVariants as made_frame
use Rattle.sh_interp.specs.declared.frames.FlowFrame.{FlowFrame}
use Rattle.sh_interp.specs.declared.frames.FlowFrame.TheVariants as flow_frame
use Rattle.sh_interp.specs.declared.frames.Frame.{Frame}
use Rattle.sh_interp.specs.declared.frames.Frame.TheVariants as frame
use Rattle.sh_interp.specs.declared.frames.Frames.{Frames}
use Rattle.sh_interp.specs.declared.jobs.Lookup.{Lookup}
use Rattle.sh_interp.specs.declared.jobs.Lookup.TheVariants as lookup
use Rattle.sh_frames.specs.Payloads as payloads
use Rattle.sh_frames.specs.Frames as frames

-- ---- the state

abbrev pub halt_of : Stop → Halt
halt_of stop.Memory = halt.Memory
halt_of stop.Unspecified = halt.Unspecified

abbrev pub setting_of : Setting → simple.Setting
setting_of z = record { world = z.world.now; functions = z.functions.now }

abbrev pub whole_of : Whole → Own
whole_of w = own_of (map (λ e. (e.0, view_command e.1.now)) w.functions) w.env

abbrev pub state_of : Shell → St Own
state_of shell = record { trace = shell.outside.trace; outside = shell.outside.outside; own = whole_of shell.own }

-- ---- payloads

abbrev pub operands_of : Operands → expanding.Operands
operands_of ns = record { numbers = ns.numbers; ran = ns.ran }

abbrev pub fielded_of : Fielded → expanding.Fielded
fielded_of done = record { fields = done.fields; ran = done.ran }

abbrev pub arguments_of : Arguments → expanding.Arguments
arguments_of a = record { texts = a.texts; ran = a.ran }

abbrev pub made_of : Made → redirecting.Made Rattle.std.specs.Prelude.Bool
made_of (made.Done ran) = redirecting.Done ran
made_of made.Failed = redirecting.Failed

-- the code puts the last name behind the others
abbrev pub saved_of : List (Text × Option Variable) → simple.Saved
saved_of before = reverse before

abbrev pub payload_of : Payload → payloads.Payload
payload_of (payload.Ended flow) = payloads.ended (flow_of flow)
payload_of (payload.Word e) = payloads.word (word_of e)
payload_of (payload.Numbers ns) = payloads.numbers (operands_of ns)
payload_of (payload.Fields done) = payloads.fields (fielded_of done)
payload_of (payload.Arguments a) = payloads.arguments (arguments_of a)
payload_of (payload.Truth b) = payloads.truth b
payload_of (payload.Saved before) = payloads.saved (saved_of before)
payload_of (payload.Made m) = payloads.made (made_of m)

-- ---- frames

abbrev pub word_frame_of : WordFrame → frames.WordFrame
word_frame_of (word_frame.Parts mode place ps) = frames.parts (mode_of mode) (where_of place) (parts_of (map view_part ps.now))
word_frame_of word_frame.Quoted = frames.quoted
word_frame_of (word_frame.Assigning mode name e) = frames.assigning (mode_of mode) name.now (word_of e)
word_frame_of (word_frame.Trimming mode suffix longest text e) = frames.trimming (mode_of mode) suffix longest text (word_of e)
word_frame_of (word_frame.Operand signs ns ws) = frames.operand signs (operands_of ns) (words_of (map view_word ws.now))
word_frame_of (word_frame.Field role w done) = frames.field (role_of role) (view_word w.now) (fielded_of done)
word_frame_of (word_frame.Pattern c) = frames.pattern (place_of c.place) c.text (words_of (map view_word c.patterns.now)) (view c.body.now) (case_items_of (map view_case_item c.items.now))
word_frame_of (word_frame.Subject place is) = frames.subject (place_of place) (case_items_of (map view_case_item is.now))
word_frame_of (word_frame.Value name) = frames.value name.now
word_frame_of (word_frame.PrefixValue name before) = frames.prefix_value name.now (saved_of before)
word_frame_of (word_frame.Target fd op) = frames.target fd (view_operator op)

abbrev pub numbers_frame_of : NumbersFrame → frames.NumbersFrame
numbers_frame_of (numbers_frame.Operands signs ws) = frames.operands signs (words_of (map view_word ws.now))
numbers_frame_of (numbers_frame.Sum mode x e) = frames.sum (mode_of mode) x.now (word_of e)

abbrev pub fields_frame_of : FieldsFrame → frames.FieldsFrame
fields_frame_of (fields_frame.Words role ws) = frames.words (role_of role) (words_of (map view_word ws.now))
fields_frame_of fields_frame.Pathnames = frames.pathnames

abbrev pub arguments_frame_of : ArgumentsFrame → frames.ArgumentsFrame
arguments_frame_of (arguments_frame.Simple place as' ws rs) = frames.simple (place_of place) (assigns_of (map view_assign as'.now)) (words_of (map view_word ws.now)) (redirects_of (map view_redirect rs.now))
arguments_frame_of (arguments_frame.Walk place name body) = frames.walk (place_of place) name.now (view body.now)

abbrev pub truth_frame_of : TruthFrame → frames.TruthFrame
truth_frame_of (truth_frame.Patterns c) = frames.patterns (place_of c.place) c.text (words_of (map view_word c.patterns.now)) (view c.body.now) (case_items_of (map view_case_item c.items.now))
truth_frame_of (truth_frame.Assigns as') = frames.assigns (assigns_of (map view_assign as'.now))
truth_frame_of truth_frame.Nameless = frames.nameless

abbrev pub prefixed_of : Prefixed → frames.Prefixed
prefixed_of (prefixed.Builtin place as' ws argv) = frames.builtin (place_of place) (assigns_of (map view_assign as'.now)) (words_of (map view_word ws.now)) argv
prefixed_of (prefixed.External argv) = frames.external argv

abbrev pub saved_frame_of : SavedFrame → frames.SavedFrame
saved_frame_of (saved_frame.Prefix as') = frames.prefix (assigns_of (map view_assign as'.now))
saved_frame_of (saved_frame.Prefixed c) = frames.prefixed (prefixed_of c)

abbrev pub job_of : Job → frames.Job
job_of (job.Assigning as') = frames.assigning_job (assigns_of (map view_assign as'.now))
job_of (job.Special place as' ws argv) = frames.special (place_of place) (assigns_of (map view_assign as'.now)) (words_of (map view_word ws.now)) argv
job_of (job.Called body argv) = frames.called_job (view_command body.now) (drop 1 argv)
job_of (job.Prefixed as' c) = frames.prefixed_job (assigns_of (map view_assign as'.now)) (prefixed_of c)
job_of (job.Compound place kind) = frames.compound (place_of place) (view_kind kind.now)

abbrev pub made_frame_of : MadeFrame → frames.MadeFrame
made_frame_of (made_frame.Redirects rs) = frames.redirects (redirects_of (map view_redirect rs.now))
made_frame_of (made_frame.Job j) = frames.job (job_of j)

abbrev pub flow_frame_of : FlowFrame → frames.FlowFrame
flow_frame_of (flow_frame.Script place is) = frames.script (place_of place) (items_of (map view_item is.now))
flow_frame_of (flow_frame.Links place ls) = frames.links (place_of place) (links_of (link_views ls.now))
flow_frame_of flow_frame.Negation = frames.negation
flow_frame_of (flow_frame.Stage i before cs) = frames.stage i.0 (whole_of before) (stages_of (map view_command cs.now))
flow_frame_of (flow_frame.Pipeline before) = frames.pipeline (whole_of before)
flow_frame_of (flow_frame.Shell before) = frames.shell (whole_of before)
flow_frame_of (flow_frame.Substitution i before mode e) = frames.substitution i.0 (whole_of before) (mode_of mode) (word_of e)
flow_frame_of (flow_frame.FdsBack fds) = frames.fds_back fds
flow_frame_of (flow_frame.Branch place body bs o) = frames.branch (place_of place) (view body.now) (branches_of (branch_views bs.now)) (otherwise_of (option_map view o.now))
flow_frame_of (flow_frame.LoopTest l last) = frames.loop_test (place_of l.place) l.until (view l.test.now) (view l.body.now) last
flow_frame_of (flow_frame.LoopBody l) = frames.loop_body (place_of l.place) l.until (view l.test.now) (view l.body.now)
flow_frame_of (flow_frame.Round place name body texts done) = frames.round (place_of place) name.now (view body.now) (drop done texts)
flow_frame_of (flow_frame.Called params levels) = frames.called params levels

abbrev pub frame_of : Frame → frames.Frame
frame_of (frame.Word f) = frames.on_word (word_frame_of f)
frame_of (frame.Numbers f) = frames.on_numbers (numbers_frame_of f)
frame_of (frame.Fields f) = frames.on_fields (fields_frame_of f)
frame_of (frame.Arguments f) = frames.on_arguments (arguments_frame_of f)
frame_of (frame.Truth f) = frames.on_truth (truth_frame_of f)
frame_of (frame.Saved f) = frames.on_saved (saved_frame_of f)
frame_of (frame.Made f) = frames.on_made (made_frame_of f)
frame_of (frame.Ended f) = frames.on_ended (flow_frame_of f)

-- the innermost frame stands last in the code
abbrev pub frames_of : List Frame → List frames.Frame
frames_of fs = reverse (map frame_of fs)

abbrev pub stack_of : Frames → List frames.Frame
stack_of f = frames_of f.cells.items

-- the innermost frame is taken out, or there was none
abbrev pub Popped : List frames.Frame → List frames.Frame → Option Frame → Type 0
Popped old new None = old ≡ []
Popped old new (Some f) = old ≡ frame_of f ∷ new

-- ---- commands

abbrev pub found_of : Lookup → simple.Found
found_of lookup.Special = simple.Special
found_of lookup.Builtin = simple.Builtin
found_of (lookup.Function body) = simple.Function (view_command body.now)
found_of lookup.External = simple.External
found_of lookup.Foreign = simple.Foreign

-- the first of a command's texts is looked up, or there is none
abbrev pub Looked : List Text → Own → Option Lookup → Type 0
Looked texts o None = texts ≡ []
Looked [] o (Some l) = ⊥
Looked (name ∷ args) o (Some l) = found_of l ≡ simple.found name o
