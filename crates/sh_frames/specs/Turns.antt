-- What each frame makes of its payload, and what frames make of one in all.
use Rattle.std.specs.Prelude.{ℕ, Bool, false, List, [], ◌∷◌}
use Rattle.shell_world.specs.Texts.{Text}
use Rattle.shell_world.specs.Runs.{Ends, Do, after, with_own}
use Rattle.shell_runs.specs.Flow.{Flow}
use Rattle.shell_runs.specs.Sequences.{if_normal, now, unspecified}
use Rattle.shell_runs.specs.Calls.{returned}
use Rattle.shell_runs.specs.Loops as loops
use Rattle.shell_runs.specs.Loops.{loop_from, loop_do, test_over, body_over, items_run}
use Rattle.shell_runs.specs.Redirecting.{Made, if_made, made_or, fds_back as fds_back_run}
use Rattle.shell_runs.specs.Shells.{in_shell, shell_over, substituted, stage_over, pipeline_over}
use Rattle.sh_grammar.specs.Shape as shape
use Rattle.sh_grammar.specs.Shape.{Assigns, Kind, simple, group, subshell, branching, loop, cases, function, Script}
use Rattle.sh_meaning.specs.Own.{Own, status_of, with_status, fds_of, with_fds, assigned}
use Rattle.sh_meaning.specs.Modes.{in_value}
use Rattle.sh_meaning.specs.Expanded.{Expanded, text_of, nothing}
use Rattle.sh_meaning.specs.Expanding.{First, quoted_over, subst_over, assigning_over, trim_over, Operands, operand_over, sum_over, Fielded, Arguments, checked, pathnames_over, pattern_over, if_unmatched}
use Rattle.sh_meaning.specs.Redirecting.{redirect_over, failed_run}
use Rattle.sh_meaning.specs.Simple.{Setting, Calls, Saved, word_over, assigned_over, prefix_over, command_over, nameless_run, nameless_over, external_run, call_run, form_of, has_assigns, simple_over}
use Rattle.sh_meaning.specs.Commands.{in_loop, in_shell_place, or_zero, by_status, goes, negated, walk_run, walk_over, subject_run, item_over, defined_run, parts_run, operands_run, words_run, for_words_run, patterns_run, assigns_run, prefix_run, redirects_run, branches_run, otherwise_run, items_run_from, piped_run, links_run, script_run, level}
use Rattle.sh_meaning.specs.builtins.Run.{builtin_run}
use Rattle.sh_meaning.specs.builtins.Forms.{Form}
use Rattle.sh_meaning.specs.builtins.Places.{Place}
use Rattle.sh_frames.specs.Payloads.{Payload, ended, word, numbers, fields, arguments, truth, saved, made, Next, to_ended, to_word, to_numbers, to_fields, to_arguments, to_truth, to_saved, to_made}
use Rattle.sh_frames.specs.Frames.{WordFrame, parts, quoted, assigning, trimming, operand, field, pattern, subject, value, prefix_value, target, NumbersFrame, operands, sum, FieldsFrame, words, pathnames, ArgumentsFrame, walk, TruthFrame, patterns, assigns, nameless, Prefixed, builtin, external, SavedFrame, prefix, prefixed, Job, assigning_job, special, called_job, prefixed_job, compound, MadeFrame, redirects, job, FlowFrame, script, links, negation, stage, pipeline, shell, substitution, fds_back, branch, loop_test, loop_body, round, called, Frame, on_word, on_numbers, on_fields, on_arguments, on_truth, on_saved, on_made, on_ended}
use Rattle.sh_frames.specs.Frames as frames

-- behind the patterns of an item of `case`: its body, or the items behind it
abbrev pub item_run_over : Setting → Calls → Place → Text → Script → shape.Items → Bool → Do Flow Own
item_run_over z call place text body is b n s = item_over (or_zero body (script_run z call place body)) (items_run_from z call place is text) b n s

-- the rest of an item of `case`, where this pattern matched or didn't
abbrev pub patterns_over : Setting → Calls → Place → Text → shape.Words → Script → shape.Items → Bool → Do Flow Own
patterns_over z call place text ps body is b n s =
    after (if_unmatched (patterns_run z call ps text) b n s) (item_run_over z call place text body is)

abbrev pub word_turn : Setting → WordFrame → ℕ → Expanded → Next → Do Flow Own
word_turn z (parts mode place ps) d e k n s = after (parts_run z (level z d) mode place ps e n s) (to_word k d)
word_turn z quoted d e k n s = after (quoted_over e n s) (to_word k d)
word_turn z (assigning mode name e) d w k n s = after (assigning_over mode name e w n s) (to_word k d)
word_turn z (trimming mode suffix longest text e) d w k n s = after (trim_over mode suffix longest text e w n s) (to_word k d)
word_turn z (operand signs ns ws) d e k n s = after (after (operand_over signs ns e n s) (operands_run z (level z d) signs ws)) (to_numbers k d)
word_turn z (field role w done) d e k n s = after (word_over role w done e n s) (to_fields k d)
word_turn z (pattern place text ps body is) d e k n s = after (after (pattern_over text e n s) (patterns_over z (level z d) place text ps body is)) (to_ended k d)
word_turn z (subject place is) d e k n s = after (items_run_from z (level z d) place is (text_of e) n s) (to_ended k d)
word_turn z (value name) d e k n s = after (assigned_over name e n s) (to_truth k d)
word_turn z (prefix_value name before) d e k n s = after (prefix_over name before e n s) (to_saved k d)
word_turn z (target fd op) d e k n s = after (redirect_over fd op e n s) (to_made k d)

abbrev pub numbers_turn : Setting → NumbersFrame → ℕ → Operands → Next → Do Flow Own
numbers_turn z (operands signs ws) d ns k n s = after (operands_run z (level z d) signs ws ns n s) (to_numbers k d)
numbers_turn z (sum mode x e) d ns k n s = after (sum_over mode x e ns n s) (to_word k d)

abbrev pub fields_turn : Setting → FieldsFrame → ℕ → Fielded → Next → Do Flow Own
fields_turn z (words role ws) d done k n s = after (words_run z (level z d) role ws done n s) (to_fields k d)
fields_turn z pathnames d done k n s = after (pathnames_over done n s) (to_arguments k d)

abbrev pub arguments_turn : Setting → ArgumentsFrame → ℕ → Arguments → Next → Do Flow Own
arguments_turn z (frames.simple place as' ws rs) d a k n s =
    after (simple_over z (level z d) place (form_of z as' ws) (redirects_run z (level z d) rs) (assigns_run z (level z d) as') (prefix_run z (level z d) as' []) (has_assigns as') a n s) (to_ended k d)
arguments_turn z (walk place name body) d a k n s = after (walk_over name (script_run z (level z d) (in_loop place) body) a n s) (to_ended k d)

abbrev pub truth_turn : Setting → TruthFrame → ℕ → Bool → Next → Do Flow Own
truth_turn z (patterns place text ps body is) d b k n s = after (patterns_over z (level z d) place text ps body is b n s) (to_ended k d)
truth_turn z (assigns as') d b k n s = after (assigns_run z (level z d) as' b n s) (to_truth k d)
truth_turn z nameless d b k n s = after (nameless_over b n s) (to_ended k d)

-- a built-in by its name and arguments
abbrev pub builtin_by : Place → Form → List Text → Do Flow Own
builtin_by place form [] n s = unspecified n s
builtin_by place form (name ∷ args) n s = builtin_run place form name args n s

abbrev pub prefixed_run : Setting → Prefixed → Do Flow Own
prefixed_run z (builtin place as' ws argv) n s = builtin_by place (form_of z as' ws) argv n s
prefixed_run z (external argv) n s = external_run z.world argv n s

abbrev pub saved_turn : Setting → SavedFrame → ℕ → Saved → Next → Do Flow Own
saved_turn z (prefix as') d before k n s = after (prefix_run z (level z d) as' before n s) (to_saved k d)
saved_turn z (prefixed c) d before k n s = after (command_over (prefixed_run z c) before n s) (to_ended k d)

-- a compound command, without its redirections
abbrev pub compound_run : Setting → Calls → Place → Kind → Do Flow Own
compound_run z call place (simple as' ws) n s = unspecified n s
compound_run z call place (group body) n s = script_run z call place body n s
compound_run z call place (subshell body) n s = in_shell status_of with_status (script_run z call in_shell_place body) n s
compound_run z call place (branching bs o) n s = branches_run z call place bs (otherwise_run z call place o) n s
compound_run z call place (loop until test body) n s =
    loop_do (goes until) status_of with_status (script_run z call (in_loop place) test) (script_run z call (in_loop place) body) n s
compound_run z call place (shape.walk name ws body) n s = walk_run (for_words_run z call ws) name (script_run z call (in_loop place) body) n s
compound_run z call place (cases w is) n s = subject_run (checked w (parts_run z call in_value First w (nothing false))) (items_run_from z call place is) n s
compound_run z call place (function name body) n s = defined_run name body n s

abbrev pub job_run : Setting → Calls → Job → Bool → Do Flow Own
job_run z call (assigning_job as') ran n s = nameless_run (assigns_run z call as') ran n s
job_run z call (special place as' ws argv) ran n s = builtin_by place (form_of z as' ws) argv n s
job_run z call (called_job body args) ran n s = call_run call body args n s
job_run z call (prefixed_job as' c) ran n s = after (prefix_run z call as' [] n s) (command_over (prefixed_run z c))
job_run z call (compound place kind) ran n s = compound_run z call place kind n s

-- what is done in place of a job where a redirection failed
abbrev pub job_failed : Setting → Job → Do Flow Own
job_failed z (assigning_job as') n s = failed_run z.world n s
job_failed z (special place as' ws argv) n s = unspecified n s
job_failed z (called_job body args) n s = failed_run z.world n s
job_failed z (prefixed_job as' c) n s = failed_run z.world n s
job_failed z (compound place kind) n s = failed_run z.world n s

abbrev pub made_turn : Setting → MadeFrame → ℕ → Made Bool → Next → Do Flow Own
made_turn z (redirects rs) d m k n s = after (if_made (redirects_run z (level z d) rs) m n s) (to_made k d)
made_turn z (job j) d m k n s = after (made_or (job_run z (level z d) j) (job_failed z j) m n s) (to_ended k d)

-- a loop at this place, whose last body had this status
abbrev pub loop_again : Setting → Calls → Place → Bool → Script → Script → ℕ → Do Flow Own
loop_again z call place until test body last n s =
    loop_from (goes until) status_of with_status (script_run z call (in_loop place) test) (script_run z call (in_loop place) body) last n s

abbrev pub ended_turn : Setting → FlowFrame → ℕ → Flow → Next → Do Flow Own
ended_turn z (script place body) d flow k n s = after (if_normal (script_run z (level z d) place body) flow n s) (to_ended k d)
ended_turn z (links place ls) d flow k n s = after (if_normal (links_run z (level z d) place ls) flow n s) (to_ended k d)
ended_turn z negation d flow k n s = after (if_normal (now negated) flow n s) (to_ended k d)
ended_turn z (stage i before ss) d flow k n s = after (stage_over fds_of with_fds i before (piped_run z (level z d) ss) flow n s) (to_ended k d)
ended_turn z (pipeline before) d flow k n s =
    after (pipeline_over z.world.latitude.last_current with_fds fds_of status_of with_status before flow n s) (to_ended k d)
ended_turn z (shell before) d flow k n s = after (shell_over status_of with_status before flow n s) (to_ended k d)
ended_turn z (substitution i before mode e) d flow k n s =
    after (after (substituted status_of with_status i before flow n s) (subst_over mode e)) (to_word k d)
ended_turn z (fds_back before) d flow k n s = after (fds_back_run with_fds before flow n s) (to_ended k d)
ended_turn z (branch place body bs o) d flow k n s =
    after (if_normal (by_status (script_run z (level z d) place body) (branches_run z (level z d) place bs (otherwise_run z (level z d) place o))) flow n s) (to_ended k d)
ended_turn z (loop_test place until test body last) d flow k n s =
    after (test_over (goes until) status_of with_status (script_run z (level z d) (in_loop place) body) (loop_again z (level z d) place until test body) last flow n s) (to_ended k d)
ended_turn z (loop_body place until test body) d flow k n s =
    after (body_over status_of (loop_again z (level z d) place until test body) flow n s) (to_ended k d)
ended_turn z (round place name body texts) d flow k n s =
    after (loops.item_over (items_run (assigned name) (script_run z (level z d) (in_loop place) body) texts) flow n s) (to_ended k d)
ended_turn z (called params levels) d flow k n s = k levels (ended (returned flow)) n (with_own s (record s.own { params = params }))

-- a frame and a payload that it doesn't wait for are unspecified
abbrev pub turn : Setting → Frame → ℕ → Payload → Next → Do Flow Own
turn z (on_word f) d (word e) k n s = word_turn z f d e k n s
turn z (on_numbers f) d (numbers ns) k n s = numbers_turn z f d ns k n s
turn z (on_fields f) d (fields done) k n s = fields_turn z f d done k n s
turn z (on_arguments f) d (arguments a) k n s = arguments_turn z f d a k n s
turn z (on_truth f) d (truth b) k n s = truth_turn z f d b k n s
turn z (on_saved f) d (saved before) k n s = saved_turn z f d before k n s
turn z (on_made f) d (made m) k n s = made_turn z f d m k n s
turn z (on_ended f) d (ended flow) k n s = ended_turn z f d flow k n s
turn z f d p k n s = unspecified n s

-- what frames make of a payload, the innermost first
abbrev pub go_on : Setting → List Frame → Next
go_on z [] d (ended flow) n s = Ends flow s n
go_on z [] d p n s = unspecified n s
go_on z (f ∷ fs) d p n s = turn z f d p (go_on z fs) n s
