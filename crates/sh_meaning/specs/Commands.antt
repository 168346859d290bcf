-- What the commands of sh do (POSIX XCU 2.9), as a walk over the tree. `call` is what a call of a function does, one level further down.
use Rattle.std.specs.Prelude.{ℕ, suc, zero, Bool, true, false, not, List, [], ◌∷◌}
use Rattle.span_text.specs.KnownNames.{is_known_command}
use Rattle.shell_world.specs.Texts.{Text}
use Rattle.shell_world.specs.Runs.{Ends, Do, after, choose}
use Rattle.shell_runs.specs.Flow.{Flow, Normal}
use Rattle.shell_runs.specs.Sequences.{if_normal, now, unspecified, out_of_bounds}
use Rattle.shell_runs.specs.Loops.{loop_do, items_run}
use Rattle.shell_runs.specs.Redirecting.{Made, Done, if_made}
use Rattle.shell_runs.specs.Shells.{in_shell, substitute, stage_run, piped}
use Rattle.sh_grammar.specs.Shape as shape
use Rattle.sh_grammar.specs.Shape.{Part, plain, exact, double, tilde, param, subst, arith, Parts, no_part, part, ParamOp, as_is, length_of, fill, trim, Words, no_word, word, Value, no_value, value, Assigns, no_assign, assign, Redirects, no_redirect, redirect, Command, command, Kind, simple, group, subshell, branching, loop, walk, cases, function, Branches, no_branch, branch, Otherwise, no_else, otherwise, ForWords, parameters, listed, Items, no_item, item, Stages, no_stage, stage, Pipeline, pipeline, Links, no_link, and_link, or_link, Chain, chain, Script, no_chain, next_chain}
use Rattle.sh_meaning.specs.Own.{Own, status_of, with_status, fds_of, with_fds, succeeded, assigned, defined, arguments}
use Rattle.sh_meaning.specs.Modes.{Mode, in_quotes, in_fill, in_assigning, in_pattern, in_value, in_operand}
use Rattle.sh_meaning.specs.Expanded.{Expanded, nothing, with_exact, text_of}
use Rattle.sh_meaning.specs.Expanding.{is, Where, First, Later, plain_run, quoted_over, tilde_run, subst_over, param_run, length_run, fill_run, trim_run, Operands, no_operands, operand_run, sum_over, checked, Fielded, no_fields, Arguments, pathnames_over, pattern_run, if_unmatched}
use Rattle.sh_meaning.specs.Arithmetic.{behind_signs}
use Rattle.sh_meaning.specs.Lists.{is_entangled}
use Rattle.sh_meaning.specs.Redirecting.{fd_of, redirect_mode, redirect_run, failed_run, around}
use Rattle.sh_meaning.specs.Simple.{Setting, Calls, Role, Name, Argument, word_mode, word_run, role_behind, assigned_run, Saved, saved_names, prefix_value, behind, simple_over, form_of, has_assigns}
use Rattle.sh_meaning.specs.builtins.Places.{Place}

-- ---- where commands stand

abbrev pub in_loop : Place → Place
in_loop place = record place { loops = suc place.loops }

-- a subshell, a stage of a pipeline, a command substitution, and the script itself
abbrev pub in_shell_place : Place
in_shell_place = record { loops = 0; in_function = false }

abbrev pub in_body : Place
in_body = record { loops = 0; in_function = true }

-- ---- what goes on behind a command

abbrev pub negation : ℕ → ℕ
negation zero = 1
negation (suc n) = 0

abbrev pub negated : Own → Own
negated o = with_status (negation o.status) o

-- `!` turns the status round (2.9.2)
abbrev pub negated_run : Bool → Do Flow Own → Do Flow Own
negated_run false run n s = run n s
negated_run true run n s = after (run n s) (if_normal (now negated))

-- a body that may lack commands gives 0 then
abbrev pub or_zero : Script → Do Flow Own → Do Flow Own
or_zero no_chain run n s = now (with_status 0) n s
or_zero (next_chain c more) run n s = run n s

-- the one where the last command succeeded, else the other
abbrev pub by_status : Do Flow Own → Do Flow Own → Do Flow Own
by_status then_run else_run n s = choose (succeeded s.own) then_run else_run n s

-- then run, and then the next
abbrev pub first_then : Do Flow Own → Do Flow Own → Do Flow Own
first_then first next n s = after (first n s) (if_normal next)

-- whether a loop goes on (2.9.4.5, 2.9.4.6)
abbrev pub goes : (until : Bool) → Own → Bool
goes false o = succeeded o
goes true o = not (succeeded o)

-- the body of a function is kept (2.9.5)
abbrev pub defined_run : Text → Command → Do Flow Own
defined_run name body n s = choose (is_known_command name) unspecified (now (defined name body)) n s

-- `for`, over these texts; without any the status is 0
abbrev pub walk_by : Text → Do Flow Own → List Text → Do Flow Own
walk_by name body [] n s = now (with_status 0) n s
walk_by name body (text ∷ more) n s = items_run (assigned name) body (text ∷ more) n s

abbrev pub walk_over : Text → Do Flow Own → Arguments → Do Flow Own
walk_over name body a n s = walk_by name body a.texts n s

abbrev pub walk_run : Do Arguments Own → Text → Do Flow Own → Do Flow Own
walk_run words name body n s = after (words n s) (walk_over name body)

-- behind the word of `case`
abbrev pub subject_over : (Text → Do Flow Own) → Expanded → Do Flow Own
subject_over items e n s = items (text_of e) n s

abbrev pub subject_run : Do Expanded Own → (Text → Do Flow Own) → Do Flow Own
subject_run subject items n s = after (subject n s) (subject_over items)

-- behind the patterns of an item
abbrev pub item_over : Do Flow Own → Do Flow Own → Bool → Do Flow Own
item_over body next true n s = body n s
item_over body next false n s = next n s

abbrev pub item_run : Do Bool Own → Do Flow Own → Do Flow Own → Do Flow Own
item_run patterns body next n s = after (patterns n s) (item_over body next)

abbrev mutual
  -- ---- parts of words (2.6)

  pub part_run : Setting → Calls → Mode → Where → Part → Expanded → Do Expanded Own
  part_run z call mode place (plain text) e n s = plain_run mode place text e n s
  part_run z call mode place (exact text) e n s = Ends (with_exact text e) s n
  part_run z call mode place (double ps) e n s = after (parts_run z call (in_quotes mode) First ps e n s) quoted_over
  part_run z call mode place tilde e n s = tilde_run e n s
  part_run z call mode place (param p op) e n s = op_run z call mode p op e n s
  part_run z call mode place (subst script) e n s =
      after (substitute fds_of with_fds status_of with_status (or_zero script (script_run z call in_shell_place script)) n s) (subst_over mode e)
  part_run z call mode place (arith x ws) e n s = after (operands_run z call (behind_signs x) ws (no_operands e.ran) n s) (sum_over mode x e)

  -- from left to right
  pub parts_run : Setting → Calls → Mode → Where → Parts → Expanded → Do Expanded Own
  parts_run z call mode place no_part e n s = Ends e s n
  parts_run z call mode place (part p ps) e n s = after (part_run z call mode place p e n s) (parts_run z call mode Later ps)

  pub op_run : Setting → Calls → Mode → shape.Param → ParamOp → Expanded → Do Expanded Own
  op_run z call mode p as_is e n s = param_run mode p e n s
  op_run z call mode p length_of e n s = length_run mode p e n s
  op_run z call mode p (fill test colon w) e n s =
      fill_run test colon mode p (parts_run z call (in_fill mode) First w e) (parts_run z call (in_assigning mode) First w (nothing e.ran)) e n s
  op_run z call mode p (trim suffix longest w) e n s = trim_run mode suffix longest p (parts_run z call in_pattern First w (nothing e.ran)) e n s

  -- the expansions of an arithmetic (2.6.4)
  pub operands_run : Setting → Calls → List ℕ → Words → Operands → Do Operands Own
  operands_run z call signs no_word ns n s = Ends ns s n
  operands_run z call signs (word w ws) ns n s =
      after (operand_run signs ns (checked w (parts_run z call in_operand First w (nothing ns.ran))) n s) (operands_run z call signs ws)

  -- ---- words (2.6)

  pub words_run : Setting → Calls → Role → Words → Fielded → Do Fielded Own
  words_run z call role no_word done n s = Ends done s n
  words_run z call role (word w ws) done n s =
      after (word_run role w done (parts_run z call (word_mode role w) First w (nothing done.ran)) n s) (words_run z call (role_behind role w) ws)

  pub for_words_run : Setting → Calls → ForWords → Do Arguments Own
  for_words_run z call parameters n s = Ends (record { texts = arguments s.own; ran = false }) s n
  for_words_run z call (listed ws) n s = after (words_run z call Argument ws no_fields n s) pathnames_over

  -- patterns of `case`, until one matches
  pub patterns_run : Setting → Calls → Words → Text → Do Bool Own
  patterns_run z call no_word text n s = Ends false s n
  patterns_run z call (word w ws) text n s =
      after (pattern_run text (checked w (parts_run z call in_pattern First w (nothing false))) n s) (if_unmatched (patterns_run z call ws text))

  -- what stands behind a `=`, where a substitution ran before or didn't
  pub value_run : Setting → Calls → Value → Bool → Do Expanded Own
  value_run z call no_value ran n s = Ends (nothing ran) s n
  value_run z call (value w) ran n s = checked w (parts_run z call in_value First w (nothing ran)) n s

  -- ---- assignments and redirections (2.9.1, 2.7), from left to right

  pub assigns_run : Setting → Calls → Assigns → Bool → Do Bool Own
  assigns_run z call no_assign ran n s = Ends ran s n
  assigns_run z call (assign name v as') ran n s = after (assigned_run name (value_run z call v ran) n s) (assigns_run z call as')

  pub prefix_run : Setting → Calls → Assigns → Saved → Do Saved Own
  prefix_run z call no_assign saved n s = Ends saved s n
  prefix_run z call (assign name v as') saved n s =
      after (choose (is_entangled (saved_names saved) v) unspecified (prefix_value name saved (value_run z call v false)) n s) (prefix_run z call as')

  pub redirects_run : Setting → Calls → Redirects → Bool → Do (Made Bool) Own
  redirects_run z call no_redirect ran n s = Ends (Done ran) s n
  redirects_run z call (redirect fd op w rs) ran n s =
      after (redirect_run ran (fd_of fd op) op w (checked w (parts_run z call (redirect_mode op) First w (nothing ran))) n s) (if_made (redirects_run z call rs))

  -- ---- commands (2.9)

  pub command_run : Setting → Calls → Place → Command → Do Flow Own
  command_run z call place (command k rs) n s = kind_run z call place (redirects_run z call rs) k n s

  -- a compound command runs between its redirections
  pub kind_run : Setting → Calls → Place → (Bool → Do (Made Bool) Own) → Kind → Do Flow Own
  kind_run z call place redirects (simple as' ws) n s =
      after (after (words_run z call Name ws no_fields n s) pathnames_over)
      (simple_over z call place (form_of z as' ws) redirects (assigns_run z call as') (prefix_run z call as' []) (has_assigns as'))
  kind_run z call place redirects (group script) n s = around (redirects false) (behind (script_run z call place script)) (failed_run z.world) n s
  kind_run z call place redirects (subshell script) n s =
      around (redirects false) (behind (in_shell status_of with_status (script_run z call in_shell_place script))) (failed_run z.world) n s
  kind_run z call place redirects (branching bs o) n s =
      around (redirects false) (behind (branches_run z call place bs (otherwise_run z call place o))) (failed_run z.world) n s
  kind_run z call place redirects (loop until test body) n s =
      around (redirects false) (behind (loop_do (goes until) status_of with_status (script_run z call (in_loop place) test) (script_run z call (in_loop place) body))) (failed_run z.world) n s
  kind_run z call place redirects (walk name ws body) n s =
      around (redirects false) (behind (walk_run (for_words_run z call ws) name (script_run z call (in_loop place) body))) (failed_run z.world) n s
  kind_run z call place redirects (cases w is) n s =
      around (redirects false) (behind (subject_run (checked w (parts_run z call in_value First w (nothing false))) (items_run_from z call place is))) (failed_run z.world) n s
  kind_run z call place redirects (function name body) n s = around (redirects false) (behind (defined_run name body)) (failed_run z.world) n s

  -- the first body whose test succeeds (2.9.4.4)
  pub branches_run : Setting → Calls → Place → Branches → Do Flow Own → Do Flow Own
  branches_run z call place no_branch rest n s = rest n s
  branches_run z call place (branch test body bs) rest n s =
      after (script_run z call place test n s) (if_normal (by_status (script_run z call place body) (branches_run z call place bs rest)))

  pub otherwise_run : Setting → Calls → Place → Otherwise → Do Flow Own
  otherwise_run z call place no_else n s = now (with_status 0) n s
  otherwise_run z call place (otherwise script) n s = script_run z call place script n s

  -- the first item with a pattern that matches (2.9.4.3)
  pub items_run_from : Setting → Calls → Place → Items → Text → Do Flow Own
  items_run_from z call place no_item text n s = now (with_status 0) n s
  items_run_from z call place (item ps body is) text n s =
      item_run (patterns_run z call ps text) (or_zero body (script_run z call place body)) (items_run_from z call place is text) n s

  -- ---- pipelines and lists (2.9.2, 2.9.3)

  -- each of two stages or more is a shell environment of its own; the latitude lets the last one be the current one
  pub stages_run : Setting → Calls → Place → Stages → Do Flow Own
  stages_run z call place no_stage n s = Ends Normal s n
  stages_run z call place (stage c no_stage) n s = command_run z call place c n s
  stages_run z call place (stage c (stage d ds)) n s =
      piped z.world.latitude.last_current with_fds fds_of status_of with_status
      (stage_run fds_of with_fds (command_run z call in_shell_place c) (piped_run z call (stage d ds))) n s

  pub piped_run : Setting → Calls → Stages → Do Flow Own
  piped_run z call no_stage n s = Ends Normal s n
  piped_run z call (stage c no_stage) n s = command_run z call in_shell_place c n s
  piped_run z call (stage c (stage d ds)) n s = stage_run fds_of with_fds (command_run z call in_shell_place c) (piped_run z call (stage d ds)) n s

  pub pipeline_run : Setting → Calls → Place → Pipeline → Do Flow Own
  pipeline_run z call place (pipeline negated ss) n s = negated_run negated (stages_run z call place ss) n s

  -- `&&` goes on after success, `||` after failure
  pub links_run : Setting → Calls → Place → Links → Do Flow Own
  links_run z call place no_link n s = Ends Normal s n
  links_run z call place (and_link p ls) n s =
      by_status (first_then (pipeline_run z call place p) (links_run z call place ls)) (links_run z call place ls) n s
  links_run z call place (or_link p ls) n s =
      by_status (links_run z call place ls) (first_then (pipeline_run z call place p) (links_run z call place ls)) n s

  pub chain_run : Setting → Calls → Place → Chain → Do Flow Own
  chain_run z call place (chain p ls) n s = first_then (pipeline_run z call place p) (links_run z call place ls) n s

  pub script_run : Setting → Calls → Place → Script → Do Flow Own
  script_run z call place no_chain n s = Ends Normal s n
  script_run z call place (next_chain c more) n s = after (chain_run z call place c n s) (if_normal (script_run z call place more))

-- a function's run, at most so many levels deep (2.9.5)
abbrev pub level : Setting → ℕ → Calls
level z zero body n s = out_of_bounds n s
level z (suc d) body n s = command_run z (level z d) in_body body n s
