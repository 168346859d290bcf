-- Larger bounds change nothing of a script's run that is over, and only lengthen the record of one that goes on.
use Rattle.std.proofs.Common.{ℕ, zero, suc, ◌≤◌, List, [], ◌∷◌, Bool, true, false, arith}
use Rattle.span_text.specs.KnownNames.{is_known_command}
use Rattle.shell_world.specs.Texts.{Text}
use Rattle.shell_world.specs.Runs.{Do, choose}
use Rattle.shell_world.proofs.Monotone.{prefix_refl}
use Rattle.shell_runs.specs.Flow.{Flow, Normal}
use Rattle.shell_runs.specs.Redirecting.{Made, Done}
use Rattle.shell_runs.specs.Bounds.{Under}
use Rattle.shell_runs.proofs.Monotone.{under_after, under_is, under_unspecified, under_stop, under_choose, under_by}
use Rattle.shell_runs.proofs.Combined.{under_flow, under_if_normal, under_now, under_loop, under_items, under_if_made, under_shell, under_substitute, under_stage, under_piped}
use Rattle.sh_grammar.specs.Shape as shape
use Rattle.sh_grammar.specs.Shape.{Part, plain, exact, double, tilde, param, subst, arith as sum, Parts, no_part, part, ParamOp, as_is, length_of, fill, trim, Words, no_word, word, Value, no_value, value, Assigns, no_assign, assign, Redirects, no_redirect, redirect, Command, command, Kind, simple, group, subshell, branching, loop, walk, cases, function, Branches, no_branch, branch, Otherwise, no_else, otherwise, ForWords, parameters, listed, Items, no_item, item, Stages, no_stage, stage, Pipeline, pipeline, Links, no_link, and_link, or_link, Chain, chain, Script, no_chain, next_chain}
use Rattle.sh_meaning.specs.Own.{Own, status_of, with_status, fds_of, with_fds, succeeded, assigned, defined}
use Rattle.sh_meaning.specs.Modes.{Mode, in_quotes, in_fill, in_assigning, in_pattern, in_value, in_operand}
use Rattle.sh_meaning.specs.Expanded.{Expanded, nothing, with_exact, text_of}
use Rattle.sh_meaning.specs.Arithmetic.{behind_signs}
use Rattle.sh_meaning.specs.Expanding.{Where, First, Later, Operands, no_operands, Fielded, no_fields, Arguments}
use Rattle.sh_meaning.specs.Lists.{is_entangled}
use Rattle.sh_meaning.specs.Redirecting.{fd_of, redirect_mode}
use Rattle.sh_meaning.specs.Simple.{Setting, Calls, Role, Name, Argument, word_mode, role_behind, Saved, saved_names, form_of, has_assigns}
use Rattle.sh_meaning.specs.builtins.Places.{Place}
use Rattle.sh_meaning.specs.Commands.{in_loop, in_shell_place, in_body, negated, negated_run, or_zero, by_status, first_then, goes, defined_run, walk_by, walk_over, walk_run, subject_over, subject_run, item_over, item_run, part_run, parts_run, op_run, operands_run, words_run, for_words_run, patterns_run, value_run, assigns_run, prefix_run, redirects_run, command_run, kind_run, branches_run, otherwise_run, items_run_from, stages_run, piped_run, pipeline_run, links_run, chain_run, script_run, level}
use Rattle.sh_meaning.proofs.Steps.{plain_under, quoted_over_under, tilde_under, subst_over_under, param_under, length_under, fill_under, trim_under, operand_under, sum_over_under, checked_under, pathnames_under, pattern_under, unmatched_under, redirect_under, failed_under, around_under}
use Rattle.sh_meaning.proofs.Simples.{word_under, assigned_under, prefix_value_under, simple_under}

-- ---- what goes on behind a command

negated_under : (b : Bool) (c d : Do Flow Own) → Under c d → Under (negated_run b c) (negated_run b d)
negated_under false c d u = u
negated_under true c d u = under_after c d _ _ u (under_if_normal _ _ (under_now negated))

or_zero_under : (k : Script) (c d : Do Flow Own) → Under c d → Under (or_zero k c) (or_zero k d)
or_zero_under no_chain c d u = under_now (with_status 0)
or_zero_under (next_chain k ks) c d u = u

by_status_under : (a a' b b' : Do Flow Own) → Under a a' → Under b b' → Under (by_status a b) (by_status a' b')
by_status_under a a' b b' u v = under_by (λ s. choose (succeeded s.own) a b) (λ s. choose (succeeded s.own) a' b') (λ s. under_choose (succeeded s.own) a a' b b' u v)

then_under : (a a' b b' : Do Flow Own) → Under a a' → Under b b' → Under (first_then a b) (first_then a' b')
then_under a a' b b' u v = under_after a a' _ _ u (under_if_normal b b' v)

defined_under : (name : Text) (body : Command) → Under (defined_run name body) (defined_run name body)
defined_under name body = under_choose (is_known_command name) _ _ _ _ under_unspecified (under_now (defined name body))

walk_by_under : (name : Text) (c d : Do Flow Own) → Under c d → (texts : List Text) → Under (walk_by name c texts) (walk_by name d texts)
walk_by_under name c d u [] = under_now (with_status 0)
walk_by_under name c d u (text ∷ more) = under_items (assigned name) c d u (text ∷ more)

walk_over_under : (name : Text) (c d : Do Flow Own) → Under c d → (a : Arguments) → Under (walk_over name c a) (walk_over name d a)
walk_over_under name c d u a = walk_by_under name c d u a.texts

walk_under : (w w' : Do Arguments Own) (name : Text) (c d : Do Flow Own) → Under w w' → Under c d → Under (walk_run w name c) (walk_run w' name d)
walk_under w w' name c d u v = under_after w w' _ _ u (walk_over_under name c d v)

subject_over_under : (k k' : Text → Do Flow Own) → ((t : Text) → Under (k t) (k' t)) → (e : Expanded) → Under (subject_over k e) (subject_over k' e)
subject_over_under k k' u e = u (text_of e)

subject_under : (w w' : Do Expanded Own) (k k' : Text → Do Flow Own) → Under w w' → ((t : Text) → Under (k t) (k' t)) → Under (subject_run w k) (subject_run w' k')
subject_under w w' k k' u v = under_after w w' _ _ u (subject_over_under k k' v)

item_over_under : (a a' b b' : Do Flow Own) → Under a a' → Under b b' → (m : Bool) → Under (item_over a b m) (item_over a' b' m)
item_over_under a a' b b' u v true = u
item_over_under a a' b b' u v false = v

item_under : (p p' : Do Bool Own) (a a' b b' : Do Flow Own) → Under p p' → Under a a' → Under b b' → Under (item_run p a b) (item_run p' a' b')
item_under p p' a a' b b' up u v = under_after p p' _ _ up (item_over_under a a' b b' u v)

module _ (z : Setting) (c d : Calls) (u : (k : Command) → Under (c k) (d k)) where
  mutual
    part_under : (mode : Mode) (place : Where) (p : Part) (e : Expanded) → Under (part_run z c mode place p e) (part_run z d mode place p e)
    part_under mode place (plain text) e = plain_under mode place text e
    part_under mode place (exact text) e = under_is (λ s. with_exact text e)
    part_under mode place (double ps) e = under_after _ _ _ _ (parts_under (in_quotes mode) First ps e) quoted_over_under
    part_under mode place tilde e = tilde_under e
    part_under mode place (param p op) e = op_under mode p op e
    part_under mode place (subst k) e = under_after _ _ _ _ (under_substitute fds_of with_fds status_of with_status _ _ (or_zero_under k _ _ (script_under in_shell_place k))) (subst_over_under mode e)
    part_under mode place (sum x ws) e = under_after _ _ _ _ (operands_under (behind_signs x) ws (no_operands e.ran)) (sum_over_under mode x e)

    parts_under : (mode : Mode) (place : Where) (ps : Parts) (e : Expanded) → Under (parts_run z c mode place ps e) (parts_run z d mode place ps e)
    parts_under mode place no_part e = under_is (λ s. e)
    parts_under mode place (part p ps) e = under_after _ _ _ _ (part_under mode place p e) (parts_under mode Later ps)

    op_under : (mode : Mode) (p : shape.Param) (op : ParamOp) (e : Expanded) → Under (op_run z c mode p op e) (op_run z d mode p op e)
    op_under mode p as_is e = param_under mode p e
    op_under mode p length_of e = length_under mode p e
    op_under mode p (fill test colon w) e = fill_under test colon mode p _ _ _ _ (parts_under (in_fill mode) First w e) (parts_under (in_assigning mode) First w (nothing e.ran)) e
    op_under mode p (trim suffix longest w) e = trim_under mode suffix longest p _ _ (parts_under in_pattern First w (nothing e.ran)) e

    operands_under : (signs : List ℕ) (ws : Words) (ns : Operands) → Under (operands_run z c signs ws ns) (operands_run z d signs ws ns)
    operands_under signs no_word ns = under_is (λ s. ns)
    operands_under signs (word w ws) ns = under_after _ _ _ _ (operand_under signs ns _ _ (checked_under w _ _ (parts_under in_operand First w (nothing ns.ran)))) (operands_under signs ws)

    words_under : (role : Role) (ws : Words) (done : Fielded) → Under (words_run z c role ws done) (words_run z d role ws done)
    words_under role no_word done = under_is (λ s. done)
    words_under role (word w ws) done = under_after _ _ _ _ (word_under role w done _ _ (parts_under (word_mode role w) First w (nothing done.ran))) (words_under (role_behind role w) ws)

    for_words_under : (ws : ForWords) → Under (for_words_run z c ws) (for_words_run z d ws)
    for_words_under parameters = under_is _
    for_words_under (listed ws) = under_after _ _ _ _ (words_under Argument ws no_fields) pathnames_under

    patterns_under : (ws : Words) (text : Text) → Under (patterns_run z c ws text) (patterns_run z d ws text)
    patterns_under no_word text = under_is (λ s. false)
    patterns_under (word w ws) text = under_after _ _ _ _ (pattern_under text _ _ (checked_under w _ _ (parts_under in_pattern First w (nothing false)))) (unmatched_under _ _ (patterns_under ws text))

    value_under : (v : Value) (ran : Bool) → Under (value_run z c v ran) (value_run z d v ran)
    value_under no_value ran = under_is (λ s. nothing ran)
    value_under (value w) ran = checked_under w _ _ (parts_under in_value First w (nothing ran))

    assigns_under : (as' : Assigns) (ran : Bool) → Under (assigns_run z c as' ran) (assigns_run z d as' ran)
    assigns_under no_assign ran = under_is (λ s. ran)
    assigns_under (assign name v as') ran = under_after _ _ _ _ (assigned_under name _ _ (value_under v ran)) (assigns_under as')

    prefix_under : (as' : Assigns) (saved : Saved) → Under (prefix_run z c as' saved) (prefix_run z d as' saved)
    prefix_under no_assign saved = under_is (λ s. saved)
    prefix_under (assign name v as') saved =
        under_after _ _ _ _ (under_choose (is_entangled (saved_names saved) v) _ _ _ _ under_unspecified (prefix_value_under name saved _ _ (value_under v false))) (prefix_under as')

    redirects_under : (rs : Redirects) (ran : Bool) → Under (redirects_run z c rs ran) (redirects_run z d rs ran)
    redirects_under no_redirect ran = under_is (λ s. Done ran)
    redirects_under (redirect fd op w rs) ran =
        under_after _ _ _ _ (redirect_under ran (fd_of fd op) op w _ _ (checked_under w _ _ (parts_under (redirect_mode op) First w (nothing ran)))) (under_if_made _ _ (redirects_under rs))

    command_under : (place : Place) (k : Command) → Under (command_run z c place k) (command_run z d place k)
    command_under place (command k rs) = kind_under place _ _ (redirects_under rs) k

    kind_under : (place : Place) (r r' : Bool → Do (Made Bool) Own) → ((b : Bool) → Under (r b) (r' b)) → (k : Kind) → Under (kind_run z c place r k) (kind_run z d place r' k)
    kind_under place r r' ur (simple as' ws) = under_after _ _ _ _ (under_after _ _ _ _ (words_under Name ws no_fields) pathnames_under)
        (simple_under z c d u place (form_of z as' ws) (has_assigns as') r r' _ _ _ _ ur (assigns_under as') (prefix_under as' []))
    kind_under place r r' ur (group k) = around_under _ _ _ _ _ _ (ur false) (λ b. script_under place k) (failed_under z.world)
    kind_under place r r' ur (subshell k) = around_under _ _ _ _ _ _ (ur false) (λ b. under_shell status_of with_status _ _ (script_under in_shell_place k)) (failed_under z.world)
    kind_under place r r' ur (branching bs o) = around_under _ _ _ _ _ _ (ur false) (λ b. branches_under place bs _ _ (otherwise_under place o)) (failed_under z.world)
    kind_under place r r' ur (loop until test body) = around_under _ _ _ _ _ _ (ur false) (λ b. under_loop (goes until) status_of with_status _ _ _ _ (script_under (in_loop place) test) (script_under (in_loop place) body)) (failed_under z.world)
    kind_under place r r' ur (walk name ws body) = around_under _ _ _ _ _ _ (ur false) (λ b. walk_under _ _ name _ _ (for_words_under ws) (script_under (in_loop place) body)) (failed_under z.world)
    kind_under place r r' ur (cases w is) = around_under _ _ _ _ _ _ (ur false) (λ b. subject_under _ _ _ _ (checked_under w _ _ (parts_under in_value First w (nothing false))) (items_under place is)) (failed_under z.world)
    kind_under place r r' ur (function name body) = around_under _ _ _ _ _ _ (ur false) (λ b. defined_under name body) (failed_under z.world)

    branches_under : (place : Place) (bs : Branches) (r r' : Do Flow Own) → Under r r' → Under (branches_run z c place bs r) (branches_run z d place bs r')
    branches_under place no_branch r r' ur = ur
    branches_under place (branch test body bs) r r' ur =
        under_after _ _ _ _ (script_under place test) (under_if_normal _ _ (by_status_under _ _ _ _ (script_under place body) (branches_under place bs r r' ur)))

    otherwise_under : (place : Place) (o : Otherwise) → Under (otherwise_run z c place o) (otherwise_run z d place o)
    otherwise_under place no_else = under_now (with_status 0)
    otherwise_under place (otherwise k) = script_under place k

    items_under : (place : Place) (is : Items) (text : Text) → Under (items_run_from z c place is text) (items_run_from z d place is text)
    items_under place no_item text = under_now (with_status 0)
    items_under place (item ps body is) text = item_under _ _ _ _ _ _ (patterns_under ps text) (or_zero_under body _ _ (script_under place body)) (items_under place is text)

    stages_under : (place : Place) (ss : Stages) → Under (stages_run z c place ss) (stages_run z d place ss)
    stages_under place no_stage = under_flow Normal
    stages_under place (stage k no_stage) = command_under place k
    stages_under place (stage k (stage l ls)) =
        under_piped z.world.latitude.last_current with_fds fds_of status_of with_status _ _ (under_stage fds_of with_fds _ _ _ _ (command_under in_shell_place k) (piped_under (stage l ls)))

    piped_under : (ss : Stages) → Under (piped_run z c ss) (piped_run z d ss)
    piped_under no_stage = under_flow Normal
    piped_under (stage k no_stage) = command_under in_shell_place k
    piped_under (stage k (stage l ls)) = under_stage fds_of with_fds _ _ _ _ (command_under in_shell_place k) (piped_under (stage l ls))

    pipeline_under : (place : Place) (p : Pipeline) → Under (pipeline_run z c place p) (pipeline_run z d place p)
    pipeline_under place (pipeline b ss) = negated_under b _ _ (stages_under place ss)

    links_under : (place : Place) (ls : Links) → Under (links_run z c place ls) (links_run z d place ls)
    links_under place no_link = under_flow Normal
    links_under place (and_link p ls) = by_status_under _ _ _ _ (then_under _ _ _ _ (pipeline_under place p) (links_under place ls)) (links_under place ls)
    links_under place (or_link p ls) = by_status_under _ _ _ _ (links_under place ls) (then_under _ _ _ _ (pipeline_under place p) (links_under place ls))

    chain_under : (place : Place) (k : Chain) → Under (chain_run z c place k) (chain_run z d place k)
    chain_under place (chain p ls) = then_under _ _ _ _ (pipeline_under place p) (links_under place ls)

    script_under : (place : Place) (k : Script) → Under (script_run z c place k) (script_run z d place k)
    script_under place no_chain = under_flow Normal
    script_under place (next_chain k ks) = under_after _ _ _ _ (chain_under place k) (under_if_normal _ _ (script_under place ks))

  pub script_larger : (place : Place) (k : Script) → Under (script_run z c place k) (script_run z d place k)
  script_larger = script_under

  pub command_larger : (place : Place) (k : Command) → Under (command_run z c place k) (command_run z d place k)
  command_larger = command_under

pub level_under : (z : Setting) (d e : ℕ) → d ≤ e → (k : Command) → Under (level z d k) (level z e k)
level_under z zero zero le k = under_stop _ (λ m s. prefix_refl s.trace)
level_under z zero (suc e) le k = under_stop _ (command_larger z _ _ (level_under z zero e (omega arith)) in_body k).grows
level_under z (suc d) zero le k = absurd (omega arith)
level_under z (suc d) (suc e) le k = command_larger z _ _ (level_under z d e (omega arith)) in_body k
