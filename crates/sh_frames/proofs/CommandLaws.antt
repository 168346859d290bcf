-- Commands taken apart before frames.
use Rattle.std.proofs.Common.{◌≡◌, ℕ, Bool, false, List, [], ◌∷◌}
use Rattle.shell_world.specs.Texts.{Text}
use Rattle.shell_world.specs.Runs.{St, Res, after}
use Rattle.shell_runs.specs.Flow.{Normal}
use Rattle.shell_runs.specs.Sequences.{if_normal}
use Rattle.shell_runs.specs.Redirecting.{Made, if_made, made_or, fds_back}
use Rattle.sh_grammar.specs.Shape.{Parts, RedirectOp, Redirects, Assigns, Value, Words, Script, Chain, next_chain, Pipeline, Links, Branches, branch, Otherwise, Items, simple}
use Rattle.sh_meaning.specs.Own.{Own, fds_of, with_fds}
use Rattle.sh_meaning.specs.Modes.{in_pattern, in_value}
use Rattle.sh_meaning.specs.Expanded.{nothing}
use Rattle.sh_meaning.specs.Expanding.{First, no_fields, pathnames_over, pattern_over, if_unmatched}
use Rattle.sh_meaning.specs.Redirecting.{redirect_mode, redirect_over, around}
use Rattle.sh_meaning.specs.Simple.{Setting, Name, Argument, Saved, assigned_over, prefix_over, simple_over, form_of, has_assigns, command_over, nameless_over}
use Rattle.sh_meaning.specs.Commands.{in_loop, by_status, walk_over, subject_over, parts_run, words_run, value_run, assigns_run, prefix_run, redirects_run, kind_run, patterns_run, items_run_from, branches_run, otherwise_run, pipeline_run, links_run, chain_run, script_run, level}
use Rattle.sh_meaning.specs.builtins.Places.{Place}
use Rattle.sh_frames.specs.Payloads.{ended, to_ended, to_word, to_made, to_truth, to_saved, to_fields, to_arguments}
use Rattle.sh_frames.specs.Frames as frames
use Rattle.sh_frames.specs.Frames.{Frame, Job, Prefixed, on_word, on_fields, on_arguments, on_truth, on_saved, on_made, on_ended}
use Rattle.sh_frames.specs.Turns.{go_on, job_run, job_failed, prefixed_run, item_run_over}
use Rattle.sh_frames.proofs.Sequence.{assoc, nested4, ends, nested}

module _ (z : Setting) (d : ℕ) (fs : List Frame) (n : ℕ) (s : St Own) where
  -- ---- redirections

  pub worded_goes : (fd : ℕ) (op : RedirectOp) (w : Parts) (ran : Bool) →
      after (after (parts_run z (level z d) (redirect_mode op) First w (nothing ran) n s) (redirect_over fd op)) (to_made (go_on z fs) d)
      ≡ after (parts_run z (level z d) (redirect_mode op) First w (nothing ran) n s) (to_word (go_on z (on_word (frames.target fd op) ∷ fs)) d)
  worded_goes fd op w ran = assoc (parts_run z (level z d) (redirect_mode op) First w (nothing ran) n s) (redirect_over fd op) (to_made (go_on z fs) d)

  -- whatever the first of them is
  pub redirects_go : (r : Res (Made Bool) Own) (rs : Redirects) →
      after (after r (if_made (redirects_run z (level z d) rs))) (to_made (go_on z fs) d)
      ≡ after r (to_made (go_on z (on_made (frames.redirects rs) ∷ fs)) d)
  redirects_go r rs = assoc r (if_made (redirects_run z (level z d) rs)) (to_made (go_on z fs) d)

  pub around_goes : (rs : Redirects) (ran : Bool) (j : Job) →
      after (around (redirects_run z (level z d) rs ran) (job_run z (level z d) j) (job_failed z j) n s) (to_ended (go_on z fs) d)
      ≡ after (redirects_run z (level z d) rs ran n s) (to_made (go_on z (on_made (frames.job j) ∷ on_ended (frames.fds_back (fds_of s.own)) ∷ fs)) d)
  around_goes rs ran j = nested (redirects_run z (level z d) rs ran n s) (made_or (job_run z (level z d) j) (job_failed z j)) (fds_back with_fds (fds_of s.own)) (to_ended (go_on z fs) d)

  -- ---- assignments

  pub assigns_go : (name : Text) (v : Value) (as' : Assigns) (ran : Bool) →
      after (after (after (value_run z (level z d) v ran n s) (assigned_over name)) (assigns_run z (level z d) as')) (to_truth (go_on z fs) d)
      ≡ after (value_run z (level z d) v ran n s) (to_word (go_on z (on_word (frames.value name) ∷ on_truth (frames.assigns as') ∷ fs)) d)
  assigns_go name v as' ran = nested (value_run z (level z d) v ran n s) (assigned_over name) (assigns_run z (level z d) as') (to_truth (go_on z fs) d)

  pub prefix_goes : (name : Text) (v : Value) (as' : Assigns) (before : Saved) →
      after (after (after (value_run z (level z d) v false n s) (prefix_over name before)) (prefix_run z (level z d) as')) (to_saved (go_on z fs) d)
      ≡ after (value_run z (level z d) v false n s) (to_word (go_on z (on_word (frames.prefix_value name before) ∷ on_saved (frames.prefix as') ∷ fs)) d)
  prefix_goes name v as' before = nested (value_run z (level z d) v false n s) (prefix_over name before) (prefix_run z (level z d) as') (to_saved (go_on z fs) d)

  pub nameless_goes : (as' : Assigns) (ran : Bool) →
      after (after (assigns_run z (level z d) as' ran n s) nameless_over) (to_ended (go_on z fs) d)
      ≡ after (assigns_run z (level z d) as' ran n s) (to_truth (go_on z (on_truth frames.nameless ∷ fs)) d)
  nameless_goes as' ran = assoc (assigns_run z (level z d) as' ran n s) nameless_over (to_ended (go_on z fs) d)

  pub prefixed_goes : (as' : Assigns) (c : Prefixed) →
      after (after (prefix_run z (level z d) as' [] n s) (command_over (prefixed_run z c))) (to_ended (go_on z fs) d)
      ≡ after (prefix_run z (level z d) as' [] n s) (to_saved (go_on z (on_saved (frames.prefixed c) ∷ fs)) d)
  prefixed_goes as' c = assoc (prefix_run z (level z d) as' [] n s) (command_over (prefixed_run z c)) (to_ended (go_on z fs) d)

  -- ---- commands

  pub simple_goes : (place : Place) (as' : Assigns) (ws : Words) (rs : Redirects) →
      after (kind_run z (level z d) place (redirects_run z (level z d) rs) (simple as' ws) n s) (to_ended (go_on z fs) d)
      ≡ after (words_run z (level z d) Name ws no_fields n s) (to_fields (go_on z (on_fields frames.pathnames ∷ on_arguments (frames.simple place as' ws rs) ∷ fs)) d)
  simple_goes place as' ws rs =
      nested (words_run z (level z d) Name ws no_fields n s) pathnames_over
      (simple_over z (level z d) place (form_of z as' ws) (redirects_run z (level z d) rs) (assigns_run z (level z d) as') (prefix_run z (level z d) as' []) (has_assigns as'))
      (to_ended (go_on z fs) d)

  pub listed_goes : (ws : Words) →
      after (after (words_run z (level z d) Argument ws no_fields n s) pathnames_over) (to_arguments (go_on z fs) d)
      ≡ after (words_run z (level z d) Argument ws no_fields n s) (to_fields (go_on z (on_fields frames.pathnames ∷ fs)) d)
  listed_goes ws = assoc (words_run z (level z d) Argument ws no_fields n s) pathnames_over (to_arguments (go_on z fs) d)

  pub walk_goes : (r : Res _ Own) (place : Place) (name : Text) (body : Script) →
      after (after r (walk_over name (script_run z (level z d) (in_loop place) body))) (to_ended (go_on z fs) d)
      ≡ after r (to_arguments (go_on z (on_arguments (frames.walk place name body) ∷ fs)) d)
  walk_goes r place name body = assoc r (walk_over name (script_run z (level z d) (in_loop place) body)) (to_ended (go_on z fs) d)

  pub branches_go : (place : Place) (test body : Script) (bs : Branches) (o : Otherwise) →
      after (branches_run z (level z d) place (branch test body bs) (otherwise_run z (level z d) place o) n s) (to_ended (go_on z fs) d)
      ≡ after (script_run z (level z d) place test n s) (to_ended (go_on z (on_ended (frames.branch place body bs o) ∷ fs)) d)
  branches_go place test body bs o =
      assoc (script_run z (level z d) place test n s)
      (if_normal (by_status (script_run z (level z d) place body) (branches_run z (level z d) place bs (otherwise_run z (level z d) place o))))
      (to_ended (go_on z fs) d)

  -- ---- `case`

  pub case_goes : (place : Place) (w : Parts) (is : Items) →
      after (after (parts_run z (level z d) in_value First w (nothing false) n s) (subject_over (items_run_from z (level z d) place is))) (to_ended (go_on z fs) d)
      ≡ after (parts_run z (level z d) in_value First w (nothing false) n s) (to_word (go_on z (on_word (frames.subject place is) ∷ fs)) d)
  case_goes place w is = assoc (parts_run z (level z d) in_value First w (nothing false) n s) (subject_over (items_run_from z (level z d) place is)) (to_ended (go_on z fs) d)

  pub pattern_goes : (place : Place) (text : Text) (w : Parts) (ws : Words) (body : Script) (is : Items) →
      after (after (after (after (parts_run z (level z d) in_pattern First w (nothing false) n s) (pattern_over text)) (if_unmatched (patterns_run z (level z d) ws text))) (item_run_over z (level z d) place text body is)) (to_ended (go_on z fs) d)
      ≡ after (parts_run z (level z d) in_pattern First w (nothing false) n s) (to_word (go_on z (on_word (frames.pattern place text ws body is) ∷ fs)) d)
  pattern_goes place text w ws body is =
      nested4 (parts_run z (level z d) in_pattern First w (nothing false) n s) (pattern_over text) (if_unmatched (patterns_run z (level z d) ws text)) (item_run_over z (level z d) place text body is) (to_ended (go_on z fs) d)

  -- ---- lists

  pub script_goes : (place : Place) (c : Chain) (more : Script) →
      after (script_run z (level z d) place (next_chain c more) n s) (to_ended (go_on z fs) d)
      ≡ after (chain_run z (level z d) place c n s) (to_ended (go_on z (on_ended (frames.script place more) ∷ fs)) d)
  script_goes place c more = assoc (chain_run z (level z d) place c n s) (if_normal (script_run z (level z d) place more)) (to_ended (go_on z fs) d)

  -- a pipeline with others behind it
  pub joined_goes : (place : Place) (p : Pipeline) (ls : Links) →
      after (after (pipeline_run z (level z d) place p n s) (if_normal (links_run z (level z d) place ls))) (to_ended (go_on z fs) d)
      ≡ after (pipeline_run z (level z d) place p n s) (to_ended (go_on z (on_ended (frames.links place ls) ∷ fs)) d)
  joined_goes place p ls = assoc (pipeline_run z (level z d) place p n s) (if_normal (links_run z (level z d) place ls)) (to_ended (go_on z fs) d)

-- a whole run
pub whole_goes : (z : Setting) (d n : ℕ) (s : St Own) (place : Place) (body : Script) →
    go_on z (on_ended (frames.script place body) ∷ []) d (ended Normal) n s ≡ script_run z (level z d) place body n s
whole_goes z d n s place body = ends (script_run z (level z d) place body n s)
