use Rattle.std.proofs.Common.{◌≡◌, ◌∙◌, [], ◌∷◌, drop, sym, refl, ap, true, false}
use Rattle.std.specs.Prelude.{map, option_map}
use Rattle.sh_grammar.specs.Shape as shape
use Rattle.sh_checks.specs.Branches.{branch_views}
use Rattle.sh_syntax.specs.View.{view, view_command, view_kind, view_word, words_of, branches_of, otherwise_of, for_words_of}
use Rattle.sh_syntax.proofs.Views.{simple_is, group_is, subshell_is, if_is, loop_is, for_is, case_is, function_kind_is, function_is}
use Rattle.sh_builtins.specs.Views.{flow_of, place_of}
use Rattle.sh_meaning.specs.Commands.{script_run, for_words_run, level}
use Rattle.sh_meaning.specs.Own.{is_zero}
use Rattle.sh_frames.specs.Payloads.{to_ended}
use Rattle.sh_frames.proofs.CommandLaws.{branches_go, listed_goes, walk_goes}
use Rattle.sh_frames.proofs.ShellLaws.{subshell_goes}
use Rattle.sh_interp.specs.Views.{stack_of, state_of, whole_of}
use Rattle.sh_interp.proofs.Heads.{first_is, none_is, not_zero}
use Rattle.sh_interp.proofs.compounds.walk.Goals as goal

pub returns : goal.returns
returns c = λ z.
    rw (walk_goes z c.args.shell.now.levels (stack_of c.args.frames.now) c.args.shell.now.turns (state_of c.args.shell.now) (for_words_run z (level z c.args.shell.now.levels) (for_words_of (option_map (map view_word) c.args.list.now)) c.args.shell.now.turns (state_of c.args.shell.now)) (place_of c.args.place) c.args.name.now (view c.args.body.now))
    (rw c.in_ok-push.ensures at (c.for_words.ensures z))
