use Rattle.std.proofs.Common.{refl, sym, ap, ◌∙◌}
use Rattle.shell_world.specs.Runs.{after}
use Rattle.sh_frames.specs.Payloads.{ended, to_ended}
use Rattle.sh_frames.specs.Turns.{go_on}
use Rattle.shell_runs.specs.Flow.{Normal}
use Rattle.sh_builtins.specs.Views.{place_of}
use Rattle.sh_meaning.specs.Commands.{script_run, level}
use Rattle.std.specs.Prelude.{map}
use Rattle.sh_syntax.specs.View.{items_of, view_item}
use Rattle.sh_interp.specs.Views.{stack_of, state_of}
use Rattle.sh_interp.proofs.Firsts.{or_zero_run}
use Rattle.sh_interp.proofs.substitutions.items_or_zero.Goals as goal

pub returns-in_ok-push-in-len1-up : goal.returns-in_ok-push-in-len1-up
returns-in_ok-push-in-len1-up c = λ z. (
  ap (λ r. after r (to_ended (go_on z (stack_of c.args.frames.now)) c.args.shell.now.levels))
      (or_zero_run c.args.items.now (script_run z (level z c.args.shell.now.levels) (place_of c.args.place) (items_of (map view_item c.args.items.now))) c.args.shell.now.turns (state_of c.args.shell.now) c.in-len1-up.len_at_least)
      ∙ ap (λ st. go_on z st c.args.shell.now.levels (ended Normal) c.args.shell.now.turns (state_of c.args.shell.now)) (sym c.in_ok-push-in-len1-up.ensures),
  refl,
)
