use Rattle.std.proofs.Common.{◌≡◌}
use Rattle.sh_frames.specs.Turns.{go_on}
use Rattle.sh_interp.specs.Views.{payload_of, setting_of, stack_of, state_of}
use Rattle.sh_interp.proofs.running.run_frames.Given as goal

-- what the frames make of what came is the whole, and the table stays
abbrev pub invariant-turns : goal.invariant-turns
invariant-turns l =
    (go_on (setting_of l.setting) (stack_of l.initial.frames) l.initial.shell.levels (payload_of l.initial.payload) l.initial.shell.turns (state_of l.initial.shell)
    ≡ go_on (setting_of l.setting) (stack_of l.frames) l.shell.levels (payload_of l.payload) l.shell.turns (state_of l.shell))
    × (l.shell.outside.rows ≡ l.setting.world.now.rows)

abbrev pub decreases-turns : goal.decreases-turns
decreases-turns l = l.left
