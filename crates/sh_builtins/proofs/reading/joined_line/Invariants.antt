use Rattle.std.proofs.Common.{◌≡◌, length, false}
use Rattle.shell_world.specs.Running.{index_of}
use Rattle.sh_meaning.specs.builtins.Reading.{line_read}
use Rattle.sh_builtins.specs.Lines.{with_text, input_at, taken_at}
use Rattle.sh_builtins.proofs.reading.joined_line.Given as goal

abbrev pub invariant-parts : goal.invariant-parts
invariant-parts l =
    (with_text l.text (line_read false (input_at (index_of l.from) l.outside.outside)) ≡ line_read false (input_at (index_of l.from) l.initial.outside.outside))
    × (taken_at false (index_of l.from) l.outside.outside ≡ taken_at false (index_of l.from) l.initial.outside.outside)
    × (l.outside ≡ record l.initial.outside { outside = l.outside.outside })

abbrev pub decreases-parts : goal.decreases-parts
decreases-parts l = length (input_at (index_of l.from) l.outside.outside)
