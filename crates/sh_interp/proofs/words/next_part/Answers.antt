use Rattle.std.specs.Prelude.{map}
use Rattle.sh_syntax.specs.View.{view_part, view_part_kind, parts_of}
use Rattle.sh_syntax.proofs.Views.{part_is}
use Rattle.sh_checks.specs.Places.{where_of}
use Rattle.sh_expansion.specs.Views.{mode_of, word_of}
use Rattle.sh_frames.proofs.WordLaws.{parts_go}
use Rattle.sh_interp.specs.Views.{stack_of, state_of}
use Rattle.sh_interp.proofs.words.next_part.Goals as goal

pub returns : goal.returns
returns c = λ z.
    rw (
      part_is c.args.first.now,
      parts_go z c.args.shell.now.levels (stack_of c.args.frames.now) c.args.shell.now.turns (state_of c.args.shell.now) (mode_of c.args.mode) (where_of c.args.place) (view_part_kind c.args.first.now.kind) (parts_of (map view_part c.args.rest.now)) (word_of c.args.word),
      ← c.in_ok-push.ensures,
    )
    (c.part_kind.ensures z)
