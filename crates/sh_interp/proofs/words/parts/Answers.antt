use Rattle.std.specs.Prelude.{map}
use Rattle.sh_meaning.specs.Simple.{Setting}
use Rattle.sh_meaning.specs.Commands as commands
use Rattle.sh_interp.specs.Answers.{Turns}
use Rattle.sh_interp.proofs.Firsts.{onto_first}
use Rattle.sh_syntax.specs.View.{view_part, parts_of}
use Rattle.sh_checks.specs.Places.{where_of}
use Rattle.sh_expansion.specs.Views.{mode_of, word_of}
use Rattle.sh_frames.specs.Payloads.{to_word}
use Rattle.sh_interp.proofs.words.parts.Goals as goal

pub returns-in-len1-up : goal.returns-in-len1-up
returns-in-len1-up c =
    onto_first (λ ps. (z : Setting) → Turns z (λ call. commands.parts_run z call (mode_of c.args.mode) (where_of c.args.place) (parts_of (map view_part ps)) (word_of c.args.word)) to_word c.args.frames.now c.next_part.new.frames c.args.shell.now c.next_part.new.shell c.next_part.result)
    c.args.parts.now c.first-item.result c.in-len1-up.len_at_least c.first-item.is c.next_part.ensures
