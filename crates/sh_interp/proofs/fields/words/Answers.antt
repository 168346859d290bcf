use Rattle.std.specs.Prelude.{map}
use Rattle.sh_meaning.specs.Simple.{Setting}
use Rattle.sh_meaning.specs.Commands as commands
use Rattle.sh_interp.specs.Answers.{Turns}
use Rattle.sh_interp.proofs.Firsts.{onto_first}
use Rattle.sh_syntax.specs.View.{view_word, words_of}
use Rattle.sh_checks.specs.Roles.{role_of}
use Rattle.sh_frames.specs.Payloads.{to_fields}
use Rattle.sh_interp.specs.Views.{fielded_of}
use Rattle.sh_interp.proofs.fields.words.Goals as goal

pub returns-in-len1-up : goal.returns-in-len1-up
returns-in-len1-up c =
    onto_first (λ ws. (z : Setting) → Turns z (λ call. commands.words_run z call (role_of c.args.role) (words_of (map view_word ws)) (fielded_of c.args.done)) to_fields c.args.frames.now c.next_word.new.frames c.args.shell.now c.args.shell.now c.next_word.result)
    c.args.words.now c.first-item.result c.in-len1-up.len_at_least c.first-item.is c.next_word.ensures
