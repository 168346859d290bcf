use Rattle.std.proofs.Common.{◌≡◌, ◌∙◌, [], ◌∷◌, drop, sym, refl, ap, true, false}
use Rattle.std.specs.Prelude.{map}
use Rattle.sh_syntax.specs.View.{view, view_case_item, view_word, case_items_of, words_of}
use Rattle.sh_syntax.proofs.Views.{case_item_is, word_is}
use Rattle.sh_builtins.specs.Views.{flow_of, place_of}
use Rattle.sh_expansion.specs.Views.{word_of}
use Rattle.sh_meaning.specs.Commands as commands
use Rattle.sh_meaning.specs.Commands.{script_run, level}
use Rattle.sh_meaning.specs.Expanded as words
use Rattle.sh_frames.specs.Payloads.{to_ended}
use Rattle.sh_frames.specs.Turns.{go_on, patterns_over}
use Rattle.sh_frames.proofs.CommandLaws.{case_goes, pattern_goes}
use Rattle.sh_interp.specs.Views.{stack_of, state_of, whole_of}
use Rattle.sh_interp.proofs.Heads.{first_is, none_is}
use Rattle.sh_interp.proofs.cases.items.Goals as goal

pub returns-in_ok-push-in-len1-up : goal.returns-in_ok-push-in-len1-up
returns-in_ok-push-in-len1-up c = λ z.
    rw (first_is c.args.items.now c.first-item.result c.in-len1-up.len_at_least c.first-item.is, case_item_is c.first-item.result, c.in_ok-push-in-len1-up.ensures, c.as_slice.ensures) (refl, refl)
