use Rattle.std.proofs.Common.{◌≡◌, ◌∙◌, [], ◌∷◌, ◌-◌, length, take, drop, sym, refl, ap, true, false}
use Rattle.std.specs.Prelude.{map}
use Rattle.sh_syntax.specs.View.{view, view_part, parts_of, view_case_item, view_word, case_items_of, words_of}
use Rattle.sh_syntax.proofs.Views.{case_item_is, word_is}
use Rattle.sh_builtins.specs.Views.{flow_of, place_of}
use Rattle.sh_expansion.specs.Views.{word_of}
use Rattle.sh_meaning.specs.Commands as commands
use Rattle.sh_meaning.specs.Commands.{script_run, level}
use Rattle.sh_meaning.specs.Expanded as words
use Rattle.sh_frames.specs.Payloads.{to_ended}
use Rattle.sh_frames.specs.Turns.{go_on, patterns_over}
use Rattle.sh_frames.proofs.CommandLaws.{case_goes, pattern_goes}
use Rattle.sh_interp.specs.Views.{stack_of, state_of, whole_of}
use Rattle.sh_interp.proofs.Heads.{first_is, none_is}
use Rattle.sh_interp.proofs.cases.unmatched.Goals as goal

pub returns-in-empty : goal.returns-in-empty
returns-in-empty c = λ z. rw (none_is c.args.rest.patterns.now c.in-empty.len_below) (c.items.ensures z)

pub returns-in_ok-push-in-len1-up-2 : goal.returns-in_ok-push-in-len1-up-2
returns-in_ok-push-in-len1-up-2 c = λ z.
    rw (
      first_is c.args.rest.patterns.now c.first-item.result c.in-len1-up.len_at_least c.first-item.is,
      word_is c.first-item.result,
      ← c.as_slice-parts.ensures,
      sym c.has_crowded_lists.ensures ∙ c.if-has_crowded_lists.false,
      pattern_goes z c.args.shell.now.levels (stack_of c.args.frames.now) c.args.shell.now.turns (state_of c.args.shell.now) (place_of c.args.rest.place) c.args.rest.text (parts_of (map view_part c.as_slice-parts.result.now)) (words_of (map view_word (take (length c.args.rest.patterns.now - 1) (drop 1 c.args.rest.patterns.now)))) (view c.args.rest.body.now) (case_items_of (map view_case_item c.args.rest.items.now)),
      c.in_ok-push-in-len1-up-2.ensures,
      c.in_ok-push-in-len1-up.ensures,
      c.new.ensures,
      c.pattern.ensures,
    )
    (refl, refl)
