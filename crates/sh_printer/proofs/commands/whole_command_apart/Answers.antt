use Rattle.std.proofs.Common.{refl, arith}
use Rattle.sh_printer.specs.Codes.{view_end}
use Rattle.sh_printer.specs.Pieces.{command_piece_text, command_piece_weight, word_text, word_weight}
use Rattle.sh_syntax.specs.declared.tree.Command.{out-Command}
use Rattle.sh_syntax.specs.View.{view_kind}
use Rattle.sh_printer.proofs.Comings.{coming}
use Rattle.sh_printer.proofs.RedirectTexts.{last_is, last_less}
use Rattle.sh_syntax.proofs.Views.{command_is}
use Rattle.sh_printer.proofs.commands.whole_command_apart.Goals as goal

pub returns : goal.returns
unfolding command_piece_text command_piece_weight word_text word_weight
returns c =
    let k = view_kind (out-Command c.args.command.now).kind in
    coming _ _ _ _ _ (λ full. rw (c.as_slice-redirects.ensures, c.is_something-behind.ensures, c.last_words-words.ensures, last_is full (view_end c.args.end) k, command_is c.args.command.now) refl) (rw (c.as_slice-redirects.ensures, c.last_words-words.ensures, command_is c.args.command.now) (omega (arith, last_less k))) c.kind_apart.ensures
