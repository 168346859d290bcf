use Rattle.std.proofs.Common.{◌≡◌, [], refl, arith}
use Rattle.sh_printer.specs.Pieces.{command_piece_text, command_piece_weight, word_text, word_weight}
use Rattle.sh_printer.proofs.Firsts.{none, first}
use Rattle.sh_printer.proofs.CommandTexts.{branches_first, branches_weigh}
use Rattle.sh_printer.proofs.commands.branches_apart.Goals as goal

pub returns-in-empty : goal.returns-in-empty
unfolding command_piece_text command_piece_weight word_text word_weight
returns-in-empty c =
    let e : c.args.parts.now ≡ [] = none c.args.parts.now (omega arith) in
    record { whole = λ full. rw e refl; first_less = omega arith; second_less = omega arith; rest_less = omega arith }

pub returns-in-len1-up : goal.returns-in-len1-up
unfolding command_piece_text command_piece_weight word_text word_weight
returns-in-len1-up c =
    let e = first c.args.parts.now c.first-item.result c.in-len1-up.len_at_least c.first-item.is in
    let k = branches_weigh c.args.parts.now c.first-item.result e in
    record {
      whole = λ full. rw (c.between.ensures.text full, c.between-in-len1-up.ensures.text full, c.split_at.ensures.back) (branches_first full c.args.key.now c.args.parts.now c.first-item.result e);
      first_less = omega (arith, k, c.between.ensures.weight);
      second_less = omega (arith, k, c.between-in-len1-up.ensures.weight);
      rest_less = rw c.split_at.ensures.back (omega (arith, k));
    }
