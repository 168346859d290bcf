use Rattle.std.proofs.Common.{◌≡◌, true, [], refl, arith}
use Rattle.sh_printer.specs.Checks.{command_check_weight, command_holds, word_check_weight, word_holds}
use Rattle.sh_printer.proofs.Firsts.{none, first}
use Rattle.sh_printer.proofs.WordChecks.{splitting}
use Rattle.sh_printer.proofs.CommandChecks.{items_split, items_weigh_more}
use Rattle.sh_printer.proofs.checking.commands.items_apart.Goals as goal

pub returns-in-empty : goal.returns-in-empty
unfolding word_holds word_check_weight command_holds command_check_weight
returns-in-empty c =
    let e : c.args.items.now ≡ [] = none c.args.items.now (omega arith) in
    splitting true _ 1 _ c.known.result (rw e refl) (omega arith) c.known.ensures

pub returns-in-len1-up : goal.returns-in-len1-up
unfolding word_holds word_check_weight command_holds command_check_weight
returns-in-len1-up c =
    let e = first c.args.items.now c.first-item.result c.in-len1-up.len_at_least c.first-item.is in
    let k = items_weigh_more c.args.items.now c.first-item.result e in
    record {
      whole = rw (c.split_at.ensures.back) (items_split c.args.nesting.in_body c.args.nesting.depth c.args.items.now c.first-item.result e);
      first_less = omega (arith, k);
      second_less = omega (arith, k);
      rest_less = rw c.split_at.ensures.back (omega (arith, k));
    }
