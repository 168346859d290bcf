use Rattle.std.proofs.Common.{◌≡◌, true, [], refl, ap, arith}
use Rattle.sh_printer.specs.Checks.{command_check_weight, command_holds, word_check_weight, word_holds}
use Rattle.sh_printer.proofs.Firsts.{none, first}
use Rattle.sh_printer.proofs.WordChecks.{splitting, patterns_split}
use Rattle.sh_printer.proofs.Firsts.{words_weigh}
use Rattle.sh_printer.specs.Weights.{parts_weight}
use Rattle.sh_syntax.proofs.Views.{word_is}
use Rattle.sh_printer.proofs.checking.words.patterns_apart.Goals as goal

pub returns-in-empty : goal.returns-in-empty
unfolding word_holds word_check_weight command_holds command_check_weight
returns-in-empty c =
    let e : c.args.patterns.now ≡ [] = none c.args.patterns.now (omega arith) in
    splitting true _ 1 _ c.known.result (rw e refl) (omega arith) c.known.ensures

pub returns-in-len1-up : goal.returns-in-len1-up
unfolding word_holds word_check_weight command_holds command_check_weight
returns-in-len1-up c =
    let e = first c.args.patterns.now c.first-item.result c.in-len1-up.len_at_least c.first-item.is in
    let k = words_weigh c.args.patterns.now c.first-item.result e in
    record {
      whole = rw (c.begins_pattern.ensures, c.as_slice-parts.ensures, c.split_at.ensures.back) (patterns_split c.args.nesting.in_body c.args.nesting.depth c.args.patterns.now c.first-item.result e);
      first_less = omega (arith, k);
      second_less = rw c.as_slice-parts.ensures (omega (arith, k, ap parts_weight (word_is c.first-item.result)));
      rest_less = rw c.split_at.ensures.back (omega (arith, k));
    }
