use Rattle.std.proofs.Common.{◌≡◌, true, [], refl, ap, arith}
use Rattle.sh_printer.specs.Checks.{command_check_weight, command_holds, word_check_weight, word_holds}
use Rattle.sh_printer.proofs.Firsts.{none, first}
use Rattle.sh_printer.proofs.WordChecks.{splitting, assigns_split}
use Rattle.sh_printer.proofs.Firsts.{assigns_weigh}
use Rattle.sh_syntax.proofs.Views.{assign_is}
use Rattle.sh_grammar.specs.Shape as shape
use Rattle.std.proofs.Common.{List, ℕ}
use Rattle.sh_printer.proofs.checking.words.assigns_apart.Goals as goal

pub returns-in-empty : goal.returns-in-empty
unfolding word_holds word_check_weight command_holds command_check_weight
returns-in-empty c =
    let e : c.args.assigns.now ≡ [] = none c.args.assigns.now (omega arith) in
    splitting true _ 1 _ c.known.result (rw e refl) (omega arith) c.known.ensures

pub returns-in-len1-up : goal.returns-in-len1-up
unfolding word_holds word_check_weight command_holds command_check_weight
returns-in-len1-up c =
    let e = first c.args.assigns.now c.first-item.result c.in-len1-up.len_at_least c.first-item.is in
    let k = assigns_weigh c.args.assigns.now c.first-item.result e in
    let a = ap (λ (x : List ℕ × shape.Value). x.0) (assign_is c.first-item.result) in
    let v = ap (λ (x : List ℕ × shape.Value). x.1) (assign_is c.first-item.result) in
    record {
      whole = rw (c.is_name.ensures, c.bytes.ensures, ← a, ← v, c.split_at.ensures.back) (assigns_split c.args.nesting.in_body c.args.nesting.depth c.args.assigns.now c.first-item.result e);
      first_less = omega (arith, k);
      second_less = rw (← v) (omega (arith, k));
      rest_less = rw c.split_at.ensures.back (omega (arith, k));
    }
