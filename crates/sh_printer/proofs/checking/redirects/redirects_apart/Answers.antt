use Rattle.std.proofs.Common.{◌≡◌, true, [], refl, ap, arith}
use Rattle.sh_printer.specs.Checks.{command_check_weight, command_holds, word_check_weight, word_holds}
use Rattle.sh_printer.proofs.Firsts.{none, first}
use Rattle.sh_printer.proofs.WordChecks.{splitting, redirects_split, redirects_weigh}
use Rattle.sh_syntax.proofs.Views.{redirect_is}
use Rattle.sh_syntax.specs.View.{Aimed}
use Rattle.sh_printer.proofs.checking.redirects.redirects_apart.Goals as goal

pub returns-in-empty : goal.returns-in-empty
unfolding word_holds word_check_weight command_holds command_check_weight
returns-in-empty c =
    let e : c.args.redirects.now ≡ [] = none c.args.redirects.now (omega arith) in
    splitting true _ 1 _ c.known.result (rw e refl) (omega arith) c.known.ensures

pub returns-in-len1-up : goal.returns-in-len1-up
unfolding word_holds word_check_weight command_holds command_check_weight
returns-in-len1-up c =
    let e = first c.args.redirects.now c.first-item.result c.in-len1-up.len_at_least c.first-item.is in
    let k = redirects_weigh c.args.redirects.now c.first-item.result e in
    let f = ap (λ (x : Aimed). x.fd) (redirect_is c.first-item.result) in
    record {
      whole = rw (c.fd_fits.ensures, c.target_check.ensures.holds, ← f, c.split_at.ensures.back) (redirects_split c.args.nesting.in_body c.args.nesting.depth c.args.redirects.now c.first-item.result e);
      first_less = omega (arith, k);
      second_less = omega (arith, k, c.target_check.ensures.weight);
      rest_less = rw c.split_at.ensures.back (omega (arith, k));
    }
