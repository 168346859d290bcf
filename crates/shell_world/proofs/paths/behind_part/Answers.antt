use Rattle.std.proofs.Common.{◌≡◌, true, ap, ◌∙◌}
use Rattle.std.specs.Option.{option_copied}
use Rattle.shell_world.specs.Paths.{is_kept}
use Rattle.shell_world.proofs.Parts.{two_missed, two_found}
use Rattle.shell_world.proofs.paths.behind_part.Goals as goal

pub returns-in_err-at_part : goal.returns-in_err-at_part
returns-in_err-at_part c =
    let stays : is_kept c.args.part.now ≡ true = cc in
    ap option_copied c.from_residual.ensures ∙ two_missed c.args.lead.now c.args.part.now c.args.path.now (option_copied c.behind.result) stays c.behind.ensures (ap option_copied c.in_err-at_part.was)

pub returns : goal.returns
returns c =
    let stays : is_kept c.args.part.now ≡ true = cc in
    c.behind-2.ensures ∙ two_found c.args.lead.now c.args.part.now c.args.path.now c.in_ok-at_part.at_part.now (option_copied c.behind.result) stays c.behind.ensures (ap option_copied c.in_ok-at_part.was)
