use Rattle.std.proofs.Common.{◌≡◌, [], ◌∷◌, ap, ◌∙◌}
use Rattle.std.specs.Option.{option_copied, option_map_or}
use Rattle.shell_world.specs.Paths.{parts, joined, behind}
use Rattle.shell_world.proofs.Parts.{parts_stop, parts_go_on}
use Rattle.shell_world.proofs.paths.behind_named.Goals as goal

pub returns-in_err-left : goal.returns-in_err-left
returns-in_err-left c =
    let part = c.first_part.result.0.now in
    let more = option_map_or (λ rest. parts rest.now) c.first_part.result.1 [] in
    ap option_copied c.from_residual.ensures ∙ parts_stop c.parts.lead.now part c.parts.left.now more (parts c.parts.rest.now) c.first_part.ensures.parts c.in_err-left.ensures ∙ c.parts.invariant

pub parts-preserved : goal.parts-preserved
parts-preserved c =
    let part = c.first_part.result.0.now in
    let next = c.in-Some.next.now in
    let left = c.in_ok-left.left.now in
    let is : parts c.parts.rest.now ≡ part ∷ parts next = c.first_part.ensures.parts ∙ ap (λ o. part ∷ option_map_or (λ rest. parts rest.now) o []) c.in-Some.is in
    ap (λ lead. behind (joined lead (parts next)) left) c.next_lead-lead.ensures ∙ parts_go_on c.parts.lead.now part c.parts.left.now left (parts next) (parts c.parts.rest.now) is c.in_ok-left.ensures ∙ c.parts.invariant
