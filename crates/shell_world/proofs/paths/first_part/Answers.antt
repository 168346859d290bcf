use Rattle.std.proofs.Common.{◌≡◌, true, false, get_or, take_all, arith}
use Rattle.std.proofs.lemmas.List.{take_rest}
use Rattle.std.proofs.lemmas.List.Elements.{All-more}
use Rattle.std.proofs.lemmas.Bool.Decides.{nat_tests}
use Rattle.shell_world.specs.Paths.{is_slash}
use Rattle.shell_world.proofs.Parts.{first_ends, last_part}
use Rattle.shell_world.proofs.paths.first_part.Goals as goal

pub loop-at-preserved : goal.loop-at-preserved
loop-at-preserved c =
    let on : is_slash (get_or c.args.text.now c.loop-at.at 0) ≡ false = grind (arith, nat_tests) in
    All-more (λ b. is_slash b ≡ false) c.args.text.now c.loop-at.at 0 c.loop-at-test.true c.loop-at.invariant on

pub returns-then-b-eq47-clause-parts : goal.returns-then-b-eq47-clause-parts
returns-then-b-eq47-clause-parts c =
    let at : is_slash (get_or c.args.text.now c.loop-at.at 0) ≡ true = grind (arith, nat_tests) in
    rw take_rest (first_ends c.args.text.now c.loop-at.at 0 c.loop-at-test.true at c.loop-at.invariant)

pub returns-clause-parts : goal.returns-clause-parts
returns-clause-parts c = last_part c.args.text.now (rw (take_all _ _ c.loop-at-test.false) at c.loop-at.invariant)
