use Rattle.std.proofs.Common.{◌≡◌, ◌∙◌, sym, ap, get_or, Some, true, false}
use Rattle.shell_world.specs.Calls.{fits}
use Rattle.shell_world.proofs.Rows.{chosen_here, chosen_behind, chosen_end}
use Rattle.shell_world.proofs.table.choose.Goals as goal

pub returns-then-fits : goal.returns-then-fits
returns-then-fits c =
    let i = c.loop-i.i in
    let row = c.index-rows-i.result in
    let h : fits (get_or c.args.rows.now i row) c.args.argv.now c.args.input.now ≡ true = cc in
    sym c.loop-i.invariant ∙ chosen_here c.args.argv.now c.args.input.now c.args.rows.now i i row c.loop-i-test.true h ∙ ap (λ r. Some (i, r)) (sym c.index-rows-i.is)

pub loop-i-preserved : goal.loop-i-preserved
loop-i-preserved c =
    let i = c.loop-i.i in
    let row = c.index-rows-i.result in
    let h : fits (get_or c.args.rows.now i row) c.args.argv.now c.args.input.now ≡ false = cc in
    sym (chosen_behind c.args.argv.now c.args.input.now c.args.rows.now i row c.loop-i-test.true h) ∙ c.loop-i.invariant

pub returns : goal.returns
returns c = sym c.loop-i.invariant ∙ chosen_end c.args.argv.now c.args.input.now c.args.rows.now c.loop-i.i c.loop-i.i c.loop-i-test.false
