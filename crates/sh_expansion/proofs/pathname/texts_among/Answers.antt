use Rattle.std.proofs.Common.{◌≡◌, true, arith}
use Rattle.sh_expansion.proofs.Orders.{texts_more}
use Rattle.sh_expansion.proofs.pathname.texts_among.Goals as goal

pub loop-field-preserved : goal.loop-field-preserved
loop-field-preserved c =
    let is : c.in_ok-append_texts.field-0 ≡ true = grind (arith, c.if-not-branch.false) in
    texts_more c.args.names.now c.args.fields.now c.loop-field.field-index c.field-item.result c.loop-field.all.items c.append_texts.new.all.items _ c.loop-field-test.true c.field-item.is (rw is at c.in_ok-append_texts.ensures) c.loop-field.invariant
