use Rattle.sh_builtins.proofs.Joins.{kept}
use Rattle.sh_builtins.proofs.reading.assign_all.Goals as goal

pub loop-at-preserved : goal.loop-at-preserved
loop-at-preserved c =
    kept c.args.names.now c.args.texts.now c.loop-at.at c.index-names-at.result c.bytes.result.now c.texts_behind.result.now c.loop-at.vars c.assign_next.new.vars _
    c.loop-at-test.true c.index-names-at.is c.bytes.ensures c.texts_behind.ensures c.in_ok-assign_next.ensures c.loop-at.invariant
