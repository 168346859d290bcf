use Rattle.std.proofs.Common.{sym, subst, List, ℕ}
use Rattle.span_text.proofs.Writes.{SoFar, SoFar-more}
use Rattle.span_text.proofs.stream.write_all.Goals as goal

pub rest-preserved : goal.rest-preserved
rest-preserved g c =
    let more = SoFar-more (g.K.Sink.held c.args.out.now) (g.K.Sink.held c.rest.out) (g.K.Sink.held c.write.new.self) (g.K.Sink.faults c.args.out.now) (g.K.Sink.faults c.rest.out) (g.K.Sink.faults c.write.new.self) c.in_ok-taken.taken c.args.bytes.now c.rest.rest.now c.rest.invariant c.in_ok-taken.ensures.appended c.write.ensures.never_falls in
    rw c.split_at.ensures.back more
