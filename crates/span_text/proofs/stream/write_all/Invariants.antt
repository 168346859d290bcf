use Rattle.std.proofs.Common.{length}
use Rattle.span_text.proofs.Writes.{SoFar}
use Rattle.span_text.proofs.stream.write_all.Given as goal

abbrev pub invariant-rest : goal.invariant-rest
invariant-rest g l = SoFar (g.K.Sink.held l.initial.out) (g.K.Sink.held l.out) (g.K.Sink.faults l.initial.out) (g.K.Sink.faults l.out) l.bytes l.rest

abbrev pub decreases-rest : goal.decreases-rest
decreases-rest g l = length l.rest
