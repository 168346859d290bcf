use Rattle.std.proofs.Common.{◌∷◌, [], decimal}
use Rattle.std.proofs.lemmas.Result.{err_from_is_err_and}
use Rattle.span_text.proofs.Writes.{Wrote-early, Wrote-then}
use Rattle.bash2sh.proofs.messages.write_place.Goals as goal

pub returns-in_err-write_all : goal.returns-in_err-write_all
returns-in_err-write_all g c =
    let p = err_from_is_err_and c.from_residual-in_err-write_all.result c.from_residual-in_err-write_all.ensures.1 in
    Wrote-then (g.E.Sink.held c.args.err.now) (g.E.Sink.held c.write_number.new.err) (g.E.Sink.held c.write_all.new.out) (g.E.Sink.faults c.args.err.now) (g.E.Sink.faults c.write_number.new.err) (g.E.Sink.faults c.write_all.new.out) c.from_residual-in_err-write_all.result (decimal c.args.place.line) (58 ∷ decimal c.args.place.column) c.in_ok-write_number.ensures
    (Wrote-early (g.E.Sink.held c.write_number.new.err) (g.E.Sink.held c.write_all.new.out) (g.E.Sink.faults c.write_number.new.err) (g.E.Sink.faults c.write_all.new.out) c.from_residual-in_err-write_all.result _ (58 ∷ []) (decimal c.args.place.column) p.1 c.in_err-write_all.ensures)

pub returns : goal.returns
returns g c =
    Wrote-then (g.E.Sink.held c.args.err.now) (g.E.Sink.held c.write_number.new.err) (g.E.Sink.held c.write_number-2.new.err) (g.E.Sink.faults c.args.err.now) (g.E.Sink.faults c.write_number.new.err) (g.E.Sink.faults c.write_number-2.new.err) c.write_number-2.result (decimal c.args.place.line) (58 ∷ decimal c.args.place.column) c.in_ok-write_number.ensures
    (Wrote-then (g.E.Sink.held c.write_number.new.err) (g.E.Sink.held c.write_all.new.out) (g.E.Sink.held c.write_number-2.new.err) (g.E.Sink.faults c.write_number.new.err) (g.E.Sink.faults c.write_all.new.out) (g.E.Sink.faults c.write_number-2.new.err) c.write_number-2.result (58 ∷ []) (decimal c.args.place.column) c.in_ok-write_all.ensures c.write_number-2.ensures)
