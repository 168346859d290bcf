use Rattle.std.proofs.Common.{length, sym, ◌∙◌, arith}
use Rattle.glob_pattern.specs.Lengths.{end_matches}
use Rattle.glob_pattern.proofs.Least.{least_found}
use Rattle.glob_pattern.proofs.lengths.shortest_end.Goals as goal

pub returns-then-end_matches : goal.returns-then-end_matches
returns-then-end_matches c =
    least_found (end_matches c.args.pieces.now c.args.text.now) c.loop-n.n (length c.args.text.now) (omega arith) (sym c.end_matches.ensures ∙ c.if-end_matches.true) c.loop-n.invariant
