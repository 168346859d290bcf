use Rattle.std.proofs.Common.{length, sym, ◌∙◌, arith}
use Rattle.glob_pattern.specs.Lengths.{front_matches}
use Rattle.glob_pattern.proofs.Least.{least_found}
use Rattle.glob_pattern.proofs.lengths.shortest_front.Goals as goal

pub returns-then-front_matches : goal.returns-then-front_matches
returns-then-front_matches c =
    least_found (front_matches c.args.pieces.now c.args.text.now) c.loop-n.n (length c.args.text.now) (omega arith) (sym c.front_matches.ensures ∙ c.if-front_matches.true) c.loop-n.invariant
