use Rattle.std.proofs.Common.{length, sym, ◌∙◌, arith}
use Rattle.glob_pattern.specs.Lengths.{front_matches}
use Rattle.glob_pattern.proofs.Least.{greatest_found}
use Rattle.glob_pattern.proofs.lengths.longest_front.Goals as goal

pub returns-then-front_matches : goal.returns-then-front_matches
returns-then-front_matches c =
    greatest_found (front_matches c.args.pieces.now c.args.text.now) c.fronts.n (length c.args.text.now) (omega arith) (sym c.front_matches.ensures ∙ c.if-front_matches.true) (c.fronts.invariant.1)

pub returns-then-front_matches-2 : goal.returns-then-front_matches-2
returns-then-front_matches-2 c =
    greatest_found (front_matches c.args.pieces.now c.args.text.now) 0 (length c.args.text.now) (omega arith) (sym c.front_matches-2.ensures ∙ c.if-front_matches-2.true) (λ k h g. c.fronts.invariant.1 k (omega arith) g)
