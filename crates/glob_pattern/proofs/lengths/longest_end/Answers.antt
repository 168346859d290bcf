use Rattle.std.proofs.Common.{length, sym, ◌∙◌, arith}
use Rattle.glob_pattern.specs.Lengths.{end_matches}
use Rattle.glob_pattern.proofs.Least.{greatest_found}
use Rattle.glob_pattern.proofs.lengths.longest_end.Goals as goal

pub returns-then-end_matches : goal.returns-then-end_matches
returns-then-end_matches c =
    greatest_found (end_matches c.args.pieces.now c.args.text.now) c.ends.n (length c.args.text.now) (omega arith) (sym c.end_matches.ensures ∙ c.if-end_matches.true) (c.ends.invariant.1)

pub returns-then-end_matches-2 : goal.returns-then-end_matches-2
returns-then-end_matches-2 c =
    greatest_found (end_matches c.args.pieces.now c.args.text.now) 0 (length c.args.text.now) (omega arith) (sym c.end_matches-2.ensures ∙ c.if-end_matches-2.true) (λ k h g. c.ends.invariant.1 k (omega arith) g)
