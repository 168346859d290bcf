use Rattle.std.proofs.Common.{◌≡◌, suc, sym, ◌∙◌, arith}
use Rattle.std.proofs.Common.{◌+◌}
use Rattle.std.proofs.lemmas.Bool.{lt-ltb, le-ltb}
use Rattle.sh_grammar.specs.Steps.{limit}
use Rattle.sh_printer.proofs.SumFits.{fits_where, fits_closed, fits_nowhere}
use Rattle.sh_printer.proofs.checking.sums.expr_check.Goals as goal

pub returns-then-stands_bare-clause-counts : goal.returns-then-stands_bare-clause-counts
returns-then-stands_bare-clause-counts c = λ check n. fits_where check c.args.expr.now c.args.wanted c.args.depth n (sym (rw c.level.ensures at c.stands_bare.ensures) ∙ c.if-stands_bare.true)

pub returns-then-depth-lt-LIMIT-clause-counts : goal.returns-then-depth-lt-LIMIT-clause-counts
returns-then-depth-lt-LIMIT-clause-counts c = λ check n. let one : c.args.depth + 1 ≡ suc c.args.depth = omega arith in rw one (fits_closed check c.args.expr.now c.args.wanted c.args.depth n (sym (rw c.level.ensures at c.stands_bare.ensures) ∙ c.if-stands_bare.false) (lt-ltb c.args.depth limit (omega (arith, c.if-depth-lt-LIMIT.true))))

pub returns-clause-counts : goal.returns-clause-counts
returns-clause-counts c = λ check n. fits_nowhere check c.args.expr.now c.args.wanted c.args.depth n (sym (rw c.level.ensures at c.stands_bare.ensures) ∙ c.if-stands_bare.false) (le-ltb c.args.depth limit (omega (arith, c.if-depth-lt-LIMIT.false)))
