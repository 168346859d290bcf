use Rattle.std.proofs.Common.{◌==◌, ℕ, length, sym, ap, ◌∙◌, arith}
use Rattle.std.proofs.lemmas.Bool.Decides.{nat_tests}
use Rattle.std.specs.Prelude.{map, Option}
use Rattle.sh_printer.specs.Checks.{word_check_weight, word_holds}
use Rattle.sh_printer.specs.SumChecks.{check_of, counted, fits, operand_counted}
use Rattle.sh_printing.specs.Printable.{operand_checks, operand_fits}
use Rattle.sh_printing.specs.Spellable.{is_number}
use Rattle.sh_syntax.specs.View.{view_word, words_of}
use Rattle.sh_printer.proofs.OperandChecks.{check_at, check_past, checks_length, next_operand, other_number, parts_at, unfit_operand}
use Rattle.sh_printer.proofs.SumTexts.{operand_weight}
use Rattle.sh_printer.specs.declared.checking.checks.SumCheck.{SumCheck}
use Rattle.sh_printer.specs.SumChecks.{node_counts, sum_counts, sum_rank}
use Rattle.sh_printer.proofs.Checked.{first_none, second_none, rest_counts}
use Rattle.sh_printer.proofs.checking.+printable.Goals as goal

pub counted-returns-in-Known : goal.counted-returns-in-Known
unfolding counted
counted-returns-in-Known t c = c.counted_if.ensures ∙ sym (ap (λ (s : SumCheck). counted c.args.given s c.sums.count) c.in-Known.is) ∙ c.sums.invariant.0

pub counted-returns-in-Operand : goal.counted-returns-in-Operand
unfolding counted operand_counted
counted-returns-in-Operand t c = c.operand_counted.ensures ∙ sym (ap (λ (s : SumCheck). counted c.args.given s c.sums.count) c.in-Operand.is) ∙ c.sums.invariant.0

pub counted-returns-in_err-count-in-Node : goal.counted-returns-in_err-count-in-Node
unfolding counted
counted-returns-in_err-count-in-Node t c =
    let check = check_of c.args.given in
    let here = sym (ap (λ (s : SumCheck). counted c.args.given s c.sums.count) c.in-Node.is) ∙ c.sums.invariant.0 in
    let same = c.sum_apart-split.ensures.same check c.sums.count in
    c.from_residual.ensures ∙ first_none (sum_counts check c.sum_apart-split.result.first c.sums.count) (node_counts check c.in-Node.node c.in-Node.depth c.sums.count) (sum_counts check c.sum_apart-split.result.second) (sum_counts check c.sum_apart-split.result.rest) same (sym c.counted.ensures ∙ c.in_err-count-in-Node.was) ∙ here

pub counted-returns-in_err-count-in-Node-2 : goal.counted-returns-in_err-count-in-Node-2
unfolding counted
counted-returns-in_err-count-in-Node-2 t c =
    let check = check_of c.args.given in
    let here = sym (ap (λ (s : SumCheck). counted c.args.given s c.sums.count) c.in-Node.is) ∙ c.sums.invariant.0 in
    let same = c.sum_apart-split.ensures.same check c.sums.count in
    c.from_residual-in_err-count-in-Node-2.ensures ∙ second_none (sum_counts check c.sum_apart-split.result.first c.sums.count) (node_counts check c.in-Node.node c.in-Node.depth c.sums.count) (sum_counts check c.sum_apart-split.result.second) (sum_counts check c.sum_apart-split.result.rest) c.in_ok-count-in-Node.count same (sym c.counted.ensures ∙ c.in_ok-count-in-Node.was) (sym c.counted-in-Node.ensures ∙ c.in_err-count-in-Node-2.was) ∙ here

pub counted-sums-preserved : goal.counted-sums-preserved
unfolding counted
counted-sums-preserved t c =
    let check = check_of c.args.given in
    let here = sym (ap (λ (s : SumCheck). counted c.args.given s c.sums.count) c.in-Node.is) ∙ c.sums.invariant.0 in
    let same = c.sum_apart-split.ensures.same check c.sums.count in
    (rest_counts (sum_counts check c.sum_apart-split.result.first c.sums.count) (node_counts check c.in-Node.node c.in-Node.depth c.sums.count) (sum_counts check c.sum_apart-split.result.second) (sum_counts check c.sum_apart-split.result.rest) c.in_ok-count-in-Node.count c.in_ok-count-in-Node-2.count same (sym c.counted.ensures ∙ c.in_ok-count-in-Node.was) (sym c.counted-in-Node.ensures ∙ c.in_ok-count-in-Node-2.was) ∙ here, omega (arith, ap sum_rank c.in-Node.is, c.sums.invariant.1, c.sum_apart-split.ensures.rest_less))

pub operand_counted-returns-then-number-count : goal.operand_counted-returns-then-number-count
unfolding operand_counted
operand_counted-returns-then-number-count t c = other_number (check_of c.args.given) c.args.number c.args.depth c.args.count (grind (arith, nat_tests, c.if-number-count.true))

pub operand_counted-returns-then-number-given : goal.operand_counted-returns-then-number-given
unfolding operand_counted
operand_counted-returns-then-number-given t c = unfit_operand (check_of c.args.given) c.args.number c.args.depth c.args.count (check_past c.args.given.in_body c.args.given.words.now c.args.number c.args.depth (omega (arith, c.if-number-given.true)))

pub operand_counted-holds-requires : goal.operand_counted-holds-requires
unfolding word_check_weight
operand_counted-holds-requires t c =
    let parts = parts_at c.args.given.words.now c.args.number c.index-given-number.result c.as_slice.result.now c.index-given-number.is c.as_slice.ensures in
    (rw (← parts) (omega (arith, operand_weight c.args.given.words.now c.args.number c.index-given-number.result (omega (arith, c.if-number-given.false)) c.index-given-number.is, c.decreases)), tt)

pub operand_counted-returns-then-holds : goal.operand_counted-returns-then-holds
unfolding operand_counted word_holds
operand_counted-returns-then-holds t c =
    let parts = parts_at c.args.given.words.now c.args.number c.index-given-number.result c.as_slice.result.now c.index-given-number.is c.as_slice.ensures in
    let fits = ap (operand_fits c.args.given.in_body c.args.depth) parts ∙ sym c.holds.ensures ∙ c.if-holds.true in
    next_operand (check_of c.args.given) c.args.number c.args.depth c.args.count (grind (arith, nat_tests, c.if-number-count.false)) (omega (arith, c.if-number-count.false)) (check_at c.args.given.in_body c.args.given.words.now c.args.number c.args.depth c.index-given-number.result (omega (arith, c.if-number-given.false)) c.index-given-number.is ∙ fits)

pub operand_counted-returns-else-holds : goal.operand_counted-returns-else-holds
unfolding operand_counted word_holds
operand_counted-returns-else-holds t c =
    let parts = parts_at c.args.given.words.now c.args.number c.index-given-number.result c.as_slice.result.now c.index-given-number.is c.as_slice.ensures in
    let fits = ap (operand_fits c.args.given.in_body c.args.depth) parts ∙ sym c.holds.ensures ∙ c.if-holds.false in
    unfit_operand (check_of c.args.given) c.args.number c.args.depth c.args.count (check_at c.args.given.in_body c.args.given.words.now c.args.number c.args.depth c.index-given-number.result (omega (arith, c.if-number-given.false)) c.index-given-number.is ∙ fits)

pub sum_holds-returns-in-None : goal.sum_holds-returns-in-None
unfolding counted fits
sum_holds-returns-in-None t c = ap (λ (o : Option ℕ). is_number (length (operand_checks c.args.nesting.in_body (words_of (map view_word c.args.operands.now)))) o) (sym c.in-None.is ∙ c.counted.ensures)

pub sum_holds-returns-in-Some : goal.sum_holds-returns-in-Some
unfolding counted fits
sum_holds-returns-in-Some t c = ap (λ (n : ℕ). c.in-Some.count == n) (sym (checks_length c.args.nesting.in_body c.args.operands.now)) ∙ ap (λ (o : Option ℕ). is_number (length (operand_checks c.args.nesting.in_body (words_of (map view_word c.args.operands.now)))) o) (sym c.in-Some.is ∙ c.counted.ensures)
