use Rattle.std.proofs.Common.{Bool, sym, ap, ◌∙◌, arith}
use Rattle.span_text.specs.declared.expr.Expr.TheOpen as layer
use Rattle.span_text.specs.declared.expr.Expr.TheVariants as expr
use Rattle.sh_printer.proofs.Chains.{nodes_is, some_nodes}
use Rattle.std.proofs.Common.{rules}
use Rattle.std.proofs.lemmas.Int.{to_z-of_z}
use mir.Val.{SFits}
use mir.Syntax.{w64}
use Rattle.sh_printer.specs.SumChecks.{is_constant, known}
use Rattle.sh_printer.proofs.SumFits.{and_counts, assigned_counts, binary_counts, choice_counts, constant_counts, counting, member_counts, name_counts, no_comma, operand_counted_is, or_counts, step_counts, unary_counts}
use Rattle.sh_printer.proofs.checking.sums.end_apart.Goals as goal

pub returns-in-Constant : goal.returns-in-Constant
returns-in-Constant c =
    let fits : SFits w64 c.in-Constant.n = search rules in
    counting _ _ _ _ c.only.result (λ check n. ap (λ (b : Bool). known b n) (c.is_constant.ensures ∙ ap is_constant (to_z-of_z w64 c.in-Constant.n fits)) ∙ constant_counts check c.args.expr.now c.in-Constant.n c.args.depth n fits (c.in-Constant.is ∙ sym (expr.rolls-Constant c.in-Constant.n))) (omega (arith, some_nodes c.args.expr.now)) (c.only.ensures)

pub returns-in-Name : goal.returns-in-Name
returns-in-Name c = counting _ _ _ _ c.only-in-Name.result (λ check n. ap (λ (b : Bool). known b n) (rw c.bytes.ensures at c.is_name.ensures) ∙ name_counts check c.args.expr.now c.in-Name.text c.args.depth n (c.in-Name.is ∙ sym (expr.rolls-Name c.in-Name.text))) (omega (arith, some_nodes c.args.expr.now)) (c.only-in-Name.ensures)

pub returns-in-Operand : goal.returns-in-Operand
returns-in-Operand c = counting _ _ _ _ c.only-in-Operand.result (λ check n. operand_counted_is check c.args.expr.now c.in-Operand.n c.args.depth n (c.in-Operand.is ∙ sym (expr.rolls-Operand c.in-Operand.n))) (omega (arith, some_nodes c.args.expr.now)) (c.only-in-Operand.ensures)

pub returns-in-Member : goal.returns-in-Member
returns-in-Member c = counting _ _ _ _ c.only-in-Member.result (λ check n. member_counts check c.args.expr.now c.in-Member.field-1 c.in-Member.field-0 c.args.depth n (c.in-Member.is ∙ sym (expr.rolls-Member c.in-Member.field-0 c.in-Member.field-1))) (omega (arith, some_nodes c.args.expr.now)) (c.only-in-Member.ensures)

pub returns-in-Unary : goal.returns-in-Unary
returns-in-Unary c = counting _ _ _ _ c.only-in-Unary.result (λ check n. rw c.get.ensures (unary_counts check c.args.expr.now c.in-Unary.a c.in-Unary.field-0 c.args.depth n (c.in-Unary.is ∙ sym (expr.rolls-Unary c.in-Unary.field-0 c.in-Unary.a)))) (rw c.get.ensures (omega (arith, nodes_is c.args.expr.now (layer.Unary c.in-Unary.field-0 c.in-Unary.a) (c.in-Unary.is ∙ sym (expr.rolls-Unary c.in-Unary.field-0 c.in-Unary.a))))) (c.only-in-Unary.ensures)

pub returns-in-Step : goal.returns-in-Step
returns-in-Step c = counting _ _ _ _ c.only-in-Step.result (λ check n. step_counts check c.args.expr.now c.in-Step.field-1 c.in-Step.field-0 c.args.depth n (c.in-Step.is ∙ sym (expr.rolls-Step c.in-Step.field-0 c.in-Step.field-1))) (omega (arith, some_nodes c.args.expr.now)) (c.only-in-Step.ensures)

pub returns-in-Comma : goal.returns-in-Comma
returns-in-Comma c = counting _ _ _ _ c.only-in-Comma.result (λ check n. no_comma check c.args.expr.now c.in-Comma.field-0 c.in-Comma.field-1 c.args.depth n (c.in-Comma.is ∙ sym (expr.rolls-Comma c.in-Comma.field-0 c.in-Comma.field-1))) (omega (arith, some_nodes c.args.expr.now)) (c.only-in-Comma.ensures)

pub infix_apart-requires : goal.infix_apart-requires
infix_apart-requires c = rw c.get-in-Binary.ensures (omega (arith, nodes_is c.args.expr.now (layer.Binary c.in-Binary.op c.in-Binary.a c.in-Binary.field-2) (c.in-Binary.is ∙ sym (expr.rolls-Binary c.in-Binary.op c.in-Binary.a c.in-Binary.field-2))))

pub returns-in-Binary : goal.returns-in-Binary
returns-in-Binary c = counting _ _ _ _ c.infix_apart.result (λ check n. rw (c.get-in-Binary.ensures, c.left_level.ensures) (sym (binary_counts check c.in-Binary.op c.in-Binary.a c.in-Binary.field-2 c.args.expr.now c.args.depth n (c.in-Binary.is ∙ sym (expr.rolls-Binary c.in-Binary.op c.in-Binary.a c.in-Binary.field-2))))) (omega arith) (c.infix_apart.ensures)

pub infix_apart-requires-in-And : goal.infix_apart-requires-in-And
infix_apart-requires-in-And c = rw c.get-in-And.ensures (omega (arith, nodes_is c.args.expr.now (layer.And c.in-And.a c.in-And.field-1) (c.in-And.is ∙ sym (expr.rolls-And c.in-And.a c.in-And.field-1))))

pub returns-in-And : goal.returns-in-And
returns-in-And c = counting _ _ _ _ c.infix_apart-in-And.result (λ check n. rw (c.get-in-And.ensures) (sym (and_counts check c.in-And.a c.in-And.field-1 c.args.expr.now c.args.depth n (c.in-And.is ∙ sym (expr.rolls-And c.in-And.a c.in-And.field-1))))) (omega arith) (c.infix_apart-in-And.ensures)

pub infix_apart-requires-in-Or : goal.infix_apart-requires-in-Or
infix_apart-requires-in-Or c = rw c.get-in-Or.ensures (omega (arith, nodes_is c.args.expr.now (layer.Or c.in-Or.a c.in-Or.field-1) (c.in-Or.is ∙ sym (expr.rolls-Or c.in-Or.a c.in-Or.field-1))))

pub returns-in-Or : goal.returns-in-Or
returns-in-Or c = counting _ _ _ _ c.infix_apart-in-Or.result (λ check n. rw (c.get-in-Or.ensures) (sym (or_counts check c.in-Or.a c.in-Or.field-1 c.args.expr.now c.args.depth n (c.in-Or.is ∙ sym (expr.rolls-Or c.in-Or.a c.in-Or.field-1))))) (omega arith) (c.infix_apart-in-Or.ensures)

pub returns-in-Assign : goal.returns-in-Assign
returns-in-Assign c = counting _ _ _ _ c.assigned_apart.result (λ check n. rw (c.get-in-Assign.ensures, c.get-in-Assign-2.ensures) (assigned_counts check c.in-Assign.a c.in-Assign.b c.args.expr.now c.in-Assign.op c.args.depth n (c.in-Assign.is ∙ sym (expr.rolls-Assign c.in-Assign.a c.in-Assign.op c.in-Assign.b)))) (rw (c.get-in-Assign.ensures, c.get-in-Assign-2.ensures) (omega (arith, nodes_is c.args.expr.now (layer.Assign c.in-Assign.a c.in-Assign.op c.in-Assign.b) (c.in-Assign.is ∙ sym (expr.rolls-Assign c.in-Assign.a c.in-Assign.op c.in-Assign.b))))) (c.assigned_apart.ensures)

pub returns-in-Choose : goal.returns-in-Choose
returns-in-Choose c = counting _ _ _ _ c.choice_apart.result (λ check n. rw (c.get-in-Choose.ensures, c.get-in-Choose-2.ensures, c.get-in-Choose-3.ensures) (choice_counts check c.in-Choose.a c.in-Choose.b c.in-Choose.c c.args.expr.now c.args.depth n (c.in-Choose.is ∙ sym (expr.rolls-Choose c.in-Choose.a c.in-Choose.b c.in-Choose.c)))) (rw (c.get-in-Choose.ensures, c.get-in-Choose-2.ensures, c.get-in-Choose-3.ensures) (omega (arith, nodes_is c.args.expr.now (layer.Choose c.in-Choose.a c.in-Choose.b c.in-Choose.c) (c.in-Choose.is ∙ sym (expr.rolls-Choose c.in-Choose.a c.in-Choose.b c.in-Choose.c))))) (c.choice_apart.ensures)
