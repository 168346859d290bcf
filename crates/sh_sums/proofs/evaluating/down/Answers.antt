use Rattle.std.proofs.Common.{rules, refl, sym, w64}
use Rattle.std.proofs.lemmas.Int.{to_z-of_z}
use mir.Val.{SFits}
use Rattle.sh_sums.proofs.Equations.{constant_gives, name_gives, operand_gives, member_gives, step_gives, comma_gives, unary_gives, binary_gives, and_gives, or_gives, choose_gives, assign_gives}
use Rattle.sh_sums.proofs.Turns.{at_numbers, entered, gives_is, unwound_none}
use Rattle.sh_sums.specs.declared.frames.Frame.TheVariants as frame
use Rattle.sh_sums.proofs.evaluating.down.Goals as goal

pub returns-in-Constant-clause-meant : goal.returns-in-Constant-clause-meant
returns-in-Constant-clause-meant c =
    let fits : SFits w64 c.in-Constant.number = search rules in
    rw (c.in-Constant.is, constant_gives c.in-Constant.number c.args.numbers.now c.args.vars.now, to_z-of_z w64 c.in-Constant.number fits) refl

pub returns-in-Name-clause-meant : goal.returns-in-Name-clause-meant
returns-in-Name-clause-meant c = rw (c.in-Name.is, name_gives c.in-Name.name c.args.numbers.now c.args.vars.now, gives_is) (rw (c.number_in.ensures, c.bytes.ensures) at (c.turn_of.ensures.meant c.args.frames.now c.args.numbers.now c.args.vars.now))

pub returns-in-Operand-clause-meant : goal.returns-in-Operand-clause-meant
returns-in-Operand-clause-meant c = rw (c.in-Operand.is, operand_gives c.in-Operand.k c.args.numbers.now c.args.vars.now, gives_is) (rw c.number_at.ensures at (c.turn_of-in-Operand.ensures.meant c.args.frames.now c.args.numbers.now c.args.vars.now))

pub returns-in-Member-clause-meant : goal.returns-in-Member-clause-meant
returns-in-Member-clause-meant c = rw (c.in-Member.is, member_gives c.in-Member.field-0 c.in-Member.field-1 c.args.numbers.now c.args.vars.now) (sym (unwound_none c.args.frames.now c.args.numbers.now))

pub returns-in-Step-clause-meant : goal.returns-in-Step-clause-meant
returns-in-Step-clause-meant c = rw (c.in-Step.is, step_gives c.in-Step.field-0 c.in-Step.field-1 c.args.numbers.now c.args.vars.now) (sym (unwound_none c.args.frames.now c.args.numbers.now))

pub returns-in-Comma-clause-meant : goal.returns-in-Comma-clause-meant
returns-in-Comma-clause-meant c = rw (c.in-Comma.is, comma_gives c.in-Comma.field-0 c.in-Comma.field-1 c.args.numbers.now c.args.vars.now) (sym (unwound_none c.args.frames.now c.args.numbers.now))

pub returns-in-Unary-clause-meant : goal.returns-in-Unary-clause-meant
returns-in-Unary-clause-meant c =
    entered c.inside.result c.args.frames.now c.inside.new.frames (frame.Unary c.in-Unary.op) c.get.result c.args.numbers.now c.args.vars.now _ c.inside.ensures.turn c.inside.ensures.frames
    (rw (c.in-Unary.is, c.get.ensures) (unary_gives c.in-Unary.op c.in-Unary.a c.args.numbers.now c.args.vars.now))

pub returns-in-Binary-clause-meant : goal.returns-in-Binary-clause-meant
returns-in-Binary-clause-meant c =
    entered c.inside-in-Binary.result c.args.frames.now c.inside-in-Binary.new.frames (frame.Right c.in-Binary.op c.get-in-Binary.result) c.get-in-Binary-2.result c.args.numbers.now c.args.vars.now _ c.inside-in-Binary.ensures.turn c.inside-in-Binary.ensures.frames
    (rw (c.in-Binary.is, c.get-in-Binary.ensures, c.get-in-Binary-2.ensures) (binary_gives c.in-Binary.op c.in-Binary.a c.in-Binary.b c.args.numbers.now c.args.vars.now))

pub returns-in-And-clause-meant : goal.returns-in-And-clause-meant
returns-in-And-clause-meant c =
    entered c.inside-in-And.result c.args.frames.now c.inside-in-And.new.frames (frame.And c.get-in-And.result) c.get-in-And-2.result c.args.numbers.now c.args.vars.now _ c.inside-in-And.ensures.turn c.inside-in-And.ensures.frames
    (rw (c.in-And.is, c.get-in-And.ensures, c.get-in-And-2.ensures) (and_gives c.in-And.a c.in-And.b c.args.numbers.now c.args.vars.now))

pub returns-in-Or-clause-meant : goal.returns-in-Or-clause-meant
returns-in-Or-clause-meant c =
    entered c.inside-in-Or.result c.args.frames.now c.inside-in-Or.new.frames (frame.Or c.get-in-Or.result) c.get-in-Or-2.result c.args.numbers.now c.args.vars.now _ c.inside-in-Or.ensures.turn c.inside-in-Or.ensures.frames
    (rw (c.in-Or.is, c.get-in-Or.ensures, c.get-in-Or-2.ensures) (or_gives c.in-Or.a c.in-Or.b c.args.numbers.now c.args.vars.now))

pub returns-in-Choose-clause-meant : goal.returns-in-Choose-clause-meant
returns-in-Choose-clause-meant c =
    entered c.inside-in-Choose.result c.args.frames.now c.inside-in-Choose.new.frames (frame.Choose c.get-in-Choose.result c.get-in-Choose-2.result) c.get-in-Choose-3.result c.args.numbers.now c.args.vars.now _ c.inside-in-Choose.ensures.turn c.inside-in-Choose.ensures.frames
    (rw (c.in-Choose.is, c.get-in-Choose.ensures, c.get-in-Choose-2.ensures, c.get-in-Choose-3.ensures) (choose_gives c.in-Choose.a c.in-Choose.b c.in-Choose.c c.args.numbers.now c.args.vars.now))

pub returns-in-Assign-clause-meant : goal.returns-in-Assign-clause-meant
returns-in-Assign-clause-meant c = rw (c.in-Assign.is, assign_gives c.in-Assign.a c.in-Assign.op c.in-Assign.b c.args.numbers.now c.args.vars.now) (at_numbers c.into_assign.result _ c.args.numbers.now (rw (c.get-in-Assign.ensures, c.get-in-Assign-2.ensures) at c.into_assign.ensures.meant))
