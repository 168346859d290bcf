use Rattle.std.proofs.Common.{rules, sym, arith, w64}
use Rattle.std.proofs.lemmas.Int.{to_z-of_z}
use mir.Val.{SFits}
use Rattle.sh_meaning.specs.Arithmetic.{assigns, evaluated}
use Rattle.sh_sums.specs.Frames.{target_name}
use Rattle.sh_sums.proofs.Equations.{name_target, not_name}
use Rattle.sh_sums.proofs.Turns.{assigns_none, assigns_some, entered_all, unwound_none}
use Rattle.sh_sums.proofs.evaluating.into_assign.Goals as goal

pub returns-in_default : goal.returns-in_default
returns-in_default c = record { meant = λ ns. rw (not_name c.args.target.now c.in_default.not-Name) (sym (unwound_none c.args.frames.now ns)); weight = omega arith }

pub returns-in-None-clause-meant : goal.returns-in-None-clause-meant
returns-in-None-clause-meant c = λ ns.
    rw (c.in-Name.is, name_target c.in-Name.name, assigns_none c.in-Name.name c.bytes.result.now c.args.op (evaluated c.args.next.now ns) c.args.vars.now c.bytes.ensures c.in-None.ensures)
    (sym (unwound_none c.args.frames.now ns))

pub returns-in-Some-clause-meant : goal.returns-in-Some-clause-meant
returns-in-Some-clause-meant c =
    let fits : SFits w64 c.in-Some.old = search rules in
    entered_all c.inside.result c.args.frames.now c.inside.new.frames _ c.args.next c.args.vars.now (λ ns. assigns (target_name c.args.target.now) c.args.op (evaluated c.args.next.now ns) c.args.vars.now) c.inside.ensures.turn c.inside.ensures.frames
    (λ ns. rw (c.in-Name.is, name_target c.in-Name.name, c.bytes-in-Some.ensures, to_z-of_z w64 c.in-Some.old fits) (assigns_some c.in-Name.name c.bytes.result.now c.args.op (evaluated c.args.next.now ns) c.args.vars.now c.in-Some.old c.bytes.ensures c.in-Some.ensures))
