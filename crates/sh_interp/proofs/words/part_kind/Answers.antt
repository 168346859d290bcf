use Rattle.sh_syntax.proofs.Views.{double_is, param_is, subst_is, arith_part_is}
use Rattle.sh_checks.specs.Places.{where_of}
use Rattle.sh_interp.proofs.words.part_kind.Goals as goal

pub returns-in-Double : goal.returns-in-Double
returns-in-Double c = λ z. rw (c.in-Double.is, double_is c.in-Double.parts, ← c.as_slice.ensures) (c.double.ensures z (where_of c.args.place))

pub returns-in-Param : goal.returns-in-Param
returns-in-Param c = λ z. rw (c.in-Param.is, param_is c.in-Param.param c.in-Param.op) (c.expansion.ensures z)

pub returns-in-Subst : goal.returns-in-Subst
returns-in-Subst c = λ z. rw (c.in-Subst.is, subst_is c.in-Subst.script) (c.substitution.ensures z (where_of c.args.place))

pub returns-in-Arith : goal.returns-in-Arith
returns-in-Arith c = λ z. rw (c.in-Arith.is, arith_part_is c.in-Arith.arith) (c.arithmetic.ensures z (where_of c.args.place))
