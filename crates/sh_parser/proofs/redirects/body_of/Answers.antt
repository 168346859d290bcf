use Rattle.std.proofs.Common.{◌+◌, ◌∙◌, arith}
use Rattle.sh_parser.proofs.Known.{nth_beyond, nth_known}
use Rattle.sh_parser.proofs.redirects.body_of.Goals as goal

pub returns-then-found-bodies : goal.returns-then-found-bodies
returns-then-found-bodies c = nth_beyond c.args.bodies.now (c.args.owed + c.args.found) (omega (arith, c.if-found-bodies.true))

pub returns-then-owed-bodies : goal.returns-then-owed-bodies
returns-then-owed-bodies c = nth_beyond c.args.bodies.now (c.args.owed + c.args.found) (omega (arith, c.if-owed-bodies.true, c.if-found-bodies.false))

pub returns : goal.returns
returns c = c.bytes.ensures ∙ (c.index-bodies-owed.is ∙ nth_known c.args.bodies.now (c.args.owed + c.args.found) c.index-bodies-owed.result (omega (arith, c.if-owed-bodies.false, c.if-found-bodies.false)))
