use Rattle.std.proofs.Common.{sym, ◌∙◌}
use Rattle.sh_parser.specs.Tasks.{todos}
use Rattle.sh_parser.proofs.Turning.{popped, star_turn, star_stops}
use Rattle.sh_parser.proofs.tasks.star_unit.Goals as goal

pub returns-then-holds-clause-turns : goal.returns-then-holds-clause-turns
returns-then-holds-clause-turns c = λ n ds xs s e.
    star_turn n ds c.args.test c.args.unit (todos c.args.tasks.now.items) _ xs s c.args.bytes.now c.requires e (sym c.holds.ensures ∙ c.if-holds.true) (popped _ _ _ c.in_ok-push.ensures.items)

pub returns-clause-turns : goal.returns-clause-turns
returns-clause-turns c = λ n ds xs s e.
    star_stops n ds c.args.test c.args.unit (todos c.args.tasks.now.items) xs s c.args.bytes.now c.requires e (sym c.holds.ensures ∙ c.if-holds.false)
