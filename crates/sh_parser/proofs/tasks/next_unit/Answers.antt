use Rattle.std.proofs.Common.{◌≡◌, ◌∷◌, true, List, sym, subst, ◌∙◌}
use Rattle.text_grammar.proofs.Tools.{some_is}
use Rattle.sh_parser.specs.Tasks.{Todo, todos, then_items, all_ready}
use Rattle.sh_parser.proofs.Depths.{items_ready, rest_ready, star_ready}
use Rattle.sh_parser.proofs.Turning.{popped, if_turn, where_turn, where_stops}
use Rattle.sh_parser.proofs.tasks.next_unit.Goals as goal

pub returns-in_ok-push_items-in-If-clause-turns : goal.returns-in_ok-push_items-in-If-clause-turns
returns-in_ok-push_items-in-If-clause-turns c = λ n ds xs s e.
    if_turn n ds c.args.item c.in-If.test c.in-If.one c.in-If.other c.side.result c.args.rest.now (todos c.args.tasks.now.items) _ xs s c.args.bytes.now c.in-If.is e c.side.ensures c.in_ok-push_items-in-If.ensures

pub returns-in_ok-push_items-in-Where-clause-turns : goal.returns-in_ok-push_items-in-Where-clause-turns
returns-in_ok-push_items-in-Where-clause-turns c = λ n ds xs s e.
    where_turn n ds c.args.item c.in-Where.test c.args.rest.now (todos c.args.tasks.now.items) _ xs s c.args.bytes.now c.in-Where.is e (sym c.holds.ensures ∙ c.if-holds.true) c.in_ok-push_items-in-Where.ensures

pub returns-in_ok-push_items-in-Where-clause-ready : goal.returns-in_ok-push_items-in-Where-clause-ready
returns-in_ok-push_items-in-Where-clause-ready c = λ a.
    subst (λ (z : List Todo). all_ready z ≡ true) (some_is (then_items c.args.rest.now (todos c.args.tasks.now.items)) _ c.in_ok-push_items-in-Where.ensures) (rest_ready c.args.item c.args.rest.now (todos c.args.tasks.now.items) a)

pub returns-else-holds-clause-turns : goal.returns-else-holds-clause-turns
returns-else-holds-clause-turns c = λ n ds xs s e.
    where_stops n ds c.args.item c.in-Where.test c.args.rest.now (todos c.args.tasks.now.items) xs s c.args.bytes.now c.in-Where.is e (sym c.holds.ensures ∙ c.if-holds.false)

pub returns-else-holds-clause-ready : goal.returns-else-holds-clause-ready
returns-else-holds-clause-ready c = λ a. (items_ready (c.args.item ∷ c.args.rest.now) (todos c.args.tasks.now.items) a).1

pub returns-in_ok-push-in-Star-clause-ready : goal.returns-in_ok-push-in-Star-clause-ready
returns-in_ok-push-in-Star-clause-ready c = λ a.
    let e = some_is (then_items c.args.rest.now (todos c.args.tasks.now.items)) _ c.in_ok-push_items-in-Star.ensures in
    rw (popped _ _ _ c.in_ok-push-in-Star.ensures.items, ← e) (star_ready c.args.item c.in-Star.test c.in-Star.again c.args.rest.now (todos c.args.tasks.now.items) c.in-Star.is a)
