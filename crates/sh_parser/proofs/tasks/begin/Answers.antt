use Rattle.std.proofs.Common.{sym, ◌∙◌}
use Rattle.sh_parser.specs.Tasks.{todos}
use Rattle.sh_parser.specs.Values.{nodes}
use Rattle.sh_parser.specs.Views.{state}
use Rattle.sh_parser.proofs.Turning.{popped, led_turn, rule_turn}
use Rattle.sh_parser.proofs.tasks.begin.Goals as goal

pub returns-then-leads_on-clause-turns : goal.returns-then-leads_on-clause-turns
returns-then-leads_on-clause-turns c = λ n ds.
    led_turn n ds c.args.rule c.body-items.result.now (todos c.args.tasks.now.items) (todos c.push.new.self.items) (nodes c.args.values) (state c.args.bytes.now c.args.notes.now) (sym c.leads_on.ensures ∙ c.if-leads_on.true) c.body-items.ensures (popped _ _ _ c.in_ok-push.ensures.items)

pub returns-clause-turns : goal.returns-clause-turns
returns-clause-turns c = λ n ds.
    rw c.new.ensures (rule_turn n ds c.args.rule c.body-items.result.now (todos c.args.tasks.now.items) (todos c.push-2.new.self.items) (todos c.push-3.new.self.items) (nodes c.args.values) (state c.args.bytes.now c.args.notes.now) c.body-items.ensures (popped _ _ _ c.in_ok-push-2.ensures.items) (popped _ _ _ c.in_ok-push-3.ensures.items))
