use Rattle.std.proofs.Common.{sym, ◌∙◌}
use Rattle.sh_parser.specs.Tasks.{todos}
use Rattle.sh_parser.specs.Values.{nodes}
use Rattle.sh_parser.specs.Views.{state}
use Rattle.sh_parser.proofs.Turning.{unless_fails, unless_goes}
use Rattle.sh_parser.proofs.tasks.unit_turn.Goals as goal

pub returns-then-holds-clause-turns : goal.returns-then-holds-clause-turns
returns-then-holds-clause-turns c = λ n ds. rw c.in-Unless.is (unless_fails n ds c.in-Unless.test (todos c.args.tasks.now.items) (nodes c.args.values) (state c.args.bytes.now c.args.notes.now) (sym c.holds.ensures ∙ c.if-holds.true))

pub returns-else-holds-clause-turns : goal.returns-else-holds-clause-turns
returns-else-holds-clause-turns c = λ n ds. rw c.in-Unless.is (unless_goes n ds c.in-Unless.test (todos c.args.tasks.now.items) (nodes c.args.values) (state c.args.bytes.now c.args.notes.now) (sym c.holds.ensures ∙ c.if-holds.false))
