use Rattle.std.proofs.Common.{◌∙◌, ap}
use Rattle.shell_world.specs.Texts.{with_nth}
use Rattle.shell_world.specs.Running.{index_of}
use Rattle.shell_world.proofs.LineCuts.{set_mapped}
use Rattle.shell_world.proofs.description.Fds.set.Goals as goal

pub returns-then-is_some : goal.returns-then-is_some
returns-then-is_some c = set_mapped index_of c.self.inside.slots c.args.n c.args.to ∙ ap (with_nth c.args.n (index_of c.args.to)) c.self.view_is
