use Rattle.std.proofs.Common.{sym, ap, ◌∙◌}
use Rattle.shell_world.specs.Paths.{path_text}
use Rattle.shell_world.proofs.Parts.{same_end, ends_here}
use Rattle.shell_world.proofs.paths.names_this.Goals as goal

pub returns-in-None : goal.returns-in-None
returns-in-None c = ap ends_here c.in-None.ensures ∙ sym (same_end (path_text c.args.text.now) c.args.path.now)

pub returns-in-Some : goal.returns-in-Some
returns-in-Some c = c.is_empty.ensures ∙ ap ends_here c.in-Some.ensures ∙ sym (same_end (path_text c.args.text.now) c.args.path.now)
