use Rattle.std.proofs.Common.{◌∙◌}
use Rattle.sh_checks.proofs.Exports.{export_rest, no_export}
use Rattle.sh_checks.proofs.roles.is_literal_export.Goals as goal

pub returns-in-None : goal.returns-in-None
returns-in-None c = no_export c.args.word.now (rw c.as_slice.ensures at c.in-None.ensures)

pub returns-in-Some : goal.returns-in-Some
returns-in-Some c = c.is_empty.ensures ∙ export_rest c.args.word.now c.in-Some.rest.now (rw c.as_slice.ensures at c.in-Some.ensures)
