use Rattle.shell_world.proofs.NameLaws.{folders_told, names_told, names_rise}
use Rattle.shell_world.proofs.laws.names_are_told.Goals as goal

pub returns : goal.returns
returns c = record { folders = folders_told; names = names_told; order = names_rise }
