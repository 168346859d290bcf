use Rattle.shell_world.proofs.PathLaws.{named_is_path, folder_told, folder_found}
use Rattle.shell_world.proofs.laws.texts_name_paths.Goals as goal

pub returns : goal.returns
returns c = record { path = named_is_path; folder = λ folder path some. (folder_told folder path some, folder_found folder path) }
