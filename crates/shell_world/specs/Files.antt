-- What holds of the outside throughout a run in a good world.
use Rattle.std.specs.Prelude.{◌≡◌, true, All, is_some}
use Rattle.std.specs.FinMap.{is_sorted}
use Rattle.shell_world.specs.declared.description.Description.TheVariants.{Reading, Writing, Appending, Given, Buffer, Output, Errors}
use Rattle.shell_world.specs.Texts.{Text, Map, text_cmp, lookup}
use Rattle.shell_world.specs.Outside.{Desc, Outside}
use Rattle.shell_world.specs.World.{AreFiles}

abbrev pub IsThere : Text → Map Text → Type 0
IsThere path files = is_some (lookup path files) ≡ true

-- a description that writes to a file writes to one that is there
abbrev pub WritesThere : Map Text → Desc → Type 0
WritesThere files (Writing path offset) = IsThere path files
WritesThere files (Appending path) = IsThere path files
WritesThere files (Reading path offset) = Unit {0}
WritesThere files (Given text offset) = Unit {0}
WritesThere files (Buffer text) = Unit {0}
WritesThere files Output = Unit {0}
WritesThere files Errors = Unit {0}

-- the files are a map of files: each key is a path, none stands twice, and none is a folder of another
pub record IsSound (o : Outside) : Type 0 where
  pub files : AreFiles o.files
  pub ordered : is_sorted text_cmp o.files ≡ true
  pub written : All (WritesThere o.files) o.descs
