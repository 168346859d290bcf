-- What is opened (POSIX XCU 2.7, XSH open), and what a command substitution takes (2.6.3).
use Rattle.std.specs.Prelude.{◌≡◌, ℕ, Bool, true, false, if◌then◌else◌, [], ◌∷◌, ◌++◌, length, take, Option, Some, None, Result, Ok, Err}
use Rattle.shell_world.specs.declared.description.Desc.{Desc as Number}
use Rattle.shell_world.specs.declared.description.Description.TheVariants.{Reading, Writing, Appending, Given, Buffer, Output, Errors}
use Rattle.shell_world.specs.declared.opening.OpenFault.{OpenFault}
use Rattle.shell_world.specs.declared.opening.OpenFault.TheVariants as fault
use Rattle.shell_world.specs.declared.opening.Found.{Found}
use Rattle.shell_world.specs.declared.opening.Found.TheVariants as found
use Rattle.shell_world.specs.Texts.{Text, insert}
use Rattle.shell_world.specs.Outside.{Desc, Outside, file_bytes, change_desc, desc_at}
use Rattle.shell_world.specs.Paths.{path_of, found_in, is_folder, is_under_file}
use Rattle.shell_world.specs.Running.{Running}

-- why nothing was opened, or the number of what was, and the outside then
pub data Opened : Type 0 where
  Refused : OpenFault → Opened
  Opens : ℕ → Outside → Opened

-- what is opened gets the next number
abbrev pub with_desc : Desc → Outside → Outside
with_desc d o = record o { descs = o.descs ++ d ∷ [] }

abbrev pub opens : Desc → Outside → Opened
opens d o = Opens (length o.descs) (with_desc d o)

-- the descriptions behind so many are taken back
abbrev pub with_first : ℕ → Outside → Outside
with_first count o = record o { descs = take count o.descs }

-- ---- files for reading

abbrev pub read_found : Found → Text → Outside → Opened
read_found found.Nothing path o = Refused fault.NoFile
read_found found.Folder path o = Refused fault.IsFolder
read_found (found.File size) path o = opens (Reading path 0) o

abbrev pub read_named : Option Text → Outside → Opened
read_named None o = Refused fault.NoPath
read_named (Some path) o = read_found (found_in path o.files) path o

-- `< text`
abbrev pub read_opened : Text → Outside → Opened
read_opened text o = read_named (path_of text) o

-- ---- files for writing

-- what stays of a file
abbrev pub kept : Bool → Text → Text
kept true bytes = bytes
kept false bytes = []

abbrev pub writer : Bool → Text → Desc
writer true path = Appending path
writer false path = Writing path 0

-- the file is there from then on, empty unless it is appended to
abbrev pub written_path : Bool → Text → Outside → Opened
written_path append path o = opens (writer append path) (record o { files = insert path (kept append (file_bytes path o)) o.files })

abbrev pub write_named : Bool → Option Text → Outside → Opened
write_named append None o = Refused fault.NoPath
write_named append (Some path) o =
    if is_folder path o.files then Refused fault.IsFolder else (if is_under_file path o.files then Refused fault.UnderFile else written_path append path o)

-- `> text`, and `>> text` where it appends
abbrev pub write_opened : Bool → Text → Outside → Opened
write_opened append text o = write_named append (path_of text) o

-- ---- what a call that opens answers, and what it leaves: neither a refusal nor want of memory changes anything

abbrev pub IsRefused : OpenFault → Opened → Running → Running → Type 0
IsRefused fault opened before after = (opened ≡ Refused fault) × (after ≡ before)

abbrev pub IsOpenedAs : Opened → Number → Running → Running → Type 0
IsOpenedAs opened number before after = (opened ≡ Opens number.0 after.outside) × (after ≡ record before { outside = after.outside })

abbrev pub IsOpened : Opened → Result Number OpenFault → Running → Running → Type 0
IsOpened opened (Ok number) before after = IsOpenedAs opened number before after
IsOpened opened (Err fault.Memory) before after = after ≡ before
IsOpened opened (Err fault.NoPath) before after = IsRefused fault.NoPath opened before after
IsOpened opened (Err fault.IsFolder) before after = IsRefused fault.IsFolder opened before after
IsOpened opened (Err fault.NoFile) before after = IsRefused fault.NoFile opened before after
IsOpened opened (Err fault.UnderFile) before after = IsRefused fault.UnderFile opened before after

-- ---- texts and buffers

-- a here-document's text
abbrev pub text_opened : Text → Outside → Opened
text_opened text o = opens (Given text 0) o

-- what a command substitution is written to
abbrev pub buffer_opened : Outside → Opened
buffer_opened o = opens (Buffer []) o

abbrev pub buffer_text : Option Desc → Text
buffer_text None = []
buffer_text (Some (Buffer text)) = text
buffer_text (Some (Reading path offset)) = []
buffer_text (Some (Given text offset)) = []
buffer_text (Some (Writing path offset)) = []
buffer_text (Some (Appending path)) = []
buffer_text (Some Output) = []
buffer_text (Some Errors) = []

abbrev pub emptied : Desc → Desc
emptied (Buffer text) = Buffer []
emptied (Reading path offset) = Reading path offset
emptied (Given text offset) = Given text offset
emptied (Writing path offset) = Writing path offset
emptied (Appending path) = Appending path
emptied Output = Output
emptied Errors = Errors

abbrev pub emptied_at : Option ℕ → Option Desc → Outside → Outside
emptied_at i None o = o
emptied_at i (Some d) o = change_desc i (emptied d) o

-- the text of a buffer was taken, which is empty then
abbrev pub taken_at : Option ℕ → Outside → Outside
taken_at i o = emptied_at i (desc_at i o.descs) o

-- P of the outside, where something was opened
abbrev pub IfOpens : (Outside → Type 0) → Opened → Type 0
IfOpens P (Refused fault) = Unit {0}
IfOpens P (Opens number o) = P o
