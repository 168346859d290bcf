-- The outside of a run: files, open descriptions, and the record of what was called and written.
use Rattle.std.specs.Prelude.{ℕ, Bool, true, false, zero, suc, ◌+◌, List, [], ◌∷◌, ◌++◌, length, drop, Option, Some, None}
use Rattle.shell_world.specs.declared.world.Call.{Call}
use Rattle.shell_world.specs.declared.description.Description.{Description}
use Rattle.shell_world.specs.declared.description.Description.TheVariants.{Reading, Writing, Appending, Given, Buffer, Output, Errors}
use Rattle.shell_world.specs.Texts.{Text, Map, lookup, insert, nth, with_nth, text_or_none}

-- an open description (POSIX XBD 3.258)
abbrev pub Desc : Type 0
Desc = Description

pub record Outside : Type 0 where
  pub files : Map Text
  pub descs : List Desc

-- the record so far: the external calls, standard output and standard error
pub record Trace : Type 0 where
  pub calls : List Call
  pub out : Text
  pub err : Text

-- descriptors 0 to 9, each with the index of its description, or closed (POSIX 2.7)
abbrev pub Fds : Type 0
Fds = List (Option ℕ)

abbrev pub index_at : Option (Option ℕ) → Option ℕ
index_at None = None
index_at (Some i) = i

abbrev pub desc_at : Option ℕ → List Desc → Option Desc
desc_at None ds = None
desc_at (Some i) ds = nth i ds

-- the description of a descriptor
abbrev pub open_at : ℕ → Fds → Outside → Option Desc
open_at fd fds o = desc_at (index_at (nth fd fds)) o.descs

abbrev pub change_desc : Option ℕ → Desc → Outside → Outside
change_desc None d o = o
change_desc (Some i) d o = record o { descs = with_nth i d o.descs }

abbrev pub file_bytes : Text → Outside → Text
file_bytes path o = text_or_none (lookup path o.files)

-- what is still to be read, where it is open for reading
abbrev pub unread : Option Desc → Outside → Text
unread None o = []
unread (Some (Reading path offset)) o = drop offset (file_bytes path o)
unread (Some (Given text offset)) o = drop offset text
unread (Some (Writing path offset)) o = []
unread (Some (Appending path)) o = []
unread (Some (Buffer text)) o = []
unread (Some Output) o = []
unread (Some Errors) o = []

abbrev pub read_on : ℕ → Desc → Desc
read_on n (Reading path offset) = Reading path (offset + n)
read_on n (Given text offset) = Given text (offset + n)
read_on n (Writing path offset) = Writing path offset
read_on n (Appending path) = Appending path
read_on n (Buffer text) = Buffer text
read_on n Output = Output
read_on n Errors = Errors

-- n bytes were read through an index
abbrev pub consumed_at : ℕ → Option ℕ → Option Desc → Outside → Outside
consumed_at n i None o = o
consumed_at n i (Some d) o = change_desc i (read_on n d) o

-- all that there was to be read at an index was taken
abbrev pub drained_at : Option ℕ → Outside → Outside
drained_at i o = consumed_at (length (unread (desc_at i o.descs) o)) i (desc_at i o.descs) o

-- the same through a descriptor
abbrev pub drained : ℕ → Fds → Outside → Outside
drained fd fds o = drained_at (index_at (nth fd fds)) o

-- the first n bytes, with NUL bytes where there are none
abbrev pub padded : ℕ → Text → Text
padded zero text = []
padded (suc n) [] = 0 ∷ padded n []
padded (suc n) (b ∷ bs) = b ∷ padded n bs

abbrev pub overwritten : ℕ → Text → Text → Text
overwritten offset piece bytes = padded offset bytes ++ piece ++ drop (offset + length piece) bytes

-- the description once a piece was written through it
abbrev pub written_on : Text → Desc → Desc
written_on piece (Reading path offset) = Reading path offset
written_on piece (Given text offset) = Given text offset
written_on piece (Writing path offset) = Writing path (offset + length piece)
written_on piece (Appending path) = Appending path
written_on piece (Buffer text) = Buffer (text ++ piece)
written_on piece Output = Output
written_on piece Errors = Errors

abbrev pub written_on_at : Option ℕ → Text → Option Desc → Outside → Outside
written_on_at i piece None o = o
written_on_at i piece (Some d) o = change_desc i (written_on piece d) o

-- what is written next is written at this offset of the file
abbrev pub writing_at : ℕ → Desc → Desc
writing_at later (Writing path offset) = Writing path later
writing_at later (Reading path offset) = Reading path offset
writing_at later (Given text offset) = Given text offset
writing_at later (Appending path) = Appending path
writing_at later (Buffer text) = Buffer text
writing_at later Output = Output
writing_at later Errors = Errors

abbrev pub moved_at : Option ℕ → ℕ → Option Desc → Outside → Outside
moved_at i later None o = o
moved_at i later (Some d) o = change_desc i (writing_at later d) o

-- the record and the outside once a piece that isn't empty was written to a description
abbrev pub write_to : Option ℕ → Option Desc → Text → Trace × Outside → Trace × Outside
write_to i None piece x = x
write_to i (Some (Reading path offset)) piece x = x
write_to i (Some (Given text offset)) piece x = x
write_to i (Some (Writing path offset)) piece x =
    (x.0, change_desc i (Writing path (offset + length piece)) (record (x.1) { files = insert path (overwritten offset piece (file_bytes path x.1)) x.1.files }))
write_to i (Some (Appending path)) piece x = (x.0, record (x.1) { files = insert path (file_bytes path x.1 ++ piece) x.1.files })
write_to i (Some (Buffer text)) piece x = (x.0, change_desc i (Buffer (text ++ piece)) x.1)
write_to i (Some Output) piece x = (record (x.0) { out = x.0.out ++ piece }, x.1)
write_to i (Some Errors) piece x = (record (x.0) { err = x.0.err ++ piece }, x.1)

-- the same of any piece: what isn't open for writing drops it
abbrev pub written_at : Option ℕ → Text → Trace × Outside → Trace × Outside
written_at i [] x = x
written_at i (b ∷ bs) x = write_to i (desc_at i x.1.descs) (b ∷ bs) x

-- the same through a descriptor
abbrev pub written : ℕ → Fds → Text → Trace × Outside → Trace × Outside
written fd fds piece x = written_at (index_at (nth fd fds)) piece x

-- whether something is open for writing there
abbrev pub is_written : Option Desc → Bool
is_written None = false
is_written (Some (Reading path offset)) = false
is_written (Some (Given text offset)) = false
is_written (Some (Writing path offset)) = true
is_written (Some (Appending path)) = true
is_written (Some (Buffer text)) = true
is_written (Some Output) = true
is_written (Some Errors) = true

-- whether a piece can be written there: one without bytes always can
abbrev pub takes_piece : Option ℕ → Text → List Desc → Bool
takes_piece i [] ds = true
takes_piece i (b ∷ bs) ds = is_written (desc_at i ds)
