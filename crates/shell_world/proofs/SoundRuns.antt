-- What is done in a run keeps its files a map of files.
use Rattle.std.proofs.Common.{◌≡◌, ℕ, zero, suc, ◌+◌, Bool, true, false, if◌then◌else◌, List, [], ◌∷◌, ◌++◌, length, is_some, Option, Some, None, refl, sym, ap, ◌∙◌, subst}
use Rattle.std.specs.List.{AllByRecursion}
use Rattle.std.proofs.lemmas.List.Elements.{All-from_recursion, recursion_from_All}
use Rattle.shell_world.specs.declared.world.World.{World}
use Rattle.shell_world.specs.declared.world.Row.{Row}
use Rattle.shell_world.specs.declared.world.Answer.{Answer}
use Rattle.shell_world.specs.declared.world.RowInput.{RowInput}
use Rattle.shell_world.specs.declared.world.RowInput.TheVariants.{Nothing, Any, Exactly}
use Rattle.shell_world.specs.declared.description.Description.TheVariants.{Reading, Writing, Appending, Given, Buffer, Output, Errors}
use Rattle.shell_world.specs.declared.opening.OpenFault.TheVariants as fault
use Rattle.shell_world.specs.declared.opening.Found.{Found}
use Rattle.shell_world.specs.declared.opening.Found.TheVariants as found
use Rattle.shell_world.specs.Texts.{Text, Map, lookup, insert, map_of, nth, with_nth}
use Rattle.shell_world.specs.Outside.{Desc, Outside, Trace, Fds, index_at, desc_at, open_at, change_desc, file_bytes, unread, read_on, consumed_at, drained_at, overwritten, written_at, write_to, written}
use Rattle.shell_world.specs.Calls.{Called, recorded, taken_by, input_after_at, input_after, times, answer_at, answered, row_called, answered_by, called_by, chosen_from}
use Rattle.shell_world.specs.World.{IsPath, IsFolderOf, AreFiles, IsGood, start_outside}
use Rattle.shell_world.specs.Paths.{names_path, path_text, path_of, found_in, is_folder, is_under_file}
use Rattle.shell_world.specs.Lines.{line_taken, line_read_at}
use Rattle.shell_world.specs.Opening.{Opened, Refused, Opens, IfOpens, with_desc, opens, read_found, read_named, read_opened, kept, writer, written_path, write_named, write_opened, emptied, emptied_at, taken_at}
use Rattle.shell_world.specs.Files.{WritesThere, IsSound}
use Rattle.shell_world.proofs.PathLaws.{named_is_path}
use Rattle.shell_world.proofs.FileLaws.{Sound, from_sound, to_sound, sound_new, sound_old, still_there, now_there, map_all, map_ordered, rows_from}

-- by recursion on the lists
record Keeps (o : Outside) : Type 0 where
  files : Sound o.files
  written : AllByRecursion (WritesThere o.files) o.descs

from_keeps : (o : Outside) → Keeps o → IsSound o
from_keeps o k = record { files = from_sound o.files k.files; ordered = k.files.ordered; written = All-from_recursion (WritesThere o.files) o.descs k.written }

to_keeps : (o : Outside) → IsSound o → Keeps o
to_keeps o s = record { files = to_sound o.files s.files s.ordered; written = recursion_from_All (WritesThere o.files) o.descs s.written }

-- ---- descriptions

module _ (P : Desc → Type 0) where
  set_all : (i : ℕ) (d : Desc) (ds : List Desc) → P d → AllByRecursion P ds → AllByRecursion P (with_nth i d ds)
  set_all i d [] p h = tt
  set_all zero d (x ∷ ds) p h = (p, h.1)
  set_all (suc i) d (x ∷ ds) p h = (h.0, set_all i d ds p h.1)

  push_all : (d : Desc) (ds : List Desc) → P d → AllByRecursion P ds → AllByRecursion P (ds ++ d ∷ [])
  push_all d [] p h = (p, tt)
  push_all d (x ∷ ds) p h = (h.0, push_all d ds p h.1)

  abbrev IfDesc : Option Desc → Type 0
  IfDesc None = Unit {0}
  IfDesc (Some d) = P d

  nth_all : (i : ℕ) (ds : List Desc) → AllByRecursion P ds → IfDesc (nth i ds)
  nth_all i [] h = tt
  nth_all zero (x ∷ ds) h = h.0
  nth_all (suc i) (x ∷ ds) h = nth_all i ds h.1

  at_all : (i : Option ℕ) (ds : List Desc) → AllByRecursion P ds → IfDesc (desc_at i ds)
  at_all None ds h = tt
  at_all (Some i) ds h = nth_all i ds h

writes_later : (k v : Text) (m : Map Text) (d : Desc) → WritesThere m d → WritesThere (insert k v m) d
writes_later k v m (Writing path offset) h = still_there path k v m h
writes_later k v m (Appending path) h = still_there path k v m h
writes_later k v m (Reading path offset) h = tt
writes_later k v m (Given text offset) h = tt
writes_later k v m (Buffer text) h = tt
writes_later k v m Output h = tt
writes_later k v m Errors h = tt

all_later : (k v : Text) (m : Map Text) (ds : List Desc) → AllByRecursion (WritesThere m) ds → AllByRecursion (WritesThere (insert k v m)) ds
all_later k v m [] h = tt
all_later k v m (d ∷ ds) h = (writes_later k v m d h.0, all_later k v m ds h.1)

change_keeps : (i : Option ℕ) (d : Desc) (o : Outside) → Keeps o → WritesThere o.files d → Keeps (change_desc i d o)
change_keeps None d o k h = k
change_keeps (Some i) d o k h = record { files = k.files; written = set_all (WritesThere o.files) i d o.descs h k.written }

desc_keeps : (d : Desc) (o : Outside) → Keeps o → WritesThere o.files d → Keeps (with_desc d o)
desc_keeps d o k h = record { files = k.files; written = push_all (WritesThere o.files) d o.descs h k.written }

-- the file of a path that is there
file_keeps : (path text : Text) (o : Outside) → Keeps o → is_some (lookup path o.files) ≡ true → Keeps (record { files = insert path text o.files; descs = o.descs })
file_keeps path text o k h = record { files = sound_old path text o.files k.files h; written = all_later path text o.files o.descs k.written }

-- ---- writing

write_to_keeps : (i : Option ℕ) (d : Option Desc) (piece : Text) (x : Trace × Outside) → Keeps x.1 → IfDesc (WritesThere x.1.files) d → Keeps (write_to i d piece x).1
write_to_keeps i None piece x k h = k
write_to_keeps i (Some (Reading path offset)) piece x k h = k
write_to_keeps i (Some (Given text offset)) piece x k h = k
write_to_keeps i (Some (Writing path offset)) piece x k h =
    let text = overwritten offset piece (file_bytes path x.1) in
    change_keeps i (Writing path (offset + length piece)) (record { files = insert path text x.1.files; descs = x.1.descs }) (file_keeps path text x.1 k h) (now_there path text x.1.files)
write_to_keeps i (Some (Appending path)) piece x k h = file_keeps path (file_bytes path x.1 ++ piece) x.1 k h
write_to_keeps i (Some (Buffer text)) piece x k h = change_keeps i (Buffer (text ++ piece)) x.1 k tt
write_to_keeps i (Some Output) piece x k h = k
write_to_keeps i (Some Errors) piece x k h = k

written_keeps : (i : Option ℕ) (piece : Text) (x : Trace × Outside) → Keeps x.1 → Keeps (written_at i piece x).1
written_keeps i [] x k = k
written_keeps i (b ∷ bs) x k = write_to_keeps i (desc_at i x.1.descs) (b ∷ bs) x k (at_all (WritesThere x.1.files) i x.1.descs k.written)

pub written_sound : (i : Option ℕ) (piece : Text) (x : Trace × Outside) → IsSound x.1 → IsSound (written_at i piece x).1
written_sound i piece x s = from_keeps _ (written_keeps i piece x (to_keeps x.1 s))

-- ---- reading and buffers

read_writes : (n : ℕ) (m : Map Text) (d : Desc) → WritesThere m d → WritesThere m (read_on n d)
read_writes n m (Writing path offset) h = h
read_writes n m (Appending path) h = h
read_writes n m (Reading path offset) h = tt
read_writes n m (Given text offset) h = tt
read_writes n m (Buffer text) h = tt
read_writes n m Output h = tt
read_writes n m Errors h = tt

consumed_keeps : (n : ℕ) (i : Option ℕ) (d : Option Desc) (o : Outside) → Keeps o → IfDesc (WritesThere o.files) d → Keeps (consumed_at n i d o)
consumed_keeps n i None o k h = k
consumed_keeps n i (Some d) o k h = change_keeps i (read_on n d) o k (read_writes n o.files d h)

drained_keeps : (i : Option ℕ) (o : Outside) → Keeps o → Keeps (drained_at i o)
drained_keeps i o k = consumed_keeps _ i (desc_at i o.descs) o k (at_all (WritesThere o.files) i o.descs k.written)

pub line_sound : (i : Option ℕ) (o : Outside) → IsSound o → IsSound (line_read_at i o)
line_sound i o s =
    let k = to_keeps o s in
    from_keeps _ (consumed_keeps (line_taken (unread (desc_at i o.descs) o)) i (desc_at i o.descs) o k (at_all (WritesThere o.files) i o.descs k.written))

emptied_writes : (m : Map Text) (d : Desc) → WritesThere m d → WritesThere m (emptied d)
emptied_writes m (Writing path offset) h = h
emptied_writes m (Appending path) h = h
emptied_writes m (Reading path offset) h = tt
emptied_writes m (Given text offset) h = tt
emptied_writes m (Buffer text) h = tt
emptied_writes m Output h = tt
emptied_writes m Errors h = tt

emptied_keeps : (i : Option ℕ) (d : Option Desc) (o : Outside) → Keeps o → IfDesc (WritesThere o.files) d → Keeps (emptied_at i d o)
emptied_keeps i None o k h = k
emptied_keeps i (Some d) o k h = change_keeps i (emptied d) o k (emptied_writes o.files d h)

pub taken_sound : (i : Option ℕ) (o : Outside) → IsSound o → IsSound (taken_at i o)
taken_sound i o s =
    let k = to_keeps o s in
    from_keeps _ (emptied_keeps i (desc_at i o.descs) o k (at_all (WritesThere o.files) i o.descs k.written))

-- ---- opening

pub desc_sound : (d : Desc) (o : Outside) → IsSound o → WritesThere o.files d → IsSound (with_desc d o)
desc_sound d o s h = from_keeps _ (desc_keeps d o (to_keeps o s) h)

writer_there : (append : Bool) (path : Text) (m : Map Text) → is_some (lookup path m) ≡ true → WritesThere m (writer append path)
writer_there true path m h = h
writer_there false path m h = h

path_keeps : (append : Bool) (path : Text) (o : Outside) → Keeps o → IsPath path → is_folder path o.files ≡ false → is_under_file path o.files ≡ false → IfOpens IsSound (written_path append path o)
path_keeps append path o k is above below =
    let text = kept append (file_bytes path o) in
    let made : Keeps (record { files = insert path text o.files; descs = o.descs }) = record { files = sound_new path text o.files k.files is above below; written = all_later path text o.files o.descs k.written } in
    from_keeps _ (desc_keeps (writer append path) _ made (writer_there append path (insert path text o.files) (now_there path text o.files)))

under_keeps : (append : Bool) (path : Text) (o : Outside) (a b : Bool) → Keeps o → IsPath path → is_folder path o.files ≡ a → is_under_file path o.files ≡ b
    → IfOpens IsSound (if a then Refused fault.IsFolder else (if b then Refused fault.UnderFile else written_path append path o))
under_keeps append path o true b k is above below = tt
under_keeps append path o false true k is above below = tt
under_keeps append path o false false k is above below = path_keeps append path o k is above below

named_keeps : (append : Bool) (text : Text) (o : Outside) (r : Bool) → names_path text ≡ r → Keeps o → IfOpens IsSound (write_named append (if r then Some (path_text text) else None) o)
named_keeps append text o true is k = under_keeps append (path_text text) o _ _ k (named_is_path text is) refl refl
named_keeps append text o false is k = tt

pub write_sound : (append : Bool) (text : Text) (o : Outside) → IsSound o → IfOpens IsSound (write_opened append text o)
write_sound append text o s = named_keeps append text o (names_path text) refl (to_keeps o s)

found_sound : (f : Found) (path : Text) (o : Outside) → IsSound o → IfOpens IsSound (read_found f path o)
found_sound found.Nothing path o s = tt
found_sound found.Folder path o s = tt
found_sound (found.File size) path o s = desc_sound (Reading path 0) o s tt

read_sound_at : (r : Bool) (text : Text) (o : Outside) → IsSound o → IfOpens IsSound (read_named (if r then Some (path_text text) else None) o)
read_sound_at true text o s = found_sound (found_in (path_text text) o.files) (path_text text) o s
read_sound_at false text o s = tt

pub read_sound : (text : Text) (o : Outside) → IsSound o → IfOpens IsSound (read_opened text o)
read_sound text o s = read_sound_at (names_path text) text o s

-- ---- calls

input_keeps : (rule : RowInput) (i : Option ℕ) (o : Outside) → Keeps o → Keeps (input_after_at rule i o)
input_keeps Nothing i o k = k
input_keeps Any i o k = drained_keeps i o k
input_keeps (Exactly text) i o k = drained_keeps i o k

answered_keeps : (a : Answer) (fds : Fds) (x : Trace × Outside) → Keeps x.1 → Keeps (answered a fds x).outside
answered_keeps a fds x k = written_keeps (index_at (nth 2 fds)) a.err (written 1 fds a.out x) (written_keeps (index_at (nth 1 fds)) a.out x k)

choice_keeps : (c : Option (ℕ × Row)) (argv : List Text) (env : List (Text × Text)) (fds : Fds) (input : Text) (t : Trace) (o : Outside) → Keeps o → Keeps (answered_by c argv env fds input t o).outside
choice_keeps None argv env fds input t o k = k
choice_keeps (Some c) argv env fds input t o k =
    answered_keeps (answer_at (times c.0 t.calls) c.1.answers) fds (recorded argv env (taken_by c.1.input input) (Some c.0) t, input_after c.1.input fds o) (input_keeps c.1.input (index_at (nth 0 fds)) o k)

pub call_sound : (rows : List Row) (argv : List Text) (env : List (Text × Text)) (fds : Fds) (t : Trace) (o : Outside) → IsSound o → IsSound (called_by rows argv env fds t o).outside
call_sound rows argv env fds t o s =
    let input = unread (open_at 0 fds o) o in
    from_keeps _ (choice_keeps (chosen_from 0 rows argv input) argv env fds input t o (to_keeps o s))

-- ---- the start

rows_of : (files fs : List (Text × Text)) → AllByRecursion (λ f. AllByRecursion (λ g. ¬ IsFolderOf f.0 g.0) files) fs → AllByRecursion (λ f. AllByRecursion (λ g. ¬ IsFolderOf f.0 g.0) (map_of files)) fs
rows_of files [] h = tt
rows_of files (f ∷ fs) h = (map_all (λ t. ¬ IsFolderOf f.0 t) files h.0, rows_of files fs h.1)

start_files : (files : List (Text × Text)) → AreFiles files → Sound (map_of files)
start_files files h =
    let rows = rows_from files files (recursion_from_All _ files h.apart) in
    record {
      paths = map_all IsPath files (recursion_from_All (λ f. IsPath f.0) files h.paths);
      apart = map_all (λ t. AllByRecursion (λ g. ¬ IsFolderOf t g.0) (map_of files)) files (rows_of files files rows);
      ordered = map_ordered files;
    }

pub start_sound : (world : World) → IsGood world → IsSound (start_outside world)
start_sound world good = from_keeps _ (record { files = start_files world.files good.files; written = (tt, (tt, (tt, tt))) })
