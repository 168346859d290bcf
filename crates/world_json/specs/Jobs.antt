-- Jobs: scripts with their worlds.
use Rattle.std.specs.Prelude.{ℕ, ◌==◌, ◌&&◌, ◌||◌, not, nat_le, nat_lt, Bool, true, false, if◌then◌else◌, List, [], ◌∷◌, ◌++◌, length, codes, Option, Some, None, is_some}
use Rattle.std.specs.List.{slice_split, list_all, list_any}
use Rattle.std.specs.Str.{is_utf8}
use Rattle.span_text.specs.Names.{is_name, is_reserved}
use Rattle.span_text.specs.KnownNames.{same_text, is_special_name}
use Rattle.serde_json.specs.Data.{Data, null, boolean, number, string, array, object, Members, no_members, member}
use Rattle.serde_json.specs.Find.{get, as_object}
use Rattle.serde_json.specs.Read.{read}
use Rattle.shell_world.specs.Texts.{Text}
use Rattle.shell_world.specs.World.{below_root}
use Rattle.shell_world.specs.declared.world.World.{World}
use Rattle.shell_world.specs.declared.world.Bounds.{Bounds}
use Rattle.shell_world.specs.declared.world.Latitude.{Latitude}
use Rattle.shell_world.specs.declared.world.Row.{Row}
use Rattle.shell_world.specs.declared.world.Answer.{Answer}
use Rattle.shell_world.specs.declared.world.RowKey.{RowKey}
use Rattle.shell_world.specs.declared.world.RowKey.TheVariants.{Whole, Name}
use Rattle.shell_world.specs.declared.world.RowInput.{RowInput}
use Rattle.shell_world.specs.declared.world.RowInput.TheVariants.{Nothing, Any, Exactly}
use Rattle.world_json.specs.declared.job.Job.{Job}
use Rattle.world_json.specs.declared.fault.Reason.TheVariants as reason
use Rattle.world_json.specs.Judging.{Judged, Good, refused, and_then, tested, within, bytes_of, text_of, number_of, list_of, some_of, only, wanted, member_or}

-- ---- the environment, in the order of its names

abbrev pub variable_named : Text → Text → Judged (Text × Text)
variable_named name value =
    if not (is_name name) then refused reason.Name else (if is_reserved name then refused reason.Reserved else tested (not (is_special_name name)) reason.Special (name, value))

abbrev pub variable_of : Text → Data → Judged (Text × Text)
variable_of k d = and_then (text_of d) (λ value. and_then (bytes_of k) (λ name. variable_named name value))

abbrev pub pairs_of : (Text → Data → Judged (Text × Text)) → Members → Judged (List (Text × Text))
pairs_of judge no_members = Good []
pairs_of judge (member k d ms) = and_then (within k (judge k d)) (λ p. and_then (pairs_of judge ms) (λ ps. Good (p ∷ ps)))

abbrev pub pairs_from : (Text → Data → Judged (Text × Text)) → Option Members → Judged (List (Text × Text))
pairs_from judge None = refused reason.WrongType
pairs_from judge (Some ms) = pairs_of judge ms

abbrev pub environment_of : Data → Judged (List (Text × Text))
environment_of d = pairs_from variable_of (as_object d)

-- ---- files, in the order of their paths

-- a part of a path between two `/`
abbrev pub is_component : Text → Bool
is_component part = not (same_text [] part || same_text (codes ".") part || same_text (codes "..") part)

-- one or more components joined by `/`, with or without a leading `/`
abbrev pub is_path : Text → Bool
is_path path = list_all is_component (slice_split (λ b. b == 47) (below_root path))

-- the folders of a path, of which a front was passed: its fronts that aren't empty and stand before a `/`
abbrev pub folders_from : Text → Text → List Text
folders_from front [] = []
folders_from front (b ∷ path) = if b == 47 && nat_lt 0 (length front) then front ∷ folders_from (front ++ b ∷ []) path else folders_from (front ++ b ∷ []) path

-- another file is a folder of this path; in UTF-8 a `/` is one byte, so the two keys are compared as they are written
abbrev pub clashes : Data → Text → Bool
clashes files path = list_any (λ folder. is_some (get folder files)) (folders_from [] path)

abbrev pub file_at : Bool → Text → Text → Judged (Text × Text)
file_at clash path bytes = if not (is_path path) then refused reason.Path else tested (not clash) reason.PathClash (path, bytes)

abbrev pub file_of : Data → Text → Data → Judged (Text × Text)
file_of files k d = and_then (text_of d) (λ bytes. and_then (bytes_of k) (λ path. file_at (clashes files k) path bytes))

abbrev pub files_of : Data → Judged (List (Text × Text))
files_of d = pairs_from (file_of d) (as_object d)

-- ---- the table of external commands

abbrev pub answer_of : Data → Judged Answer
answer_of d =
    and_then (only (codes "status" ∷ codes "out" ∷ codes "err" ∷ []) d) (λ known.
    and_then (member_or 0 (number_of 0 255) (codes "status") d) (λ status.
    and_then (member_or [] text_of (codes "out") d) (λ out.
    and_then (member_or [] text_of (codes "err") d) (λ err.
    Good (record { status = status; out = out; err = err })))))

abbrev pub exactly : Judged Text → Judged RowInput
exactly j = and_then j (λ text. Good (Exactly text))

abbrev pub input_of : Data → Judged RowInput
input_of null = Good Nothing
input_of (boolean true) = Good Any
input_of (boolean false) = refused reason.WrongType
input_of (number n) = refused reason.WrongType
input_of (string s) = exactly (bytes_of s)
input_of (array ds) = refused reason.WrongType
input_of (object ms) = refused reason.WrongType

-- a row has one key: where it has `argv`, a `name` is unknown
abbrev pub row_members : Bool → List Text
row_members named = (if named then codes "name" else codes "argv") ∷ codes "input" ∷ codes "answers" ∷ []

-- whether a row's key is a name
abbrev pub is_named : Data → Bool
is_named d = is_some (get (codes "name") d) && not (is_some (get (codes "argv") d))

abbrev pub key_of : Bool → Data → Judged RowKey
key_of true d = and_then (wanted text_of (codes "name") d) (λ name. Good (Name name))
key_of false d = and_then (wanted (some_of text_of) (codes "argv") d) (λ words. Good (Whole words))

abbrev pub row_of : Data → Judged Row
row_of d =
    and_then (only (row_members (is_named d)) d) (λ known.
    and_then (key_of (is_named d) d) (λ key.
    and_then (member_or Nothing input_of (codes "input") d) (λ input.
    and_then (wanted (some_of answer_of) (codes "answers") d) (λ answers.
    Good (record { key = key; input = input; answers = answers })))))

-- ---- bounds and latitude

abbrev pub bounds_of : Data → Judged Bounds
bounds_of d =
    and_then (member_or 100000 (number_of 0 10000000) (codes "turns") d) (λ turns.
    and_then (member_or 32 (number_of 0 32) (codes "depth") d) (λ depth.
    Good (record { turns = turns; depth = depth })))

abbrev pub last_word : Text → Judged Bool
last_word word = if same_text (codes "current") word then Good true else tested (same_text (codes "subshell") word) reason.Range false

-- whether the last stage of a pipeline runs in the current environment
abbrev pub last_of : Data → Judged Bool
last_of d = and_then (text_of d) last_word

abbrev pub latitude_of : Data → Judged Latitude
latitude_of d =
    and_then (only (codes "last" ∷ codes "redirect" ∷ []) d) (λ known.
    and_then (member_or false last_of (codes "last") d) (λ last.
    and_then (member_or 1 (number_of 1 125) (codes "redirect") d) (λ redirect.
    Good (record { last_current = last; redirect = redirect }))))

abbrev pub usual_latitude : Latitude
usual_latitude = record { last_current = false; redirect = 1 }

-- ---- the job

abbrev pub job_members : List Text
job_members = codes "script" ∷ codes "args" ∷ codes "env" ∷ codes "stdin" ∷ codes "files" ∷ codes "table" ∷ codes "turns" ∷ codes "depth" ∷ codes "latitude" ∷ []

-- a script of this many bytes at most
abbrev pub script_of : ℕ → Data → Judged Text
script_of limit d = and_then (text_of d) (λ script. tested (nat_le (length script) limit) reason.TooLong script)

abbrev pub world_of : Data → Judged World
world_of d =
    and_then (member_or (codes "script" ∷ []) (some_of text_of) (codes "args") d) (λ args.
    and_then (member_or [] environment_of (codes "env") d) (λ env.
    and_then (member_or [] text_of (codes "stdin") d) (λ stdin.
    and_then (member_or [] files_of (codes "files") d) (λ files.
    and_then (member_or [] (list_of row_of) (codes "table") d) (λ rows.
    and_then (bounds_of d) (λ bounds.
    and_then (member_or usual_latitude latitude_of (codes "latitude") d) (λ latitude.
    Good (record { args = args; env = env; files = files; rows = rows; stdin = stdin; bounds = bounds; latitude = latitude }))))))))

abbrev pub members_job : ℕ → Data → Judged Job
members_job limit d =
    and_then (only job_members d) (λ known.
    and_then (wanted (script_of limit) (codes "script") d) (λ script.
    and_then (world_of d) (λ world.
    Good (record { script = script; world = world }))))

abbrev pub object_job : ℕ → Option Members → Data → Judged Job
object_job limit None d = refused reason.Json
object_job limit (Some ms) d = members_job limit d

abbrev pub value_job : ℕ → Option Data → Judged Job
value_job limit None = refused reason.Json
value_job limit (Some d) = object_job limit (as_object d) d

-- the JSON value that the bytes are in UTF-8
abbrev pub value_of : Text → Option Data
value_of bytes = if is_utf8 bytes then read bytes else None

-- the job that the bytes are, with a script of at most so many bytes, or the first bad pointer with its reason
abbrev pub job_of : ℕ → Text → Judged Job
job_of limit bytes = value_job limit (value_of bytes)
