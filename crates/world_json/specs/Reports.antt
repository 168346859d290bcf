-- The JSON of a report.
use Rattle.std.specs.Prelude.{List, [], ◌∷◌, ◌++◌, codes, Option, Some, None}
use Rattle.serde_json.specs.Data.{Data, null, number, unsigned, string, array, object, Items, no_items, item, Members, no_members, member, put}
use Rattle.serde_json.specs.Written.{compact_text}
use Rattle.shell_world.specs.Texts.{Text}
use Rattle.shell_world.specs.declared.world.Call.{Call}
use Rattle.shell_world.specs.declared.world.End.{End}
use Rattle.shell_world.specs.declared.world.End.TheVariants.{Ended, GoesOn, Unspecified}
use Rattle.shell_world.specs.declared.world.Report.{Report}
use Rattle.world_json.specs.Texts.{characters, text_data}

-- an item for each of these
abbrev pub items_for : {X : Type 0} → (X → Data) → List X → Items
items_for f [] = no_items
items_for f (x ∷ xs) = item (f x) (items_for f xs)

abbrev pub texts_data : List Text → Data
texts_data texts = array (items_for text_data texts)

-- the members with these pairs put in one after another: they stand in the order of their keys, and the last value of a key counts
abbrev pub pairs_members : Members → List (Text × Text) → Members
pairs_members done [] = done
pairs_members done (p ∷ ps) = pairs_members (put (characters p.0) (text_data p.1) done) ps

abbrev pub pairs_data : List (Text × Text) → Data
pairs_data ps = object (pairs_members no_members ps)

-- null where no input could be taken
abbrev pub input_data : Option Text → Data
input_data None = null
input_data (Some text) = text_data text

-- the members in the order of their bytes, here and below
abbrev pub call_object : Data → Data → Data → Data
call_object argv env input = object (member (codes "argv") argv (member (codes "env") env (member (codes "input") input no_members)))

abbrev pub call_data : Call → Data
call_data c = call_object (texts_data c.argv) (pairs_data c.env) (input_data c.input)

abbrev pub calls_data : List Call → Data
calls_data calls = array (items_for call_data calls)

abbrev pub end_data : End → Data
end_data (Ended status) = string (codes "ended")
end_data GoesOn = string (codes "goes-on")
end_data Unspecified = string (codes "unspecified")

-- the status and the files are null unless the run ended
abbrev pub status_data : End → Data
status_data (Ended status) = number (unsigned status)
status_data GoesOn = null
status_data Unspecified = null

abbrev pub ended_files : Option (List (Text × Text)) → Data
ended_files None = null
ended_files (Some files) = pairs_data files

abbrev pub files_data : End → Option (List (Text × Text)) → Data
files_data (Ended status) files = ended_files files
files_data GoesOn files = null
files_data Unspecified files = null

abbrev pub report_object : Data → Data → Data → Data → Data → Data → Data → Data
report_object calls ending err files out status turns =
    object (member (codes "calls") calls
    (member (codes "end") ending
    (member (codes "err") err
    (member (codes "files") files
    (member (codes "out") out
    (member (codes "status") status
    (member (codes "turns") turns no_members)))))))

abbrev pub report_data : Report → Data
report_data r =
    report_object (calls_data r.calls) (end_data r.«end») (text_data r.err) (files_data r.«end» r.files) (text_data r.out) (status_data r.«end») (number (unsigned r.turns))

-- JSON without spaces, and a newline
abbrev pub report_text_of : Report → Text
report_text_of r = compact_text (report_data r) ++ 10 ∷ []
