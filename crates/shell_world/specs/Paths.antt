-- Which path a text names (POSIX XBD 4.13, with neither links nor `..`), the folders of paths, and what is found at a path.
use Rattle.std.specs.Prelude.{ℕ, Bool, true, false, not, ◌&&◌, ◌||◌, ◌==◌, nat_lt, if◌then◌else◌, List, [], ◌∷◌, ◌++◌, length, map, is_some, Option, Some, None, codes}
use Rattle.std.specs.List.{list_any, slice_split}
use Rattle.span_text.specs.KnownNames.{same_text}
use Rattle.span_text.specs.Scanning.{starts}
use Rattle.shell_world.specs.declared.opening.Found.{Found}
use Rattle.shell_world.specs.declared.opening.Found.TheVariants as found
use Rattle.shell_world.specs.Texts.{Text, Map, lookup, insert}

abbrev pub is_slash : ℕ → Bool
is_slash b = b == 47

-- what stands between the `/`
abbrev pub parts : Text → List Text
parts text = slice_split is_slash text

-- an empty part and `.` name no other place
abbrev pub is_kept : Text → Bool
is_kept part = not (same_text [] part || same_text (codes ".") part)

abbrev pub is_above : Text → Bool
is_above part = same_text (codes "..") part

-- whether a text names a path: it has no NUL and no part `..`, and a part is kept
unfoldable pub names_path : Text → Bool
names_path text = not (list_any (λ b. b == 0) text) && not (list_any is_above (parts text)) && list_any is_kept (parts text)

-- what a part adds to the path before it, and what is to stand before the next one
abbrev pub placed : Text → Text → Text
placed lead part = if is_kept part then lead ++ part else []

abbrev pub next_lead : Text → Text → Text
next_lead lead part = if is_kept part then 47 ∷ [] else lead

-- the parts that are kept, with the lead before the first of them and a `/` before each further one
abbrev pub joined : Text → List Text → Text
joined lead [] = []
joined lead (part ∷ more) = placed lead part ++ joined (next_lead lead part) more

-- a `/` where the text begins with one
abbrev pub lead_of : Text → Text
lead_of text = if starts is_slash text then 47 ∷ [] else []

unfoldable pub path_text : Text → Text
path_text text = joined (lead_of text) (parts text)

-- the path that a text names
abbrev pub path_of : Text → Option Text
path_of text = if names_path text then Some (path_text text) else None

-- ---- folders

-- the folders of a path, of which a front was passed: its fronts that aren't empty and stand before a `/`
abbrev pub folders_from : Text → Text → List Text
folders_from front [] = []
folders_from front (b ∷ path) = if b == 47 && nat_lt 0 (length front) then front ∷ folders_from (front ++ b ∷ []) path else folders_from (front ++ b ∷ []) path

abbrev pub folders_of : Text → List Text
folders_of path = folders_from [] path

-- what stands behind a front of a text
abbrev pub behind : Text → Text → Option Text
behind [] text = Some text
behind (b ∷ front) [] = None
behind (b ∷ front) (c ∷ text) = if b == c then behind front text else None

abbrev pub begins_below : Option Text → Bool
begins_below None = false
begins_below (Some rest) = starts is_slash rest

-- whether a text, which isn't empty, is a folder of a path
abbrev pub is_folder_of : Text → Text → Bool
is_folder_of folder path = begins_below (behind folder path)

-- of some path of the map
abbrev pub is_folder : Text → Map Text → Bool
is_folder folder files = list_any (λ f. is_folder_of folder f.0) files

-- whether a folder of the path is a file
abbrev pub is_under_file : Text → Map Text → Bool
is_under_file path files = list_any (λ folder. is_some (lookup folder files)) (folders_of path)

-- ---- what is there

abbrev pub found_as : Bool → Option Text → Found
found_as true file = found.Folder
found_as false None = found.Nothing
found_as false (Some bytes) = found.File (length bytes)

abbrev pub found_in : Text → Map Text → Found
found_in path files = found_as (is_folder path files) (lookup path files)

abbrev pub found_at : Option Text → Map Text → Found
found_at None files = found.Nothing
found_at (Some path) files = found_in path files

-- ---- all names, in the order of their bytes

abbrev pub Names : Type 0
Names = Map (Unit {0})

abbrev pub name_added : Bool → Text → Names → Names
name_added b name m = if b then insert name tt m else m

abbrev pub with_names : List Text → Names → Names
with_names [] m = m
with_names (name ∷ more) m = with_names more (insert name tt m)

-- the paths and their folders
abbrev pub names_from : Map Text → Names → Names
names_from [] m = m
names_from (f ∷ files) m = names_from files (with_names (folders_of f.0) (insert f.0 tt m))

abbrev pub names_of : Map Text → List Text
names_of files = map (λ e. e.0) (names_from files [])
