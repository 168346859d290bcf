-- Fields become names of files, and lose their quotes (POSIX XCU 2.6.6, 2.6.7).
use Rattle.std.specs.Prelude.{ℕ, Bool, false, ◌||◌, ◌==◌, if◌then◌else◌, List, [], ◌∷◌, ◌++◌, Option, Some, None, is_some}
use Rattle.std.specs.List.{list_any}
use Rattle.std.specs.Ordering.{is_gt}
use Rattle.span_text.specs.declared.flagged.Mark.TheVariants.{Written, Quoted, Value}
use Rattle.span_text.specs.declared.flagged.Item.{Item}
use Rattle.span_text.specs.declared.flagged.Item.TheVariants.{Byte, Quote}
use Rattle.field_split.specs.Reading.{bytes_of}
use Rattle.glob_pattern.specs.declared.sign.Use.TheVariants as use_of
use Rattle.glob_pattern.specs.Reading.{doubt_of}
use Rattle.glob_pattern.specs.Paths.{found_paths}
use Rattle.shell_world.specs.Texts.{Text, Map, text_cmp}
use Rattle.shell_world.specs.Paths.{names_of}

abbrev pub is_special : ℕ → Bool
is_special b = b == 42 || b == 63 || b == 91

-- an unquoted `*`, `?` or `[`
abbrev pub is_active : Item → Bool
is_active (Byte b Written) = is_special b
is_active (Byte b Value) = is_special b
is_active (Byte b Quoted) = false
is_active Quote = false

abbrev pub is_pattern : List Item → Bool
is_pattern field = list_any is_active field

-- in the order of their bytes
abbrev pub placed : Text → List Text → List Text
placed text [] = text ∷ []
placed text (other ∷ more) = if is_gt (text_cmp text other) then other ∷ placed text more else text ∷ other ∷ more

abbrev pub in_order : List Text → List Text
in_order [] = []
in_order (text ∷ more) = placed text (in_order more)

-- a field without a match stays
abbrev pub found_or : Text → List Text → List Text
found_or text [] = text ∷ []
found_or text (path ∷ more) = in_order (path ∷ more)

-- what a field becomes among the names of files; None where its pattern is doubtful
unfoldable pub field_texts : List Text → List Item → Option (List Text)
field_texts names field =
    if is_pattern field
    then (if is_some (doubt_of use_of.Path field) then None else Some (found_or (bytes_of field) (found_paths field names)))
    else Some (bytes_of field ∷ [])

abbrev pub both : Option (List Text) → Option (List Text) → Option (List Text)
both None b = None
both (Some a) None = None
both (Some a) (Some b) = Some (a ++ b)

abbrev pub texts_among : List Text → List (List Item) → Option (List Text)
texts_among names [] = Some []
texts_among names (field ∷ more) = both (field_texts names field) (texts_among names more)

-- the texts of all fields, in these files
abbrev pub texts_of : Map Text → List (List Item) → Option (List Text)
texts_of files fields = texts_among (names_of files) fields
