-- The texts of names one after the other, as the code gives them.
use Rattle.std.specs.Prelude.{ℕ, zero, suc, ◌==◌, if◌then◌else◌, List, [], ◌∷◌, length}
use Rattle.span_text.specs.declared.flagged.Item.{Item}
use Rattle.field_split.specs.Fields.{field, behind}
use Rattle.field_split.specs.Reading.{bytes_of, without_end}

-- what the last name gets of the text from its field on
unfoldable pub last : List ℕ → List Item → List Item
last ifs text = if length (behind ifs text) == 0 then field ifs text else without_end ifs text

-- what k names and a last one get
abbrev pub names : List ℕ → ℕ → List Item → List (List ℕ)
names ifs zero text = bytes_of (last ifs text) ∷ []
names ifs (suc k) text = bytes_of (field ifs text) ∷ names ifs k (behind ifs text)
