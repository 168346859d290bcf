-- A text as fields and the delimiters between them.
use Rattle.std.specs.Prelude.{◌≡◌, ℕ, ◌<◌, ◌≤◌, Bool, true, false, List, [], ◌∷◌, ◌++◌, length, count_by}
use Rattle.std.specs.List.{list_all}
use Rattle.span_text.specs.declared.flagged.Item.{Item}
use Rattle.field_split.specs.declared.sort.Sort.{Sort}
use Rattle.field_split.specs.declared.sort.Sort.TheVariants.{Kept, White, Other}
use Rattle.field_split.specs.Fields.{splits, is_of}

-- whether a text begins with an item of this sort
abbrev pub begins : Sort → List ℕ → List Item → Bool
begins sort ifs [] = false
begins sort ifs (x ∷ xs) = is_of sort ifs x

-- A field and the delimiter behind it. The field has no separator and goes up to one or to the end. A delimiter is a
-- run of separators of which at most one isn't IFS white space, and as long as it can be.
pub record Ends (ifs : List ℕ) (field delimiter rest : List Item) : Type 0 where
  pub kept : list_all (is_of Kept ifs) field ≡ true
  pub ended : begins Kept ifs (delimiter ++ rest) ≡ false
  pub run : list_all (splits ifs) delimiter ≡ true
  pub one : count_by (is_of Other ifs) delimiter ≤ 1
  pub longest : (x : Item) (more : List Item) → rest ≡ x ∷ more → list_all (splits ifs) (delimiter ++ x ∷ []) ≡ true → 1 < count_by (is_of Other ifs) (delimiter ++ x ∷ [])

-- these are the parts of a text between its delimiters; where the text ends, no field begins
abbrev pub AreBetween : List ℕ → List (List Item) → List Item → Type 0
AreBetween ifs [] text = text ≡ []
AreBetween ifs (field ∷ fields) text = (delimiter : List Item) × (rest : List Item) × (0 < length text) × (text ≡ field ++ (delimiter ++ rest)) × Ends ifs field delimiter rest × AreBetween ifs fields rest

-- the fields of a text: those of what stands behind the white space at its beginning
pub record AreFields (ifs : List ℕ) (fields : List (List Item)) (text : List Item) : Type 0 where
  pub white : List Item
  pub start : List Item
  pub whole : text ≡ white ++ start
  pub blank : list_all (is_of White ifs) white ≡ true
  pub longest : begins White ifs start ≡ false
  pub between : AreBetween ifs fields start
