-- Fields of a flagged text: the Bash manual's "Word Splitting", POSIX's "Field Splitting" (XCU 2.6.5).
use Rattle.std.specs.Prelude.{ℕ, zero, suc, Bool, false, not, ◌||◌, ◌&&◌, ◌==◌, if◌then◌else◌, List, [], ◌∷◌, length, drop, Option, Some, None}
use Rattle.std.specs.List.{list_any, prefix_len, take_while}
use Rattle.span_text.specs.declared.flagged.Mark.TheVariants.{Written, Quoted, Value}
use Rattle.span_text.specs.declared.flagged.Item.{Item}
use Rattle.span_text.specs.declared.flagged.Item.TheVariants.{Byte, Quote}
use Rattle.field_split.specs.declared.sort.Sort.{Sort}
use Rattle.field_split.specs.declared.sort.Sort.TheVariants.{Kept, White, Other}

-- the separators of an IFS: an unset one is space, tab, newline
abbrev pub separators : Option (List ℕ) → List ℕ
separators None = 32 ∷ 9 ∷ 10 ∷ []
separators (Some ifs) = ifs

-- only bytes of unquoted expansions split
abbrev pub splits : List ℕ → Item → Bool
splits ifs (Byte b Value) = list_any (λ x. x == b) ifs
splits ifs (Byte b Written) = false
splits ifs (Byte b Quoted) = false
splits ifs Quote = false

abbrev pub is_blank : Item → Bool
is_blank (Byte b mark) = b == 32 || b == 9 || b == 10
is_blank Quote = false

-- what splits is IFS white space, which is each blank of the IFS, or another separator
unfoldable pub is_of : Sort → List ℕ → Item → Bool
is_of White ifs x = splits ifs x && is_blank x
is_of Other ifs x = splits ifs x && not (is_blank x)
is_of Kept ifs x = not (splits ifs x)

-- a text without what it has of a sort at its beginning
abbrev pub after : Sort → List ℕ → List Item → List Item
after sort ifs text = drop (prefix_len (is_of sort ifs) text) text

-- a text without another separator at its beginning, of which one is taken
abbrev pub after_one : List ℕ → List Item → List Item
after_one ifs [] = []
after_one ifs (x ∷ xs) = if is_of Other ifs x then xs else (x ∷ xs)

-- the first field of a text that has no white space before it
abbrev pub field : List ℕ → List Item → List Item
field ifs text = take_while (is_of Kept ifs) text

-- what stands behind that field and the delimiter that ends it: white space, one other separator, white space
unfoldable pub behind : List ℕ → List Item → List Item
behind ifs text = after White ifs (after_one ifs (after White ifs (after Kept ifs text)))

-- the fields of a text of at most so many items; none begins at its end
abbrev pub fields_in : List ℕ → ℕ → List Item → List (List Item)
fields_in ifs zero text = []
fields_in ifs (suc n) [] = []
fields_in ifs (suc n) (x ∷ xs) = field ifs (x ∷ xs) ∷ fields_in ifs n (behind ifs (x ∷ xs))

-- the fields of a text, whose first white space is dropped
unfoldable pub fields : List ℕ → List Item → List (List Item)
fields ifs text = fields_in ifs (length (after White ifs text)) (after White ifs text)
