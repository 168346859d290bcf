-- What is refused of the lists `$@`, `$*`, `${a[@]}` and `${a[*]}` (3.4.2, 3.5.3, 6.7).
use Rattle.std.specs.Prelude.{ℕ, Bool, true, false, ◌&&◌, ◌||◌, not, List, [], ◌∷◌, ◌++◌}
use Rattle.bash_grammar.specs.Shape.{FillTest, assigning, Part, exact, double, param, Parts, no_part, part, Word, word, Param, named, members, at, star, ParamOp, length_of, fill, trim, replace}
use Rattle.bash_profile.specs.Known.{place_if}
use Rattle.bash_profile.specs.Sites.{Within, Site, word_site, part_site}

-- lists whose members stay apart between double quotes
abbrev is_at_list : Param → Bool
is_at_list at = true
is_at_list (members n b) = b
is_at_list p = false

abbrev is_star_list : Param → Bool
is_star_list star = true
is_star_list (members n b) = not b
is_star_list p = false

abbrev is_list_param : Param → Bool
is_list_param p = is_at_list p || is_star_list p

abbrev is_length : ParamOp → Bool
is_length length_of = true
is_length o = false

-- a length is one text
abbrev is_list : Param → ParamOp → Bool
is_list p o = is_list_param p && not (is_length o)

-- ---- 15 list-operator: `-`, `=`, `+` on a list, and `=` on another than a name

abbrev is_named : Param → Bool
is_named (named n) = true
is_named p = false

abbrev is_filled_badly : Param → FillTest → Bool
is_filled_badly p assigning = not (is_named p)
is_filled_badly p t = is_list_param p

abbrev pub list_operator : Site → List ℕ
list_operator (part_site a w (param p (fill t colon v)) s) = place_if (is_filled_badly p t) s.from
list_operator x = []

-- ---- 16 list-form: two lists in a word, or a quoted list beside a written empty quote

-- a list, by its place
pub record Seen : Type 0 where
  pub quoted : Bool
  pub from : ℕ

abbrev if_list : Bool → Bool → ℕ → List Seen
if_list quoted true from = record { quoted = quoted; from = from } ∷ []
if_list quoted false from = []

-- the lists of a word, those in the words of its `${ }` among them
abbrev mutual
  lists_in_part : (quoted : Bool) → ℕ → Part → List Seen
  lists_in_part quoted from (double ps) = lists_in true ps
  lists_in_part quoted from (param p o) = if_list quoted (is_list p o) from ++ lists_in_op quoted o
  lists_in_part quoted from p = []

  lists_in : (quoted : Bool) → Parts → List Seen
  lists_in quoted no_part = []
  lists_in quoted (part p s ps) = lists_in_part quoted s.from p ++ lists_in quoted ps

  lists_in_op : (quoted : Bool) → ParamOp → List Seen
  lists_in_op quoted (fill t colon w) = lists_in_word quoted w
  lists_in_op quoted (trim suffix longest w) = lists_in_word false w
  lists_in_op quoted (replace r w v) = lists_in_word false w ++ lists_in_word false v
  lists_in_op quoted o = []

  lists_in_word : (quoted : Bool) → Word → List Seen
  lists_in_word quoted (word ps s) = lists_in quoted ps

-- whether an empty quote is written in a word, or in the words of its `${ }`
abbrev mutual
  empty_in_part : Part → Bool
  empty_in_part (exact []) = true
  empty_in_part (double no_part) = true
  empty_in_part (double ps) = empty_in ps
  empty_in_part (param p o) = empty_in_op o
  empty_in_part p = false

  empty_in : Parts → Bool
  empty_in no_part = false
  empty_in (part p s ps) = empty_in_part p || empty_in ps

  empty_in_op : ParamOp → Bool
  empty_in_op (fill t colon w) = empty_in_word w
  empty_in_op (trim suffix longest w) = empty_in_word w
  empty_in_op (replace r w v) = empty_in_word w || empty_in_word v
  empty_in_op o = false

  empty_in_word : Word → Bool
  empty_in_word (word ps s) = empty_in ps

abbrev is_quoted : Seen → Bool
is_quoted l = l.quoted

-- the first of lists that stand too close
abbrev crowded : (empty : Bool) → List Seen → List ℕ
crowded empty [] = []
crowded empty (l ∷ []) = place_if (empty && l.quoted) l.from
crowded empty (l ∷ ls) = l.from ∷ []

abbrev pub list_form : Site → List ℕ
list_form (word_site a u w v) = crowded (empty_in_word v) (lists_in_word w.quoted v)
list_form x = []

-- ---- 17 list-in-scalar: an `@` list, and an unquoted `*` list, where no fields are made; both in here-documents

abbrev is_out_of_place : Within → Param → Bool
is_out_of_place w p = w.body || (not w.splits && (is_at_list p || (is_star_list p && not w.quoted)))

abbrev pub list_in_scalar : Site → List ℕ
list_in_scalar (part_site a w (param p o) s) = place_if (is_list p o && is_out_of_place w p) s.from
list_in_scalar x = []
