-- Of what kind each name of a script is, in the whole of it; which names are functions, and which are local in a function (3.3,
-- 4.2, 6.7).
use Rattle.std.specs.Prelude.{ℕ, Bool, true, false, ◌&&◌, ◌||◌, ◌==◌, List, [], ◌∷◌, ◌++◌, map, flat_map, Option, Some, None, option_to_list, if◌then◌else◌, codes}
use Rattle.std.specs.List.{list_all, list_any}
use Rattle.span_text.specs.declared.expr.Expr.{Expr}
use Rattle.span_text.specs.declared.expr.Expr.TheOpen.{Expr-F}
use Rattle.span_text.specs.declared.expr.Expr.TheOpen as open_expr
use Rattle.span_text.specs.declared.expr.Expr.TheFolds.{fold-Expr}
use Rattle.span_text.specs.Names.{is_letter}
use Rattle.span_text.specs.KnownNames.{same_text, is_among}
use Rattle.bash_grammar.specs.Bytes.{Text}
use Rattle.bash_grammar.specs.Shape.{Word, member, members, Part, param, items_value, Assign, assign, arith, no_subscript, some_subscript, Words, no_word, next_word, command, Kind, simple, function, Script}
use Rattle.bash_profile.specs.Sites.{Site, command_site, assign_site, part_site, sum_site, Keyed, sites}
use Rattle.bash_profile.specs.Literals.{written_text, literal_name, operand_name, member_name}

-- What a node says of a name.
pub data Note : Type 0 where
  -- `declare -A` names it
  associative : Text → Note
  -- it has a subscript or a list of items, or what makes lists names it
  indexed : Text → Note
  -- it is the name of a function
  defines : Text → Note
  -- the body of the function `inside` makes it local
  localizes : (inside name : Text) → Note

-- ---- the words of commands

abbrev pub maybe : {A : Type 0} → (Text → A) → Option Text → List A
maybe f None = []
maybe f (Some text) = f text ∷ []

-- whether a word is this text; none that is compared here has a pattern or a brace
abbrev pub is_text : Text → Option Text → Bool
is_text text None = false
is_text text (Some other) = same_text text other

abbrev pub spells : Text → Word → Bool
spells text w = is_text text (written_text w)

-- the letters of `-a`, `-rA`
abbrev pub letters_in : Text → List ℕ
letters_in [] = []
letters_in (d ∷ cs) = if d == 45 && list_all is_letter cs then cs else []

abbrev pub letters_of : Option Text → List ℕ
letters_of None = []
letters_of (Some text) = letters_in text

abbrev pub has_letters : List ℕ → Bool
has_letters [] = false
has_letters (c ∷ cs) = true

-- options in front of operands, up to a `--`
pub record Options : Type 0 where
  pub letters : List ℕ
  pub operands : Words

abbrev pub with_letters : List ℕ → Options → Options
with_letters cs o = record { letters = cs ++ o.letters; operands = o.operands }

abbrev pub options_of : Words → Options
options_of no_word = record { letters = []; operands = no_word }
options_of (next_word w ws) =
    if has_letters (letters_of (written_text w)) then with_letters (letters_of (written_text w)) (options_of ws)
    else (if spells (codes "--") w then record { letters = []; operands = ws } else record { letters = []; operands = next_word w ws })

abbrev pub has_letter : ℕ → Options → Bool
has_letter c o = list_any (λ d. d == c) o.letters

abbrev pub operand_names : Words → List Text
operand_names no_word = []
operand_names (next_word w ws) = option_to_list (operand_name w) ++ operand_names ws

abbrev pub local_notes : Option Text → List Text → List Note
local_notes None names = []
local_notes (Some inside) names = map (localizes inside) names

abbrev pub if_notes : Bool → List Note → List Note
if_notes true ns = ns
if_notes false ns = []

-- `declare`, `typeset` and `local`
abbrev pub declare_notes : Option Text → Options → List Note
declare_notes inside o =
    if_notes (has_letter 65 o) (map associative (operand_names o.operands))
    ++ (if_notes (has_letter 97 o) (map indexed (operand_names o.operands)) ++ local_notes inside (operand_names o.operands))

abbrev pub first_name : Words → List Note
first_name no_word = []
first_name (next_word w ws) = maybe indexed (literal_name w)

-- `read -ra NAME`, `read -r -a NAME`
abbrev pub read_notes : Words → List Note
read_notes no_word = []
read_notes (next_word w ws) =
    if spells (codes "-r") w then read_notes ws
    else if_notes (spells (codes "-a") w || spells (codes "-ra") w) (first_name ws)

-- `mapfile -t NAME`
abbrev pub lines_notes : Words → List Note
lines_notes no_word = []
lines_notes (next_word w ws) = if spells (codes "-t") w then lines_notes ws else maybe indexed (literal_name w)

-- `unset 'NAME[..]'`
abbrev pub unset_notes : Words → List Note
unset_notes no_word = []
unset_notes (next_word w ws) = maybe indexed (member_name w) ++ unset_notes ws

abbrev pub declaring : List Text
declaring = codes "declare" ∷ codes "typeset" ∷ codes "local" ∷ []

abbrev pub lines_reading : List Text
lines_reading = codes "mapfile" ∷ codes "readarray" ∷ []

abbrev pub named_notes : Option Text → Text → Words → List Note
named_notes inside name ws =
    if is_among declaring name then declare_notes inside (options_of ws)
    else (if same_text (codes "read") name then read_notes ws
    else (if is_among lines_reading name then lines_notes ws
    else if_notes (same_text (codes "unset") name) (unset_notes ws)))

abbrev pub words_notes : Option Text → Option Text → Words → List Note
words_notes inside None ws = []
words_notes inside (Some name) ws = named_notes inside name ws

-- of a command by its words
unfoldable pub simple_notes : Option Text → Words → List Note
simple_notes inside no_word = []
simple_notes inside (next_word w ws) = words_notes inside (written_text w) ws

-- ---- nodes

abbrev pub kind_notes : Option Text → Kind → List Note
kind_notes inside (simple xs ws) = simple_notes inside ws
kind_notes inside (function n c) = defines n.text ∷ []
kind_notes inside k = []

abbrev pub part_notes : Part → List Note
part_notes (param (member n i) o) = indexed n.text ∷ []
part_notes (param (members n b) o) = indexed n.text ∷ []
part_notes p = []

-- whether an assignment has a subscript or a list of items
abbrev pub makes_list : Assign → Bool
makes_list (assign n (some_subscript i) more v s) = true
makes_list (assign n no_subscript more (items_value es) s) = true
makes_list x = false

abbrev pub assigned_name : Assign → Text
assigned_name (assign n i more v s) = n.text

abbrev pub assign_notes : Assign → List Note
assign_notes x = if_notes (makes_list x) (indexed (assigned_name x) ∷ [])

-- the names in an expression that have a subscript
abbrev pub note_step : Expr-F (List Note) → List Note
note_step (open_expr.Constant n) = []
note_step (open_expr.Name text) = []
note_step (open_expr.Operand k) = []
note_step (open_expr.Member text e) = indexed text ∷ e
note_step (open_expr.Unary op e) = e
note_step (open_expr.Step op e) = e
note_step (open_expr.Binary op d e) = d ++ e
note_step (open_expr.And d e) = d ++ e
note_step (open_expr.Or d e) = d ++ e
note_step (open_expr.Assign d op e) = d ++ e
note_step (open_expr.Comma d e) = d ++ e
note_step (open_expr.Choose d e f) = d ++ (e ++ f)

unfoldable pub expr_notes : Expr → List Note
expr_notes = fold-Expr (List Note) note_step

abbrev pub note_at : Site → List Note
note_at (command_site a (command k rs s)) = kind_notes a.inside k
note_at (part_site a w p s) = part_notes p
note_at (assign_site a r x) = assign_notes x
note_at (sum_site a r (arith e ws ns effects s)) = expr_notes e
note_at x = []

unfoldable pub notes_of : List Site → List Note
notes_of xs = flat_map note_at xs

-- ---- kinds

abbrev pub same_note : Note → Note → Bool
same_note (associative a) (associative b) = same_text a b
same_note (indexed a) (indexed b) = same_text a b
same_note (defines a) (defines b) = same_text a b
same_note (localizes f a) (localizes g b) = same_text f g && same_text a b
same_note m n = false

abbrev pub has : Note → List Note → Bool
has n ns = list_any (same_note n) ns

abbrev pub all_keys : Keyed
all_keys name = true

-- `declare -A`, `typeset -A` or `local -A` names it somewhere; commands are the same ones in a key and in an expression
unfoldable pub is_associative : Script → Keyed
is_associative s name = has (associative name) (notes_of (sites all_keys s))

-- what the nodes of a script say, where the subscripts of associative names are keys
unfoldable pub notes : Script → List Note
notes s = notes_of (sites (is_associative s) s)

pub data NameKind : Type 0 where
  scalar_kind : NameKind
  indexed_kind : NameKind
  associative_kind : NameKind

-- the kind of a name
abbrev pub kind_in : Script → Text → NameKind
kind_in s name =
    if is_associative s name then associative_kind
    else (if has (indexed name) (notes s) then indexed_kind else scalar_kind)

-- whether the script has a function of this name
abbrev pub is_function_in : Script → Text → Bool
is_function_in s name = has (defines name) (notes s)

-- whether a `local`, `declare` or `typeset` in the body of such a function names it, inner functions aside
abbrev pub is_local_in : Script → (inside name : Text) → Bool
is_local_in s inside name = has (localizes inside name) (notes s)
