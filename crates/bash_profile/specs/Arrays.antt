-- What is refused of associative names and of lists by the kinds of their names (4.2, 6.7).
use Rattle.std.specs.Prelude.{ℕ, Bool, true, false, ◌&&◌, ◌||◌, not, List, [], ◌∷◌, ◌++◌, flat_map, Option, Some, None, if◌then◌else◌, codes}
use Rattle.span_text.specs.declared.expr.Expr.{Expr}
use Rattle.span_text.specs.declared.expr.Expr.TheOpen.{Expr-F}
use Rattle.span_text.specs.declared.expr.Expr.TheOpen as open_expr
use Rattle.span_text.specs.declared.expr.Expr.TheFolds.{fold-Expr}
use Rattle.span_text.specs.KnownNames.{same_text, is_among}
use Rattle.bash_grammar.specs.Bytes.{Text}
use Rattle.bash_grammar.specs.Shape.{Name, Part, param, named, members, slice, Words, arith, Value, items_value, no_subscript, key_only, Assign, assign, Assigns, no_assign, next_assign, command, simple, walk}
use Rattle.bash_profile.specs.Kinds.{Options, options_of, has_letter}
use Rattle.bash_profile.specs.Known.{Known, place_if, is_keyed, is_array, name_from, command_name, arguments, has_words}
use Rattle.bash_profile.specs.Names.{Named, operands, printed, literal_names}
use Rattle.bash_profile.specs.Sites.{Site, part_site, sum_site, subscript_site, assign_site, command_site}

-- ---- 37 kind: a name of one kind that is used as another

-- IFS and HOME are no lists
abbrev is_kept_scalar : Text → Bool
is_kept_scalar name = is_among (codes "IFS" ∷ codes "HOME" ∷ []) name

-- an associative name that is expanded or assigned without a subscript, or given a slice of all its members
abbrev bare_part : Known → Part → List ℕ
bare_part k (param (named n) o) = place_if (is_keyed k n.text) (name_from n)
bare_part k (param (members n b) (slice o l)) = place_if (is_keyed k n.text || is_kept_scalar n.text) (name_from n)
bare_part k (param (members n b) o) = place_if (is_kept_scalar n.text) (name_from n)
bare_part k p = []

abbrev is_word_value : Value → Bool
is_word_value (items_value es) = false
is_word_value v = true

abbrev bare_assign : Known → Assign → List ℕ
bare_assign k (assign n no_subscript more v s) = place_if (is_keyed k n.text && is_word_value v) (name_from n)
bare_assign k x = []

-- of each name of an expression, in their order, whether it has a subscript
abbrev name_step : Expr-F (List Bool) → List Bool
name_step (open_expr.Constant n) = []
name_step (open_expr.Name text) = false ∷ []
name_step (open_expr.Operand n) = []
name_step (open_expr.Member text e) = true ∷ e
name_step (open_expr.Unary op e) = e
name_step (open_expr.Step op e) = e
name_step (open_expr.Binary op d e) = d ++ e
name_step (open_expr.And d e) = d ++ e
name_step (open_expr.Or d e) = d ++ e
name_step (open_expr.Assign d op e) = d ++ e
name_step (open_expr.Comma d e) = d ++ e
name_step (open_expr.Choose d e f) = d ++ (e ++ f)

unfoldable pub have_subscripts : Expr → List Bool
have_subscripts = fold-Expr (List Bool) name_step

-- the associative names that have a subscript, or that have none
abbrev chosen : Known → (subscripted : Bool) → List Bool → List Name → List ℕ
chosen k b (c ∷ cs) (n ∷ ns) = place_if (is_keyed k n.text && ((b && c) || not (b || c))) (name_from n) ++ chosen k b cs ns
chosen k b cs ns = []

abbrev summed : Known → (subscripted : Bool) → Expr → List Name → List ℕ
summed k b e [] = []
summed k b e (n ∷ ns) = chosen k b (have_subscripts e) (n ∷ ns)

abbrev keyed_named : Known → Named → List ℕ
keyed_named k n = place_if (is_keyed k n.text) n.from

abbrev array_named : Known → Named → List ℕ
array_named k n = place_if (is_array k n.text) n.from

-- operands of `declare` and its kin: an associative name without `-A`, and with `-a`
abbrev declared_at : Known → Options → List ℕ
declared_at k o =
    (if has_letter 65 o then [] else flat_map (keyed_named k) (operands o.operands))
    ++ (if has_letter 97 o then flat_map (keyed_named k) (operands o.operands) else [])

abbrev declaring : List Text
declaring = codes "local" ∷ codes "declare" ∷ codes "typeset" ∷ []

abbrev reading : List Text
reading = codes "read" ∷ codes "mapfile" ∷ codes "readarray" ∷ []

abbrev called_at : Known → Words → Text → List ℕ
called_at k ws name =
    if is_among declaring name then declared_at k (options_of ws)
    else (if is_among reading name then flat_map (keyed_named k) (literal_names (options_of ws).operands)
    else (if same_text (codes "export") name then flat_map (array_named k) (operands ws)
    else (if same_text (codes "printf") name then flat_map (array_named k) (printed ws) else [])))

abbrev called_with : Known → Words → Option Text → List ℕ
called_with k ws None = []
called_with k ws (Some name) = called_at k ws name

-- a list of a prefix
abbrev prefixed : Known → Assigns → List ℕ
prefixed k no_assign = []
prefixed k (next_assign (assign n i more v s) xs) = place_if (is_array k n.text) (name_from n) ++ prefixed k xs

abbrev listed_named : Named → List ℕ
listed_named n = place_if (is_kept_scalar n.text) n.from

abbrev listed_at : Options → List ℕ
listed_at o = if has_letter 65 o || has_letter 97 o then flat_map listed_named (operands o.operands) else []

abbrev read_list : Words → List ℕ
read_list ws = if has_letter 97 (options_of ws) then flat_map listed_named (literal_names (options_of ws).operands) else []

abbrev listing_at : Words → Text → List ℕ
listing_at ws name =
    if is_among declaring name then listed_at (options_of ws)
    else (if same_text (codes "read") name then read_list ws
    else (if is_among reading name then flat_map listed_named (literal_names (options_of ws).operands) else []))

abbrev listing_with : Words → Option Text → List ℕ
listing_with ws None = []
listing_with ws (Some name) = listing_at ws name

abbrev kept_items : Name → Value → List ℕ
kept_items n (items_value es) = place_if (is_kept_scalar n.text) (name_from n)
kept_items n v = []

abbrev pub kind : Known → Site → List ℕ
kind k (part_site a w p s) = bare_part k p
kind k (assign_site a r (assign n i more v s)) = bare_assign k (assign n i more v s) ++ kept_items n v
kind k (sum_site a r (arith e ws ns effects s)) = summed k false e ns
kind k (subscript_site a n i) = place_if (is_kept_scalar n.text) (name_from n)
kind k (command_site a (command (walk n ws s) rs t)) = place_if (is_array k n.text) (name_from n)
kind k (command_site a (command (simple xs ws) rs s)) =
    (if has_words ws then prefixed k xs else [])
    ++ (called_with k (arguments ws) (command_name ws) ++ listing_with (arguments ws) (command_name ws))
kind k x = []

-- ---- 38 arith-form, of what the kinds of names say: a subscript that spells no expression, and a member of an associative name in one

abbrev pub arith_form : Known → Site → List ℕ
arith_form k (subscript_site a n (key_only w bad s)) = place_if (not (is_keyed k n.text)) bad.from
arith_form k (sum_site a r (arith e ws ns effects s)) = summed k true e ns
arith_form k x = []
