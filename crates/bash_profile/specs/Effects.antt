-- What is refused where an expansion changes something that is used beside it (3.5.3, 3.6, 3.7.1, 6.7).
use Rattle.std.specs.Prelude.{ℕ, Bool, true, false, ◌&&◌, ◌||◌, not, List, [], ◌∷◌, ◌++◌, map, flat_map, Option, Some, None, if◌then◌else◌, codes}
use Rattle.std.specs.List.{list_any}
use Rattle.span_text.specs.declared.expr.Expr.{Expr}
use Rattle.span_text.specs.declared.expr.Expr.TheOpen.{Expr-F}
use Rattle.span_text.specs.declared.expr.Expr.TheOpen as open_expr
use Rattle.span_text.specs.declared.expr.Expr.TheFolds.{fold-Expr}
use Rattle.span_text.specs.declared.expr.StepOp.{StepOp}
use Rattle.span_text.specs.declared.expr.StepOp.TheVariants.{PreAdd, PreSub, PostAdd, PostSub}
use Rattle.span_text.specs.declared.span.Span.{Span}
use Rattle.span_text.specs.KnownNames.{same_text, is_among, is_builtin}
use Rattle.bash_grammar.specs.Bytes.{Text}
use Rattle.bash_grammar.specs.Shape.{Name, assigning, tilde, param, subst, Param, named, member, star, fill, slice, Words, arith, Value, value, items_value, Element, element, no_subscript, some_subscript, Assign, assign, Assigns, no_assign, next_assign, Redirects, no_redirect, redirect, command, simple}
use Rattle.bash_profile.specs.Braces.{is_brace}
use Rattle.bash_profile.specs.Kinds.{options_of}
use Rattle.bash_profile.specs.Known.{Known, place_if, is_keyed, word_from, name_from, command_name, arguments, has_words}
use Rattle.bash_profile.specs.Literals.{Cell, is_written, word_cells}
use Rattle.bash_profile.specs.Names.{Named, names_at, literal_names, printed}
use Rattle.bash_profile.specs.Sites.{Around, Site, sliced, aimed, part_site, sum_site, command_site, assign_site, element_site, Keyed, word_sites, sum_sites, maybe_sum_sites, subscript_sites, given_sites}
use Rattle.bash_profile.specs.Written.{Spot, word_spots, cells_of, is_at}

-- ---- effects: a command substitution, a `${a=w}`, an assignment, `++` and `--`

abbrev span_from : Span → ℕ
span_from s = s.from

-- the place of what is assigned
abbrev target_from : Param → Span → ℕ
target_from (named n) s = name_from n
target_from p s = s.from

abbrev effects_at : Site → List ℕ
effects_at (part_site a w (subst x) s) = s.from ∷ []
effects_at (part_site a w (param p (fill assigning colon x)) s) = target_from p s ∷ []
effects_at (sum_site a r (arith e ws ns effects s)) = map span_from effects
effects_at x = []

abbrev effects_in : List Site → List ℕ
effects_in xs = flat_map effects_at xs

abbrev has_any : List ℕ → Bool
has_any [] = false
has_any ns = true

abbrev texts_in : List Site → List Text
texts_in xs = map (λ n. n.text) (flat_map names_at xs)

-- ---- 34 redirection-order: a later redirection whose word has an effect

abbrev later_effects : Keyed → Around → Redirects → List ℕ
later_effects k a no_redirect = []
later_effects k a (redirect fd op w s rs) = place_if (has_any (effects_in (word_sites k a (aimed op).0 (aimed op).1 w))) (word_from w) ++ later_effects k a rs

abbrev behind_first : Keyed → Around → Redirects → List ℕ
behind_first k a no_redirect = []
behind_first k a (redirect fd op w s rs) = later_effects k a rs

abbrev pub redirection_order : Known → Site → List ℕ
redirection_order k (command_site a (command c rs s)) = behind_first (is_keyed k) a rs
redirection_order k x = []

-- ---- 35 prefix-assignment: assignments before a command that a shell can't give it alone

abbrev taking : List Text
taking = codes "read" ∷ codes "printf" ∷ codes "echo" ∷ codes "test" ∷ codes "[" ∷ codes "true" ∷ codes "false" ∷ []

-- whether the command of this name takes no prefix: a function, a computed name, or another built-in
abbrev takes_none : Known → Option Text → Bool
takes_none k None = true
takes_none k (Some name) = k.is_function name || (is_builtin name && not (is_among taking name))

-- the variables that `read` and `printf -v` set
abbrev set_by : Text → Words → List Named
set_by name ws =
    if same_text (codes "read") name then literal_names (options_of ws).operands
    else (if same_text (codes "printf") name then printed ws else [])

abbrev sets : Option Text → Words → List Text
sets None ws = []
sets (Some name) ws = map (λ n. n.text) (set_by name ws)

abbrev uses_name : List Text → Named → Bool
uses_name names n = is_among names n.text

-- a substitution, or a use of one of these names; `$*` is one of IFS, and a tilde of HOME
abbrev depends_at : List Text → Site → Bool
depends_at names (part_site a w (subst x) s) = true
depends_at names (part_site a w (param star o) s) = is_among names (codes "IFS")
depends_at names (part_site a w tilde s) = is_among names (codes "HOME")
depends_at names x = list_any (uses_name names) (names_at x)

abbrev depends : Keyed → Around → List Text → Name → Value → Bool
depends k a [] n v = false
depends k a names n v = list_any (depends_at names) (given_sites k a n v)

abbrev value_from : Value → Span → ℕ
value_from (value w) s = word_from w
value_from v s = s.from

-- of each assignment behind those that set these names
abbrev prefix_at : Known → Around → (none : Bool) → (set : List Text) → List Text → Assigns → List ℕ
prefix_at k a none set names no_assign = []
prefix_at k a none set names (next_assign (assign n i adds v s) xs) =
    place_if (none || adds || is_among set n.text) s.from
    ++ (place_if (depends (is_keyed k) a names n v) (value_from v s) ++ prefix_at k a none set (n.text ∷ names) xs)

abbrev pub prefix_assignment : Known → Site → List ℕ
prefix_assignment k (command_site a (command (simple xs ws) rs s)) =
    if has_words ws then prefix_at k a (takes_none k (command_name ws)) (sets (command_name ws) (arguments ws)) [] xs else []
prefix_assignment k x = []

-- ---- 39 effect: an effect in a slice or in a subscript

abbrev is_before_target : StepOp → Bool
is_before_target PreAdd = true
is_before_target PreSub = true
is_before_target PostAdd = false
is_before_target PostSub = false

abbrev step_at : Bool → List Bool → List Bool
step_at true e = false ∷ e
step_at false e = e ++ false ∷ []

-- of each assignment and step of an expression, in their order, whether it is in a subscript
abbrev deep_step : Expr-F (List Bool) → List Bool
deep_step (open_expr.Constant n) = []
deep_step (open_expr.Name text) = []
deep_step (open_expr.Operand n) = []
deep_step (open_expr.Member text e) = map (λ x. true) e
deep_step (open_expr.Unary op e) = e
deep_step (open_expr.Step op e) = step_at (is_before_target op) e
deep_step (open_expr.Binary op d e) = d ++ e
deep_step (open_expr.And d e) = d ++ e
deep_step (open_expr.Or d e) = d ++ e
deep_step (open_expr.Assign d op e) = d ++ false ∷ e
deep_step (open_expr.Comma d e) = d ++ e
deep_step (open_expr.Choose d e f) = d ++ (e ++ f)

unfoldable pub deep : Expr → List Bool
deep = fold-Expr (List Bool) deep_step

abbrev chosen : List Bool → List Span → List ℕ
chosen (true ∷ bs) (s ∷ ss) = s.from ∷ chosen bs ss
chosen (false ∷ bs) (s ∷ ss) = chosen bs ss
chosen bs ss = []

-- of the effects of an expression, which has them in order, those in a subscript
abbrev deep_effects : Expr → List Span → List ℕ
deep_effects e [] = []
deep_effects e (s ∷ ss) = chosen (deep e) (s ∷ ss)

-- the value of an assignment to a member has no effect and uses no name of its subscript
abbrev stands_apart : (subscript given : List Site) → Bool
stands_apart xs ys = not (has_any (effects_in ys)) && not (list_any (is_among (texts_in xs)) (texts_in ys))

abbrev member_effects : (subscript given : List Site) → List ℕ
member_effects xs ys = if stands_apart xs ys then [] else effects_in xs

abbrev pub effect : Known → Site → List ℕ
effect k (part_site a w (param p (slice o l)) s) = effects_in (sum_sites (is_keyed k) a sliced o) ++ effects_in (maybe_sum_sites (is_keyed k) a sliced l)
effect k (part_site a w (param (member n i) o) s) = effects_in (subscript_sites (is_keyed k) a n i)
effect k (element_site a n (element (some_subscript i) v s)) = effects_in (subscript_sites (is_keyed k) a n i)
effect k (assign_site a r (assign n (some_subscript i) more v s)) = member_effects (subscript_sites (is_keyed k) a n i) (given_sites (is_keyed k) a n v)
effect k (sum_site a r (arith e ws ns effects s)) = deep_effects e effects
effect k x = []

-- ---- 40 array-item: an item of a list that shells read in different ways

-- a list that is assigned to a member
abbrev listed_member : Assign → List ℕ
listed_member (assign n (some_subscript i) more (items_value es) s) = s.from ∷ []
listed_member x = []

abbrev brace_from : List Spot → List ℕ
brace_from [] = []
brace_from (s ∷ ss) = if is_at 123 s && is_brace (cells_of ss) then s.from ∷ [] else brace_from ss

abbrev brace_in : Value → List ℕ
brace_in (value w) = brace_from (word_spots w)
brace_in v = []

-- `]+=`
abbrev has_added : List Cell → Bool
has_added (x ∷ y ∷ z ∷ xs) = (is_written 93 x && is_written 43 y && is_written 61 z) || has_added (y ∷ z ∷ xs)
has_added xs = false

abbrev adds_item : List Cell → Bool
adds_item [] = false
adds_item (x ∷ xs) = is_written 91 x && has_added xs

abbrev is_added : Value → Bool
is_added (value w) = adds_item (word_cells w)
is_added v = false

abbrev item_at : Known → Around → Name → Element → List ℕ
item_at k a n (element no_subscript v s) = place_if (is_keyed k n.text || is_added v) s.from
item_at k a n (element (some_subscript i) v s) = place_if (is_among (texts_in (subscript_sites (is_keyed k) a n i)) n.text) s.from ++ brace_in v

abbrev pub array_item : Known → Site → List ℕ
array_item k (assign_site a r x) = listed_member x
array_item k (element_site a n e) = item_at k a n e
array_item k x = []
