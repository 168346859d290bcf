-- The loop over the tasks: what they give stays the same.
use Rattle.std.proofs.Common.{◌≡◌, ℕ, ◌-◌, Bool, true, List, [], ◌∷◌, ◌++◌, Option, Some, None, take, refl, sym, ap, subst, ◌∙◌}
use Rattle.std.specs.Prelude.{option_to_list}
use Rattle.std.proofs.lemmas.List.{append-nil}
use Rattle.text_grammar.specs.Answers.{FailsAs}
use Rattle.text_grammar.specs.Grammar.{rule}
use Rattle.text_grammar.specs.Values.{vals, stepped}
use Rattle.text_grammar.proofs.Tools.{some_is}
use Rattle.sh_grammar.specs.Bytes.{Text}
use Rattle.sh_grammar.specs.State.{State, Node}
use Rattle.sh_grammar.specs.Table as table
use Rattle.sh_grammar.specs.Steps.{run_step}
use Rattle.sh_grammar.specs.Spelling.{sh}
use Rattle.sh_parser.specs.declared.tasks.Task.{Task}
use Rattle.sh_parser.specs.declared.tasks.Task.TheVariants.{Here}
use Rattle.sh_parser.specs.declared.table.Unit.TheVariants as units
use Rattle.sh_parser.specs.declared.values.Value.{Value}
use Rattle.sh_parser.specs.Tables as tables
use Rattle.sh_parser.specs.Tasks as tasks
use Rattle.sh_parser.specs.Tasks.{todo_of, todos, go_on, is_ready, all_ready}
use Rattle.sh_parser.specs.Values.{nodes}
use Rattle.sh_parser.specs.Views.{known}
use Rattle.sh_parser.proofs.Depths.{first_ready}
use Rattle.sh_parser.proofs.Turning.{popped, rule_alone, step_read, step_fails}

abbrev Read : Type 0
Read = Option (List Node × State)

-- ---- the task that is taken

pub taken : (before after : List Task) (r : Option Task) (t : Task) → before ≡ after ++ option_to_list r → r ≡ Some t → before ≡ after ++ t ∷ []
taken before after r t e q = e ∙ ap (λ (x : Option Task). after ++ option_to_list x) q

pub taken_here : (before after : List Task) (r : Option Task) (t : Task) → before ≡ after ++ option_to_list r → r ≡ Some t → t ≡ Here → before ≡ after ++ Here ∷ []
taken_here before after r t e q h = taken before after r t e q ∙ ap (λ (x : Task). after ++ x ∷ []) h

pub none_left : (before after : List Task) (n : ℕ) (r : Option Task) → before ≡ after ++ option_to_list r → r ≡ None → n ≡ 0 → after ≡ take (n - 1) before → before ≡ []
none_left before after n r e q z t =
    e ∙ ap (λ (x : Option Task). after ++ option_to_list x) q ∙ append-nil after ∙ t ∙ ap (λ (k : ℕ). take (k - 1) before) z

pub taken_ready : (before after : List Task) (t : Task) → before ≡ after ++ t ∷ [] → all_ready (todos before) ≡ true → (is_ready (todo_of t) ≡ true) × (all_ready (todos after) ≡ true)
taken_ready before after t e a = first_ready (todo_of t) (todos after) (subst (λ (z : List tasks.Todo). all_ready z ≡ true) (popped before after t e) a)

-- ---- what they give, `o` being what is wanted in all

pub begins : (n : ℕ) (ds : List Text) (w : _) (before after : List Task) (none values : List Value) (s m : State) → before ≡ [] → none ≡ [] →
    go_on n ds (tasks.unit (units.Rule w) ∷ todos before) (nodes none) s ≡ go_on n ds (todos after) (nodes values) m →
    vals (sh n ds) (rule (tables.rule w)) s ≡ go_on n ds (todos after) (nodes values) m
begins n ds w before after none values s m e f g =
    rule_alone n ds (tables.rule w) s
    ∙ ap (λ (z : List Task). go_on n ds (tasks.unit (units.Rule w) ∷ todos z) [] s) (sym e)
    ∙ ap (λ (z : List Value). go_on n ds (tasks.unit (units.Rule w) ∷ todos before) (nodes z) s) (sym f)
    ∙ g

pub nothing_ready : (before : List Task) → before ≡ [] → all_ready (todos before) ≡ true
nothing_ready before e = subst (λ (z : List Task). all_ready (todos z) ≡ true) (sym e) refl

pub ends : (n : ℕ) (ds : List Text) (o : Read) (before : List Task) (xs : List Node) (s : State) → o ≡ go_on n ds (todos before) xs s → before ≡ [] → o ≡ Some (xs, s)
ends n ds o before xs s e f = e ∙ ap (λ (z : List Task). go_on n ds (todos z) xs s) f

pub turned : (n : ℕ) (ds : List Text) (o : Read) (before after : List Task) (t : Task) (xs : List Node) (s : State) → o ≡ go_on n ds (todos before) xs s → before ≡ after ++ t ∷ [] →
    o ≡ go_on n ds (todo_of t ∷ todos after) xs s
turned n ds o before after t xs s e f = e ∙ ap (λ (z : List tasks.Todo). go_on n ds z xs s) (popped before after t f)

pub turn_fails : (b : Bool) (o p : Read) → o ≡ p → FailsAs b p → FailsAs b o
turn_fails b o p e f = subst (λ (z : Read). FailsAs b z) (sym e) f

-- ---- here-documents

pub here_fails : (b : Bool) (n : ℕ) (ds : List Text) (o : Read) (before after : List Task) (xs : List Node) (s : State) → o ≡ go_on n ds (todos before) xs s → before ≡ after ++ Here ∷ [] →
    FailsAs b (stepped (run_step (known n ds) table.here s)) → FailsAs b o
here_fails b n ds o before after xs s e f g =
    turn_fails b o (go_on n ds (todo_of Here ∷ todos after) xs s) (turned n ds o before after Here xs s e f) (step_fails b n ds table.here (todos after) xs s g)

pub here_read : (n : ℕ) (ds : List Text) (o : Read) (before after : List Task) (xs ks ys : List Node) (s m : State) → o ≡ go_on n ds (todos before) xs s → before ≡ after ++ Here ∷ [] →
    stepped (run_step (known n ds) table.here s) ≡ Some (ks, m) → Some (xs ++ ks) ≡ Some ys → o ≡ go_on n ds (todos after) ys m
here_read n ds o before after xs ks ys s m e f g h =
    turned n ds o before after Here xs s e f
    ∙ step_read n ds table.here (todos after) xs ks s m g
    ∙ ap (λ (z : List Node). go_on n ds (todos after) z m) (some_is (xs ++ ks) ys h)
