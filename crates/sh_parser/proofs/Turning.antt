-- What a turn does: the tasks behind it give what those before it gave.
use Rattle.std.proofs.Common.{◌≡◌, ℕ, Bool, true, false, cond, List, [], ◌∷◌, ◌++◌, Option, Some, None, refl, sym, ap, ◌∙◌}
use Rattle.std.specs.Prelude.{map, reverse}
use Rattle.std.proofs.lemmas.List.{map_push, reverse-append, append-nil}
use Rattle.text_grammar.specs.Grammar.{step, star, rule}
use Rattle.text_grammar.specs.Answers.{FailsAs}
use Rattle.text_grammar.specs.Values.{vals, behind, done, eval, stepped, ◌&◌}
use Rattle.text_grammar.proofs.Rules.{behind_more, behind_nil}
use Rattle.text_grammar.proofs.Tools.{some_is}
use Rattle.sh_grammar.specs.Bytes.{Text}
use Rattle.sh_grammar.specs.Expansions.{◌>>=◌}
use Rattle.sh_grammar.specs.State.{State, Node, start_at}
use Rattle.sh_grammar.specs.Table as table
use Rattle.sh_grammar.specs.Table.{Rule, Test, Gram, body}
use Rattle.sh_grammar.specs.Steps.{run_step, holds}
use Rattle.sh_grammar.specs.Acts.{act}
use Rattle.sh_grammar.specs.Spelling.{sh}
use Rattle.sh_parser.specs.declared.table.Unit.{Unit}
use Rattle.sh_parser.specs.declared.table.Unit.TheVariants as units
use Rattle.sh_parser.specs.declared.table.Item.{Item}
use Rattle.sh_parser.specs.declared.table.Item.TheVariants as items
use Rattle.sh_parser.specs.declared.tasks.Task.{Task}
use Rattle.sh_parser.specs.Tables as tables
use Rattle.sh_parser.specs.Tables.{items_gram, chosen, is_small}
use Rattle.sh_parser.specs.Tasks as tasks
use Rattle.sh_parser.specs.Tasks.{Todo, todo_of, todos, then_items, go_on, goes}
use Rattle.sh_parser.specs.Views.{known}
use Rattle.sh_parser.proofs.Levels.{star_at}
use Rattle.sh_parser.proofs.Going.{one_goes, if_goes, where_goes, stars_go, holds_bytes, go_behind, rule_goes}

abbrev Read : Type 0
Read = Option (List Node × State)

-- the task that is pushed last comes first
pub pushed : (ts : List Task) (t : Task) → todos (ts ++ t ∷ []) ≡ todo_of t ∷ todos ts
pushed ts t = ap reverse (map_push todo_of ts t) ∙ reverse-append (map todo_of ts) (todo_of t ∷ [])

bound : (o : Read) (f g : List Node → State → Read) → ((o >>= λ y. f y.0 y.1) >>= λ z. g z.0 z.1) ≡ (o >>= λ y. f y.0 y.1 >>= λ z. g z.0 z.1)
bound None f g = refl
bound (Some y) f g = refl

sided : (n : ℕ) (ds : List Text) (w : Bool) (u v : Unit) (xs : List Node) (s : State) → cond w (goes n ds (tables.unit u) xs s) (goes n ds (tables.unit v) xs s) ≡ goes n ds (tables.unit (cond w u v)) xs s
sided n ds true u v xs s = refl
sided n ds false u v xs s = refl

one_of : (n : ℕ) (ds : List Text) (t : _) (u v : Unit) (xs : List Node) (s : State) →
    cond (holds (tables.test t) s) (goes n ds (tables.unit u) xs s) (goes n ds (tables.unit v) xs s) ≡ goes n ds (tables.unit (cond (holds (tables.test t) (start_at 0 s.bytes)) u v)) xs s
one_of n ds t u v xs s = sided n ds (holds (tables.test t) s) u v xs s ∙ ap (λ (w : Bool). goes n ds (tables.unit (cond w u v)) xs s) (sym (holds_bytes (tables.test t) s))

pub if_next : (n : ℕ) (ds : List Text) (t : _) (u v : Unit) (rest : List Item) (ts : List Todo) (xs : List Node) (s : State) →
    go_on n ds (tasks.items (items.If t u v ∷ rest) ∷ ts) xs s ≡ go_on n ds (tasks.unit (cond (holds (tables.test t) (start_at 0 s.bytes)) u v) ∷ then_items rest ts) xs s
if_next n ds t u v [] ts xs s = ap (λ (o : Read). o >>= λ y. go_on n ds ts y.0 y.1) (one_of n ds t u v xs s)
if_next n ds t u v (x ∷ rest) ts xs s =
    ap (λ (o : Read). o >>= λ y. go_on n ds ts y.0 y.1) (if_goes n ds t u v (x ∷ rest) xs s)
    ∙ bound (cond (holds (tables.test t) s) (goes n ds (tables.unit u) xs s) (goes n ds (tables.unit v) xs s)) (goes n ds (items_gram (x ∷ rest))) (go_on n ds ts)
    ∙ ap (λ (o : Read). o >>= λ y. goes n ds (items_gram (x ∷ rest)) y.0 y.1 >>= λ z. go_on n ds ts z.0 z.1) (one_of n ds t u v xs s)

items_where : (n : ℕ) (ds : List Text) (t : _) (rest : List Item) (ts : List Todo) (xs : List Node) (s : State) → holds (tables.test t) (start_at 0 s.bytes) ≡ true →
    go_on n ds (tasks.items (items.Where t ∷ rest) ∷ ts) xs s ≡ go_on n ds (tasks.items rest ∷ ts) xs s
items_where n ds t rest ts xs s h = rw (where_goes n ds t rest xs s, ← holds_bytes (tables.test t) s, h) refl

pub where_next : (n : ℕ) (ds : List Text) (t : _) (rest : List Item) (ts : List Todo) (xs : List Node) (s : State) → holds (tables.test t) (start_at 0 s.bytes) ≡ true →
    go_on n ds (tasks.items (items.Where t ∷ rest) ∷ ts) xs s ≡ go_on n ds (tasks.unit units.Pass ∷ then_items rest ts) xs s
where_next n ds t [] ts xs s h = items_where n ds t [] ts xs s h
where_next n ds t (y ∷ ys) ts xs s h = items_where n ds t (y ∷ ys) ts xs s h

pub where_ends : (n : ℕ) (ds : List Text) (t : _) (rest : List Item) (ts : List Todo) (xs : List Node) (s : State) → holds (tables.test t) (start_at 0 s.bytes) ≡ false →
    go_on n ds (tasks.items (items.Where t ∷ rest) ∷ ts) xs s ≡ go_on n ds ts xs s
where_ends n ds t rest ts xs s h = rw (where_goes n ds t rest xs s, ← holds_bytes (tables.test t) s, h) refl

-- the same, as a turn has it: behind the bytes that are ahead, with the tasks that are then there

next : (ts us : List Todo) → Some ts ≡ Some us → ts ≡ us
next ts us e = some_is ts us e

bytes_hold : (t : _) (b : Bool) (bytes : Text) (s : State) → s.bytes ≡ bytes → holds (tables.test t) (start_at 0 bytes) ≡ b → holds (tables.test t) (start_at 0 s.bytes) ≡ b
bytes_hold t b bytes s e h = ap (λ (x : Text). holds (tables.test t) (start_at 0 x)) e ∙ h

pub if_turn : (n : ℕ) (ds : List Text) (i : Item) (t : _) (u v w : Unit) (rest : List Item) (ts us : List Todo) (xs : List Node) (s : State) (bytes : Text) →
    i ≡ items.If t u v → s.bytes ≡ bytes → w ≡ cond (holds (tables.test t) (start_at 0 bytes)) u v → Some (then_items rest ts) ≡ Some us →
    go_on n ds (tasks.items (i ∷ rest) ∷ ts) xs s ≡ go_on n ds (tasks.unit w ∷ us) xs s
if_turn n ds i t u v w rest ts us xs s bytes q e f g =
    ap (λ (x : Item). go_on n ds (tasks.items (x ∷ rest) ∷ ts) xs s) q
    ∙ if_next n ds t u v rest ts xs s
    ∙ ap (λ (x : Text). go_on n ds (tasks.unit (cond (holds (tables.test t) (start_at 0 x)) u v) ∷ then_items rest ts) xs s) e
    ∙ ap (λ (x : Unit). go_on n ds (tasks.unit x ∷ then_items rest ts) xs s) (sym f)
    ∙ ap (λ (z : List Todo). go_on n ds (tasks.unit w ∷ z) xs s) (next (then_items rest ts) us g)

pub where_turn : (n : ℕ) (ds : List Text) (i : Item) (t : _) (rest : List Item) (ts us : List Todo) (xs : List Node) (s : State) (bytes : Text) →
    i ≡ items.Where t → s.bytes ≡ bytes → holds (tables.test t) (start_at 0 bytes) ≡ true → Some (then_items rest ts) ≡ Some us →
    go_on n ds (tasks.items (i ∷ rest) ∷ ts) xs s ≡ go_on n ds (tasks.unit units.Pass ∷ us) xs s
where_turn n ds i t rest ts us xs s bytes q e h g =
    ap (λ (x : Item). go_on n ds (tasks.items (x ∷ rest) ∷ ts) xs s) q
    ∙ where_next n ds t rest ts xs s (bytes_hold t true bytes s e h)
    ∙ ap (λ (z : List Todo). go_on n ds z xs s) (next (then_items rest ts) us g)

pub where_stops : (n : ℕ) (ds : List Text) (i : Item) (t : _) (rest : List Item) (ts : List Todo) (xs : List Node) (s : State) (bytes : Text) →
    i ≡ items.Where t → s.bytes ≡ bytes → holds (tables.test t) (start_at 0 bytes) ≡ false →
    go_on n ds (tasks.items (i ∷ rest) ∷ ts) xs s ≡ go_on n ds (tasks.unit units.Pass ∷ ts) xs s
where_stops n ds i t rest ts xs s bytes q e h =
    ap (λ (x : Item). go_on n ds (tasks.items (x ∷ rest) ∷ ts) xs s) q
    ∙ where_ends n ds t rest ts xs s (bytes_hold t false bytes s e h)

-- ---- repetitions

apart : (xs : List Node) (o : Read) (f : State → Read) → behind xs (o & f) ≡ (behind xs o >>= λ y. behind y.0 (f y.1))
apart xs None f = refl
apart xs (Some y) f = sym (behind_more xs y.0 (f y.1))

pub turn_more : (n : ℕ) (ds : List Text) (t : _) (u : Unit) (ts : List Todo) (xs : List Node) (s : State) → is_small (star (tables.test t) (tables.unit u)) ≡ true → holds (tables.test t) (start_at 0 s.bytes) ≡ true →
    go_on n ds (tasks.turns t u ∷ ts) xs s ≡ go_on n ds (tasks.unit u ∷ tasks.turns t u ∷ ts) xs s
turn_more n ds t u ts xs s sm h =
    let k : holds (tables.test t) s ≡ true = sym (holds_bytes (tables.test t) s) ∙ h in
    let e : behind xs (vals (sh n ds) (star (tables.test t) (tables.unit u)) s) ≡ (goes n ds (tables.unit u) xs s >>= λ y. behind y.0 (vals (sh n ds) (star (tables.test t) (tables.unit u)) y.1)) =
    rw (star_at n ds (tables.test t) (tables.unit u) s sm, k) (apart xs (eval (run_step (known n ds)) holds (vals (sh n ds)) (tables.unit u) s) (vals (sh n ds) (star (tables.test t) (tables.unit u)))
    ∙ ap (λ (o : Read). o >>= λ y. behind y.0 (vals (sh n ds) (star (tables.test t) (tables.unit u)) y.1)) (sym (go_behind n ds (tables.unit u) xs s))) in
    ap (λ (o : Read). o >>= λ y. go_on n ds ts y.0 y.1) e ∙ bound (goes n ds (tables.unit u) xs s) (λ ys m. behind ys (vals (sh n ds) (star (tables.test t) (tables.unit u)) m)) (go_on n ds ts)

no_more : (xs : List Node) (s : State) → behind xs (Some ([], s)) ≡ Some (xs, s)
no_more xs s = ap (λ (z : List Node). Some (z, s)) (append-nil xs)

pub turns_done : (n : ℕ) (ds : List Text) (t : _) (u : Unit) (ts : List Todo) (xs : List Node) (s : State) → is_small (star (tables.test t) (tables.unit u)) ≡ true → holds (tables.test t) (start_at 0 s.bytes) ≡ false →
    go_on n ds (tasks.turns t u ∷ ts) xs s ≡ go_on n ds ts xs s
turns_done n ds t u ts xs s sm h =
    let k : holds (tables.test t) s ≡ false = sym (holds_bytes (tables.test t) s) ∙ h in
    let e : behind xs (vals (sh n ds) (star (tables.test t) (tables.unit u)) s) ≡ Some (xs, s) = rw (star_at n ds (tables.test t) (tables.unit u) s sm, k) (no_more xs s) in
    ap (λ (o : Read). o >>= λ y. go_on n ds ts y.0 y.1) e

pub star_turn : (n : ℕ) (ds : List Text) (t : _) (u : Unit) (ts us : List Todo) (xs : List Node) (s : State) (bytes : Text) →
    is_small (star (tables.test t) (tables.unit u)) ≡ true → s.bytes ≡ bytes → holds (tables.test t) (start_at 0 bytes) ≡ true → us ≡ tasks.turns t u ∷ ts →
    go_on n ds (tasks.turns t u ∷ ts) xs s ≡ go_on n ds (tasks.unit u ∷ us) xs s
star_turn n ds t u ts us xs s bytes sm e h f =
    turn_more n ds t u ts xs s sm (bytes_hold t true bytes s e h)
    ∙ ap (λ (z : List Todo). go_on n ds (tasks.unit u ∷ z) xs s) (sym f)

pub star_stops : (n : ℕ) (ds : List Text) (t : _) (u : Unit) (ts : List Todo) (xs : List Node) (s : State) (bytes : Text) →
    is_small (star (tables.test t) (tables.unit u)) ≡ true → s.bytes ≡ bytes → holds (tables.test t) (start_at 0 bytes) ≡ false →
    go_on n ds (tasks.turns t u ∷ ts) xs s ≡ go_on n ds (tasks.unit units.Pass ∷ ts) xs s
star_stops n ds t u ts xs s bytes sm e h = turns_done n ds t u ts xs s sm (bytes_hold t false bytes s e h)

-- ---- units

pub unless_fails : (n : ℕ) (ds : List Text) (t : _) (ts : List Todo) (xs : List Node) (s : State) → holds (tables.test t) (start_at 0 s.bytes) ≡ true → go_on n ds (tasks.unit (units.Unless t) ∷ ts) xs s ≡ None
unless_fails n ds t ts xs s h = rw (← holds_bytes (tables.test t) s, h) refl

pub unless_goes : (n : ℕ) (ds : List Text) (t : _) (ts : List Todo) (xs : List Node) (s : State) → holds (tables.test t) (start_at 0 s.bytes) ≡ false → go_on n ds (tasks.unit (units.Unless t) ∷ ts) xs s ≡ go_on n ds ts xs s
unless_goes n ds t ts xs s h = rw (← holds_bytes (tables.test t) s, h) refl

-- the task that is taken off was in front
pub popped : (before after : List Task) (t : Task) → before ≡ after ++ t ∷ [] → todos before ≡ todo_of t ∷ todos after
popped before after t e = ap todos e ∙ pushed after t

pub step_read : (n : ℕ) (ds : List Text) (k : table.Step) (ts : List Todo) (xs ks : List Node) (s m : State) → stepped (run_step (known n ds) k s) ≡ Some (ks, m) →
    (goes n ds (step k) xs s >>= λ y. go_on n ds ts y.0 y.1) ≡ go_on n ds ts (xs ++ ks) m
step_read n ds k ts xs ks s m e = ap (λ (o : Read). o >>= λ y. go_on n ds ts y.0 y.1) (go_behind n ds (step k) xs s ∙ ap (behind xs) e)

pub step_fails : (b : Bool) (n : ℕ) (ds : List Text) (k : table.Step) (ts : List Todo) (xs : List Node) (s : State) → FailsAs b (stepped (run_step (known n ds) k s)) →
    FailsAs b (goes n ds (step k) xs s >>= λ y. go_on n ds ts y.0 y.1)
step_fails true n ds k ts xs s e = tt
step_fails false n ds k ts xs s e = ap (λ (o : Read). o >>= λ y. go_on n ds ts y.0 y.1) (go_behind n ds (step k) xs s ∙ ap (behind xs) e)

-- a rule by itself
pub rule_alone : (n : ℕ) (ds : List Text) (r : Rule) (s : State) → vals (sh n ds) (rule r) s ≡ (behind [] (vals (sh n ds) (rule r) s) >>= λ y. Some (y.0, y.1))
rule_alone n ds r s = alone (vals (sh n ds) (rule r) s)
  where
    alone : (o : Read) → o ≡ (behind [] o >>= λ y. Some (y.0, y.1))
    alone None = refl
    alone (Some y) = refl

pub rule_begins : (n : ℕ) (ds : List Text) (r : Rule) (is : List Item) (ts : List Todo) (xs : List Node) (s : State) → items_gram is ≡ chosen (body r) s.bytes →
    (behind xs (vals (sh n ds) (rule r) s) >>= λ y. go_on n ds ts y.0 y.1) ≡ go_on n ds (tasks.items is ∷ tasks.make r xs ∷ ts) [] s
rule_begins n ds r is ts xs s e =
    ap (λ (o : Read). behind xs o >>= λ y. go_on n ds ts y.0 y.1) (rule_goes n ds r s ∙ ap (λ (g : Gram). done (act r) (goes n ds g [] s)) (sym e))
    ∙ made (goes n ds (items_gram is) [] s)
  where
    made : (o : Read) → (behind xs (done (act r) o) >>= λ y. go_on n ds ts y.0 y.1) ≡ (o >>= λ y. go_on n ds ts (xs ++ act r y.0) y.1)
    made None = refl
    made (Some y) = refl

-- ---- rules that lead on

-- a rule that leads on gives back the values below it
leads : (r : Rule) (xs : List Node) → tasks.leads_on r ≡ true → act r xs ≡ xs
leads table.piece xs e = refl
leads table.line_piece xs e = refl
leads table.complete xs e = refl
leads table.complete_more xs e = refl
leads table.list xs e = absurd cc
leads table.maybe_list xs e = absurd cc
leads table.list_more xs e = refl
leads table.lines xs e = refl
leads table.chain xs e = absurd cc
leads table.link xs e = refl
leads table.and_link xs e = absurd cc
leads table.or_link xs e = absurd cc
leads table.pipeline xs e = absurd cc
leads table.bang xs e = absurd cc
leads table.stage xs e = refl
leads table.command xs e = refl
leads table.compound_command xs e = absurd cc
leads table.compound xs e = refl
leads table.other_compound xs e = refl
leads table.group xs e = absurd cc
leads table.subshell xs e = absurd cc
leads table.if_command xs e = absurd cc
leads table.if_branch xs e = absurd cc
leads table.elif_branch xs e = refl
leads table.else_part xs e = absurd cc
leads table.while_loop xs e = absurd cc
leads table.until_loop xs e = absurd cc
leads table.do_body xs e = refl
leads table.for_loop xs e = absurd cc
leads table.for_words xs e = refl
leads table.for_in xs e = absurd cc
leads table.case_command xs e = absurd cc
leads table.case_in xs e = refl
leads table.case_item xs e = absurd cc
leads table.pattern_more xs e = refl
leads table.item_end xs e = refl
leads table.function_command xs e = absurd cc
leads table.simple_command xs e = absurd cc
leads table.prefixed xs e = refl
leads table.called xs e = refl
leads table.suffix xs e = refl
leads table.prefix_item xs e = refl
leads table.suffix_item xs e = refl
leads table.assign xs e = absurd cc
leads table.redirect xs e = absurd cc
leads table.target xs e = refl
leads table.file xs e = absurd cc
leads table.word xs e = absurd cc
leads table.value xs e = absurd cc
leads table.word_parts xs e = refl
leads table.more_parts xs e = refl
leads table.pattern xs e = absurd cc
leads (table.part x) xs e = refl
leads table.double_quotes xs e = absurd cc
leads (table.expansion x) xs e = refl
leads (table.braces x) xs e = refl
leads (table.fill x) xs e = absurd cc
leads (table.trim x) xs e = absurd cc
leads table.subst xs e = absurd cc
leads table.sum xs e = absurd cc
leads table.sum_part xs e = refl
leads table.sum_group xs e = refl
leads table.body_parts xs e = absurd cc

done_same : (r : Rule) (o : Read) → tasks.leads_on r ≡ true → done (act r) o ≡ o
done_same r None e = refl
done_same r (Some y) e = ap (λ (z : List Node). Some (z, y.1)) (leads r y.0 e)

put_behind : (n : ℕ) (ds : List Text) (g : Gram) (xs : List Node) (s : State) → behind xs (goes n ds g [] s) ≡ goes n ds g xs s
put_behind n ds g xs s =
    ap (behind xs) (go_behind n ds g [] s ∙ behind_nil (eval (run_step (known n ds)) holds (vals (sh n ds)) g s))
    ∙ sym (go_behind n ds g xs s)

pub rule_led : (n : ℕ) (ds : List Text) (r : Rule) (is : List Item) (ts : List Todo) (xs : List Node) (s : State) → tasks.leads_on r ≡ true → items_gram is ≡ chosen (body r) s.bytes →
    (behind xs (vals (sh n ds) (rule r) s) >>= λ y. go_on n ds ts y.0 y.1) ≡ go_on n ds (tasks.items is ∷ ts) xs s
rule_led n ds r is ts xs s l e =
    ap (λ (o : Read). o >>= λ y. go_on n ds ts y.0 y.1)
    (ap (behind xs) (rule_goes n ds r s ∙ done_same r (goes n ds (chosen (body r) s.bytes) [] s) l)
    ∙ put_behind n ds (chosen (body r) s.bytes) xs s
    ∙ ap (λ (g : Gram). goes n ds g xs s) (sym e))

-- ---- a rule begins, as a turn has it

pub led_turn : (n : ℕ) (ds : List Text) (r : _) (is : List Item) (ts us : List Todo) (xs : List Node) (s : State) →
    tasks.leads_on (tables.rule r) ≡ true → items_gram is ≡ chosen (body (tables.rule r)) s.bytes → us ≡ tasks.items is ∷ ts →
    go_on n ds (tasks.unit (units.Rule r) ∷ ts) xs s ≡ go_on n ds us xs s
led_turn n ds r is ts us xs s l e f = rule_led n ds (tables.rule r) is ts xs s l e ∙ ap (λ (z : List Todo). go_on n ds z xs s) (sym f)

pub rule_turn : (n : ℕ) (ds : List Text) (r : _) (is : List Item) (ts us vs : List Todo) (xs : List Node) (s : State) →
    items_gram is ≡ chosen (body (tables.rule r)) s.bytes → us ≡ tasks.make (tables.rule r) xs ∷ ts → vs ≡ tasks.items is ∷ us →
    go_on n ds (tasks.unit (units.Rule r) ∷ ts) xs s ≡ go_on n ds vs [] s
rule_turn n ds r is ts us vs xs s e f g =
    rule_begins n ds (tables.rule r) is ts xs s e
    ∙ ap (λ (z : List Todo). go_on n ds (tasks.items is ∷ z) [] s) (sym f)
    ∙ ap (λ (z : List Todo). go_on n ds z [] s) (sym g)
