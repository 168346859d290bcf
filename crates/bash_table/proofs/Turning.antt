-- What a turn does: the tasks behind it give what those before it gave.
use Rattle.std.proofs.Common.{◌≡◌, ℕ, Bool, true, false, cond, List, [], ◌∷◌, ◌++◌, Option, Some, None, refl, sym, ap, ◌∙◌}
use Rattle.std.proofs.lemmas.List.{append-nil}
use Rattle.text_grammar.specs.Answers.{FailsAs}
use Rattle.text_grammar.specs.Grammar.{step, star, rule, choose}
use Rattle.text_grammar.specs.Values.{vals, behind, done, eval, stepped, ◌&◌}
use Rattle.text_grammar.proofs.Rules.{behind_more, behind_nil}
use Rattle.bash_grammar.specs.Acts.{act}
use Rattle.bash_grammar.specs.Bytes.{Context}
use Rattle.bash_grammar.specs.Moves as moves
use Rattle.bash_grammar.specs.Nodes.{Node}
use Rattle.bash_grammar.specs.Spelling.{bash}
use Rattle.bash_grammar.specs.State.{State, Found}
use Rattle.bash_grammar.specs.Steps.{run_step}
use Rattle.bash_grammar.specs.Table.{Rule, Gram, body}
use Rattle.bash_grammar.specs.Tests.{holds}
use Rattle.bash_grammar.specs.Tokens.{◌>>=◌}
use Rattle.bash_table.specs.declared.table.Guard.{Guard}
use Rattle.bash_table.specs.declared.table.Item.{Item}
use Rattle.bash_table.specs.declared.table.Item.TheVariants as the_items
use Rattle.bash_table.specs.declared.table.Unit.{Unit}
use Rattle.bash_table.specs.declared.table.Unit.TheVariants as units
use Rattle.bash_table.specs.Tables as tables
use Rattle.bash_table.specs.Tables.{guard, items_gram}
use Rattle.bash_table.specs.Tasks as tasks
use Rattle.bash_table.specs.Tasks.{Todo, then_items, go_on, go_if, goes, asked, answer, first_guard, items_turn, is_small}
use Rattle.bash_table.specs.Views.{known}
use Rattle.bash_table.proofs.Levels.{rule_is, star_at, go_behind}

abbrev Read : Type 0
Read = Option (List Node × State)

bound : (o : Read) (f g : List Node → State → Read) → ((o >>= λ y. f y.0 y.1) >>= λ z. g z.0 z.1) ≡ (o >>= λ y. f y.0 y.1 >>= λ z. g z.0 z.1)
bound None f g = refl
bound (Some y) f g = refl

-- ---- items

-- items in front of tasks, as one task or none
pub in_front : (n : ℕ) (ds : List Found) (c : Context) (is : List Item) (ts : List Todo) (xs : List Node) (s : State) → go_on n ds (then_items c is ts) xs s ≡ go_on n ds (tasks.items c is ∷ ts) xs s
in_front n ds c [] ts xs s = refl
in_front n ds c (i ∷ is) ts xs s = refl

-- what stands first, and what stands behind it
before : (n : ℕ) (ds : List Found) (c : Context) (o : Read) (y : Item) (ys : List Item) (ts : List Todo) →
    ((o >>= λ a. goes n ds (items_gram c (y ∷ ys)) a.0 a.1) >>= λ b. go_on n ds ts b.0 b.1) ≡ (o >>= λ a. go_on n ds (then_items c (y ∷ ys) ts) a.0 a.1)
before n ds c o y ys ts = bound o (goes n ds (items_gram c (y ∷ ys))) (go_on n ds ts)

if_reads : (n : ℕ) (ds : List Found) (c : Context) (b : Bool) (t : Guard) (u v : Unit) (is : List Item) (ts : List Todo) (xs : List Node) (s : State) →
    (cond b (goes n ds (tables.unit c u) xs s) (goes n ds (tables.unit c v) xs s) >>= λ a. go_on n ds (then_items c is ts) a.0 a.1) ≡ go_if n ds (items_turn c (the_items.If t u v ∷ is) b ts) xs s
if_reads n ds c true t u v is ts xs s = refl
if_reads n ds c false t u v is ts xs s = refl

or_reads : (n : ℕ) (ds : List Found) (c : Context) (b : Bool) (t : Guard) (u : Unit) (q : Guard) (v w : Unit) (is : List Item) (ts : List Todo) (xs : List Node) (s : State) →
    (cond b (goes n ds (tables.unit c u) xs s) (goes n ds (choose (guard q c) (tables.unit c v) (tables.unit c w)) xs s) >>= λ a. go_on n ds (then_items c is ts) a.0 a.1) ≡ go_if n ds (items_turn c (the_items.Or t u q v w ∷ is) b ts) xs s
or_reads n ds c true t u q v w is ts xs s = refl
or_reads n ds c false t u q v w is ts xs s = refl

-- one alone, or all behind it
either_reads : (n : ℕ) (ds : List Found) (c : Context) (b : Bool) (u : Unit) (g : Gram) (ts : List Todo) (xs : List Node) (s : State) →
    (cond b (goes n ds (tables.unit c u) xs s) (goes n ds g xs s) >>= λ a. go_on n ds ts a.0 a.1) ≡ cond b (go_on n ds (tasks.unit c u ∷ ts) xs s) (goes n ds g xs s >>= λ a. go_on n ds ts a.0 a.1)
either_reads n ds c true u g ts xs s = refl
either_reads n ds c false u g ts xs s = refl

both_reads : (n : ℕ) (ds : List Found) (c : Context) (b : Bool) (u v : Unit) (g : Gram) (ts : List Todo) (xs : List Node) (s : State) →
    (cond b (goes n ds (tables.unit c u) xs s >>= λ a. goes n ds (tables.unit c v) a.0 a.1) (goes n ds g xs s) >>= λ a. go_on n ds ts a.0 a.1)
    ≡ cond b (go_on n ds (tasks.unit c u ∷ tasks.unit c v ∷ ts) xs s) (goes n ds g xs s >>= λ a. go_on n ds ts a.0 a.1)
both_reads n ds c true u v g ts xs s = bound (goes n ds (tables.unit c u) xs s) (goes n ds (tables.unit c v)) (go_on n ds ts)
both_reads n ds c false u v g ts xs s = refl

where_reads : (n : ℕ) (ds : List Found) (b : Bool) (g : Gram) (ts : List Todo) (xs : List Node) (s : State) →
    (cond b (goes n ds g xs s) (Some (xs, s)) >>= λ a. go_on n ds ts a.0 a.1) ≡ cond b (goes n ds g xs s >>= λ a. go_on n ds ts a.0 a.1) (go_on n ds ts xs s)
where_reads n ds true g ts xs s = refl
where_reads n ds false g ts xs s = refl

only_reads : (n : ℕ) (ds : List Found) (b : Bool) (g : Gram) (ts : List Todo) (xs : List Node) (s : State) →
    (cond b (goes n ds g xs s) None >>= λ a. go_on n ds ts a.0 a.1) ≡ cond b (goes n ds g xs s >>= λ a. go_on n ds ts a.0 a.1) None
only_reads n ds true g ts xs s = refl
only_reads n ds false g ts xs s = refl

either_turn : (n : ℕ) (ds : List Found) (c : Context) (b : Bool) (t : Guard) (u : Unit) (is : List Item) (ts : List Todo) (xs : List Node) (s : State) →
    cond b (go_on n ds (tasks.unit c u ∷ ts) xs s) (go_on n ds (tasks.items c is ∷ ts) xs s) ≡ go_if n ds (items_turn c (the_items.Either t u ∷ is) b ts) xs s
either_turn n ds c true t u is ts xs s = refl
either_turn n ds c false t u is ts xs s = sym (in_front n ds c is ts xs s)

both_turn : (n : ℕ) (ds : List Found) (c : Context) (b : Bool) (t : Guard) (u v : Unit) (is : List Item) (ts : List Todo) (xs : List Node) (s : State) →
    cond b (go_on n ds (tasks.unit c u ∷ tasks.unit c v ∷ ts) xs s) (go_on n ds (tasks.items c is ∷ ts) xs s) ≡ go_if n ds (items_turn c (the_items.Both t u v ∷ is) b ts) xs s
both_turn n ds c true t u v is ts xs s = refl
both_turn n ds c false t u v is ts xs s = sym (in_front n ds c is ts xs s)

where_turn : (n : ℕ) (ds : List Found) (c : Context) (b : Bool) (t : Guard) (is : List Item) (ts : List Todo) (xs : List Node) (s : State) →
    cond b (go_on n ds (tasks.items c is ∷ ts) xs s) (go_on n ds ts xs s) ≡ go_if n ds (items_turn c (the_items.Where t ∷ is) b ts) xs s
where_turn n ds c true t is ts xs s = sym (in_front n ds c is ts xs s)
where_turn n ds c false t is ts xs s = refl

only_turn : (n : ℕ) (ds : List Found) (c : Context) (b : Bool) (t : Guard) (is : List Item) (ts : List Todo) (xs : List Node) (s : State) →
    cond b (go_on n ds (tasks.items c is ∷ ts) xs s) None ≡ go_if n ds (items_turn c (the_items.Only t ∷ is) b ts) xs s
only_turn n ds c true t is ts xs s = sym (in_front n ds c is ts xs s)
only_turn n ds c false t is ts xs s = refl

-- items give what the tasks in their place give
pub items_go : (n : ℕ) (ds : List Found) (c : Context) (is : List Item) (ts : List Todo) (xs : List Node) (s : State) →
    go_on n ds (tasks.items c is ∷ ts) xs s ≡ go_if n ds (items_turn c is (answer n ds c (first_guard is) s) ts) xs s
items_go n ds c [] ts xs s = refl
items_go n ds c (the_items.One u ∷ []) ts xs s = refl
items_go n ds c (the_items.One u ∷ y ∷ ys) ts xs s = before n ds c (goes n ds (tables.unit c u) xs s) y ys ts
items_go n ds c (the_items.If t u v ∷ []) ts xs s = if_reads n ds c (asked n ds (guard t c) s) t u v [] ts xs s
items_go n ds c (the_items.If t u v ∷ y ∷ ys) ts xs s =
    before n ds c (cond (asked n ds (guard t c) s) (goes n ds (tables.unit c u) xs s) (goes n ds (tables.unit c v) xs s)) y ys ts
    ∙ if_reads n ds c (asked n ds (guard t c) s) t u v (y ∷ ys) ts xs s
items_go n ds c (the_items.Or t u q v w ∷ []) ts xs s = or_reads n ds c (asked n ds (guard t c) s) t u q v w [] ts xs s
items_go n ds c (the_items.Or t u q v w ∷ y ∷ ys) ts xs s =
    before n ds c (cond (asked n ds (guard t c) s) (goes n ds (tables.unit c u) xs s) (goes n ds (choose (guard q c) (tables.unit c v) (tables.unit c w)) xs s)) y ys ts
    ∙ or_reads n ds c (asked n ds (guard t c) s) t u q v w (y ∷ ys) ts xs s
items_go n ds c (the_items.Star t u ∷ []) ts xs s = refl
items_go n ds c (the_items.Star t u ∷ y ∷ ys) ts xs s = before n ds c (behind xs (vals (bash n ds) (star (guard t c) (tables.unit c u)) s)) y ys ts
items_go n ds c (the_items.Either t u ∷ []) ts xs s =
    either_reads n ds c (asked n ds (guard t c) s) u (items_gram c []) ts xs s ∙ either_turn n ds c (asked n ds (guard t c) s) t u [] ts xs s
items_go n ds c (the_items.Either t u ∷ y ∷ ys) ts xs s =
    either_reads n ds c (asked n ds (guard t c) s) u (items_gram c (y ∷ ys)) ts xs s ∙ either_turn n ds c (asked n ds (guard t c) s) t u (y ∷ ys) ts xs s
items_go n ds c (the_items.Both t u v ∷ []) ts xs s =
    both_reads n ds c (asked n ds (guard t c) s) u v (items_gram c []) ts xs s ∙ both_turn n ds c (asked n ds (guard t c) s) t u v [] ts xs s
items_go n ds c (the_items.Both t u v ∷ y ∷ ys) ts xs s =
    both_reads n ds c (asked n ds (guard t c) s) u v (items_gram c (y ∷ ys)) ts xs s ∙ both_turn n ds c (asked n ds (guard t c) s) t u v (y ∷ ys) ts xs s
items_go n ds c (the_items.Where t ∷ []) ts xs s =
    where_reads n ds (asked n ds (guard t c) s) (items_gram c []) ts xs s ∙ where_turn n ds c (asked n ds (guard t c) s) t [] ts xs s
items_go n ds c (the_items.Where t ∷ y ∷ ys) ts xs s =
    where_reads n ds (asked n ds (guard t c) s) (items_gram c (y ∷ ys)) ts xs s ∙ where_turn n ds c (asked n ds (guard t c) s) t (y ∷ ys) ts xs s
items_go n ds c (the_items.Only t ∷ []) ts xs s =
    only_reads n ds (asked n ds (guard t c) s) (items_gram c []) ts xs s ∙ only_turn n ds c (asked n ds (guard t c) s) t [] ts xs s
items_go n ds c (the_items.Only t ∷ y ∷ ys) ts xs s =
    only_reads n ds (asked n ds (guard t c) s) (items_gram c (y ∷ ys)) ts xs s ∙ only_turn n ds c (asked n ds (guard t c) s) t (y ∷ ys) ts xs s

-- ---- a choice

pub which_go : (n : ℕ) (ds : List Found) (c : Context) (t : Guard) (u v : Unit) (ts : List Todo) (xs : List Node) (s : State) →
    go_on n ds (tasks.which c t u v ∷ ts) xs s ≡ go_on n ds (tasks.unit c (cond (asked n ds (guard t c) s) u v) ∷ ts) xs s
which_go n ds c t u v ts xs s = by (asked n ds (guard t c) s)
  where
    by : (b : Bool) → (cond b (goes n ds (tables.unit c u) xs s) (goes n ds (tables.unit c v) xs s) >>= λ a. go_on n ds ts a.0 a.1) ≡ go_on n ds (tasks.unit c (cond b u v) ∷ ts) xs s
    by true = refl
    by false = refl

-- ---- repetitions

apart : (xs : List Node) (o : Read) (f : State → Read) → behind xs (o & f) ≡ (behind xs o >>= λ y. behind y.0 (f y.1))
apart xs None f = refl
apart xs (Some y) f = sym (behind_more xs y.0 (f y.1))

pub turn_more : (n : ℕ) (ds : List Found) (c : Context) (t : Guard) (u : Unit) (ts : List Todo) (xs : List Node) (s : State) → is_small (star (guard t c) (tables.unit c u)) ≡ true → asked n ds (guard t c) s ≡ true →
    go_on n ds (tasks.turns c t u ∷ ts) xs s ≡ go_on n ds (tasks.unit c u ∷ tasks.turns c t u ∷ ts) xs s
turn_more n ds c t u ts xs s sm h =
    let again : State → Read = vals (bash n ds) (star (guard t c) (tables.unit c u)) in
    let once : Read = eval (run_step (known n ds)) (holds (known n ds).scan) (vals (bash n ds)) (tables.unit c u) s in
    let e : behind xs (again s) ≡ (goes n ds (tables.unit c u) xs s >>= λ y. behind y.0 (again y.1)) =
    ap (behind xs) (star_at n ds (guard t c) (tables.unit c u) s sm ∙ ap (λ (b : Bool). cond b (once & again) (Some ([], s))) h)
    ∙ apart xs once again
    ∙ ap (λ (o : Read). o >>= λ y. behind y.0 (again y.1)) (sym (go_behind n ds (tables.unit c u) xs s)) in
    ap (λ (o : Read). o >>= λ y. go_on n ds ts y.0 y.1) e ∙ bound (goes n ds (tables.unit c u) xs s) (λ ys m. behind ys (again m)) (go_on n ds ts)

pub turns_done : (n : ℕ) (ds : List Found) (c : Context) (t : Guard) (u : Unit) (ts : List Todo) (xs : List Node) (s : State) → is_small (star (guard t c) (tables.unit c u)) ≡ true → asked n ds (guard t c) s ≡ false →
    go_on n ds (tasks.turns c t u ∷ ts) xs s ≡ go_on n ds ts xs s
turns_done n ds c t u ts xs s sm h =
    let again : State → Read = vals (bash n ds) (star (guard t c) (tables.unit c u)) in
    let once : Read = eval (run_step (known n ds)) (holds (known n ds).scan) (vals (bash n ds)) (tables.unit c u) s in
    ap (λ (o : Read). behind xs o >>= λ y. go_on n ds ts y.0 y.1) (star_at n ds (guard t c) (tables.unit c u) s sm ∙ ap (λ (b : Bool). cond b (once & again) (Some ([], s))) h)
    ∙ ap (λ (z : List Node). go_on n ds ts z s) (append-nil xs)

-- ---- units

abbrev one_of : Bool → Read → Read → Read
one_of b x y = cond b x y

pub unless_fails : (n : ℕ) (ds : List Found) (c : Context) (t : Guard) (ts : List Todo) (xs : List Node) (s : State) → asked n ds (guard t c) s ≡ true → go_on n ds (tasks.unit c (units.Unless t) ∷ ts) xs s ≡ None
unless_fails n ds c t ts xs s h = ap (λ (b : Bool). one_of b (None) (Some (xs, s)) >>= λ y. go_on n ds ts y.0 y.1) h

pub unless_goes : (n : ℕ) (ds : List Found) (c : Context) (t : Guard) (ts : List Todo) (xs : List Node) (s : State) → asked n ds (guard t c) s ≡ false → go_on n ds (tasks.unit c (units.Unless t) ∷ ts) xs s ≡ go_on n ds ts xs s
unless_goes n ds c t ts xs s h = ap (λ (b : Bool). one_of b (None) (Some (xs, s)) >>= λ y. go_on n ds ts y.0 y.1) h

pub when_goes : (n : ℕ) (ds : List Found) (c : Context) (t : Guard) (ts : List Todo) (xs : List Node) (s : State) → asked n ds (guard t c) s ≡ true → go_on n ds (tasks.unit c (units.When t) ∷ ts) xs s ≡ go_on n ds ts xs s
when_goes n ds c t ts xs s h = ap (λ (b : Bool). one_of b (Some (xs, s)) (None) >>= λ y. go_on n ds ts y.0 y.1) h

pub when_fails : (n : ℕ) (ds : List Found) (c : Context) (t : Guard) (ts : List Todo) (xs : List Node) (s : State) → asked n ds (guard t c) s ≡ false → go_on n ds (tasks.unit c (units.When t) ∷ ts) xs s ≡ None
when_fails n ds c t ts xs s h = ap (λ (b : Bool). one_of b (Some (xs, s)) (None) >>= λ y. go_on n ds ts y.0 y.1) h

pub step_read : (n : ℕ) (ds : List Found) (k : moves.Step) (ts : List Todo) (xs ks : List Node) (s m : State) → stepped (run_step (known n ds) k s) ≡ Some (ks, m) →
    (goes n ds (step k) xs s >>= λ y. go_on n ds ts y.0 y.1) ≡ go_on n ds ts (xs ++ ks) m
step_read n ds k ts xs ks s m e = ap (λ (o : Read). o >>= λ y. go_on n ds ts y.0 y.1) (go_behind n ds (step k) xs s ∙ ap (behind xs) e)

pub step_fails : (b : Bool) (n : ℕ) (ds : List Found) (k : moves.Step) (ts : List Todo) (xs : List Node) (s : State) → FailsAs b (stepped (run_step (known n ds) k s)) →
    FailsAs b (goes n ds (step k) xs s >>= λ y. go_on n ds ts y.0 y.1)
step_fails true n ds k ts xs s e = tt
step_fails false n ds k ts xs s e = ap (λ (o : Read). o >>= λ y. go_on n ds ts y.0 y.1) (go_behind n ds (step k) xs s ∙ ap (behind xs) e)

-- ---- rules

-- a rule by itself
pub rule_alone : (n : ℕ) (ds : List Found) (r : Rule) (s : State) → vals (bash n ds) (rule r) s ≡ (behind [] (vals (bash n ds) (rule r) s) >>= λ y. Some (y.0, y.1))
rule_alone n ds r s = alone (vals (bash n ds) (rule r) s)
  where
    alone : (o : Read) → o ≡ (behind [] o >>= λ y. Some (y.0, y.1))
    alone None = refl
    alone (Some y) = refl

pub rule_begins : (n : ℕ) (ds : List Found) (r : Rule) (c : Context) (is : List Item) (ts : List Todo) (xs : List Node) (s : State) → items_gram c is ≡ body r →
    (behind xs (vals (bash n ds) (rule r) s) >>= λ y. go_on n ds ts y.0 y.1) ≡ go_on n ds (tasks.items c is ∷ tasks.make r xs ∷ ts) [] s
rule_begins n ds r c is ts xs s e =
    ap (λ (o : Read). behind xs o >>= λ y. go_on n ds ts y.0 y.1) (rule_is n ds r s ∙ ap (λ (g : Gram). done (act r) (goes n ds g [] s)) (sym e))
    ∙ made (goes n ds (items_gram c is) [] s)
  where
    made : (o : Read) → (behind xs (done (act r) o) >>= λ y. go_on n ds ts y.0 y.1) ≡ (o >>= λ y. go_on n ds ts (xs ++ act r y.0) y.1)
    made None = refl
    made (Some y) = refl

-- ---- a rule that gives back the values below it

done_same : (r : Rule) (o : Read) → ((ys : List Node) → act r ys ≡ ys) → done (act r) o ≡ o
done_same r None e = refl
done_same r (Some y) e = ap (λ (z : List Node). Some (z, y.1)) (e y.0)

put_behind : (n : ℕ) (ds : List Found) (g : Gram) (xs : List Node) (s : State) → behind xs (goes n ds g [] s) ≡ goes n ds g xs s
put_behind n ds g xs s =
    ap (behind xs) (go_behind n ds g [] s ∙ behind_nil (eval (run_step (known n ds)) (holds (known n ds).scan) (vals (bash n ds)) g s))
    ∙ sym (go_behind n ds g xs s)

pub rule_led : (n : ℕ) (ds : List Found) (r : Rule) (c : Context) (is : List Item) (ts : List Todo) (xs : List Node) (s : State) → ((ys : List Node) → act r ys ≡ ys) → items_gram c is ≡ body r →
    (behind xs (vals (bash n ds) (rule r) s) >>= λ y. go_on n ds ts y.0 y.1) ≡ go_on n ds (tasks.items c is ∷ ts) xs s
rule_led n ds r c is ts xs s l e =
    ap (λ (o : Read). o >>= λ y. go_on n ds ts y.0 y.1)
    (ap (behind xs) (rule_is n ds r s ∙ done_same r (goes n ds (body r) [] s) l)
    ∙ put_behind n ds (body r) xs s
    ∙ ap (λ (g : Gram). goes n ds g xs s) (sym e))
