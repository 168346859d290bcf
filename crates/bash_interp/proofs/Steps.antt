-- Lists of assignments, pipelines and commands are run one by one.
use Rattle.std.proofs.Common.{◌≡◌, ℕ, zero, suc, ◌+◌, ◌<◌, ◌≤◌, length, get_or, drop, List, [], ◌∷◌, Option, Some, None, Bool, true, false, not, refl, sym, ap, ◌∙◌, arith, add-one}
use Rattle.shell_world.specs.declared.world.World.{World}
use Rattle.span_text.specs.declared.span.Span.{Span}
use Rattle.shell_world.specs.Texts.{Text}
use Rattle.shell_world.specs.Outside.{Trace}
use Rattle.shell_world.specs.Runs.{Signal, Normal, Value, St, Ends, Unspecified, Do, after, choose, if_normal, with_value, with_own, now}
use Rattle.bash_tree.specs.declared.tree.Assign.{Assign}
use Rattle.bash_tree.specs.declared.tree.Pipeline.{Pipeline}
use Rattle.bash_tree.specs.declared.tree.Item.{Item}
use Rattle.bash_tree.specs.declared.tree.Word.{Word}
use Rattle.bash_tree.specs.declared.tree.Command.{Command}
use Rattle.bash_tree.specs.declared.tree.Joint.{Joint}
use Rattle.bash_tree.specs.declared.tree.Joint.TheVariants.{And, Or}
use Rattle.bash_tree.specs.Shape as shape
use Rattle.bash_tree.specs.View.{view_value, assigns_of, words_of, stages_of, view_pipeline, links_of, view_chain, item_of, items_of}
use Rattle.bash_meaning.specs.Meaning.{Own, is_zero, value_text, assigned, with_status, assignments, simple_run, stages_run, pipeline_run, links_run, script_run}
use Rattle.bash_interp.specs.Shells.{calls, link_run, item_run}

-- ---- assignments

assignments_next : (a : Assign) (more : List Assign) (n : ℕ) (s : St Own) (t : Text) → value_text (view_value a.value) n s ≡ Ends (Value t) s n
    → assignments (assigns_of (a ∷ more)) n s ≡ assignments (assigns_of more) n (with_own s (assigned a.append a.name.text t s.own))
assignments_next a more n s t e = ap (λ o. after o (with_value (λ t n s. after (now (assigned a.append a.name.text t) n s) (if_normal (assignments (assigns_of more)))))) e

assignments_stop : (a : Assign) (more : List Assign) (n : ℕ) (s : St Own) (w : Trace) (m : ℕ) → value_text (view_value a.value) n s ≡ Unspecified w m
    → assignments (assigns_of (a ∷ more)) n s ≡ Unspecified w m
assignments_stop a more n s w m e = ap (λ o. after o (with_value (λ t n s. after (now (assigned a.append a.name.text t) n s) (if_normal (assignments (assigns_of more)))))) e

pub assign_goes : (as' : List Assign) (i : ℕ) (d : Assign) (n : ℕ) (s : St Own) (t : Text) → i < length as' → value_text (view_value (get_or as' i d).value) n s ≡ Ends (Value t) s n
    → assignments (assigns_of (drop i as')) n s ≡ assignments (assigns_of (drop (i + 1) as')) n (with_own s (assigned (get_or as' i d).append (get_or as' i d).name.text t s.own))
assign_goes [] i d n s t lt e = absurd (omega arith)
assign_goes (a ∷ as') zero d n s t lt e = assignments_next a as' n s t e
assign_goes (a ∷ as') (suc i) d n s t lt e =
    let s' = with_own s (assigned (get_or as' i d).append (get_or as' i d).name.text t s.own) in
    assign_goes as' i d n s t (omega arith) e ∙ ap (λ k. assignments (assigns_of (drop k as')) n s') (add-one i) ∙ ap (λ k. assignments (assigns_of (drop k (a ∷ as'))) n s') (sym (add-one (suc i)))

pub assign_stops : (as' : List Assign) (i : ℕ) (d : Assign) (n : ℕ) (s : St Own) (w : Trace) (m : ℕ) → i < length as' → value_text (view_value (get_or as' i d).value) n s ≡ Unspecified w m
    → assignments (assigns_of (drop i as')) n s ≡ Unspecified w m
assign_stops [] i d n s w m lt e = absurd (omega arith)
assign_stops (a ∷ as') zero d n s w m lt e = assignments_stop a as' n s w m e
assign_stops (a ∷ as') (suc i) d n s w m lt e = assign_stops as' i d n s w m (omega arith) e

pub assigns_done : (as' : List Assign) (i : ℕ) (n : ℕ) (s : St Own) → length as' ≤ i → assignments (assigns_of (drop i as')) n s ≡ Ends Normal (with_own s (with_status 0 s.own)) n
assigns_done [] zero n s h = refl
assigns_done [] (suc i) n s h = refl
assigns_done (a ∷ as') zero n s h = absurd (omega arith)
assigns_done (a ∷ as') (suc i) n s h = assigns_done as' i n s (omega arith)

module _ (world : World) where
  -- ---- pipelines behind others

  abbrev pub rest_links : List (Joint × Pipeline) → ℕ → Do Signal Own
  rest_links ls i n s = links_run world (calls world) (links_of (drop i ls)) n s

  link_is : (b : Bool) (p : shape.Pipeline) (ls : shape.Links) (n : ℕ) (s : St Own)
      → choose b (λ n s. after (pipeline_run world (calls world) p n s) (if_normal (links_run world (calls world) ls))) (links_run world (calls world) ls) n s
      ≡ after (choose b (pipeline_run world (calls world) p) (λ n s. Ends Normal s n) n s) (if_normal (links_run world (calls world) ls))
  link_is true p ls n s = refl
  link_is false p ls n s = refl

  or_is : (k : ℕ) (p : shape.Pipeline) (ls : shape.Links) (n : ℕ) (s : St Own)
      → choose (is_zero k) (links_run world (calls world) ls) (λ n s. after (pipeline_run world (calls world) p n s) (if_normal (links_run world (calls world) ls))) n s
      ≡ after (choose (not (is_zero k)) (pipeline_run world (calls world) p) (λ n s. Ends Normal s n) n s) (if_normal (links_run world (calls world) ls))
  or_is zero p ls n s = refl
  or_is (suc k) p ls n s = refl

  links_by : (j : Joint) (p : Pipeline) (ls : List (Joint × Pipeline)) (n : ℕ) (s : St Own)
      → links_run world (calls world) (links_of ((j, p) ∷ ls)) n s ≡ after (link_run world j (view_pipeline p) n s) (if_normal (links_run world (calls world) (links_of ls)))
  links_by And p ls n s = link_is (is_zero s.own.status) (view_pipeline p) (links_of ls) n s
  links_by Or p ls n s = or_is s.own.status (view_pipeline p) (links_of ls) n s

  pub link_goes : (ls : List (Joint × Pipeline)) (i : ℕ) (d : Joint × Pipeline) (n : ℕ) (s : St Own) (n' : ℕ) (s' : St Own) → i < length ls
      → link_run world (get_or ls i d).0 (view_pipeline (get_or ls i d).1) n s ≡ Ends Normal s' n' → rest_links ls i n s ≡ rest_links ls (i + 1) n' s'
  link_goes [] i d n s n' s' lt e = absurd (omega arith)
  link_goes (l ∷ ls) zero d n s n' s' lt e = links_by l.0 l.1 ls n s ∙ ap (λ o. after o (if_normal (links_run world (calls world) (links_of ls)))) e
  link_goes (l ∷ ls) (suc i) d n s n' s' lt e =
      link_goes ls i d n s n' s' (omega arith) e ∙ ap (λ k. rest_links ls k n' s') (add-one i) ∙ ap (λ k. rest_links (l ∷ ls) k n' s') (sym (add-one (suc i)))

  pub link_stops : (ls : List (Joint × Pipeline)) (i : ℕ) (d : Joint × Pipeline) (n : ℕ) (s : St Own) (w : Trace) (m : ℕ) → i < length ls
      → link_run world (get_or ls i d).0 (view_pipeline (get_or ls i d).1) n s ≡ Unspecified w m → rest_links ls i n s ≡ Unspecified w m
  link_stops [] i d n s w m lt e = absurd (omega arith)
  link_stops (l ∷ ls) zero d n s w m lt e = links_by l.0 l.1 ls n s ∙ ap (λ o. after o (if_normal (links_run world (calls world) (links_of ls)))) e
  link_stops (l ∷ ls) (suc i) d n s w m lt e = link_stops ls i d n s w m (omega arith) e

  pub links_done : (ls : List (Joint × Pipeline)) (i : ℕ) (n : ℕ) (s : St Own) → length ls ≤ i → rest_links ls i n s ≡ Ends Normal s n
  links_done [] zero n s h = refl
  links_done [] (suc i) n s h = refl
  links_done (l ∷ ls) zero n s h = absurd (omega arith)
  links_done (l ∷ ls) (suc i) n s h = links_done ls i n s (omega arith)

  -- ---- commands, one behind the other

  abbrev pub rest_items : List Item → ℕ → Do Signal Own
  rest_items is i n s = script_run world (calls world) (items_of (drop i is)) n s

  items_by : (at : Option Span) (c : shape.Chain) (more : shape.Script) (n : ℕ) (s : St Own)
      → script_run world (calls world) (item_of at c more) n s ≡ after (item_run world at c n s) (if_normal (script_run world (calls world) more))
  items_by None c more n s = refl
  items_by (Some at) c more n s = refl

  pub item_goes : (is : List Item) (i : ℕ) (d : Item) (n : ℕ) (s : St Own) (n' : ℕ) (s' : St Own) → i < length is
      → item_run world (get_or is i d).background (view_chain (get_or is i d).chain) n s ≡ Ends Normal s' n' → rest_items is i n s ≡ rest_items is (i + 1) n' s'
  item_goes [] i d n s n' s' lt e = absurd (omega arith)
  item_goes (x ∷ xs) zero d n s n' s' lt e = items_by x.background (view_chain x.chain) (items_of xs) n s ∙ ap (λ o. after o (if_normal (script_run world (calls world) (items_of xs)))) e
  item_goes (x ∷ xs) (suc i) d n s n' s' lt e =
      item_goes xs i d n s n' s' (omega arith) e ∙ ap (λ k. rest_items xs k n' s') (add-one i) ∙ ap (λ k. rest_items (x ∷ xs) k n' s') (sym (add-one (suc i)))

  pub item_stops : (is : List Item) (i : ℕ) (d : Item) (n : ℕ) (s : St Own) (w : Trace) (m : ℕ) → i < length is
      → item_run world (get_or is i d).background (view_chain (get_or is i d).chain) n s ≡ Unspecified w m → rest_items is i n s ≡ Unspecified w m
  item_stops [] i d n s w m lt e = absurd (omega arith)
  item_stops (x ∷ xs) zero d n s w m lt e = items_by x.background (view_chain x.chain) (items_of xs) n s ∙ ap (λ o. after o (if_normal (script_run world (calls world) (items_of xs)))) e
  item_stops (x ∷ xs) (suc i) d n s w m lt e = item_stops xs i d n s w m (omega arith) e

  pub items_done : (is : List Item) (i : ℕ) (n : ℕ) (s : St Own) → length is ≤ i → rest_items is i n s ≡ Ends Normal s n
  items_done [] zero n s h = refl
  items_done [] (suc i) n s h = refl
  items_done (x ∷ xs) zero n s h = absurd (omega arith)
  items_done (x ∷ xs) (suc i) n s h = items_done xs i n s (omega arith)

-- ---- forms without a meaning

-- assignments before a command
pub mixed_stops : (world : World) (as' : List Assign) (ws : List Word) (n : ℕ) (s : St Own) → 1 ≤ length as' → 1 ≤ length ws
    → simple_run world (assigns_of as') (words_of ws) n s ≡ Unspecified s.trace n
mixed_stops world [] ws n s a b = absurd (omega arith)
mixed_stops world (x ∷ xs) [] n s a b = absurd (omega arith)
mixed_stops world (x ∷ xs) (w ∷ ws) n s a b = refl

-- two stages or more
pub stages_stop : (world : World) (cs : List Command) (n : ℕ) (s : St Own) → 2 ≤ length cs → stages_run world (calls world) (stages_of cs) n s ≡ Unspecified s.trace n
stages_stop world [] n s h = absurd (omega arith)
stages_stop world (c ∷ []) n s h = absurd (omega arith)
stages_stop world (c ∷ d ∷ ds) n s h = refl
