-- Each rule as code reads it, and what its values say of derivations.
use Rattle.std.proofs.Common.{◌≡◌, ℕ, ◌+◌, ◌*◌, ◌<◌, ◌≤◌, Bool, true, false, cond, List, [], ◌++◌, Option, Some, None, refl, sym, ap, subst, ◌∙◌, arith}
use Rattle.std.proofs.lemmas.List.{append-nil, append_assoc}
use Rattle.text_grammar.specs.Grammar.{Leaf, quiet, said, Grammar, pass, fail, step, seq, choose, star, rule}
use Rattle.text_grammar.specs.Ranks.{takes, shallow, small}
use Rattle.text_grammar.specs.Language.{Language, Ends, IsShallow, one_if}
use Rattle.text_grammar.specs.Derivations.{Tree, At}
use Rattle.text_grammar.specs.Reading.{parse, read, ◌>>=◌}
use Rattle.text_grammar.specs.Values.{kids, seen, vals, ◌&◌, stepped, with_leaf, leaf_kids, behind, go, done}
use Rattle.text_grammar.proofs.Tools.{some_is}
use Rattle.text_grammar.proofs.Sound.{sound_in}
use Rattle.text_grammar.proofs.Bound.{complete, sound, shorter}
use Rattle.text_grammar.proofs.Levels.{eval_at, rule_is, eval_is, level}

-- behind nothing
pub behind_nil : {S V : Type 0} (o : Option (List V × S)) → behind [] o ≡ o
behind_nil None = refl
behind_nil (Some y) = refl

pub behind_more : {S V : Type 0} (xs ys : List V) (o : Option (List V × S)) → behind (xs ++ ys) o ≡ behind xs (behind ys o)
behind_more xs ys None = refl
behind_more {S} {V} xs ys (Some y) = ap (λ (z : List V). Some (z, y.1)) (append_assoc xs ys y.0)

leaf_same : {V : Type 0} (xs : List V) (x : Leaf V) → with_leaf xs x ≡ xs ++ leaf_kids x
leaf_same xs quiet = sym (append-nil xs)
leaf_same xs (said t) = refl

step_same : {S V : Type 0} (xs : List V) (o : Option (Leaf V × S)) → (o >>= λ y. Some (with_leaf xs y.0, y.1)) ≡ behind xs (stepped o)
step_same xs None = refl
step_same {V = V} xs (Some y) = ap (λ (z : List V). Some (z, y.1)) (leaf_same xs y.0)

seq_same : {S V : Type 0} (xs : List V) (o : Option (List V × S)) (f : S → Option (List V × S)) → (behind xs o >>= λ y. behind y.0 (f y.1)) ≡ behind xs (o & f)
seq_same xs None f = refl
seq_same xs (Some y) f = behind_more xs y.0 (f y.1)

bind_same : {S V : Type 0} (o : Option (List V × S)) (f h : List V → S → Option (List V × S)) → ((k : List V) (m : S) → f k m ≡ h k m) → (o >>= λ y. f y.0 y.1) ≡ (o >>= λ y. h y.0 y.1)
bind_same None f h e = refl
bind_same (Some y) f h e = e y.0 y.1

cond_same : {S V : Type 0} (xs : List V) (b : Bool) (o p : Option (List V × S)) → cond b (behind xs o) (behind xs p) ≡ behind xs (cond b o p)
cond_same xs true o p = refl
cond_same xs false o p = refl

-- one level by this language, behind what was read before
abbrev pub go_at : {S P T R V : Type 0} → Language S P T R V → Grammar P T R → List V → S → Option (List V × S)
go_at l g xs s = go l.run_step l.holds (vals l) g xs s

pub go_is : {S P T R V : Type 0} (l : Language S P T R V) (g : Grammar P T R) (xs : List V) (s : S) → go_at l g xs s ≡ behind xs (eval_at l g s)
go_is {S} {V = V} l pass xs s = ap (λ (z : List V). Some (z, s)) (sym (append-nil xs))
go_is l fail xs s = refl
go_is l (step k) xs s = step_same xs (l.run_step k s)
go_is {S} {V = V} l (seq g h) xs s =
    ap (λ (o : Option (List V × S)). o >>= λ y. go_at l h y.0 y.1) (go_is l g xs s)
    ∙ bind_same (behind xs (eval_at l g s)) (go_at l h) (λ k m. behind k (eval_at l h m)) (λ k m. go_is l h k m)
    ∙ seq_same xs (eval_at l g s) (eval_at l h)
go_is {S} {V = V} l (choose p g h) xs s =
    ap (λ (o : Option (List V × S)). cond (l.holds p s) o (go_at l h xs s)) (go_is l g xs s)
    ∙ ap (λ (o : Option (List V × S)). cond (l.holds p s) (behind xs (eval_at l g s)) o) (go_is l h xs s)
    ∙ cond_same xs (l.holds p s) (eval_at l g s) (eval_at l h s)
go_is l (star p g) xs s = refl
go_is l (rule r) xs s = refl

-- A rule, one level at a time: the contract of a function that reads it.
pub rule_go : {S P T R V : Type 0} (l : Language S P T R V) → Ends l → (r : R) (s : S) → vals l (rule r) s ≡ done (l.act r) (go l.run_step l.holds (vals l) (l.body r) [] s)
rule_go l ok r s = rule_is l ok r s ∙ ap (done (l.act r)) (sym (go_is l (l.body r) [] s ∙ behind_nil (eval_at l (l.body r) s)))

-- The same of a grammar that is no rule.
pub grammar_go : {S P T R V : Type 0} (l : Language S P T R V) → Ends l → (g : Grammar P T R) (s : S) → IsShallow l g → small l.ranks g ≡ true → vals l g s ≡ go l.run_step l.holds (vals l) g [] s
grammar_go l ok g s f sm = eval_is l ok g s f sm ∙ sym (go_is l g [] s ∙ behind_nil (eval_at l g s))

-- ---- values and derivations

seen_some : {S P T R V : Type 0} (l : Language S P T R V) (o : Option (Tree R V × S)) (y : List V × S) → seen l o ≡ Some y → (t : Tree R V) × (o ≡ Some (t, y.1)) × (kids l t ≡ y.0)
seen_some l None y e = absurd cc
seen_some {S} {V = V} l (Some x) y e =
    let k : (kids l x.0, x.1) ≡ y = some_is (kids l x.0, x.1) y e in
    (x.0, ap (λ (z : List V × S). Some (x.0, z.1)) k, ap (λ (z : List V × S). z.0) k)

-- what is read is what a derivation says
pub vals_sound : {S P T R V : Type 0} (l : Language S P T R V) (g : Grammar P T R) (s : S) (y : List V × S) → vals l g s ≡ Some y → (t : Tree R V) × At l t g s y.1 × (kids l t ≡ y.0)
unfolding vals
vals_sound l g s y e = let a = seen_some l (read l g s) y e in (a.0, sound l g s (a.0, y.1) a.1, a.2)

-- and each derivation's is read
pub vals_complete : {S P T R V : Type 0} (l : Language S P T R V) → Ends l → (t : Tree R V) (g : Grammar P T R) (s e : S) → IsShallow l g → At l t g s e → vals l g s ≡ Some (kids l t, e)
unfolding vals
vals_complete l ok t g s e f h = ap (seen l) (complete l ok t g s e f h)

pub vals_none : {S P T R V : Type 0} (l : Language S P T R V) → Ends l → (g : Grammar P T R) (s : S) → IsShallow l g → vals l g s ≡ None → (t : Tree R V) (e : S) → At l t g s e → ⊥
vals_none l ok g s f n t e h = let c = vals_complete l ok t g s e f h in absurd cc

-- ---- what is left

pub vals_shorter : {S P T R V : Type 0} (l : Language S P T R V) → Ends l → (g : Grammar P T R) (s : S) (y : List V × S) → vals l g s ≡ Some y → l.size y.1 + one_if (takes l.ranks g) ≤ l.size s
vals_shorter l ok g s y e = let a = vals_sound l g s y e in shorter l ok a.0 g s y.1 a.1

-- the same of a rule, as `grind` takes it
pub rule_less : {S P T R V : Type 0} (l : Language S P T R V) → Ends l → (r : R) → l.ranks.rule_takes r ≡ true → (s m : S) (k : List V) → vals l (rule r) s ≡ Some (k, m) → l.size m < l.size s
rule_less l ok r tk s m k e =
    let i : l.size m + 1 ≤ l.size s = subst (λ (z : Bool). l.size m + one_if z ≤ l.size s) tk (vals_shorter l ok (rule r) s (k, m) e) in omega arith

pub rule_fits : {S P T R V : Type 0} (l : Language S P T R V) → Ends l → (r : R) (s m : S) (k : List V) → vals l (rule r) s ≡ Some (k, m) → l.size m ≤ l.size s
rule_fits l ok r s m k e = let i = vals_shorter l ok (rule r) s (k, m) e in omega arith

pub eval_shorter : {S P T R V : Type 0} (l : Language S P T R V) → Ends l → (g : Grammar P T R) (k : ℕ) (s : S) (y : List V × S) → shallow l.ranks g k ≡ true → small l.ranks g ≡ true → eval_at l g s ≡ Some y → l.size y.1 + one_if (takes l.ranks g) ≤ l.size s
eval_shorter l ok g k s y f sm e =
    let n = k + l.ranks.weight * l.size s in
    let a = seen_some l (parse l n g s) y (level l ok g k n s f (omega arith) sm ∙ e) in
    shorter l ok a.0 g s y.1 (sound_in l n g s (a.0, y.1) a.1)
