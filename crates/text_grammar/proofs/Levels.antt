-- Reading, one level of the grammar at a time.
use Rattle.std.proofs.Common.{◌≡◌, ℕ, zero, suc, ◌+◌, ◌*◌, ◌≤◌, Bool, true, false, cond, List, [], Option, Some, None, refl, sym, ap, subst, ◌∙◌, arith}
use Rattle.std.proofs.lemmas.Bool.{leb-true}
use Rattle.text_grammar.specs.Grammar.{Leaf, Grammar, pass, fail, step, seq, choose, star, rule}
use Rattle.text_grammar.specs.Ranks.{takes, shallow, small, bonus}
use Rattle.text_grammar.specs.Language.{Language, Ends, IsShallow}
use Rattle.text_grammar.specs.Derivations.{Tree, empty, leaf, both, first, second, more, node, At}
use Rattle.text_grammar.specs.Reading.{parse, read, ◌>>=◌}
use Rattle.text_grammar.specs.Values.{kids, seen, vals, ◌&◌, stepped, eval, behind, done}
use Rattle.text_grammar.proofs.Tools.{both_true}
use Rattle.text_grammar.proofs.Sound.{complete_in, sound_in}
use Rattle.text_grammar.proofs.Bound.{low, lower, no_zero, rule_is_shallow}

-- more levels than are needed change nothing
enough_at : {S P T R V : Type 0} (l : Language S P T R V) → Ends l → (g : Grammar P T R) (k j n m : ℕ) (s : S) (o p : Option (Tree R V × S)) →
    shallow l.ranks g k ≡ true → shallow l.ranks g j ≡ true → k + l.ranks.weight * l.size s ≤ n → j + l.ranks.weight * l.size s ≤ m → parse l n g s ≡ o → parse l m g s ≡ p → o ≡ p
enough_at l ok g k j n m s None None e e2 le le2 a b = refl
enough_at l ok g k j n m s (Some x) p e e2 le le2 a b =
    let h = sound_in l n g s x a in
    sym (complete_in l x.0 g m s x.1 h (low l ok x.0 g j m s x.1 h e2 (omega arith))) ∙ b
enough_at l ok g k j n m s None (Some x) e e2 le le2 a b =
    let h = sound_in l m g s x b in
    sym a ∙ complete_in l x.0 g n s x.1 h (low l ok x.0 g k n s x.1 h e (omega arith))

-- one level by this language
abbrev pub eval_at : {S P T R V : Type 0} → Language S P T R V → Grammar P T R → S → Option (List V × S)
eval_at l g s = eval l.run_step l.holds (vals l) g s

-- with so many levels
abbrev vals_in : {S P T R V : Type 0} → Language S P T R V → ℕ → Grammar P T R → S → Option (List V × S)
vals_in l n g s = seen l (parse l n g s)

both_seen : {S P T R V : Type 0} (l : Language S P T R V) (t : Tree R V) (o : Option (Tree R V × S)) → seen l (o >>= λ y. Some (both t y.0, y.1)) ≡ behind (kids l t) (seen l o)
both_seen l t None = refl
both_seen l t (Some y) = refl

more_seen : {S P T R V : Type 0} (l : Language S P T R V) (t : Tree R V) (o : Option (Tree R V × S)) → seen l (o >>= λ y. Some (more t y.0, y.1)) ≡ behind (kids l t) (seen l o)
more_seen l t None = refl
more_seen l t (Some y) = refl

node_seen : {S P T R V : Type 0} (l : Language S P T R V) (r : R) (o : Option (Tree R V × S)) → seen l (o >>= λ y. Some (node r y.0, y.1)) ≡ done (l.act r) (seen l o)
node_seen l r None = refl
node_seen l r (Some y) = refl

leaf_seen : {S P T R V : Type 0} (l : Language S P T R V) (o : Option (Leaf V × S)) → seen l (o >>= λ y. Some (leaf y.0, y.1)) ≡ stepped o
leaf_seen l None = refl
leaf_seen l (Some y) = refl

seq_seen : {S P T R V : Type 0} (l : Language S P T R V) (n : ℕ) (h : Grammar P T R) (o : Option (Tree R V × S)) →
    seen l (o >>= λ x. parse l n h x.1 >>= λ y. Some (both x.0 y.0, y.1)) ≡ (seen l o & vals_in l n h)
seq_seen l n h None = refl
seq_seen l n h (Some x) = both_seen l x.0 (parse l n h x.1)

star_seen : {S P T R V : Type 0} (l : Language S P T R V) (n : ℕ) (p : T) (g : Grammar P T R) (s : S) (b : Bool) (o : Option (Tree R V × S)) →
    seen l (cond b (o >>= λ x. parse l n (star p g) x.1 >>= λ y. Some (more x.0 y.0, y.1)) (Some (empty, s))) ≡ cond b (seen l o & vals_in l n (star p g)) (Some ([], s))
star_seen l n p g s true None = refl
star_seen l n p g s true (Some x) = more_seen l x.0 (parse l n (star p g) x.1)
star_seen l n p g s false o = refl

first_seen : {S P T R V : Type 0} (l : Language S P T R V) (o : Option (Tree R V × S)) → seen l (o >>= λ y. Some (first y.0, y.1)) ≡ seen l o
first_seen l None = refl
first_seen l (Some y) = refl

second_seen : {S P T R V : Type 0} (l : Language S P T R V) (o : Option (Tree R V × S)) → seen l (o >>= λ y. Some (second y.0, y.1)) ≡ seen l o
second_seen l None = refl
second_seen l (Some y) = refl

choose_seen : {S P T R V : Type 0} (l : Language S P T R V) (b : Bool) (o p : Option (Tree R V × S)) → seen l (cond b (o >>= λ y. Some (first y.0, y.1)) (p >>= λ y. Some (second y.0, y.1))) ≡ cond b (seen l o) (seen l p)
choose_seen l true o p = first_seen l o
choose_seen l false o p = second_seen l p

seq_in : {S P T R V : Type 0} (l : Language S P T R V) (n : ℕ) (g h : Grammar P T R) (s : S) → vals_in l (suc n) (seq g h) s ≡ (vals_in l n g s & vals_in l n h)
unfolding parse
seq_in l n g h s = seq_seen l n h (parse l n g s)

star_in : {S P T R V : Type 0} (l : Language S P T R V) (n : ℕ) (p : T) (g : Grammar P T R) (s : S) → vals_in l (suc n) (star p g) s ≡ cond (l.holds p s) (vals_in l n g s & vals_in l n (star p g)) (Some ([], s))
unfolding parse
star_in l n p g s = star_seen l n p g s (l.holds p s) (parse l n g s)

choose_in : {S P T R V : Type 0} (l : Language S P T R V) (n : ℕ) (p : T) (g h : Grammar P T R) (s : S) → vals_in l (suc n) (choose p g h) s ≡ cond (l.holds p s) (vals_in l n g s) (vals_in l n h s)
unfolding parse
choose_in l n p g h s = choose_seen l (l.holds p s) (parse l n g s) (parse l n h s)

step_in : {S P T R V : Type 0} (l : Language S P T R V) (n : ℕ) (k : P) (s : S) → vals_in l (suc n) (step k) s ≡ stepped (l.run_step k s)
unfolding parse
step_in l n k s = leaf_seen l (l.run_step k s)

rule_in : {S P T R V : Type 0} (l : Language S P T R V) (n : ℕ) (r : R) (s : S) → vals_in l (suc n) (rule r) s ≡ done (l.act r) (vals_in l n (l.body r) s)
unfolding parse
rule_in l n r s = node_seen l r (parse l n (l.body r) s)

-- the values are the same in n levels, if that is enough
meets : {S P T R V : Type 0} (l : Language S P T R V) → Ends l → (g : Grammar P T R) (k n : ℕ) (s : S) → shallow l.ranks g k ≡ true → IsShallow l g → k + l.ranks.weight * l.size s ≤ n → vals_in l n g s ≡ vals l g s
unfolding vals read
meets l ok g k n s e f le =
    let m = l.ranks.levels + l.ranks.weight * l.size s in
    ap (seen l) (enough_at l ok g k l.ranks.levels n m s (parse l n g s) (parse l m g s) e f le (omega arith) refl refl)

-- what follows a read, where that may depend on what was read
follows : {S P T R V : Type 0} (l : Language S P T R V) (g : Grammar P T R) (n : ℕ) (s : S) (o : Option (Tree R V × S)) (f h : S → Option (List V × S)) →
    parse l n g s ≡ o → ((t : Tree R V) (m : S) → At l t g s m → f m ≡ h m) → (seen l o & f) ≡ (seen l o & h)
follows l g n s None f h e same = refl
follows l g n s (Some x) f h e same = ap (behind (kids l x.0)) (same x.0 x.1 (sound_in l n g s x e))

pub level : {S P T R V : Type 0} (l : Language S P T R V) → Ends l → (g : Grammar P T R) (k n : ℕ) (s : S) → shallow l.ranks g k ≡ true → k + l.ranks.weight * l.size s ≤ n → small l.ranks g ≡ true → vals_in l n g s ≡ eval_at l g s
unfolding parse
level l ok g zero n s e le sm = absurd (no_zero l.ranks g e)
level l ok g (suc k) zero s e le sm = absurd (omega arith)
level l ok pass (suc k) (suc n) s e le sm = refl
level l ok fail (suc k) (suc n) s e le sm = refl
level l ok (step q) (suc k) (suc n) s e le sm = step_in l n q s
level {S} {V = V} l ok (seq g h) (suc k) (suc n) s e le sm =
    let b = both_true (shallow l.ranks g k) (shallow l.ranks h (k + bonus l.ranks.weight (takes l.ranks g))) e in
    let c = both_true (small l.ranks g) (small l.ranks h) sm in
    seq_in l n g h s
    ∙ follows l g n s (parse l n g s) (vals_in l n h) (eval_at l h) refl
    (λ t m a. let i = lower l ok t g s m a in level l ok h (k + bonus l.ranks.weight (takes l.ranks g)) n m b.1 (omega arith) c.1)
    ∙ ap (λ (o : Option (List V × S)). o & eval_at l h) (level l ok g k n s b.0 (omega arith) c.0)
level {S} {V = V} l ok (choose p g h) (suc k) (suc n) s e le sm =
    let b = both_true (shallow l.ranks g k) (shallow l.ranks h k) e in
    let c = both_true (small l.ranks g) (small l.ranks h) sm in
    let i = level l ok g k n s b.0 (omega arith) c.0 in
    let j = level l ok h k n s b.1 (omega arith) c.1 in
    choose_in l n p g h s ∙ ap (λ (o : Option (List V × S)). cond (l.holds p s) o (vals_in l n h s)) i ∙ ap (λ (o : Option (List V × S)). cond (l.holds p s) (eval_at l g s) o) j
level l ok (star p g) (suc k) (suc n) s e le sm = let c = both_true (shallow l.ranks (star p g) l.ranks.levels) (small l.ranks g) sm in meets l ok (star p g) (suc k) (suc n) s e c.0 le
level l ok (rule r) (suc k) (suc n) s e le sm = meets l ok (rule r) (suc k) (suc n) s e (rule_is_shallow l ok r) le

rule_level : {S P T R V : Type 0} (l : Language S P T R V) → Ends l → (r : R) (n : ℕ) (s : S) → suc (l.ranks.rank r) + l.ranks.weight * l.size s ≤ n → vals_in l n (rule r) s ≡ done (l.act r) (eval_at l (l.body r) s)
rule_level l ok r zero s le = absurd (omega arith)
rule_level l ok r (suc n) s le = rule_in l n r s ∙ ap (done (l.act r)) (level l ok (l.body r) (l.ranks.rank r) n s (ok.rule_shallow r) (omega arith) (ok.rule_small r))

-- a rule is its body, and its node
pub rule_is : {S P T R V : Type 0} (l : Language S P T R V) → Ends l → (r : R) (s : S) → vals l (rule r) s ≡ done (l.act r) (eval_at l (l.body r) s)
unfolding vals read
rule_is l ok r s =
    let k : suc (l.ranks.rank r) ≤ l.ranks.levels = leb-true _ _ (ok.rank_below r) in
    rule_level l ok r (l.ranks.levels + l.ranks.weight * l.size s) s (omega arith)

-- a small grammar is read one level at a time
pub eval_is : {S P T R V : Type 0} (l : Language S P T R V) → Ends l → (g : Grammar P T R) (s : S) → IsShallow l g → small l.ranks g ≡ true → vals l g s ≡ eval_at l g s
unfolding vals read
eval_is l ok g s f sm = level l ok g l.ranks.levels (l.ranks.levels + l.ranks.weight * l.size s) s f (omega arith) sm

turn_level : {S P T R V : Type 0} (l : Language S P T R V) → Ends l → (p : T) (g : Grammar P T R) (k n : ℕ) (s : S) → shallow l.ranks (star p g) k ≡ true → k + l.ranks.weight * l.size s ≤ n → small l.ranks (star p g) ≡ true →
    vals_in l n (star p g) s ≡ cond (l.holds p s) (eval_at l g s & vals l (star p g)) (Some ([], s))
turn_level l ok p g zero n s e le sm = absurd (no_zero l.ranks (star p g) e)
turn_level l ok p g (suc k) zero s e le sm = absurd (omega arith)
turn_level {S} {V = V} l ok p g (suc k) (suc n) s e le sm =
    let b = both_true (shallow l.ranks g k) (takes l.ranks g) e in
    let c = both_true (shallow l.ranks (star p g) l.ranks.levels) (small l.ranks g) sm in
    let w : 1 ≤ l.ranks.weight = leb-true _ _ ok.weighs in
    let i = follows l g n s (parse l n g s) (vals_in l n (star p g)) (vals l (star p g)) refl
    (λ t m a. let j : l.ranks.weight * l.size m + l.ranks.weight ≤ l.ranks.weight * l.size s = subst (λ (z : Bool). l.ranks.weight * l.size m + bonus l.ranks.weight z ≤ l.ranks.weight * l.size s) b.1 (lower l ok t g s m a) in
    meets l ok (star p g) (suc k) n m e c.0 (omega arith)) in
    let j = ap (λ (o : Option (List V × S)). o & vals l (star p g)) (level l ok g k n s b.0 (omega arith) c.1) in
    star_in l n p g s ∙ ap (λ (o : Option (List V × S)). cond (l.holds p s) o (Some ([], s))) (i ∙ j)

-- a repetition is a turn, and the repetition again
pub star_is : {S P T R V : Type 0} (l : Language S P T R V) → Ends l → (p : T) (g : Grammar P T R) (s : S) → small l.ranks (star p g) ≡ true → vals l (star p g) s ≡ cond (l.holds p s) (eval_at l g s & vals l (star p g)) (Some ([], s))
unfolding vals read
star_is l ok p g s sm =
    let c = both_true (shallow l.ranks (star p g) l.ranks.levels) (small l.ranks g) sm in
    turn_level l ok p g l.ranks.levels (l.ranks.levels + l.ranks.weight * l.size s) s c.0 (omega arith) sm
