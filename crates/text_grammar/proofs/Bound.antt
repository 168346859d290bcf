-- Reading ends, and gives the tree, if there is one.
use Rattle.std.proofs.Common.{◌≡◌, ℕ, zero, suc, ◌+◌, ◌*◌, ◌≤◌, Bool, true, Some, None, ap, subst, arith}
use Rattle.std.specs.Prelude.{nat_le}
use Rattle.std.proofs.lemmas.Bool.{leb-true, le-leb}
use Rattle.text_grammar.specs.Grammar.{Grammar, pass, fail, step, seq, choose, star, rule}
use Rattle.text_grammar.specs.Ranks.{Ranks, takes, shallow, bonus}
use Rattle.text_grammar.specs.Language.{Language, Ends, one_if, IsShallow}
use Rattle.text_grammar.specs.Derivations.{Tree, empty, leaf, both, first, second, more, node, At}
use Rattle.text_grammar.specs.Reading.{read}
use Rattle.text_grammar.proofs.Tools.{both_true, one_or, one_and, scaled_bonus}
use Rattle.text_grammar.proofs.Sound.{Low, complete_in, sound_in}

pub shorter : {S P T R V : Type 0} (l : Language S P T R V) → Ends l → (t : Tree R V) (g : Grammar P T R) (s e : S) → At l t g s e → l.size e + one_if (takes l.ranks g) ≤ l.size s
shorter {S} l ok empty pass s e h = let k : l.size s ≡ l.size e = ap (λ (z : S). l.size z) h in omega arith
shorter {S} l ok empty (star p g) s e h = let k : l.size s ≡ l.size e = ap (λ (z : S). l.size z) h.1 in omega arith
shorter l ok (leaf x) (step k) s e h = ok.step_fits k s e x h
shorter l ok (both t u) (seq g h) s e a =
    let i = shorter l ok t g s a.0 a.1 in let j = shorter l ok u h a.0 e a.2 in let o = one_or (takes l.ranks g) (takes l.ranks h) in omega arith
shorter l ok (first t) (choose p g h) s e a = let i = shorter l ok t g s e a.1 in let o = one_and (takes l.ranks g) (takes l.ranks h) in let o0 = o.0 in omega arith
shorter l ok (second t) (choose p g h) s e a = let i = shorter l ok t h s e a.1 in let o = one_and (takes l.ranks g) (takes l.ranks h) in let o1 = o.1 in omega arith
shorter l ok (more t u) (star p g) s e a =
    let i = shorter l ok t g s a.1.0 a.1.1 in let j = shorter l ok u (star p g) a.1.0 e a.1.2 in omega arith
shorter l ok (node q t) (rule r) s e a = let i = shorter l ok t (l.body r) s e a.1 in rw (← ok.rule_takes r) i
shorter l ok t g s e h = absurd h

-- the same, in levels
pub lower : {S P T R V : Type 0} (l : Language S P T R V) → Ends l → (t : Tree R V) (g : Grammar P T R) (s e : S) → At l t g s e →
    l.ranks.weight * l.size e + bonus l.ranks.weight (takes l.ranks g) ≤ l.ranks.weight * l.size s
lower l ok t g s e h = scaled_bonus l.ranks.weight (takes l.ranks g) (l.size e) (l.size s) (shorter l ok t g s e h)

pub no_zero : {P T R : Type 0} (k : Ranks P R) (g : Grammar P T R) → shallow k g zero ≡ true → ⊥
no_zero k pass e = absurd cc
no_zero k fail e = absurd cc
no_zero k (step p) e = absurd cc
no_zero k (seq g h) e = absurd cc
no_zero k (choose p g h) e = absurd cc
no_zero k (star p g) e = absurd cc
no_zero k (rule r) e = absurd cc

rule_shallow_at : (T : Type 0) {P R : Type 0} (k : Ranks P R) (n : ℕ) (r : R) → nat_le (suc (k.rank r)) n ≡ true → shallow {T = T} k (rule r) n ≡ true
rule_shallow_at T k zero r e = let le = leb-true (suc (k.rank r)) zero e in absurd (omega arith)
rule_shallow_at T k (suc n) r e = let le = leb-true (suc (k.rank r)) (suc n) e in le-leb (k.rank r) n (omega arith)

-- how deep a tree is
pub low : {S P T R V : Type 0} (l : Language S P T R V) → Ends l → (t : Tree R V) (g : Grammar P T R) (k n : ℕ) (s e : S) → At l t g s e → shallow l.ranks g k ≡ true →
    k + l.ranks.weight * l.size s ≤ n + l.ranks.weight * l.size e → Low t n
low l ok t g zero n s e h f le = absurd (no_zero l.ranks g f)
low l ok t g (suc k) zero s e h f le = let i = lower l ok t g s e h in absurd (omega arith)
low l ok empty pass (suc k) (suc n) s e h f le = tt
low l ok empty (star p g) (suc k) (suc n) s e h f le = tt
low l ok (leaf x) (step q) (suc k) (suc n) s e h f le = tt
low l ok (both t u) (seq g h) (suc k) (suc n) s e a f le =
    let b = both_true (shallow l.ranks g k) (shallow l.ranks h (k + bonus l.ranks.weight (takes l.ranks g))) f in
    let i = lower l ok t g s a.0 a.1 in let j = lower l ok u h a.0 e a.2 in
    (low l ok t g k n s a.0 a.1 b.0 (omega arith), low l ok u h (k + bonus l.ranks.weight (takes l.ranks g)) n a.0 e a.2 b.1 (omega arith))
low l ok (first t) (choose p g h) (suc k) (suc n) s e a f le = let b = both_true (shallow l.ranks g k) (shallow l.ranks h k) f in low l ok t g k n s e a.1 b.0 (omega arith)
low l ok (second t) (choose p g h) (suc k) (suc n) s e a f le = let b = both_true (shallow l.ranks g k) (shallow l.ranks h k) f in low l ok t h k n s e a.1 b.1 (omega arith)
low l ok (more t u) (star p g) (suc k) (suc n) s e a f le =
    let b = both_true (shallow l.ranks g k) (takes l.ranks g) f in
    let w : 1 ≤ l.ranks.weight = leb-true _ _ ok.weighs in
    let i = lower l ok t g s a.1.0 a.1.1 in
    let i2 : l.ranks.weight * l.size a.1.0 + l.ranks.weight ≤ l.ranks.weight * l.size s = subst (λ (z : Bool). l.ranks.weight * l.size a.1.0 + bonus l.ranks.weight z ≤ l.ranks.weight * l.size s) b.1 i in
    let j = lower l ok u (star p g) a.1.0 e a.1.2 in
    (low l ok t g k n s a.1.0 a.1.1 b.0 (omega arith), low l ok u (star p g) (suc k) n a.1.0 e a.1.2 f (omega arith))
low l ok (node q t) (rule r) (suc k) (suc n) s e a f le =
    let b : l.ranks.rank r ≤ k = leb-true _ _ f in
    low l ok t (l.body r) (l.ranks.rank r) n s e a.1 (ok.rule_shallow r) (omega arith)
low l ok t g (suc k) (suc n) s e h f le = absurd h

pub complete : {S P T R V : Type 0} (l : Language S P T R V) → Ends l → (t : Tree R V) (g : Grammar P T R) (s e : S) → IsShallow l g → At l t g s e → read l g s ≡ Some (t, e)
unfolding read
complete l ok t g s e f h =
    complete_in l t g (l.ranks.levels + l.ranks.weight * l.size s) s e h (low l ok t g l.ranks.levels (l.ranks.levels + l.ranks.weight * l.size s) s e h f (omega arith))

pub sound : {S P T R V : Type 0} (l : Language S P T R V) (g : Grammar P T R) (s : S) (x : Tree R V × S) → read l g s ≡ Some x → At l x.0 g s x.1
unfolding read
sound l g s x e = sound_in l (l.ranks.levels + l.ranks.weight * l.size s) g s x e

pub nothing_reads : {S P T R V : Type 0} (l : Language S P T R V) → Ends l → (g : Grammar P T R) (s : S) → IsShallow l g → read l g s ≡ None → (t : Tree R V) (e : S) → At l t g s e → ⊥
nothing_reads l ok g s f n t e h = let c = complete l ok t g s e f h in absurd cc

-- a rule reads in the levels of the language
pub rule_is_shallow : {S P T R V : Type 0} (l : Language S P T R V) → Ends l → (r : R) → IsShallow l (rule r)
rule_is_shallow {T = T} l ok r = rule_shallow_at T l.ranks l.ranks.levels r (ok.rank_below r)
