-- Induction over derivations: what follows for each rule from what its body reads holds of all that is read.
use Rattle.std.proofs.Common.{◌≡◌, ℕ, zero, suc, Bool, true, false, List, [], ◌++◌, Some, ◌⊎◌, inl, inr, refl, sym, ap, subst, ◌∙◌}
use Rattle.std.specs.Prelude.{◌&&◌}
use Rattle.text_grammar.specs.Grammar.{Leaf, pass, fail, step, seq, choose, star, rule}
use Rattle.text_grammar.specs.Derivations.{Tree, empty, leaf, both, first, second, more, node, At}
use Rattle.text_grammar.specs.Values.{kids, leaf_kids}
use Rattle.sh_grammar.specs.State.{State, Node}
use Rattle.sh_grammar.specs.Table.{Step, enter, leave, Test, Rule, Gram, body}
use Rattle.sh_grammar.specs.Steps.{Known, run_step, holds}
use Rattle.sh_grammar.specs.Acts.{act}
use Rattle.sh_grammar.specs.Spelling.{knowing}
use Rattle.sh_printing.proofs.BackBytes as bytes

-- What is said of values that are read between two states, so deep at the first.
abbrev pub Reading : Type 1
Reading = ℕ → State → State → List Node → Type 0

abbrev pub Claim : Type 1
Claim = Rule → Reading

-- ---- depth

abbrev pub above : ℕ → ℕ
above zero = zero
above (suc d) = d

abbrev pub step_depth : Step → ℕ → ℕ
step_depth enter d = suc d
step_depth leave d = above d
step_depth p d = d

abbrev pub after : Gram → ℕ → ℕ
after (step p) d = step_depth p d
after (seq g h) d = after h (after g d)
after g d = d

abbrev pub is_flat_step : Step → Bool
is_flat_step enter = false
is_flat_step leave = false
is_flat_step p = true

-- no level begins or ends in it, but in its rules
abbrev pub is_flat : Gram → Bool
is_flat (step p) = is_flat_step p
is_flat (seq g h) = is_flat g && is_flat h
is_flat (choose p g h) = is_flat g && is_flat h
is_flat (star p g) = is_flat g
is_flat g = true

-- no level begins or ends in what is chosen or repeated
abbrev pub is_even : Gram → Bool
is_even (seq g h) = is_even g && is_even h
is_even (choose p g h) = is_flat g && is_flat h
is_even (star p g) = is_flat g
is_even g = true

flat_step : (p : Step) (d : ℕ) → is_flat_step p ≡ true → step_depth p d ≡ d
flat_step enter d e = absurd cc
flat_step leave d e = absurd cc
flat_step p d e = refl

pub flat_after : (g : Gram) (d : ℕ) → is_flat g ≡ true → after g d ≡ d
flat_after pass d e = refl
flat_after fail d e = refl
flat_after (step p) d e = flat_step p d e
flat_after (seq g h) d e =
    let x = bytes.both (is_flat g) (is_flat h) e in ap (after h) (flat_after g d x.0) ∙ flat_after h d x.1
flat_after (choose p g h) d e = refl
flat_after (star p g) d e = refl
flat_after (rule r) d e = refl

flat_even : (g : Gram) → is_flat g ≡ true → is_even g ≡ true
flat_even pass e = refl
flat_even fail e = refl
flat_even (step p) e = refl
flat_even (seq g h) e = let x = bytes.both (is_flat g) (is_flat h) e in rw (flat_even g x.0, flat_even h x.1) refl
flat_even (choose p g h) e = e
flat_even (star p g) e = e
flat_even (rule r) e = refl

-- ---- one level of a grammar, by what is said of its rules

-- a step between states that are as all are
pub record Stepped (k : Known) (Fine : State → Type 0) (p : Step) (d : ℕ) (s e : State) (vs : List Node) : Type 0 where
  pub depth : s.depth ≡ d
  pub fine : Fine s
  pub fine_behind : Fine e
  pub gave : Leaf Node
  pub reads : run_step k p s ≡ Some (gave, e)
  pub is : vs ≡ leaf_kids gave

-- one, and behind it the other
pub record Both (Fine : State → Type 0) (one other : State → State → List Node → Type 0) (s e : State) (vs : List Node) : Type 0 where
  pub middle : State
  pub fine : Fine middle
  pub ones : List Node
  pub others : List Node
  pub before : one s middle ones
  pub rest : other middle e others
  pub is : vs ≡ ones ++ others

-- so many turns
abbrev pub Turns : (State → Type 0) → Test → (State → State → List Node → Type 0) → ℕ → State → State → List Node → Type 0
Turns Fine p turn zero s e vs = (holds p s ≡ false) × (s ≡ e) × (vs ≡ [])
Turns Fine p turn (suc n) s e vs = (holds p s ≡ true) × Both Fine turn (Turns Fine p turn n) s e vs

-- a rule's, at its depth
pub record Ruled (Fine : State → Type 0) (said : Reading) (d : ℕ) (s e : State) (vs : List Node) : Type 0 where
  pub depth : s.depth ≡ d
  pub depth_behind : e.depth ≡ d
  pub fine : Fine s
  pub fine_behind : Fine e
  pub claim : said d s e vs

abbrev pub Sat : Known → (State → Type 0) → Claim → Gram → Reading
Sat k Fine Q pass d s e vs = (s ≡ e) × (vs ≡ [])
Sat k Fine Q fail d s e vs = ⊥
Sat k Fine Q (step p) d s e vs = Stepped k Fine p d s e vs
Sat k Fine Q (seq g h) d s e vs = Both Fine (Sat k Fine Q g d) (Sat k Fine Q h (after g d)) s e vs
Sat k Fine Q (choose p g h) d s e vs = ((holds p s ≡ true) × Sat k Fine Q g d s e vs) ⊎ ((holds p s ≡ false) × Sat k Fine Q h d s e vs)
Sat k Fine Q (star p g) d s e vs = (n : ℕ) × Turns Fine p (Sat k Fine Q g d) n s e vs
Sat k Fine Q (rule r) d s e vs = Ruled Fine (Q r) d s e vs

-- ---- the induction

-- What holds of each state: one part is kept from left to right, the other from right to left.
pub record Keeps (k : Known) (Forth Back : State → Type 0) : Type 0 where
  pub forth : (p : Step) (s e : State) (x : Leaf Node) → run_step k p s ≡ Some (x, e) → Forth s → Forth e
  pub back : (p : Step) (s e : State) (x : Leaf Node) → run_step k p s ≡ Some (x, e) → Forth s → Back e → Back s

abbrev pub All : (Forth Back : State → Type 0) → State → Type 0
All F B s = F s × B s

forth_at : (k : Known) (F B : State → Type 0) → Keeps k F B → (t : Tree Rule Node) (g : Gram) (s e : State) → At (knowing k) t g s e → F s → F e
forth_at k F B ok empty pass s e h f = subst F h f
forth_at k F B ok empty (star p g) s e h f = subst F h.1 f
forth_at k F B ok (leaf x) (step p) s e h f = ok.forth p s e x h f
forth_at k F B ok (both t u) (seq g h) s e a f = forth_at k F B ok u h a.0 e a.2 (forth_at k F B ok t g s a.0 a.1 f)
forth_at k F B ok (first t) (choose p g h) s e a f = forth_at k F B ok t g s e a.1 f
forth_at k F B ok (second t) (choose p g h) s e a f = forth_at k F B ok t h s e a.1 f
forth_at k F B ok (more t u) (star p g) s e a f = forth_at k F B ok u (star p g) a.1.0 e a.1.2 (forth_at k F B ok t g s a.1.0 a.1.1 f)
forth_at k F B ok (node q t) (rule r) s e a f = forth_at k F B ok t (body r) s e a.1 f
forth_at k F B ok t g s e h f = absurd h

back_at : (k : Known) (F B : State → Type 0) → Keeps k F B → (t : Tree Rule Node) (g : Gram) (s e : State) → At (knowing k) t g s e → F s → B e → B s
back_at k F B ok empty pass s e h f b = subst B (sym h) b
back_at k F B ok empty (star p g) s e h f b = subst B (sym h.1) b
back_at k F B ok (leaf x) (step p) s e h f b = ok.back p s e x h f b
back_at k F B ok (both t u) (seq g h) s e a f b = back_at k F B ok t g s a.0 a.1 f (back_at k F B ok u h a.0 e a.2 (forth_at k F B ok t g s a.0 a.1 f) b)
back_at k F B ok (first t) (choose p g h) s e a f b = back_at k F B ok t g s e a.1 f b
back_at k F B ok (second t) (choose p g h) s e a f b = back_at k F B ok t h s e a.1 f b
back_at k F B ok (more t u) (star p g) s e a f b = back_at k F B ok t g s a.1.0 a.1.1 f (back_at k F B ok u (star p g) a.1.0 e a.1.2 (forth_at k F B ok t g s a.1.0 a.1.1 f) b)
back_at k F B ok (node q t) (rule r) s e a f b = back_at k F B ok t (body r) s e a.1 f b
back_at k F B ok t g s e h f b = absurd h

-- the depth behind a grammar that ends each level that it begins
abbrev pub Deep : Known → Type 0
Deep k = (p : Step) (s e : State) (x : Leaf Node) → run_step k p s ≡ Some (x, e) → e.depth ≡ step_depth p s.depth

abbrev pub EachEven : Type 0
EachEven = (r : Rule) → (is_even (body r) ≡ true) × ((d : ℕ) → after (body r) d ≡ d)

depth_at : (k : Known) → Deep k → EachEven → (t : Tree Rule Node) (g : Gram) (s e : State) → is_even g ≡ true → At (knowing k) t g s e → e.depth ≡ after g s.depth
depth_at k deep even empty pass s e v h = ap (λ (z : State). z.depth) (sym h)
depth_at k deep even empty (star p g) s e v h = ap (λ (z : State). z.depth) (sym h.1)
depth_at k deep even (leaf x) (step p) s e v h = deep p s e x h
depth_at k deep even (both t u) (seq g h) s e v a =
    let x = bytes.both (is_even g) (is_even h) v in
    depth_at k deep even u h a.0 e x.1 a.2 ∙ ap (after h) (depth_at k deep even t g s a.0 x.0 a.1)
depth_at k deep even (first t) (choose p g h) s e v a =
    let x = bytes.both (is_flat g) (is_flat h) v in
    depth_at k deep even t g s e (flat_even g x.0) a.1 ∙ flat_after g s.depth x.0
depth_at k deep even (second t) (choose p g h) s e v a =
    let x = bytes.both (is_flat g) (is_flat h) v in
    depth_at k deep even t h s e (flat_even h x.1) a.1 ∙ flat_after h s.depth x.1
depth_at k deep even (more t u) (star p g) s e v a =
    depth_at k deep even u (star p g) a.1.0 e v a.1.2 ∙ (depth_at k deep even t g s a.1.0 (flat_even g v) a.1.1 ∙ flat_after g s.depth v)
depth_at k deep even (node q t) (rule r) s e v a = depth_at k deep even t (body r) s e (even r).0 a.1 ∙ (even r).1 s.depth
depth_at k deep even t g s e v h = absurd h

-- What has to be shown of each rule.
abbrev pub Closed : Known → (State → Type 0) → Claim → Type 0
Closed k Fine Q = (r : Rule) (d : ℕ) (s e : State) (vs : List Node) → s.depth ≡ d → Fine s → Fine e → Sat k Fine Q (body r) d s e vs → Q r d s e (act r vs)

pub sat_at : (k : Known) (F B : State → Type 0) (Q : Claim) → Keeps k F B → Deep k → EachEven → Closed k (All F B) Q →
    (t : Tree Rule Node) (g : Gram) (d : ℕ) (s e : State) → is_even g ≡ true → s.depth ≡ d → F s → B e → At (knowing k) t g s e → Sat k (All F B) Q g d s e (kids (knowing k) t)
sat_at k F B Q ok deep even closed empty pass d s e v i f b h = (h, refl)
sat_at k F B Q ok deep even closed empty (star p g) d s e v i f b h = (zero, (h.0, h.1, refl))
sat_at k F B Q ok deep even closed (leaf x) (step p) d s e v i f b h =
    record { depth = i; fine = (f, ok.back p s e x h f b); fine_behind = (ok.forth p s e x h f, b); gave = x; reads = h; is = refl }
sat_at k F B Q ok deep even closed (both t u) (seq g h) d s e v i f b a =
    let x = bytes.both (is_even g) (is_even h) v in
    let fm = forth_at k F B ok t g s a.0 a.1 f in
    let bm = back_at k F B ok u h a.0 e a.2 fm b in
    record {
      middle = a.0;
      fine = (fm, bm);
      ones = kids (knowing k) t;
      others = kids (knowing k) u;
      before = sat_at k F B Q ok deep even closed t g d s a.0 x.0 i f bm a.1;
      rest = sat_at k F B Q ok deep even closed u h (after g d) a.0 e x.1 (depth_at k deep even t g s a.0 x.0 a.1 ∙ ap (after g) i) fm b a.2;
      is = refl;
    }
sat_at k F B Q ok deep even closed (first t) (choose p g h) d s e v i f b a =
    let x = bytes.both (is_flat g) (is_flat h) v in
    inl (a.0, sat_at k F B Q ok deep even closed t g d s e (flat_even g x.0) i f b a.1)
sat_at k F B Q ok deep even closed (second t) (choose p g h) d s e v i f b a =
    let x = bytes.both (is_flat g) (is_flat h) v in
    inr (a.0, sat_at k F B Q ok deep even closed t h d s e (flat_even h x.1) i f b a.1)
sat_at k F B Q ok deep even closed (more t u) (star p g) d s e v i f b a =
    let m = a.1.0 in
    let fm = forth_at k F B ok t g s m a.1.1 f in
    let bm = back_at k F B ok u (star p g) m e a.1.2 fm b in
    let dm = depth_at k deep even t g s m (flat_even g v) a.1.1 ∙ (flat_after g s.depth v ∙ i) in
    let j = sat_at k F B Q ok deep even closed u (star p g) d m e v dm fm b a.1.2 in (
      suc j.0,
      (
        a.0,
        record {
          middle = m;
          fine = (fm, bm);
          ones = kids (knowing k) t;
          others = kids (knowing k) u;
          before = sat_at k F B Q ok deep even closed t g d s m (flat_even g v) i f bm a.1.1;
          rest = j.1;
          is = refl;
        },
      ),
    )
sat_at k F B Q ok deep even closed (node q t) (rule r) d s e v i f b a =
    let bs = back_at k F B ok t (body r) s e a.1 f b in
    let fe = forth_at k F B ok t (body r) s e a.1 f in
    let j = sat_at k F B Q ok deep even closed t (body r) d s e (even r).0 i f b a.1 in
    record {
      depth = i;
      depth_behind = depth_at k deep even t (body r) s e (even r).0 a.1 ∙ ((even r).1 s.depth ∙ i);
      fine = (f, bs);
      fine_behind = (fe, b);
      claim = subst (λ (z : Rule). Q r d s e (act z (kids (knowing k) t))) (sym a.0) (closed r d s e (kids (knowing k) t) i (f, bs) (fe, b) j);
    }
sat_at k F B Q ok deep even closed t g d s e v i f b h = absurd h
