-- What is read is spelled, and what is spelled is read, in enough levels.
use Rattle.std.proofs.Common.{◌≡◌, ℕ, zero, suc, ◌+◌, ◌≤◌, Some, refl, sym, ap, subst, ◌∙◌, inl, inr, arith}
use Rattle.text_grammar.specs.Grammar.{Grammar, pass, fail, step, seq, choose, star, rule}
use Rattle.text_grammar.specs.Language.{Language}
use Rattle.text_grammar.specs.Derivations.{Tree, empty, leaf, both, first, second, more, node, At}
use Rattle.text_grammar.specs.Reading.{parse, ◌>>=◌}
use Rattle.text_grammar.proofs.Tools.{chosen, some_is, bind_some}

-- the tree has at most so many levels
abbrev pub Low : {R V : Type 0} → Tree R V → ℕ → Type 0
Low t zero = ⊥
Low empty (suc n) = Unit {0}
Low (leaf x) (suc n) = Unit {0}
Low (both t u) (suc n) = Low t n × Low u n
Low (first t) (suc n) = Low t n
Low (second t) (suc n) = Low t n
Low (more t u) (suc n) = Low t n × Low u n
Low (node r t) (suc n) = Low t n

pub complete_in : {S P T R V : Type 0} (l : Language S P T R V) (t : Tree R V) (g : Grammar P T R) (n : ℕ) (s e : S) → At l t g s e → Low t n → parse l n g s ≡ Some (t, e)
unfolding parse
complete_in l t g zero s e h low = absurd low
complete_in {S} l empty pass (suc n) s e h low = ap (λ (x : S). Some (empty, x)) h
complete_in {S} l empty (star p g) (suc n) s e h low = rw h.0 (ap (λ (x : S). Some (empty, x)) h.1)
complete_in l (leaf x) (step k) (suc n) s e h low = rw h refl
complete_in l (both t u) (seq g h) (suc n) s e a low =
    let i = complete_in l t g n s a.0 a.1 low.0 in
    let j = complete_in l u h n a.0 e a.2 low.1 in
    rw i (rw j refl)
complete_in l (first t) (choose p g h) (suc n) s e a low = let i = complete_in l t g n s e a.1 low in rw a.0 (rw i refl)
complete_in l (second t) (choose p g h) (suc n) s e a low = let i = complete_in l t h n s e a.1 low in rw a.0 (rw i refl)
complete_in l (more t u) (star p g) (suc n) s e a low =
    let i = complete_in l t g n s a.1.0 a.1.1 low.0 in
    let j = complete_in l u (star p g) n a.1.0 e a.1.2 low.1 in
    rw a.0 (rw i (rw j refl))
complete_in {R = R} l (node q t) (rule r) (suc n) s e a low =
    let i = complete_in l t (l.body r) n s e a.1 low in rw i (ap (λ (z : R). Some (node z t, e)) (sym a.0))
complete_in l t g (suc n) s e h low = absurd h

pub sound_in : {S P T R V : Type 0} (l : Language S P T R V) (n : ℕ) (g : Grammar P T R) (s : S) (x : Tree R V × S) → parse l n g s ≡ Some x → At l x.0 g s x.1
unfolding parse
sound_in l zero g s x e = absurd cc
sound_in {S} {R = R} {V = V} l (suc n) pass s x e = subst (λ (y : Tree R V × S). At l y.0 pass s y.1) (some_is (empty, s) x e) refl
sound_in l (suc n) fail s x e = absurd cc
sound_in {S} {R = R} {V = V} l (suc n) (step k) s x e =
    let a = bind_some (l.run_step k s) (λ y. Some (leaf y.0, y.1)) x e in
    subst (λ (y : Tree R V × S). At l y.0 (step k) s y.1) (some_is (leaf a.0.0, a.0.1) x a.2) a.1
sound_in {S} {R = R} {V = V} l (suc n) (seq g h) s x e =
    let a = bind_some (parse l n g s) (λ y. parse l n h y.1 >>= λ z. Some (both y.0 z.0, z.1)) x e in
    let b = bind_some (parse l n h a.0.1) (λ z. Some (both a.0.0 z.0, z.1)) x a.2 in
    subst (λ (y : Tree R V × S). At l y.0 (seq g h) s y.1) {x = (both a.0.0 b.0.0, b.0.1)} (some_is (both a.0.0 b.0.0, b.0.1) x b.2) (a.0.1, sound_in l n g s a.0 a.1, sound_in l n h a.0.1 b.0 b.1)
sound_in {S} {R = R} {V = V} l (suc n) (choose p g h) s x e =
    elim (chosen (l.holds p s) (parse l n g s >>= λ y. Some (first y.0, y.1)) (parse l n h s >>= λ y. Some (second y.0, y.1)) (Some x) e) [
      | inl c ↦
          let a = bind_some (parse l n g s) (λ y. Some (first y.0, y.1)) x c.1 in
          subst (λ (y : Tree R V × S). At l y.0 (choose p g h) s y.1) (some_is (first a.0.0, a.0.1) x a.2) (c.0, sound_in l n g s a.0 a.1)
      | inr c ↦
          let a = bind_some (parse l n h s) (λ y. Some (second y.0, y.1)) x c.1 in
          subst (λ (y : Tree R V × S). At l y.0 (choose p g h) s y.1) (some_is (second a.0.0, a.0.1) x a.2) (c.0, sound_in l n h s a.0 a.1)
    ]
sound_in {S} {R = R} {V = V} l (suc n) (star p g) s x e =
    elim (chosen (l.holds p s) (parse l n g s >>= λ y. parse l n (star p g) y.1 >>= λ z. Some (more y.0 z.0, z.1)) (Some (empty, s)) (Some x) e) [
      | inl c ↦
          let a = bind_some (parse l n g s) (λ y. parse l n (star p g) y.1 >>= λ z. Some (more y.0 z.0, z.1)) x c.1 in
          let b = bind_some (parse l n (star p g) a.0.1) (λ z. Some (more a.0.0 z.0, z.1)) x a.2 in
          subst (λ (y : Tree R V × S). At l y.0 (star p g) s y.1) {x = (more a.0.0 b.0.0, b.0.1)} (some_is (more a.0.0 b.0.0, b.0.1) x b.2) (c.0, (a.0.1, sound_in l n g s a.0 a.1, sound_in l n (star p g) a.0.1 b.0 b.1))
      | inr c ↦ subst (λ (y : Tree R V × S). At l y.0 (star p g) s y.1) (some_is (empty, s) x c.1) (c.0, refl)
    ]
sound_in {S} {R = R} {V = V} l (suc n) (rule r) s x e =
    let a = bind_some (parse l n (l.body r) s) (λ y. Some (node r y.0, y.1)) x e in
    subst (λ (y : Tree R V × S). At l y.0 (rule r) s y.1) (some_is (node r a.0.0, a.0.1) x a.2) (refl, sound_in l n (l.body r) s a.0 a.1)

-- ---- one tree

abbrev depth : {R V : Type 0} → Tree R V → ℕ
depth empty = 1
depth (leaf x) = 1
depth (both t u) = suc (depth t + depth u)
depth (first t) = suc (depth t)
depth (second t) = suc (depth t)
depth (more t u) = suc (depth t + depth u)
depth (node r t) = suc (depth t)

low_depth : {R V : Type 0} (t : Tree R V) (n : ℕ) → depth t ≤ n → Low t n
low_depth empty zero le = absurd (omega arith)
low_depth (leaf x) zero le = absurd (omega arith)
low_depth (both t u) zero le = absurd (omega arith)
low_depth (first t) zero le = absurd (omega arith)
low_depth (second t) zero le = absurd (omega arith)
low_depth (more t u) zero le = absurd (omega arith)
low_depth (node r t) zero le = absurd (omega arith)
low_depth empty (suc n) le = tt
low_depth (leaf x) (suc n) le = tt
low_depth (both t u) (suc n) le = (low_depth t n (omega arith), low_depth u n (omega arith))
low_depth (first t) (suc n) le = low_depth t n (omega arith)
low_depth (second t) (suc n) le = low_depth t n (omega arith)
low_depth (more t u) (suc n) le = (low_depth t n (omega arith), low_depth u n (omega arith))
low_depth (node r t) (suc n) le = low_depth t n (omega arith)

pub one_tree : {S P T R V : Type 0} (l : Language S P T R V) (t u : Tree R V) (g : Grammar P T R) (s a b : S) → At l t g s a → At l u g s b → (t ≡ u) × (a ≡ b)
one_tree {S} {R = R} {V = V} l t u g s a b p q =
    let n = depth t + depth u in
    let e : (t, a) ≡ (u, b) = some_is (t, a) (u, b) (sym (complete_in l t g n s a p (low_depth t n (omega arith))) ∙ complete_in l u g n s b q (low_depth u n (omega arith))) in
    (ap (λ (x : Tree R V × S). x.0) e, ap (λ (x : Tree R V × S). x.1) e)
