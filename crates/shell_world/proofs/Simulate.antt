-- One run follows another, which takes no more turns: the rules for each way to build a run.
use Rattle.std.proofs.Common.{◌≡◌, ℕ, ◌+◌, ◌≤◌, Bool, true, false, refl, ap, ◌∙◌, subst, arith}
use Rattle.shell_world.specs.Outside.{Trace}
use Rattle.shell_world.specs.Runs.{St, Res, Ends, GoesOn, Unspecified, Do, after, choose}

-- what is to hold where both end
abbrev pub Post : Type 0 → Type 0 → Type 0 → Type 1
Post X A B = X → St A → St B → Type 0

-- the other run, from levels of calls, rounds of the loop that it is in, and turns
abbrev pub Run : Type 0 → Type 0 → Type 0
Run X B = ℕ → ℕ → ℕ → Res X B

-- with any number of turns left at its end, and as many more before it as n is above r
pub record Leads {X B : Type 0} (n r : ℕ) (run : Run X B) (g : X) (b : St B) : Type 0 where
  pub by : (k : ℕ) → (j : ℕ) × (k + n ≤ j + r) × ((d f : ℕ) → j ≤ d → j ≤ f → run d f j ≡ Ends g b k)

pub record Stops {X B : Type 0} (n : ℕ) (run : Run X B) (w : Trace) : Type 0 where
  pub turns : ℕ
  pub left : ℕ
  pub enough : n ≤ turns
  pub by : (d f : ℕ) → turns ≤ d → turns ≤ f → run d f turns ≡ GoesOn w left

pub record Meets {X A B : Type 0} (P : Post X A B) (n r : ℕ) (run : Run X B) (g : X) (a : St A) : Type 0 where
  pub end : St B
  pub holds : P g a end
  pub fewer : r ≤ n
  pub leads : Leads n r run g end

abbrev pub Matches : {X A B : Type 0} → Post X A B → ℕ → Res X A → Run X B → Type 0
Matches P n (Ends g a r) run = Meets P n r run g a
Matches P n (GoesOn w r) run = Stops n run w
Matches P n (Unspecified w r) run = ⊥

-- a stretch that ends, and what comes after it
leads_after : {X Y B : Type 0} (n r q : ℕ) (run : Run X B) (g : X) (h : Y) (b c : St B) (k : X → ℕ → ℕ → Do Y B) → r ≤ n → Leads n r run g b → Leads r q (λ d f j. k g d f j b) h c → q ≤ r → Leads n q (λ d f j. after (run d f j) (λ g. k g d f)) h c
leads_after n r q run g h b c k le l m le' = record {
  by = λ x.
      let y = m.by x in
      let z = l.by y.0 in
      let more : y.0 ≤ z.0 = omega (arith, z.1, le) in
      (z.0, omega (arith, y.1, z.1), λ d f ld lf. ap (λ o. after o (λ g. k g d f)) (z.2 d f ld lf) ∙ y.2 d f (omega arith) (omega arith));
}

prepend : {X Y A B : Type 0} (P : Post Y A B) (n r : ℕ) (run : Run X B) (g : X) (b : St B) (k : X → ℕ → ℕ → Do Y B) (o : Res Y A) → r ≤ n → Leads n r run g b → Matches P r o (λ d f j. k g d f j b) → Matches P n o (λ d f j. after (run d f j) (λ g. k g d f))
prepend P n r run g b k (Ends h a q) le l m =
    let le' : q ≤ r = m.fewer in
    record { end = m.end; holds = m.holds; fewer = omega arith; leads = leads_after n r q run g h b m.end k le l m.leads le' }
prepend P n r run g b k (GoesOn w x) le l m =
    let z = l.by m.turns in
    let e : r ≤ m.turns = m.enough in
    let more : m.turns ≤ z.0 = omega (arith, z.1, le) in
    record { turns = z.0; left = m.left; enough = omega (arith, z.1, e); by = λ d f ld lf. ap (λ o. after o (λ g. k g d f)) (z.2 d f ld lf) ∙ m.by d f (omega arith) (omega arith) }
prepend P n r run g b k (Unspecified w x) le l m = m

-- two stretches
pub sim_after : {X Y A B : Type 0} (P : Post X A B) (Q : Post Y A B) (n : ℕ) (o : Res X A) (run : Run X B) (k : X → Do Y A) (k' : X → ℕ → ℕ → Do Y B) → Matches P n o run → ((g : X) (m : ℕ) (a : St A) (b : St B) → m ≤ n → P g a b → Matches Q m (k g m a) (λ d f j. k' g d f j b)) → Matches Q n (after o k) (λ d f j. after (run d f j) (λ g. k' g d f))
sim_after P Q n (Ends g a r) run k k' m h =
    prepend Q n r run g m.end k' (k g r a) m.fewer m.leads (h g r a m.end m.fewer m.holds)
sim_after P Q n (GoesOn w r) run k k' m h = record { turns = m.turns; left = m.left; enough = m.enough; by = λ d f ld lf. ap (λ o. after o (λ g. k' g d f)) (m.by d f ld lf) }
sim_after P Q n (Unspecified w r) run k k' m h = m

-- the end, at once
pub sim_ends : {X A B : Type 0} (P : Post X A B) (n : ℕ) (g : X) (a : St A) (b : St B) → P g a b → Matches P n (Ends g a n) (λ d f j. Ends g b j)
sim_ends P n g a b p = record { end = b; holds = p; fewer = omega arith; leads = record { by = λ k. (k, omega arith, λ d f ld lf. refl) } }

-- a weaker claim of the end
pub weaken : {X A B : Type 0} (P Q : Post X A B) (n : ℕ) (o : Res X A) (run : Run X B) → ((g : X) (a : St A) (b : St B) → P g a b → Q g a b) → Matches P n o run → Matches Q n o run
weaken P Q n (Ends g a r) run h m = record { end = m.end; holds = h g a m.end m.holds; fewer = m.fewer; leads = m.leads }
weaken P Q n (GoesOn w r) run h m = m
weaken P Q n (Unspecified w r) run h m = m

pub sim_choose : {X A B : Type 0} (P : Post X A B) (n : ℕ) (x y : Bool) (s t : Do X A) (u v : ℕ → ℕ → Do X B) (a : St A) (b : St B) → x ≡ y → Matches P n (s n a) (λ d f j. u d f j b) → Matches P n (t n a) (λ d f j. v d f j b) → Matches P n (choose x s t n a) (λ d f j. choose y (u d f) (v d f) j b)
sim_choose P n true true s t u v a b e h h' = h
sim_choose P n true false s t u v a b e h h' = cc
sim_choose P n false true s t u v a b e h h' = cc
sim_choose P n false false s t u v a b e h h' = h'

-- `after` twice, as one
pub after_assoc : {X Y Z S : Type 0} (o : Res X S) (k : X → Do Y S) (h : Y → Do Z S) → after (after o k) h ≡ after o (λ x n s. after (k x n s) h)
after_assoc (Ends g s n) k h = refl
after_assoc (GoesOn w n) k h = refl
after_assoc (Unspecified w n) k h = refl

-- another run that does the same at all bounds
pub same_run : {X A B : Type 0} (P : Post X A B) (n : ℕ) (o : Res X A) (run run' : Run X B) → ((d f j : ℕ) → run d f j ≡ run' d f j) → Matches P n o run → Matches P n o run'
same_run {X} {A} {B} P n o run run' e m =
    let is : run ≡ run' = λ i d f j. e d f j i in
    subst (λ (r : Run X B). Matches P n o r) is m

-- where the one run ends at once in the state that it began in, its end is told
pub ends_there : {X A B : Type 0} (P : Post X A B) (n : ℕ) (g : X) (a : St A) (run : Run X B) → Matches P n (Ends g a n) run → Matches (λ x a' b. P x a' b × (a' ≡ a) × (x ≡ g)) n (Ends g a n) run
ends_there P n g a run m = record { end = m.end; holds = (m.holds, refl, refl); fewer = m.fewer; leads = m.leads }
