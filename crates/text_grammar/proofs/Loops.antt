-- Repetitions, as a loop reads them.
use Rattle.std.proofs.Common.{◌≡◌, ℕ, zero, suc, ◌+◌, ◌<◌, ◌≤◌, Bool, true, false, List, [], ◌∷◌, ◌++◌, Option, Some, None, refl, sym, ap, subst, ◌∙◌, arith}
use Rattle.std.specs.Prelude.{map}
use Rattle.std.proofs.lemmas.List.{append-nil, append_assoc}
use Rattle.text_grammar.specs.Grammar.{Grammar, star}
use Rattle.text_grammar.specs.Ranks.{Ranks, takes, shallow, small}
use Rattle.text_grammar.specs.Language.{Language, Ends, one_if}
use Rattle.text_grammar.specs.Values.{vals, behind}
use Rattle.text_grammar.specs.Answers.{FailsAs, views, pick_in, picks}
use Rattle.text_grammar.proofs.Tools.{both_true}
use Rattle.text_grammar.proofs.Bound.{no_zero}
use Rattle.text_grammar.proofs.Levels.{eval_at, star_is}
use Rattle.text_grammar.proofs.Rules.{behind_nil, behind_more, eval_shorter}

-- the values of a list with one more
pub views_push : {X V : Type 0} (view : X → List V) (xs : List X) (x : X) → views view (xs ++ x ∷ []) ≡ views view xs ++ view x
views_push view [] x = append-nil (view x)
views_push view (y ∷ xs) x = ap (λ z. view y ++ z) (views_push view xs x) ∙ sym (append_assoc (view y) (views view xs) (view x))

-- the values of two lists, one behind the other
pub views_more : {X V : Type 0} (view : X → List V) (xs ys : List X) → views view (xs ++ ys) ≡ views view xs ++ views view ys
views_more view [] ys = refl
views_more view (x ∷ xs) ys = ap (λ z. view x ++ z) (views_more view xs ys) ∙ sym (append_assoc (view x) (views view xs) (views view ys))

-- where each node is one value
pub views_one : {X V : Type 0} (view : X → V) (xs : List X) → views (λ x. view x ∷ []) xs ≡ map view xs
views_one view [] = refl
views_one view (x ∷ xs) = ap (λ z. view x ∷ z) (views_one view xs)

picked_more : {X : Type 0} (o : Option X) (xs ys : List X) → pick_in o (xs ++ ys) ≡ pick_in o xs ++ ys
picked_more None xs ys = refl
picked_more (Some x) xs ys = refl

-- what was made of nodes gives them back
pub picks_views : {X V : Type 0} (pick : V → Option X) (make : X → V) → ((x : X) → pick (make x) ≡ Some x) → (xs : List X) → picks pick (views (λ x. make x ∷ []) xs) ≡ xs
picks_views pick make same [] = refl
picks_views pick make same (x ∷ xs) = ap (λ o. pick_in o (picks pick (views (λ x. make x ∷ []) xs))) (same x) ∙ ap (λ z. x ∷ z) (picks_views pick make same xs)

-- of two lists of values, those of both
pub picks_more : {X V : Type 0} (pick : V → Option X) (vs ws : List V) → picks pick (vs ++ ws) ≡ picks pick vs ++ picks pick ws
picks_more pick [] ws = refl
picks_more pick (v ∷ vs) ws = ap (pick_in (pick v)) (picks_more pick vs ws) ∙ picked_more (pick v) (picks pick vs) (picks pick ws)

-- one more value is what was read in front of the rest
pub behind_push : {S X V : Type 0} (view : X → List V) (xs : List X) (x : X) (o : Option (List V × S)) → behind (views view (xs ++ x ∷ [])) o ≡ behind (views view xs) (behind (view x) o)
behind_push {S} {V = V} view xs x o = ap (λ (z : List V). behind z o) (views_push view xs x) ∙ behind_more (views view xs) (view x) o

-- What a loop keeps, where what is ahead is read by `rest`, and in all it reads what total is, from at most n bytes:
-- the values so far, and what is still to be read.
pub record Loop {S V X : Type 0} (size : S → ℕ) (rest : S → Option (List V × S)) (view : X → List V) (total : Option (List V × S)) (n : ℕ) (s : S) (front : List X) : Type 0 where
  pub so_far : behind (views view front) (rest s) ≡ total
  pub fits : size s ≤ n

-- with no value yet
pub Loop-starts : {S V X : Type 0} (size : S → ℕ) (rest : S → Option (List V × S)) (view : X → List V) (n : ℕ) (s : S) → size s ≤ n → Loop size rest view (rest s) n s []
Loop-starts size rest view n s le = record { so_far = behind_nil (rest s); fits = le }

-- behind values that were read before
pub Loop-follows : {S V X : Type 0} (size : S → ℕ) (rest : S → Option (List V × S)) (view : X → List V) (n : ℕ) (s : S) (front : List X) → size s ≤ n → Loop size rest view (behind (views view front) (rest s)) n s front
Loop-follows size rest view n s front le = record { so_far = refl; fits = le }

-- a turn, by whatever equation says what it reads
pub Loop-turn : {S V X : Type 0} (size : S → ℕ) (rest : S → Option (List V × S)) (view : X → List V) (total : Option (List V × S)) (n : ℕ) (s m : S) (front : List X) (x : X) →
    rest s ≡ behind (view x) (rest m) → size m ≤ size s → Loop size rest view total n s front → Loop size rest view total n m (front ++ x ∷ [])
Loop-turn size rest view total n s m front x e le before =
    let fits = before.fits in
    record { so_far = behind_push view front x (rest m) ∙ ap (behind (views view front)) (sym e) ∙ before.so_far; fits = omega arith }

-- what is ahead says what all is
pub Loop-rest : {S V X : Type 0} (size : S → ℕ) (rest : S → Option (List V × S)) (view : X → List V) (total o : Option (List V × S)) (n : ℕ) (s : S) (front : List X) →
    rest s ≡ o → Loop size rest view total n s front → total ≡ behind (views view front) o
Loop-rest size rest view total o n s front e before = sym before.so_far ∙ ap (behind (views view front)) e

-- ---- the same for a repetition

star_takes : {P T R : Type 0} (k : Ranks P R) (p : T) (g : Grammar P T R) (n : ℕ) → shallow k (star p g) n ≡ true → (j : ℕ) × (shallow k g j ≡ true) × (takes k g ≡ true)
star_takes k p g zero e = absurd (no_zero k (star p g) e)
star_takes k p g (suc n) e = let b = both_true (shallow k g n) (takes k g) e in (n, b.0, b.1)

-- a turn takes a byte
pub turn_less : {S P T R V : Type 0} (l : Language S P T R V) → Ends l → (p : T) (g : Grammar P T R) (s m : S) (k : List V) → small l.ranks (star p g) ≡ true → eval_at l g s ≡ Some (k, m) → l.size m < l.size s
turn_less l ok p g s m k sm e =
    let c = both_true (shallow l.ranks (star p g) l.ranks.levels) (small l.ranks g) sm in
    let a = star_takes l.ranks p g l.ranks.levels c.0 in
    let i : l.size m + 1 ≤ l.size s = subst (λ (z : Bool). l.size m + one_if z ≤ l.size s) a.2 (eval_shorter l ok g a.0 s (k, m) a.1 c.1 e) in omega arith

pub Loop-more : {S P T R V X : Type 0} (l : Language S P T R V) → Ends l → (view : X → List V) (p : T) (g : Grammar P T R) (total : Option (List V × S)) (n : ℕ) (s m : S) (front : List X) (x : X) → small l.ranks (star p g) ≡ true →
    l.holds p s ≡ true → eval_at l g s ≡ Some (view x, m) → Loop l.size (vals l (star p g)) view total n s front → Loop l.size (vals l (star p g)) view total n m (front ++ x ∷ [])
Loop-more l ok view p g total n s m front x sm e h before =
    let less = turn_less l ok p g s m (view x) sm h in
    Loop-turn l.size (vals l (star p g)) view total n s m front x (star_is l ok p g s sm ∙ rw (e, h) refl) (omega arith) before

-- a turn that doesn't read
pub Loop-fails : {S P T R V X : Type 0} (l : Language S P T R V) → Ends l → (view : X → List V) (p : T) (g : Grammar P T R) (total : Option (List V × S)) (n : ℕ) (s : S) (front : List X) → small l.ranks (star p g) ≡ true →
    l.holds p s ≡ true → eval_at l g s ≡ None → Loop l.size (vals l (star p g)) view total n s front → total ≡ None
Loop-fails l ok view p g total n s front sm e h before = Loop-rest l.size (vals l (star p g)) view total None n s front (star_is l ok p g s sm ∙ rw (e, h) refl) before

-- the same, where the fault may say nothing
pub Loop-fails_as : {S P T R V X : Type 0} (l : Language S P T R V) → Ends l → (view : X → List V) (p : T) (g : Grammar P T R) (total : Option (List V × S)) (n : ℕ) (b : Bool) (s : S) (front : List X) → small l.ranks (star p g) ≡ true →
    l.holds p s ≡ true → FailsAs b (eval_at l g s) → Loop l.size (vals l (star p g)) view total n s front → FailsAs b total
Loop-fails_as l ok view p g total n true s front sm e h before = tt
Loop-fails_as l ok view p g total n false s front sm e h before = Loop-fails l ok view p g total n s front sm e h before

-- no turn more
pub Loop-done : {S P T R V X : Type 0} (l : Language S P T R V) → Ends l → (view : X → List V) (p : T) (g : Grammar P T R) (total : Option (List V × S)) (n : ℕ) (s : S) (front : List X) → small l.ranks (star p g) ≡ true →
    l.holds p s ≡ false → Loop l.size (vals l (star p g)) view total n s front → total ≡ Some (views view front, s)
Loop-done {S} {V = V} l ok view p g total n s front sm e before =
    Loop-rest l.size (vals l (star p g)) view total (Some ([], s)) n s front (star_is l ok p g s sm ∙ rw e refl) before
    ∙ ap (λ (z : List V). Some (z, s)) (append-nil (views view front))
