-- Trees that hold what only comes later in the text: it is read once to find that, and once for the tree.
use Rattle.std.proofs.Common.{◌≡◌, ℕ, List, [], ◌∷◌, Some, None, sym, ap, subst, ◌∙◌}
use Rattle.text_grammar.specs.Grammar.{Grammar, pass, step, seq, choose, star, rule}
use Rattle.text_grammar.specs.Language.{Language, Ends, IsShallow}
use Rattle.text_grammar.specs.Derivations.{Tree, empty, leaf, both, first, second, more, node, At}
use Rattle.text_grammar.specs.Reading.{read, ◌>>=◌}
use Rattle.text_grammar.specs.Values.{kids, vals}
use Rattle.text_grammar.specs.Place.{FrontAt, IsPlace, PieceAt}
use Rattle.text_grammar.specs.Later.{Allows, Alike, Later, AtWith, read_twice, vals_twice}
use Rattle.text_grammar.proofs.Tools.{bind_some}
use Rattle.text_grammar.proofs.Sound.{one_tree}
use Rattle.text_grammar.proofs.Bound.{complete, sound}
use Rattle.text_grammar.proofs.Rules.{vals_sound, vals_complete}

-- ---- two languages

-- the other language reads what this one reads
pub at_allowed : {S P T R V W : Type 0} (l : Language S P T R V) (m : Language S P T R W) → Allows l m → (t : Tree R V) (g : Grammar P T R) (s e : S) → At l t g s e → (u : Tree R W) × At m u g s e
at_allowed l m over empty pass s e h = (empty, h)
at_allowed l m over empty (star p g) s e h = (empty, (sym (over.test p s) ∙ h.0, h.1))
at_allowed l m over (leaf x) (step k) s e h = let a = over.step k s e x h in (leaf a.0, a.1)
at_allowed l m over (both t u) (seq g h) s e a =
    let i = at_allowed l m over t g s a.0 a.1 in
    let j = at_allowed l m over u h a.0 e a.2 in
    (both i.0 j.0, (a.0, i.1, j.1))
at_allowed l m over (first t) (choose p g h) s e a = let i = at_allowed l m over t g s e a.1 in (first i.0, (sym (over.test p s) ∙ a.0, i.1))
at_allowed l m over (second t) (choose p g h) s e a = let i = at_allowed l m over t h s e a.1 in (second i.0, (sym (over.test p s) ∙ a.0, i.1))
at_allowed l m over (more t u) (star p g) s e a =
    let i = at_allowed l m over t g s a.1.0 a.1.1 in
    let j = at_allowed l m over u (star p g) a.1.0 e a.1.2 in
    (more i.0 j.0, (sym (over.test p s) ∙ a.0, (a.1.0, i.1, j.1)))
at_allowed {P = P} {T = T} {R = R} l m over (node q t) (rule r) s e a =
    let i = at_allowed l m over t (l.body r) s e a.1 in (node q i.0, (a.0, subst (λ (z : Grammar P T R). At m i.0 z s e) (over.body r) i.1))
at_allowed l m over t g s e a = absurd a

-- the same of reading
pub read_allowed : {S P T R V W : Type 0} (l : Language S P T R V) (m : Language S P T R W) → Allows l m → Ends m → (g : Grammar P T R) (s : S) (x : Tree R V × S) → IsShallow m g → read l g s ≡ Some x → (u : Tree R W) × (read m g s ≡ Some (u, x.1))
read_allowed l m over ok g s x f e =
    let i = at_allowed l m over x.0 g s x.1 (sound l g s x e) in (i.0, complete m ok i.0 g s x.1 f i.1)

-- what the other language doesn't read, this one doesn't
pub none_allowed : {S P T R V W : Type 0} (l : Language S P T R V) (m : Language S P T R W) → Allows l m → Ends m → (g : Grammar P T R) (s : S) → IsShallow m g → read m g s ≡ None → (t : Tree R V) (e : S) → At l t g s e → ⊥
none_allowed l m over ok g s f n t e h =
    let a = at_allowed l m over t g s e h in
    let c = complete m ok a.0 g s e f a.1 in absurd cc

-- both readings end at one state
pub end_allowed : {S P T R V W : Type 0} (l : Language S P T R V) (m : Language S P T R W) → Allows l m → (t : Tree R V) (u : Tree R W) (g : Grammar P T R) (s a b : S) → At l t g s a → At m u g s b → a ≡ b
end_allowed l m over t u g s a b p q = let i = at_allowed l m over t g s a p in (one_tree m i.0 u g s a b i.1 q).1

front_allowed : {S P T R V W : Type 0} (l : Language S P T R V) (m : Language S P T R W) → Allows l m → (piece : Grammar P T R) (ts : List (Tree R V)) (s e : S) → FrontAt (PieceAt l piece) ts s e → (us : List (Tree R W)) × FrontAt (PieceAt m piece) us s e
front_allowed l m over piece [] s e h = ([], h)
front_allowed l m over piece (t ∷ ts) s e h =
    let i = at_allowed l m over t piece s h.0 h.1 in
    let j = front_allowed l m over piece ts h.0 e h.2 in
    (i.0 ∷ j.0, (h.0, i.1, j.1))

-- languages that are alike have one place of an error
pub place_alike : {S P T R V W : Type 0} (l : Language S P T R V) (m : Language S P T R W) → Alike l m → (piece : Grammar P T R) (s : S) (left : S → ℕ) (whole place : ℕ) → IsPlace (PieceAt l piece) s left whole place → IsPlace (PieceAt m piece) s left whole place
place_alike l m same piece s left whole place h =
    let f = front_allowed l m same.there piece h.before s h.end h.reads in
    record { before = f.0; end = h.end; reads = f.1; longest = λ t e a. (let i = at_allowed m l same.back t piece h.end e a in h.longest i.0 e i.1); is = h.is }

-- ---- a language for each of what may come

pub one_tree_with : {A S P T R V : Type 0} (l : A → Language S P T R V) (found : S → A) (none : A) → Later l none → (t u : Tree R V) (g : Grammar P T R) (s a b : S) →
    AtWith l found t g s a → AtWith l found u g s b → (t ≡ u) × (a ≡ b)
one_tree_with {S = S} l found none ok t u g s a b p q =
    let i = at_allowed (l (found a)) (l none) (ok.allows (found a)) t g s a p in
    let e : b ≡ a = end_allowed (l (found b)) (l none) (ok.allows (found b)) u i.0 g s b a q i.1 in
    let r : At (l (found a)) u g s a = subst (λ (z : S). At (l (found z)) u g s z) e q in
    ((one_tree (l (found a)) t u g s a a p r).0, sym e)

-- the first reading finds the end of each tree
first_finds : {A S P T R V : Type 0} (l : A → Language S P T R V) (found : S → A) (none : A) → Later l none → (t : Tree R V) (g : Grammar P T R) (s e : S) → IsShallow (l none) g → AtWith l found t g s e →
    (u : Tree R V) × (read (l none) g s ≡ Some (u, e))
first_finds l found none ok t g s e f h =
    let i = at_allowed (l (found e)) (l none) (ok.allows (found e)) t g s e h in
    (i.0, complete (l none) (ok.ends none) i.0 g s e f i.1)

-- both readings together give the tree, if there is one
pub twice_complete : {A S P T R V : Type 0} (l : A → Language S P T R V) (found : S → A) (none : A) → Later l none → (t : Tree R V) (g : Grammar P T R) (s e : S) → ((a : A) → IsShallow (l a) g) → AtWith l found t g s e →
    read_twice l found none g s ≡ Some (t, e)
unfolding read_twice
twice_complete l found none ok t g s e f h =
    let i = first_finds l found none ok t g s e (f none) h in
    let j = complete (l (found e)) (ok.ends (found e)) t g s e (f (found e)) h in
    ap (λ o. o >>= λ x. read (l (found x.1)) g s) i.1 ∙ j

-- a second reading ends where the first did
second_end : {A S P T R V : Type 0} (l : A → Language S P T R V) (none : A) → Later l none → (a : A) (g : Grammar P T R) (s : S) (x y : Tree R V × S) → read (l none) g s ≡ Some x → read (l a) g s ≡ Some y → y.1 ≡ x.1
second_end l none ok a g s x y p q = end_allowed (l a) (l none) (ok.allows a) y.0 x.0 g s y.1 x.1 (sound (l a) g s y q) (sound (l none) g s x p)

pub twice_sound : {A S P T R V : Type 0} (l : A → Language S P T R V) (found : S → A) (none : A) → Later l none → (g : Grammar P T R) (s : S) (y : Tree R V × S) → read_twice l found none g s ≡ Some y → AtWith l found y.0 g s y.1
unfolding read_twice
twice_sound {S = S} l found none ok g s y e =
    let a = bind_some (read (l none) g s) (λ x. read (l (found x.1)) g s) y e in
    let k : y.1 ≡ a.0.1 = second_end l none ok (found a.0.1) g s a.0 y a.1 a.2 in
    subst (λ (z : S). At (l (found z)) y.0 g s y.1) (sym k) (sound (l (found a.0.1)) g s y a.2)

-- where the first reading fails, and where the second does, there is no tree
pub twice_none : {A S P T R V : Type 0} (l : A → Language S P T R V) (found : S → A) (none : A) → Later l none → (g : Grammar P T R) (s : S) → ((a : A) → IsShallow (l a) g) → read_twice l found none g s ≡ None → (t : Tree R V) (e : S) → AtWith l found t g s e → ⊥
twice_none l found none ok g s f n t e h = let c = twice_complete l found none ok t g s e f h in absurd cc

-- the same of the values
pub vals_twice_complete : {A S P T R V : Type 0} (l : A → Language S P T R V) (found : S → A) (none : A) → Later l none → (t : Tree R V) (g : Grammar P T R) (s e : S) → ((a : A) → IsShallow (l a) g) → AtWith l found t g s e →
    vals_twice l found none g s ≡ Some (kids (l (found e)) t, e)
unfolding vals_twice
vals_twice_complete l found none ok t g s e f h =
    let i = at_allowed (l (found e)) (l none) (ok.allows (found e)) t g s e h in
    let j = vals_complete (l none) (ok.ends none) i.0 g s e (f none) i.1 in
    let k = vals_complete (l (found e)) (ok.ends (found e)) t g s e (f (found e)) h in
    ap (λ o. o >>= λ x. vals (l (found x.1)) g s) j ∙ k

pub vals_twice_sound : {A S P T R V : Type 0} (l : A → Language S P T R V) (found : S → A) (none : A) → Later l none → (g : Grammar P T R) (s : S) (y : List V × S) → vals_twice l found none g s ≡ Some y →
    (t : Tree R V) × AtWith l found t g s y.1 × (kids (l (found y.1)) t ≡ y.0)
unfolding vals_twice
vals_twice_sound {S = S} {R = R} {V = V} l found none ok g s y e =
    let a = bind_some (vals (l none) g s) (λ x. vals (l (found x.1)) g s) y e in
    let p = vals_sound (l none) g s a.0 a.1 in
    let q = vals_sound (l (found a.0.1)) g s y a.2 in
    let k : y.1 ≡ a.0.1 = end_allowed (l (found a.0.1)) (l none) (ok.allows (found a.0.1)) q.0 p.0 g s y.1 a.0.1 q.1 p.1 in
    subst (λ (z : S). (t : Tree R V) × At (l (found z)) t g s y.1 × (kids (l (found z)) t ≡ y.0)) (sym k) q

pub vals_twice_none : {A S P T R V : Type 0} (l : A → Language S P T R V) (found : S → A) (none : A) → Later l none → (g : Grammar P T R) (s : S) → ((a : A) → IsShallow (l a) g) → vals_twice l found none g s ≡ None → (t : Tree R V) (e : S) → AtWith l found t g s e → ⊥
vals_twice_none l found none ok g s f n t e h = let c = vals_twice_complete l found none ok t g s e f h in absurd cc
