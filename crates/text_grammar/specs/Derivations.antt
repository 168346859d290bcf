-- Which text spells which tree.
use Rattle.std.specs.Prelude.{◌≡◌, true, false, Some}
use Rattle.text_grammar.specs.Grammar.{Grammar, pass, step, seq, choose, star, rule, Leaf}
use Rattle.text_grammar.specs.Language.{Language}

-- A derivation: which way each choice and repetition went, and what each step gave.
pub data Tree (R V : Type 0) : Type 0 where
  empty : Tree R V
  leaf : Leaf V → Tree R V
  both : Tree R V → Tree R V → Tree R V
  first : Tree R V → Tree R V
  second : Tree R V → Tree R V
  more : Tree R V → Tree R V → Tree R V
  node : R → Tree R V → Tree R V

-- From s to e the tree is spelled by the grammar.
abbrev pub At : {S P T R V : Type 0} → Language S P T R V → Tree R V → Grammar P T R → S → S → Type 0
At l empty pass s e = s ≡ e
At l empty (star p g) s e = (l.holds p s ≡ false) × (s ≡ e)
At l (leaf x) (step k) s e = l.run_step k s ≡ Some (x, e)
At {S} l (both t u) (seq g h) s e = (m : S) × At l t g s m × At l u h m e
At l (first t) (choose p g h) s e = (l.holds p s ≡ true) × At l t g s e
At l (second t) (choose p g h) s e = (l.holds p s ≡ false) × At l t h s e
At {S} l (more t u) (star p g) s e = (l.holds p s ≡ true) × ((m : S) × At l t g s m × At l u (star p g) m e)
At l (node q t) (rule r) s e = (q ≡ r) × At l t (l.body r) s e
At l t g s e = ⊥
