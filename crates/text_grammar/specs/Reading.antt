-- Reading from left to right.
use Rattle.std.specs.Prelude.{ℕ, zero, suc, ◌+◌, ◌*◌, Option, Some, None, if◌then◌else◌}
use Rattle.text_grammar.specs.Grammar.{Grammar, pass, fail, step, seq, choose, star, rule}
use Rattle.text_grammar.specs.Language.{Language}
use Rattle.text_grammar.specs.Derivations.{Tree, empty, leaf, both, first, second, more, node}

infixl 10 ◌>>=◌
abbrev pub ◌>>=◌ : {A B : Type 0} → Option A → (A → Option B) → Option B
(Some x) >>= f = f x
None >>= f = None

-- in at most so many levels of the tree
unfoldable pub parse : {S P T R V : Type 0} → Language S P T R V → ℕ → Grammar P T R → S → Option (Tree R V × S)
parse l zero g s = None
parse l (suc n) pass s = Some (empty, s)
parse l (suc n) fail s = None
parse l (suc n) (step k) s = l.run_step k s >>= λ x. Some (leaf x.0, x.1)
parse l (suc n) (seq g h) s = parse l n g s >>= λ x. parse l n h x.1 >>= λ y. Some (both x.0 y.0, y.1)
parse l (suc n) (choose p g h) s = if l.holds p s then (parse l n g s >>= λ x. Some (first x.0, x.1)) else (parse l n h s >>= λ x. Some (second x.0, x.1))
parse l (suc n) (star p g) s = if l.holds p s then (parse l n g s >>= λ x. parse l n (star p g) x.1 >>= λ y. Some (more x.0 y.0, y.1)) else Some (empty, s)
parse l (suc n) (rule r) s = parse l n (l.body r) s >>= λ x. Some (node r x.0, x.1)

-- as many levels as any tree of these bytes has
unfoldable pub read : {S P T R V : Type 0} → Language S P T R V → Grammar P T R → S → Option (Tree R V × S)
read l g s = parse l (l.ranks.levels + l.ranks.weight * l.size s) g s
