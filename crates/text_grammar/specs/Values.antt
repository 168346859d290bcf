-- What a derivation says, as values of the language, and how it is read one level of the grammar at a time.
use Rattle.std.specs.Prelude.{Bool, List, [], ◌∷◌, ◌++◌, Option, Some, None, if◌then◌else◌}
use Rattle.text_grammar.specs.Grammar.{Grammar, pass, fail, step, seq, choose, star, rule, Leaf, quiet, said}
use Rattle.text_grammar.specs.Language.{Language}
use Rattle.text_grammar.specs.Derivations.{Tree, empty, leaf, both, first, second, more, node}
use Rattle.text_grammar.specs.Reading.{read, ◌>>=◌}

abbrev pub leaf_kids : {V : Type 0} → Leaf V → List V
leaf_kids quiet = []
leaf_kids (said x) = x ∷ []

-- the values of a derivation: what steps gave, in their order, and what each rule makes of what is below it
abbrev pub kids : {S P T R V : Type 0} → Language S P T R V → Tree R V → List V
kids l empty = []
kids l (leaf x) = leaf_kids x
kids l (both t u) = kids l t ++ kids l u
kids l (first t) = kids l t
kids l (second t) = kids l t
kids l (more t u) = kids l t ++ kids l u
kids l (node r t) = l.act r (kids l t)

abbrev pub seen : {S P T R V : Type 0} → Language S P T R V → Option (Tree R V × S) → Option (List V × S)
seen l None = None
seen l (Some x) = Some (kids l x.0, x.1)

-- what reading gives
unfoldable pub vals : {S P T R V : Type 0} → Language S P T R V → Grammar P T R → S → Option (List V × S)
vals l g s = seen l (read l g s)

-- one after the other
infixl 10 ◌&◌
abbrev pub ◌&◌ : {S V : Type 0} → Option (List V × S) → (S → Option (List V × S)) → Option (List V × S)
None & f = None
(Some x) & f = f x.1 >>= λ y. Some (x.0 ++ y.0, y.1)

abbrev pub stepped : {S V : Type 0} → Option (Leaf V × S) → Option (List V × S)
stepped None = None
stepped (Some x) = Some (leaf_kids x.0, x.1)

-- behind values that were read before
abbrev pub behind : {S V : Type 0} → List V → Option (List V × S) → Option (List V × S)
behind xs o = o >>= λ y. Some (xs ++ y.0, y.1)

-- ---- one level of the grammar: what steps give, what tests say, and what rules and repetitions read (`vals l`)

abbrev pub eval : {S P T R V : Type 0} → (P → S → Option (Leaf V × S)) → (T → S → Bool) → (Grammar P T R → S → Option (List V × S)) → Grammar P T R → S → Option (List V × S)
eval run test deeper pass s = Some ([], s)
eval run test deeper fail s = None
eval run test deeper (step k) s = stepped (run k s)
eval run test deeper (seq g h) s = eval run test deeper g s & eval run test deeper h
eval run test deeper (choose p g h) s = if test p s then eval run test deeper g s else eval run test deeper h s
eval run test deeper (star p g) s = deeper (star p g) s
eval run test deeper (rule r) s = deeper (rule r) s

abbrev pub with_leaf : {V : Type 0} → List V → Leaf V → List V
with_leaf xs quiet = xs
with_leaf xs (said x) = xs ++ (x ∷ [])

-- the same, behind what was read before
abbrev pub go : {S P T R V : Type 0} → (P → S → Option (Leaf V × S)) → (T → S → Bool) → (Grammar P T R → S → Option (List V × S)) → Grammar P T R → List V → S → Option (List V × S)
go run test deeper pass xs s = Some (xs, s)
go run test deeper fail xs s = None
go run test deeper (step k) xs s = run k s >>= λ y. Some (with_leaf xs y.0, y.1)
go run test deeper (seq g h) xs s = go run test deeper g xs s >>= λ y. go run test deeper h y.0 y.1
go run test deeper (choose p g h) xs s = if test p s then go run test deeper g xs s else go run test deeper h xs s
go run test deeper (star p g) xs s = behind xs (deeper (star p g) s)
go run test deeper (rule r) xs s = behind xs (deeper (rule r) s)

-- what a rule makes of what its body read
abbrev pub done : {S V : Type 0} → (List V → List V) → Option (List V × S) → Option (List V × S)
done act o = o >>= λ y. Some (act y.0, y.1)
