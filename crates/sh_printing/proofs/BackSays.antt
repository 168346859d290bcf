-- Derivations, put together with what they say.
use Rattle.std.proofs.Common.{◌≡◌, true, false, List, [], ◌∷◌, ◌++◌, Some, refl, ap, subst, ◌∙◌}
use Rattle.text_grammar.specs.Grammar.{pass, step, seq, choose, star, rule, quiet, said}
use Rattle.text_grammar.specs.Derivations.{Tree, empty, leaf, both, first, second, more, node, At}
use Rattle.text_grammar.specs.Values.{kids}
use Rattle.sh_grammar.specs.State.{State, Node}
use Rattle.sh_grammar.specs.Table.{Step, Test, Rule, Gram, body}
use Rattle.sh_grammar.specs.Steps.{Known, run_step, holds}
use Rattle.sh_grammar.specs.Acts.{act}
use Rattle.sh_grammar.specs.Spelling.{knowing}

-- from s to e the grammar spells something that says these nodes
pub record Says (k : Known) (g : Gram) (s e : State) (xs : List Node) : Type 0 where
  pub tree : Tree Rule Node
  pub spelled : At (knowing k) tree g s e
  pub says : kids (knowing k) tree ≡ xs

pub nothing : (k : Known) (s : State) → Says k pass s s []
nothing k s = record { tree = empty; spelled = refl; says = refl }

pub silent_step : {k : Known} {p : Step} {s e : State} → run_step k p s ≡ Some (quiet, e) → Says k (step p) s e []
silent_step h = record { tree = leaf quiet; spelled = h; says = refl }

pub said_step : {k : Known} {p : Step} {s e : State} {x : Node} → run_step k p s ≡ Some (said x, e) → Says k (step p) s e (x ∷ [])
said_step {x = x} h = record { tree = leaf (said x); spelled = h; says = refl }

infixr 8 ◌then◌
pub ◌then◌ : {k : Known} {g h : Gram} {s m e : State} {xs ys : List Node} → Says k g s m xs → Says k h m e ys → Says k (seq g h) s e (xs ++ ys)
◌then◌ {k} {m = m} {xs = xs} a b = record { tree = both a.tree b.tree; spelled = (m, a.spelled, b.spelled); says = ap (λ (z : List Node). z ++ kids (knowing k) b.tree) a.says ∙ ap (λ (z : List Node). xs ++ z) b.says }

pub the_first : {k : Known} {p : Test} {g h : Gram} {s e : State} {xs : List Node} → holds p s ≡ true → Says k g s e xs → Says k (choose p g h) s e xs
the_first t a = record { tree = first a.tree; spelled = (t, a.spelled); says = a.says }

pub the_second : {k : Known} {p : Test} {g h : Gram} {s e : State} {xs : List Node} → holds p s ≡ false → Says k h s e xs → Says k (choose p g h) s e xs
the_second t a = record { tree = second a.tree; spelled = (t, a.spelled); says = a.says }

pub by_rule : {k : Known} (r : Rule) {s e : State} {xs ys : List Node} → act r xs ≡ ys → Says k (body r) s e xs → Says k (rule r) s e ys
by_rule r is a = record { tree = node r a.tree; spelled = (refl, a.spelled); says = ap (act r) a.says ∙ is }

pub no_more : {k : Known} {p : Test} {g : Gram} {s : State} → holds p s ≡ false → Says k (star p g) s s []
no_more t = record { tree = empty; spelled = (t, refl); says = refl }

pub one_more : {k : Known} {p : Test} {g : Gram} {s m e : State} {xs ys : List Node} → holds p s ≡ true → Says k g s m xs → Says k (star p g) m e ys → Says k (star p g) s e (xs ++ ys)
one_more {k} {m = m} {xs = xs} t a b = record { tree = more a.tree b.tree; spelled = (t, (m, a.spelled, b.spelled)); says = ap (λ (z : List Node). z ++ kids (knowing k) b.tree) a.says ∙ ap (λ (z : List Node). xs ++ z) b.says }

-- the same at a state that is the same, to one, and with nodes that are
pub at_state : {k : Known} {g : Gram} {s t e : State} {xs : List Node} → s ≡ t → Says k g s e xs → Says k g t e xs
at_state {k} {g} {e = e} {xs = xs} h a = subst (λ (z : State). Says k g z e xs) h a

pub to_state : {k : Known} {g : Gram} {s e f : State} {xs : List Node} → e ≡ f → Says k g s e xs → Says k g s f xs
to_state {k} {g} {s = s} {xs = xs} h a = subst (λ (z : State). Says k g s z xs) h a

pub saying : {k : Known} {g : Gram} {s e : State} {xs ys : List Node} → xs ≡ ys → Says k g s e xs → Says k g s e ys
saying {k} {g} {s = s} {e = e} h a = subst (λ (z : List Node). Says k g s e z) h a
