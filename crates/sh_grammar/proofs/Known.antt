-- What sh reads with these bodies it reads with none known, with the same states behind.
use Rattle.std.proofs.Common.{◌≡◌, ℕ, zero, suc, Bool, true, false, List, [], ◌∷◌, ◌++◌, Option, Some, None, refl, ap}
use Rattle.text_grammar.specs.Grammar.{Leaf, said, rule}
use Rattle.text_grammar.specs.Values.{vals}
use Rattle.text_grammar.specs.Later.{Allows, Later}
use Rattle.sh_grammar.specs.Shape.{Parts}
use Rattle.sh_grammar.specs.Bytes.{Text}
use Rattle.sh_grammar.specs.Tokens.{Op, DLess, DLessDash, token}
use Rattle.sh_grammar.specs.Expansions.{◌>>=◌}
use Rattle.sh_grammar.specs.Bodies.{delimiter_for}
use Rattle.sh_grammar.specs.State.{State, start_at, Node, word_in}
use Rattle.sh_grammar.specs.Table.{body_parts, Step, op, key, line, ends, name, assign_name, descriptor, file_op, here, copy, to_word, tilde, literal, escaped, exact, quote, dollar, closed, open_head, open_subst, close_brace, open_sum, sum_bytes, operand, sum_open, sum_close, close_sum, enter, leave}
use Rattle.sh_grammar.specs.Steps.{Known, Read, word_place, here_node, here_read, run_step}
use Rattle.sh_grammar.specs.Spelling.{knowing, no_parts, sh, levels, sh_with}
use Rattle.sh_grammar.proofs.Ends.{ends_with}

-- no bodies are known
abbrev nothing : (ℕ → Text → Option Parts) → Known
nothing f = record { bodies = []; expand = f }

-- where the one reads, the other reads to the same state
abbrev Over : Read → Read → Type 0
Over o p = (e : State) (x : Leaf Node) → o ≡ Some (x, e) → (y : Leaf Node) × (p ≡ Some (y, e))

node_over : (m : State) (o p : Option Node) → ((y : Node) × (p ≡ Some y)) → Over (o >>= λ x. Some (said x, m)) (p >>= λ x. Some (said x, m))
node_over m None p h e x i = absurd cc
node_over m (Some z) None h e x i = let n = h.1 in absurd cc
node_over m (Some z) (Some y) h e x i = (said y, ap (λ (r : Option (Leaf Node × State)). r >>= λ (q : Leaf Node × State). Some (said y, q.1)) i)

-- a body that isn't known is read as no part
known_node : (f : ℕ → Text → Option Parts) (s : State) (literal : Bool) → (y : Node) × (here_node (nothing f) s literal ≡ Some y)
known_node f s true = (_, refl)
known_node f s false = (_, refl)

-- what stands behind a delimiter
abbrev named_at : State → Bool → (Text × Bool) × Text → State
named_at s strips d = record s { bytes = d.1; owed = s.owed ++ record { delimiter = d.0.0; literal = d.0.1; strips = strips } ∷ []; named = suc s.named }

-- the redirection to a here-document with this delimiter
abbrev delimited : Known → State → Bool → Option ((Text × Bool) × Text) → Read
delimited k s strips o = o >>= λ d. here_node k s d.0.1 >>= λ x. Some (said x, named_at s strips d)

after_over : (k : Known) (f : ℕ → Text → Option Parts) (s : State) (strips : Bool) (o : Option ((Text × Bool) × Text)) → Over (delimited k s strips o) (delimited (nothing f) s strips o)
after_over k f s strips None e x i = absurd cc
after_over k f s strips (Some d) e x i = node_over (named_at s strips d) (here_node k s d.0.1) (here_node (nothing f) s d.0.1) (known_node f s d.0.1) e x i

place_over : (k : Known) (f : ℕ → Text → Option Parts) (s : State) (strips : Bool) (o : Option Text) → Over (o >>= λ place. delimited k s strips (delimiter_for strips place)) (o >>= λ place. delimited (nothing f) s strips (delimiter_for strips place))
place_over k f s strips None e x i = absurd cc
place_over k f s strips (Some place) e x i = after_over k f s strips (delimiter_for strips place) e x i

here_over : (k : Known) (f : ℕ → Text → Option Parts) (s : State) (t : Op × Text) → Over (here_read k s t) (here_read (nothing f) s t)
here_over k f s (DLess, rest) e x i = place_over k f s false (word_place rest) e x i
here_over k f s (DLessDash, rest) e x i = place_over k f s true (word_place rest) e x i
here_over k f s t e x i = absurd cc

step_over : (k : Known) (f : ℕ → Text → Option Parts) (p : Step) (s : State) → Over (run_step k p s) (run_step (nothing f) p s)
unfolding run_step
step_over k f (op o) s e x i = (x, i)
step_over k f (key w) s e x i = (x, i)
step_over k f line s e x i = (x, i)
step_over k f ends s e x i = (x, i)
step_over k f name s e x i = (x, i)
step_over k f assign_name s e x i = (x, i)
step_over k f descriptor s e x i = (x, i)
step_over k f file_op s e x i = (x, i)
step_over k f here s e x i = here_over k f s (token s.bytes) e x i
step_over k f copy s e x i = (x, i)
step_over k f to_word s e x i = (x, i)
step_over k f tilde s e x i = (x, i)
step_over k f (literal c) s e x i = (x, i)
step_over k f (escaped c) s e x i = (x, i)
step_over k f exact s e x i = (x, i)
step_over k f quote s e x i = (x, i)
step_over k f dollar s e x i = (x, i)
step_over k f closed s e x i = (x, i)
step_over k f open_head s e x i = (x, i)
step_over k f open_subst s e x i = (x, i)
step_over k f close_brace s e x i = (x, i)
step_over k f open_sum s e x i = (x, i)
step_over k f sum_bytes s e x i = (x, i)
step_over k f operand s e x i = (x, i)
step_over k f sum_open s e x i = (x, i)
step_over k f sum_close s e x i = (x, i)
step_over k f close_sum s e x i = (x, i)
step_over k f enter s e x i = (x, i)
step_over k f leave s e x i = (x, i)

over : (k : Known) (f : ℕ → Text → Option Parts) → Allows (knowing k) (knowing (nothing f))
over k f = record { step = λ p s e x i. step_over k f p s e x i; test = λ p s. refl; body = λ r. refl }

-- how a body is read, where bodies in it are at most n deep
abbrev pub expand_in : ℕ → ℕ → Text → Option Parts
expand_in n depth text = vals (sh n []) (rule body_parts) (start_at depth text) >>= λ x. vals (sh n x.1.found) (rule body_parts) (start_at depth text) >>= λ y. Some (word_in y.0)

-- what is known, where bodies are at most n deep
abbrev pub known_in : ℕ → List Text → Known
known_in zero bodies = record { bodies = bodies; expand = no_parts }
known_in (suc n) bodies = record { bodies = bodies; expand = expand_in n }

pub sh_knows : (n : ℕ) (bodies : List Text) → sh n bodies ≡ knowing (known_in n bodies)
unfolding sh
sh_knows zero bodies = refl
sh_knows (suc n) bodies = refl

pub allows_in : (n : ℕ) (bodies : List Text) → Allows (sh n bodies) (sh n [])
unfolding sh
allows_in zero bodies = over (known_in zero bodies) no_parts
allows_in (suc n) bodies = over (known_in (suc n) bodies) (expand_in n)

pub later : Later sh_with []
later = record { ends = ends_with; allows = λ bodies. allows_in levels bodies }
