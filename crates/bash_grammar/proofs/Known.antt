-- What Bash reads with these bodies it reads with none known, with the same states behind.
use Rattle.std.proofs.Common.{◌≡◌, ℕ, zero, suc, Bool, true, false, List, [], Option, Some, None, refl, ap}
use Rattle.text_grammar.specs.Grammar.{Leaf, said}
use Rattle.text_grammar.specs.Later.{Allows, Later}
use Rattle.bash_grammar.specs.Bytes.{Text}
use Rattle.bash_grammar.specs.Tokens.{◌>>=◌, Op, DLess, DLessDash, token}
use Rattle.bash_grammar.specs.Bodies.{delimiter_for}
use Rattle.bash_grammar.specs.State.{State, Found}
use Rattle.bash_grammar.specs.Nodes.{Node}
use Rattle.bash_grammar.specs.Moves.{Step, op, key, line, ends, ampersand, pipe, item_op, test_op, option, name, assign_name, assign_op, digit, far, redirect_op, here_document, from_token, from_unit, to_here, to_word, to_regex, byte, tilde, literal, escaped, exact, ansi, nested_exact, nested_ansi, lone_quote, lone_ansi, lone_locale, open_locale, dollar, open_subst, open_process, lone_glob, open_old, open_glob, open_group, close_group, odd_ticks, open_ticks, close_ticks, open_length, open_pointed, open_named, open_special, members, open_key, names, fill_op, trim_op, case_op, replace_op, slice_op, transform_op, open_sum, open_double, close_double, begin_sum, end_sum, sum_bytes, begin_operand, end_operand, enter, leave}
use Rattle.bash_grammar.specs.Steps.{Known, Read, word_place, body_in, here_node, owes, here_read, run_step}
use Rattle.bash_grammar.specs.Spelling.{knowing, no_word, no_scan, expanded_by, scanned_by, bash, levels, bash_with}
use Rattle.bash_grammar.proofs.Ends.{ends_with}

-- no bodies are known
abbrev nothing : Known → Known
nothing k = record k { bodies = [] }

-- where the one reads, the other reads to the same state
abbrev Over : Read → Read → Type 0
Over o p = (e : State) (x : Leaf Node) → o ≡ Some (x, e) → (y : Leaf Node) × (p ≡ Some (y, e))

node_over : (m : State) (o p : Option Node) → ((y : Node) × (p ≡ Some y)) → Over (o >>= λ x. Some (said x, m)) (p >>= λ x. Some (said x, m))
node_over m None p h e x i = absurd cc
node_over m (Some z) None h e x i = let n = h.1 in absurd cc
node_over m (Some z) (Some y) h e x i = (said y, ap (λ (r : Option (Leaf Node × State)). r >>= λ (q : Leaf Node × State). Some (said y, q.1)) i)

-- a body that isn't known is read as no part
known_node : (k : Known) (s : State) (literal : Bool) → (y : Node) × (here_node (nothing k) s.depth (body_in s.named []) literal ≡ Some y)
known_node k s true = (_, refl)
known_node k s false = (_, refl)

-- the redirection to a here-document with this delimiter
abbrev delimited : Known → State → Bool → Option ((Text × Bool) × Text) → Read
delimited k s strips o = o >>= λ d. here_node k s.depth (body_in s.named k.bodies) d.0.1 >>= λ x. Some (said x, owes s strips d)

after_over : (k : Known) (s : State) (strips : Bool) (o : Option ((Text × Bool) × Text)) → Over (delimited k s strips o) (delimited (nothing k) s strips o)
after_over k s strips None e x i = absurd cc
after_over k s strips (Some d) e x i = node_over (owes s strips d) (here_node k s.depth (body_in s.named k.bodies) d.0.1) (here_node (nothing k) s.depth (body_in s.named []) d.0.1) (known_node k s d.0.1) e x i

place_over : (k : Known) (s : State) (strips : Bool) (o : Option Text) → Over (o >>= λ place. delimited k s strips (delimiter_for strips place)) (o >>= λ place. delimited (nothing k) s strips (delimiter_for strips place))
place_over k s strips None e x i = absurd cc
place_over k s strips (Some place) e x i = after_over k s strips (delimiter_for strips place) e x i

here_over : (k : Known) (s : State) (t : Op × Text) → Over (here_read k s t) (here_read (nothing k) s t)
here_over k s (DLess, rest) e x i = place_over k s false (word_place rest) e x i
here_over k s (DLessDash, rest) e x i = place_over k s true (word_place rest) e x i
here_over k s t e x i = absurd cc

step_over : (k : Known) (p : Step) (s : State) → Over (run_step k p s) (run_step (nothing k) p s)
unfolding run_step
step_over k (op a) s e x i = (x, i)
step_over k (key a) s e x i = (x, i)
step_over k line s e x i = (x, i)
step_over k ends s e x i = (x, i)
step_over k ampersand s e x i = (x, i)
step_over k pipe s e x i = (x, i)
step_over k item_op s e x i = (x, i)
step_over k test_op s e x i = (x, i)
step_over k (option a) s e x i = (x, i)
step_over k name s e x i = (x, i)
step_over k assign_name s e x i = (x, i)
step_over k assign_op s e x i = (x, i)
step_over k digit s e x i = (x, i)
step_over k far s e x i = (x, i)
step_over k redirect_op s e x i = (x, i)
step_over k here_document s e x i = here_over k s (token s.bytes) e x i
step_over k from_token s e x i = (x, i)
step_over k from_unit s e x i = (x, i)
step_over k to_here s e x i = (x, i)
step_over k to_word s e x i = (x, i)
step_over k to_regex s e x i = (x, i)
step_over k (byte a) s e x i = (x, i)
step_over k tilde s e x i = (x, i)
step_over k (literal a) s e x i = (x, i)
step_over k escaped s e x i = (x, i)
step_over k exact s e x i = (x, i)
step_over k ansi s e x i = (x, i)
step_over k nested_exact s e x i = (x, i)
step_over k nested_ansi s e x i = (x, i)
step_over k lone_quote s e x i = (x, i)
step_over k lone_ansi s e x i = (x, i)
step_over k lone_locale s e x i = (x, i)
step_over k open_locale s e x i = (x, i)
step_over k dollar s e x i = (x, i)
step_over k open_subst s e x i = (x, i)
step_over k open_process s e x i = (x, i)
step_over k lone_glob s e x i = (x, i)
step_over k open_old s e x i = (x, i)
step_over k open_glob s e x i = (x, i)
step_over k open_group s e x i = (x, i)
step_over k (close_group a) s e x i = (x, i)
step_over k odd_ticks s e x i = (x, i)
step_over k open_ticks s e x i = (x, i)
step_over k close_ticks s e x i = (x, i)
step_over k open_length s e x i = (x, i)
step_over k open_pointed s e x i = (x, i)
step_over k open_named s e x i = (x, i)
step_over k open_special s e x i = (x, i)
step_over k members s e x i = (x, i)
step_over k open_key s e x i = (x, i)
step_over k names s e x i = (x, i)
step_over k fill_op s e x i = (x, i)
step_over k trim_op s e x i = (x, i)
step_over k case_op s e x i = (x, i)
step_over k replace_op s e x i = (x, i)
step_over k slice_op s e x i = (x, i)
step_over k transform_op s e x i = (x, i)
step_over k open_sum s e x i = (x, i)
step_over k open_double s e x i = (x, i)
step_over k close_double s e x i = (x, i)
step_over k begin_sum s e x i = (x, i)
step_over k (end_sum a b) s e x i = (x, i)
step_over k (sum_bytes a) s e x i = (x, i)
step_over k begin_operand s e x i = (x, i)
step_over k end_operand s e x i = (x, i)
step_over k enter s e x i = (x, i)
step_over k leave s e x i = (x, i)

over : (k : Known) → Allows (knowing k) (knowing (nothing k))
over k = record { step = λ p s e x i. step_over k p s e x i; test = λ p s. refl; body = λ r. refl }

-- what is known, where bodies are at most n deep
abbrev pub known_in : ℕ → List Found → Known
known_in zero bodies = record { bodies = bodies; expand = no_word; scan = no_scan }
known_in (suc n) bodies = record { bodies = bodies; expand = expanded_by (bash n); scan = scanned_by (bash n []) }

pub bash_knows : (n : ℕ) (bodies : List Found) → bash n bodies ≡ knowing (known_in n bodies)
unfolding bash
bash_knows zero bodies = refl
bash_knows (suc n) bodies = refl

allows_in : (n : ℕ) (bodies : List Found) → Allows (bash n bodies) (bash n [])
unfolding bash
allows_in zero bodies = over (known_in zero bodies)
allows_in (suc n) bodies = over (known_in (suc n) bodies)

pub later : Later bash_with []
later = record { ends = ends_with; allows = λ bodies. allows_in levels bodies }
