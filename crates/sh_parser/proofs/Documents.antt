-- Here-documents, and the bodies that are expanded.
use Rattle.std.proofs.Common.{◌≡◌, ◌==◌, ℕ, zero, suc, ◌+◌, ◌-◌, Bool, true, false, List, [], ◌∷◌, ◌++◌, length, length-append, Option, Some, None, refl, sym, ap, ◌∙◌, arith}
use Rattle.std.specs.Prelude.{if◌then◌else◌}
use Rattle.std.proofs.lemmas.List.{map_push}
use Rattle.text_grammar.specs.Grammar.{rule, Leaf, said}
use Rattle.text_grammar.specs.Answers.{FailsAs}
use Rattle.text_grammar.specs.Values.{vals, stepped}
use Rattle.text_grammar.proofs.Tools.{some_is}
use Rattle.sh_grammar.specs.Shape as shape
use Rattle.sh_grammar.specs.Shape.{here_literal, here_expanded}
use Rattle.sh_grammar.specs.Bytes.{Text}
use Rattle.sh_grammar.specs.Bodies.{Owed, delimiter_for}
use Rattle.sh_grammar.specs.Expansions.{◌>>=◌}
use Rattle.sh_grammar.specs.State.{State, Node, start_at, aimed_node, word_in}
use Rattle.sh_grammar.specs.Table.{body_parts, here}
use Rattle.sh_grammar.specs.Tokens as tokens
use Rattle.sh_grammar.specs.Steps.{Known, run_step, expanded_parts, literal_parts, nth, here_read, here_after, here_node, word_place}
use Rattle.sh_grammar.specs.Spelling.{sh}
use Rattle.sh_parser.specs.declared.bodies.Owed.{Owed as OwedNote}
use Rattle.sh_parser.specs.declared.notes.Notes.{Notes}
use Rattle.sh_parser.specs.Owing.{owed_of}
use Rattle.sh_parser.specs.Views.{known, state, here_op, here_front, fronted, fronted_at}

-- ---- the operator and the delimiter

here_read_is : (k : Known) (s : State) (t : tokens.Op × Text) → here_read k s t ≡ (here_op t >>= λ x. here_after k s x.0 x.1)
here_read_is k s (tokens.End, r) = refl
here_read_is k s (tokens.Newline, r) = refl
here_read_is k s (tokens.Semi, r) = refl
here_read_is k s (tokens.SemiSemi, r) = refl
here_read_is k s (tokens.AndIf, r) = refl
here_read_is k s (tokens.OrIf, r) = refl
here_read_is k s (tokens.Pipe, r) = refl
here_read_is k s (tokens.Open, r) = refl
here_read_is k s (tokens.Close, r) = refl
here_read_is k s (tokens.Less, r) = refl
here_read_is k s (tokens.Great, r) = refl
here_read_is k s (tokens.DGreat, r) = refl
here_read_is k s (tokens.DLess, r) = refl
here_read_is k s (tokens.DLessDash, r) = refl
here_read_is k s (tokens.LessAnd, r) = refl
here_read_is k s (tokens.GreatAnd, r) = refl
here_read_is k s (tokens.Io, r) = refl
here_read_is k s (tokens.Word, r) = refl
here_read_is k s (tokens.Other, r) = refl

abbrev Taken : Type 0
Taken = Option (Leaf Node × State)

abbrev noted : State → Owed × Text → Node → Leaf Node × State
noted s x n = (said n, record s { bytes = x.1; owed = s.owed ++ x.0 ∷ []; named = suc s.named })

-- behind the front: the node of the body
abbrev bodied : Known → State → Owed × Text → Taken
bodied k s x = here_node k s x.0.literal >>= λ n. Some (noted s x n)

delimited_is : (k : Known) (s : State) (strips : Bool) (o : Option ((Text × Bool) × Text)) →
    (o >>= λ d. bodied k s (fronted strips d)) ≡ ((o >>= λ d. Some (fronted strips d)) >>= λ x. bodied k s x)
delimited_is k s strips None = refl
delimited_is k s strips (Some d) = refl

placed_is : (k : Known) (s : State) (strips : Bool) (o : Option Text) →
    (o >>= λ place. delimiter_for strips place >>= λ d. bodied k s (fronted strips d)) ≡ ((o >>= λ place. delimiter_for strips place >>= λ d. Some (fronted strips d)) >>= λ x. bodied k s x)
placed_is k s strips None = refl
placed_is k s strips (Some place) = delimited_is k s strips (delimiter_for strips place)

after_is : (k : Known) (s : State) (strips : Bool) (bytes : Text) → here_after k s strips bytes ≡ (fronted_at strips bytes >>= λ x. bodied k s x)
after_is k s strips bytes = placed_is k s strips (word_place bytes)

fronts_are : (k : Known) (s : State) (o : Option (Bool × Text)) → (o >>= λ x. here_after k s x.0 x.1) ≡ ((o >>= λ x. fronted_at x.0 x.1) >>= λ x. bodied k s x)
fronts_are k s None = refl
fronts_are k s (Some x) = after_is k s x.0 x.1

here_is : (k : Known) (s : State) → run_step k here s ≡ (here_front s.bytes >>= λ x. bodied k s x)
unfolding run_step
here_is k s = here_read_is k s (tokens.token s.bytes) ∙ fronts_are k s (here_op (tokens.token s.bytes))

pub front_fails : (q : Bool) (k : Known) (s : State) → FailsAs q (here_front s.bytes) → FailsAs q (stepped (run_step k here s))
front_fails true k s e = tt
front_fails false k s e = rw (here_is k s, e) refl

-- what the body is, where it is taken as it stands or expanded
abbrev pub document : Known → ℕ → Bool → Text → Option shape.Parts
document k depth literal body = if literal then Some (literal_parts body) else expanded_parts k depth body

abbrev pub operator : Bool → shape.RedirectOp
operator literal = if literal then here_literal else here_expanded

node_done : (k : Known) (s : State) (literal : Bool) (w : shape.Parts) → document k s.depth literal (nth k.bodies s.named) ≡ Some w → here_node k s literal ≡ Some (aimed_node (operator literal) w)
node_done k s true w e = ap (λ (z : shape.Parts). Some (aimed_node here_literal z)) (some_is (literal_parts (nth k.bodies s.named)) w e)
node_done k s false w e = rw e refl

node_fails : (k : Known) (s : State) (literal : Bool) → document k s.depth literal (nth k.bodies s.named) ≡ None → here_node k s literal ≡ None
node_fails k s true e = absurd cc
node_fails k s false e = rw e refl

pub body_fails : (q : Bool) (k : Known) (s : State) (x : Owed × Text) (body : Text) → here_front s.bytes ≡ Some x → body ≡ nth k.bodies s.named → FailsAs q (document k s.depth x.0.literal body) → FailsAs q (stepped (run_step k here s))
body_fails true k s x body e b d = tt
body_fails false k s x body e b d = rw (here_is k s, e, node_fails k s x.0.literal (ap (document k s.depth x.0.literal) (sym b) ∙ d)) refl

pub here_done : (k : Known) (s m : State) (x : Owed × Text) (body : Text) (w : shape.Parts) (op : shape.RedirectOp) → here_front s.bytes ≡ Some x → body ≡ nth k.bodies s.named → document k s.depth x.0.literal body ≡ Some w →
    op ≡ operator x.0.literal → m ≡ record s { bytes = x.1; owed = s.owed ++ x.0 ∷ []; named = suc s.named } → stepped (run_step k here s) ≡ Some (aimed_node op w ∷ [], m)
here_done k s m x body w op e b d o n = rw (here_is k s, e, node_done k s x.0.literal w (ap (document k s.depth x.0.literal) (sym b) ∙ d), o, n) refl

one_more : {A : Type 0} (xs : List A) (x : A) → length (xs ++ x ∷ []) ≡ suc (length xs)
one_more xs x = length-append xs (x ∷ []) ∙ omega arith

pub owed_more : (rest bytes : Text) (n : Notes) (x : OwedNote) → state rest (record n { owed = n.owed ++ x ∷ [] }) ≡ record (state bytes n) { bytes = rest; owed = (state bytes n).owed ++ owed_of x ∷ []; named = suc (state bytes n).named }
owed_more rest bytes n x =
    let e : length (n.owed ++ x ∷ []) + length n.found ≡ suc (length n.owed + length n.found) = let k = one_more n.owed x in omega arith in
    rw (map_push owed_of n.owed x, e) refl

-- ---- a body that is expanded

abbrev pub reads_body : ℕ → List Text → ℕ → Text → Option (List Node × State)
reads_body n ds depth text = vals (sh n ds) (rule body_parts) (start_at depth text)

pub no_levels : (n : ℕ) (ds : List Text) (depth : ℕ) (text : Text) → n ≡ 0 → (length text == 0) ≡ false → expanded_parts (known n ds) depth text ≡ None
unfolding known
no_levels zero ds depth [] e f = absurd cc
no_levels zero ds depth (b ∷ bs) e f = refl
no_levels (suc n) ds depth text e f = absurd (omega arith)

abbrev second : ℕ → ℕ → Text → List Text → Option shape.Parts
second n depth text found = reads_body n found depth text >>= λ y. Some (word_in y.0)

one_off : (n : ℕ) → suc n - 1 ≡ n
one_off n = omega arith

expanded_is : (n : ℕ) (ds : List Text) (depth : ℕ) (text : Text) → (n ≡ 0 → ⊥) → (length text == 0) ≡ false → expanded_parts (known n ds) depth text ≡ (reads_body (n - 1) [] depth text >>= λ x. second (n - 1) depth text x.1.found)
unfolding known
expanded_is zero ds depth text e f = absurd (e refl)
expanded_is (suc n) ds depth [] e f = absurd cc
expanded_is (suc n) ds depth (b ∷ bs) e f = rw (one_off n) refl

pub first_fails : (q : Bool) (n : ℕ) (ds : List Text) (depth : ℕ) (text : Text) → (n ≡ 0 → ⊥) → (length text == 0) ≡ false → FailsAs q (reads_body (n - 1) [] depth text) → FailsAs q (expanded_parts (known n ds) depth text)
first_fails true n ds depth text e f d = tt
first_fails false n ds depth text e f d = rw (expanded_is n ds depth text e f, d) refl

pub second_is : (n : ℕ) (ds : List Text) (depth : ℕ) (text : Text) (k : List Node) (m : State) → (n ≡ 0 → ⊥) → (length text == 0) ≡ false → reads_body (n - 1) [] depth text ≡ Some (k, m) →
    expanded_parts (known n ds) depth text ≡ second (n - 1) depth text m.found
second_is n ds depth text k m e f d = rw (expanded_is n ds depth text e f, d) refl

nothing : (xs : List Text) → length xs ≡ 0 → xs ≡ []
nothing [] e = refl
nothing (x ∷ xs) e = absurd (omega arith)

-- no here-document stands in it
pub once : (n : ℕ) (ds : List Text) (depth : ℕ) (text : Text) (k : List Node) (m : State) → (n ≡ 0 → ⊥) → (length text == 0) ≡ false → length m.found ≡ 0 → reads_body (n - 1) [] depth text ≡ Some (k, m) →
    expanded_parts (known n ds) depth text ≡ Some (word_in k)
once n ds depth text k m e f none d =
    second_is n ds depth text k m e f d ∙ rw (nothing m.found none, d) refl

pub second_fails : (q : Bool) (n : ℕ) (ds : List Text) (depth : ℕ) (text : Text) (k : List Node) (m : State) → (n ≡ 0 → ⊥) → (length text == 0) ≡ false → reads_body (n - 1) [] depth text ≡ Some (k, m) →
    FailsAs q (reads_body (n - 1) m.found depth text) → FailsAs q (expanded_parts (known n ds) depth text)
second_fails true n ds depth text k m e f d g = tt
second_fails false n ds depth text k m e f d g = second_is n ds depth text k m e f d ∙ rw g refl

pub twice : (n : ℕ) (ds : List Text) (depth : ℕ) (text : Text) (k l : List Node) (m o : State) → (n ≡ 0 → ⊥) → (length text == 0) ≡ false → reads_body (n - 1) [] depth text ≡ Some (k, m) →
    reads_body (n - 1) m.found depth text ≡ Some (l, o) → expanded_parts (known n ds) depth text ≡ Some (word_in l)
twice n ds depth text k l m o e f d g = second_is n ds depth text k m e f d ∙ rw g refl

known_bodies : (n : ℕ) (ds : List Text) → (known n ds).bodies ≡ ds
unfolding known
known_bodies zero ds = refl
known_bodies (suc n) ds = refl

-- the body that is known of the next here-document
pub known_body : (n : ℕ) (ds : List Text) (body : Text) (k : ℕ) → body ≡ nth ds k → body ≡ nth (known n ds).bodies k
known_body n ds body k e = e ∙ ap (λ (xs : List Text). nth xs k) (sym (known_bodies n ds))
