-- A text spells a script exactly where its pieces read up to its end; else the place of the error is where they stop.
use Rattle.std.proofs.Common.{◌≡◌, ℕ, zero, suc, ◌<◌, false, cond, List, [], ◌∷◌, ◌++◌, length, Option, Some, None, refl, sym, ap, ◌∙◌, arith}
use Rattle.text_grammar.specs.Grammar.{rule}
use Rattle.text_grammar.specs.Derivations.{Tree, empty, leaf, both, first, second, more, node}
use Rattle.text_grammar.specs.Values.{kids}
use Rattle.text_grammar.specs.Place.{FrontAt}
use Rattle.text_grammar.proofs.Place as places
use Rattle.text_grammar.proofs.Twice.{vals_twice_sound, vals_twice_complete}
use Rattle.bash_grammar.specs.Shape.{Script}
use Rattle.bash_grammar.specs.Bytes.{Text, gap}
use Rattle.bash_grammar.specs.Tokens.{◌>>=◌}
use Rattle.bash_grammar.specs.State.{State, Found, start_at, fresh}
use Rattle.bash_grammar.specs.Nodes.{Node, chains_in}
use Rattle.bash_grammar.specs.Table.{Rule, piece}
use Rattle.bash_grammar.specs.Steps.{Known}
use Rattle.bash_grammar.specs.Spelling.{Lang, knowing, bash, levels, bash_with, PieceAt, chains_of, Reads}
use Rattle.bash_grammar.specs.Pieces.{is_empty, next_piece, nodes_in, nodes_from, stop_from}
use Rattle.bash_grammar.proofs.Known.{known_in, bash_knows, later}
use Rattle.bash_grammar.proofs.Pieces.{is_piece, pieces_read, piece_takes, next_less, length_ahead}
use Rattle.bash_grammar.proofs.Spelled.{none_at_end}

-- ---- nodes don't hang on what is known

kids_known : (k j : Known) (t : Tree Rule Node) → kids (knowing k) t ≡ kids (knowing j) t
kids_known k j empty = refl
kids_known k j (leaf x) = refl
kids_known k j (both t u) = ap (λ (xs : List Node). xs ++ kids (knowing k) u) (kids_known k j t) ∙ ap (λ (xs : List Node). kids (knowing j) t ++ xs) (kids_known k j u)
kids_known k j (first t) = kids_known k j t
kids_known k j (second t) = kids_known k j t
kids_known k j (more t u) = ap (λ (xs : List Node). xs ++ kids (knowing k) u) (kids_known k j t) ∙ ap (λ (xs : List Node). kids (knowing j) t ++ xs) (kids_known k j u)
kids_known k j (node r t) = ap (λ (xs : List Node). Rattle.bash_grammar.specs.Acts.act r xs) (kids_known k j t)

kids_in : (n : ℕ) (a : List Found) (t : Tree Rule Node) → kids (bash n a) t ≡ kids (knowing (known_in n a)) t
kids_in n a t = ap (λ (l : Lang). kids l t) (bash_knows n a)

pub kids_same : (a b : List Found) (t : Tree Rule Node) → kids (bash_with a) t ≡ kids (bash_with b) t
kids_same a b t = kids_in levels a t ∙ kids_known (known_in levels a) (known_in levels b) t ∙ sym (kids_in levels b t)

-- ---- the next piece

piece_sound : (s m : State) (k : List Node) → next_piece s ≡ Some (k, m) → (t : Tree Rule Node) × PieceAt t s m × (kids (bash_with []) t ≡ k)
unfolding next_piece
piece_sound s m k e =
    let a = vals_twice_sound bash_with (λ (e : State). e.found) [] later (rule piece) (fresh s) (k, m) e in
    (a.0, a.1, kids_same [] m.found a.0 ∙ a.2)

piece_complete : (t : Tree Rule Node) (s m : State) → PieceAt t s m → next_piece s ≡ Some (kids (bash_with []) t, m)
unfolding next_piece
piece_complete t s m h =
    vals_twice_complete bash_with (λ (e : State). e.found) [] later t (rule piece) (fresh s) m (λ a. (is_piece piece refl a).0) h
    ∙ ap (λ (xs : List Node). Some (xs, m)) (kids_same m.found [] t)

-- ---- nodes of all pieces

-- the pieces from s to the end of the text
abbrev Chain : State → List Node → Type 0
Chain s ns = (ts : List (Tree Rule Node)) × ((e : State) × FrontAt PieceAt ts s e × (gap e.bytes ≡ []) × (chains_of ts ≡ ns))

-- what a turn gives
abbrev turn : Text → Option (List Node × State) → (State → Option (List Node)) → Option (List Node)
turn g o further = cond (is_empty g) (Some []) (o >>= λ x. further x.1 >>= λ ns. Some (x.0 ++ ns))

sound_last : (s : State) (k : List Node) (m : State) (o : Option (List Node)) (ns : List Node) → next_piece s ≡ Some (k, m) → (o >>= λ ms. Some (k ++ ms)) ≡ Some ns → ((ms : List Node) → o ≡ Some ms → Chain m ms) → Chain s ns
sound_last s k m None ns e i further = absurd cc
sound_last s k m (Some ms) ns e i further =
    let p = piece_sound s m k e in
    let r = further ms refl in
    let same : k ++ ms ≡ ns = cc in
    (p.0 ∷ r.0, (r.1.0, (m, p.1, r.1.1), r.1.2, ap (λ (xs : List Node). xs ++ chains_of r.0) p.2 ∙ ap (λ (xs : List Node). k ++ xs) r.1.3 ∙ same))

sound_turn : (s : State) (ns : List Node) (g : Text) (o : Option (List Node × State)) (further : State → Option (List Node)) → gap s.bytes ≡ g → next_piece s ≡ o → turn g o further ≡ Some ns →
    ((m : State) (ms : List Node) → further m ≡ Some ms → Chain m ms) → Chain s ns
sound_turn s ns [] o further e i h on = let same : [] ≡ ns = cc in ([], (s, refl, e, same))
sound_turn s ns (b ∷ bs) None further e i h on = absurd cc
sound_turn s ns (b ∷ bs) (Some x) further e i h on = sound_last s x.0 x.1 (further x.1) ns i h (λ ms j. on x.1 ms j)

nodes_sound_in : (n : ℕ) (s : State) (ns : List Node) → nodes_in n s ≡ Some ns → Chain s ns
unfolding nodes_in
nodes_sound_in zero s ns e = absurd cc
nodes_sound_in (suc n) s ns e = sound_turn s ns (gap s.bytes) (next_piece s) (nodes_in n) refl refl e (λ m ms i. nodes_sound_in n m ms i)

-- a piece stands only where something is length_ahead
not_empty : (t : Tree Rule Node) (s m : State) (g : Text) → gap s.bytes ≡ g → PieceAt t s m → is_empty g ≡ false
not_empty t s m [] e h = absurd (none_at_end t s m e h)
not_empty t s m (b ∷ bs) e h = refl

nodes_complete_in : (n : ℕ) (ts : List (Tree Rule Node)) (s e : State) → FrontAt PieceAt ts s e → gap e.bytes ≡ [] → length s.bytes < n → nodes_in n s ≡ Some (chains_of ts)
unfolding nodes_in
nodes_complete_in zero ts s e h i lt = absurd (omega arith)
nodes_complete_in (suc n) [] s e h i lt = let g : gap s.bytes ≡ [] = ap (λ (z : State). gap z.bytes) h ∙ i in rw (g) refl
nodes_complete_in (suc n) (t ∷ ts) s e h i lt =
    let less = piece_takes t s h.0 h.1 in
    let g = not_empty t s h.0 (gap s.bytes) refl h.1 in
    let p = piece_complete t s h.0 h.1 in
    let r = nodes_complete_in n ts h.0 e h.2 i (omega arith) in
    rw (g, p, r) refl

pub reads_sound : (text : Text) (ns : List Node) → nodes_from (start_at text) ≡ Some ns → Reads text (chains_in ns)
unfolding nodes_from
reads_sound text ns e =
    let c = nodes_sound_in (suc (length text)) (start_at text) ns e in
    record { pieces = c.0; end = c.1.0; reads = c.1.1; ends = c.1.2; is = ap chains_in c.1.3 }

pub reads_complete : (text : Text) (x : Script) → Reads text x → (ns : List Node) × (nodes_from (start_at text) ≡ Some ns) × (chains_in ns ≡ x)
unfolding nodes_from
reads_complete text x h = (chains_of h.pieces, nodes_complete_in (suc (length text)) h.pieces (start_at text) h.end h.reads h.ends (omega arith), h.is)

pub reads_none : (text : Text) → nodes_from (start_at text) ≡ None → (x : Script) → Reads text x → ⊥
reads_none text e x h = let c = (reads_complete text x h).1 in absurd cc

-- ---- piece by piece

pub nodes_end : (s : State) → gap s.bytes ≡ [] → nodes_from s ≡ Some []
unfolding nodes_from nodes_in
nodes_end s e = rw (e) refl

pub nodes_none : (s : State) → is_empty (gap s.bytes) ≡ false → next_piece s ≡ None → nodes_from s ≡ None
unfolding nodes_from nodes_in
nodes_none s g e = rw (g, e) refl

enough_turn : (g : Text) (o : Option (List Node × State)) (f h : State → Option (List Node)) → ((x : List Node × State) → o ≡ Some x → f x.1 ≡ h x.1) → turn g o f ≡ turn g o h
enough_turn [] o f h e = refl
enough_turn (b ∷ bs) None f h e = refl
enough_turn (b ∷ bs) (Some x) f h e = ap (λ (r : Option (List Node)). r >>= λ ns. Some (x.0 ++ ns)) (e x refl)

enough : (n m : ℕ) (s : State) → length s.bytes < n → length s.bytes < m → nodes_in n s ≡ nodes_in m s
unfolding nodes_in
enough zero m s i j = absurd (omega arith)
enough (suc n) zero s i j = absurd (omega arith)
enough (suc n) (suc m) s i j = enough_turn (gap s.bytes) (next_piece s) (nodes_in n) (nodes_in m) (λ x e. let less = next_less s x.1 x.0 e in enough n m x.1 (omega arith) (omega arith))

pub nodes_more : (s m : State) (k : List Node) → next_piece s ≡ Some (k, m) → nodes_from s ≡ (nodes_from m >>= λ ns. Some (k ++ ns))
unfolding nodes_from nodes_in
nodes_more s m k e =
    let p = piece_sound s m k e in
    let g = not_empty p.0 s m (gap s.bytes) refl p.1 in
    let less = next_less s m k e in
    let f = enough (length s.bytes) (suc (length m.bytes)) m (omega arith) (omega arith) in
    rw (g, e) (ap (λ (r : Option (List Node)). r >>= λ ns. Some (k ++ ns)) f)

-- ---- where pieces stop

pub stop_more : (s m : State) (k : List Node) → next_piece s ≡ Some (k, m) → stop_from s ≡ stop_from m
unfolding stop_from
stop_more s m k e = places.front_more PieceAt length_ahead next_piece pieces_read s m k e

pub stop_none : (s : State) → next_piece s ≡ None → stop_from s ≡ s
unfolding stop_from
stop_none s e = places.front_done PieceAt length_ahead next_piece pieces_read s e
