-- A text is read piece by piece.
use Rattle.std.proofs.Common.{◌≡◌, ◌==◌, ℕ, ◌-◌, ◌<◌, ◌≤◌, Bool, true, false, List, [], ◌∷◌, ◌++◌, length, Option, Some, None, refl, sym, ap, subst, ◌∙◌, append_assoc, append-nil, arith}
use Rattle.std.specs.Prelude.{Result, Ok, Err}
use Rattle.std.proofs.lemmas.Bool.Decides.{nat_tests}
use Rattle.text_grammar.specs.Grammar.{rule}
use Rattle.text_grammar.specs.Values.{kids, vals}
use Rattle.text_grammar.specs.Later.{vals_twice}
use Rattle.text_grammar.specs.Place.{goes_on, front, front_in}
use Rattle.text_grammar.specs.Answers.{FailsAs}
use Rattle.text_grammar.proofs.Tools.{some_is}
use Rattle.text_grammar.proofs.Rules.{vals_sound, vals_complete}
use Rattle.text_grammar.proofs.Twice.{at_allowed}
use Rattle.sh_grammar.specs.Shape as shape
use Rattle.sh_grammar.specs.Bytes.{Text, gap, idle}
use Rattle.sh_grammar.specs.Expansions.{◌>>=◌}
use Rattle.sh_grammar.specs.State.{State, Node, start_at, fresh, chains_in}
use Rattle.sh_grammar.specs.Table.{piece}
use Rattle.sh_grammar.specs.Steps.{is_empty}
use Rattle.sh_grammar.specs.Spelling.{sh_with, Reads, IsErrorAt}
use Rattle.sh_grammar.specs.Pieces.{next_piece, nodes_from, nodes_in, stop_from}
use Rattle.sh_grammar.proofs.Lengths.{idle_fits}
use Rattle.sh_grammar.proofs.Known.{later}
use Rattle.sh_grammar.proofs.Pieces.{is_piece, next_less}
use Rattle.sh_grammar.proofs.Whole.{reads_sound, reads_none, nodes_end, nodes_none, nodes_more, stop_more, stop_none}
use Rattle.sh_grammar.proofs.Stops.{stops_at}
use Rattle.sh_parser.specs.declared.fault.Stop.{Stop}
use Rattle.sh_parser.specs.declared.fault.Stop.TheVariants as stop
use Rattle.sh_parser.specs.Answers.{Gives}
use Rattle.sh_parser.specs.Turns.{next_at}

-- ---- read once or twice

-- the nodes and the bytes behind them
abbrev seen : Option (List Node × State) → Option (List Node × Text)
seen o = o >>= λ x. Some (x.0, x.1.bytes)

pub next_fails : (q : Bool) (bytes : Text) → FailsAs q (vals (sh_with []) (rule piece) (start_at 0 bytes)) → FailsAs q (next_at bytes)
unfolding next_piece vals_twice
next_fails true bytes e = tt
next_fails false bytes e = rw e refl

pub next_again : (bytes : Text) (k : List Node) (m : State) → vals (sh_with []) (rule piece) (start_at 0 bytes) ≡ Some (k, m) → next_at bytes ≡ seen (vals (sh_with m.found) (rule piece) (start_at 0 bytes))
unfolding next_piece vals_twice
next_again bytes k m e = rw e refl

-- no here-document
pub next_plain : (bytes : Text) (k : List Node) (m : State) → length m.found ≡ 0 → vals (sh_with []) (rule piece) (start_at 0 bytes) ≡ Some (k, m) → next_at bytes ≡ Some (k, m.bytes)
next_plain bytes k m none e =
    let f : [] ≡ m.found = empty m.found none in
    next_again bytes k m e ∙ rw (← f, e) refl
  where
    empty : (xs : List Text) → length xs ≡ 0 → [] ≡ xs
    empty [] h = refl
    empty (x ∷ xs) h = absurd (omega arith)

-- the bodies were guessed as they were then found
pub next_guessed : (ds : List Text) (bytes : Text) (k : List Node) (m : State) → vals (sh_with ds) (rule piece) (start_at 0 bytes) ≡ Some (k, m) → m.found ≡ ds → next_at bytes ≡ Some (k, m.bytes)
next_guessed ds bytes k m e f =
    let t = vals_sound (sh_with ds) (rule piece) (start_at 0 bytes) (k, m) e in
    let u = at_allowed (sh_with ds) (sh_with []) (later.allows ds) t.0 (rule piece) (start_at 0 bytes) m t.1 in
    let first = vals_complete (sh_with []) (later.ends []) u.0 (rule piece) (start_at 0 bytes) m (is_piece piece refl []).0 u.1 in
    next_again bytes (kids (sh_with []) u.0) m first ∙ rw (f, e) refl

-- what is read, seen without its state but for the bytes
pub gives_seen : {X : Type 0} (v : X → List Node × State) (r : Result X Stop) (o : Option (List Node × State)) → Gives v r o → Gives (λ x. ((v x).0, (v x).1.bytes)) r (seen o)
gives_seen v (Ok x) o e = rw e refl
gives_seen v (Err stop.Memory) o e = tt
gives_seen v (Err stop.Bad) o e = rw e refl

-- ---- only the bytes ahead count

pub nodes_fresh : (s : State) → nodes_from s ≡ nodes_from (fresh s)
unfolding nodes_from nodes_in next_piece
nodes_fresh s = refl

stop_at : (s : State) (o : Option (List Node × State)) (further : State → State) → (goes_on s o further).bytes ≡ (goes_on (fresh s) o further).bytes
stop_at s None further = refl
stop_at s (Some x) further = refl

pub stop_fresh : (s : State) → (stop_from s).bytes ≡ (stop_from (fresh s)).bytes
unfolding stop_from front front_in next_piece
stop_fresh s = stop_at s (next_piece s) (front_in next_piece (length s.bytes))

-- ---- what was read so far

-- The nodes of the pieces in front of the rest.
pub record SoFar (text rest : Text) (front : List Node) : Type 0 where
  pub nodes : nodes_from (start_at 0 text) ≡ (nodes_from (start_at 0 rest) >>= λ ns. Some (front ++ ns))
  pub stop : (stop_from (start_at 0 text)).bytes ≡ (stop_from (start_at 0 rest)).bytes
  pub fits : length rest ≤ length text

put_behind : (o : Option (List Node)) (xs ys : List Node) → ((o >>= λ ns. Some (ys ++ ns)) >>= λ ns. Some (xs ++ ns)) ≡ (o >>= λ ns. Some ((xs ++ ys) ++ ns))
put_behind None xs ys = refl
put_behind (Some ns) xs ys = ap (λ r. Some r) (sym (append_assoc xs ys ns))

turned : (text rest after : Text) (front k : List Node) (m : State) → next_piece (start_at 0 rest) ≡ Some (k, m) → m.bytes ≡ after → SoFar text rest front → SoFar text after (front ++ k)
turned text rest after front k m e j so =
    let on : nodes_from (start_at 0 rest) ≡ (nodes_from (start_at 0 after) >>= λ ns. Some (k ++ ns)) =
    nodes_more (start_at 0 rest) m k e ∙ ap (λ o. o >>= λ ns. Some (k ++ ns)) (nodes_fresh m ∙ ap (λ b. nodes_from (start_at 0 b)) j) in
    let less = next_less (start_at 0 rest) m k e in
    let f = so.fits in
    let shorter : length after ≤ length text = rw (← j) (omega (arith, less, f)) in
    record {
      nodes = so.nodes ∙ ap (λ o. o >>= λ ns. Some (front ++ ns)) on ∙ put_behind (nodes_from (start_at 0 after)) front k;
      stop = so.stop ∙ ap (λ (s : State). s.bytes) (stop_more (start_at 0 rest) m k e) ∙ stop_fresh m ∙ ap (λ b. (stop_from (start_at 0 b)).bytes) j;
      fits = shorter;
    }

turn_at : (text rest after : Text) (front k : List Node) (o : Option (List Node × State)) → next_piece (start_at 0 rest) ≡ o → seen o ≡ Some (k, after) → SoFar text rest front → SoFar text after (front ++ k)
turn_at text rest after front k None e h so = absurd cc
turn_at text rest after front k (Some x) e h so =
    let p = some_is (x.0, x.1.bytes) (k, after) h in
    subst (λ (z : List Node). SoFar text after (front ++ z)) (ap (λ (y : List Node × Text). y.0) p) (turned text rest after front x.0 x.1 e (ap (λ (y : List Node × Text). y.1) p) so)

-- one piece more
pub so_far_more : (text rest after : Text) (front k : List Node) → next_at rest ≡ Some (k, after) → SoFar text rest front → SoFar text after (front ++ k)
so_far_more text rest after front k h so = turn_at text rest after front k (next_piece (start_at 0 rest)) refl h so

less_at : (rest after : Text) (k : List Node) (o : Option (List Node × State)) → next_piece (start_at 0 rest) ≡ o → seen o ≡ Some (k, after) → length after < length rest
less_at rest after k None e h = absurd cc
less_at rest after k (Some x) e h =
    let p = some_is (x.0, x.1.bytes) (k, after) h in
    let j : x.1.bytes ≡ after = ap (λ (y : List Node × Text). y.1) p in
    subst (λ (b : Text). length b < length rest) j (next_less (start_at 0 rest) x.1 x.0 e)

pub next_shorter : (rest after : Text) (k : List Node) → next_at rest ≡ Some (k, after) → length after < length rest
next_shorter rest after k h = less_at rest after k (next_piece (start_at 0 rest)) refl h

-- ---- at the end

nothing_left : (bs : Text) → (length bs == 0) ≡ true → bs ≡ []
nothing_left [] e = refl
nothing_left (b ∷ bs) e = absurd (grind (arith, nat_tests))

something_left : (bs : Text) → (length bs == 0) ≡ false → is_empty bs ≡ false
something_left [] e = absurd cc
something_left (b ∷ bs) e = refl

pub all_read : (text rest : Text) (front : List Node) → (length (gap rest) == 0) ≡ true → SoFar text rest front → Reads text (chains_in front)
all_read text rest front h so =
    let e : nodes_from (start_at 0 text) ≡ Some (front ++ []) = so.nodes ∙ ap (λ o. o >>= λ ns. Some (front ++ ns)) (nodes_end (start_at 0 rest) (nothing_left (gap rest) h)) in
    subst (Reads text) (ap chains_in (append-nil front)) (reads_sound text (front ++ []) e)

seen_none : (o : Option (List Node × State)) → seen o ≡ None → o ≡ None
seen_none None e = refl
seen_none (Some x) e = absurd cc

no_nodes : (text rest : Text) (front : List Node) → (length (gap rest) == 0) ≡ false → next_at rest ≡ None → SoFar text rest front → nodes_from (start_at 0 text) ≡ None
no_nodes text rest front h e so = so.nodes ∙ ap (λ o. o >>= λ ns. Some (front ++ ns)) (nodes_none (start_at 0 rest) (something_left (gap rest) h) (seen_none (next_piece (start_at 0 rest)) e))

pub none_reads : (text rest : Text) (front : List Node) → (length (gap rest) == 0) ≡ false → next_at rest ≡ None → SoFar text rest front → (x : shape.Script) → Reads text x → ⊥
none_reads text rest front h e so = reads_none text (no_nodes text rest front h e so)

pub error_there : (text rest : Text) (front : List Node) (place : ℕ) → (length (gap rest) == 0) ≡ false → next_at rest ≡ None → place ≡ length text - length (idle rest) → SoFar text rest front → IsErrorAt text place
error_there text rest front place h e at so =
    let b : (stop_from (start_at 0 text)).bytes ≡ rest = so.stop ∙ ap (λ (s : State). s.bytes) (stop_none (start_at 0 rest) (seen_none (next_piece (start_at 0 rest)) e)) in
    let i = idle_fits rest in
    let f = so.fits in
    stops_at text place (no_nodes text rest front h e so) (rw (b) (omega (arith, at, i, f)))
