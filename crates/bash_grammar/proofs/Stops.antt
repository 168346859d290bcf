-- Where a text spells no script, its pieces stop where its lines do.
use Rattle.std.proofs.Common.{◌≡◌, ℕ, zero, suc, ◌+◌, ◌<◌, Bool, true, false, cond, List, [], ◌++◌, length, Option, Some, None, refl, sym, ap, subst, ◌∙◌, ◌⊎◌, inl, inr, arith}
use Rattle.text_grammar.specs.Grammar.{rule, Leaf, quiet}
use Rattle.text_grammar.specs.Derivations.{Tree, leaf, both, first, second, node, At}
use Rattle.text_grammar.proofs.Place as places
use Rattle.text_grammar.proofs.Tools.{some_is}
use Rattle.bash_grammar.specs.Bytes.{Text, gap, idle}
use Rattle.bash_grammar.specs.Tokens.{Newline}
use Rattle.bash_grammar.specs.Tokens.{◌>>=◌}
use Rattle.bash_grammar.specs.State.{State, Found, start_at, move, fresh}
use Rattle.bash_grammar.specs.Nodes.{Node}
use Rattle.bash_grammar.specs.Moves.{next, line, ends}
use Rattle.bash_grammar.specs.Table.{Rule, piece, line_piece}
use Rattle.bash_grammar.specs.Steps.{Known, run_step}
use Rattle.bash_grammar.specs.Tests.{holds}
use Rattle.bash_grammar.specs.Spelling.{Lang, knowing, levels, bash_with, PieceAt, LineAt, IsErrorAt}
use Rattle.bash_grammar.specs.Pieces.{next_piece, next_line, nodes_from, stop_from}
use Rattle.bash_grammar.proofs.Known.{known_in, bash_knows}
use Rattle.bash_grammar.proofs.Pieces.{pieces_read, lines_read, next_less, length_ahead, lines_end, error_at}
use Rattle.bash_grammar.proofs.Whole.{nodes_end, nodes_more, stop_more, stop_none}

-- ---- pieces and lines

ended : (b : Bool) (s m : State) (x : Leaf Node) → cond {A = Option (Leaf Node × State)} b (Some (quiet, move s [])) None ≡ Some (x, m) → m.bytes ≡ []
ended true s m x e = sym (ap (λ (y : Leaf Node × State). y.1.bytes) (some_is (quiet, move s []) (x, m) e))
ended false s m x e = absurd cc

-- nothing is length_ahead behind the end
end_bytes : (k : Known) (s m : State) (x : Leaf Node) → run_step k ends s ≡ Some (x, m) → m.bytes ≡ []
unfolding run_step
end_bytes k s m x e = ended _ s m x e

tested : {A : Type 0} (b : Bool) (o : Option A) (y : A) → cond b o None ≡ Some y → b ≡ true
tested true o y e = refl
tested false o y e = absurd cc

-- a newline that is read comes next
line_next : (k : Known) (s m : State) (x : Leaf Node) → run_step k line s ≡ Some (x, m) → holds k.scan (next Newline) s ≡ true
unfolding run_step holds
line_next k s m x e = tested _ _ (x, m) e

-- a piece is a line, or the text ends behind it
line_of : (k : Known) (t : Tree Rule Node) (s m : State) → At (knowing k) t (rule piece) s m → ((u : Tree Rule Node) × At (knowing k) u (rule line_piece) s m) ⊎ (m.bytes ≡ [])
line_of k (node q (first v)) s m h = inl (node line_piece (first v), (refl, h.1))
line_of k (node q (second (both c (first d)))) s m h = inl (node line_piece (second (both c d)), (refl, (h.1.0, (h.1.1.0, h.1.1.1, h.1.1.2.1))))
line_of k (node q (second (both c (second (leaf x))))) s m h = inr (end_bytes k h.1.1.0 m x h.1.1.2.1)
line_of k (node q (second (both c (second d)))) s m h = absurd h.1.1.2.1
line_of k (node q (second (both c d))) s m h = absurd h.1.1.2
line_of k (node q (second u)) s m h = absurd h.1.1
line_of k (node q u) s m h = absurd h.1
line_of k t s m h = absurd h

-- a line is a piece
piece_of : (k : Known) (t : Tree Rule Node) (s m : State) → At (knowing k) t (rule line_piece) s m → (u : Tree Rule Node) × At (knowing k) u (rule piece) s m
piece_of k (node q (first v)) s m h = (node piece (first v), (refl, h.1))
piece_of k (node q (second (both c (leaf x)))) s m h = (node piece (second (both c (first (leaf x)))), (refl, (h.1.0, (h.1.1.0, h.1.1.1, (line_next k h.1.1.0 m x h.1.1.2, h.1.1.2)))))
piece_of k (node q (second (both c d))) s m h = absurd h.1.1.2
piece_of k (node q (second u)) s m h = absurd h.1.1
piece_of k (node q u) s m h = absurd h.1
piece_of k t s m h = absurd h

-- the same of bash
known_at : (a : List Found) (t : Tree Rule Node) (r : Rule) (s m : State) → At (bash_with a) t (rule r) s m → At (knowing (known_in levels a)) t (rule r) s m
known_at a t r s m h = subst (λ (l : Lang). At l t (rule r) s m) (bash_knows levels a) h

at_known : (a : List Found) (t : Tree Rule Node) (r : Rule) (s m : State) → At (knowing (known_in levels a)) t (rule r) s m → At (bash_with a) t (rule r) s m
at_known a t r s m h = subst (λ (l : Lang). At l t (rule r) s m) (sym (bash_knows levels a)) h

line_or_end : (t : Tree Rule Node) (s m : State) → PieceAt t s m → ((u : Tree Rule Node) × LineAt u s m) ⊎ (m.bytes ≡ [])
line_or_end t s m h = elim (line_of (known_in levels m.found) t (fresh s) m (known_at m.found t piece (fresh s) m h)) [
  | inl a ↦ inl (a.0, at_known m.found a.0 line_piece (fresh s) m a.1)
  | inr e ↦ inr e
]

line_is_piece : (t : Tree Rule Node) (s m : State) → LineAt t s m → (u : Tree Rule Node) × PieceAt u s m
line_is_piece t s m h =
    let a = piece_of (known_in levels m.found) t (fresh s) m (known_at m.found t line_piece (fresh s) m h) in
    (a.0, at_known m.found a.0 piece (fresh s) m a.1)

-- ---- the next piece and the next line

no_line : (s : State) (o : Option (List Node × State)) → next_line s ≡ o → next_piece s ≡ None → o ≡ None
no_line s None e f = refl
no_line s (Some x) e f =
    let a = lines_read.sound s x.1 x.0 e in
    let b = line_is_piece a.0 s x.1 a.1 in
    let c = (pieces_read.complete b.0 s x.1 b.1).1 in absurd cc

pub next_none : (s : State) → next_piece s ≡ None → next_line s ≡ None
next_none s e = no_line s (next_line s) refl e

pub next_on : (s m : State) (k : List Node) → next_piece s ≡ Some (k, m) → (m.bytes ≡ [] → ⊥) → (j : List Node) × (next_line s ≡ Some (j, m))
next_on s m k e f =
    let a = pieces_read.sound s m k e in elim (line_or_end a.0 s m a.1) [
      | inl b ↦ lines_read.complete b.0 s m b.1
      | inr g ↦ absurd (f g)
    ]

-- ---- the place

gap_nothing : gap [] ≡ []
unfolding gap
gap_nothing = refl

none_behind : (k : List Node) (o : Option (List Node)) → (o >>= λ ns. Some (k ++ ns)) ≡ None → o ≡ None
none_behind k None e = refl
none_behind k (Some ns) e = absurd cc

not_ended : (s : State) → nodes_from s ≡ None → s.bytes ≡ [] → ⊥
not_ended s e f = let c = nodes_end s (ap gap f ∙ gap_nothing) in absurd cc

same_stop_at : (s : State) (o : Option (List Node × State)) → next_piece s ≡ o → nodes_from s ≡ None → ((m : State) → length m.bytes < length s.bytes → nodes_from m ≡ None → stop_from m ≡ lines_end m) → stop_from s ≡ lines_end s
same_stop_at s None e f further = stop_none s e ∙ sym (places.front_done LineAt length_ahead next_line lines_read s (next_none s e))
same_stop_at s (Some x) e f further =
    let rest = none_behind x.0 (nodes_from x.1) (sym (nodes_more s x.1 x.0 e) ∙ f) in
    let on = next_on s x.1 x.0 e (not_ended x.1 rest) in
    stop_more s x.1 x.0 e ∙ further x.1 (next_less s x.1 x.0 e) rest ∙ sym (places.front_more LineAt length_ahead next_line lines_read s x.1 on.0 on.1)

same_stop_in : (n : ℕ) (s : State) → length s.bytes < n → nodes_from s ≡ None → stop_from s ≡ lines_end s
same_stop_in zero s lt e = absurd (omega arith)
same_stop_in (suc n) s lt e = same_stop_at s (next_piece s) refl e (λ m less f. same_stop_in n m (omega arith) f)

-- the place is that of the first byte behind, of what is no blank, newline, comment or join
pub stops_at : (text : Text) (place : ℕ) → nodes_from (start_at text) ≡ None → place + length (idle (stop_from (start_at text)).bytes) ≡ length text → IsErrorAt text place
stops_at text place e f =
    let same = same_stop_in (suc (length text)) (start_at text) (omega arith) e in
    error_at text place (subst (λ (z : State). place + length (idle z.bytes) ≡ length text) same f)
