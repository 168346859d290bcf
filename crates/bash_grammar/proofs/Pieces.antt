-- Pieces of a text and its lines are found by reading twice.
use Rattle.std.proofs.Common.{◌≡◌, ℕ, zero, suc, ◌+◌, ◌-◌, ◌≤◌, ◌<◌, true, List, [], ◌∷◌, length, Some, refl, ap, arith}
use Rattle.text_grammar.specs.Grammar.{rule}
use Rattle.text_grammar.specs.Ranks.{takes}
use Rattle.text_grammar.specs.Derivations.{Tree}
use Rattle.text_grammar.specs.Place.{FrontAt, Reader, IsPiece, front}
use Rattle.text_grammar.proofs.Bound.{rule_is_shallow}
use Rattle.text_grammar.proofs.Place as places
use Rattle.text_grammar.proofs.Pieces.{reads_pieces_with, one_place_with}
use Rattle.bash_grammar.specs.Bytes.{Text, idle}
use Rattle.bash_grammar.specs.State.{State, Found, start_at, fresh, ahead, behind_quotes}
use Rattle.bash_grammar.specs.Nodes.{Node}
use Rattle.bash_grammar.specs.Moves.{Test}
use Rattle.bash_grammar.specs.Table.{Rule, piece, line_piece}
use Rattle.bash_grammar.specs.Depths.{rule_takes}
use Rattle.bash_grammar.specs.Pieces.{next_piece, next_line}
use Rattle.bash_grammar.specs.Spelling.{bash, levels, bash_with, PieceAt, LineAt, IsErrorAt}
use Rattle.bash_grammar.proofs.Lengths.{idle_fits}
use Rattle.bash_grammar.proofs.Ends.{ends_with}
use Rattle.bash_grammar.proofs.Known.{later}

-- how many bytes are ahead, in Bash's own terms
pub size_in : (n : ℕ) (bodies : List Found) (s : State) → (bash n bodies).size s ≡ ahead s
unfolding bash
size_in zero bodies s = refl
size_in (suc n) bodies s = refl

takes_in : (r : Rule) → rule_takes r ≡ true → (n : ℕ) (bodies : List Found) → takes {T = Test} (bash n bodies).ranks (rule r) ≡ true
unfolding bash
takes_in r e zero bodies = e
takes_in r e (suc n) bodies = e

-- a rule that takes a byte is one of a piece
pub is_piece : (r : Rule) → rule_takes r ≡ true → (bodies : List Found) → IsPiece (bash_with bodies) (rule r)
is_piece r e bodies = (rule_is_shallow (bash_with bodies) (ends_with bodies) r, takes_in r e levels bodies)

bytes_ahead : (s : State) → length s.bytes ≤ ahead s
unfolding ahead
bytes_ahead s = omega arith

fresh_ahead : (s : State) → ahead (fresh s) ≡ length s.bytes
unfolding ahead behind_quotes
fresh_ahead s = omega arith

pub fresh_fits : (s : State) → (bash_with []).size (fresh s) ≤ (bash_with []).size s
fresh_fits s = let a = size_in levels [] (fresh s) in let b = size_in levels [] s in let c = fresh_ahead s in let d = bytes_ahead s in omega arith

pieces_sized : Reader PieceAt (bash_with []).size next_piece
unfolding next_piece
pieces_sized = reads_pieces_with bash_with (λ (e : State). e.found) [] later fresh fresh_fits (rule piece) (λ a. is_piece piece refl a)

lines_sized : Reader LineAt (bash_with []).size next_line
unfolding next_line
lines_sized = reads_pieces_with bash_with (λ (e : State). e.found) [] later fresh fresh_fits (rule line_piece) (λ a. is_piece line_piece refl a)

-- a piece takes a byte, and so does a line
pub piece_takes : (t : Tree Rule Node) (s m : State) → PieceAt t s m → length m.bytes < length s.bytes
piece_takes t s m h = let i = pieces_sized.less t (fresh s) m h in let a = size_in levels [] m in let b = size_in levels [] (fresh s) in let c = fresh_ahead s in let d = bytes_ahead m in omega arith

pub line_takes : (t : Tree Rule Node) (s m : State) → LineAt t s m → length m.bytes < length s.bytes
line_takes t s m h = let i = lines_sized.less t (fresh s) m h in let a = size_in levels [] m in let b = size_in levels [] (fresh s) in let c = fresh_ahead s in let d = bytes_ahead m in omega arith

-- how many bytes are ahead of a piece
abbrev pub length_ahead : State → ℕ
length_ahead s = length s.bytes

pub pieces_read : Reader PieceAt length_ahead next_piece
pieces_read = record { sound = pieces_sized.sound; complete = pieces_sized.complete; less = piece_takes }

pub lines_read : Reader LineAt length_ahead next_line
lines_read = record { sound = lines_sized.sound; complete = lines_sized.complete; less = line_takes }

pub next_less : (s m : State) (k : List Node) → next_piece s ≡ Some (k, m) → length m.bytes < length s.bytes
next_less s m k e = let a = pieces_read.sound s m k e in piece_takes a.0 s m a.1

-- ---- the place

pub one_error : (text : Text) (p q : ℕ) → IsErrorAt text p → IsErrorAt text q → p ≡ q
one_error text p q = one_place_with bash_with (λ (e : State). e.found) [] later fresh (rule line_piece) (start_at text) (λ (s : State). length (idle s.bytes)) (length text) p q

lines_fit : (ts : List (Tree Rule Node)) (s e : State) → FrontAt LineAt ts s e → length e.bytes ≤ length s.bytes
lines_fit [] s e h = let k : length s.bytes ≡ length e.bytes = ap (λ (z : State). length z.bytes) h in omega arith
lines_fit (t ∷ ts) s e h = let i = line_takes t s h.0 h.1 in let j = lines_fit ts h.0 e h.2 in omega arith

-- where the longest front of lines ends
abbrev pub lines_end : State → State
lines_end s = front length_ahead next_line s

pub error_at : (text : Text) (place : ℕ) → place + length (idle (lines_end (start_at text)).bytes) ≡ length text → IsErrorAt text place
error_at text place e = places.front_place LineAt length_ahead next_line lines_read (start_at text) (λ (s : State). length (idle s.bytes)) (length text) place e

pub has_error : (text : Text) → (place : ℕ) × IsErrorAt text place
has_error text =
    let r = places.front_reads LineAt length_ahead next_line lines_read (start_at text) in
    let end = lines_end (start_at text) in
    let i = lines_fit r.0 (start_at text) end r.1 in
    let j = idle_fits end.bytes in
    let n = length (idle end.bytes) in
    (length text - n, error_at text (length text - n) (omega arith))
