-- Pieces of a text and its lines are found by reading twice.
use Rattle.std.proofs.Common.{◌≡◌, ℕ, zero, suc, ◌+◌, ◌-◌, ◌≤◌, ◌<◌, true, List, [], ◌∷◌, length, Some, refl, ap, arith}
use Rattle.text_grammar.specs.Grammar.{rule}
use Rattle.text_grammar.specs.Ranks.{takes}
use Rattle.text_grammar.specs.Derivations.{Tree}
use Rattle.text_grammar.specs.Place.{FrontAt, Reader, IsPiece, front}
use Rattle.text_grammar.proofs.Bound.{rule_is_shallow}
use Rattle.text_grammar.proofs.Place as places
use Rattle.text_grammar.proofs.Pieces.{reads_pieces_with, one_place_with}
use Rattle.sh_grammar.specs.Bytes.{Text, idle}
use Rattle.sh_grammar.specs.State.{State, start_at, fresh, Node}
use Rattle.sh_grammar.specs.Table.{Test, Rule, piece, line_piece}
use Rattle.sh_grammar.specs.Depths.{rule_takes}
use Rattle.sh_grammar.specs.Pieces.{next_piece, next_line}
use Rattle.sh_grammar.specs.Spelling.{sh, levels, sh_with, PieceAt, LineAt, IsErrorAt}
use Rattle.sh_grammar.proofs.Lengths.{idle_fits}
use Rattle.sh_grammar.proofs.Ends.{ends_with}
use Rattle.sh_grammar.proofs.Known.{later}

-- how many bytes are ahead, in sh's own terms
pub size_in : (n : ℕ) (bodies : List Text) (s : State) → (sh n bodies).size s ≡ length s.bytes
unfolding sh
size_in zero bodies s = refl
size_in (suc n) bodies s = refl

takes_in : (r : Rule) → rule_takes r ≡ true → (n : ℕ) (bodies : List Text) → takes {T = Test} (sh n bodies).ranks (rule r) ≡ true
unfolding sh
takes_in r e zero bodies = e
takes_in r e (suc n) bodies = e

-- a rule that takes a byte is one of a piece
pub is_piece : (r : Rule) → rule_takes r ≡ true → (bodies : List Text) → IsPiece (sh_with bodies) (rule r)
is_piece r e bodies = (rule_is_shallow (sh_with bodies) (ends_with bodies) r, takes_in r e levels bodies)

pub fresh_fits : (s : State) → (sh_with []).size (fresh s) ≤ (sh_with []).size s
fresh_fits s = let a = size_in levels [] (fresh s) in let b = size_in levels [] s in omega arith

pieces_sized : Reader PieceAt (sh_with []).size next_piece
unfolding next_piece
pieces_sized = reads_pieces_with sh_with (λ (e : State). e.found) [] later fresh fresh_fits (rule piece) (λ a. is_piece piece refl a)

lines_sized : Reader LineAt (sh_with []).size next_line
unfolding next_line
lines_sized = reads_pieces_with sh_with (λ (e : State). e.found) [] later fresh fresh_fits (rule line_piece) (λ a. is_piece line_piece refl a)

-- a piece takes a byte, and so does a line
pub piece_takes : (t : Tree Rule Node) (s m : State) → PieceAt t s m → length m.bytes < length s.bytes
piece_takes t s m h = let i = pieces_sized.less t s m h in let a = size_in levels [] m in let b = size_in levels [] s in omega arith

pub line_takes : (t : Tree Rule Node) (s m : State) → LineAt t s m → length m.bytes < length s.bytes
line_takes t s m h = let i = lines_sized.less t s m h in let a = size_in levels [] m in let b = size_in levels [] s in omega arith

-- how many bytes are ahead
abbrev pub ahead : State → ℕ
ahead s = length s.bytes

pub pieces_read : Reader PieceAt ahead next_piece
pieces_read = record { sound = pieces_sized.sound; complete = pieces_sized.complete; less = piece_takes }

pub lines_read : Reader LineAt ahead next_line
lines_read = record { sound = lines_sized.sound; complete = lines_sized.complete; less = line_takes }

pub next_less : (s m : State) (k : List Node) → next_piece s ≡ Some (k, m) → length m.bytes < length s.bytes
next_less s m k e = let a = pieces_read.sound s m k e in piece_takes a.0 s m a.1

-- ---- the place

pub one_error : (text : Text) (p q : ℕ) → IsErrorAt text p → IsErrorAt text q → p ≡ q
one_error text p q = one_place_with sh_with (λ (e : State). e.found) [] later fresh (rule line_piece) (start_at 0 text) (λ (s : State). length (idle s.bytes)) (length text) p q

lines_fit : (ts : List (Tree Rule Node)) (s e : State) → FrontAt LineAt ts s e → length e.bytes ≤ length s.bytes
lines_fit [] s e h = let k : length s.bytes ≡ length e.bytes = ap (λ (z : State). length z.bytes) h in omega arith
lines_fit (t ∷ ts) s e h = let i = line_takes t s h.0 h.1 in let j = lines_fit ts h.0 e h.2 in omega arith

-- where the longest front of lines ends
abbrev pub lines_end : State → State
lines_end s = front ahead next_line s

pub error_at : (text : Text) (place : ℕ) → place + length (idle (lines_end (start_at 0 text)).bytes) ≡ length text → IsErrorAt text place
error_at text place e = places.front_place LineAt ahead next_line lines_read (start_at 0 text) (λ (s : State). length (idle s.bytes)) (length text) place e

pub has_error : (text : Text) → (place : ℕ) × IsErrorAt text place
has_error text =
    let r = places.front_reads LineAt ahead next_line lines_read (start_at 0 text) in
    let end = lines_end (start_at 0 text) in
    let i = lines_fit r.0 (start_at 0 text) end r.1 in
    let j = idle_fits end.bytes in
    let n = length (idle end.bytes) in
    (length text - n, error_at text (length text - n) (omega arith))
