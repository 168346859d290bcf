-- Loops over units and pieces.
use Rattle.std.proofs.Common.{◌≡◌, ℕ, ◌<◌, ◌≤◌, List, [], ◌∷◌, ◌++◌, length, Option, None, Some, true, false, refl, sym, ap, ◌∙◌, arith}
use Rattle.std.proofs.lemmas.List.{append_assoc, append-nil}
use Rattle.fmt_print.specs.Escapes.{unit_at, ended, with_unit, expanded}
use Rattle.fmt_print.specs.Pieces.{piece_at, pieces, with_piece}
use Rattle.fmt_print.specs.declared.escapes.Dialect.{Dialect}
use Rattle.fmt_print.specs.declared.Printed.{Printed}
use Rattle.fmt_print.specs.declared.escapes.Unit.TheVariants.{Byte, Cut}
use Rattle.fmt_print.specs.declared.pieces.Piece.{Piece}
use Rattle.fmt_print.proofs.Folds.{fold_more, fold_none}
use Rattle.fmt_print.proofs.Shorter.{unit_shrinks, piece_shrinks}

-- these bytes stand in front
abbrev pub put : List ℕ → Option Printed → Option Printed
put front None = None
put front (Some printed) = Some (record { text = front ++ printed.text; cut = printed.cut })

-- what was printed of a front, and what is left
pub record Expands (dialect : Dialect) (argument text rest : List ℕ) : Type 0 where
  pub whole : put text (expanded dialect rest) ≡ expanded dialect argument

put-nil : (later : Option Printed) → put [] later ≡ later
put-nil None = refl
put-nil (Some later) = refl

put-byte : (text : List ℕ) (b : ℕ) (later : Option Printed) → put text (with_unit (Byte b) later) ≡ put (text ++ b ∷ []) later
put-byte text b None = refl
put-byte text b (Some later) = ap (λ t. Some (record { text = t; cut = later.cut })) (sym (append_assoc text (b ∷ []) later.text))

pub expands_none : (dialect : Dialect) (argument : List ℕ) → Expands dialect argument [] argument
expands_none dialect argument = record { whole = put-nil (expanded dialect argument) }

pub expands_more : (dialect : Dialect) (argument text rest behind : List ℕ) (b : ℕ) → Expands dialect argument text rest → unit_at dialect rest ≡ Some (Byte b, behind) → Expands dialect argument (text ++ b ∷ []) behind
unfolding expanded
expands_more dialect argument text rest behind b h e = record {
  whole = sym (put-byte text b (expanded dialect behind)) ∙ ap (put text) (sym (fold_more (unit_at dialect) ended with_unit (unit_shrinks dialect) rest (Byte b) behind e)) ∙ h.whole;
}

pub expands_cut : (dialect : Dialect) (argument text rest behind : List ℕ) → Expands dialect argument text rest → unit_at dialect rest ≡ Some (Cut, behind) → ◌≡◌ {A = Option Printed} (Some (record { text = text; cut = true })) (expanded dialect argument)
unfolding expanded
expands_cut dialect argument text rest behind h e =
    ap (λ t. Some (record { text = t; cut = true })) (sym (append-nil text)) ∙ ap (put text) (sym (fold_more (unit_at dialect) ended with_unit (unit_shrinks dialect) rest Cut behind e)) ∙ h.whole

pub expands_all : (dialect : Dialect) (argument text : List ℕ) → Expands dialect argument text [] → ◌≡◌ {A = Option Printed} (Some (record { text = text; cut = false })) (expanded dialect argument)
unfolding expanded
expands_all dialect argument text h = ap (λ t. Some (record { text = t; cut = false })) (sym (append-nil text)) ∙ h.whole

pub expands_fails : (dialect : Dialect) (argument text rest : List ℕ) → 0 < length rest → Expands dialect argument text rest → unit_at dialect rest ≡ None → None ≡ expanded dialect argument
unfolding expanded
expands_fails dialect argument text [] some h e = absurd (omega arith)
expands_fails dialect argument text (b ∷ bs) some h e = ap (put text) (sym (fold_none (unit_at dialect) ended with_unit (unit_shrinks dialect) (b ∷ bs) e)) ∙ h.whole

-- the pieces read, and what is left
pub record ReadsPieces (format : List ℕ) (read : List Piece) (left : List ℕ) : Type 0 where
  pub front : read ++ (pieces left).0 ≡ (pieces format).0
  pub rest : (pieces left).1 ≡ (pieces format).1
  pub shorter : length left ≤ length format

pub reads_none : (format : List ℕ) → ReadsPieces format [] format
reads_none format = record { front = refl; rest = refl; shorter = omega arith }

pub reads_more : (format rest behind : List ℕ) (read : List Piece) (piece : Piece) → ReadsPieces format read rest → piece_at rest ≡ Some (piece, behind) → ReadsPieces format (read ++ piece ∷ []) behind
unfolding pieces
reads_more format rest behind read piece h e =
    let step = fold_more piece_at (λ left. ([], left)) with_piece piece_shrinks rest piece behind e in
    record {
      front = append_assoc read (piece ∷ []) (pieces behind).0 ∙ ap (λ p. read ++ p.0) (sym step) ∙ h.front;
      rest = ap (λ p. p.1) (sym step) ∙ h.rest;
      shorter = let less = piece_shrinks.less rest piece behind e in let before = h.shorter in omega arith;
    }

pub reads_all : (format rest : List ℕ) (read : List Piece) → ReadsPieces format read rest → piece_at rest ≡ None → (read ≡ (pieces format).0) × (rest ≡ (pieces format).1)
unfolding pieces
reads_all format rest read h e =
    let step = fold_none piece_at (λ left. ([], left)) with_piece piece_shrinks rest e in
    (sym (append-nil read) ∙ ap (λ p. read ++ p.0) (sym step) ∙ h.front, ap (λ p. p.1) (sym step) ∙ h.rest)
