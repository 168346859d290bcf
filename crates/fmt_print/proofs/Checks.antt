-- Formats byte by byte.
use Rattle.std.proofs.Common.{◌≡◌, ℕ, ◌<◌, true, false, cond, eqb, List, [], ◌∷◌, length, Option, None, Some, refl, ap, ◌∙◌, arith}
use Rattle.std.proofs.lemmas.Bool.{ne_eqb}
use Rattle.fmt_print.specs.Pieces.{piece_at, escape_at, percent_at, pieces, with_piece}
use Rattle.fmt_print.specs.Check.{reads_whole, goes_on}
use Rattle.fmt_print.specs.declared.pieces.Piece.{Piece}
use Rattle.fmt_print.specs.declared.pieces.Piece.TheVariants.{Byte}
use Rattle.fmt_print.proofs.Folds.{fold_more, fold_none}
use Rattle.fmt_print.proofs.Shorter.{piece_shrinks}

pub whole_none : reads_whole [] ≡ true
unfolding pieces
whole_none = refl

whole_by : (text : List ℕ) (front : Option (Piece × List ℕ)) → piece_at text ≡ front → 0 < length text → reads_whole text ≡ goes_on front
unfolding pieces
whole_by text None e some = ap (λ p. eqb (length p.1) 0) (fold_none piece_at (λ rest. ([], rest)) with_piece piece_shrinks text e) ∙ ne_eqb (length text) 0 (λ none. omega arith)
whole_by text (Some front) e some = ap (λ p. eqb (length p.1) 0) (fold_more piece_at (λ rest. ([], rest)) with_piece piece_shrinks text front.0 front.1 e)

-- a text that isn't empty is read whole where a piece is, and all that stands behind it
pub whole_more : (b : ℕ) (bs : List ℕ) → reads_whole (b ∷ bs) ≡ goes_on (piece_at (b ∷ bs))
whole_more b bs = whole_by (b ∷ bs) (piece_at (b ∷ bs)) refl (omega arith)

-- a plain byte
pub whole_plain : (b : ℕ) (bs : List ℕ) → eqb b 92 ≡ false → eqb b 37 ≡ false → reads_whole (b ∷ bs) ≡ reads_whole bs
whole_plain b bs slash percent =
    whole_more b bs ∙ ap (λ t. goes_on (cond t (escape_at bs) (cond (eqb b 37) (percent_at bs) (Some (Byte b, bs))))) slash ∙ ap (λ t. goes_on (cond t (percent_at bs) (Some (Byte b, bs)))) percent
