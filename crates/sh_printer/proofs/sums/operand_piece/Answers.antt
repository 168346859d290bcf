use Rattle.std.proofs.Common.{◌≡◌, ℕ, List, sym, ap, ◌∙◌, arith, take, get_or}
use Rattle.std.specs.Prelude.{map}
use Rattle.sh_printing.specs.Marks.{gap}
use Rattle.sh_printing.specs.Printing.{words_open}
use Rattle.sh_printer.specs.Pieces.{owed_of, word_text, word_weight}
use Rattle.sh_syntax.specs.declared.tree.Part.{Part}
use Rattle.sh_syntax.specs.declared.tree.Word.{Word, out-Word}
use Rattle.sh_syntax.specs.View.{view_part, view_word, parts_of, words_of}
use Rattle.sh_syntax.proofs.Views.{word_is}
use Rattle.sh_printer.proofs.Firsts.{gap_behind_part, still_less}
use Rattle.sh_printer.proofs.SumTexts.{operand_at, operand_past, operand_weight}
use Rattle.sh_printer.proofs.sums.operand_piece.Goals as goal

pub returns-then-n-operands-clause-text : goal.returns-then-n-operands-clause-text
returns-then-n-operands-clause-text c = λ full. sym (operand_past full (gap (owed_of full c.args.operands.owed.now)) c.args.operands.words.now c.args.number c.if-n-operands.true)

-- the parts of a word that was taken from a list
parts_at : (ws : List Word) (n : ℕ) (w : Word) (ps : List Part) → w ≡ get_or ws n w → ps ≡ (out-Word (get_or ws n w)).parts → view_word w ≡ parts_of (map view_part ps)
parts_at ws n w ps at is = word_is w ∙ ap (λ (v : Word). parts_of (map view_part (out-Word v).parts)) at ∙ ap (λ (l : List Part). parts_of (map view_part l)) (sym is)

pub returns-clause-text : goal.returns-clause-text
unfolding word_text
returns-clause-text c =
    let parts = parts_at c.args.operands.words.now c.args.number c.index-operands-n.result c.as_slice.result.now c.index-operands-n.is c.as_slice.ensures in
    λ full. rw (c.owed_behind_words-owed.ensures, c.split_at.ensures.front, ← parts, gap_behind_part full (words_open (words_of (map view_word (take c.args.number c.args.operands.words.now)))) c.args.operands.owed.now) (sym (operand_at full (gap (owed_of full c.args.operands.owed.now)) c.args.operands.words.now c.args.number c.index-operands-n.result (omega arith) c.index-operands-n.is))

pub returns-clause-weight : goal.returns-clause-weight
unfolding word_weight
returns-clause-weight c =
    let parts = parts_at c.args.operands.words.now c.args.number c.index-operands-n.result c.as_slice.result.now c.index-operands-n.is c.as_slice.ensures in
    rw (c.owed_behind_words-owed.ensures, ← parts) (omega (arith, operand_weight c.args.operands.words.now c.args.number c.index-operands-n.result (omega arith) c.index-operands-n.is, still_less (words_open (words_of (map view_word c.split_at.result.0.now))) c.args.operands.owed.now))
