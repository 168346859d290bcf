use Rattle.std.proofs.Common.{◌≡◌, true, false, eqb, length, Some, sym, ◌∙◌}
use Rattle.std.proofs.lemmas.Result.{err_from_is_err_and}
use Rattle.span_text.specs.Scanning.{is_blank}
use Rattle.bash2sh.specs.Model.{run_at, word_at, Fails}
use Rattle.bash2sh.specs.Views.{parts_seen, words_seen}
use Rattle.bash2sh.proofs.Loops.{Words-more, Words-fails, Words-done, Words-smaller}
use Rattle.bash2sh.proofs.Views.{map_more}
use Rattle.bash2sh.proofs.words.words_of.Goals as goal

pub returns-then-is_empty : goal.returns-then-is_empty
returns-then-is_empty c =
    let e : eqb (length (run_at is_blank c.words.rest.now).1) 0 ≡ true = rw (← c.run.ensures.rest) (sym c.is_empty.ensures ∙ c.if-is_empty.true) in
    Words-done c.args.bytes.now c.words.rest.now (words_seen c.words.words) e c.words.invariant

pub returns-in_err-word : goal.returns-in_err-word
returns-in_err-word c =
    let p = err_from_is_err_and c.from_residual.result c.from_residual.ensures.1 in
    let e : eqb (length (run_at is_blank c.words.rest.now).1) 0 ≡ false = rw (← c.run.ensures.rest) (sym c.is_empty.ensures ∙ c.if-is_empty.false) in
    let h : Fails c.in_err-word.field-0.0 (word_at (run_at is_blank c.words.rest.now).1) = rw (← c.run.ensures.rest) c.in_err-word.ensures in
    rw (p.1, p.2) (Words-fails c.in_err-word.field-0.0 c.args.bytes.now c.words.rest.now (words_seen c.words.words) e h c.words.invariant)

pub words-smaller : goal.words-smaller
words-smaller c =
    let e : eqb (length (run_at is_blank c.words.rest.now).1) 0 ≡ false = rw (← c.run.ensures.rest) (sym c.is_empty.ensures ∙ c.if-is_empty.false) in
    let h : word_at (run_at is_blank c.words.rest.now).1 ≡ Some (parts_seen c.in_ok-word.word.parts, c.in_ok-word.after.now) = rw (← c.run.ensures.rest) c.in_ok-word.ensures in
    Words-smaller (parts_seen c.in_ok-word.word.parts) c.words.rest.now c.in_ok-word.after.now e h

pub words-preserved : goal.words-preserved
words-preserved c =
    let e : eqb (length (run_at is_blank c.words.rest.now).1) 0 ≡ false = rw (← c.run.ensures.rest) (sym c.is_empty.ensures ∙ c.if-is_empty.false) in
    let h : word_at (run_at is_blank c.words.rest.now).1 ≡ Some (parts_seen c.in_ok-word.word.parts, c.in_ok-word.after.now) = rw (← c.run.ensures.rest) c.in_ok-word.ensures in
    rw (c.in_ok-push.ensures.ok, map_more (λ w. parts_seen w.parts) c.words.words c.in_ok-word.word) (Words-more c.args.bytes.now c.words.rest.now c.in_ok-word.after.now (words_seen c.words.words) (parts_seen c.in_ok-word.word.parts) e h c.words.invariant)
