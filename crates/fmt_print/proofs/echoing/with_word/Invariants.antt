use Rattle.std.proofs.Common.{◌≡◌, drop, fold}
use Rattle.fmt_print.specs.Echoing.{with_letter, with_word}
use Rattle.fmt_print.proofs.echoing.with_word.Given as goal

abbrev pub invariant-loop-byte : goal.invariant-loop-byte
invariant-loop-byte l = fold with_letter l.read (drop l.byte-index l.byte-items) ≡ with_word l.fn.options l.fn.word
