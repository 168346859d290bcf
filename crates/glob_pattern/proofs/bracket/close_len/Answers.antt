use Rattle.std.proofs.Common.{◌≡◌, ◌≤◌, length, drop, false, sym, ◌∙◌, arith}
use Rattle.std.proofs.lemmas.List.{length-drop}
use Rattle.glob_pattern.specs.Signs.{starts}
use Rattle.glob_pattern.specs.Brackets.{element_len, close_len}
use Rattle.glob_pattern.proofs.Closing.{close_first, close_more}
use Rattle.glob_pattern.proofs.bracket.close_len.Goals as goal

pub elements-init : goal.elements-init
elements-init c = (c.requires, close_first c.args.signs.now c.args.first)

pub elements-preserved : goal.elements-preserved
elements-preserved c =
    let d = c.from-ahead.ensures in
    let within : c.element_len-n.result ≤ length (drop c.elements.n c.args.signs.now) = rw (← d) c.element_len-n.ensures.within in
    let l = length-drop c.elements.n c.args.signs.now in
    let len : element_len (drop c.elements.n c.args.signs.now) ≡ c.element_len-n.result = rw (← d) (sym c.element_len-n.ensures.len) in
    let unclosed : starts 93 (drop c.elements.n c.args.signs.now) ≡ false = rw (← d) (sym c.starts.ensures ∙ c.if-starts.false) in
    (omega arith, close_more c.args.signs.now c.elements.n c.element_len-n.result (close_len c.args.first c.args.signs.now) c.element_len-n.ensures.some len (omega arith) unclosed (c.elements.invariant.1))
