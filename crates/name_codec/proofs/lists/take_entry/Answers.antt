use Rattle.std.proofs.Common.{◌≡◌, ◌+◌, ◌-◌, ◌<◌, ◌^◌, length, drop, sym, ◌∙◌, ap, arith}
use Rattle.std.proofs.lemmas.List.{length-append, length-take, length-drop}
use Rattle.std.proofs.lemmas.Fmt.{decimal_injective}
use Rattle.name_codec.proofs.Entries.{none_without_colon, entry_parts, entry_below}
use Rattle.name_codec.proofs.lists.take_entry.Goals as goal

pub returns-in_err-colon : goal.returns-in_err-colon
returns-in_err-colon c = rw c.from_residual.ensures (none_without_colon c.args.text.now (λ k low high. c.in_err-colon.ensures k low high))

pub returns-in_err-length : goal.returns-in_err-length
returns-in_err-length c = rw c.from_residual-in_err-length.ensures (λ entry rest e.
    let short : length c.args.text.now < 2 ^ 64 = omega arith in
    let first = c.in_ok-colon.ensures in
    let parts = entry_parts c.args.text.now entry rest c.in_ok-colon.colon short first.0.high first.0.before first.1 e in
    c.in_err-length.ensures (length entry) (omega (arith, entry_below entry rest c.args.text.now e)) parts.0)

pub returns-then-length-behind : goal.returns-then-length-behind
returns-then-length-behind c entry rest e =
    let short : length c.args.text.now < 2 ^ 64 = omega arith in
    let first = c.in_ok-colon.ensures in
    let parts = entry_parts c.args.text.now entry rest c.in_ok-colon.colon short first.0.high first.0.before first.1 e in
    let below = entry_below entry rest c.args.text.now e in
    let number : c.in_ok-length.length ≡ length entry = decimal_injective c.in_ok-length.length (length entry) (omega arith) (omega arith) (sym c.in_ok-length.ensures ∙ parts.0) in
    let behind = ap length parts.1 in
    let over = c.if-length-behind.true in
    omega (arith, behind, over, number, length-append entry rest, length-take (length c.args.text.now - (c.in_ok-colon.colon + 1)) (drop (c.in_ok-colon.colon + 1) c.args.text.now), length-drop (c.in_ok-colon.colon + 1) c.args.text.now)
