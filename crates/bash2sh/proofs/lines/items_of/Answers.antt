use Rattle.std.proofs.Common.{◌≡◌, arith}
use Rattle.std.specs.List.{prefix_len}
use Rattle.std.proofs.lemmas.List.Sums.{prefix_len-le-length}
use Rattle.span_text.specs.Scanning.{is_blank}
use Rattle.bash2sh.specs.Views.{command_seen}
use Rattle.bash2sh.proofs.Rest.{SoFar-more, SoFar-done, SoFar-bad, cut_shorter}
use Rattle.bash2sh.proofs.lines.items_of.Goals as goal

pub overflow_add-result : goal.overflow_add-result
overflow_add-result c =
    let fits = c.lines.invariant.fits in
    let gap : c.run_len.result ≡ prefix_len is_blank c.first_line.result.0.now = c.run_len.ensures in
    let le = prefix_len-le-length is_blank c.first_line.result.0.now in
    let shorter = cut_shorter c.lines.rest.now c.first_line.result.0.now c.first_line.result.1 c.first_line.ensures in
    omega arith

pub returns-in-Err-Bad : goal.returns-in-Err-Bad
returns-in-Err-Bad c =
    rw c.run_len.ensures (SoFar-bad c.args.text.now c.lines.rest.now c.first_line.result.0.now c.first_line.result.1 c.lines.items c.first_line.ensures (rw c.in-Err-Bad.field-0-is at c.in-Err-Bad.ensures) c.lines.invariant)

pub returns-in-None : goal.returns-in-None
returns-in-None c =
    SoFar-done c.args.text.now c.lines.rest.now c.first_line.result.0.now c.lines.items c.push_line.new.items (command_seen c.in-Ok.kind) (rw c.in-None.is at c.first_line.ensures) c.in-Ok.ensures c.in_ok-push_line-in-Ok.ensures c.lines.invariant

pub lines-preserved : goal.lines-preserved
lines-preserved c =
    SoFar-more c.args.text.now c.lines.rest.now c.first_line.result.0.now c.in-Some.more c.lines.items c.push_line.new.items (command_seen c.in-Ok.kind) (rw c.in-Some.is at c.first_line.ensures) c.in-Ok.ensures c.in_ok-push_line-in-Ok.ensures c.lines.invariant
