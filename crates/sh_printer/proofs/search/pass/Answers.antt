use Rattle.std.proofs.Common.{take, get_or}
use Rattle.std.proofs.lemmas.List.{take_more}
use Rattle.sh_printer.proofs.Searches.{passed_none, passed_then}
use Rattle.sh_printer.proofs.search.pass.Goals as goal

pub loop-byte-init : goal.loop-byte-init
loop-byte-init c = passed_none c.args.search.now

pub loop-byte-preserved : goal.loop-byte-preserved
loop-byte-preserved c =
    let xs = c.args.bytes.now in
    let i = c.loop-byte.byte-index in
    let e = c.pass_byte.ensures in
    rw (take_more xs i 0 c.loop-byte-test.true)
    (passed_then c.args.search.now c.loop-byte.search c.pass_byte.new.search (take i xs) (get_or xs i 0) c.loop-byte.invariant e.sees e.name e.writes)
