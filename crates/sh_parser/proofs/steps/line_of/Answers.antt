use Rattle.std.proofs.Common.{arith}
use Rattle.std.specs.Prelude.{map}
use Rattle.sh_parser.specs.Owing.{owed_of}
use Rattle.sh_parser.specs.Views.{state}
use Rattle.sh_parser.proofs.Counts.{line_is, owed_count}
use Rattle.sh_parser.proofs.steps.line_of.Goals as goal

pub returns : goal.returns
returns c =
    let k = owed_count owed_of c.args.notes.now.owed in
    rw c.new.ensures (line_is (state c.args.bytes.now c.args.notes.now) _ _ c.in_ok-after.after.now (map owed_of c.args.notes.now.owed) c.bodies_of.new.found c.in_ok-rest.rest.now _ c.in_ok-after.ensures (omega (arith, k)) (omega arith) c.in_ok-rest.ensures)
