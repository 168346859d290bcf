use Rattle.std.proofs.Common.{get_or}
use Rattle.sh_parser.proofs.Kept.{parts_of, line_turn}
use Rattle.sh_parser.proofs.bodies.line_end.Goals as goal

pub bytes-preserved-then-is_join : goal.bytes-preserved-then-is_join
bytes-preserved-then-is_join c = line_turn c.bytes.wanted.now c.args.literal (get_or c.bytes.rest.now 0 0) c.bytes.rest.now _ c.behind_join-rest.result.now _ (cc) (parts_of c.bytes.rest.now c.in-len1-up.len_at_least) c.behind_join-rest.ensures.is c.bytes.invariant
