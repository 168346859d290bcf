use Rattle.std.proofs.Common.{get_or}
use Rattle.sh_parser.proofs.Kept.{parts_of, body_turn}
use Rattle.sh_parser.proofs.bodies.body_at.Goals as goal

pub bytes-preserved-in-Keeps : goal.bytes-preserved-in-Keeps
bytes-preserved-in-Keeps c = rw c.in_ok-push-in-Keeps.ensures.items (body_turn c.bytes.text.items _ _ _ (get_or c.bytes.rest.now 0 0) c.bytes.rest.now _ _ (parts_of c.bytes.rest.now c.in-len1-up.len_at_least) c.in-Keeps.ensures.turn c.bytes.invariant)
