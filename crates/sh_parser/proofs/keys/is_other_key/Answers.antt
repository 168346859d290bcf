use Rattle.std.proofs.Common.{sym}
use Rattle.sh_parser.proofs.Front.{is_other, other_none}
use Rattle.sh_parser.proofs.keys.is_other_key.Goals as goal

pub returns-else-front-eq33 : goal.returns-else-front-eq33
returns-else-front-eq33 c = sym (other_none c.args.bytes.now (is_other _ _ (rw (c.front_byte-front.ensures) at c.if-front-eq92.false)) (is_other _ _ (rw (c.front_byte-front.ensures) at c.if-front-eq116.false)) (is_other _ _ (rw (c.front_byte-front.ensures) at c.if-front-eq101.false)) (is_other _ _ (rw (c.front_byte-front.ensures) at c.if-front-eq102.false)) (is_other _ _ (rw (c.front_byte-front.ensures) at c.if-front-eq105.false)) (is_other _ _ (rw (c.front_byte-front.ensures) at c.if-front-eq100.false)) (is_other _ _ (rw (c.front_byte-front.ensures) at c.if-front-eq125.false)) (is_other _ _ (rw (c.front_byte-front.ensures) at c.if-front-eq33.false)))
