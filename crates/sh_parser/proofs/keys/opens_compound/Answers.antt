use Rattle.std.proofs.Common.{sym}
use Rattle.sh_parser.proofs.Front.{is_other, opens_none}
use Rattle.sh_parser.proofs.keys.opens_compound.Goals as goal

pub returns-else-front-eq123 : goal.returns-else-front-eq123
returns-else-front-eq123 c = sym (opens_none c.args.bytes.now (is_other _ _ (rw (c.front_byte-front.ensures) at c.if-front-eq92.false)) (is_other _ _ (rw (c.front_byte-front.ensures) at c.if-front-eq105.false)) (is_other _ _ (rw (c.front_byte-front.ensures) at c.if-front-eq102.false)) (is_other _ _ (rw (c.front_byte-front.ensures) at c.if-front-eq119.false)) (is_other _ _ (rw (c.front_byte-front.ensures) at c.if-front-eq117.false)) (is_other _ _ (rw (c.front_byte-front.ensures) at c.if-front-eq99.false)) (is_other _ _ (rw (c.front_byte-front.ensures) at c.if-front-eq123.false)))
