use Rattle.std.proofs.Common.{◌≡◌, ◌<◌, sym, arith, length}
use Rattle.std.proofs.lemmas.List.Sums.{prefix_len_is}
use Rattle.span_text.specs.Classes.{holds}
use Rattle.span_text.proofs.scan.run_len.Goals as goal

pub returns-then-not-is_in : goal.returns-then-not-is_in
returns-then-not-is_in c = sym (prefix_len_is (holds c.args.class) c.args.bytes.now c.loop-i.i 0 (omega arith) c.loop-i.invariant (λ h. cc))

pub returns : goal.returns
returns c = sym (prefix_len_is (holds c.args.class) c.args.bytes.now (length c.args.bytes.now) 0 (omega arith) (λ k h. c.loop-i.invariant k (omega arith)) (λ h. absurd (omega arith)))
