use Rattle.std.proofs.lemmas.List.Sums.{prefix_len-le-length}
use Rattle.span_text.specs.Classes.{holds}
use Rattle.span_text.proofs.scan.run.Goals as goal

pub split_at-requires : goal.split_at-requires
split_at-requires c = rw c.run_len.ensures (prefix_len-le-length (holds c.args.class) c.args.bytes.now)
