use Rattle.sh_parser.proofs.Front.{is_other, no_bytes, other_bytes}
use Rattle.sh_parser.proofs.keys.may_begin.Goals as goal

pub returns-in-empty-bytes : goal.returns-in-empty-bytes
returns-in-empty-bytes c = λ _. no_bytes c.args.text.now c.args.bytes.now c.in-len1-up.len_at_least c.in-empty-bytes.len_below

pub returns-else-b-first : goal.returns-else-b-first
returns-else-b-first c = λ e. other_bytes c.args.text.now c.args.bytes.now c.in-len1-up.len_at_least c.in-len1-up-bytes.len_at_least (is_other _ _ c.if-b-first.false) e
