use Rattle.std.proofs.Common.{get_or}
use Rattle.bash_tokens.proofs.Kept.{parts_of, quotes_turn, keeps_turn, both_turn, ends_turn, skips_turn, fails_turn}
use Rattle.bash_tokens.proofs.delimiters.delimiter_from.Goals as goal

pub returns-in-Ends : goal.returns-in-Ends
returns-in-Ends c = rw (c.delimiter_of-in-Ends.ensures.text, c.delimiter_of-in-Ends.ensures.quoted) (ends_turn c.bytes.text.items c.bytes.quoted _ c.bytes.end.now (get_or c.bytes.rest.now 0 0) c.bytes.rest.now _ _ (parts_of c.bytes.rest.now c.in-len1-up.len_at_least) (c.in-Ends.ensures c.bytes.end.now) c.bytes.invariant)

pub bytes-preserved-in-Quotes : goal.bytes-preserved-in-Quotes
bytes-preserved-in-Quotes c = quotes_turn c.bytes.text.items c.bytes.quoted _ _ c.bytes.end.now (get_or c.bytes.rest.now 0 0) c.bytes.rest.now _ _ (parts_of c.bytes.rest.now c.in-len1-up.len_at_least) (c.in-Quotes.ensures c.bytes.end.now) c.bytes.invariant

pub bytes-preserved-in_ok-push-in-Keeps : goal.bytes-preserved-in_ok-push-in-Keeps
bytes-preserved-in_ok-push-in-Keeps c = rw c.in_ok-push-in-Keeps.ensures.items (keeps_turn c.bytes.text.items c.bytes.quoted _ _ c.bytes.end.now (get_or c.bytes.rest.now 0 0) c.bytes.rest.now _ _ (parts_of c.bytes.rest.now c.in-len1-up.len_at_least) (c.in-Keeps.ensures c.bytes.end.now) c.bytes.invariant)

pub bytes-preserved : goal.bytes-preserved
bytes-preserved c = rw (c.in_ok-push-in-KeepsBoth-2.ensures.items, c.in_ok-push-in-KeepsBoth.ensures.items) (both_turn c.bytes.text.items c.bytes.quoted _ _ c.bytes.end.now (get_or c.bytes.rest.now 0 0) c.bytes.rest.now _ _ (parts_of c.bytes.rest.now c.in-len1-up.len_at_least) (c.in-KeepsBoth.ensures c.bytes.end.now) c.bytes.invariant)

pub returns-in-Fails : goal.returns-in-Fails
returns-in-Fails c = fails_turn c.bytes.text.items c.bytes.quoted _ c.bytes.end.now (get_or c.bytes.rest.now 0 0) c.bytes.rest.now _ _ (parts_of c.bytes.rest.now c.in-len1-up.len_at_least) (c.in-Fails.ensures c.bytes.end.now) c.bytes.invariant

pub bytes-preserved-in-Skips : goal.bytes-preserved-in-Skips
bytes-preserved-in-Skips c = skips_turn c.bytes.text.items c.bytes.quoted _ _ c.bytes.end.now (get_or c.bytes.rest.now 0 0) c.bytes.rest.now _ _ (parts_of c.bytes.rest.now c.in-len1-up.len_at_least) (c.in-Skips.ensures c.bytes.end.now) c.bytes.invariant
