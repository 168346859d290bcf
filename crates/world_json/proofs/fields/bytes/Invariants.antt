use Rattle.std.proofs.Common.{◌≡◌, true}
use Rattle.std.specs.List.{list_all}
use Rattle.world_json.specs.Judging.{stands_for_byte}
use Rattle.world_json.proofs.fields.bytes.Given as goal

abbrev pub invariant-loop-character : goal.invariant-loop-character
invariant-loop-character l = (l.bytes.items ≡ l.yielded) × (list_all stands_for_byte l.yielded ≡ true)
