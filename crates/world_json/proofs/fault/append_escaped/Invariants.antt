use Rattle.std.proofs.Common.{◌≡◌, ◌++◌, drop}
use Rattle.std.specs.List.{flat_map}
use Rattle.world_json.specs.Judging.{escaped_byte}
use Rattle.world_json.proofs.fault.append_escaped.Given as goal

abbrev pub invariant-loop-byte : goal.invariant-loop-byte
invariant-loop-byte l = l.text ++ flat_map escaped_byte (drop l.byte-index l.name) ≡ l.initial.text ++ flat_map escaped_byte l.name
