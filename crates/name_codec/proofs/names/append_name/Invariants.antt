use Rattle.std.proofs.Common.{◌≡◌, ◌++◌, drop}
use Rattle.std.specs.List.{flat_map}
use Rattle.name_codec.specs.Reserved.{spelled_byte}
use Rattle.name_codec.proofs.names.append_name.Given as goal

abbrev pub invariant-loop-byte : goal.invariant-loop-byte
invariant-loop-byte l = l.text ++ flat_map spelled_byte (drop l.byte-index l.name) ≡ l.initial.text ++ flat_map spelled_byte l.name
