use Rattle.std.proofs.Common.{◌≡◌, ◌++◌, string_bytes, drop}
use Rattle.world_json.specs.Texts as texts
use Rattle.world_json.proofs.characters.characters.Given as goal

abbrev pub invariant-loop-byte : goal.invariant-loop-byte
invariant-loop-byte l = string_bytes l.text ++ texts.characters (drop l.byte-index l.bytes) ≡ texts.characters l.bytes
