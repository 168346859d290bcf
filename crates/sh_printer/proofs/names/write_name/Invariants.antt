use Rattle.std.proofs.Common.{◌≡◌, ◌+◌, ◌∷◌, take, length}
use Rattle.sh_printer.proofs.names.write_name.Given as goal

abbrev pub invariant-loop-i : goal.invariant-loop-i
invariant-loop-i l = (take (l.i + 1) l.buffer ≡ 69 ∷ take l.i l.digits) × (length l.buffer ≡ 41)
