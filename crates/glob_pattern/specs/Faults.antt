-- Why a pattern isn't read.
use Rattle.std.specs.Prelude.{ℕ}
use Rattle.glob_pattern.specs.declared.fault.PatternFault.{PatternFault}
use Rattle.glob_pattern.specs.declared.fault.PatternFault.TheVariants.{Doubtful, Memory}

-- P of the place, where that is the fault
abbrev pub IfDoubtful : PatternFault → (ℕ → Type 0) → Type 0
IfDoubtful Memory P = Unit {0}
IfDoubtful (Doubtful at) P = P at
