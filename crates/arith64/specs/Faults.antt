-- Why a text isn't read.
use Rattle.std.specs.Prelude.{ℕ}
use Rattle.arith64.specs.declared.fault.ExprFault.{ExprFault}
use Rattle.arith64.specs.declared.fault.ExprFault.TheVariants as fault
use Rattle.arith64.specs.declared.fault.Stop.{Stop}
use Rattle.arith64.specs.declared.fault.Stop.TheVariants as stop

abbrev pub IfBadExpr : ExprFault → (ℕ → Type 0) → Type 0
IfBadExpr (fault.BadExpr at) P = P at
IfBadExpr fault.Memory P = Unit {0}

-- what a stop at an offset is to the caller
abbrev pub fault_at : Stop → ℕ → ExprFault
fault_at stop.Bad at = fault.BadExpr at
fault_at stop.Memory at = fault.Memory
