-- The turns and the levels that a run has left. A turn is taken at each start of a loop's body and at each call of a
-- function, and a level by a call until it returns.
use Rattle.std.specs.Prelude.{ℕ, zero, suc, ◌+◌, ◌-◌, Bool, true, false}
use Rattle.shell_world.specs.declared.world.Bounds.{Bounds}

pub record Counted : Type 0 where
  pub turns : ℕ
  pub levels : ℕ
  pub bounds : Bounds

abbrev pub counted_from : Bounds → Counted
counted_from bounds = record { turns = bounds.turns; levels = bounds.depth; bounds = bounds }

-- whether one is left
abbrev pub is_left : ℕ → Bool
is_left zero = false
is_left (suc n) = true

-- one fewer, where one is left
abbrev pub without_one : ℕ → ℕ
without_one zero = zero
without_one (suc n) = n

abbrev pub turn_taken : Counted → Counted
turn_taken c = record c { turns = without_one c.turns }

abbrev pub entered : Counted → Counted
entered c = record c { levels = without_one c.levels }

abbrev pub left : Counted → Counted
left c = record c { levels = c.levels + 1 }

abbrev pub turns_used : Counted → ℕ
turns_used c = c.bounds.turns - c.turns
