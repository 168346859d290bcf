-- Where a command stands in its script.
use Rattle.std.specs.Prelude.{ℕ, Bool}

-- what encloses a command in its function and its subshell environment
pub record Place : Type 0 where
  -- how many loops do
  pub loops : ℕ
  -- whether a function does that it can return from
  pub in_function : Bool
