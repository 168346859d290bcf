-- A text that grows by what is written.
use Rattle.std.specs.Prelude.{ℕ, List}

-- the bytes that it took, and how often memory was missing
pub record Gathered : Type 0 where
  pub text : List ℕ
  pub faults : ℕ
