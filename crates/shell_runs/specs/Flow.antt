use Rattle.std.specs.Prelude.{ℕ}

-- how a command ends: it goes on with the next one, leaves loops, starts the next round of a loop, leaves its function, or leaves the shell environment
pub data Flow : Type 0 where
  Normal : Flow
  -- leaves the innermost loop, and so many more around it
  Breaks : (more : ℕ) → Flow
  -- starts the next round of the innermost loop once so many inside it were left
  Continues : (more : ℕ) → Flow
  Returns : Flow
  Exits : Flow
