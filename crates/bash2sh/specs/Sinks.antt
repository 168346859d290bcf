-- What both sinks hold.
use Rattle.std.specs.Prelude.{ℕ, List, Option}
use Rattle.bash2sh.specs.Answers.{Said}

-- what both sinks hold, where they tell it, and how often they have failed
pub record Sinks : Type 0 where
  pub held : Option (List ℕ)
  pub write_faults : ℕ
  pub said : Option (List ℕ)
  pub say_faults : ℕ

-- this line was written to the standard error
abbrev pub Line : Sinks → Sinks → List ℕ → Type 0
Line b a line = Said b.said a.said b.say_faults a.say_faults line
