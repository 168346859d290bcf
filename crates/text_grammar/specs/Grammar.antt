-- Grammars as data: what the body of a rule is made of.

-- Over steps P that read, tests T that look ahead, and rules R.
pub data Grammar (P T R : Type 0) : Type 0 where
  -- nothing
  pass : Grammar P T R
  -- no text
  fail : Grammar P T R
  -- what this step reads
  step : P → Grammar P T R
  -- one, and behind it the other
  seq : Grammar P T R → Grammar P T R → Grammar P T R
  -- the first where the test holds, else the second
  choose : T → Grammar P T R → Grammar P T R → Grammar P T R
  -- again and again, as long as the test holds
  star : T → Grammar P T R → Grammar P T R
  -- the body of this rule
  rule : R → Grammar P T R

infixr 8 ◌then◌
abbrev pub ◌then◌ : {P T R : Type 0} → Grammar P T R → Grammar P T R → Grammar P T R
g then h = seq g h

-- What a step gives to the tree: nothing, or a value.
pub data Leaf (V : Type 0) : Type 0 where
  quiet : Leaf V
  said : V → Leaf V
