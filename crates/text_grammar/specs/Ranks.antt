-- How deep derivations are: the numbers and tables that show that reading ends.
use Rattle.std.specs.Prelude.{ℕ, zero, suc, ◌+◌, nat_le, Bool, true, false, ◌||◌, ◌&&◌}
use Rattle.text_grammar.specs.Grammar.{Grammar, pass, fail, step, seq, choose, star, rule}

-- Which steps and rules take a byte on each way, and how deep a derivation by a rule is, where it takes none.
-- A derivation by a grammar has at most `levels + weight * n` levels, where n bytes are ahead.
pub record Ranks (P R : Type 0) : Type 0 where
  pub step_takes : P → Bool
  pub rule_takes : R → Bool
  pub rank : R → ℕ
  pub levels : ℕ
  pub weight : ℕ

-- it takes a byte on each way
abbrev pub takes : {P T R : Type 0} → Ranks P R → Grammar P T R → Bool
takes k pass = false
takes k fail = true
takes k (step p) = k.step_takes p
takes k (seq g h) = takes k g || takes k h
takes k (choose t g h) = takes k g && takes k h
takes k (star t g) = false
takes k (rule r) = k.rule_takes r

-- what a byte that is taken adds to the depth
abbrev pub bonus : ℕ → Bool → ℕ
bonus weight true = weight
bonus weight false = 0

-- a derivation by it has at most n levels, and weight levels more for each byte that it takes
abbrev pub shallow : {P T R : Type 0} → Ranks P R → Grammar P T R → ℕ → Bool
shallow k g zero = false
shallow k pass (suc n) = true
shallow k fail (suc n) = true
shallow k (step p) (suc n) = true
shallow k (seq g h) (suc n) = shallow k g n && shallow k h (n + bonus k.weight (takes k g))
shallow k (choose t g h) (suc n) = shallow k g n && shallow k h n
shallow k (star t g) (suc n) = shallow k g n && takes k g
shallow k (rule r) (suc n) = nat_le (k.rank r) n

-- so has each repetition in it
abbrev pub small : {P T R : Type 0} → Ranks P R → Grammar P T R → Bool
small k pass = true
small k fail = true
small k (step p) = true
small k (seq g h) = small k g && small k h
small k (choose t g h) = small k g && small k h
small k (star t g) = shallow k (star t g) k.levels && small k g
small k (rule r) = true
