-- A language: the table of its rules, its steps and tests, and what the table owes.
use Rattle.std.specs.Prelude.{◌≡◌, ℕ, suc, ◌+◌, ◌≤◌, nat_le, Bool, true, false, List, Option, Some}
use Rattle.text_grammar.specs.Grammar.{Grammar, Leaf}
use Rattle.text_grammar.specs.Ranks.{Ranks, takes, shallow, small}

-- Over states S (the bytes ahead, and whatever else steps need), steps P, tests T, rules R, and values V of what is read.
pub record Language (S P T R V : Type 0) : Type 0 where
  -- what a step gives to the tree, and the state behind it; nothing where it doesn't read
  pub run_step : P → S → Option (Leaf V × S)
  pub holds : T → S → Bool
  pub body : R → Grammar P T R
  -- what a rule makes of the values below it, in their order; one that only leads on gives them back
  pub act : R → List V → List V
  -- how many bytes are ahead
  pub size : S → ℕ
  pub ranks : Ranks P R

abbrev pub one_if : Bool → ℕ
one_if true = 1
one_if false = 0

-- What a language owes, so that reading by it ends. All but the first are checked by computing, rule by rule.
pub record Ends {S P T R V : Type 0} (l : Language S P T R V) : Type 0 where
  -- a step leaves no more bytes than there were, and fewer where it is said to take one
  pub step_fits : (p : P) (s m : S) (x : Leaf V) → l.run_step p s ≡ Some (x, m) → l.size m + one_if (l.ranks.step_takes p) ≤ l.size s
  -- the tables say of each rule what its body does
  pub rule_takes : (r : R) → takes l.ranks (l.body r) ≡ l.ranks.rule_takes r
  pub rule_shallow : (r : R) → shallow l.ranks (l.body r) (l.ranks.rank r) ≡ true
  pub rule_small : (r : R) → small l.ranks (l.body r) ≡ true
  -- and the numbers are large enough: a byte adds a level at least, and every rule is below the levels of the language
  pub weighs : nat_le 1 l.ranks.weight ≡ true
  pub rank_below : (r : R) → nat_le (suc (l.ranks.rank r)) l.ranks.levels ≡ true

-- a grammar that reads in the levels of the language, as each rule does, and each small part of one
abbrev pub IsShallow : {S P T R V : Type 0} → Language S P T R V → Grammar P T R → Type 0
IsShallow l g = shallow l.ranks g l.ranks.levels ≡ true
