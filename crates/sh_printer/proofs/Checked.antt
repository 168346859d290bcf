-- The loop that goes over pieces of an expression, each of which counts its operands.
use Rattle.std.proofs.Common.{◌≡◌, ℕ, sym, ap, ◌∙◌}
use Rattle.std.specs.Prelude.{Option, Some, None}
use Rattle.sh_grammar.specs.Expansions.{◌>>=◌}
use Rattle.sh_printer.specs.SumChecks.{Counting}

pub first_none : (o w : Option ℕ) (g h : Counting) → ((o >>= g) >>= h) ≡ w → o ≡ None → None ≡ w
first_none o w g h is fails = sym (ap (λ (x : Option ℕ). (x >>= g) >>= h) fails) ∙ is

pub second_none : (o w : Option ℕ) (g h : Counting) (k : ℕ) → ((o >>= g) >>= h) ≡ w → o ≡ Some k → g k ≡ None → None ≡ w
second_none o w g h k is first fails = sym (ap (λ (x : Option ℕ). x >>= h) fails) ∙ sym (ap (λ (x : Option ℕ). (x >>= g) >>= h) first) ∙ is

pub rest_counts : (o w : Option ℕ) (g h : Counting) (k m : ℕ) → ((o >>= g) >>= h) ≡ w → o ≡ Some k → g k ≡ Some m → h m ≡ w
rest_counts o w g h k m is first second = sym (ap (λ (x : Option ℕ). x >>= h) second) ∙ sym (ap (λ (x : Option ℕ). (x >>= g) >>= h) first) ∙ is
