-- That spans stand apart is a proposition.
use Rattle.std.specs.Prelude.{ℕ, List, [], ◌∷◌}
use Rattle.std.specs.Coded.{Unit-prop, le_prop}
use Rattle.span_text.specs.declared.span.Span.{Span}
use Rattle.span_text.specs.Expressions.{Apart}

pub Apart-prop : (from n : ℕ) (ss : List Span) → IsProp (Apart from n ss)
Apart-prop from n [] = Unit-prop
Apart-prop from n (s ∷ ss) = λ x y i. (le_prop x.0 y.0 i, le_prop x.1 y.1 i, le_prop x.2 y.2 i, Apart-prop s.to n ss x.3 y.3 i)
