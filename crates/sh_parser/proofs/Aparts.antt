-- Operands of an arithmetic expansion stay apart while it grows.
use Rattle.std.proofs.Common.{◌≡◌, refl, ℕ, ◌+◌, ◌<◌, ◌≤◌, List, [], ◌∷◌, ◌++◌, length, arith}
use Rattle.span_text.specs.declared.span.Span.{Span}
use Rattle.span_text.specs.Expressions.{Apart}

stays : (from n m : ℕ) (ss : List Span) → n ≤ m → Apart from n ss → Apart from m ss
stays from n m [] le a = tt
stays from n m (s ∷ ss) le a = (a.0, a.1, omega (arith, a.2, le), stays s.to n m ss le a.3)

put_last : (from n m : ℕ) (ss : List Span) (s : Span) → from ≤ n → Apart from n ss → n ≤ s.from → s.from < s.to → s.to ≤ m → Apart from m (ss ++ s ∷ [])
put_last from n m [] s le a f t k = (omega (arith, le, f), t, k, tt)
put_last from n m (x ∷ ss) s le a f t k = (a.0, a.1, omega (arith, a.2, f, t, k), put_last x.to n m ss s a.2 a.3 f t k)

longer : (t u : List ℕ) → length t ≤ length (t ++ u)
longer [] u = omega arith
longer (b ∷ bs) u = omega (arith, longer bs u)

longer_by_one : (t : List ℕ) (b : ℕ) → length (t ++ b ∷ []) ≡ length t + 1
longer_by_one [] b = refl
longer_by_one (c ∷ bs) b = omega (arith, longer_by_one bs b)

-- where bytes follow
pub apart_more : (t u : List ℕ) (ss : List Span) → Apart 0 (length t) ss → Apart 0 (length (t ++ u)) ss
apart_more t u ss a = stays 0 (length t) (length (t ++ u)) ss (longer t u) a

-- where an operand follows, which is one byte
pub apart_last : (t : List ℕ) (b : ℕ) (ss : List Span) (s : Span) → Apart 0 (length t) ss → s.from ≡ length t → s.to ≡ length t + 1 → Apart 0 (length (t ++ b ∷ [])) (ss ++ s ∷ [])
apart_last t b ss s a f k = put_last 0 (length t) (length (t ++ b ∷ [])) ss s (omega arith) a (omega (arith, f)) (omega (arith, f, k)) (omega (arith, k, longer_by_one t b))
