-- What binds before an operator.
use Rattle.std.proofs.Common.{◌≡◌, ℕ, ◌<◌, ◌≤◌, true, false, List, [], ◌∷◌, refl, nat_le, arith}
use Rattle.std.proofs.lemmas.Bool.Decides.{nat_tests}
use Rattle.span_text.specs.declared.expr.Expr.{Expr}
use Rattle.span_text.specs.declared.expr.BinOp.TheVariants as op
use Rattle.span_text.specs.declared.sign.Infix.{Infix}
use Rattle.span_text.specs.declared.sign.Infix.TheVariants.{Plain, And, Or, Comma}
use Rattle.span_text.specs.Expressions.{level, left_level}
use Rattle.arith64.specs.declared.frames.Frame.{Frame}
use Rattle.arith64.specs.declared.frames.Frame.TheVariants.{Group, Index, Prefix, Left, Test, Otherwise, Target}
use Rattle.arith64.specs.Parsing.{reduce, binds, binds_top, built, room, asked}

pub one_more : (l : ℕ) (f : Frame) (fs : List Frame) (e : Expr) → binds l f ≡ true → reduce l (f ∷ fs) e ≡ reduce l fs (built f e)
unfolding reduce
one_more l f fs e h = rw h refl

pub no_more : (l : ℕ) (f : Frame) (fs : List Frame) (e : Expr) → binds l f ≡ false → reduce l (f ∷ fs) e ≡ (f ∷ fs, e)
unfolding reduce
no_more l f fs e h = rw h refl

pub popped : (l : ℕ) (before later : List Frame) (f : Frame) (e : Expr) → before ≡ f ∷ later → binds l f ≡ true → reduce l before e ≡ reduce l later (built f e)
popped l before later f e at h = rw at (one_more l f later e h)

pub stops : (l : ℕ) (fs : List Frame) (e : Expr) → binds_top l fs ≡ false → reduce l fs e ≡ (fs, e)
unfolding reduce
stops l [] e h = refl
stops l (f ∷ fs) e h = no_more l f fs e h

-- what is known of an operator's level, and of the level of what stands before it
pub record Level (l m : ℕ) : Type 0 where
  pub most : l ≤ 13
  pub left : l ≤ m
  pub at_most : m ≤ 14
  pub not_one : l ≡ 1 → ⊥
  pub not_two : l ≡ 2 → ⊥

same : (l : ℕ) → 3 ≤ l → l ≤ 13 → Level l l
same l low high = record { most = high; left = omega arith; at_most = omega arith; not_one = λ e. omega arith; not_two = λ e. omega arith }

pub is_level : (i : Infix) → Level (level i) (left_level i)
is_level Comma = record { most = omega arith; left = omega arith; at_most = omega arith; not_one = λ e. omega arith; not_two = λ e. omega arith }
is_level Or = same 3 (omega arith) (omega arith)
is_level And = same 4 (omega arith) (omega arith)
is_level (Plain op.BitOr) = same 5 (omega arith) (omega arith)
is_level (Plain op.BitXor) = same 6 (omega arith) (omega arith)
is_level (Plain op.BitAnd) = same 7 (omega arith) (omega arith)
is_level (Plain op.Equal) = same 8 (omega arith) (omega arith)
is_level (Plain op.Unequal) = same 8 (omega arith) (omega arith)
is_level (Plain op.Less) = same 9 (omega arith) (omega arith)
is_level (Plain op.AtMost) = same 9 (omega arith) (omega arith)
is_level (Plain op.Greater) = same 9 (omega arith) (omega arith)
is_level (Plain op.AtLeast) = same 9 (omega arith) (omega arith)
is_level (Plain op.ShiftLeft) = same 10 (omega arith) (omega arith)
is_level (Plain op.ShiftRight) = same 10 (omega arith) (omega arith)
is_level (Plain op.Add) = same 11 (omega arith) (omega arith)
is_level (Plain op.Subtract) = same 11 (omega arith) (omega arith)
is_level (Plain op.Times) = same 12 (omega arith) (omega arith)
is_level (Plain op.Divide) = same 12 (omega arith) (omega arith)
is_level (Plain op.Remainder) = same 12 (omega arith) (omega arith)
is_level (Plain op.Power) = record { most = omega arith; left = omega arith; at_most = omega arith; not_one = λ e. omega arith; not_two = λ e. omega arith }

below : (l m k : ℕ) → k < l → l ≤ m → nat_le m k ≡ false
below l m k lt le = grind (arith, nat_tests)

-- a frame behind which such an operator may stand doesn't bind before it
loose : (l m : ℕ) (f : Frame) → Level l m → asked f ≤ l → binds m f ≡ false
loose l m Group v le = refl
loose l m (Index text step) v le = refl
loose l m (Prefix op) v le = let most = v.most in absurd (omega arith)
loose l m (Left i a) v le = below l m (level i) (omega arith) v.left
loose l m (Test a) v le = refl
loose l m (Otherwise a b) v le = let more : (l ≡ 2 → ⊥) → 2 < l = λ n. omega (arith, n) in below l m 2 (more v.not_two) v.left
loose l m (Target a op) v le = let more : (l ≡ 1 → ⊥) → 1 < l = λ n. omega (arith, n) in below l m 1 (more v.not_one) v.left

pub stays : (l m : ℕ) (fs : List Frame) (e : Expr) → Level l m → room fs ≤ l → reduce m fs e ≡ (fs, e)
unfolding reduce
stays l m [] e v le = refl
stays l m (f ∷ fs) e v le = no_more m f fs e (loose l m f v le)

pub stays_three : (fs : List Frame) (e : Expr) → room fs ≤ 2 → reduce 3 fs e ≡ (fs, e)
stays_three fs e le = stays 3 3 fs e (same 3 (omega arith) (omega arith)) (omega arith)

pub at_most : (m k : ℕ) → m ≤ k → nat_le m k ≡ true
at_most m k le = grind (arith, nat_tests)
