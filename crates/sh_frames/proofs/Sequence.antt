-- Runs one behind the other.
use Rattle.std.proofs.Common.{◌≡◌, refl, ap}
use Rattle.shell_world.specs.Runs.{Res, Ends, GoesOn, Unspecified, Do, after}

pub assoc : {X Y Z S : Type 0} (r : Res X S) (f : X → Do Y S) (g : Y → Do Z S) → after (after r f) g ≡ after r (λ x n s. after (f x n s) g)
assoc (Ends x s n) f g = refl
assoc (GoesOn t n) f g = refl
assoc (Unspecified t n) f g = refl

-- three, one behind the other
pub assoc3 : {W X Y Z S : Type 0} (r : Res W S) (f : W → Do X S) (g : X → Do Y S) (h : Y → Do Z S) →
    after (after (after r f) g) h ≡ after r (λ w n s. after (after (f w n s) g) h)
assoc3 (Ends x s n) f g h = refl
assoc3 (GoesOn t n) f g h = refl
assoc3 (Unspecified t n) f g h = refl

-- the same, where each goes on behind the one before it
pub nested : {W X Y Z S : Type 0} (r : Res W S) (f : W → Do X S) (g : X → Do Y S) (h : Y → Do Z S) →
    after (after (after r f) g) h ≡ after r (λ w n s. after (f w n s) (λ x n s. after (g x n s) h))
nested (Ends x s n) f g h = assoc (f x n s) g h
nested (GoesOn t n) f g h = refl
nested (Unspecified t n) f g h = refl

-- the same, where the two in the middle belong together
pub nested4 : {V W X Y Z S : Type 0} (r : Res V S) (e : V → Do W S) (f : W → Do X S) (g : X → Do Y S) (h : Y → Do Z S) →
    after (after (after (after r e) f) g) h ≡ after r (λ v n s. after (after (e v n s) (λ w n s. after (f w n s) g)) h)
nested4 (Ends x s n) e f g h = ap (λ q. after q h) (assoc (e x n s) f g)
nested4 (GoesOn t n) e f g h = refl
nested4 (Unspecified t n) e f g h = refl

pub ends : {X S : Type 0} (r : Res X S) → after r (λ x n s. Ends x s n) ≡ r
ends (Ends x s n) = refl
ends (GoesOn t n) = refl
ends (Unspecified t n) = refl
