-- A map whose values are seen as others.
use Rattle.std.proofs.Common.{◌≡◌, List, [], ◌∷◌, refl, ap}
use Rattle.std.specs.Prelude.{map, Option, option_map}
use Rattle.std.specs.declared.cmp.Ordering.{Ordering}
use Rattle.std.specs.declared.cmp.Ordering.TheVariants.{Less, Equal, Greater}
use Rattle.shell_world.specs.Texts.{Text, Map, text_cmp, lookup, insert}

module _ {X Y : Type 0} (f : X → Y) (key : Text) where
  pub looked : (m : Map X) → lookup key (map (λ e. (e.0, f e.1)) m) ≡ option_map f (lookup key m)
  looked [] = refl
  looked (e ∷ m) = by (text_cmp key e.0) refl (looked m)
    where
      by : (r : Ordering) → text_cmp key e.0 ≡ r → lookup key (map (λ e. (e.0, f e.1)) m) ≡ option_map f (lookup key m) →
          lookup key (map (λ e. (e.0, f e.1)) (e ∷ m)) ≡ option_map f (lookup key (e ∷ m))
      by Less is further = cc
      by Equal is further = cc
      by Greater is further = cc

  pub inserted : (v : X) (m : Map X) → map (λ e. (e.0, f e.1)) (insert key v m) ≡ insert key (f v) (map (λ e. (e.0, f e.1)) m)
  inserted v [] = refl
  inserted v (e ∷ m) = by (text_cmp key e.0) refl (inserted v m)
    where
      by : (r : Ordering) → text_cmp key e.0 ≡ r → map (λ e. (e.0, f e.1)) (insert key v m) ≡ insert key (f v) (map (λ e. (e.0, f e.1)) m) →
          map (λ e. (e.0, f e.1)) (insert key v (e ∷ m)) ≡ insert key (f v) (map (λ e. (e.0, f e.1)) (e ∷ m))
      by Less is further = rw is refl
      by Equal is further = rw is refl
      by Greater is further = rw is (ap (λ l. (e.0, f e.1) ∷ l) further)
