-- What an edit of the entries at the place of a key does to the map.
use Rattle.std.proofs.Common.{◌≡◌, ℕ, zero, suc, ◌+◌, ◌<◌, ◌≤◌, length, get_or, [], ◌∷◌, Bool, true, false, drop, Some, None, refl, ap, arith, add-one}
use Rattle.std.specs.Prelude.{slice_set}
use Rattle.std.specs.declared.cmp.Ordering.{Ordering}
use Rattle.std.specs.declared.cmp.Ordering.TheVariants.{Less, Equal, Greater}
use Rattle.std.specs.Ordering.{is_eq}
use Rattle.std.specs.List.{prefix_len, insert as put_in}
use Rattle.std.proofs.lemmas.Map.Lookups.{exact_bytes}
use Rattle.shell_world.specs.Texts.{Text, Map, text_cmp, lookup, insert, is_below, first_is}

module _ {X : Type 0} (key : Text) (v : X) where
  abbrev pub place : Map X → ℕ
  place es = prefix_len (λ e. is_below key e.0) es

  place_behind : (e : Text × X) (es : Map X) → text_cmp key e.0 ≡ Greater → place (e ∷ es) ≡ suc (place es)
  place_behind e es is = rw is (omega arith)

  -- where the key stands, its value is written over
  pub set_at_place : (es : Map X) → first_is key (drop (place es) es) ≡ true → slice_set es (place es) (key, v) ≡ insert key v es
  set_at_place [] h = cc
  set_at_place (e ∷ es) h = set_first (text_cmp key e.0) refl (set_at_place es) h
    where
      set_first : (r : Ordering) → text_cmp key e.0 ≡ r → (first_is key (drop (place es) es) ≡ true → slice_set es (place es) (key, v) ≡ insert key v es)
          → first_is key (drop (place (e ∷ es)) (e ∷ es)) ≡ true → slice_set (e ∷ es) (place (e ∷ es)) (key, v) ≡ insert key v (e ∷ es)
      set_first Less is further h = cc
      set_first Equal is further h = grind (arith, exact_bytes key e.0 is)
      set_first Greater is further h = rw (place_behind e es is, is) (ap (λ x. e ∷ x) (further (rw (place_behind e es is) at h)))

  -- where it doesn't, the entry is put between the others
  pub put_at_place : (es : Map X) → first_is key (drop (place es) es) ≡ false → put_in es (place es) (key, v) ≡ insert key v es
  put_at_place [] h = refl
  put_at_place (e ∷ es) h = put_first (text_cmp key e.0) refl (put_at_place es) h
    where
      put_first : (r : Ordering) → text_cmp key e.0 ≡ r → (first_is key (drop (place es) es) ≡ false → put_in es (place es) (key, v) ≡ insert key v es)
          → first_is key (drop (place (e ∷ es)) (e ∷ es)) ≡ false → put_in (e ∷ es) (place (e ∷ es)) (key, v) ≡ insert key v (e ∷ es)
      put_first Less is further h = grind arith
      put_first Equal is further h = grind arith
      put_first Greater is further h = rw (place_behind e es is, is) (ap (λ x. e ∷ x) (further (rw (place_behind e es is) at h)))

module _ {X : Type 0} (key : Text) where
  -- the first entry at the key gives the value
  pub lookup_here : (es : Map X) (i : ℕ) (d : Text × X) → i < length es → is_eq (text_cmp key (get_or es i d).0) ≡ true → lookup key (drop i es) ≡ Some (get_or es i d).1
  lookup_here [] i d lt h = absurd (omega arith)
  lookup_here (e ∷ es) zero d lt h = rw h refl
  lookup_here (e ∷ es) (suc i) d lt h = lookup_here es i d (omega arith) h

  lookup_next : (es : Map X) (i : ℕ) (d : Text × X) → i < length es → is_eq (text_cmp key (get_or es i d).0) ≡ false → lookup key (drop i es) ≡ lookup key (drop (suc i) es)
  lookup_next [] i d lt h = absurd (omega arith)
  lookup_next (e ∷ es) zero d lt h = rw h refl
  lookup_next (e ∷ es) (suc i) d lt h = lookup_next es i d (omega arith) h

  -- an entry at another key is passed over
  pub lookup_behind : (es : Map X) (i : ℕ) (d : Text × X) → i < length es → is_eq (text_cmp key (get_or es i d).0) ≡ false → lookup key (drop i es) ≡ lookup key (drop (i + 1) es)
  lookup_behind es i d lt h = rw add-one (lookup_next es i d lt h)

  pub lookup_end : (es : Map X) (i : ℕ) → length es ≤ i → lookup key (drop i es) ≡ None
  lookup_end [] zero h = refl
  lookup_end [] (suc i) h = refl
  lookup_end (e ∷ es) zero h = absurd (omega arith)
  lookup_end (e ∷ es) (suc i) h = lookup_end es i (omega arith)

-- the same, as the code has found the place
pub set_there : {X : Type 0} (key : Text) (v : X) (es items : Map X) (k l : Text) (i : ℕ) (b : Bool) → items ≡ es → k ≡ key → l ≡ key → i ≡ place k v es → b ≡ first_is l (drop i es) → b ≡ true → slice_set items i (key, v) ≡ insert key v es
set_there key v es items k l i b e f g p q h = rw (e, p, f) (set_at_place key v es (rw (← f, ← p, f, ← g, ← q) h))

pub put_there : {X : Type 0} (key : Text) (v : X) (es items : Map X) (k l : Text) (i : ℕ) (b : Bool) → items ≡ es → k ≡ key → l ≡ key → i ≡ place k v es → b ≡ first_is l (drop i es) → b ≡ false → put_in items i (key, v) ≡ insert key v es
put_there key v es items k l i b e f g p q h = rw (e, p, f) (put_at_place key v es (rw (← f, ← p, f, ← g, ← q) h))
