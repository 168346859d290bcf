-- What is known of bodies only grows, and says of each what it is.
use Rattle.std.proofs.Common.{◌≡◌, ℕ, zero, suc, ◌<◌, true, List, [], ◌∷◌, ◌++◌, length, refl, sym, ap, subst, ◌∙◌, append_assoc, append-nil, arith}
use Rattle.std.specs.Cmp.Lexicographic.{pointwise}
use Rattle.std.proofs.lemmas.Slice.Eq.{slice_eq-Decides, bytes_eq-Decides}
use Rattle.span_text.specs.KnownNames.{same_text}
use Rattle.sh_grammar.specs.Bytes.{Text}
use Rattle.sh_grammar.specs.Steps.{nth}
use Rattle.sh_parser.specs.declared.knowing.Bodies.{Bodies}
use Rattle.sh_parser.specs.declared.knowing.Extent.{Extent}
use Rattle.sh_parser.specs.declared.knowing.Extent.TheVariants as extents
use Rattle.sh_parser.specs.Knowing.{AreKnown, MayBe, Grows}

-- ---- growing

pub known_same : (e : Extent) (ks : List Text) → AreKnown e ks ks
known_same extents.All ks = refl
known_same extents.Front ks = ([], sym (append-nil ks))

known_through : (e : Extent) (ks ls ds : List Text) → AreKnown e ks ls → AreKnown e ls ds → AreKnown e ks ds
known_through extents.All ks ls ds p q = q ∙ p
known_through extents.Front ks ls ds p q = (p.0 ++ q.0, q.1 ∙ ap (λ (z : List Text). z ++ q.0) p.1 ∙ append_assoc ks p.0 q.0)

pub grows_not : (b : Bodies) → Grows b b
grows_not b = (refl, known_same b.extent b.texts)

pub grows_through : (b c d : Bodies) → Grows b c → Grows c d → Grows b d
grows_through b c d p q = (q.0 ∙ p.0, known_through b.extent b.texts c.texts d.texts p.1 (subst (λ (e : Extent). AreKnown e c.texts d.texts) p.0 q.1))

-- what the bodies may be later, they might be before
pub may_be_before : (b c : Bodies) (ds : List Text) → Grows b c → MayBe c ds → MayBe b ds
may_be_before b c ds p q = known_through b.extent b.texts c.texts ds p.1 (subst (λ (e : Extent). AreKnown e c.texts ds) p.0 q)

-- one more is guessed
pub grows_by : (b c : Bodies) (t : Text) → b.extent ≡ extents.Front → c.extent ≡ b.extent → c.texts ≡ b.texts ++ t ∷ [] → Grows b c
grows_by b c t f e k = (e, subst (λ (x : Extent). AreKnown x b.texts c.texts) (sym f) (t ∷ [], k))

-- ---- each body

nth_front : (ks more : List Text) (k : ℕ) → k < length ks → nth (ks ++ more) k ≡ nth ks k
nth_front [] more k h = absurd (omega arith)
nth_front (t ∷ ks) more zero h = refl
nth_front (t ∷ ks) more (suc k) h = nth_front ks more k (omega (arith, h))

pub nth_known : (b : Bodies) (ds : List Text) (k : ℕ) → k < length b.texts → MayBe b ds → nth b.texts k ≡ nth ds k
nth_known b ds k h q = at b.extent q
  where
    at : (e : Extent) → AreKnown e b.texts ds → nth b.texts k ≡ nth ds k
    at extents.All p = ap (λ (z : List Text). nth z k) (sym p)
    at extents.Front p = sym (ap (λ (z : List Text). nth z k) p.1 ∙ nth_front b.texts p.0 k h)

pub nth_all : (b : Bodies) (ds : List Text) (k : ℕ) → b.extent ≡ extents.All → MayBe b ds → nth b.texts k ≡ nth ds k
nth_all b ds k f q = let p : ds ≡ b.texts = subst (λ (e : Extent). AreKnown e b.texts ds) f q in ap (λ (z : List Text). nth z k) (sym p)

-- ---- texts that are compared

pub same_texts : (xs ys : List Text) → pointwise same_text xs ys ≡ true → xs ≡ ys
same_texts xs ys e = (slice_eq-Decides bytes_eq-Decides xs ys true (sym e)).0 refl

-- ---- all are known

-- the bodies are all known, and these
pub all_known : (b c : Bodies) (ds : List Text) → b.extent ≡ extents.All → ds ≡ b.texts → Grows b c → MayBe c ds
all_known b c ds f e g =
    let p : c.texts ≡ b.texts = subst (λ (x : Extent). AreKnown x b.texts c.texts) f g.1 in
    subst (λ (x : Extent). AreKnown x c.texts ds) (sym (g.0 ∙ f)) (e ∙ sym p)

pub they_may_be : (b : Bodies) → MayBe b b.texts
they_may_be b = known_same b.extent b.texts
