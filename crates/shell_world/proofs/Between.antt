-- Two programs of which one follows the other, from what each does under two bounds.
use Rattle.std.proofs.Common.{◌≡◌, ℕ, ◌+◌, ◌≤◌, sym, ap, ◌∙◌, subst, arith}
use Rattle.shell_world.specs.Texts.{Text, Map}
use Rattle.shell_world.specs.Outside.{Trace}
use Rattle.shell_world.specs.Ends.{Outcome, Ended, Going, Unknown, trace_of, IsPrefix}

abbrev pub OutLater : Outcome → Outcome → Type 0
OutLater (Ended w fs s) p = p ≡ Ended w fs s
OutLater (Going w) p = IsPrefix w (trace_of p)
OutLater (Unknown w) p = p ≡ Unknown w

-- what an outcome of the one, under n turns and n levels, says of the other
abbrev pub OutMatches : ℕ → Outcome → (ℕ → ℕ → Outcome) → Type 0
OutMatches n (Ended w fs s) q = (j : ℕ) × (q j j ≡ Ended w fs s)
OutMatches n (Going w) q = (j : ℕ) × (n ≤ j) × (q j j ≡ Going w)
OutMatches n (Unknown w) q = ⊥

pub record Grows (p : ℕ → ℕ → Outcome) : Type 0 where
  pub by : (t d t' d' : ℕ) → t ≤ t' → d ≤ d' → OutLater (p t d) (p t' d')

module _ (p q : ℕ → ℕ → Outcome) (gp : Grows p) (gq : Grows q) (follows : (n : ℕ) → OutMatches n (p n n) q) where
  -- where q is at some bounds, once more at larger ones
  later_q : (t d m : ℕ) (o : Outcome) → q t d ≡ o → t ≤ m → d ≤ m → OutLater o (q m m)
  later_q t d m o e lt ld = subst (λ x. OutLater x (q m m)) e (gq.by t d m m lt ld)

  later_p : (t d m : ℕ) (o : Outcome) → p t d ≡ o → t ≤ m → d ≤ m → OutLater o (p m m)
  later_p t d m o e lt ld = subst (λ x. OutLater x (p m m)) e (gp.by t d m m lt ld)

  same_trace : (n : ℕ) (o : Outcome) → OutMatches n o q → (j : ℕ) × (trace_of (q j j) ≡ trace_of o)
  same_trace n (Ended w fs s) h = (h.0, ap trace_of h.1)
  same_trace n (Going w) h = (h.0, ap trace_of h.2)
  same_trace n (Unknown w) h = absurd h

  pub ends : (t d : ℕ) (w : Trace) (fs : Map Text) (s : ℕ) → p t d ≡ Ended w fs s → (t' : ℕ) × (d' : ℕ) × (q t' d' ≡ Ended w fs s)
  ends t d w fs s e =
      let e' : p (t + d) (t + d) ≡ Ended w fs s = later_p t d (t + d) (Ended w fs s) e (omega arith) (omega arith) in
      let h = subst (λ o. OutMatches (t + d) o q) e' (follows (t + d)) in
      (h.0, h.0, h.1)

  ends_at : (t d n : ℕ) (w : Trace) (fs : Map Text) (s : ℕ) (o : Outcome) → q t d ≡ Ended w fs s → t ≤ n → d ≤ n → OutMatches n o q → o ≡ Ended w fs s
  ends_at t d n w fs s (Ended v gs r) e lt ld h =
      let m : ℕ = n + h.0 in
      let a : q m m ≡ Ended w fs s = later_q t d m (Ended w fs s) e (omega arith) (omega arith) in
      let b : q m m ≡ Ended v gs r = later_q h.0 h.0 m (Ended v gs r) h.1 (omega arith) (omega arith) in
      sym b ∙ a
  ends_at t d n w fs s (Going v) e lt ld h =
      let a : q h.0 h.0 ≡ Ended w fs s = later_q t d h.0 (Ended w fs s) e (omega (arith, h.1)) (omega (arith, h.1)) in
      let b = h.2 in
      cc
  ends_at t d n w fs s (Unknown v) e lt ld h = absurd h

  pub ends_only : (t d : ℕ) (w : Trace) (fs : Map Text) (s : ℕ) → q t d ≡ Ended w fs s → (t' : ℕ) × (d' : ℕ) × (p t' d' ≡ Ended w fs s)
  ends_only t d w fs s e = (t + d, t + d, ends_at t d (t + d) w fs s (p (t + d) (t + d)) e (omega arith) (omega arith) (follows (t + d)))

  pub goes_on : (t d : ℕ) (w : Trace) → p t d ≡ Going w → (t' : ℕ) × (d' : ℕ) × IsPrefix w (trace_of (q t' d'))
  goes_on t d w e =
      let a : IsPrefix w (trace_of (p (t + d) (t + d))) = later_p t d (t + d) (Going w) e (omega arith) (omega arith) in
      let h = same_trace (t + d) (p (t + d) (t + d)) (follows (t + d)) in
      (h.0, h.0, subst (λ x. IsPrefix w x) (sym h.1) a)

  goes_on_at : (t d n : ℕ) (w : Trace) (o : Outcome) → q t d ≡ Going w → t ≤ n → d ≤ n → OutMatches n o q → IsPrefix w (trace_of o)
  goes_on_at t d n w (Ended v gs r) e lt ld h =
      let m : ℕ = n + h.0 in
      let a : IsPrefix w (trace_of (q m m)) = later_q t d m (Going w) e (omega arith) (omega arith) in
      let b : q m m ≡ Ended v gs r = later_q h.0 h.0 m (Ended v gs r) h.1 (omega arith) (omega arith) in
      subst (λ x. IsPrefix w (trace_of x)) b a
  goes_on_at t d n w (Going v) e lt ld h =
      let a : IsPrefix w (trace_of (q h.0 h.0)) = later_q t d h.0 (Going w) e (omega (arith, h.1)) (omega (arith, h.1)) in
      subst (λ x. IsPrefix w (trace_of x)) h.2 a
  goes_on_at t d n w (Unknown v) e lt ld h = absurd h

  pub goes_on_only : (t d : ℕ) (w : Trace) → q t d ≡ Going w → (t' : ℕ) × (d' : ℕ) × IsPrefix w (trace_of (p t' d'))
  goes_on_only t d w e = (t + d, t + d, goes_on_at t d (t + d) w (p (t + d) (t + d)) e (omega arith) (omega arith) (follows (t + d)))

  specified_at : (t d n : ℕ) (w : Trace) (o : Outcome) → q t d ≡ Unknown w → t ≤ n → d ≤ n → OutMatches n o q → ⊥
  specified_at t d n w (Ended v gs r) e lt ld h =
      let m : ℕ = n + h.0 in
      let a : q m m ≡ Unknown w = later_q t d m (Unknown w) e (omega arith) (omega arith) in
      let b : q m m ≡ Ended v gs r = later_q h.0 h.0 m (Ended v gs r) h.1 (omega arith) (omega arith) in
      cc
  specified_at t d n w (Going v) e lt ld h =
      let a : q h.0 h.0 ≡ Unknown w = later_q t d h.0 (Unknown w) e (omega (arith, h.1)) (omega (arith, h.1)) in
      let b = h.2 in
      cc
  specified_at t d n w (Unknown v) e lt ld h = absurd h

  pub specified : (t d : ℕ) (w : Trace) → q t d ≡ Unknown w → ⊥
  specified t d w e = specified_at t d (t + d) w (p (t + d) (t + d)) e (omega arith) (omega arith) (follows (t + d))
