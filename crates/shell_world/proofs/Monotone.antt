-- More turns change nothing of a run that is over, and only lengthen the record of one that goes on.
use Rattle.std.proofs.Common.{◌≡◌, ℕ, ◌+◌, ◌≤◌, List, [], ◌++◌, Bool, true, false, refl, sym, ap, ◌∙◌, subst, arith, append_assoc, append-nil}
use Rattle.shell_world.specs.Outside.{Trace}
use Rattle.shell_world.specs.Runs.{Signal, Normal, Exits, Try, Value, Fails, St, Res, Ends, GoesOn, Unspecified, Do, after, if_normal, if_value, with_value, choose, with_own}
use Rattle.shell_world.specs.Ends.{IsPrefix}

pub prefix_refl : (t : Trace) → IsPrefix t t
prefix_refl t = record { calls = ([], sym (append-nil t.calls)); out = ([], sym (append-nil t.out)); err = ([], sym (append-nil t.err)) }

then_more : {X : Type 0} (u v w : List X) → ((z : List X) × (v ≡ u ++ z)) → ((z : List X) × (w ≡ v ++ z)) → (z : List X) × (w ≡ u ++ z)
then_more {X} u v w p q = (p.0 ++ q.0, q.1 ∙ ap (λ (x : List X). x ++ q.0) p.1 ∙ append_assoc u p.0 q.0)

pub prefix_trans : (u v w : Trace) → IsPrefix u v → IsPrefix v w → IsPrefix u w
prefix_trans u v w p q = record {
  calls = then_more u.calls v.calls w.calls p.calls q.calls;
  out = then_more u.out v.out w.out p.out q.out;
  err = then_more u.err v.err w.err p.err q.err;
}

abbrev pub res_trace : {X S : Type 0} → Res X S → Trace
res_trace (Ends g s n) = s.trace
res_trace (GoesOn w r) = w
res_trace (Unspecified w r) = w

-- what a result with n turns says of one with m
abbrev pub Later : {X S : Type 0} → ℕ → ℕ → Res X S → Res X S → Type 0
Later n m (Ends g s r) o = (q : ℕ) × (o ≡ Ends g s q) × (r + m ≡ q + n)
Later n m (GoesOn w r) o = IsPrefix w (res_trace o)
Later n m (Unspecified w r) o = (q : ℕ) × (o ≡ Unspecified w q)

pub record Under {X S : Type 0} (c c' : Do X S) : Type 0 where
  pub later : (n m : ℕ) (s : St S) → n ≤ m → Later n m (c n s) (c' m s)
  pub grows : (m : ℕ) (s : St S) → IsPrefix s.trace (res_trace (c' m s))

after_grows : {X Y S : Type 0} (w : Trace) (o : Res X S) (k : X → Do Y S) → IsPrefix w (res_trace o) → ((x : X) (m : ℕ) (s : St S) → IsPrefix s.trace (res_trace (k x m s))) → IsPrefix w (res_trace (after o k))
after_grows w (Ends g s n) k p h = prefix_trans w s.trace _ p (h g n s)
after_grows w (GoesOn v r) k p h = p
after_grows w (Unspecified v r) k p h = p

later_shift : {X S : Type 0} (n m r q : ℕ) (o o' : Res X S) → r + m ≡ q + n → Later r q o o' → Later n m o o'
later_shift n m r q (Ends g s x) o' e h = (h.0, h.1, omega (arith, h.2, e))
later_shift n m r q (GoesOn w x) o' e h = h
later_shift n m r q (Unspecified w x) o' e h = h

later_after : {X Y S : Type 0} (n m : ℕ) (o o' : Res X S) (k k' : X → Do Y S) → n ≤ m → Later n m o o' → ((x : X) → Under (k x) (k' x)) → Later n m (after o k) (after o' k')
later_after n m (Ends g s r) o' k k' le h u =
    let e : after o' k' ≡ k' g h.0 s = ap (λ x. after x k') h.1 in
    subst (λ x. Later n m (k g r s) x) (sym e) (later_shift n m r h.0 (k g r s) (k' g h.0 s) h.2 ((u g).later r h.0 s (omega (arith, h.2, le))))
later_after n m (GoesOn w r) o' k k' le h u = after_grows w o' k' h (λ g. (u g).grows)
later_after n m (Unspecified w r) o' k k' le h u = (h.0, ap (λ x. after x k') h.1)

-- the same for each way to build a run; what follows may read the state before
pub under_from : {X Y S : Type 0} (c c' : Do X S) (k k' : St S → X → Do Y S) → Under c c' → ((s : St S) (x : X) → Under (k s x) (k' s x)) → Under (λ n s. after (c n s) (k s)) (λ n s. after (c' n s) (k' s))
under_from c c' k k' u v = record {
  later = λ n m s le. later_after n m (c n s) (c' m s) (k s) (k' s) le (u.later n m s le) (v s);
  grows = λ m s. after_grows s.trace (c' m s) (k' s) (u.grows m s) (λ g. (v s g).grows);
}

pub under_after : {X Y S : Type 0} (c c' : Do X S) (k k' : X → Do Y S) → Under c c' → ((x : X) → Under (k x) (k' x)) → Under (λ n s. after (c n s) k) (λ n s. after (c' n s) k')
under_after c c' k k' u v = under_from c c' (λ s. k) (λ s. k') u (λ s. v)

pub under_ends : {X S : Type 0} (x : St S → X) (f : St S → St S) → ((s : St S) → IsPrefix s.trace (f s).trace) → Under (λ n s. Ends (x s) (f s) n) (λ n s. Ends (x s) (f s) n)
under_ends x f h = record {
  later = λ n m s le. (m, refl, omega arith);
  grows = λ m s. h s;
}

pub under_own : {X S : Type 0} (x : S → X) (f : S → S) → Under {S = S} (λ n s. Ends (x s.own) (with_own s (f s.own)) n) (λ n s. Ends (x s.own) (with_own s (f s.own)) n)
under_own x f = under_ends (λ s. x s.own) (λ s. with_own s (f s.own)) (λ s. prefix_refl s.trace)

pub under_keep : {X S : Type 0} (x : S → X) → Under {S = S} (λ n s. Ends (x s.own) s n) (λ n s. Ends (x s.own) s n)
under_keep x = under_ends (λ s. x s.own) (λ s. s) (λ s. prefix_refl s.trace)

pub under_unspecified : {X S : Type 0} → Under {X = X} {S = S} (λ n s. Unspecified s.trace n) (λ n s. Unspecified s.trace n)
under_unspecified = record { later = λ n m s le. (m, refl); grows = λ m s. prefix_refl s.trace }

pub under_if_normal : {S : Type 0} (k k' : Do Signal S) → Under k k' → (g : Signal) → Under (if_normal k g) (if_normal k' g)
under_if_normal k k' u Normal = u
under_if_normal k k' u Exits = under_keep (λ o. Exits)

pub under_if_value : {X Y S : Type 0} (k k' : X → Do (Try Y) S) → ((x : X) → Under (k x) (k' x)) → (g : Try X) → Under (if_value k g) (if_value k' g)
under_if_value k k' u (Value x) = u x
under_if_value k k' u Fails = under_keep (λ o. Fails)

pub under_with_value : {X S : Type 0} (k k' : X → Do Signal S) → ((x : X) → Under (k x) (k' x)) → (g : Try X) → Under (with_value k g) (with_value k' g)
under_with_value k k' u (Value x) = u x
under_with_value k k' u Fails = under_keep (λ o. Exits)

-- a run that stops short of whatever goes on
pub under_stop : {X S : Type 0} (c' : Do X S) → ((m : ℕ) (s : St S) → IsPrefix s.trace (res_trace (c' m s))) → Under (λ n s. GoesOn s.trace n) c'
under_stop c' h = record { later = λ n m s le. h m s; grows = h }

pub under_choose : {X S : Type 0} (b : Bool) (x x' y y' : Do X S) → Under x x' → Under y y' → Under (choose b x y) (choose b x' y')
under_choose true x x' y y' u v = u
under_choose false x x' y y' u v = v

-- a choice by the state
pub under_choice : {X S : Type 0} (holds : S → Bool) (x x' y y' : Do X S) → Under x x' → Under y y' → Under (λ n s. choose (holds s.own) x y n s) (λ n s. choose (holds s.own) x' y' n s)
under_choice holds x x' y y' u v = record {
  later = λ n m s le. (under_choose (holds s.own) x x' y y' u v).later n m s le;
  grows = λ m s. (under_choose (holds s.own) x x' y y' u v).grows m s;
}

-- a run that the state decides
pub under_by : {X S : Type 0} (k k' : St S → Do X S) → ((s : St S) → Under (k s) (k' s)) → Under (λ n s. k s n s) (λ n s. k' s n s)
under_by k k' u = record { later = λ n m s le. (u s).later n m s le; grows = λ m s. (u s).grows m s }
