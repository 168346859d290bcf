-- More turns change nothing of a run that is over, only lengthen the record of one that goes on, and none is given back.
use Rattle.std.proofs.Common.{◌≡◌, ℕ, ◌+◌, ◌≤◌, Bool, true, false, refl, sym, ap, subst, arith}
use Rattle.shell_world.specs.Outside.{Trace}
use Rattle.shell_world.specs.Runs.{St, Res, Ends, GoesOn, Unspecified, Do, after, choose, with_own}
use Rattle.shell_world.specs.Ends.{IsPrefix}
use Rattle.shell_world.proofs.Monotone.{prefix_refl, prefix_trans}
use Rattle.shell_runs.specs.Bounds.{record_of, turns_left, Later, Under}

after_grows : {X Y S : Type 0} (w : Trace) (o : Res X S) (k : X → Do Y S) → IsPrefix w (record_of o) → ((x : X) (m : ℕ) (s : St S) → IsPrefix s.trace (record_of (k x m s))) → IsPrefix w (record_of (after o k))
after_grows w (Ends g s n) k p h = prefix_trans w s.trace _ p (h g n s)
after_grows w (GoesOn v r) k p h = p
after_grows w (Unspecified v r) k p h = p

after_spends : {X Y S : Type 0} (n : ℕ) (o : Res X S) (k : X → Do Y S) → turns_left o ≤ n → ((x : X) (m : ℕ) (s : St S) → turns_left (k x m s) ≤ m) → turns_left (after o k) ≤ n
after_spends n (Ends g s r) k p h = let q = h g r s in omega (arith, p, q)
after_spends n (GoesOn v r) k p h = p
after_spends n (Unspecified v r) k p h = p

later_shift : {X S : Type 0} (n m r q : ℕ) (o o' : Res X S) → r + m ≡ q + n → Later r q o o' → Later n m o o'
later_shift n m r q (Ends g s x) o' e h = (h.0, h.1, omega (arith, h.2, e))
later_shift n m r q (GoesOn w x) o' e h = h
later_shift n m r q (Unspecified w x) o' e h = h

later_after : {X Y S : Type 0} (n m : ℕ) (o o' : Res X S) (k k' : X → Do Y S) → n ≤ m → Later n m o o' → ((x : X) → Under (k x) (k' x)) → Later n m (after o k) (after o' k')
later_after n m (Ends g s r) o' k k' le h u =
    let e : after o' k' ≡ k' g h.0 s = ap (λ x. after x k') h.1 in
    subst (λ x. Later n m (k g r s) x) (sym e) (later_shift n m r h.0 (k g r s) (k' g h.0 s) h.2 ((u g).later r h.0 s (omega (arith, h.2, le))))
later_after n m (GoesOn w r) o' k k' le h u = after_grows w o' k' h (λ g. (u g).grows)
later_after n m (Unspecified w r) o' k k' le h u = (h.0, ap (λ x. after x k') h.1)

-- ---- the same for each way to build a run

-- what follows may read the state before
pub under_from : {X Y S : Type 0} (c c' : Do X S) (k k' : St S → X → Do Y S) → Under c c' → ((s : St S) (x : X) → Under (k s x) (k' s x)) → Under (λ n s. after (c n s) (k s)) (λ n s. after (c' n s) (k' s))
under_from c c' k k' u v = record {
  later = λ n m s le. later_after n m (c n s) (c' m s) (k s) (k' s) le (u.later n m s le) (v s);
  grows = λ m s. after_grows s.trace (c' m s) (k' s) (u.grows m s) (λ g. (v s g).grows);
  spends = λ n s. after_spends n (c n s) (k s) (u.spends n s) (λ g. (v s g).spends);
}

pub under_after : {X Y S : Type 0} (c c' : Do X S) (k k' : X → Do Y S) → Under c c' → ((x : X) → Under (k x) (k' x)) → Under (λ n s. after (c n s) k) (λ n s. after (c' n s) k')
under_after c c' k k' u v = under_from c c' (λ s. k) (λ s. k') u (λ s. v)

-- a run that begins in a changed state
pub under_start : {X S : Type 0} (f : St S → St S) (c c' : Do X S) → ((s : St S) → IsPrefix s.trace (f s).trace) → Under c c' → Under (λ n s. c n (f s)) (λ n s. c' n (f s))
under_start f c c' p u = record {
  later = λ n m s le. u.later n m (f s) le;
  grows = λ m s. prefix_trans s.trace (f s).trace _ (p s) (u.grows m (f s));
  spends = λ n s. u.spends n (f s);
}

pub under_ends : {X S : Type 0} (x : St S → X) (f : St S → St S) → ((s : St S) → IsPrefix s.trace (f s).trace) → Under (λ n s. Ends (x s) (f s) n) (λ n s. Ends (x s) (f s) n)
under_ends x f h = record {
  later = λ n m s le. (m, refl, omega arith);
  grows = λ m s. h s;
  spends = λ n s. omega arith;
}

-- the record stays
pub under_keeps : {X S : Type 0} (x : St S → X) (f : St S → St S) → ((s : St S) → (f s).trace ≡ s.trace) → Under (λ n s. Ends (x s) (f s) n) (λ n s. Ends (x s) (f s) n)
under_keeps x f h = under_ends x f (λ s. subst (λ t. IsPrefix s.trace t) (sym (h s)) (prefix_refl s.trace))

pub under_is : {X S : Type 0} (x : St S → X) → Under {S = S} (λ n s. Ends (x s) s n) (λ n s. Ends (x s) s n)
under_is x = under_keeps x (λ s. s) (λ s. refl)

pub under_own : {X S : Type 0} (x : St S → X) (f : St S → S) → Under {S = S} (λ n s. Ends (x s) (with_own s (f s)) n) (λ n s. Ends (x s) (with_own s (f s)) n)
under_own x f = under_keeps x (λ s. with_own s (f s)) (λ s. refl)

pub under_unspecified : {X S : Type 0} → Under {X = X} {S = S} (λ n s. Unspecified s.trace n) (λ n s. Unspecified s.trace n)
under_unspecified = record { later = λ n m s le. (m, refl); grows = λ m s. prefix_refl s.trace; spends = λ n s. omega arith }

-- a run that stops short of whatever goes on
pub under_stop : {X S : Type 0} (c' : Do X S) → ((m : ℕ) (s : St S) → IsPrefix s.trace (record_of (c' m s))) → Under (λ n s. GoesOn s.trace n) c'
under_stop c' h = record { later = λ n m s le. h m s; grows = h; spends = λ n s. omega arith }

pub under_choose : {X S : Type 0} (b : Bool) (x x' y y' : Do X S) → Under x x' → Under y y' → Under (choose b x y) (choose b x' y')
under_choose true x x' y y' u v = u
under_choose false x x' y y' u v = v

-- a run that the state decides
pub under_by : {X S : Type 0} (k k' : St S → Do X S) → ((s : St S) → Under (k s) (k' s)) → Under (λ n s. k s n s) (λ n s. k' s n s)
under_by k k' u = record { later = λ n m s le. (u s).later n m s le; grows = λ m s. (u s).grows m s; spends = λ n s. (u s).spends n s }
