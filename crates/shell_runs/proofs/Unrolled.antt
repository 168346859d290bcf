-- A loop is a round and the loop again: since each round takes a turn, its turns always suffice for its rounds.
use Rattle.std.proofs.Common.{◌≡◌, ℕ, zero, suc, ◌<◌, ◌≤◌, Bool, true, false, refl, arith}
use Rattle.shell_world.specs.Runs.{St, Res, Ends, GoesOn, Unspecified, Do, after, choose}
use Rattle.shell_runs.specs.Flow.{Flow, Normal, Breaks, Continues, Returns, Exits}
use Rattle.shell_runs.specs.Sequences.{now, take_turn}
use Rattle.shell_runs.specs.Loops.{rounds, body_over, body_run, test_over, loop_round, loop_from}
use Rattle.shell_runs.specs.Bounds.{turns_left, Spends}

-- what goes on behind a run is given as many turns at most
after_agrees : {X Y S : Type 0} (n : ℕ) (o : Res X S) (k k' : X → Do Y S) → turns_left o ≤ n → ((x : X) (m : ℕ) (s : St S) → m ≤ n → k x m s ≡ k' x m s) → after o k ≡ after o k'
after_agrees n (Ends x s m) k k' p h = h x m s p
after_agrees n (GoesOn t m) k k' p h = refl
after_agrees n (Unspecified t m) k k' p h = refl

choose_agrees : {X S : Type 0} (b : Bool) (c c' d : Do X S) (n : ℕ) (s : St S) → c n s ≡ c' n s → choose b c d n s ≡ choose b c' d n s
choose_agrees true c c' d n s e = e
choose_agrees false c c' d n s e = refl

turn_agrees : {X S : Type 0} (c c' : Do X S) (n : ℕ) (s : St S) → ((m : ℕ) → m < n → c m s ≡ c' m s) → take_turn c n s ≡ take_turn c' n s
turn_agrees c c' zero s h = refl
turn_agrees c c' (suc n) s h = h n (omega arith)

-- with fewer turns than n the two are the same
abbrev Agree : {S : Type 0} → ℕ → (ℕ → Do Flow S) → (ℕ → Do Flow S) → Type 0
Agree {S} n k k' = (a m : ℕ) (s : St S) → m < n → k a m s ≡ k' a m s

module _ {S : Type 0} (goes : S → Bool) (status : S → ℕ) (with_status : ℕ → S → S) (test body : Do Flow S) (pt : Spends test) (pb : Spends body) where
  body_agrees : (n : ℕ) (k k' : ℕ → Do Flow S) → Agree n k k' → (flow : Flow) (m : ℕ) (s : St S) → m < n → body_over status k flow m s ≡ body_over status k' flow m s
  body_agrees n k k' h Normal m s lt = h (status s.own) m s lt
  body_agrees n k k' h (Breaks zero) m s lt = refl
  body_agrees n k k' h (Breaks (suc more)) m s lt = refl
  body_agrees n k k' h (Continues zero) m s lt = h (status s.own) m s lt
  body_agrees n k k' h (Continues (suc more)) m s lt = refl
  body_agrees n k k' h Returns m s lt = refl
  body_agrees n k k' h Exits m s lt = refl

  run_agrees : (n : ℕ) (k k' : ℕ → Do Flow S) → Agree n k k' → (m : ℕ) (s : St S) → m < n → body_run status body k m s ≡ body_run status body k' m s
  run_agrees n k k' h m s lt = after_agrees m (body m s) (body_over status k) (body_over status k') (pb m s) (λ flow j z le. body_agrees n k k' h flow j z (omega (arith, lt, le)))

  test_agrees : (n : ℕ) (k k' : ℕ → Do Flow S) → Agree n k k' → (last : ℕ) (flow : Flow) (m : ℕ) (s : St S) → m ≤ n → test_over goes status with_status body k last flow m s ≡ test_over goes status with_status body k' last flow m s
  test_agrees n k k' h last Normal m s le = choose_agrees (goes s.own) (take_turn (body_run status body k)) (take_turn (body_run status body k')) (now (with_status last)) m s
      (turn_agrees (body_run status body k) (body_run status body k') m s (λ j lt. run_agrees n k k' h j s (omega (arith, lt, le))))
  test_agrees n k k' h last (Breaks zero) m s le = refl
  test_agrees n k k' h last (Breaks (suc more)) m s le = refl
  test_agrees n k k' h last (Continues zero) m s le = turn_agrees (k last) (k' last) m s (λ j lt. h last j s (omega (arith, lt, le)))
  test_agrees n k k' h last (Continues (suc more)) m s le = refl
  test_agrees n k k' h last Returns m s le = refl
  test_agrees n k k' h last Exits m s le = refl

  round_agrees : (n : ℕ) (k k' : ℕ → Do Flow S) → Agree n k k' → (last : ℕ) (s : St S) → loop_round goes status with_status test body k last n s ≡ loop_round goes status with_status test body k' last n s
  round_agrees n k k' h last s = after_agrees n (test n s) (test_over goes status with_status body k last) (test_over goes status with_status body k' last) (pt n s) (test_agrees n k k' h last)

  steady : (f g n : ℕ) → n < f → n < g → (last : ℕ) (s : St S) → rounds f (loop_round goes status with_status test body) last n s ≡ rounds g (loop_round goes status with_status test body) last n s
  steady zero g n lf lg last s = absurd (omega (arith, lf))
  steady (suc f) zero n lf lg last s = absurd (omega (arith, lg))
  steady (suc f) (suc g) n lf lg last s =
      round_agrees n (rounds f (loop_round goes status with_status test body)) (rounds g (loop_round goes status with_status test body)) (λ a m z lt. steady f g m (omega (arith, lf, lt)) (omega (arith, lg, lt)) a z) last s

  pub loop_unrolls : (last n : ℕ) (s : St S) → loop_from goes status with_status test body last n s ≡ loop_round goes status with_status test body (loop_from goes status with_status test body) last n s
  loop_unrolls last n s =
      round_agrees n (rounds n (loop_round goes status with_status test body)) (loop_from goes status with_status test body) (λ a m z lt. steady n (suc m) m lt (omega arith) a z) last s
