-- The law of bounds for each combinator.
use Rattle.std.proofs.Common.{ℕ, zero, suc, ◌≤◌, List, [], ◌∷◌, Bool, true, false, Option, Some, None, refl, arith, length}
use Rattle.shell_world.specs.Outside.{Fds, index_at}
use Rattle.shell_world.specs.Texts.{nth}
use Rattle.shell_world.specs.Opening.{Opened, Refused, Opens}
use Rattle.shell_world.specs.Runs.{St, Res, Ends, GoesOn, Unspecified, Do, choose, with_own}
use Rattle.shell_world.specs.Ends.{IsPrefix}
use Rattle.shell_world.proofs.Monotone.{prefix_refl}
use Rattle.shell_runs.specs.Flow.{Flow, Normal, Breaks, Continues, Returns, Exits}
use Rattle.shell_runs.specs.Sequences.{if_normal, now, gives, take_turn}
use Rattle.shell_runs.specs.Loops.{rounds, body_over, body_run, test_over, loop_round, loop_do, item_over, item_run, items_run}
use Rattle.shell_runs.specs.Calls.{returned, call_over, called_run, call_do}
use Rattle.shell_runs.specs.Redirecting.{Made, Done, Failed, opened_run, shared_run, copied_run, closed_run, if_made, made_or, redirected, fds_back, bracketed}
use Rattle.shell_runs.specs.Shells.{shell_over, in_shell, buffered, substituted, substitute, handed, stage_over, stage_run, pipeline_over, piped}
use Rattle.shell_runs.specs.Bounds.{record_of, turns_left, Later, Under}
use Rattle.shell_runs.proofs.Monotone.{under_from, under_after, under_start, under_keeps, under_is, under_own, under_stop, under_choose, under_by}

-- ---- sequences and turns

pub under_flow : {S : Type 0} (flow : Flow) → Under {S = S} (λ n s. Ends flow s n) (λ n s. Ends flow s n)
under_flow flow = under_is (λ s. flow)

pub under_if_normal : {S : Type 0} (k k' : Do Flow S) → Under k k' → (flow : Flow) → Under (if_normal k flow) (if_normal k' flow)
under_if_normal k k' u Normal = u
under_if_normal k k' u (Breaks more) = under_flow (Breaks more)
under_if_normal k k' u (Continues more) = under_flow (Continues more)
under_if_normal k k' u Returns = under_flow Returns
under_if_normal k k' u Exits = under_flow Exits

pub under_now : {S : Type 0} (f : S → S) → Under (now f) (now f)
under_now f = under_own (λ s. Normal) (λ s. f s.own)

pub under_gives : {X S : Type 0} (f : S → X) → Under (gives f) (gives f)
under_gives f = under_is (λ s. f s.own)

-- both took a turn
shift_turn : {X S : Type 0} (n m : ℕ) (o o' : Res X S) → Later n m o o' → Later (suc n) (suc m) o o'
shift_turn n m (Ends x s r) o' h = (h.0, h.1, omega (arith, h.2))
shift_turn n m (GoesOn t r) o' h = h
shift_turn n m (Unspecified t r) o' h = h

turn_later : {X S : Type 0} (k k' : Do X S) → Under k k' → (n m : ℕ) (s : St S) → n ≤ m → Later n m (take_turn k n s) (take_turn k' m s)
turn_later k k' u zero zero s le = prefix_refl s.trace
turn_later k k' u zero (suc m) s le = u.grows m s
turn_later k k' u (suc n) zero s le = absurd (omega arith)
turn_later k k' u (suc n) (suc m) s le = shift_turn n m (k n s) (k' m s) (u.later n m s (omega arith))

turn_grows : {X S : Type 0} (k k' : Do X S) → Under k k' → (m : ℕ) (s : St S) → IsPrefix s.trace (record_of (take_turn k' m s))
turn_grows k k' u zero s = prefix_refl s.trace
turn_grows k k' u (suc m) s = u.grows m s

turn_spends : {X S : Type 0} (k k' : Do X S) → Under k k' → (n : ℕ) (s : St S) → turns_left (take_turn k n s) ≤ n
turn_spends k k' u zero s = omega arith
turn_spends k k' u (suc n) s = let h = u.spends n s in omega (arith, h)

pub under_turn : {X S : Type 0} (k k' : Do X S) → Under k k' → Under (take_turn k) (take_turn k')
under_turn k k' u = record { later = turn_later k k' u; grows = turn_grows k k' u; spends = turn_spends k k' u }

-- ---- loops

pub under_rounds : {A X S : Type 0} (step step' : (A → Do X S) → A → Do X S) → ((k k' : A → Do X S) → ((a : A) → Under (k a) (k' a)) → (a : A) → Under (step k a) (step' k' a)) → (f g : ℕ) → f ≤ g → (a : A) → Under (rounds f step a) (rounds g step' a)
under_rounds step step' u zero zero le a = under_stop _ (λ m s. prefix_refl s.trace)
under_rounds step step' u zero (suc g) le a = under_stop _ (u (rounds zero step) (rounds g step') (under_rounds step step' u zero g (omega arith)) a).grows
under_rounds step step' u (suc f) zero le a = absurd (omega arith)
under_rounds step step' u (suc f) (suc g) le a = u (rounds f step) (rounds g step') (under_rounds step step' u f g (omega arith)) a

pub under_body_over : {S : Type 0} (status : S → ℕ) (k k' : ℕ → Do Flow S) → ((a : ℕ) → Under (k a) (k' a)) → (flow : Flow) → Under (body_over status k flow) (body_over status k' flow)
under_body_over status k k' u Normal = under_by (λ s. k (status s.own)) (λ s. k' (status s.own)) (λ s. u (status s.own))
under_body_over status k k' u (Breaks zero) = under_flow Normal
under_body_over status k k' u (Breaks (suc more)) = under_flow (Breaks more)
under_body_over status k k' u (Continues zero) = under_by (λ s. k (status s.own)) (λ s. k' (status s.own)) (λ s. u (status s.own))
under_body_over status k k' u (Continues (suc more)) = under_flow (Continues more)
under_body_over status k k' u Returns = under_flow Returns
under_body_over status k k' u Exits = under_flow Exits

module _ {S : Type 0} (goes : S → Bool) (status : S → ℕ) (with_status : ℕ → S → S) (test test' body body' : Do Flow S) (ut : Under test test') (ub : Under body body') where
  under_body_run : (k k' : ℕ → Do Flow S) → ((a : ℕ) → Under (k a) (k' a)) → Under (body_run status body k) (body_run status body' k')
  under_body_run k k' u = under_after body body' (body_over status k) (body_over status k') ub (under_body_over status k k' u)

  under_test_over : (k k' : ℕ → Do Flow S) → ((a : ℕ) → Under (k a) (k' a)) → (last : ℕ) (flow : Flow) → Under (test_over goes status with_status body k last flow) (test_over goes status with_status body' k' last flow)
  under_test_over k k' u last Normal =
      under_by (λ s. choose (goes s.own) (take_turn (body_run status body k)) (now (with_status last))) (λ s. choose (goes s.own) (take_turn (body_run status body' k')) (now (with_status last)))
      (λ s. under_choose (goes s.own) _ _ _ _ (under_turn _ _ (under_body_run k k' u)) (under_now (with_status last)))
  under_test_over k k' u last (Breaks zero) = under_flow Normal
  under_test_over k k' u last (Breaks (suc more)) = under_flow (Breaks more)
  under_test_over k k' u last (Continues zero) = under_turn _ _ (u last)
  under_test_over k k' u last (Continues (suc more)) = under_flow (Continues more)
  under_test_over k k' u last Returns = under_flow Returns
  under_test_over k k' u last Exits = under_flow Exits

  under_round : (k k' : ℕ → Do Flow S) → ((a : ℕ) → Under (k a) (k' a)) → (last : ℕ) → Under (loop_round goes status with_status test body k last) (loop_round goes status with_status test' body' k' last)
  under_round k k' u last = under_after test test' (test_over goes status with_status body k last) (test_over goes status with_status body' k' last) ut (under_test_over k k' u last)

  under_loop_rounds : (f g : ℕ) → f ≤ g → (last : ℕ) → Under (rounds f (loop_round goes status with_status test body) last) (rounds g (loop_round goes status with_status test' body') last)
  under_loop_rounds f g le last = under_rounds (loop_round goes status with_status test body) (loop_round goes status with_status test' body') under_round f g le last

  pub under_loop : Under (loop_do goes status with_status test body) (loop_do goes status with_status test' body')
  under_loop = record {
    later = λ n m s le. (under_loop_rounds (suc n) (suc m) (omega (arith, le)) zero).later n m s le;
    grows = λ m s. (under_loop_rounds (suc m) (suc m) (omega arith) zero).grows m s;
    spends = λ n s. (under_loop_rounds (suc n) (suc n) (omega arith) zero).spends n s;
  }

pub under_item_over : {S : Type 0} (k k' : Do Flow S) → Under k k' → (flow : Flow) → Under (item_over k flow) (item_over k' flow)
under_item_over k k' u Normal = u
under_item_over k k' u (Breaks zero) = under_flow Normal
under_item_over k k' u (Breaks (suc more)) = under_flow (Breaks more)
under_item_over k k' u (Continues zero) = u
under_item_over k k' u (Continues (suc more)) = under_flow (Continues more)
under_item_over k k' u Returns = under_flow Returns
under_item_over k k' u Exits = under_flow Exits

-- a run that begins with a changed part of the language's own
pub under_with : {X S : Type 0} (f : S → S) (c c' : Do X S) → Under c c' → Under (λ n s. c n (with_own s (f s.own))) (λ n s. c' n (with_own s (f s.own)))
under_with f c c' u = under_start (λ s. with_own s (f s.own)) c c' (λ s. prefix_refl s.trace) u

pub under_items : {X S : Type 0} (assign : X → S → S) (body body' : Do Flow S) → Under body body' → (xs : List X) → Under (items_run assign body xs) (items_run assign body' xs)
under_items assign body body' u [] = under_flow Normal
under_items assign body body' u (x ∷ xs) =
    under_turn (item_run assign body x (items_run assign body xs)) (item_run assign body' x (items_run assign body' xs))
    (under_after (λ n s. body n (with_own s (assign x s.own))) (λ n s. body' n (with_own s (assign x s.own))) (item_over (items_run assign body xs)) (item_over (items_run assign body' xs))
    (under_with (assign x) body body' u) (under_item_over (items_run assign body xs) (items_run assign body' xs) (under_items assign body body' u xs)))

-- ---- calls

pub under_call : {S : Type 0} (enter : S → S) (back : S → S → S) (body body' : Do Flow S) → Under body body' → Under (call_do enter back body) (call_do enter back body')
under_call enter back body body' u = under_turn (called_run enter back body) (called_run enter back body')
    (under_from (λ n s. body n (with_own s (enter s.own))) (λ n s. body' n (with_own s (enter s.own))) (λ s. call_over back s.own) (λ s. call_over back s.own)
    (under_with enter body body' u) (λ s flow. under_own (λ z. returned flow) (λ z. back s.own z.own)))

-- ---- redirections

opened_as : {X S : Type 0} (fds : S → Fds) (with_fds : Fds → S → S) (x : X) (fd : ℕ) (o : Opened) → Under (opened_run fds with_fds x fd o) (opened_run fds with_fds x fd o)
opened_as fds with_fds x fd (Refused fault) = under_is (λ s. Failed)
opened_as fds with_fds x fd (Opens i o) = under_keeps (λ s. Done x) _ (λ s. refl)

pub under_opened : {X S : Type 0} (fds : S → Fds) (with_fds : Fds → S → S) (x : X) (fd : ℕ) (o : St S → Opened) → Under (λ n s. opened_run fds with_fds x fd (o s) n s) (λ n s. opened_run fds with_fds x fd (o s) n s)
under_opened fds with_fds x fd o = under_by (λ s. opened_run fds with_fds x fd (o s)) (λ s. opened_run fds with_fds x fd (o s)) (λ s. opened_as fds with_fds x fd (o s))

shared_as : {X S : Type 0} (fds : S → Fds) (with_fds : Fds → S → S) (x : X) (fd : ℕ) (i : Option ℕ) → Under (shared_run fds with_fds x fd i) (shared_run fds with_fds x fd i)
shared_as fds with_fds x fd None = under_is (λ s. Failed)
shared_as fds with_fds x fd (Some i) = under_keeps (λ s. Done x) _ (λ s. refl)

pub under_copied : {X S : Type 0} (fds : S → Fds) (with_fds : Fds → S → S) (x : X) (fd source : ℕ) → Under (copied_run fds with_fds x fd source) (copied_run fds with_fds x fd source)
under_copied fds with_fds x fd source = under_by (λ s. shared_run fds with_fds x fd (index_at (nth source (fds s.own)))) (λ s. shared_run fds with_fds x fd (index_at (nth source (fds s.own)))) (λ s. shared_as fds with_fds x fd (index_at (nth source (fds s.own))))

pub under_closed : {X S : Type 0} (fds : S → Fds) (with_fds : Fds → S → S) (x : X) (fd : ℕ) → Under (closed_run fds with_fds x fd) (closed_run fds with_fds x fd)
under_closed fds with_fds x fd = under_keeps (λ s. Done x) _ (λ s. refl)

pub under_if_made : {X S : Type 0} (k k' : X → Do (Made X) S) → ((x : X) → Under (k x) (k' x)) → (made : Made X) → Under (if_made k made) (if_made k' made)
under_if_made k k' u (Done x) = u x
under_if_made k k' u Failed = under_is (λ s. Failed)

pub under_made_or : {X Y S : Type 0} (k k' : X → Do Y S) (f f' : Do Y S) → ((x : X) → Under (k x) (k' x)) → Under f f' → (made : Made X) → Under (made_or k f made) (made_or k' f' made)
under_made_or k k' f f' u v (Done x) = u x
under_made_or k k' f f' u v Failed = v

pub under_redirected : {X Y S : Type 0} (r r' : Do (Made X) S) (k k' : X → Do Y S) (f f' : Do Y S) → Under r r' → ((x : X) → Under (k x) (k' x)) → Under f f' → Under (redirected r k f) (redirected r' k' f')
under_redirected r r' k k' f f' ur uk uf = under_after r r' (made_or k f) (made_or k' f') ur (under_made_or k k' f f' uk uf)

pub under_bracketed : {X S : Type 0} (fds : S → Fds) (with_fds : Fds → S → S) (c c' : Do X S) → Under c c' → Under (bracketed fds with_fds c) (bracketed fds with_fds c')
under_bracketed fds with_fds c c' u = under_from c c' (λ s. fds_back with_fds (fds s.own)) (λ s. fds_back with_fds (fds s.own)) u (λ s x. under_own (λ z. x) (λ z. with_fds (fds s.own) z.own))

-- ---- shell environments of their own

pub under_shell_over : {S : Type 0} (status : S → ℕ) (with_status : ℕ → S → S) (before : S) (flow : Flow) → Under (shell_over status with_status before flow) (shell_over status with_status before flow)
under_shell_over status with_status before flow = under_own (λ s. Normal) (λ s. with_status (status s.own) before)

pub under_shell : {S : Type 0} (status : S → ℕ) (with_status : ℕ → S → S) (c c' : Do Flow S) → Under c c' → Under (in_shell status with_status c) (in_shell status with_status c')
under_shell status with_status c c' u = under_from c c' (λ s. shell_over status with_status s.own) (λ s. shell_over status with_status s.own) u (λ s. under_shell_over status with_status s.own)

under_buffered : {X S : Type 0} (fds : S → Fds) (with_fds : Fds → S → S) (c c' : Do X S) → Under c c' → Under (λ n s. c n (buffered fds with_fds s)) (λ n s. c' n (buffered fds with_fds s))
under_buffered fds with_fds c c' u = under_start (buffered fds with_fds) c c' (λ s. prefix_refl s.trace) u

pub under_substitute : {S : Type 0} (fds : S → Fds) (with_fds : Fds → S → S) (status : S → ℕ) (with_status : ℕ → S → S) (c c' : Do Flow S) → Under c c' → Under (substitute fds with_fds status with_status c) (substitute fds with_fds status with_status c')
under_substitute fds with_fds status with_status c c' u =
    under_from (λ n s. c n (buffered fds with_fds s)) (λ n s. c' n (buffered fds with_fds s)) (λ s. substituted status with_status (length s.outside.descs) s.own) (λ s. substituted status with_status (length s.outside.descs) s.own)
    (under_buffered fds with_fds c c' u) (λ s flow. under_keeps _ _ (λ z. refl))

pub under_stage : {S : Type 0} (fds : S → Fds) (with_fds : Fds → S → S) (c c' rest rest' : Do Flow S) → Under c c' → Under rest rest' → Under (stage_run fds with_fds c rest) (stage_run fds with_fds c' rest')
under_stage fds with_fds c c' rest rest' u v =
    under_from (λ n s. c n (buffered fds with_fds s)) (λ n s. c' n (buffered fds with_fds s)) (λ s. stage_over fds with_fds (length s.outside.descs) s.own rest) (λ s. stage_over fds with_fds (length s.outside.descs) s.own rest')
    (under_buffered fds with_fds c c' u) (λ s flow. under_start (handed fds with_fds (length s.outside.descs) s.own) rest rest' (λ z. prefix_refl z.trace) v)

under_pipeline_over : {S : Type 0} (current : Bool) (with_fds : Fds → S → S) (fds : S → Fds) (status : S → ℕ) (with_status : ℕ → S → S) (before : S) (flow : Flow) → Under (pipeline_over current with_fds fds status with_status before flow) (pipeline_over current with_fds fds status with_status before flow)
under_pipeline_over true with_fds fds status with_status before flow = under_own (λ s. flow) (λ s. with_fds (fds before) s.own)
under_pipeline_over false with_fds fds status with_status before flow = under_shell_over status with_status before flow

pub under_piped : {S : Type 0} (current : Bool) (with_fds : Fds → S → S) (fds : S → Fds) (status : S → ℕ) (with_status : ℕ → S → S) (c c' : Do Flow S) → Under c c' → Under (piped current with_fds fds status with_status c) (piped current with_fds fds status with_status c')
under_piped current with_fds fds status with_status c c' u =
    under_from c c' (λ s. pipeline_over current with_fds fds status with_status s.own) (λ s. pipeline_over current with_fds fds status with_status s.own) u (λ s. under_pipeline_over current with_fds fds status with_status s.own)
