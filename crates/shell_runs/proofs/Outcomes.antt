-- The law of bounds for whole runs.
use Rattle.std.proofs.Common.{◌≡◌, ℕ, refl, sym, ap, subst}
use Rattle.shell_world.specs.Runs.{Res, Ends, GoesOn, Unspecified}
use Rattle.shell_world.specs.Ends.{IsPrefix, trace_of}
use Rattle.shell_world.proofs.Monotone.{prefix_refl}
use Rattle.shell_runs.specs.Flow.{Flow}
use Rattle.shell_runs.specs.Ends.{outcome}
use Rattle.shell_runs.specs.Bounds.{record_of, Later, OutcomeLater}

trace_is_record : {S : Type 0} (status : S → ℕ) (o : Res Flow S) → trace_of (outcome status o) ≡ record_of o
trace_is_record status (Ends flow s n) = refl
trace_is_record status (GoesOn t n) = refl
trace_is_record status (Unspecified t n) = refl

pub outcome_later : {S : Type 0} (status : S → ℕ) (n m : ℕ) (o o' : Res Flow S) → Later n m o o' → OutcomeLater (outcome status o) (outcome status o')
outcome_later status n m (Ends flow s r) o' h = ap (outcome status) h.1
outcome_later status n m (GoesOn t r) o' h = subst (λ w. IsPrefix t w) (sym (trace_is_record status o')) h
outcome_later status n m (Unspecified t r) o' h = ap (outcome status) h.1

record_later : {S : Type 0} (n m : ℕ) (o o' : Res Flow S) → Later n m o o' → IsPrefix (record_of o) (record_of o')
record_later n m (Ends flow s r) o' h = subst (λ w. IsPrefix s.trace w) (sym (ap record_of h.1)) (prefix_refl s.trace)
record_later n m (GoesOn t r) o' h = h
record_later n m (Unspecified t r) o' h = subst (λ w. IsPrefix t w) (sym (ap record_of h.1)) (prefix_refl t)

pub trace_later : {S : Type 0} (status : S → ℕ) (n m : ℕ) (o o' : Res Flow S) → Later n m o o' → IsPrefix (trace_of (outcome status o)) (trace_of (outcome status o'))
trace_later status n m o o' h = subst (λ w. IsPrefix w (trace_of (outcome status o'))) (sym (trace_is_record status o)) (subst (λ w. IsPrefix (record_of o) w) (sym (trace_is_record status o')) (record_later n m o o' h))
