-- The value that bytes are.
use Rattle.std.proofs.Common.{◌≡◌, ◌⊎◌, inl, inr, ℕ, [], Bool, true, false, cond, Option, Some, None, Result, Err, refl, sym, ap, ◌∙◌, subst}
use Rattle.std.specs.Str.{IsUtf8, is_utf8}
use Rattle.std.proofs.lemmas.Str.{is_utf8-from_IsUtf8, IsUtf8-from_is_utf8}
use Rattle.serde_json.specs.Data.{Data}
use Rattle.serde_json.specs.Read.{read}
use Rattle.shell_world.specs.Texts.{Text}
use Rattle.world_json.specs.declared.fault.Reason.TheVariants as reason
use Rattle.world_json.specs.declared.fault.JobFault.{JobFault}
use Rattle.world_json.specs.declared.fault.JobFault.TheVariants as fault
use Rattle.world_json.specs.declared.job.Job.{Job}
use Rattle.world_json.specs.Judging.{IsJudged}
use Rattle.world_json.specs.Jobs.{value_of, value_job, job_of}
use Rattle.world_json.proofs.Judging.{same_judged, refused_is}

chosen : (b : Bool) (o p : Option Data) → b ≡ true → cond b o p ≡ o
chosen b o p e = rw e refl

pub value_there : (bytes : Text) (d : Data) → IsUtf8 bytes → read bytes ≡ Some d → value_of bytes ≡ Some d
value_there bytes d utf8 e = chosen (is_utf8 bytes) (read bytes) None (is_utf8-from_IsUtf8 bytes utf8) ∙ e

not_there : (b : Bool) (o : Option Data) → (b ≡ true → o ≡ None) → cond b o None ≡ None
not_there true o h = h refl
not_there false o h = refl

pub value_missing : (bytes : Text) → (IsUtf8 bytes → read bytes ≡ None) → value_of bytes ≡ None
value_missing bytes h = not_there (is_utf8 bytes) (read bytes) (λ e. h (IsUtf8-from_is_utf8 bytes e))

-- what is answered where no value was read
pub unread_judged : (limit : ℕ) (bytes : Text) (e : JobFault) (Lacks : Type 0) → (e ≡ fault.Memory) ⊎ ((e ≡ fault.BadWorld [] reason.Json) × ¬ Lacks) → (¬ Lacks → IsUtf8 bytes → read bytes ≡ None) → IsJudged (job_of limit bytes) (Err e)
unread_judged limit bytes e Lacks either none =
    elim either [
      | inl is ↦ let P : JobFault → Type 0 = λ f. IsJudged (job_of limit bytes) (Err f) in subst P (sym is) tt
      | inr h ↦ refused_is (job_of limit bytes) reason.Json e h.0 (ap (value_job limit) (value_missing bytes (none h.1)))
    ]

pub read_judged : (limit : ℕ) (bytes : Text) (d : Data) (r : Result Job JobFault) → IsUtf8 bytes → read bytes ≡ Some d → IsJudged (value_job limit (Some d)) r → IsJudged (job_of limit bytes) r
read_judged limit bytes d r utf8 e h = same_judged (job_of limit bytes) (value_job limit (Some d)) r (ap (value_job limit) (value_there bytes d utf8 e)) h
