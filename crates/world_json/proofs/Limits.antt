-- The script of a job that is read is within its limit.
use Rattle.std.proofs.Common.{◌≡◌, ℕ, ◌≤◌, Bool, true, false, length, Option, Some, None, Result, Ok, Err, IfOk, refl, subst, arith, codes}
use Rattle.std.specs.Prelude.{nat_le}
use Rattle.std.proofs.lemmas.Bool.Decides.{nat_tests}
use Rattle.serde_json.specs.Data.{Data, Members}
use Rattle.serde_json.specs.Find.{get, as_object}
use Rattle.shell_world.specs.declared.world.World.{World}
use Rattle.shell_world.specs.Texts.{Text}
use Rattle.world_json.specs.declared.job.Job.{Job}
use Rattle.world_json.specs.declared.fault.Reason.{Reason}
use Rattle.world_json.specs.declared.fault.Reason.TheVariants as reason
use Rattle.world_json.specs.declared.fault.JobFault.{JobFault}
use Rattle.world_json.specs.Judging.{Judged, IsJudged, Good, Bad, and_then, tested, within, wanted, wanted_from, text_of, only}
use Rattle.world_json.specs.Jobs.{job_of, value_of, value_job, object_job, members_job, script_of, world_of, job_members}

good_is : {X : Type 0} (x y : X) → Good x ≡ Good y → x ≡ y
good_is x y e = cc

and_then_good : {X Y : Type 0} (j : Judged X) (f : X → Judged Y) (y : Y) → and_then j f ≡ Good y → (x : X) × (j ≡ Good x) × (f x ≡ Good y)
and_then_good (Good x) f y e = (x, refl, e)
and_then_good (Bad p r) f y e = absurd cc

within_good : {X : Type 0} (name : Text) (j : Judged X) (x : X) → within name j ≡ Good x → j ≡ Good x
within_good name (Good y) x e = e
within_good name (Bad p r) x e = absurd cc

tested_good : {X : Type 0} (b : Bool) (r : Reason) (x y : X) → tested b r x ≡ Good y → (b ≡ true) × (x ≡ y)
tested_good true r x y e = (refl, good_is x y e)
tested_good false r x y e = absurd cc

script_small : (most : ℕ) (d : Data) (script : Text) → script_of most d ≡ Good script → length script ≤ most
script_small most d script e =
    let a = and_then_good (text_of d) (λ t. tested (nat_le (length t) most) reason.TooLong t) script e in
    let b = tested_good (nat_le (length a.0) most) reason.TooLong a.0 script a.2 in
    subst (λ (t : Text). length t ≤ most) b.1 (le_from (length a.0) most b.0)
  where
    le_from : (m n : ℕ) → nat_le m n ≡ true → m ≤ n
    le_from m n h = grind (arith, nat_tests)

wanted_small : (most : ℕ) (d : Option Data) (script : Text) → wanted_from (script_of most) d ≡ Good script → length script ≤ most
wanted_small most None script e = absurd cc
wanted_small most (Some d) script e = script_small most d script e

abbrev made : Text → World → Job
made script world = record { script = script; world = world }

pub judged_small : (most : ℕ) (bytes : Text) (job : Job) → job_of most bytes ≡ Good job → length job.script ≤ most
judged_small most bytes job e = by_value (value_of bytes) e
  where
    by_members : (d : Data) → members_job most d ≡ Good job → length job.script ≤ most
    by_members d e =
        let a = and_then_good (only job_members d) (λ known. and_then (wanted (script_of most) (codes "script") d) (λ script. and_then (world_of d) (λ world. Good (made script world)))) job e in
        let b = and_then_good (wanted (script_of most) (codes "script") d) (λ script. and_then (world_of d) (λ world. Good (made script world))) job a.2 in
        let c = and_then_good (world_of d) (λ world. Good (made b.0 world)) job b.2 in
        subst (λ (j : Job). length j.script ≤ most) (good_is (made b.0 c.0) job c.2)
        (wanted_small most (get (codes "script") d) b.0 (within_good (codes "script") (wanted_from (script_of most) (get (codes "script") d)) b.0 b.1))

    by_object : (ms : Option Members) (d : Data) → object_job most ms d ≡ Good job → length job.script ≤ most
    by_object None d e = absurd cc
    by_object (Some ms) d e = by_members d e

    by_value : (v : Option Data) → value_job most v ≡ Good job → length job.script ≤ most
    by_value None e = absurd cc
    by_value (Some d) e = by_object (as_object d) d e

pub script_is_small : (most : ℕ) (bytes : Text) (r : Result Job JobFault) → IsJudged (job_of most bytes) r → IfOk r (λ job. length job.script ≤ most)
script_is_small most bytes (Ok job) e = judged_small most bytes job e
script_is_small most bytes (Err f) e = tt
