-- The world of each job that is read is a good one.
use Rattle.std.proofs.Common.{◌≡◌, ◌≢◌, ℕ, ◌≤◌, nat_le, nat_lt, ◌&&◌, Bool, true, false, [], ◌∷◌, codes, Option, Some, None, IfOk, Result, Ok, Err, refl, subst, arith}
use Rattle.std.proofs.lemmas.List.Elements.{All-from_recursion}
use Rattle.std.proofs.lemmas.Bool.Decides.{nat_tests}
use Rattle.std.specs.List.{AllByRecursion}
use Rattle.serde_json.specs.Data.{Num, unsigned, negative, float, Data, null, boolean, number, string, array, object, Members}
use Rattle.serde_json.specs.Find.{get, as_number, as_object}
use Rattle.shell_world.specs.Texts.{Text}
use Rattle.shell_world.specs.World.{NoNul, IsKey, IsInput, IsAnswer, IsRow, IsGood}
use Rattle.shell_world.specs.declared.world.RowInput.TheVariants.{Nothing}
use Rattle.shell_world.specs.declared.world.Latitude.{Latitude}
use Rattle.world_json.specs.declared.fault.Reason.TheVariants as reason
use Rattle.world_json.specs.declared.fault.JobFault.{JobFault}
use Rattle.world_json.specs.declared.job.Job.{Job}
use Rattle.world_json.specs.Judging.{Judged, IsJudged, bytes_of, text_of, number_of, number_from, list_of, some_of, only, wanted, member_or}
use Rattle.world_json.specs.Jobs.{variable_of, environment_of, pairs_from, file_of, files_of, answer_of, input_of, is_named, row_members, key_of, row_of, bounds_of, last_of, latitude_of, usual_latitude, job_members, script_of, world_of, members_job, object_job, value_job}
use Rattle.world_json.proofs.Holding.{Holds, anything, holds_then, holds_tested, holds_more, holds_or, holds_wanted, holds_list, holds_some, holds_pairs, SomeItems, Paired}
use Rattle.world_json.proofs.Ordered.{Ordered, MembersOrdered, Each, get_ordered, object_ordered}
use Rattle.world_json.proofs.GoodWorlds.{AreBytes, bytes_hold, text_holds, Named, variable_holds, Filed, file_holds, GoodFiles, files_good, GoodEnvironment, environment_good}

-- no byte of a text is 0
no_bytes : NoNul []
no_bytes = All-from_recursion (λ b. b ≢ 0) [] tt

some_texts : (d : Data) → Holds (SomeItems NoNul) (some_of text_of d)
some_texts d = holds_some NoNul text_of d text_holds

-- ---- the table

answer_holds : (d : Data) → Holds IsAnswer (answer_of d)
answer_holds d =
    holds_then (λ u. Unit {0}) IsAnswer (only (codes "status" ∷ codes "out" ∷ codes "err" ∷ []) d) _ (anything _) (λ known k.
    holds_then (λ n. Unit {0}) IsAnswer (member_or 0 (number_of 0 255) (codes "status") d) _ (anything _) (λ status s.
    holds_then NoNul IsAnswer (member_or [] text_of (codes "out") d) _ (holds_or NoNul [] text_of (codes "out") d no_bytes (λ m e. text_holds m)) (λ out o.
    holds_then NoNul IsAnswer (member_or [] text_of (codes "err") d) _ (holds_or NoNul [] text_of (codes "err") d no_bytes (λ m e. text_holds m)) (λ err h.
    (o, h)))))

input_holds : (d : Data) → Holds IsInput (input_of d)
input_holds null = tt
input_holds (boolean true) = tt
input_holds (boolean false) = tt
input_holds (number n) = tt
input_holds (string s) = holds_then (AreBytes s) IsInput (bytes_of s) _ (bytes_hold s) (λ t h. h.no_nul)
input_holds (array ds) = tt
input_holds (object ms) = tt

key_holds : (named : Bool) (d : Data) → Holds IsKey (key_of named d)
key_holds true d = holds_then NoNul IsKey (wanted text_of (codes "name") d) _ (holds_wanted NoNul text_of (codes "name") d text_holds) (λ name h. h)
key_holds false d =
    holds_then (SomeItems NoNul) IsKey (wanted (some_of text_of) (codes "argv") d) _ (holds_wanted (SomeItems NoNul) (some_of text_of) (codes "argv") d some_texts)
    (λ words h. (h.0, All-from_recursion NoNul words h.1))

row_holds : (d : Data) → Holds IsRow (row_of d)
row_holds d =
    holds_then (λ u. Unit {0}) IsRow (only (row_members (is_named d)) d) _ (anything _) (λ known k.
    holds_then IsKey IsRow (key_of (is_named d) d) _ (key_holds (is_named d) d) (λ key h.
    holds_then IsInput IsRow (member_or Nothing input_of (codes "input") d) _ (holds_or IsInput Nothing input_of (codes "input") d tt (λ m e. input_holds m)) (λ input i.
    holds_then (SomeItems IsAnswer) IsRow (wanted (some_of answer_of) (codes "answers") d) _ (holds_wanted (SomeItems IsAnswer) (some_of answer_of) (codes "answers") d (λ m. holds_some IsAnswer answer_of m answer_holds)) (λ answers a.
    record { key = h; input = i; some = a.0; answers = All-from_recursion IsAnswer answers a.1 }))))

-- ---- the environment and the files

environment_from : (o : Option Members) → Each MembersOrdered o → Holds GoodEnvironment (pairs_from variable_of o)
environment_from None h = tt
environment_from (Some ms) h = holds_more (Paired Named ms) GoodEnvironment _ (holds_pairs Named variable_of ms variable_holds) (λ ps g. environment_good ms ps h g)

environment_holds : (d : Data) → Ordered d → Holds GoodEnvironment (environment_of d)
environment_holds d h = environment_from (as_object d) (object_ordered d h)

files_hold : (d : Data) → Ordered d → Holds GoodFiles (files_of d)
files_hold null h = tt
files_hold (boolean b) h = tt
files_hold (number n) h = tt
files_hold (string s) h = tt
files_hold (array ds) h = tt
files_hold (object ms) h = holds_more (Paired (Filed (object ms)) ms) GoodFiles _ (holds_pairs (Filed (object ms)) (file_of (object ms)) ms (file_holds (object ms))) (λ ps g. files_good ms ps h g)

no_files : GoodFiles []
no_files = record { files = record { paths = All-from_recursion _ [] tt; distinct = tt; apart = All-from_recursion _ [] tt }; contents = All-from_recursion _ [] tt }

no_variables : GoodEnvironment []
no_variables = record { variables = All-from_recursion _ [] tt; distinct = tt }

-- ---- the latitude

record GoodLatitude (l : Latitude) : Type 0 where
  redirect : (1 ≤ l.redirect) × (l.redirect ≤ 125)

within_bounds : (n : ℕ) → (nat_le 1 n && nat_le n 125) ≡ true → (1 ≤ n) × (n ≤ 125)
within_bounds n e = (grind (arith, nat_tests), grind (arith, nat_tests))

status_from : (o : Option Num) → Holds (λ n. (1 ≤ n) × (n ≤ 125)) (number_from 1 125 o)
status_from None = tt
status_from (Some (unsigned n)) = holds_tested (λ n. (1 ≤ n) × (n ≤ 125)) _ reason.Range n (within_bounds n)
status_from (Some (negative z)) = tt
status_from (Some (float x)) = tt

usual_redirect : (1 ≤ 1) × (1 ≤ 125)
usual_redirect = (omega arith, omega arith)

latitude_holds : (d : Data) → Holds GoodLatitude (latitude_of d)
latitude_holds d =
    holds_then (λ u. Unit {0}) GoodLatitude (only (codes "last" ∷ codes "redirect" ∷ []) d) _ (anything _) (λ known k.
    holds_then (λ b. Unit {0}) GoodLatitude (member_or false last_of (codes "last") d) _ (anything _) (λ last l.
    holds_then (λ n. (1 ≤ n) × (n ≤ 125)) GoodLatitude (member_or 1 (number_of 1 125) (codes "redirect") d) _
    (holds_or (λ n. (1 ≤ n) × (n ≤ 125)) 1 (number_of 1 125) (codes "redirect") d usual_redirect (λ m e. status_from (as_number m))) (λ redirect h. record { redirect = h })))

-- ---- the world

above_none : (n : ℕ) → nat_lt 0 n ≡ true → n ≢ 0
above_none n e is = grind (arith, nat_tests)

script_name : NoNul (codes "script")
script_name = All-from_recursion (λ b. b ≢ 0) (codes "script") (above_none _ refl, (above_none _ refl, (above_none _ refl, (above_none _ refl, (above_none _ refl, (above_none _ refl, tt))))))

usual_args : SomeItems NoNul (codes "script" ∷ [])
usual_args = ((λ e. cc), (script_name, tt))

ordered_member : (name : Text) (d m : Data) → Ordered d → get name d ≡ Some m → Ordered m
ordered_member name d m h e = let P : Option Data → Type 0 = Each Ordered in subst P e (get_ordered name d h)

world_holds : (d : Data) → Ordered d → Holds IsGood (world_of d)
world_holds d ordered =
    holds_then (SomeItems NoNul) IsGood (member_or (codes "script" ∷ []) (some_of text_of) (codes "args") d) _
    (holds_or (SomeItems NoNul) (codes "script" ∷ []) (some_of text_of) (codes "args") d usual_args (λ m e. some_texts m)) (λ args a.
    holds_then GoodEnvironment IsGood (member_or [] environment_of (codes "env") d) _
    (holds_or GoodEnvironment [] environment_of (codes "env") d no_variables (λ m e. environment_holds m (ordered_member (codes "env") d m ordered e))) (λ env v.
    holds_then NoNul IsGood (member_or [] text_of (codes "stdin") d) _ (holds_or NoNul [] text_of (codes "stdin") d no_bytes (λ m e. text_holds m)) (λ stdin i.
    holds_then GoodFiles IsGood (member_or [] files_of (codes "files") d) _
    (holds_or GoodFiles [] files_of (codes "files") d no_files (λ m e. files_hold m (ordered_member (codes "files") d m ordered e))) (λ files f.
    holds_then (AllByRecursion IsRow) IsGood (member_or [] (list_of row_of) (codes "table") d) _
    (holds_or (AllByRecursion IsRow) [] (list_of row_of) (codes "table") d tt (λ m e. holds_list IsRow row_of m row_holds)) (λ rows r.
    holds_then (λ b. Unit {0}) IsGood (bounds_of d) _ (anything _) (λ bounds b.
    holds_then GoodLatitude IsGood (member_or usual_latitude latitude_of (codes "latitude") d) _
    (holds_or GoodLatitude usual_latitude latitude_of (codes "latitude") d (record { redirect = usual_redirect }) (λ m e. latitude_holds m)) (λ latitude l.
    record {
      args = (a.0, All-from_recursion NoNul args a.1);
      env = v.variables;
      distinct = v.distinct;
      files = f.files;
      contents = f.contents;
      rows = All-from_recursion IsRow rows r;
      stdin = i;
      redirect = l.redirect;
    })))))))

-- the world of the job is good
abbrev HasGoodWorld : Job → Type 0
HasGoodWorld job = IsGood job.world

members_hold : (limit : ℕ) (d : Data) → Ordered d → Holds HasGoodWorld (members_job limit d)
members_hold limit d ordered =
    holds_then (λ u. Unit {0}) HasGoodWorld (only job_members d) _ (anything _) (λ known k.
    holds_then (λ t. Unit {0}) HasGoodWorld (wanted (script_of limit) (codes "script") d) _ (anything _) (λ script s.
    holds_then IsGood HasGoodWorld (world_of d) _ (world_holds d ordered) (λ world w. w)))

object_holds : (limit : ℕ) (o : Option Members) (d : Data) → Ordered d → Holds HasGoodWorld (object_job limit o d)
object_holds limit None d ordered = tt
object_holds limit (Some ms) d ordered = members_hold limit d ordered

if_ok : (j : Judged Job) (r : Result Job JobFault) → IsJudged j r → Holds HasGoodWorld j → IfOk r (λ job. IsGood job.world)
if_ok j (Ok job) is h = let P : Judged Job → Type 0 = Holds HasGoodWorld in subst P is h
if_ok j (Err e) is h = tt

pub world_is_good : (limit : ℕ) (d : Data) (r : Result Job JobFault) → Ordered d → IsJudged (value_job limit (Some d)) r → IfOk r (λ job. IsGood job.world)
world_is_good limit d r ordered is = if_ok (value_job limit (Some d)) r is (object_holds limit (as_object d) d ordered)
