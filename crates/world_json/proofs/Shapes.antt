-- A report's value has no float, and nests four deep at most.
use Rattle.std.proofs.Common.{◌≡◌, ℕ, suc, ◌≤◌, List, [], ◌∷◌, Bool, true, false, ◌||◌, Option, Some, None, Ordering, Less, Equal, Greater, refl, arith}
use Rattle.std.specs.Cmp.Lexicographic.{slice_cmp}
use Rattle.std.specs.Ordering.{nat_cmp, match_ordering}
use Rattle.serde_json.specs.Data.{Data, array, object, Items, Members, no_members, member, put, depth, items_depth, members_depth}
use Rattle.serde_json.specs.Written.{has_float, items_have_float, members_have_float}
use Rattle.shell_world.specs.Texts.{Text}
use Rattle.shell_world.specs.declared.world.Call.{Call}
use Rattle.shell_world.specs.declared.world.End.{End}
use Rattle.shell_world.specs.declared.world.End.TheVariants.{Ended, GoesOn, Unspecified}
use Rattle.shell_world.specs.declared.world.Report.{Report}
use Rattle.world_json.specs.Texts.{text_data}
use Rattle.world_json.specs.Reports.{items_for, texts_data, pairs_members, pairs_data, input_data, call_data, calls_data, end_data, status_data, ended_files, files_data, report_data}

-- no float, and at most n deep
pub record IsPlain (n : ℕ) (d : Data) : Type 0 where
  pub whole : has_float d ≡ false
  pub flat : depth d ≤ n

record ArePlain (n : ℕ) (ds : Items) : Type 0 where
  whole : items_have_float ds ≡ false
  flat : items_depth ds ≤ n

record HasPlain (n : ℕ) (ms : Members) : Type 0 where
  whole : members_have_float ms ≡ false
  flat : members_depth ms ≤ n

first_false : (a b : Bool) → (a || b) ≡ false → a ≡ false
first_false true b e = e
first_false false b e = refl

second_false : (a b : Bool) → (a || b) ≡ false → b ≡ false
second_false true b e = absurd cc
second_false false b e = e

both_false : (a b : Bool) → a ≡ false → b ≡ false → (a || b) ≡ false
both_false a b e f = rw e f

member_plain : (n : ℕ) (k : Text) (d : Data) (ms : Members) → IsPlain n d → HasPlain n ms → HasPlain n (member k d ms)
member_plain n k d ms h g = record { whole = both_false _ _ h.whole g.whole; flat = omega (arith, h.flat, g.flat) }

head_plain : (n : ℕ) (k : Text) (d : Data) (ms : Members) → HasPlain n (member k d ms) → IsPlain n d
head_plain n k d ms h = record { whole = first_false _ _ h.whole; flat = omega (arith, h.flat) }

tail_plain : (n : ℕ) (k : Text) (d : Data) (ms : Members) → HasPlain n (member k d ms) → HasPlain n ms
tail_plain n k d ms h = record { whole = second_false _ _ h.whole; flat = omega (arith, h.flat) }

one_of : (n : ℕ) (o : Ordering) (a b c : Members) → HasPlain n a → HasPlain n b → HasPlain n c → HasPlain n (match_ordering o a b c)
one_of n Less a b c x y z = x
one_of n Equal a b c x y z = y
one_of n Greater a b c x y z = z

none_plain : (n : ℕ) → HasPlain n no_members
none_plain n = record { whole = refl; flat = omega arith }

put_plain : (n : ℕ) (k : Text) (d : Data) (ms : Members) → IsPlain n d → HasPlain n ms → HasPlain n (put k d ms)
put_plain n k d no_members h g = member_plain n k d no_members h g
put_plain n k d (member l e ms) h g =
    one_of n (slice_cmp nat_cmp k l) _ _ _ (member_plain n k d _ h g) (member_plain n l d ms h (tail_plain n l e ms g))
    (member_plain n l e _ (head_plain n l e ms g) (put_plain n k d ms h (tail_plain n l e ms g)))

text_plain : (n : ℕ) (t : Text) → IsPlain n (text_data t)
text_plain n t = record { whole = refl; flat = omega arith }

items_plain : {X : Type 0} (n : ℕ) (f : X → Data) (plain : (x : X) → IsPlain n (f x)) (xs : List X) → ArePlain n (items_for f xs)
items_plain n f plain [] = record { whole = refl; flat = omega arith }
items_plain n f plain (x ∷ xs) =
    let h = plain x in
    let g = items_plain n f plain xs in
    record { whole = both_false _ _ h.whole g.whole; flat = omega (arith, h.flat, g.flat) }

array_plain : (n : ℕ) (ds : Items) → ArePlain n ds → IsPlain (suc n) (array ds)
array_plain n ds h = record { whole = h.whole; flat = omega (arith, h.flat) }

object_plain : (n : ℕ) (ms : Members) → HasPlain n ms → IsPlain (suc n) (object ms)
object_plain n ms h = record { whole = h.whole; flat = omega (arith, h.flat) }

pairs_members_plain : (ps : List (Text × Text)) (done : Members) → HasPlain 0 done → HasPlain 0 (pairs_members done ps)
pairs_members_plain [] done h = h
pairs_members_plain (p ∷ ps) done h = pairs_members_plain ps _ (put_plain 0 _ _ done (text_plain 0 p.1) h)

pairs_plain : (ps : List (Text × Text)) → IsPlain 1 (pairs_data ps)
pairs_plain ps = object_plain 0 _ (pairs_members_plain ps no_members (none_plain 0))

deeper : (m n : ℕ) (d : Data) → m ≤ n → IsPlain m d → IsPlain n d
deeper m n d le h = record { whole = h.whole; flat = omega (arith, h.flat) }

input_plain : (n : ℕ) (o : Option Text) → IsPlain n (input_data o)
input_plain n None = record { whole = refl; flat = omega arith }
input_plain n (Some t) = text_plain n t

texts_plain : (ts : List Text) → IsPlain 1 (texts_data ts)
texts_plain ts = array_plain 0 _ (items_plain 0 text_data (text_plain 0) ts)

call_plain : (c : Call) → IsPlain 2 (call_data c)
call_plain c =
    object_plain 1 _ (member_plain 1 _ _ _ (texts_plain c.argv)
    (member_plain 1 _ _ _ (pairs_plain c.env)
    (member_plain 1 _ _ _ (input_plain 1 c.input) (none_plain 1))))

calls_plain : (cs : List Call) → IsPlain 3 (calls_data cs)
calls_plain cs = array_plain 2 _ (items_plain 2 call_data call_plain cs)

end_plain : (n : ℕ) (e : End) → IsPlain n (end_data e)
end_plain n (Ended s) = record { whole = refl; flat = omega arith }
end_plain n GoesOn = record { whole = refl; flat = omega arith }
end_plain n Unspecified = record { whole = refl; flat = omega arith }

status_plain : (n : ℕ) (e : End) → IsPlain n (status_data e)
status_plain n (Ended s) = record { whole = refl; flat = omega arith }
status_plain n GoesOn = record { whole = refl; flat = omega arith }
status_plain n Unspecified = record { whole = refl; flat = omega arith }

ended_plain : (o : Option (List (Text × Text))) → IsPlain 3 (ended_files o)
ended_plain None = record { whole = refl; flat = omega arith }
ended_plain (Some ps) = deeper 1 3 _ (omega arith) (pairs_plain ps)

files_plain : (e : End) (o : Option (List (Text × Text))) → IsPlain 3 (files_data e o)
files_plain (Ended s) o = ended_plain o
files_plain GoesOn o = record { whole = refl; flat = omega arith }
files_plain Unspecified o = record { whole = refl; flat = omega arith }

pub report_plain : (r : Report) → IsPlain 4 (report_data r)
report_plain r =
    object_plain 3 _ (member_plain 3 _ _ _ (calls_plain r.calls)
    (member_plain 3 _ _ _ (end_plain 3 r.«end»)
    (member_plain 3 _ _ _ (text_plain 3 r.err)
    (member_plain 3 _ _ _ (files_plain r.«end» r.files)
    (member_plain 3 _ _ _ (text_plain 3 r.out)
    (member_plain 3 _ _ _ (status_plain 3 r.«end»)
    (member_plain 3 _ _ _ (record { whole = refl; flat = omega arith }) (none_plain 3))))))))
