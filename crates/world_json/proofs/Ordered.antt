-- The members of each object that is read stand in the order of their keys, and each key stands once.
use Rattle.std.proofs.Common.{◌≡◌, ◌≢◌, Option, Some, None, option_map, option_and_then, Ordering, Less, Equal, Greater, refl, sym, ap, ◌∙◌, subst}
use Rattle.std.proofs.lemmas.Cmp.{nat_list_cmp_total, tied_itself}
use Rattle.std.specs.Cmp.Lexicographic.{slice_cmp}
use Rattle.std.specs.Ordering.{nat_cmp, match_ordering, ordering_reverse}
use Rattle.json.specs.Json as json
use Rattle.json.specs.Lex.{tokens}
use Rattle.serde_json.specs.Data.{Data, null, boolean, number, string, array, object, Items, no_items, item, Members, no_members, member, put}
use Rattle.serde_json.specs.Read.{of_json, of_items, of_members, read, number_of, max_depth}
use Rattle.serde_json.specs.Find.{get, get_member, as_object}
use Rattle.shell_world.specs.Texts.{Text}

-- every key is after k
abbrev pub Above : Text → Members → Type 0
Above k no_members = Unit {0}
Above k (member l e ms) = (slice_cmp nat_cmp k l ≡ Less) × Above k ms

abbrev mutual
  pub Ordered : Data → Type 0
  Ordered null = Unit {0}
  Ordered (boolean b) = Unit {0}
  Ordered (number n) = Unit {0}
  Ordered (string s) = Unit {0}
  Ordered (array ds) = ItemsOrdered ds
  Ordered (object ms) = MembersOrdered ms

  pub ItemsOrdered : Items → Type 0
  ItemsOrdered no_items = Unit {0}
  ItemsOrdered (item d ds) = Ordered d × ItemsOrdered ds

  pub MembersOrdered : Members → Type 0
  MembersOrdered no_members = Unit {0}
  MembersOrdered (member k d ms) = Above k ms × Ordered d × MembersOrdered ms

-- P of the value, where there is one
abbrev pub Each : {X : Type 0} → (X → Type 0) → Option X → Type 0
Each P None = Unit {0}
Each P (Some x) = P x

each_map : {X Y : Type 0} (P : X → Type 0) (Q : Y → Type 0) (f : X → Y) (o : Option X) → Each P o → ((x : X) → P x → Q (f x)) → Each Q (option_map f o)
each_map P Q f None h g = tt
each_map P Q f (Some x) h g = g x h

each_then : {X Y : Type 0} (P : X → Type 0) (Q : Y → Type 0) (f : X → Option Y) (o : Option X) → Each P o → ((x : X) → P x → Each Q (f x)) → Each Q (option_and_then f o)
each_then P Q f None h g = tt
each_then P Q f (Some x) h g = g x h

each_all : {X : Type 0} (P : X → Type 0) (o : Option X) → ((x : X) → P x) → Each P o
each_all P None h = tt
each_all P (Some x) h = h x

below : (k l : Text) → slice_cmp nat_cmp k l ≡ Greater → slice_cmp nat_cmp l k ≡ Less
below k l e = nat_list_cmp_total.antisymm l k ∙ ap ordering_reverse e

above_more : (k l : Text) (ms : Members) → slice_cmp nat_cmp k l ≡ Less → Above l ms → Above k ms
above_more k l no_members e h = tt
above_more k l (member j d ms) e h = (nat_list_cmp_total.trans k l j e h.0, above_more k l ms e h.1)

one_above : (o : Ordering) (j : Text) (a b c : Members) → Above j a → Above j b → Above j c → Above j (match_ordering o a b c)
one_above Less j a b c x y z = x
one_above Equal j a b c x y z = y
one_above Greater j a b c x y z = z

put_above : (j k : Text) (d : Data) (ms : Members) → slice_cmp nat_cmp j k ≡ Less → Above j ms → Above j (put k d ms)
put_above j k d no_members e h = (e, tt)
put_above j k d (member l f ms) e h = one_above (slice_cmp nat_cmp k l) j _ _ _ (e, h) h (h.0, put_above j k d ms e h.1)

put_at : (o : Ordering) (k l : Text) (d e : Data) (ms : Members) → slice_cmp nat_cmp k l ≡ o → Ordered d → MembersOrdered (member l e ms) → MembersOrdered (put k d ms)
    → MembersOrdered (match_ordering o (member k d (member l e ms)) (member l d ms) (member l e (put k d ms)))
put_at Less k l d e ms is h g later = ((is, above_more k l ms is g.0), h, g)
put_at Equal k l d e ms is h g later = (g.0, h, g.2)
put_at Greater k l d e ms is h g later = (put_above l k d ms (below k l is) g.0, g.1, later)

put_ordered : (k : Text) (d : Data) (ms : Members) → Ordered d → MembersOrdered ms → MembersOrdered (put k d ms)
put_ordered k d no_members h g = (tt, h, tt)
put_ordered k d (member l e ms) h g = put_at (slice_cmp nat_cmp k l) k l d e ms refl h g (put_ordered k d ms h g.2)

mutual
  json_ordered : (j : json.Json) → Each Ordered (of_json j)
  json_ordered json.null = tt
  json_ordered (json.boolean b) = tt
  json_ordered (json.number s) = each_map (λ n. Unit {0}) Ordered number (number_of s) (each_all (λ n. Unit {0}) (number_of s) (λ n. tt)) (λ n h. tt)
  json_ordered (json.string s) = tt
  json_ordered (json.array js) = each_map ItemsOrdered Ordered array (of_items js) (items_ordered js) (λ ds h. h)
  json_ordered (json.object ms) = each_map MembersOrdered Ordered object (of_members ms no_members) (members_ordered ms no_members tt) (λ ds h. h)

  items_ordered : (js : json.Items) → Each ItemsOrdered (of_items js)
  items_ordered json.no_items = tt
  items_ordered (json.item j js) =
      each_then Ordered ItemsOrdered (λ d. option_map (item d) (of_items js)) (of_json j) (json_ordered j)
      (λ d h. each_map ItemsOrdered ItemsOrdered (item d) (of_items js) (items_ordered js) (λ ds g. (h, g)))

  members_ordered : (ms : json.Members) (found : Members) → MembersOrdered found → Each MembersOrdered (of_members ms found)
  members_ordered json.no_members found h = h
  members_ordered (json.member k j ms) found h =
      each_then Ordered MembersOrdered (λ d. of_members ms (put k d found)) (of_json j) (json_ordered j)
      (λ d g. members_ordered ms (put k d found) (put_ordered k d found g h))

from_json : (o : Option json.Json) → Each Ordered (option_and_then of_json o)
from_json None = tt
from_json (Some j) = json_ordered j

-- what a text is read as is ordered
pub read_ordered : (text : Text) (d : Data) → read text ≡ Some d → Ordered d
read_ordered text d e = let P : Option Data → Type 0 = Each Ordered in subst P e (from_json (option_and_then (λ p. json.if_last p.0 p.1) (json.value max_depth (tokens text))))

one_ordered : (o : Ordering) (a b : Option Data) → Each Ordered a → Each Ordered b → Each Ordered (match_ordering o a b a)
one_ordered Less a b x y = x
one_ordered Equal a b x y = y
one_ordered Greater a b x y = x

get_member_ordered : (k : Text) (ms : Members) → MembersOrdered ms → Each Ordered (get_member k ms)
get_member_ordered k no_members h = tt
get_member_ordered k (member l e ms) h = one_ordered (slice_cmp nat_cmp k l) _ _ (get_member_ordered k ms h.2) h.1

pub get_ordered : (k : Text) (d : Data) → Ordered d → Each Ordered (get k d)
get_ordered k null h = tt
get_ordered k (boolean b) h = tt
get_ordered k (number n) h = tt
get_ordered k (string s) h = tt
get_ordered k (array ds) h = tt
get_ordered k (object ms) h = get_member_ordered k ms h

pub object_ordered : (d : Data) → Ordered d → Each MembersOrdered (as_object d)
object_ordered null h = tt
object_ordered (boolean b) h = tt
object_ordered (number n) h = tt
object_ordered (string s) h = tt
object_ordered (array ds) h = tt
object_ordered (object ms) h = h

-- a key is not after itself
pub not_itself : (k l : Text) → slice_cmp nat_cmp k l ≡ Less → k ≢ l
not_itself k l e same = let P : Text → Type 0 = λ t. slice_cmp nat_cmp k t ≡ Less in cc (subst P (sym same) e, tied_itself nat_list_cmp_total k)
