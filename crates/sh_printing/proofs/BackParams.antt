-- Parameters read back, with what stands between their braces.
use Rattle.std.proofs.Common.{◌≡◌, ℕ, suc, ◌-◌, Bool, true, false, List, [], ◌∷◌, ◌++◌, Some, None, refl, ap, ◌∙◌, arith}
use Rattle.std.specs.Prelude.{◌||◌, not, ◌==◌, nat_lt, nat_le}
use Rattle.std.specs.List.{list_all}
use Rattle.std.proofs.lemmas.Bool.{leb-true, lt-leb, ne_eqb}
use Rattle.std.proofs.lemmas.List.{append-nil}
use Rattle.span_text.specs.Names.{is_letter, begins_name, continues_name, is_digit, is_name}
use Rattle.span_text.proofs.Bytes.{apart}
use Rattle.text_grammar.specs.Grammar.{star, rule}
use Rattle.sh_grammar.specs.Shape.{Param, named, digits, count, status, at, star as all, FillTest, default, assigning, alternate, param, subst as listing, as_is, length_of, fill, trim}
use Rattle.sh_grammar.specs.Bytes.{Text, Context, clear, starts, is_special_param, fill_context, trim_context}
use Rattle.sh_grammar.specs.Expansions.{closed, filling, trimming, param_at, long_param_at, trims, operator_at, is_close, is_dash, length_head, is_hash, head_at, behind, behind_two, dollar_param, dollar_head, dollar_sum, subst_next, sum_next, brace_next, closed_next, filling_next}
use Rattle.sh_grammar.specs.State.{Sum, Node, part_node, head_node, script_node, parts_in}
use Rattle.sh_grammar.specs.Table.{unit_begins, expansion, braces}
use Rattle.sh_grammar.specs.Table as table
use Rattle.sh_grammar.specs.Steps.{Known, limit, run_step, holds}
use Rattle.sh_printing.specs.Marks.{param_name, colon_text, test_text, trim_mark}
use Rattle.sh_printing.specs.Spellable.{param_fits, is_count}
use Rattle.sh_printing.specs.Printable.{trim_byte}
use Rattle.sh_printing.proofs.BackSays.{Says, silent_step, said_step, ◌then◌, the_first, the_second, by_rule}
use Rattle.sh_printing.proofs.BackDue.{Due, st}
use Rattle.sh_grammar.specs.Tokens.{Close, token}
use Rattle.sh_printing.proofs.BackTokens.{op_says}
use Rattle.sh_printing.proofs.BackBytes.{both, isnt, neither, joins, no_join, clear_is, name_back, digits_back}

-- ---- names and digits

pub digit_begins : (b : ℕ) → is_digit b ≡ true → begins_name b ≡ false
unfolding begins_name
digit_begins b e =
    let x = both (nat_le 48 b) (nat_le b 57) e in
    let lo = leb-true 48 b x.0 in let hi = leb-true b 57 x.1 in
    rw (ne_eqb b 95 (λ is. absurd (omega arith)), lt-leb 97 b (omega arith), lt-leb 65 b (omega arith)) refl

-- what may stand behind a name or digits
pub record Ends (t : Text) : Type 0 where
  pub free : joins t ≡ false
  pub no_name : starts continues_name t ≡ false

no_digit : (t : Text) → starts continues_name t ≡ false → starts is_digit t ≡ false
unfolding continues_name
no_digit [] e = refl
no_digit (b ∷ bs) e = (neither (is_letter b) (is_digit b) e).1

-- the first byte of a name is no such byte
first_byte : (k b : ℕ) (bs : Text) → begins_name k ≡ false → is_name (b ∷ bs) ≡ true → (b == k) ≡ false
first_byte k b bs e n = apart begins_name b k (both (begins_name b) (list_all continues_name bs) n).0 e

plain_bytes : (begins_name 40 ≡ false) × (begins_name 123 ≡ false) × (begins_name 92 ≡ false)
unfolding begins_name
plain_bytes = (refl, refl, refl)

digit_back : (b : ℕ) (t : Text) → is_digit b ≡ true → param_at (b ∷ t) ≡ Some (digits (b ∷ []), t)
unfolding param_at
digit_back b t e = rw (digit_begins b e, e) refl

named_back : (name t : Text) → is_name name ≡ true → Ends t → param_at (name ++ t) ≡ Some (named name, t)
unfolding param_at
named_back [] t n e = absurd cc
named_back (b ∷ bs) t n e = let x = both (begins_name b) (list_all continues_name bs) n in rw (x.0, name_back (b ∷ bs) t n e.free e.no_name) refl

pub long_back : (p : Param) (t : Text) → param_fits p ≡ true → Ends t → long_param_at (param_name p ++ t) ≡ Some (p, t)
unfolding long_param_at begins_name
long_back (named []) t n e = absurd cc
long_back (named (b ∷ bs)) t n e = let x = both (begins_name b) (list_all continues_name bs) n in rw (x.0, name_back (b ∷ bs) t n e.free e.no_name) refl
long_back (digits []) t n e = absurd cc
long_back (digits (b ∷ bs)) t n e =
    let x = both (is_digit b) (list_all is_digit bs) n in
    rw (digit_begins b x.0, x.0, digits_back (b ∷ bs) t n e.free (no_digit t e.no_name)) refl
long_back count t n e = refl
long_back status t n e = refl
long_back at t n e = refl
long_back all t n e = refl

-- ---- `$a`

-- the byte behind the `$` of what is neither a list nor between braces
abbrev is_bare_byte : ℕ → Bool
is_bare_byte b = not (b == 40 || b == 123)

bare_says : (k : Known) (c : Context) (d : ℕ) (q : List Sum) (g : Due) (b : ℕ) (bs t : Text) (p : Param) → is_bare_byte b ≡ true → (b == 92) ≡ false → param_at (b ∷ bs) ≡ Some (p, t) →
    Says k (rule (expansion c)) (st d q g (36 ∷ b ∷ bs)) (st d q g t) (part_node (param p as_is) ∷ [])
unfolding run_step holds sum_next subst_next brace_next dollar_sum behind_two dollar_param
bare_says k c d q g b bs t p e f s =
    let n = neither (b == 40) (b == 123) (isnt (b == 40 || b == 123) e) in
    let i : clear (36 ∷ b ∷ bs) ≡ 36 ∷ b ∷ bs = clear_is (36 ∷ b ∷ bs) refl in
    let j : clear (b ∷ bs) ≡ b ∷ bs = clear_is (b ∷ bs) (no_join b bs f) in
    by_rule (expansion c) refl
    (the_second (rw (i, j, n.0) refl)
    (the_second (rw (i, j, n.0) refl)
    (the_second (rw (i, j, n.1) refl)
    (said_step (rw (i, j, s) refl)))))

pub named_says : (k : Known) (c : Context) (d : ℕ) (q : List Sum) (g : Due) (name t : Text) → is_name name ≡ true → Ends t →
    Says k (rule (expansion c)) (st d q g (36 ∷ (name ++ t))) (st d q g t) (part_node (param (named name) as_is) ∷ [])
named_says k c d q g [] t n e = absurd cc
named_says k c d q g (b ∷ bs) t n e =
    bare_says k c d q g b (bs ++ t) t (named (b ∷ bs)) (rw (first_byte 40 b bs plain_bytes.0 n, first_byte 123 b bs plain_bytes.1 n) refl) (first_byte 92 b bs plain_bytes.2 n) (named_back (b ∷ bs) t n e)

pub digit_says : (k : Known) (c : Context) (d : ℕ) (q : List Sum) (g : Due) (b : ℕ) (t : Text) → is_digit b ≡ true →
    Says k (rule (expansion c)) (st d q g (36 ∷ b ∷ t)) (st d q g t) (part_node (param (digits (b ∷ [])) as_is) ∷ [])
digit_says k c d q g b t n =
    bare_says k c d q g b t t (digits (b ∷ [])) (rw (apart is_digit b 40 n refl, apart is_digit b 123 n refl) refl) (apart is_digit b 92 n refl) (digit_back b t n)

-- `$#`, `$?`, `$@`, `$*`
pub special_says : (k : Known) (c : Context) (d : ℕ) (q : List Sum) (g : Due) (b : ℕ) (t : Text) (p : Param) → is_bare_byte b ≡ true → (b == 92) ≡ false → param_at (b ∷ t) ≡ Some (p, t) →
    Says k (rule (expansion c)) (st d q g (36 ∷ b ∷ t)) (st d q g t) (part_node (param p as_is) ∷ [])
special_says k c d q g b t p e f s = bare_says k c d q g b t t p e f s

-- ---- between braces

-- what stands behind the parameter between braces
pub record OpEnds (t : Text) : Type 0 where
  pub ends : Ends t
  pub not_close : is_close t ≡ false
  pub not_dash : is_dash t ≡ false
  pub no_length : length_head (long_param_at t) ≡ None

hash_begins : begins_name 35 ≡ false
unfolding begins_name
hash_begins = refl

not_hash : (p : Param) (t : Text) → is_count p ≡ false → param_fits p ≡ true → is_hash (param_name p ++ t) ≡ false
unfolding begins_name
not_hash (named []) t n e = absurd cc
not_hash (named (b ∷ bs)) t n e = first_byte 35 b bs hash_begins e
not_hash (digits []) t n e = absurd cc
not_hash (digits (b ∷ bs)) t n e = apart is_digit b 35 (both (is_digit b) (list_all is_digit bs) e).0 refl
not_hash count t n e = absurd cc
not_hash status t n e = refl
not_hash at t n e = refl
not_hash all t n e = refl

head_plain : (p : Param) (t : Text) → is_count p ≡ false → param_fits p ≡ true → Ends t → head_at (param_name p ++ t) ≡ operator_at p t
unfolding head_at
head_plain p t n f e = rw (not_hash p t n f, long_back p t f e, clear_is t e.free) refl

head_count : (t : Text) → OpEnds t → head_at (35 ∷ t) ≡ operator_at count t
unfolding head_at
head_count t o = rw (clear_is t o.ends.free, o.not_close, o.not_dash, o.no_length) refl

-- an operator and what stands behind it
pub head_by : (p : Param) (t : Text) → param_fits p ≡ true → Ends t → (is_count p ≡ true → OpEnds t) → head_at (param_name p ++ t) ≡ operator_at p t
head_by (named name) t f e o = head_plain (named name) t refl f e
head_by (digits text) t f e o = head_plain (digits text) t refl f e
head_by count t f e o = head_count t (o refl)
head_by status t f e o = head_plain status t refl f e
head_by at t f e o = head_plain at t refl f e
head_by all t f e o = head_plain all t refl f e

-- the first byte of a parameter's name
abbrev is_name_start : ℕ → Bool
is_name_start b = begins_name b || is_digit b || is_special_param b

name_starts : (is_name_start 35 ≡ true) × (is_name_start 63 ≡ true) × (is_name_start 64 ≡ true) × (is_name_start 42 ≡ true)
unfolding begins_name is_special_param
name_starts = (refl, refl, refl, refl)

other_bytes : (is_name_start 92 ≡ false) × (is_name_start 45 ≡ false) × (is_name_start 125 ≡ false)
unfolding begins_name is_special_param
other_bytes = (refl, refl, refl)

name_front : (p : Param) (t : Text) → param_fits p ≡ true → starts is_name_start (param_name p ++ t) ≡ true
unfolding is_special_param
name_front (named []) t e = absurd cc
name_front (named (b ∷ bs)) t e = let x = (both (begins_name b) (list_all continues_name bs) e).0 in rw x refl
name_front (digits []) t e = absurd cc
name_front (digits (b ∷ bs)) t e = let x = (both (is_digit b) (list_all is_digit bs) e).0 in rw (digit_begins b x, x) refl
name_front count t e = name_starts.0
name_front status t e = name_starts.1
name_front at t e = name_starts.2
name_front all t e = name_starts.3

front_apart : (k : ℕ) (t : Text) → is_name_start k ≡ false → starts is_name_start t ≡ true → starts (λ b. b == k) t ≡ false
front_apart k [] e s = absurd cc
front_apart k (b ∷ bs) e s = apart is_name_start b k s e

front_free : (t : Text) → starts is_name_start t ≡ true → joins t ≡ false
front_free [] s = absurd cc
front_free (b ∷ bs) s = no_join b bs (apart is_name_start b 92 s other_bytes.0)

front_dash : (t : Text) → starts is_name_start t ≡ true → is_dash t ≡ false
front_dash [] s = absurd cc
front_dash (b ∷ bs) s = rw (apart is_name_start b 45 s other_bytes.1) refl

closing : (t : Text) → Ends (125 ∷ t)
unfolding continues_name
closing t = record { free = no_join 125 t refl; no_name = refl }

pub head_length : (p : Param) (t : Text) → param_fits p ≡ true → head_at (35 ∷ (param_name p ++ 125 ∷ t)) ≡ Some (closed p length_of, t)
unfolding head_at
head_length p t f =
    let s = name_front p (125 ∷ t) f in
    let n = param_name p ++ 125 ∷ t in
    rw (clear_is n (front_free n s), front_apart 125 n other_bytes.2 s, front_dash n s, long_back p (125 ∷ t) f (closing t), clear_is (125 ∷ t) (closing t).free) refl

-- no join stands before a parameter's name
pub name_clear : (p : Param) (t : Text) → param_fits p ≡ true → clear (param_name p ++ t) ≡ param_name p ++ t
name_clear p t f = clear_is (param_name p ++ t) (front_free (param_name p ++ t) (name_front p t f))

-- a closed one, and `${a}`
pub head_as_is : (p : Param) (t : Text) → is_count p ≡ false → param_fits p ≡ true → head_at (param_name p ++ 125 ∷ t) ≡ Some (closed p as_is, t)
head_as_is p t n f = head_plain p (125 ∷ t) n f (closing t) ∙ refl

-- ---- `-`, `:-`

pub fill_op : (p : Param) (t : FillTest) (colon : Bool) (v : Text) → operator_at p (colon_text colon ++ (test_text t ++ v)) ≡ Some (filling p t colon, v)
fill_op p default false v = refl
fill_op p assigning false v = refl
fill_op p alternate false v = refl
fill_op p default true v = rw (clear_is (45 ∷ v) (no_join 45 v refl)) refl
fill_op p assigning true v = rw (clear_is (61 ∷ v) (no_join 61 v refl)) refl
fill_op p alternate true v = rw (clear_is (43 ∷ v) (no_join 43 v refl)) refl

pub fill_ends : (t : FillTest) (colon : Bool) (v : Text) → Ends (colon_text colon ++ (test_text t ++ v))
unfolding continues_name
fill_ends default false v = record { free = no_join 45 v refl; no_name = refl }
fill_ends assigning false v = record { free = no_join 61 v refl; no_name = refl }
fill_ends alternate false v = record { free = no_join 43 v refl; no_name = refl }
fill_ends t true v = record { free = no_join 58 (test_text t ++ v) refl; no_name = refl }

no_params : (v : Text) → (length_head (long_param_at (45 ∷ v)) ≡ None) × (length_head (long_param_at (61 ∷ v)) ≡ None) × (length_head (long_param_at (43 ∷ v)) ≡ None) × (length_head (long_param_at (58 ∷ v)) ≡ None) × (length_head (long_param_at (37 ∷ v)) ≡ None)
unfolding long_param_at begins_name
no_params v = (refl, refl, refl, refl, refl)

pub fill_op_ends : (t : FillTest) (colon : Bool) (v : Text) → (t ≡ default → colon ≡ false → is_close (clear v) ≡ false) → OpEnds (colon_text colon ++ (test_text t ++ v))
fill_op_ends default false v h = record { ends = fill_ends default false v; not_close = refl; not_dash = h refl refl; no_length = (no_params v).0 }
fill_op_ends assigning false v h = record { ends = fill_ends assigning false v; not_close = refl; not_dash = refl; no_length = (no_params v).1 }
fill_op_ends alternate false v h = record { ends = fill_ends alternate false v; not_close = refl; not_dash = refl; no_length = (no_params v).2 }
fill_op_ends t true v h = record { ends = fill_ends t true v; not_close = refl; not_dash = refl; no_length = (no_params (test_text t ++ v)).3 }

-- ---- `#`, `%%`

trims_back : (p : Param) (suffix : Bool) (j : ℕ) (v : Text) → starts (λ b. b == j) v ≡ false → trims p suffix j v ≡ Some (trimming p suffix false, v)
trims_back p suffix j [] e = refl
trims_back p suffix j (b ∷ bs) e = rw e refl

pub trim_op : (p : Param) (suffix longest : Bool) (v : Text) → joins v ≡ false → (longest ≡ false → starts (λ b. b == trim_byte suffix) v ≡ false) → operator_at p (trim_mark suffix longest ++ v) ≡ Some (trimming p suffix longest, v)
trim_op p false false v f e = rw (clear_is v f) (trims_back p false 35 v (e refl))
trim_op p true false v f e = rw (clear_is v f) (trims_back p true 37 v (e refl))
trim_op p false true v f e = rw (clear_is (35 ∷ v) (no_join 35 v refl)) refl
trim_op p true true v f e = rw (clear_is (37 ∷ v) (no_join 37 v refl)) refl

pub trim_ends : (suffix longest : Bool) (v : Text) → Ends (trim_mark suffix longest ++ v)
unfolding continues_name
trim_ends false false v = record { free = no_join 35 v refl; no_name = refl }
trim_ends true false v = record { free = no_join 37 v refl; no_name = refl }
trim_ends false true v = record { free = refl; no_name = refl }
trim_ends true true v = record { free = refl; no_name = refl }

hash_param : (v : Text) → joins v ≡ false → is_close v ≡ false → length_head (long_param_at (35 ∷ v)) ≡ None
unfolding long_param_at begins_name
hash_param v f e = rw (clear_is v f, e) refl

pub trim_op_ends : (suffix longest : Bool) (v : Text) → joins v ≡ false → (suffix ≡ false → longest ≡ false → is_close v ≡ false) → OpEnds (trim_mark suffix longest ++ v)
trim_op_ends false false v f h = record { ends = trim_ends false false v; not_close = refl; not_dash = refl; no_length = hash_param v f (h refl refl) }
trim_op_ends true false v f h = record { ends = trim_ends true false v; not_close = refl; not_dash = refl; no_length = (no_params v).4 }
trim_op_ends false true v f h = record { ends = trim_ends false true v; not_close = refl; not_dash = refl; no_length = hash_param (35 ∷ v) (no_join 35 v refl) refl }
trim_op_ends true true v f h = record { ends = trim_ends true true v; not_close = refl; not_dash = refl; no_length = (no_params (37 ∷ v)).4 }

-- ---- the rules

brace_head : (bytes : Text) → dollar_head (36 ∷ 123 ∷ bytes) ≡ head_at (clear bytes)
unfolding dollar_head behind_two
brace_head bytes =
    let i : clear (36 ∷ 123 ∷ bytes) ≡ 36 ∷ 123 ∷ bytes = clear_is (36 ∷ 123 ∷ bytes) refl in
    let j : clear (123 ∷ bytes) ≡ 123 ∷ bytes = clear_is (123 ∷ bytes) (no_join 123 bytes refl) in
    rw (i, j) refl

-- by what stands between the braces
braces_say : (k : Known) (c : Context) (d : ℕ) (q : List Sum) (g h : Due) (bytes t : Text) (xs : List Node) →
    Says k (rule (braces c)) (st d q g (36 ∷ 123 ∷ bytes)) (st d q h t) xs → Says k (rule (expansion c)) (st d q g (36 ∷ 123 ∷ bytes)) (st d q h t) xs
unfolding holds sum_next subst_next brace_next dollar_sum behind_two
braces_say k c d q g h bytes t xs a =
    let i : clear (36 ∷ 123 ∷ bytes) ≡ 36 ∷ 123 ∷ bytes = clear_is (36 ∷ 123 ∷ bytes) refl in
    let j : clear (123 ∷ bytes) ≡ 123 ∷ bytes = clear_is (123 ∷ bytes) (no_join 123 bytes refl) in
    by_rule (expansion c) refl (the_second (rw (i, j) refl) (the_second (rw (i, j) refl) (the_first (rw (i, j) refl) a)))

pub closed_says : (k : Known) (c : Context) (d : ℕ) (q : List Sum) (g : Due) (bytes t : Text) (p : Param) (o : Rattle.sh_grammar.specs.Shape.ParamOp) → nat_lt d limit ≡ true → head_at (clear bytes) ≡ Some (closed p o, t) →
    Says k (rule (expansion c)) (st d q g (36 ∷ 123 ∷ bytes)) (st d q g t) (part_node (param p o) ∷ [])
unfolding run_step holds closed_next
closed_says k c d q g bytes t p o lt e =
    braces_say k c d q g g bytes t _
    (by_rule (braces c) refl (the_first (rw (brace_head bytes, e) refl) (said_step (rw (lt, brace_head bytes, e) refl))))

-- the word behind an operator
abbrev pub Worded : Known → Context → ℕ → List Sum → Due → Due → Text → Text → List Node → Type 0
Worded k c d q g h v t xs = Says k (star (unit_begins c) (rule (table.part c))) (st (suc d) q g v) (st (suc d) q h (125 ∷ t)) xs

pub fill_says : (k : Known) (c : Context) (d : ℕ) (q : List Sum) (g h : Due) (bytes v t : Text) (p : Param) (f : FillTest) (colon : Bool) (xs : List Node) → nat_lt d limit ≡ true → head_at (clear bytes) ≡ Some (filling p f colon, v) →
    Worded k (fill_context c) d q g h v t xs → Says k (rule (expansion c)) (st d q g (36 ∷ 123 ∷ bytes)) (st d q h t) (part_node (param p (fill f colon (parts_in xs))) ∷ [])
unfolding run_step holds closed_next filling_next
fill_says k c d q g h bytes v t p f colon xs lt e a =
    let j : clear (125 ∷ t) ≡ 125 ∷ t = clear_is (125 ∷ t) (no_join 125 t refl) in
    let down : suc d - 1 ≡ d = omega arith in
    braces_say k c d q g h bytes t _
    (by_rule (braces c) refl (the_second (rw (brace_head bytes, e) refl) (the_first (rw (brace_head bytes, e) refl)
    (by_rule (table.fill c) (ap (λ (z : List Node). part_node (param p (fill f colon (parts_in z))) ∷ []) (append-nil xs))
    (said_step {e = st d q g v} {x = head_node (filling p f colon)} (rw (brace_head bytes, e) refl) then silent_step {e = st (suc d) q g v} (rw lt refl) then a then silent_step {e = st (suc d) q h t} (rw j refl) then silent_step (rw down refl))))))

pub trim_says : (k : Known) (c : Context) (d : ℕ) (q : List Sum) (g h : Due) (bytes v t : Text) (p : Param) (suffix longest : Bool) (xs : List Node) → nat_lt d limit ≡ true → head_at (clear bytes) ≡ Some (trimming p suffix longest, v) →
    Worded k (trim_context c) d q g h v t xs → Says k (rule (expansion c)) (st d q g (36 ∷ 123 ∷ bytes)) (st d q h t) (part_node (param p (trim suffix longest (parts_in xs))) ∷ [])
unfolding run_step holds closed_next filling_next
trim_says k c d q g h bytes v t p suffix longest xs lt e a =
    let j : clear (125 ∷ t) ≡ 125 ∷ t = clear_is (125 ∷ t) (no_join 125 t refl) in
    let down : suc d - 1 ≡ d = omega arith in
    braces_say k c d q g h bytes t _
    (by_rule (braces c) refl (the_second (rw (brace_head bytes, e) refl) (the_second (rw (brace_head bytes, e) refl)
    (by_rule (table.trim c) (ap (λ (z : List Node). part_node (param p (trim suffix longest (parts_in z))) ∷ []) (append-nil xs))
    (said_step {e = st d q g v} {x = head_node (trimming p suffix longest)} (rw (brace_head bytes, e) refl) then silent_step {e = st (suc d) q g v} (rw lt refl) then a then silent_step {e = st (suc d) q h t} (rw j refl) then silent_step (rw down refl))))))

-- ---- `$(a)`

no_open : (t : Text) → starts (λ b. b == 40) t ≡ false → Rattle.sh_grammar.specs.Expansions.is_something (behind 40 t) ≡ false
no_open [] e = refl
no_open (b ∷ bs) e = rw e refl

pub listing_says : (k : Known) (c : Context) (d : ℕ) (q : List Sum) (g h : Due) (bytes u t : Text) (s : Rattle.sh_grammar.specs.Shape.Script) → nat_lt d limit ≡ true → joins bytes ≡ false → starts (λ b. b == 40) bytes ≡ false → token u ≡ (Close, t) →
    Says k (rule table.maybe_list) (st (suc d) q g bytes) (st (suc d) q h u) (script_node s ∷ []) → Says k (rule (expansion c)) (st d q g (36 ∷ 40 ∷ bytes)) (st d q h t) (part_node (listing s) ∷ [])
unfolding run_step holds sum_next subst_next dollar_sum behind_two
listing_says k c d q g h bytes u t s lt f n e a =
    let i : clear (36 ∷ 40 ∷ bytes) ≡ 36 ∷ 40 ∷ bytes = clear_is (36 ∷ 40 ∷ bytes) refl in
    let j : clear (40 ∷ bytes) ≡ 40 ∷ bytes = clear_is (40 ∷ bytes) (no_join 40 bytes refl) in
    let down : suc d - 1 ≡ d = omega arith in
    by_rule (expansion c) refl (the_second (rw (i, j, clear_is bytes f) (no_open bytes n)) (the_first (rw (i, j, clear_is bytes f, n) refl)
    (by_rule table.subst refl
    (silent_step {e = st d q g bytes} (rw (i, j) refl) then silent_step {e = st (suc d) q g bytes} (rw lt refl) then a then op_says k Close (suc d) q h u t e then silent_step (rw down refl)))))
