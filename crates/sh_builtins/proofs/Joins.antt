-- Lines that a quoted newline joins.
use Rattle.std.proofs.Common.{◌≡◌, ◌<◌, ℕ, zero, suc, ◌+◌, List, [], ◌∷◌, ◌++◌, length, take, drop, Bool, true, false, not, ◌&&◌, ◌==◌, nat_lt, refl, sym, ap, ◌∙◌, arith, drop-drop, append_assoc, length-drop}
use Rattle.std.specs.Prelude.{Option, Some, None, if◌then◌else◌, get_or}
use Rattle.std.proofs.lemmas.Bool.Decides.{nat_tests}
use Rattle.shell_world.specs.Texts.{Text, nth, with_nth}
use Rattle.shell_world.specs.Outside.{Desc, Outside, desc_at, unread, consumed_at, read_on}
use Rattle.shell_world.specs.declared.description.Description.TheVariants.{Reading, Writing, Appending, Given, Buffer, Output, Errors}
use Rattle.shell_world.specs.declared.lines.Line.{Line}
use Rattle.shell_world.specs.Lines.{line_len, is_ended, without_nul, newlines, line_of, line_taken, line_read_at}
use Rattle.shell_world.proofs.LineCuts.{ended_is}
use Rattle.sh_meaning.specs.builtins.Reading.{quotes_next, joined_len, line_read, bytes_taken, assign_next, assign_all}
use Rattle.sh_meaning.specs.Variables.{Variables}
use Rattle.sh_builtins.specs.Lines.{with_text, quotes_behind, input_at, taken_at}

pub rest_behind : {X : Type 0} (n : ℕ) (xs : List X) → drop 1 (drop n xs) ≡ drop (n + 1) xs
rest_behind n xs = drop-drop 1 n xs

-- ---- NUL bytes don't count

next_nul : (q : Bool) (b : ℕ) → (b == 0) ≡ true → quotes_next q b ≡ q
next_nul q b is = rw is refl

skip_by : (q : Bool) (b : ℕ) (bs : Text) (e : Bool) → (b == 0) ≡ e → ((r : Bool) → quotes_behind r (without_nul bs) ≡ quotes_behind r bs) → quotes_behind q (without_nul (b ∷ bs)) ≡ quotes_behind (quotes_next q b) bs
skip_by q b bs true is more =
    let filtered : without_nul (b ∷ bs) ≡ without_nul bs = rw is refl in
    ap (quotes_behind q) filtered ∙ more q ∙ ap (λ r. quotes_behind r bs) (sym (next_nul q b is))
skip_by q b bs false is more =
    let filtered : without_nul (b ∷ bs) ≡ b ∷ without_nul bs = rw is refl in
    ap (quotes_behind q) filtered ∙ more (quotes_next q b)

pub skips : (q : Bool) (t : Text) → quotes_behind q (without_nul t) ≡ quotes_behind q t
skips q [] = refl
skips q (b ∷ bs) = skip_by q b bs (b == 0) refl (λ r. skips r bs)

without_append : (s t : Text) → without_nul (s ++ t) ≡ without_nul s ++ without_nul t
without_append [] t = refl
without_append (b ∷ s) t =
    elim (b == 0) as (λ e. (if not e then b ∷ without_nul (s ++ t) else without_nul (s ++ t)) ≡ (if not e then b ∷ without_nul s else without_nul s) ++ without_nul t) [
      | true ↦ without_append s t
      | false ↦ ap (λ r. b ∷ r) (without_append s t)
    ]

-- ---- where the line ends

-- a newline is quoted, so another line is joined
abbrev goes_on : Bool → Text → Bool
goes_on q t = is_ended (drop (line_len t) t) && quotes_behind q (take (line_len t) t)

-- the bytes before the end, by the first line, which has n
abbrev by_at : Bool → Text → ℕ → ℕ
by_at q t n = if is_ended (drop n t) && quotes_behind q (take n t) then suc n + joined_len false (drop (suc n) t) else n

lift : (c : Bool) (x y x' y' : ℕ) → suc x ≡ x' → suc y ≡ y' → suc (if c then x else y) ≡ (if c then x' else y')
lift true x y x' y' a b = a
lift false x y x' y' a b = b

none_quoted : (q : Bool) (b : ℕ) → (b == 10) ≡ true → quotes_next q b ≡ false
none_quoted true b is = grind (arith, nat_tests, is)
none_quoted false b is = grind (arith, nat_tests, is)

inner_len : (b : ℕ) (bs : Text) → (b == 10) ≡ false → line_len (b ∷ bs) ≡ suc (line_len bs)
inner_len b bs is = rw is (omega arith)

newline_len : (b : ℕ) (bs : Text) → (b == 10) ≡ true → line_len (b ∷ bs) ≡ 0
newline_len b bs is = rw is refl

inner_next : (q : Bool) (b : ℕ) (bs : Text) → (b == 10) ≡ false → joined_len q (b ∷ bs) ≡ suc (joined_len (quotes_next q b) bs)
inner_next q b bs is = rw is refl

newline_next : (q : Bool) (b : ℕ) (bs : Text) → (b == 10) ≡ true → joined_len q (b ∷ bs) ≡ (if q then suc (joined_len false bs) else 0)
newline_next true b bs is =
    let first : joined_len true (b ∷ bs) ≡ suc (joined_len (quotes_next true b) bs) = rw is refl in
    first ∙ ap (λ r. suc (joined_len r bs)) (none_quoted true b is)
newline_next false b bs is = rw is refl

at_zero : (q : Bool) (b : ℕ) (bs : Text) → (if q then suc (joined_len false bs) else 0) ≡ by_at q (b ∷ bs) 0
at_zero true b bs = omega arith
at_zero false b bs = refl

line_by : (q : Bool) (b : ℕ) (bs : Text) (e : Bool) → (b == 10) ≡ e → joined_len (quotes_next q b) bs ≡ by_at (quotes_next q b) bs (line_len bs) → joined_len q (b ∷ bs) ≡ by_at q (b ∷ bs) (line_len (b ∷ bs))
line_by q b bs true is more = newline_next q b bs is ∙ at_zero q b bs ∙ ap (by_at q (b ∷ bs)) (sym (newline_len b bs is))
line_by q b bs false is more =
    let n = line_len bs in
    let stepped : suc (by_at (quotes_next q b) bs n) ≡ by_at q (b ∷ bs) (suc n) = lift (goes_on (quotes_next q b) bs) (suc n + joined_len false (drop (suc n) bs)) n (suc (suc n) + joined_len false (drop (suc n) bs)) (suc n) (omega arith) refl in
    inner_next q b bs is ∙ ap suc more ∙ stepped ∙ ap (by_at q (b ∷ bs)) (sym (inner_len b bs is))

pub by_lines : (q : Bool) (t : Text) → joined_len q t ≡ by_at q t (line_len t)
by_lines q [] = refl
by_lines q (b ∷ bs) = line_by q b bs (b == 10) refl (by_lines (quotes_next q b) bs)

-- ---- the last line

stays : (t : Text) → goes_on false t ≡ false → joined_len false t ≡ line_len t
stays t is = by_lines false t ∙ ap (λ (c : Bool). if c then suc (line_len t) + joined_len false (drop (suc (line_len t)) t) else line_len t) is

last_line : (t : Text) → goes_on false t ≡ false → line_read false t ≡ line_of t
last_line t is = ap (λ (n : ℕ). let line : Line = record { text = without_nul (take n t); ended = is_ended (drop n t) } in line) (stays t is)

last_taken : (t : Text) → goes_on false t ≡ false → bytes_taken false t ≡ line_taken t
last_taken t is = ap (λ (n : ℕ). n + newlines (is_ended (drop n t))) (stays t is)

-- ---- a line that goes on

joins : (t : Text) → goes_on false t ≡ true → joined_len false t ≡ suc (line_len t) + joined_len false (drop (suc (line_len t)) t)
joins t is = by_lines false t ∙ ap (λ (c : Bool). if c then suc (line_len t) + joined_len false (drop (suc (line_len t)) t) else line_len t) is

take_nil : (n : ℕ) → take {A = ℕ} n [] ≡ []
take_nil zero = refl
take_nil (suc n) = refl

drop_nil : (n : ℕ) → drop {A = ℕ} n [] ≡ []
drop_nil zero = refl
drop_nil (suc n) = refl

take_more : (n m : ℕ) (t : Text) → take (n + m) t ≡ take n t ++ take m (drop n t)
take_more zero m t = let e : 0 + m ≡ m = omega arith in ap (λ k. take k t) e
take_more (suc n) m [] = take_nil (suc n + m) ∙ sym (take_nil m)
take_more (suc n) m (b ∷ bs) = let e : suc n + m ≡ suc (n + m) = omega arith in ap (λ k. take k (b ∷ bs)) e ∙ ap (λ r. b ∷ r) (take_more n m bs)

is_newline : (b : ℕ) → (b == 10) ≡ true → b ≡ 10
is_newline b is = grind (arith, nat_tests, is)

ended_by : (b : ℕ) (bs : Text) (e : Bool) → (b == 10) ≡ e → (is_ended (drop (line_len bs) bs) ≡ true → take (suc (line_len bs)) bs ≡ take (line_len bs) bs ++ 10 ∷ []) → is_ended (drop (line_len (b ∷ bs)) (b ∷ bs)) ≡ true → take (suc (line_len (b ∷ bs))) (b ∷ bs) ≡ take (line_len (b ∷ bs)) (b ∷ bs) ++ 10 ∷ []
ended_by b bs true is more ended =
    let e = newline_len b bs is in
    ap (λ n. take (suc n) (b ∷ bs)) e ∙ ap (λ c. c ∷ []) (is_newline b is) ∙ ap (λ n. take n (b ∷ bs) ++ 10 ∷ []) (sym e)
ended_by b bs false is more ended =
    let e = inner_len b bs is in
    ap (λ n. take (suc n) (b ∷ bs)) e ∙ ap (λ r. b ∷ r) (more (sym (ap (λ n. is_ended (drop n (b ∷ bs))) e) ∙ ended)) ∙ ap (λ n. take n (b ∷ bs) ++ 10 ∷ []) (sym e)

with_newline : (t : Text) → is_ended (drop (line_len t) t) ≡ true → take (suc (line_len t)) t ≡ take (line_len t) t ++ 10 ∷ []
with_newline [] is = grind (arith, is)
with_newline (b ∷ bs) is = ended_by b bs (b == 10) refl (with_newline bs) is

left : (a b : Bool) → (a && b) ≡ true → a ≡ true
left true b is = refl
left false b is = is

-- the text behind a line
abbrev rest : Text → Text
rest t = drop (suc (line_len t)) t

joined_text : (t : Text) → goes_on false t ≡ true → without_nul (take (joined_len false t) t) ≡ (without_nul (take (line_len t) t) ++ 10 ∷ []) ++ without_nul (take (joined_len false (rest t)) (rest t))
joined_text t is =
    ap (λ n. without_nul (take n t)) (joins t is)
    ∙ ap without_nul (take_more (suc (line_len t)) (joined_len false (rest t)) t)
    ∙ without_append (take (suc (line_len t)) t) (take (joined_len false (rest t)) (rest t))
    ∙ ap (λ s. without_nul s ++ without_nul (take (joined_len false (rest t)) (rest t))) (with_newline t (left _ _ is))
    ∙ ap (λ s. s ++ without_nul (take (joined_len false (rest t)) (rest t))) (without_append (take (line_len t) t) (10 ∷ []))

joined_rest : (t : Text) → goes_on false t ≡ true → drop (joined_len false t) t ≡ drop (joined_len false (rest t)) (rest t)
joined_rest t is = ap (λ n. drop n t) (joins t is) ∙ sym (drop-drop (joined_len false (rest t)) (suc (line_len t)) t)

joined_line : (t : Text) → goes_on false t ≡ true → line_read false t ≡ with_text (without_nul (take (line_len t) t) ++ 10 ∷ []) (line_read false (rest t))
joined_line t is =
    ap (λ s. let line : Line = record { text = s; ended = is_ended (drop (joined_len false t) t) } in line) (joined_text t is)
    ∙ ap (λ r. let line : Line = record { text = (without_nul (take (line_len t) t) ++ 10 ∷ []) ++ without_nul (take (joined_len false (rest t)) (rest t)); ended = is_ended r } in line) (joined_rest t is)

joined_taken : (t : Text) → goes_on false t ≡ true → bytes_taken false t ≡ suc (line_len t) + bytes_taken false (rest t)
joined_taken t is =
    ap (λ r. joined_len false t + newlines (is_ended r)) (joined_rest t is)
    ∙ ap (λ n. n + newlines (is_ended (drop (joined_len false (rest t)) (rest t)))) (joins t is)
    ∙ omega arith

-- ---- descriptions

nth_set : (j : ℕ) (y x : Desc) (ds : List Desc) → nth j ds ≡ Some x → nth j (with_nth j y ds) ≡ Some y
nth_set zero y x [] is = grind (arith, is)
nth_set (suc j) y x [] is = grind (arith, is)
nth_set zero y x (d ∷ ds) is = refl
nth_set (suc j) y x (d ∷ ds) is = nth_set j y x ds is

set_set : (j : ℕ) (z y : Desc) (ds : List Desc) → with_nth j z (with_nth j y ds) ≡ with_nth j z ds
set_set zero z y [] = refl
set_set (suc j) z y [] = refl
set_set zero z y (d ∷ ds) = refl
set_set (suc j) z y (d ∷ ds) = ap (λ es. d ∷ es) (set_set j z y ds)

read_twice : (k m : ℕ) (d : Desc) → read_on m (read_on k d) ≡ read_on (k + m) d
read_twice k m (Reading path offset) = let e : offset + k + m ≡ offset + (k + m) = omega arith in ap (Reading path) e
read_twice k m (Given text offset) = let e : offset + k + m ≡ offset + (k + m) = omega arith in ap (Given text) e
read_twice k m (Writing path offset) = refl
read_twice k m (Appending path) = refl
read_twice k m (Buffer text) = refl
read_twice k m Output = refl
read_twice k m Errors = refl

unread_on : (k : ℕ) (d : Desc) (o : Outside) (ds : List Desc) → unread (Some (read_on k d)) (record o { descs = ds }) ≡ drop k (unread (Some d) o)
unread_on k (Reading path offset) o ds = sym (drop-drop k offset _)
unread_on k (Given text offset) o ds = sym (drop-drop k offset text)
unread_on k (Writing path offset) o ds = sym (drop_nil k)
unread_on k (Appending path) o ds = sym (drop_nil k)
unread_on k (Buffer text) o ds = sym (drop_nil k)
unread_on k Output o ds = sym (drop_nil k)
unread_on k Errors o ds = sym (drop_nil k)

-- so many bytes were taken through an index
abbrev behind : ℕ → Option ℕ → Outside → Outside
behind k i o = consumed_at k i (desc_at i o.descs) o

input_by : (k j : ℕ) (o : Outside) (d : Option Desc) → nth j o.descs ≡ d → unread (nth j (consumed_at k (Some j) d o).descs) (consumed_at k (Some j) d o) ≡ drop k (unread d o)
input_by k j o None is = ap (λ d. unread d o) is ∙ sym (drop_nil k)
input_by k j o (Some d) is =
    let ds = with_nth j (read_on k d) o.descs in
    ap (λ x. unread x (record o { descs = ds })) (nth_set j (read_on k d) d o.descs is) ∙ unread_on k d o ds

pub input_behind : (k : ℕ) (i : Option ℕ) (o : Outside) → input_at i (behind k i o) ≡ drop k (input_at i o)
input_behind k None o = sym (drop_nil k)
input_behind k (Some j) o = input_by k j o (nth j o.descs) refl

taken_by : (k m j : ℕ) (o : Outside) (d : Option Desc) → nth j o.descs ≡ d → consumed_at m (Some j) (nth j (consumed_at k (Some j) d o).descs) (consumed_at k (Some j) d o) ≡ consumed_at (k + m) (Some j) d o
taken_by k m j o None is = ap (λ d. consumed_at m (Some j) d o) is
taken_by k m j o (Some d) is =
    let ds = with_nth j (read_on k d) o.descs in
    ap (λ x. consumed_at m (Some j) x (record o { descs = ds })) (nth_set j (read_on k d) d o.descs is)
    ∙ ap (λ es. let after : Outside = record o { descs = es } in after) (set_set j (read_on m (read_on k d)) (read_on k d) o.descs ∙ ap (λ y. with_nth j y o.descs) (read_twice k m d))

pub taken_behind : (k m : ℕ) (i : Option ℕ) (o : Outside) → consumed_at m i (desc_at i (behind k i o).descs) (behind k i o) ≡ behind (k + m) i o
taken_behind k m None o = refl
taken_behind k m (Some j) o = taken_by k m j o (nth j o.descs) refl

-- ---- a part of a line

quoted_is : (t : Text) → (is_ended (drop (line_len t) t) && quotes_behind false (without_nul (take (line_len t) t))) ≡ goes_on false t
quoted_is t = ap (λ b. is_ended (drop (line_len t) t) && b) (skips false (take (line_len t) t))

taken_is : (t : Text) → is_ended (drop (line_len t) t) ≡ true → line_taken t ≡ suc (line_len t)
taken_is t is = ap (λ b. line_len t + newlines b) is ∙ omega arith

rest_is : (i : Option ℕ) (o : Outside) → is_ended (drop (line_len (input_at i o)) (input_at i o)) ≡ true → input_at i (line_read_at i o) ≡ rest (input_at i o)
rest_is i o is = input_behind (line_taken (input_at i o)) i o ∙ ap (λ n. drop n (input_at i o)) (taken_is (input_at i o) is)

moved : (old s x : Text) → ((old ++ s) ++ 10 ∷ []) ++ x ≡ old ++ ((s ++ 10 ∷ []) ++ x)
moved old s x = ap (λ y. y ++ x) (append_assoc old s (10 ∷ [])) ∙ append_assoc old (s ++ 10 ∷ []) x

pub joined_part : (i : Option ℕ) (o : Outside) (old : Text) → ((line_of (input_at i o)).ended && quotes_behind false (line_of (input_at i o)).text) ≡ true
    → with_text ((old ++ (line_of (input_at i o)).text) ++ 10 ∷ []) (line_read false (input_at i (line_read_at i o))) ≡ with_text old (line_read false (input_at i o))
joined_part i o old is =
    let t = input_at i o in
    let on = sym (quoted_is t) ∙ is in
    let s = without_nul (take (line_len t) t) in
    ap (λ u. with_text ((old ++ s) ++ 10 ∷ []) (line_read false u)) (rest_is i o (left _ _ is))
    ∙ ap (λ x. let line : Line = record { text = x; ended = (line_read false (rest t)).ended } in line) (moved old s (line_read false (rest t)).text)
    ∙ ap (with_text old) (sym (joined_line t on))

pub joined_input : (i : Option ℕ) (o : Outside) → ((line_of (input_at i o)).ended && quotes_behind false (line_of (input_at i o)).text) ≡ true → taken_at false i (line_read_at i o) ≡ taken_at false i o
joined_input i o is =
    let t = input_at i o in
    let on = sym (quoted_is t) ∙ is in
    let o' = line_read_at i o in
    ap (λ u. consumed_at (bytes_taken false u) i (desc_at i o'.descs) o') (rest_is i o (left _ _ is))
    ∙ taken_behind (line_taken t) (bytes_taken false (rest t)) i o
    ∙ ap (λ n. behind (n + bytes_taken false (rest t)) i o) (taken_is t (left _ _ is))
    ∙ ap (λ n. behind n i o) (sym (joined_taken t on))

shorter_than : (n : ℕ) (t : Text) → is_ended (drop n t) ≡ true → length (drop (suc n) t) < length t
shorter_than n t is =
    let below : nat_lt n (length t) ≡ true = sym (ended_is n t) ∙ is in
    let len : length (drop (suc n) t) ≡ _ = length-drop (suc n) t in
    grind (arith, nat_tests, below, len)

pub joined_shorter : (i : Option ℕ) (o : Outside) → ((line_of (input_at i o)).ended && quotes_behind false (line_of (input_at i o)).text) ≡ true → length (input_at i (line_read_at i o)) < length (input_at i o)
joined_shorter i o is = rw (rest_is i o (left _ _ is)) (shorter_than (line_len (input_at i o)) (input_at i o) (left _ _ is))

pub last_part : (i : Option ℕ) (o : Outside) → ((line_of (input_at i o)).ended && quotes_behind false (line_of (input_at i o)).text) ≡ false → line_read false (input_at i o) ≡ line_of (input_at i o)
last_part i o is = last_line (input_at i o) (sym (quoted_is (input_at i o)) ∙ is)

pub last_input : (i : Option ℕ) (o : Outside) → ((line_of (input_at i o)).ended && quotes_behind false (line_of (input_at i o)).text) ≡ false → taken_at false i o ≡ line_read_at i o
last_input i o is = ap (λ n. behind n i o) (last_taken (input_at i o) (sym (quoted_is (input_at i o)) ∙ is))

-- ---- what `take_part` makes

both : (a b : Bool) → a ≡ true → b ≡ true → (a && b) ≡ true
both a b is more = rw is more

pub not_first : (a b : Bool) → a ≡ false → (a && b) ≡ false
not_first a b is = rw is refl

pub not_second : (a b : Bool) → b ≡ false → (a && b) ≡ false
not_second true b is = is
not_second false b is = refl

pub part_joined : (i : Option ℕ) (o o' : Outside) (old mid new : Text) (line : Line) → line ≡ line_of (input_at i o) → o' ≡ line_read_at i o → mid ≡ old ++ line.text → new ≡ mid ++ 10 ∷ [] → line.ended ≡ true → quotes_behind false line.text ≡ true
    → (with_text new (line_read false (input_at i o')) ≡ with_text old (line_read false (input_at i o))) × (taken_at false i o' ≡ taken_at false i o) × (length (input_at i o') < length (input_at i o))
part_joined i o o' old mid new line line_is after mid_is new_is ended quoted =
    let was : (line.ended && quotes_behind false line.text) ≡ true = both _ _ ended quoted in
    let is : ((line_of (input_at i o)).ended && quotes_behind false (line_of (input_at i o)).text) ≡ true = sym (ap (λ l. l.ended && quotes_behind false l.text) line_is) ∙ was in
    let put : new ≡ (old ++ (line_of (input_at i o)).text) ++ 10 ∷ [] = new_is ∙ ap (λ t. t ++ 10 ∷ []) (mid_is ∙ ap (λ l. old ++ l.text) line_is) in (
      (ap (λ t. with_text t (line_read false (input_at i o'))) put ∙ ap (λ p. with_text ((old ++ (line_of (input_at i o)).text) ++ 10 ∷ []) (line_read false (input_at i p))) after ∙ joined_part i o old is),
      (ap (taken_at false i) after ∙ joined_input i o is),
      (rw after (joined_shorter i o is)),
    )

pub part_last : (i : Option ℕ) (o o' : Outside) (old new : Text) (line : Line) → line ≡ line_of (input_at i o) → o' ≡ line_read_at i o → new ≡ old ++ line.text → (line.ended && quotes_behind false line.text) ≡ false
    → (with_text old (line_read false (input_at i o)) ≡ record { text = new; ended = line.ended }) × (o' ≡ taken_at false i o)
part_last i o o' old new line line_is after new_is was =
    let is : ((line_of (input_at i o)).ended && quotes_behind false (line_of (input_at i o)).text) ≡ false = sym (ap (λ l. l.ended && quotes_behind false l.text) line_is) ∙ was in
    ((ap (with_text old) (last_part i o is ∙ sym line_is) ∙ ap (λ t. let made : Line = record { text = t; ended = line.ended } in made) (sym new_is)), (after ∙ sym (last_input i o is)))

-- ---- names that get their texts

next_of : (names : List Text) (at : ℕ) (x : Text) → at < length names → x ≡ get_or names at x → drop at names ≡ x ∷ drop (suc at) names
next_of [] at x lt is = absurd (omega arith)
next_of (n ∷ ns) zero x lt is = ap (λ y. y ∷ ns) (sym is)
next_of (n ∷ ns) (suc k) x lt is = next_of ns k x (omega arith) is

next_step : (names texts : List Text) (at : ℕ) (x : Text) (vars : Variables) → at < length names → x ≡ get_or names at x → assign_all (drop (at + 1) names) (drop (at + 1) texts) (assign_next x (drop at texts) vars) ≡ assign_all (drop at names) (drop at texts) vars
next_step names texts at x vars lt is =
    let e : at + 1 ≡ suc at = omega arith in
    ap (λ n. assign_all (drop n names) (drop (at + 1) texts) (assign_next x (drop at texts) vars)) e
    ∙ ap (λ ts. assign_all (drop (suc at) names) ts (assign_next x (drop at texts) vars)) (sym (rest_behind at texts))
    ∙ ap (λ ns. assign_all ns (drop at texts) vars) (sym (next_of names at x lt is))

pub kept : (names texts : List Text) (at : ℕ) (x y : Text) (ys : List Text) (vars vars' target : Variables) → at < length names → x ≡ get_or names at x → y ≡ x → ys ≡ drop at texts → vars' ≡ assign_next y ys vars → assign_all (drop at names) (drop at texts) vars ≡ target → assign_all (drop (at + 1) names) (drop (at + 1) texts) vars' ≡ target
kept names texts at x y ys vars vars' target lt is y_is ys_is made so_far =
    ap (assign_all (drop (at + 1) names) (drop (at + 1) texts)) (made ∙ ap (λ z. assign_next z ys vars) y_is ∙ ap (λ zs. assign_next x zs vars) ys_is)
    ∙ next_step names texts at x vars lt is ∙ so_far
