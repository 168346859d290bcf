-- Delimiters that are printed read back.
use Rattle.std.proofs.Common.{◌≡◌, ℕ, zero, suc, ◌+◌, ◌-◌, ◌^◌, ◌%◌, ◌<◌, ◌≤◌, Bool, true, false, [], ◌∷◌, ◌++◌, Some, refl, ap, append_assoc, arith}
use Rattle.std.specs.Prelude.{◌||◌, ◌&&◌, ◌==◌, cond}
use Rattle.std.specs.List.{list_all}
use Rattle.std.specs.Fmt.{decimal}
use Rattle.std.proofs.lemmas.Bool.{le-leb}
use Rattle.std.proofs.lemmas.Fmt.{decimal_by_steps}
use Rattle.span_text.specs.Names.{is_digit}
use Rattle.span_text.proofs.Bytes.{apart}
use Rattle.sh_grammar.specs.Bytes.{Text, is_join, in_word, is_plain, is_meta, is_active, has_single, has_double, unit_starts, begins_unit}
use Rattle.sh_grammar.specs.Bodies.{delimiter_from, delimiter_at, delimiter_for, bare, single}
use Rattle.sh_printing.specs.Delimiters.{has_line, numbered, free_from, tries, delimiter}
use Rattle.sh_printing.proofs.BackBytes.{both, neither, no_join}
use Rattle.sh_printing.proofs.BackHere.{is_mark}
use Rattle.sh_printing.proofs.BackTokens.{Outside}

-- a byte of a printed delimiter
abbrev pub is_delimiter_byte : ℕ → Bool
is_delimiter_byte b = b == 69 || is_digit b

pub all_append : (p : ℕ → Bool) (xs ys : Text) → list_all p xs ≡ true → list_all p ys ≡ true → list_all p (xs ++ ys) ≡ true
all_append p [] ys e f = f
all_append p (x ∷ xs) ys e f = let y = both (p x) (list_all p xs) e in rw (y.0, all_append p xs ys y.1 f) refl

pub digit_at : (m : ℕ) → m < 10 → is_digit (48 + m) ≡ true
digit_at m lt = rw (le-leb 48 (48 + m) (omega arith), le-leb (48 + m) 57 (omega arith)) refl

digits_more : (m : ℕ) (ds : Text) → list_all is_digit ds ≡ true → list_all is_digit (ds ++ ((48 + m % 10) ∷ [])) ≡ true
digits_more m ds e = all_append is_digit ds ((48 + m % 10) ∷ []) e (rw (digit_at (m % 10) (omega arith)) refl)

pub digits_all : (n : ℕ) → n < 2 ^ 64 → list_all is_digit (decimal n) ≡ true
digits_all = decimal_by_steps (λ m ds. list_all is_digit ds ≡ true) (λ m lt. rw (digit_at m lt) refl) (λ m ds le h. digits_more m ds h)

pub all_by : (p q : ℕ → Bool) → ((b : ℕ) → p b ≡ true → q b ≡ true) → (t : Text) → list_all p t ≡ true → list_all q t ≡ true
all_by p q h [] e = refl
all_by p q h (b ∷ bs) e = let y = both (p b) (list_all p bs) e in rw (h b y.0, all_by p q h bs y.1) refl

digit_is_at : (p q : Bool) → q ≡ true → (p || q) ≡ true
digit_is_at true q e = refl
digit_is_at false q e = e

pub digit_is : (b : ℕ) → is_digit b ≡ true → is_delimiter_byte b ≡ true
digit_is b e = digit_is_at (b == 69) (is_digit b) e

free_step : (k n : ℕ) (t : Text) (p : Bool) → free_from k (n + 1) t ≤ n + 1 + k → cond p (free_from k (n + 1) t) n ≤ n + suc k
free_step k n t true le = omega arith
free_step k n t false le = omega arith

free_most : (k n : ℕ) (t : Text) → free_from k n t ≤ n + k
unfolding free_from
free_most zero n t = omega arith
free_most (suc k) n t = free_step k n t (has_line (numbered n) t) (free_most k (n + 1) t)

-- the bytes of a delimiter
pub delimiter_bytes : (body : Text) → list_all is_delimiter_byte (delimiter body) ≡ true
unfolding delimiter
delimiter_bytes body =
    let le = free_most tries 0 body in
    let lt : free_from tries 0 body < 2 ^ 64 = omega arith in
    all_by is_digit is_delimiter_byte digit_is (decimal (free_from tries 0 body)) (digits_all (free_from tries 0 body) lt)

mark_is : (b : ℕ) → is_delimiter_byte b ≡ true → is_mark b ≡ true
mark_is b e = rw (apart is_delimiter_byte b 10 e refl, apart is_delimiter_byte b 92 e refl) refl

pub delimiter_marks : (body : Text) → list_all is_mark (delimiter body) ≡ true
delimiter_marks body = all_by is_delimiter_byte is_mark mark_is (delimiter body) (delimiter_bytes body)

-- ---- reading one

and_quote : (a : Bool) → (a && has_single in_word) ≡ false → a ≡ false
unfolding has_single
and_quote true e = e
and_quote false e = refl

and_double : (a : Bool) → (a && has_double in_word) ≡ false → a ≡ false
unfolding has_double
and_double true e = e
and_double false e = refl

plain_by : (p q : Bool) (b : ℕ) → (b == 69) ≡ p → is_digit b ≡ q → (p || q) ≡ true → is_plain in_word b ≡ true
unfolding is_plain is_active is_meta
plain_by true q b e f h = rw (Rattle.std.proofs.Common.eqb-true b 69 e) refl
plain_by false true b e f h =
    rw (
      apart is_digit b 36 f refl,
      apart is_digit b 96 f refl,
      apart is_digit b 92 f refl,
      apart is_digit b 0 f refl,
      apart is_digit b 32 f refl,
      apart is_digit b 9 f refl,
      apart is_digit b 10 f refl,
      apart is_digit b 59 f refl,
      apart is_digit b 38 f refl,
      apart is_digit b 124 f refl,
      apart is_digit b 40 f refl,
      apart is_digit b 41 f refl,
      apart is_digit b 60 f refl,
      apart is_digit b 62 f refl,
      apart is_digit b 39 f refl,
      apart is_digit b 34 f refl,
    ) refl
plain_by false false b e f h = absurd cc

pub plain_delimiter : (b : ℕ) → is_delimiter_byte b ≡ true → is_plain in_word b ≡ true
plain_delimiter b e = plain_by (b == 69) (is_digit b) b refl refl e

stop_at : (b : ℕ) (bs : Text) → begins_unit in_word b ≡ false → is_join b bs ≡ false → delimiter_from bare (b ∷ bs) ≡ Some (([], false), b ∷ bs)
unfolding delimiter_from begins_unit
stop_at b bs e j =
    let u = neither (is_plain in_word b || b == 36 || b == 92 || (b == 39 && has_single in_word)) (b == 34 && has_double in_word) e in
    let v = neither (is_plain in_word b || b == 36 || b == 92) (b == 39 && has_single in_word) u.0 in
    let w = neither (is_plain in_word b || b == 36) (b == 92) v.0 in
    let x = neither (is_plain in_word b) (b == 36) w.0 in
    rw (j, and_quote (b == 39) v.1, and_double (b == 34) u.1, w.1, x.1, x.0) refl

bare_end : (t : Text) → Outside t → delimiter_from bare t ≡ Some (([], false), t)
unfolding delimiter_from unit_starts
bare_end [] o = refl
bare_end (b ∷ bs) o = stop_at b bs o.no_unit o.free

bare_back : (name t : Text) → list_all is_delimiter_byte name ≡ true → Outside t → delimiter_from bare (name ++ t) ≡ Some ((name, false), t)
unfolding delimiter_from
bare_back [] t e o = bare_end t o
bare_back (b ∷ bs) t e o =
    let x = both (is_delimiter_byte b) (list_all is_delimiter_byte bs) e in
    let n92 = apart is_delimiter_byte b 92 x.0 refl in
    rw (no_join b (bs ++ t) n92, apart is_delimiter_byte b 39 x.0 refl, apart is_delimiter_byte b 34 x.0 refl, n92, apart is_delimiter_byte b 36 x.0 refl, plain_delimiter b x.0, bare_back bs t x.1 o) refl

single_back : (name t : Text) → list_all is_delimiter_byte name ≡ true → Outside t → delimiter_from single (name ++ 39 ∷ t) ≡ Some ((name, false), t)
unfolding delimiter_from
single_back [] t e o = bare_end t o
single_back (b ∷ bs) t e o =
    let x = both (is_delimiter_byte b) (list_all is_delimiter_byte bs) e in
    rw (apart is_delimiter_byte b 39 x.0 refl, apart is_delimiter_byte b 10 x.0 refl, apart is_delimiter_byte b 0 x.0 refl, single_back bs t x.1 o) refl

quotes_back : (name t : Text) → list_all is_delimiter_byte name ≡ true → Outside t → delimiter_from bare (39 ∷ (name ++ 39 ∷ t)) ≡ Some ((name, true), t)
unfolding delimiter_from
quotes_back name t e o = rw (no_join 39 (name ++ 39 ∷ t) refl, single_back name t e o) refl

-- a delimiter as it is printed, quoted or not
abbrev pub delimiter_word : (literal : Bool) → Text → Text
delimiter_word true name = 39 ∷ (name ++ 39 ∷ [])
delimiter_word false name = name

pub delimiter_back : (literal : Bool) (name t : Text) → list_all is_delimiter_byte name ≡ true → unit_starts in_word (delimiter_word literal name ++ t) ≡ true → Outside t → delimiter_for false (delimiter_word literal name ++ t) ≡ Some ((name, literal), t)
unfolding delimiter_for delimiter_at
delimiter_back true name t e u o =
    let a : delimiter_word true name ++ t ≡ 39 ∷ (name ++ 39 ∷ t) = ap (λ (z : Text). 39 ∷ z) (append_assoc name (39 ∷ []) t) in
    rw (u, a, quotes_back name t e o) refl
delimiter_back false name t e u o = rw (u, bare_back name t e o) refl
