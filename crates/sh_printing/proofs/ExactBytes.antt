-- What a run of bytes that stand for themselves is, when it was read.
use Rattle.std.proofs.Common.{◌≡◌, ℕ, Bool, true, false, cond, [], ◌∷◌, refl, sym, subst, ◌∙◌, eqb-true}
use Rattle.std.specs.Prelude.{◌||◌, ◌&&◌, not, ◌==◌}
use Rattle.span_text.proofs.Bytes.{apart}
use Rattle.sh_grammar.specs.Bytes.{Text, Context, in_word, in_double, in_body, in_brace, in_quoted_brace, in_body_brace, in_body_pattern, is_join, clear_from, clear, starts, with_byte, run_from, expands, is_bare_dollar, is_active, is_plain, is_escaped, has_single, has_double, is_bare_backslash, is_literal, literal_run, begins_unit, unit_starts}
use Rattle.sh_grammar.proofs.Tools.{chosen_by}
use Rattle.sh_printing.specs.Spellable.{is_literal_text, ends_with}
use Rattle.sh_printing.proofs.BackBytes.{isnt, neither, joins, no_join, clear_is, goes_at}

-- ---- joins

pub clear_from_free : (q : Bool) (t : Text) → joins (clear_from q t) ≡ false
clear_from_free true [] = refl
clear_from_free false [] = refl
clear_from_free true (b ∷ bs) = clear_from_free false bs
clear_from_free false (b ∷ bs) =
    chosen_by (λ (z : Text). joins z ≡ false) (is_join b bs) (clear_from true bs) (b ∷ bs) (λ e. clear_from_free true bs) (λ e. e)

-- behind joins none begins
pub clear_free : (t : Text) → joins (clear t) ≡ false
unfolding clear
clear_free t = clear_from_free false t

pub clear_twice : (t : Text) → clear (clear t) ≡ clear t
clear_twice t = clear_is (clear t) (clear_free t)

-- ---- what a backslash may not stand before

-- A byte before which a backslash stands for itself, and that doesn't stand for itself: no part begins with it.
abbrev pub is_stuck : Context → ℕ → Bool
is_stuck c b = not (is_escaped c b || b == 0 || is_plain c b)

not_both : (a b : Bool) → not (not a || a || b) ≡ false
not_both true b = refl
not_both false b = refl

none_of : (a b c : Bool) → not (a || b || c) ≡ true → (a ≡ false) × (b ≡ false) × (c ≡ false)
none_of a b c e = let x = neither (a || b) c (isnt (a || b || c) e) in let y = neither a b x.0 in (y.0, y.1, x.1)

any_quote : (p : Bool) (a b c d : Bool) → p ≡ false → a ≡ false → b ≡ false → ((p || a || b) || (c && false)) || (d && false) ≡ false
any_quote p a b true true e f g = rw (e, f, g) refl
any_quote p a b true false e f g = rw (e, f, g) refl
any_quote p a b false true e f g = rw (e, f, g) refl
any_quote p a b false false e f g = rw (e, f, g) refl

no_quote : (c : Bool) → (c && false) || false ≡ false
no_quote true = refl
no_quote false = refl

stuck_byte : (c : Context) (b : ℕ) → is_stuck c b ≡ true → begins_unit c b ≡ false
unfolding is_escaped begins_unit has_single has_double
stuck_byte in_word b e = absurd (Rattle.std.proofs.lemmas.Bool.false≢true (sym (not_both (b == 0) (is_plain in_word b)) ∙ e))
stuck_byte in_brace b e = absurd (Rattle.std.proofs.lemmas.Bool.false≢true (sym (not_both (b == 0) (is_plain in_brace b)) ∙ e))
stuck_byte in_body_pattern b e = absurd (Rattle.std.proofs.lemmas.Bool.false≢true (sym (not_both (b == 0) (is_plain in_body_pattern b)) ∙ e))
stuck_byte in_double b e =
    let n = none_of (is_escaped in_double b) (b == 0) (is_plain in_double b) e in
    let f = λ (z : ℕ). not (is_escaped in_double z) in
    let k : f b ≡ true = rw n.0 refl in
    any_quote (is_plain in_double b) (b == 36) (b == 92) (b == 39) (b == 34) n.2 (apart f b 36 k refl) (apart f b 92 k refl)
stuck_byte in_body b e =
    let n = none_of (is_escaped in_body b) (b == 0) (is_plain in_body b) e in
    let f = λ (z : ℕ). not (is_escaped in_body z) in
    let k : f b ≡ true = rw n.0 refl in
    any_quote (is_plain in_body b) (b == 36) (b == 92) (b == 39) (b == 34) n.2 (apart f b 36 k refl) (apart f b 92 k refl)
stuck_byte in_body_brace b e =
    let n = none_of (is_escaped in_body_brace b) (b == 0) (is_plain in_body_brace b) e in
    let f = λ (z : ℕ). not (is_escaped in_body_brace z) in
    let k : f b ≡ true = rw n.0 refl in
    any_quote (is_plain in_body_brace b) (b == 36) (b == 92) (b == 39) (b == 34) n.2 (apart f b 36 k refl) (apart f b 92 k refl)
stuck_byte in_quoted_brace b e =
    let n = none_of (is_escaped in_quoted_brace b) (b == 0) (is_plain in_quoted_brace b) e in
    let f = λ (z : ℕ). not (is_escaped in_quoted_brace z) in
    let k : f b ≡ true = rw n.0 refl in
    rw (n.2, apart f b 36 k refl, apart f b 92 k refl, apart f b 34 k refl) (no_quote (b == 39))

apart_stuck : (c : Context) (b : ℕ) (p : Bool) → is_stuck c b ≡ p → begins_unit c b ≡ true → p ≡ false
apart_stuck c b true e u = absurd (Rattle.std.proofs.lemmas.Bool.false≢true (sym (stuck_byte c b e) ∙ u))
apart_stuck c b false e u = refl

-- no part begins with a byte like that
pub unit_stuck : (c : Context) (t : Text) → unit_starts c t ≡ true → starts (is_stuck c) t ≡ false
unfolding unit_starts
unit_stuck c [] e = refl
unit_stuck c (b ∷ bs) e = apart_stuck c b (is_stuck c b) refl e

-- ---- runs

pub escapes_backslash : (c : Context) → is_escaped c 92 ≡ true
unfolding is_escaped
escapes_backslash in_word = refl
escapes_backslash in_double = refl
escapes_backslash in_body = refl
escapes_backslash in_brace = refl
escapes_backslash in_quoted_brace = refl
escapes_backslash in_body_brace = refl
escapes_backslash in_body_pattern = refl

pub backslash_bare : (c : Context) (bs : Text) → is_literal c 92 bs ≡ true → is_bare_backslash c bs ≡ true
unfolding is_literal is_plain is_active
backslash_bare in_word bs e = e
backslash_bare in_double bs e = e
backslash_bare in_body bs e = e
backslash_bare in_brace bs e = e
backslash_bare in_quoted_brace bs e = e
backslash_bare in_body_brace bs e = e
backslash_bare in_body_pattern bs e = e

-- a backslash that stands for itself stands before no join
pub bare_free : (c : Context) (bs : Text) → is_bare_backslash c bs ≡ true → joins bs ≡ false
bare_free c [] e = refl
bare_free c (y ∷ ys) e =
    let n = neither (is_escaped c y) (y == 0) (isnt (is_escaped c y || y == 0) e) in
    let k : not (is_escaped c y) ≡ true = rw n.0 refl in
    no_join y ys (apart (λ z. not (is_escaped c z)) y 92 k (rw (escapes_backslash c) refl))

-- the run is nothing, or begins with the first byte behind the joins
abbrev pub Front : Context → Text → Text → Text → Type 0
Front c cleared [] rest = rest ≡ cleared
Front c cleared (b ∷ bs) rest = (starts (λ z. z == b) cleared ≡ true) × (goes_at (is_literal c) cleared ≡ true)

-- what a run of bytes that stand for themselves is
pub record Ran (c : Context) (cleared text rest : Text) : Type 0 where
  pub front : Front c cleared text rest
  pub free : joins text ≡ false
  pub rest_free : joins rest ≡ false
  pub rest_ends : goes_at (is_literal c) rest ≡ false
  pub literal : starts (is_stuck c) rest ≡ false → is_literal_text c text ≡ true
  pub dollar : ends_with 36 text ≡ true → starts expands rest ≡ false

-- no join stands between a byte of the run and the next one of it
next_byte : (b x : ℕ) (bs : Text) → (b == 92) ≡ true → is_join b bs ≡ false → starts (λ z. z == x) bs ≡ true → (x == 10) ≡ false
next_byte b x [] q j e = absurd cc
next_byte b x (y ∷ ys) q j e =
    let same : y ≡ x = eqb-true y x e in
    let k : (b == 92 && y == 10) ≡ false = j in
    subst (λ (z : ℕ). (z == 10) ≡ false) same (subst (λ (z : Bool). (z && (y == 10)) ≡ false) q k)

no_inner_join : (c : Context) (b : ℕ) (bs text rest : Text) (p : Bool) → (b == 92) ≡ p → is_join b bs ≡ false → is_literal c b bs ≡ true → Front c (clear bs) text rest → is_join b text ≡ false
no_inner_join c b bs [] rest p q j g f = refl
no_inner_join c b bs (x ∷ xs) rest false q j g f = no_join b (x ∷ xs) q
no_inner_join c b bs (x ∷ xs) rest true q j g f =
    let e : b ≡ 92 = eqb-true b 92 q in
    let bare = backslash_bare c bs (subst (λ (z : ℕ). is_literal c z bs ≡ true) e g) in
    let same : clear bs ≡ bs = clear_is bs (bare_free c bs bare) in
    let first : starts (λ z. z == x) bs ≡ true = subst (λ (z : Text). starts (λ y. y == x) z ≡ true) same f.0 in
    rw q (next_byte b x bs q j first)

same_front : (x : ℕ) (t : Text) → not (starts expands t) ≡ true → starts (λ z. z == x) t ≡ true → not (expands x) ≡ true
same_front x [] e f = absurd cc
same_front x (y ∷ ys) e f = subst (λ (z : ℕ). not (expands z) ≡ true) (eqb-true y x f) e

stuck_front : (c : Context) (bs : Text) → is_bare_backslash c bs ≡ true → goes_at (is_literal c) bs ≡ false → starts (is_stuck c) bs ≡ true
unfolding is_literal
stuck_front c [] e g = absurd cc
stuck_front c (y ∷ ys) e g =
    let n = neither (is_escaped c y) (y == 0) (isnt (is_escaped c y || y == 0) e) in
    let p = neither (is_plain c y) ((y == 36 && is_bare_dollar ys)) (neither (is_plain c y || (y == 36 && is_bare_dollar ys)) (y == 92 && is_bare_backslash c ys) g).0 in
    rw (n.0, n.1, p.0) refl

backslash_first : (c : Context) (x : ℕ) (bs : Text) → is_bare_backslash c bs ≡ true → starts (λ y. y == x) bs ≡ true → not (is_escaped c x || x == 0) ≡ true
backslash_first c x [] e f = absurd cc
backslash_first c x (y ∷ ys) e f = subst (λ (z : ℕ). not (is_escaped c z || z == 0) ≡ true) (eqb-true y x f) e

any_or : (y : Bool) → (y || true) ≡ true
any_or true = refl
any_or false = refl

left_or : (a : Bool) → (a || false) ≡ true → a ≡ true
left_or true e = refl
left_or false e = e

dollar_bare : (c : Context) (bs : Text) → is_literal c 36 bs ≡ true → is_bare_dollar bs ≡ true
unfolding is_literal is_plain is_active
dollar_bare in_word bs e = left_or (is_bare_dollar bs) e
dollar_bare in_double bs e = left_or (is_bare_dollar bs) e
dollar_bare in_body bs e = left_or (is_bare_dollar bs) e
dollar_bare in_brace bs e = left_or (is_bare_dollar bs) e
dollar_bare in_quoted_brace bs e = left_or (is_bare_dollar bs) e
dollar_bare in_body_brace bs e = left_or (is_bare_dollar bs) e
dollar_bare in_body_pattern bs e = left_or (is_bare_dollar bs) e

-- a `$` that stands for itself, by what stands behind it in the run
bare_in : (c : Context) (bs text rest : Text) → Ran c (clear bs) text rest → is_bare_dollar bs ≡ true → is_bare_dollar text ≡ true
unfolding clear
bare_in c bs [] rest r e = refl
bare_in c bs (x ∷ xs) rest r e = rw (clear_is (x ∷ xs) r.free) (same_front x (clear bs) e r.front.0)

backslash_in : (c : Context) (bs text rest : Text) → Ran c (clear bs) text rest → is_bare_backslash c bs ≡ true → starts (is_stuck c) rest ≡ false → goes_at (is_literal c) rest ≡ false → is_bare_backslash c text ≡ true
backslash_in c bs [] rest r e s g =
    let same : rest ≡ bs = r.front ∙ clear_is bs (bare_free c bs e) in
    absurd (Rattle.std.proofs.lemmas.Bool.false≢true (sym s ∙ subst (λ (z : Text). starts (is_stuck c) z ≡ true) (sym same) (stuck_front c bs e (subst (λ (z : Text). goes_at (is_literal c) z ≡ false) same g))))
backslash_in c bs (x ∷ xs) rest r e s g =
    let same : clear bs ≡ bs = clear_is bs (bare_free c bs e) in
    backslash_first c x bs e (subst (λ (z : Text). starts (λ y. y == x) z ≡ true) same r.front.0)

or_in : (a b x y c u v : Bool) → (a || (b && x) || (c && u)) ≡ true → (x ≡ true → y ≡ true) → (u ≡ true → v ≡ true) → (a || (b && y) || (c && v)) ≡ true
or_in true b x y c u v e h i = refl
or_in false true true y c u v e h i = rw (h refl) refl
or_in false true false y true true v e h i = rw (i refl) (any_or y)
or_in false true false y true false v e h i = absurd cc
or_in false true false y false u v e h i = absurd cc
or_in false false x y true true v e h i = i refl
or_in false false x y true false v e h i = absurd cc
or_in false false x y false u v e h i = absurd cc

literal_in : (c : Context) (b : ℕ) (bs text rest : Text) → Ran c (clear bs) text rest → is_literal c b bs ≡ true → starts (is_stuck c) rest ≡ false → is_literal c b text ≡ true
unfolding is_literal
literal_in c b bs text rest r g s =
    or_in (is_plain c b) (b == 36) (is_bare_dollar bs) (is_bare_dollar text) (b == 92) (is_bare_backslash c bs) (is_bare_backslash c text) g
    (λ e. bare_in c bs text rest r e) (λ e. backslash_in c bs text rest r e s r.rest_ends)

last_dollar : (c : Context) (b : ℕ) (bs text rest : Text) → Ran c (clear bs) text rest → is_literal c b bs ≡ true → ends_with 36 (b ∷ text) ≡ true → starts expands rest ≡ false
last_dollar c b bs [] rest r g e =
    let d = dollar_bare c bs (subst (λ (z : ℕ). is_literal c z bs ≡ true) (eqb-true b 36 e) g) in
    subst (λ (z : Text). starts expands z ≡ false) (sym r.front) (isnt (starts expands (clear bs)) d)
last_dollar c b bs (x ∷ xs) rest r g e = r.dollar e

-- a byte before a run
longer : (c : Context) (b : ℕ) (bs text rest : Text) → is_join b bs ≡ false → is_literal c b bs ≡ true → Ran c (clear bs) text rest → Ran c (b ∷ bs) (b ∷ text) rest
longer c b bs text rest j g r =
    let f = no_inner_join c b bs text rest (b == 92) refl j g r.front in
    record {
      front = (Rattle.std.proofs.lemmas.Bool.eq-eqb b b refl, g);
      free = f;
      rest_free = r.rest_free;
      rest_ends = r.rest_ends;
      literal = λ s. rw (f, literal_in c b bs text rest r g s, r.literal s) refl;
      dollar = λ e. last_dollar c b bs text rest r g e;
    }

-- no byte more
stopped : (c : Context) (b : ℕ) (bs : Text) → is_join b bs ≡ false → is_literal c b bs ≡ false → Ran c (b ∷ bs) [] (b ∷ bs)
stopped c b bs j g = record { front = refl; free = refl; rest_free = j; rest_ends = g; literal = λ s. refl; dollar = λ e. absurd cc }

nothing_ran : (c : Context) → Ran c [] [] []
nothing_ran c = record { front = refl; free = refl; rest_free = refl; rest_ends = refl; literal = λ s. refl; dollar = λ e. absurd cc }

abbrev RanFrom : Context → Text → Text × Text → Type 0
RanFrom c cleared x = Ran c cleared x.0 x.1

run_byte : (c : Context) (b : ℕ) (bs : Text) (p g : Bool) → is_join b bs ≡ p → is_literal c b bs ≡ g →
    RanFrom c (clear_from true bs) (run_from (is_literal c) true bs) → RanFrom c (clear bs) (run_from (is_literal c) false bs) →
    RanFrom c (cond p (clear_from true bs) (b ∷ bs)) (cond p (run_from (is_literal c) true bs) (cond g (with_byte b (run_from (is_literal c) false bs)) ([], b ∷ bs)))
run_byte c b bs true g j l h i = h
run_byte c b bs false true j l h i = longer c b bs (run_from (is_literal c) false bs).0 (run_from (is_literal c) false bs).1 j l i
run_byte c b bs false false j l h i = stopped c b bs j l

run_is : (c : Context) (q : Bool) (t : Text) → RanFrom c (clear_from q t) (run_from (is_literal c) q t)
unfolding clear
run_is c true [] = nothing_ran c
run_is c false [] = nothing_ran c
run_is c true (b ∷ bs) = run_is c false bs
run_is c false (b ∷ bs) = run_byte c b bs (is_join b bs) (is_literal c b bs) refl refl (run_is c true bs) (run_is c false bs)

-- what was read of bytes that stand for themselves
pub literal_ran : (c : Context) (t : Text) → RanFrom c (clear t) (literal_run c t)
unfolding clear literal_run
literal_ran c t = run_is c false t
