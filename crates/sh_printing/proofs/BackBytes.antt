-- Runs of bytes that are printed read back: bytes that stand for themselves, names, digits.
use Rattle.std.proofs.Common.{◌≡◌, ℕ, Bool, true, false, [], ◌∷◌, ◌++◌, refl, subst}
use Rattle.std.specs.Prelude.{◌||◌, ◌&&◌, not, ◌==◌}
use Rattle.std.specs.List.{list_all}
use Rattle.span_text.specs.Names.{begins_name, continues_name, is_digit, is_name}
use Rattle.span_text.proofs.Bytes.{apart, first_is_name}
use Rattle.sh_grammar.specs.Bytes.{Text, Context, in_word, in_double, in_body, in_brace, in_quoted_brace, in_body_brace, in_body_pattern, is_join, clear, is_blank, gap, starts, run_from, expands, is_bare_dollar, is_active, is_plain, is_bare_backslash, is_literal, literal_run, name_run, digit_run}
use Rattle.sh_printing.specs.Spellable.{is_literal_text, ends_with}

-- ---- tests

pub both : (a b : Bool) → (a && b) ≡ true → (a ≡ true) × (b ≡ true)
both true b e = (refl, e)
both false b e = absurd cc

pub three : (a b c : Bool) → (a && b && c) ≡ true → (a ≡ true) × (b ≡ true) × (c ≡ true)
three a b c e = let x = both (a && b) c e in let y = both a b x.0 in (y.0, y.1, x.1)

pub four : (a b c d : Bool) → (a && b && c && d) ≡ true → (a ≡ true) × (b ≡ true) × (c ≡ true) × (d ≡ true)
four a b c d e = let x = both (a && b && c) d e in let y = three a b c x.0 in (y.0, y.1, y.2, x.1)

pub five : (a b c d f : Bool) → (a && b && c && d && f) ≡ true → (a ≡ true) × (b ≡ true) × (c ≡ true) × (d ≡ true) × (f ≡ true)
five a b c d f e = let x = both (a && b && c && d) f e in let y = four a b c d x.0 in (y.0, y.1, y.2, y.3, x.1)

pub isnt : (a : Bool) → not a ≡ true → a ≡ false
isnt true e = absurd cc
isnt false e = refl

pub neither : (a b : Bool) → (a || b) ≡ false → (a ≡ false) × (b ≡ false)
neither true b e = absurd cc
neither false b e = (refl, e)

pub and_no : (a : Bool) → (a && false) ≡ false
and_no true = refl
and_no false = refl

-- ---- joins and gaps

-- the text begins with a join
abbrev pub joins : Text → Bool
joins [] = false
joins (b ∷ bs) = is_join b bs

pub no_join : (b : ℕ) (bs : Text) → (b == 92) ≡ false → is_join b bs ≡ false
no_join b [] e = refl
no_join b (c ∷ bs) e = rw e refl

pub clear_is : (t : Text) → joins t ≡ false → clear t ≡ t
unfolding clear
clear_is [] e = refl
clear_is (b ∷ bs) e = rw e refl

-- a byte before which no gap is
abbrev pub is_solid : ℕ → Bool
is_solid b = not (is_blank b || b == 92 || b == 35)

pub gap_is : (b : ℕ) (bs : Text) → is_solid b ≡ true → gap (b ∷ bs) ≡ b ∷ bs
unfolding gap
gap_is b bs e =
    let n = isnt (is_blank b || b == 92 || b == 35) e in
    let x = neither (is_blank b || b == 92) (b == 35) n in
    let y = neither (is_blank b) (b == 92) x.0 in
    rw (y.0, no_join b bs y.1, x.1) refl

-- a backslash that makes no join
pub gap_escape : (b : ℕ) (bs : Text) → (b == 10) ≡ false → gap (92 ∷ b ∷ bs) ≡ 92 ∷ b ∷ bs
unfolding gap
gap_escape b bs e = rw e refl

pub gap_blank : (bs : Text) → gap (32 ∷ bs) ≡ gap bs
unfolding gap
gap_blank bs = refl

-- ---- runs

abbrev pub goes_at : (ℕ → Text → Bool) → Text → Bool
goes_at goes [] = false
goes_at goes (b ∷ bs) = goes b bs

pub run_stops : (goes : ℕ → Text → Bool) (t : Text) → joins t ≡ false → goes_at goes t ≡ false → run_from goes false t ≡ ([], t)
run_stops goes [] e f = refl
run_stops goes (b ∷ bs) e f = rw (e, f) refl

-- a run of bytes by what each is
pub run_by : (p : ℕ → Bool) → p 92 ≡ false → (text t : Text) → list_all p text ≡ true → joins t ≡ false → starts p t ≡ false → run_from (λ b bs. p b) false (text ++ t) ≡ (text, t)
run_by p k [] [] a e f = refl
run_by p k [] (b ∷ bs) a e f = rw (e, f) refl
run_by p k (b ∷ text) t a e f =
    let x = both (p b) (list_all p text) a in
    rw (no_join b (text ++ t) (apart p b 92 x.0 k), x.0, run_by p k text t x.1 e f) refl

pub name_all : (name : Text) → is_name name ≡ true → list_all continues_name name ≡ true
name_all [] e = absurd cc
name_all (b ∷ bs) e = let x = both (begins_name b) (list_all continues_name bs) e in rw (first_is_name b x.0, x.1) refl

pub name_back : (name t : Text) → is_name name ≡ true → joins t ≡ false → starts continues_name t ≡ false → name_run (name ++ t) ≡ (name, t)
unfolding name_run continues_name
name_back name t n e f = run_by continues_name refl name t (name_all name n) e f

pub digits_back : (text t : Text) → list_all is_digit text ≡ true → joins t ≡ false → starts is_digit t ≡ false → digit_run (text ++ t) ≡ (text, t)
unfolding digit_run
digits_back text t a e f = run_by is_digit refl text t a e f

-- ---- bytes that stand for themselves

or_more : (a b x y c u v : Bool) → (a || (b && x) || (c && u)) ≡ true → (b ≡ true → x ≡ true → y ≡ true) → (c ≡ true → u ≡ true → v ≡ true) → (a || (b && y) || (c && v)) ≡ true
or_more true b x y c u v e h i = refl
or_more false true true y c u v e h i = rw (h refl refl) refl
or_more false true false true c u v e h i = refl
or_more false true false false true true v e h i = i refl refl
or_more false true false false true false v e h i = absurd cc
or_more false true false false false u v e h i = absurd cc
or_more false false x y true true v e h i = i refl refl
or_more false false x y true false v e h i = absurd cc
or_more false false x y false u v e h i = absurd cc

pub lone_backslash : (c : Context) → is_literal c 92 [] ≡ false
unfolding is_literal is_plain is_active
lone_backslash in_word = refl
lone_backslash in_double = refl
lone_backslash in_body = refl
lone_backslash in_brace = refl
lone_backslash in_quoted_brace = refl
lone_backslash in_body_brace = refl
lone_backslash in_body_pattern = refl

-- the first of bytes that stand for themselves makes no join, whatever follows them
pub literal_joins : (c : Context) (b : ℕ) (bs t : Text) → is_literal_text c (b ∷ bs) ≡ true → is_join b (bs ++ t) ≡ false
literal_joins c b [] t e =
    let x = both (not (is_join b []) && is_literal c b []) true e in
    no_join b t (apart (λ z. is_literal c z []) b 92 x.0 (lone_backslash c))
literal_joins c b (d ∷ bs) t e =
    let x = both (not (is_join b (d ∷ bs)) && is_literal c b (d ∷ bs)) (is_literal_text c (d ∷ bs)) e in
    isnt (is_join b (d ∷ bs)) (both (not (is_join b (d ∷ bs))) (is_literal c b (d ∷ bs)) x.0).0

-- what may stand behind bytes that stand for themselves
pub record Stops (c : Context) (text t : Text) : Type 0 where
  pub free : joins t ≡ false
  pub ends : goes_at (is_literal c) t ≡ false
  pub no_dollar : ends_with 36 text ≡ true → starts expands t ≡ false

bare_more : (c : Context) (bs t : Text) → is_literal_text c bs ≡ true → (bs ≡ [] → joins t ≡ false) → (bs ≡ [] → starts expands t ≡ false) → is_bare_dollar bs ≡ true → is_bare_dollar (bs ++ t) ≡ true
bare_more c [] t e j h d = let i = h refl in rw (clear_is t (j refl), i) refl
bare_more c (b ∷ bs) t e j h d =
    let x = both (not (is_join b bs) && is_literal c b bs) (is_literal_text c bs) e in
    let k = isnt (is_join b bs) (both (not (is_join b bs)) (is_literal c b bs) x.0).0 in
    let f : not (starts expands (b ∷ bs)) ≡ true = subst (λ (z : Text). not (starts expands z) ≡ true) (clear_is (b ∷ bs) k) d in
    rw (clear_is (b ∷ (bs ++ t)) (literal_joins c b bs t e)) f

backslash_more : (c : Context) (bs t : Text) → is_bare_backslash c bs ≡ true → is_bare_backslash c (bs ++ t) ≡ true
backslash_more c [] t e = absurd cc
backslash_more c (b ∷ bs) t e = e

dollar_last : (b : ℕ) (bs : Text) → (b == 36) ≡ true → bs ≡ [] → ends_with 36 (b ∷ bs) ≡ true
dollar_last b [] e is = e
dollar_last b (c ∷ bs) e is = absurd cc

dollar_later : (b : ℕ) (bs : Text) → ends_with 36 bs ≡ true → ends_with 36 (b ∷ bs) ≡ true
dollar_later b [] e = absurd cc
dollar_later b (c ∷ bs) e = e

pub literal_more : (c : Context) (b : ℕ) (bs t : Text) → is_literal c b bs ≡ true → is_literal_text c bs ≡ true → Stops c (b ∷ bs) t → is_literal c b (bs ++ t) ≡ true
unfolding is_literal
literal_more c b bs t e f s =
    or_more (is_plain c b) (b == 36) (is_bare_dollar bs) (is_bare_dollar (bs ++ t)) (b == 92) (is_bare_backslash c bs) (is_bare_backslash c (bs ++ t)) e
    (λ k d. bare_more c bs t f (λ is. s.free) (λ is. s.no_dollar (dollar_last b bs k is)) d)
    (λ k d. backslash_more c bs t d)

pub literal_back : (c : Context) (text t : Text) → is_literal_text c text ≡ true → Stops c text t → literal_run c (text ++ t) ≡ (text, t)
unfolding literal_run
literal_back c [] t e s = run_stops (is_literal c) t s.free s.ends
literal_back c (b ∷ bs) t e s =
    let x = both (not (is_join b bs) && is_literal c b bs) (is_literal_text c bs) e in
    let y = both (not (is_join b bs)) (is_literal c b bs) x.0 in
    let more : Stops c bs t = record { free = s.free; ends = s.ends; no_dollar = λ k. s.no_dollar (dollar_later b bs k) } in
    rw (literal_joins c b bs t e, literal_more c b bs t y.1 x.1 s, literal_back c bs t x.1 more) refl
