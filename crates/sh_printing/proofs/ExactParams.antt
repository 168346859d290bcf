-- What names, digits, parameters and their operators are, when they were read.
use Rattle.std.proofs.Common.{◌≡◌, ℕ, Bool, true, false, cond, [], ◌∷◌, Option, Some, None, refl, sym, subst, ◌∙◌, eqb-true}
use Rattle.std.specs.Prelude.{◌||◌, ◌&&◌, not, ◌==◌, nat_lt}
use Rattle.std.specs.List.{list_all}
use Rattle.std.proofs.lemmas.Bool.{false≢true}
use Rattle.span_text.specs.Names.{begins_name, continues_name, is_digit, is_name}
use Rattle.span_text.proofs.Bytes.{apart, first_is_name}
use Rattle.sh_grammar.specs.Shape.{Param, named, digits, count, status, at, star, as_is, length_of, fill, trim, FillTest, default, assigning, alternate}
use Rattle.sh_grammar.specs.Bytes.{Text, is_join, clear, starts, with_byte, run_from, name_run, digit_run}
use Rattle.sh_grammar.specs.Expansions.{◌>>=◌, Head, closed, filling, trimming, special, param_at, long_param_at, fill_test, fills, trims, operator_at, is_close, tail, length_head, or_else, is_dash, hash_head, is_hash, head_at, behind, behind_two, dollar_param, dollar_head}
use Rattle.sh_grammar.proofs.Tools.{If, then, chosen_by}
use Rattle.sh_grammar.specs.Steps.{limit}
use Rattle.sh_printing.specs.Spellable.{is_digits, param_fits, is_long, bare_fits, is_count}
use Rattle.sh_printing.proofs.BackBytes.{neither, joins, no_join, clear_is}
use Rattle.sh_printing.proofs.ExactBytes.{clear_free}

-- ---- runs of bytes by what each is

pub record Each (p : ℕ → Bool) (text rest : Text) : Type 0 where
  pub all : list_all p text ≡ true
  pub free : joins rest ≡ false
  pub stops : starts p rest ≡ false

abbrev pub EachIn : (ℕ → Bool) → Text × Text → Type 0
EachIn p x = Each p x.0 x.1

each_byte : (p : ℕ → Bool) (b : ℕ) (bs : Text) (x : Text × Text) (g : Bool) → is_join b bs ≡ false → p b ≡ g → EachIn p x → EachIn p (cond g (with_byte b x) ([], b ∷ bs))
each_byte p b bs x true j e h = record { all = rw (e, h.all) refl; free = h.free; stops = h.stops }
each_byte p b bs x false j e h = record { all = refl; free = j; stops = e }

pub run_each : (p : ℕ → Bool) (q : Bool) (t : Text) → EachIn p (run_from (λ b bs. p b) q t)
run_each p true [] = record { all = refl; free = refl; stops = refl }
run_each p false [] = record { all = refl; free = refl; stops = refl }
run_each p true (b ∷ bs) = run_each p false bs
run_each p false (b ∷ bs) =
    chosen_by (EachIn p) (is_join b bs) (run_from (λ b bs. p b) true bs) (cond (p b) (with_byte b (run_from (λ b bs. p b) false bs)) ([], b ∷ bs))
    (λ e. run_each p true bs) (λ e. each_byte p b bs (run_from (λ b bs. p b) false bs) (p b) e refl (run_each p false bs))

-- ---- names

pub record NameRead (bytes name rest : Text) : Type 0 where
  pub is : is_name name ≡ true
  pub free : joins rest ≡ false
  pub stops : starts continues_name rest ≡ false

abbrev pub NameIn : Text → Text × Text → Type 0
NameIn bytes x = NameRead bytes x.0 x.1

no_backslash : (b : ℕ) → begins_name b ≡ true → (b == 92) ≡ false
unfolding begins_name
no_backslash b e = apart (λ z. Rattle.span_text.specs.Names.is_letter z) b 92 e refl

begun : (b : ℕ) (bs : Text) → begins_name b ≡ true → run_from (λ z zs. continues_name z) false (b ∷ bs) ≡ with_byte b (run_from (λ z zs. continues_name z) false bs)
begun b bs e = rw (no_join b bs (no_backslash b e), first_is_name b e) refl

pub name_of : (b : ℕ) (bs : Text) → begins_name b ≡ true → NameIn (b ∷ bs) (name_run (b ∷ bs))
unfolding name_run
name_of b bs e =
    let r = run_each continues_name false bs in
    subst (NameIn (b ∷ bs)) (sym (begun b bs e)) (record { is = rw (e, r.all) refl; free = r.free; stops = r.stops })

digit_backslash : (b : ℕ) → is_digit b ≡ true → (b == 92) ≡ false
digit_backslash b e = apart (λ z. is_digit z) b 92 e refl

digits_begun : (b : ℕ) (bs : Text) → is_digit b ≡ true → run_from (λ z zs. is_digit z) false (b ∷ bs) ≡ with_byte b (run_from (λ z zs. is_digit z) false bs)
digits_begun b bs e = rw (no_join b bs (digit_backslash b e), e) refl

pub digits_of : (b : ℕ) (bs : Text) → is_digit b ≡ true → is_digits (digit_run (b ∷ bs)).0 ≡ true
unfolding digit_run
digits_of b bs e =
    let r = run_each (λ z. is_digit z) false bs in
    subst (λ (x : Text × Text). is_digits x.0 ≡ true) (sym (digits_begun b bs e)) (rw (e, r.all) refl)

-- ---- parameters

-- it may stand without braces where no name goes on behind it
abbrev pub IsBare : Param → Text → Type 0
IsBare p rest = (d : ℕ) (more : Bool) → (more ≡ true → starts continues_name (clear rest) ≡ true) → bare_fits d more p ≡ true

bare_name : (name rest : Text) → NameRead [] name rest → IsBare (named name) rest
bare_name name rest r d false h = rw r.is refl
bare_name name rest r d true h = absurd (false≢true (sym r.stops ∙ subst (λ (z : Text). starts continues_name z ≡ true) (clear_is rest r.free) (h refl)))

abbrev BareIn : Param × Text → Type 0
BareIn x = IsBare x.0 x.1

special_bare : (b : ℕ) (bs : Text) → If BareIn (special b bs)
special_bare b bs =
    chosen_by (If BareIn) (b == 35) _ _ (λ e d more h. refl)
    (λ e. chosen_by (If BareIn) (b == 63) _ _ (λ e d more h. refl)
    (λ e. chosen_by (If BareIn) (b == 64) _ _ (λ e d more h. refl)
    (λ e. chosen_by (If BareIn) (b == 42) _ _ (λ e d more h. refl) (λ e. tt))))

pub param_bare : (bytes : Text) → If BareIn (param_at bytes)
unfolding param_at
param_bare [] = tt
param_bare (b ∷ bs) =
    chosen_by (If BareIn) (begins_name b) _ _
    (λ e. let r = name_of b bs e in bare_name (name_run (b ∷ bs)).0 (name_run (b ∷ bs)).1 (record { is = r.is; free = r.free; stops = r.stops }))
    (λ e. chosen_by (If BareIn) (is_digit b) _ _ (λ i d more h. rw i refl) (λ i. special_bare b bs))

-- between braces; `$#` only where a `#` is
pub record Long (bytes : Text) (p : Param) : Type 0 where
  pub fits : param_fits p ≡ true
  pub counts : is_hash bytes ≡ false → is_count p ≡ false

abbrev LongIn : Text → Param × Text → Type 0
LongIn bytes x = Long bytes x.0

special_long : (b : ℕ) (bs : Text) → If (LongIn (b ∷ bs)) (special b bs)
special_long b bs =
    chosen_by (If (LongIn (b ∷ bs))) (b == 35) _ _ (λ e. record { fits = refl; counts = λ h. absurd (false≢true (sym h ∙ e)) })
    (λ e. chosen_by (If (LongIn (b ∷ bs))) (b == 63) _ _ (λ e. record { fits = refl; counts = λ h. refl })
    (λ e. chosen_by (If (LongIn (b ∷ bs))) (b == 64) _ _ (λ e. record { fits = refl; counts = λ h. refl })
    (λ e. chosen_by (If (LongIn (b ∷ bs))) (b == 42) _ _ (λ e. record { fits = refl; counts = λ h. refl }) (λ e. tt))))

long_param : (bytes : Text) → If (LongIn bytes) (long_param_at bytes)
unfolding long_param_at
long_param [] = tt
long_param (b ∷ bs) =
    chosen_by (If (LongIn (b ∷ bs))) (begins_name b) _ _ (λ e. record { fits = (name_of b bs e).is; counts = λ h. refl })
    (λ e. chosen_by (If (LongIn (b ∷ bs))) (is_digit b) _ _ (λ i. record { fits = digits_of b bs i; counts = λ h. refl }) (λ i. special_long b bs))

any_or : (a : Bool) → (a || true) ≡ true
any_or true = refl
any_or false = refl

-- with braces any parameter may stand
pub closed_bare : (d : ℕ) (more : Bool) (p : Param) → nat_lt d limit ≡ true → param_fits p ≡ true → bare_fits d more p ≡ true
closed_bare d more (named name) l e = rw (e, l) (any_or (not more))
closed_bare d more (digits text) l e = rw (e, l) (any_or (not (is_long text)))
closed_bare d more count l e = refl
closed_bare d more status l e = refl
closed_bare d more at l e = refl
closed_bare d more star l e = refl

-- ---- operators

-- What stands behind a head. Nothing stands between `${#-` and a `}`; and the mark of a trimming was as long as could be.
abbrev pub HeadFits : Head → Text → Type 0
HeadFits (closed p as_is) rest = param_fits p ≡ true
HeadFits (closed p length_of) rest = param_fits p ≡ true
HeadFits (closed p (fill t c w)) rest = ⊥
HeadFits (closed p (trim s l w)) rest = ⊥
HeadFits (filling p default false) rest = (param_fits p ≡ true) × (is_count p ≡ true → is_close (clear rest) ≡ false)
HeadFits (filling p t c) rest = param_fits p ≡ true
HeadFits (trimming p s true) rest = param_fits p ≡ true
HeadFits (trimming p true false) rest = (param_fits p ≡ true) × (starts (λ b. b == 37) (clear rest) ≡ false)
HeadFits (trimming p false false) rest = (param_fits p ≡ true) × (starts (λ b. b == 35) (clear rest) ≡ false) × (is_count p ≡ true → is_close (clear rest) ≡ false)

abbrev pub HeadIn : Head × Text → Type 0
HeadIn x = HeadFits x.0 x.1

-- what is known before an operator: `${#-}` and `${##}` were lengths
pub record Before (p : Param) (bytes : Text) : Type 0 where
  pub fits : param_fits p ≡ true
  pub no_dash : is_count p ≡ true → is_dash bytes ≡ false
  pub no_hash : is_count p ≡ true → (starts (λ b. b == 35) bytes && is_close (clear (tail bytes))) ≡ false

any_test : (b : ℕ) → If (λ (t : FillTest). Unit {0}) (fill_test b)
any_test b =
    chosen_by (If (λ (t : FillTest). Unit {0})) (b == 45) _ _ (λ e. tt)
    (λ e. chosen_by (If (λ (t : FillTest). Unit {0})) (b == 61) _ _ (λ e. tt)
    (λ e. chosen_by (If (λ (t : FillTest). Unit {0})) (b == 43) _ _ (λ e. tt) (λ e. tt)))

colon_fits : (p : Param) (t : FillTest) (bs : Text) → param_fits p ≡ true → HeadFits (filling p t true) bs
colon_fits p default bs e = e
colon_fits p assigning bs e = e
colon_fits p alternate bs e = e

dash_open : (b : ℕ) (bs : Text) → (b == 45) ≡ true → is_dash (b ∷ bs) ≡ false → is_close (clear bs) ≡ false
dash_open b bs e h = subst (λ (z : Bool). (z && is_close (clear bs)) ≡ false) e h

fill_colon : (p : Param) (bytes : Text) → param_fits p ≡ true → If HeadIn (fills p true bytes)
fill_colon p [] e = tt
fill_colon p (b ∷ bs) e =
    then (λ t. Unit {0}) HeadIn (fill_test b) _ (any_test b) (λ t u. colon_fits p t bs e)

fill_bare : (p : Param) (b : ℕ) (bs : Text) → Before p (b ∷ bs) → If HeadIn (fills p false (b ∷ bs))
fill_bare p b bs k =
    chosen_by (λ (o : Option FillTest). If HeadIn (o >>= λ t. Some (filling p t false, bs))) (b == 45) _ _
    (λ e. (k.fits, λ c. dash_open b bs e (k.no_dash c)))
    (λ e. chosen_by (λ (o : Option FillTest). If HeadIn (o >>= λ t. Some (filling p t false, bs))) (b == 61) _ _ (λ e. k.fits)
    (λ e. chosen_by (λ (o : Option FillTest). If HeadIn (o >>= λ t. Some (filling p t false, bs))) (b == 43) _ _ (λ e. k.fits) (λ e. tt)))

trim_suffix : (p : Param) (bytes : Text) → param_fits p ≡ true → joins bytes ≡ false → If HeadIn (trims p true 37 bytes)
unfolding clear
trim_suffix p [] e j = (e, refl)
trim_suffix p (b ∷ bs) e j =
    chosen_by (If HeadIn) (b == 37) _ _ (λ i. e) (λ i. (e, subst (λ (z : Text). starts (λ b. b == 37) z ≡ false) (sym (clear_is (b ∷ bs) j)) i))

trim_prefix : (p : Param) (bytes : Text) → param_fits p ≡ true → joins bytes ≡ false → (is_count p ≡ true → is_close bytes ≡ false) → If HeadIn (trims p false 35 bytes)
unfolding clear
trim_prefix p [] e j c = (e, refl, c)
trim_prefix p (b ∷ bs) e j c =
    chosen_by (If HeadIn) (b == 35) _ _ (λ i. e)
    (λ i. (e, subst (λ (z : Text). starts (λ b. b == 35) z ≡ false) (sym (clear_is (b ∷ bs) j)) i, λ n. subst (λ (z : Text). is_close z ≡ false) (sym (clear_is (b ∷ bs) j)) (c n)))

hash_open : (b : ℕ) (bs : Text) → (b == 35) ≡ true → (starts (λ b. b == 35) (b ∷ bs) && is_close (clear (tail (b ∷ bs)))) ≡ false → is_close (clear bs) ≡ false
hash_open b bs e h = subst (λ (z : Bool). (z && is_close (clear bs)) ≡ false) e h

operator_fits : (p : Param) (bytes : Text) → Before p bytes → If HeadIn (operator_at p bytes)
operator_fits p [] k = tt
operator_fits p (b ∷ bs) k =
    chosen_by (If HeadIn) (b == 125) _ _ (λ e. k.fits)
    (λ e. chosen_by (If HeadIn) (b == 58) _ _ (λ e. fill_colon p (clear bs) k.fits)
    (λ e. chosen_by (If HeadIn) (b == 35) _ _ (λ e. trim_prefix p (clear bs) k.fits (clear_free bs) (λ c. hash_open b bs e (k.no_hash c)))
    (λ e. chosen_by (If HeadIn) (b == 37) _ _ (λ e. trim_suffix p (clear bs) k.fits (clear_free bs)) (λ e. fill_bare p b bs k))))

-- ---- heads

or_fits : (o p : Option (Head × Text)) → If HeadIn o → (o ≡ None → If HeadIn p) → If HeadIn (or_else o p)
or_fits None p h k = k refl
or_fits (Some x) p h k = h

length_fits : (bytes : Text) (o : Option (Param × Text)) → If (LongIn bytes) o → If HeadIn (length_head o)
length_fits bytes None h = tt
length_fits bytes (Some x) h = chosen_by (If HeadIn) (is_close (clear x.1)) _ _ (λ e. h.fits) (λ e. tt)

no_length_at : (p : Bool) (x : Head × Text) → cond p (Some x) None ≡ None → p ≡ false
no_length_at true x e = absurd cc
no_length_at false x e = refl

-- `${##}` is a length
no_length : (bs : Text) → length_head (long_param_at (35 ∷ bs)) ≡ None → is_close (clear bs) ≡ false
unfolding long_param_at begins_name
no_length bs e = no_length_at (is_close (clear bs)) (closed count length_of, tail (clear bs)) e

no_length_of : (b : ℕ) (bs : Text) (p : Bool) → (b == 35) ≡ p → length_head (long_param_at (b ∷ bs)) ≡ None → (p && is_close (clear bs)) ≡ false
no_length_of b bs true e n = no_length bs (subst (λ (z : ℕ). length_head (long_param_at (z ∷ bs)) ≡ None) (eqb-true b 35 e) n)
no_length_of b bs false e n = refl

no_length_in : (bs : Text) → length_head (long_param_at bs) ≡ None → (starts (λ b. b == 35) bs && is_close (clear (tail bs))) ≡ false
no_length_in [] e = refl
no_length_in (b ∷ bs) e = no_length_of b bs (b == 35) refl e

one_of : (a b : Bool) → (a || b) ≡ true → b ≡ false → a ≡ true
one_of true b e f = refl
one_of false b e f = absurd (false≢true (sym f ∙ e))

no_hash_at : (bs : Text) → is_close bs ≡ true → (starts (λ b. b == 35) bs && is_close (clear (tail bs))) ≡ false
no_hash_at [] e = refl
no_hash_at (b ∷ bs) e = rw (apart (λ z. z == 125) b 35 e refl) refl

pub hash_fits : (bs : Text) → If HeadIn (hash_head bs)
hash_fits bs =
    chosen_by (If HeadIn) (is_close bs || is_dash bs) _ _
    (λ e. chosen_by (If HeadIn) (is_dash bs) _ _ (λ f. tt)
    (λ f. operator_fits count bs (record { fits = refl; no_dash = λ c. f; no_hash = λ c. no_hash_at bs (one_of (is_close bs) (is_dash bs) e f) })))
    (λ e. or_fits (length_head (long_param_at bs)) (operator_at count bs) (length_fits bs (long_param_at bs) (long_param bs))
    (λ n. operator_fits count bs (record { fits = refl; no_dash = λ c. (neither (is_close bs) (is_dash bs) e).1; no_hash = λ c. no_length_in bs n })))

pub head_fits : (bytes : Text) → If HeadIn (head_at bytes)
unfolding head_at
head_fits bytes =
    chosen_by (If HeadIn) (is_hash bytes) _ _ (λ e. hash_fits (clear (tail bytes)))
    (λ e. then (LongIn bytes) HeadIn (long_param_at bytes) _ (long_param bytes)
    (λ x h. operator_fits x.0 (clear x.1) (record { fits = h.fits; no_dash = λ c. absurd (false≢true (sym (h.counts e) ∙ c)); no_hash = λ c. absurd (false≢true (sym (h.counts e) ∙ c)) })))

any_rest : (o : Option Text) → If (λ (z : Text). Unit {0}) o
any_rest None = tt
any_rest (Some x) = tt

-- `${`
pub dollar_head_fits : (bytes : Text) → If HeadIn (dollar_head bytes)
unfolding dollar_head
dollar_head_fits bytes = then (λ (z : Text). Unit {0}) HeadIn (behind_two 36 123 bytes) _ (any_rest (behind_two 36 123 bytes)) (λ rest h. head_fits (clear rest))

-- `$a`
pub dollar_param_bare : (bytes : Text) → If BareIn (dollar_param bytes)
unfolding dollar_param
dollar_param_bare bytes = then (λ (z : Text). Unit {0}) BareIn (behind 36 (clear bytes)) _ (any_rest (behind 36 (clear bytes))) (λ rest h. param_bare (clear rest))
