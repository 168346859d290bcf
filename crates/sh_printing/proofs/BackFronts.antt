-- The first bytes of the printed parts of words.
use Rattle.std.proofs.Common.{◌≡◌, ℕ, Bool, true, false, [], ◌∷◌, ◌++◌, refl, sym, ap, subst, append_assoc}
use Rattle.std.specs.Prelude.{◌||◌, ◌&&◌, not, ◌==◌}
use Rattle.std.specs.List.{list_all}
use Rattle.span_text.specs.Names.{is_letter, begins_name, continues_name, is_digit, is_name}
use Rattle.span_text.proofs.Bytes.{apart}
use Rattle.sh_grammar.specs.Shape as shape
use Rattle.sh_grammar.specs.Shape.{plain, exact, double, tilde, param, subst as listing, arith, as_is, length_of, fill, trim, named, digits, count, status, at, star}
use Rattle.sh_grammar.specs.Bytes.{Text, Context, in_word, in_double, in_body, in_brace, in_quoted_brace, in_body_brace, in_body_pattern, starts, expands, is_special_param, is_bare_dollar, is_meta, is_active, is_plain, is_escaped, has_single, has_double, is_bare_backslash, is_literal, begins_unit, unit_starts}
use Rattle.sh_grammar.specs.Tokens.{is_angle}
use Rattle.sh_printing.specs.Marks.{exact_text, is_quote, param_text}
use Rattle.sh_printing.specs.Spellable.{exact_fits, exact_fits_by, keeps, bare_fits, is_digits}
use Rattle.sh_printing.specs.Printing.{part_text, continued}
use Rattle.sh_printing.specs.Printable.{part_fits, parts_fit, is_plain_part, is_expansion}
use Rattle.sh_printing.proofs.BackBytes.{both, isnt, joins, no_join, clear_is, goes_at}
use Rattle.sh_printing.proofs.BackParams.{digit_begins}

-- ---- bytes that begin a part

literal_unit_at : (a b c u v x y : Bool) → (a || (b && x) || (c && y)) ≡ true → (a || b || c || u || v) ≡ true
literal_unit_at true b c u v x y e = refl
literal_unit_at false true c u v x y e = refl
literal_unit_at false false true u v x y e = refl
literal_unit_at false false false u v x y e = absurd cc

pub literal_unit : (c : Context) (b : ℕ) (bs : Text) → is_literal c b bs ≡ true → begins_unit c b ≡ true
unfolding is_literal begins_unit
literal_unit c b bs e = literal_unit_at (is_plain c b) (b == 36) (b == 92) (b == 39 && has_single c) (b == 34 && has_double c) (is_bare_dollar bs) (is_bare_backslash c bs) e

-- what the first byte of a part that isn't plain says: it begins a unit, and ends a run of bytes that stand for themselves
pub record Marked (c : Context) (t : Text) : Type 0 where
  pub free : joins t ≡ false
  pub unit : unit_starts c t ≡ true
  pub no_literal : goes_at (is_literal c) t ≡ false
  pub no_name : starts continues_name t ≡ false
  pub no_slash : starts (λ b. b == 47) t ≡ false
  pub no_tilde : starts (λ b. b == 126) t ≡ false
  pub no_digit : starts is_digit t ≡ false
  pub no_angle : starts is_angle t ≡ false
  pub no_close : starts (λ b. b == 125) t ≡ false
  pub no_hash : starts (λ b. b == 35) t ≡ false
  pub no_percent : starts (λ b. b == 37) t ≡ false

two : (a : Bool) → (a || false) ≡ false → a ≡ false
two true e = absurd cc
two false e = refl

no_active : (c : Context) → (is_plain c 36 ≡ false) × (is_plain c 92 ≡ false)
unfolding is_plain is_active
no_active in_word = (refl, refl)
no_active in_double = (refl, refl)
no_active in_body = (refl, refl)
no_active in_brace = (refl, refl)
no_active in_quoted_brace = (refl, refl)
no_active in_body_brace = (refl, refl)
no_active in_body_pattern = (refl, refl)

single_ends : (c : Context) → has_single c ≡ true → is_plain c 39 ≡ false
unfolding is_plain is_active has_single is_meta
single_ends in_word e = refl
single_ends in_double e = absurd cc
single_ends in_body e = absurd cc
single_ends in_brace e = refl
single_ends in_quoted_brace e = absurd cc
single_ends in_body_brace e = absurd cc
single_ends in_body_pattern e = absurd cc

double_ends : (c : Context) → has_double c ≡ true → is_plain c 34 ≡ false
unfolding is_plain is_active has_double is_meta
double_ends in_word e = refl
double_ends in_double e = absurd cc
double_ends in_body e = absurd cc
double_ends in_brace e = refl
double_ends in_quoted_brace e = refl
double_ends in_body_brace e = absurd cc
double_ends in_body_pattern e = absurd cc

pub single_marked : (c : Context) (t : Text) → has_single c ≡ true → Marked c (39 ∷ t)
unfolding unit_starts begins_unit is_literal continues_name
single_marked c t e = record { free = no_join 39 t refl; unit = rw (single_ends c e, e) refl; no_literal = rw (single_ends c e) refl; no_name = refl; no_slash = refl; no_tilde = refl; no_digit = refl; no_angle = refl; no_close = refl; no_hash = refl; no_percent = refl }

pub double_marked : (c : Context) (t : Text) → has_double c ≡ true → Marked c (34 ∷ t)
unfolding unit_starts begins_unit is_literal continues_name
double_marked c t e = record { free = no_join 34 t refl; unit = rw (double_ends c e, e) refl; no_literal = rw (double_ends c e) refl; no_name = refl; no_slash = refl; no_tilde = refl; no_digit = refl; no_angle = refl; no_close = refl; no_hash = refl; no_percent = refl }

pub escape_marked : (c : Context) (b : ℕ) (t : Text) → is_escaped c b ≡ true → (b == 10) ≡ false → Marked c (92 ∷ b ∷ t)
unfolding unit_starts begins_unit is_literal continues_name
escape_marked c b t e n = record { free = n; unit = rw (no_active c).1 refl; no_literal = rw ((no_active c).1, e) refl; no_name = refl; no_slash = refl; no_tilde = refl; no_digit = refl; no_angle = refl; no_close = refl; no_hash = refl; no_percent = refl }

pub dollar_marked : (c : Context) (b : ℕ) (t : Text) → expands b ≡ true → (b == 92) ≡ false → Marked c (36 ∷ b ∷ t)
unfolding unit_starts begins_unit is_literal continues_name
dollar_marked c b t e n = record { free = refl; unit = rw (no_active c).0 refl; no_literal = rw ((no_active c).0, clear_is (b ∷ t) (no_join b t n), e) refl; no_name = refl; no_slash = refl; no_tilde = refl; no_digit = refl; no_angle = refl; no_close = refl; no_hash = refl; no_percent = refl }

-- ---- parts

-- a `$` and a byte that makes it an expansion
pub record Dollar (t : Text) : Type 0 where
  pub byte : ℕ
  pub more : Text
  pub is : t ≡ 36 ∷ byte ∷ more
  pub goes : expands byte ≡ true
  pub solid : (byte == 92) ≡ false

brace_dollar : (t : Text) → Dollar (36 ∷ 123 ∷ t)
unfolding expands begins_name is_special_param
brace_dollar t = record { byte = 123; more = t; is = refl; goes = refl; solid = refl }

list_dollar : (t : Text) → Dollar (36 ∷ 40 ∷ t)
unfolding expands begins_name is_special_param
list_dollar t = record { byte = 40; more = t; is = refl; goes = refl; solid = refl }

name_dollar : (name t : Text) → is_name name ≡ true → Dollar (36 ∷ (name ++ t))
unfolding expands begins_name
name_dollar [] t e = absurd cc
name_dollar (b ∷ bs) t e = let x = (both (is_letter b) (list_all continues_name bs) e).0 in record { byte = b; more = bs ++ t; is = refl; goes = rw x refl; solid = apart is_letter b 92 x refl }

digit_goes : (b : ℕ) → is_digit b ≡ true → expands b ≡ true
unfolding expands
digit_goes b e = rw (digit_begins b e, e) refl

wide : (a b c d e f g : Bool) → (a || true || b || c || d || e || f || g) ≡ true
wide true b c d e f g = refl
wide false b c d e f g = refl

special_goes : (b : ℕ) → is_special_param b ≡ true → expands b ≡ true
unfolding expands
special_goes b e = rw e (wide (begins_name b || is_digit b) (b == 36) (b == 33) (b == 45) (b == 123) (b == 40) (b == 96))

specials : (is_special_param 35 ≡ true) × (is_special_param 63 ≡ true) × (is_special_param 64 ≡ true) × (is_special_param 42 ≡ true)
unfolding is_special_param
specials = (refl, refl, refl, refl)

no_dollars : (expands 39 ≡ false) × (expands 92 ≡ false) × (expands 34 ≡ false)
unfolding expands begins_name is_special_param
no_dollars = (refl, refl, refl)

digit_dollar : (b : ℕ) (t : Text) → is_digit b ≡ true → Dollar (36 ∷ b ∷ t)
digit_dollar b t e = record { byte = b; more = t; is = refl; goes = digit_goes b e; solid = apart is_digit b 92 e refl }

special_dollar : (b : ℕ) (t : Text) → is_special_param b ≡ true → (b == 92) ≡ false → Dollar (36 ∷ b ∷ t)
special_dollar b t e s = record { byte = b; more = t; is = refl; goes = special_goes b e; solid = s }

param_dollar : (d : ℕ) (more : Bool) (p : shape.Param) (t : Text) → bare_fits d more p ≡ true → Dollar (param_text more p ++ t)
param_dollar d true (named name) t e = brace_dollar _
param_dollar d false (named name) t e = name_dollar name t (both (is_name name) true e).0
param_dollar d more (digits []) t e = brace_dollar _
param_dollar d more (digits (b ∷ [])) t e = digit_dollar b t (both (is_digit b) true (both (is_digits (b ∷ [])) true e).0).0
param_dollar d more (digits (b ∷ c ∷ bs)) t e = brace_dollar _
param_dollar d more count t e = special_dollar 35 t specials.0 refl
param_dollar d more status t e = special_dollar 63 t specials.1 refl
param_dollar d more at t e = special_dollar 64 t specials.2 refl
param_dollar d more star t e = special_dollar 42 t specials.3 refl

pub dollar_front : (i : Bool) (d : ℕ) (c : Context) (opening : Text) (behind : shape.Parts) (p : shape.Part) (t : Text) → is_expansion p ≡ true → part_fits i d c behind p ≡ true → Dollar (part_text true c opening (continued behind) p ++ t)
dollar_front i d c opening behind (plain text) t x e = absurd cc
dollar_front i d c opening behind (exact text) t x e = absurd cc
dollar_front i d c opening behind (double ps) t x e = absurd cc
dollar_front i d c opening behind tilde t x e = absurd cc
dollar_front i d c opening behind (param p as_is) t x e = param_dollar d (continued behind) p t e
dollar_front i d c opening behind (param p length_of) t x e = brace_dollar _
dollar_front i d c opening behind (param p (fill f colon w)) t x e = brace_dollar _
dollar_front i d c opening behind (param p (trim suffix longest w)) t x e = brace_dollar _
dollar_front i d c opening behind (listing s) t x e = list_dollar _
dollar_front i d c opening behind (arith s ws) t x e = list_dollar _

quote_is : (text : Text) → is_quote text ≡ true → text ≡ 39 ∷ []
quote_is [] e = absurd cc
quote_is (b ∷ []) e = ap (λ (z : ℕ). z ∷ []) (Rattle.std.proofs.Common.eqb-true b 39 e)
quote_is (b ∷ c ∷ bs) e = absurd cc

-- the three ways to quote bytes exactly
pub data Quoted (i : Bool) (c : Context) (text : Text) : Type 0 where
  by_quotes : has_single c ≡ true → is_quote text ≡ false → list_all Rattle.sh_printing.specs.Spellable.is_exact_byte text ≡ true → keeps i text ≡ true → Quoted i c text
  by_backslash : (b : ℕ) → text ≡ b ∷ [] → is_escaped c b ≡ true → (b == 10) ≡ false → exact_text (has_single c) text ≡ 92 ∷ b ∷ [] → Quoted i c text

escape_39 : (c : Context) → has_single c ≡ true → is_escaped c 39 ≡ true
unfolding has_single is_escaped
escape_39 in_word e = refl
escape_39 in_double e = absurd cc
escape_39 in_body e = absurd cc
escape_39 in_brace e = refl
escape_39 in_quoted_brace e = absurd cc
escape_39 in_body_brace e = absurd cc
escape_39 in_body_pattern e = absurd cc

quoted_at : (i s r : Bool) (c : Context) (text : Text) → has_single c ≡ s → is_quote text ≡ r → exact_fits i c text ≡ true → Quoted i c text
quoted_at i true true c text hs hr e = by_backslash 39 (quote_is text hr) (escape_39 c hs) refl (rw (hs, quote_is text hr) refl)
quoted_at i true false c text hs hr e =
    let f : (is_quote text || (list_all Rattle.sh_printing.specs.Spellable.is_exact_byte text && keeps i text)) ≡ true = subst (λ (z : Bool). exact_fits_by z i c text ≡ true) hs e in
    let g : (false || (list_all Rattle.sh_printing.specs.Spellable.is_exact_byte text && keeps i text)) ≡ true = subst (λ (z : Bool). (z || (list_all Rattle.sh_printing.specs.Spellable.is_exact_byte text && keeps i text)) ≡ true) hr f in
    let x = both (list_all Rattle.sh_printing.specs.Spellable.is_exact_byte text) (keeps i text) g in
    by_quotes hs hr x.0 x.1
quoted_at i false r c [] hs hr e = let f = subst (λ (z : Bool). exact_fits_by z i c [] ≡ true) hs e in absurd cc
quoted_at i false r c (b ∷ []) hs hr e =
    let f : (is_escaped c b && not (b == 10)) ≡ true = subst (λ (z : Bool). exact_fits_by z i c (b ∷ []) ≡ true) hs e in
    let x = both (is_escaped c b) (not (b == 10)) f in
    by_backslash b refl x.0 (isnt (b == 10) x.1) (rw hs refl)
quoted_at i false r c (b ∷ d ∷ bs) hs hr e = let f = subst (λ (z : Bool). exact_fits_by z i c (b ∷ d ∷ bs) ≡ true) hs e in absurd cc

pub quoted_by : (i : Bool) (c : Context) (text : Text) → exact_fits i c text ≡ true → Quoted i c text
quoted_by i c text e = quoted_at i (has_single c) (is_quote text) c text refl refl e

pub quotes_text : (c : Context) (text t : Text) → has_single c ≡ true → is_quote text ≡ false → exact_text (has_single c) text ++ t ≡ 39 ∷ (text ++ 39 ∷ t)
quotes_text c text t hs hr = rw (hs, hr) (ap (λ (z : Text). 39 ∷ z) (append_assoc text (39 ∷ []) t))

-- it begins no expansion
pub record Quotes (c : Context) (t : Text) : Type 0 where
  pub marked : Marked c t
  pub no_expansion : starts expands t ≡ false

exact_front_by : (i : Bool) (c : Context) (text t : Text) → Quoted i c text → Quotes c (exact_text (has_single c) text ++ t)
exact_front_by i c text t (by_quotes hs hr a j) = subst (Quotes c) (sym (quotes_text c text t hs hr)) (record { marked = single_marked c (text ++ 39 ∷ t) hs; no_expansion = no_dollars.0 })
exact_front_by i c text t (by_backslash b is e n x) = subst (λ (z : Text). Quotes c (z ++ t)) (sym x) (record { marked = escape_marked c b t e n; no_expansion = no_dollars.1 })

pub exact_front : (i : Bool) (c : Context) (text t : Text) → exact_fits i c text ≡ true → Quotes c (exact_text (has_single c) text ++ t)
exact_front i c text t e = exact_front_by i c text t (quoted_by i c text e)

pub double_front : (c : Context) (t : Text) → has_double c ≡ true → Quotes c (34 ∷ t)
double_front c t e = record { marked = double_marked c t e; no_expansion = no_dollars.2 }

dollar_marks : (c : Context) (t : Text) → Dollar t → Marked c t
dollar_marks c t x = subst (Marked c) (sym x.is) (dollar_marked c x.byte x.more x.goes x.solid)

-- a part that isn't plain
pub part_marked : (i : Bool) (d : ℕ) (c : Context) (opening : Text) (behind : shape.Parts) (p : shape.Part) (t : Text) → is_plain_part p ≡ false → part_fits i d c behind p ≡ true → Marked c (part_text true c opening (continued behind) p ++ t)
part_marked i d c opening behind (plain text) t x e = absurd cc
part_marked i d c opening behind (exact text) t x e = (exact_front i c text t e).marked
part_marked i d c opening behind (double ps) t x e = (double_front c _ (both (has_double c) (parts_fit i d in_double ps) e).0).marked
part_marked i d c opening behind tilde t x e = absurd cc
part_marked i d c opening behind (param p o) t x e = dollar_marks c _ (dollar_front i d c opening behind (param p o) t refl e)
part_marked i d c opening behind (listing s) t x e = dollar_marks c _ (dollar_front i d c opening behind (listing s) t refl e)
part_marked i d c opening behind (arith s ws) t x e = dollar_marks c _ (dollar_front i d c opening behind (arith s ws) t refl e)

-- one that is no expansion either
pub part_quotes : (i : Bool) (d : ℕ) (c : Context) (opening : Text) (behind : shape.Parts) (p : shape.Part) (t : Text) → is_plain_part p ≡ false → is_expansion p ≡ false → part_fits i d c behind p ≡ true → starts expands (part_text true c opening (continued behind) p ++ t) ≡ false
part_quotes i d c opening behind (plain text) t x y e = absurd cc
part_quotes i d c opening behind (exact text) t x y e = (exact_front i c text t e).no_expansion
part_quotes i d c opening behind (double ps) t x y e = no_dollars.2
part_quotes i d c opening behind tilde t x y e = absurd cc
part_quotes i d c opening behind (param p o) t x y e = absurd cc
part_quotes i d c opening behind (listing s) t x y e = absurd cc
part_quotes i d c opening behind (arith s ws) t x y e = absurd cc
