-- Texts that have no join and no NUL: bytes, quotes, parameters, arithmetic, and the marks between nodes.
use Rattle.std.proofs.Common.{◌≡◌, ℕ, suc, Bool, true, false, List, [], ◌∷◌, ◌++◌, length, Option, Some, None, refl, sym, ap, subst, ◌∙◌, arith}
use Rattle.std.specs.Prelude.{◌||◌, ◌&&◌, not, ◌==◌, nat_le, nat_lt, codes, if◌then◌else◌}
use Rattle.std.specs.List.{list_all}
use Rattle.std.specs.Fmt.{decimal}
use Rattle.std.proofs.lemmas.Bool.{false≢true, eqb-true, leb-true, ltb-true}
use Rattle.span_text.specs.Names.{is_digit, continues_name, is_name}
use Rattle.span_text.specs.ExprTokens.{greatest}
use Rattle.span_text.specs.declared.expr.UnOp.{UnOp}
use Rattle.span_text.specs.declared.expr.UnOp.TheVariants as unary
use Rattle.span_text.specs.declared.expr.BinOp.{BinOp}
use Rattle.span_text.specs.declared.expr.BinOp.TheVariants as op
use Rattle.span_text.specs.declared.sign.Infix.{Infix}
use Rattle.span_text.specs.declared.sign.Infix.TheVariants.{Plain, And, Or, Comma}
use Rattle.span_text.specs.Expressions.{Form, literal, expanded, variable, member, group as parens, prefixed, stepped, between, chosen, assigned}
use Rattle.span_text.proofs.Bytes.{apart}
use Rattle.sh_grammar.specs.Shape as shape
use Rattle.sh_grammar.specs.Shape.{plain, exact, double, tilde, param, subst as listing, arith as sum, no_part, part}
use Rattle.sh_grammar.specs.Bytes.{Text, Context, in_word, in_double, in_body, in_brace, in_quoted_brace, in_body_brace, in_body_pattern, has_single, is_join, is_literal, is_plain, is_active, is_escaped, is_bare_backslash, starts}
use Rattle.sh_grammar.specs.Steps.{limit, is_empty, is_copied}
use Rattle.sh_printing.specs.Delimiters.{delimiter}
use Rattle.sh_printing.specs.Marks.{End, piped, and_then, or_else, next, line, gap, ended, loop_key, led, is_quote, exact_text, param_name, param_text, braced, digits_text, colon_text, test_text, trim_mark, fd_text, whole_body, behind_word}
use Rattle.sh_printing.specs.Sums.{unary_text, assigned_text, binary_text, expr_text}
use Rattle.sh_printing.specs.Spellable.{is_unjoined, is_literal_text, ends_with, is_escaped_text, is_exact_byte, exact_fits_by, exact_fits, param_fits, bare_fits, is_digits, nth_check, sum_fits}
use Rattle.sh_printing.specs.Printing.{parts_text, behind_opening}
use Rattle.sh_printing.specs.Printable
use Rattle.sh_printing.proofs.BackBytes.{both, isnt, neither, name_all, three}
use Rattle.sh_printing.proofs.BackDelimiters.{is_delimiter_byte, delimiter_bytes, digits_all, all_by}
use Rattle.sh_printing.proofs.BackForms.{form_text, infix_op, Good, sum_shown}
use Rattle.sh_printing.proofs.BackNamed.{body_of}
use Rattle.span_text.specs.declared.expr.Expr.{Expr}

-- No NUL, and no newline that a backslash quotes. The Bool: a backslash quotes the first byte; none may quote what follows.
abbrev kept : Bool → Text → Bool
kept true [] = false
kept false [] = true
kept true (b ∷ bs) = not (b == 0) && not (b == 10) && kept false bs
kept false (b ∷ bs) = not (b == 0) && kept (b == 92) bs

pub record Kept (t : Text) : Type 0 where
  pub is : kept false t ≡ true

pub mark : (t : Text) → kept false t ≡ true → Kept t
mark t e = record { is = e }

more : (q : Bool) (a b : Text) → kept q a ≡ true → kept false b ≡ true → kept q (a ++ b) ≡ true
more true [] b e f = absurd cc
more false [] b e f = f
more true (x ∷ a) b e f = let y = both (not (x == 0) && not (x == 10)) (kept false a) e in rw (y.0, more false a b y.1 f) refl
more false (x ∷ a) b e f = let y = both (not (x == 0)) (kept (x == 92) a) e in rw (y.0, more (x == 92) a b y.1 f) refl

infixl 6 ◌before◌
pub ◌before◌ : {a b : Text} → Kept a → Kept b → Kept (a ++ b)
◌before◌ {a} {b} x y = record { is = more false a b x.is y.is }

-- ---- what is kept has neither

pub bytes_of : (q : Bool) (t : Text) → kept q t ≡ true → list_all Printable.is_body_byte t ≡ true
bytes_of q [] e = refl
bytes_of true (b ∷ bs) e = let x = both (not (b == 0) && not (b == 10)) (kept false bs) e in let y = both (not (b == 0)) (not (b == 10)) x.0 in rw (y.0, bytes_of false bs x.1) refl
bytes_of false (b ∷ bs) e = let x = both (not (b == 0)) (kept (b == 92) bs) e in rw (x.0, bytes_of (b == 92) bs x.1) refl

no_join_by : (q : Bool) (b : ℕ) (bs : Text) → (b == 92) ≡ q → kept q bs ≡ true → is_join b bs ≡ false
no_join_by q b [] e f = refl
no_join_by true b (c ∷ bs) e f = let x = both (not (c == 0) && not (c == 10)) (kept false bs) f in let y = isnt (c == 10) (both (not (c == 0)) (not (c == 10)) x.0).1 in rw (e, y) refl
no_join_by false b (c ∷ bs) e f = rw e refl

pub unjoined_of : (q : Bool) (t : Text) → kept q t ≡ true → is_unjoined q t ≡ true
unjoined_of q [] e = refl
unjoined_of true (b ∷ bs) e = unjoined_of false bs (both (not (b == 0) && not (b == 10)) (kept false bs) e).1
unjoined_of false (b ∷ bs) e = let x = both (not (b == 0)) (kept (b == 92) bs) e in rw (no_join_by (b == 92) b bs refl x.1, unjoined_of (b == 92) bs x.1) refl

-- ---- bytes

-- no NUL and no backslash
abbrev is_tame : ℕ → Bool
is_tame b = not (b == 0) && not (b == 92)

tame_kept : (t : Text) → list_all is_tame t ≡ true → kept false t ≡ true
tame_kept [] e = refl
tame_kept (b ∷ bs) e = let x = both (is_tame b) (list_all is_tame bs) e in let y = both (not (b == 0)) (not (b == 92)) x.0 in rw (y.0, isnt (b == 92) y.1, tame_kept bs x.1) refl

tame_by : (p : ℕ → Bool) (t : Text) → p 0 ≡ false → p 92 ≡ false → list_all p t ≡ true → Kept t
tame_by p t z k e = record { is = tame_kept t (all_by p is_tame (λ b h. rw (apart p b 0 h z, apart p b 92 h k) refl) t e) }

no_names : (continues_name 0 ≡ false) × (continues_name 92 ≡ false)
unfolding continues_name
no_names = (refl, refl)

pub name_kept : (t : Text) → is_name t ≡ true → Kept t
name_kept t e = tame_by continues_name t no_names.0 no_names.1 (name_all t e)

digits_kept : (t : Text) → list_all is_digit t ≡ true → Kept t
digits_kept t e = tame_by is_digit t refl refl e

pub delimiter_kept : (body : Text) → Kept (delimiter body)
delimiter_kept body = tame_by is_delimiter_byte (delimiter body) refl refl (delimiter_bytes body)

-- ---- bytes that stand for themselves

no_nul : (c : Context) (bs : Text) → is_literal c 0 bs ≡ false
unfolding is_literal is_plain is_active
no_nul in_word bs = refl
no_nul in_double bs = refl
no_nul in_body bs = refl
no_nul in_brace bs = refl
no_nul in_quoted_brace bs = refl
no_nul in_body_brace bs = refl
no_nul in_body_pattern bs = refl

backslash_literal : (c : Context) (bs : Text) → is_literal c 92 bs ≡ is_bare_backslash c bs
unfolding is_literal is_plain is_active
backslash_literal in_word bs = refl
backslash_literal in_double bs = refl
backslash_literal in_body bs = refl
backslash_literal in_brace bs = refl
backslash_literal in_quoted_brace bs = refl
backslash_literal in_body_brace bs = refl
backslash_literal in_body_pattern bs = refl

escapes_itself : (c : Context) → is_escaped c 92 ≡ true
unfolding is_escaped
escapes_itself in_word = refl
escapes_itself in_double = refl
escapes_itself in_body = refl
escapes_itself in_brace = refl
escapes_itself in_quoted_brace = refl
escapes_itself in_body_brace = refl
escapes_itself in_body_pattern = refl

no_nul_escaped : (c : Context) → is_escaped c 0 ≡ false
unfolding is_escaped
no_nul_escaped in_word = refl
no_nul_escaped in_double = refl
no_nul_escaped in_body = refl
no_nul_escaped in_brace = refl
no_nul_escaped in_quoted_brace = refl
no_nul_escaped in_body_brace = refl
no_nul_escaped in_body_pattern = refl

-- behind a backslash that stands for itself
behind_bare : (c : Context) (bs : Text) → is_bare_backslash c bs ≡ true → is_join 92 bs ≡ false → kept false bs ≡ true → kept true bs ≡ true
behind_bare c [] e j f = absurd cc
behind_bare c (b ∷ bs) e j f =
    let n = neither (is_escaped c b) (b == 0) (isnt (is_escaped c b || b == 0) e) in
    let k = apart (λ z. not (is_escaped c z)) b 92 (ap not n.0) (ap not (escapes_itself c)) in
    let x = both (not (b == 0)) (kept (b == 92) bs) f in
    rw (n.1, j, subst (λ (z : Bool). kept z bs ≡ true) k x.1) refl

literal_at : (c : Context) (b : ℕ) (bs : Text) (slash : Bool) → (b == 92) ≡ slash → is_literal c b bs ≡ true → is_join b bs ≡ false → kept false bs ≡ true → kept slash bs ≡ true
literal_at c b bs false e l j f = f
literal_at c b bs true e l j f =
    let is = eqb-true b 92 e in
    behind_bare c bs (sym (backslash_literal c bs) ∙ subst (λ (z : ℕ). is_literal c z bs ≡ true) is l) (subst (λ (z : ℕ). is_join z bs ≡ false) is j) f

pub literal_kept : (c : Context) (t : Text) → is_literal_text c t ≡ true → kept false t ≡ true
literal_kept c [] e = refl
literal_kept c (b ∷ bs) e =
    let x = both (not (is_join b bs) && is_literal c b bs) (is_literal_text c bs) e in
    let y = both (not (is_join b bs)) (is_literal c b bs) x.0 in
    rw (apart (λ z. is_literal c z bs) b 0 y.1 (no_nul c bs), literal_at c b bs (b == 92) refl y.1 (isnt (is_join b bs) y.0) (literal_kept c bs x.1)) refl

-- ---- quotes

no_line : (b : ℕ) (bs : Text) → is_join b bs ≡ false → (b == 92) ≡ true → starts (λ b. b == 10) bs ≡ false
no_line b [] e f = refl
no_line b (c ∷ bs) e f = sym (rw f refl) ∙ e

-- in quotes, up to the closing one
quoted : (q : Bool) (t : Text) → list_all is_exact_byte t ≡ true → is_unjoined q t ≡ true → (q ≡ true → starts (λ b. b == 10) t ≡ false) → kept q (t ++ 39 ∷ []) ≡ true
quoted true [] e f g = refl
quoted false [] e f g = refl
quoted true (b ∷ bs) e f g =
    let x = both (is_exact_byte b) (list_all is_exact_byte bs) e in
    let z = (neither (b == 39) (b == 0) (isnt (b == 39 || b == 0) x.0)).1 in
    rw (z, g refl, quoted false bs x.1 f (λ i. absurd cc)) refl
quoted false (b ∷ bs) e f g =
    let x = both (is_exact_byte b) (list_all is_exact_byte bs) e in
    let z = (neither (b == 39) (b == 0) (isnt (b == 39 || b == 0) x.0)).1 in
    let y = both (not (is_join b bs)) (is_unjoined (b == 92) bs) f in
    rw (z, quoted (b == 92) bs x.1 y.1 (no_line b bs (isnt (is_join b bs) y.0))) refl

quote_kept : (t : Text) → is_quote t ≡ true → kept true t ≡ true
quote_kept [] e = absurd cc
quote_kept (b ∷ []) e = rw (eqb-true b 39 e) refl
quote_kept (b ∷ c ∷ cs) e = absurd cc

single_kept : (t : Text) (is : Bool) → is_quote t ≡ is → (is || (list_all is_exact_byte t && is_unjoined false t)) ≡ true → Kept (if is then 92 ∷ t else 39 ∷ t ++ 39 ∷ [])
single_kept t true q e = record { is = quote_kept t q }
single_kept t false q e = let x = both (list_all is_exact_byte t) (is_unjoined false t) e in record { is = quoted false t x.0 x.1 (λ i. absurd cc) }

escaped_kept : (c : Context) (t : Text) → is_escaped_text c t ≡ true → kept true t ≡ true
escaped_kept c [] e = absurd cc
escaped_kept c (b ∷ []) e = let x = both (is_escaped c b) (not (b == 10)) e in rw (apart (is_escaped c) b 0 x.0 (no_nul_escaped c), x.1) refl
escaped_kept c (b ∷ d ∷ bs) e = absurd cc

exact_by : (c : Context) (t : Text) (single : Bool) → exact_fits_by single true c t ≡ true → Kept (exact_text single t)
exact_by c t true e = single_kept t (is_quote t) refl e
exact_by c t false e = record { is = escaped_kept c t e }

pub exact_kept : (c : Context) (t : Text) → exact_fits true c t ≡ true → Kept (exact_text (has_single c) t)
exact_kept c t e = exact_by c t (has_single c) e

-- ---- parameters

braced_kept : (t : Text) → Kept t → Kept (braced t)
braced_kept t x = mark (codes "${") refl before x before mark (codes "}") refl

digits_text_kept : (t : Text) → Kept t → Kept (digits_text t)
digits_text_kept [] x = braced_kept [] x
digits_text_kept (b ∷ []) x = mark (36 ∷ []) refl before x
digits_text_kept (b ∷ c ∷ cs) x = braced_kept (b ∷ c ∷ cs) x

digits_valid : (t : Text) → is_digits t ≡ true → Kept t
digits_valid t e = digits_kept t (both (not (is_empty t)) (list_all is_digit t) e).1

pub param_kept : (p : shape.Param) → param_fits p ≡ true → Kept (param_name p)
param_kept (shape.named name) e = name_kept name e
param_kept (shape.digits t) e = digits_valid t e
param_kept shape.count e = mark (codes "#") refl
param_kept shape.status e = mark (codes "?") refl
param_kept shape.at e = mark (codes "@") refl
param_kept shape.star e = mark (codes "*") refl

named_kept : (behind : Bool) (name : Text) → Kept name → Kept (param_text behind (shape.named name))
named_kept true name x = braced_kept name x
named_kept false name x = mark (36 ∷ []) refl before x

pub bare_kept : (d : ℕ) (behind : Bool) (p : shape.Param) → bare_fits d behind p ≡ true → Kept (param_text behind p)
bare_kept d behind (shape.named name) e = named_kept behind name (name_kept name (both (is_name name) (not behind || nat_lt d limit) e).0)
bare_kept d behind (shape.digits t) e = digits_text_kept t (digits_valid t (both (is_digits t) _ e).0)
bare_kept d behind shape.count e = mark (codes "$#") refl
bare_kept d behind shape.status e = mark (codes "$?") refl
bare_kept d behind shape.at e = mark (codes "$@") refl
bare_kept d behind shape.star e = mark (codes "$*") refl

pub colon_kept : (colon : Bool) → Kept (colon_text colon)
colon_kept true = mark (codes ":") refl
colon_kept false = mark [] refl

pub test_kept : (t : shape.FillTest) → Kept (test_text t)
test_kept shape.default = mark (codes "-") refl
test_kept shape.assigning = mark (codes "=") refl
test_kept shape.alternate = mark (codes "+") refl

pub trim_kept : (suffix longest : Bool) → Kept (trim_mark suffix longest)
trim_kept false false = mark (codes "#") refl
trim_kept false true = mark (codes "##") refl
trim_kept true false = mark (codes "%") refl
trim_kept true true = mark (codes "%%") refl

-- ---- arithmetic

unary_kept : (o : UnOp) → Kept (unary_text o)
unary_kept unary.Plus = mark (codes "+") refl
unary_kept unary.Minus = mark (codes "-") refl
unary_kept unary.Not = mark (codes "!") refl
unary_kept unary.Complement = mark (codes "~") refl

binary_kept : (o : BinOp) → Kept (binary_text o)
binary_kept op.Power = mark (codes "**") refl
binary_kept op.Times = mark (codes "*") refl
binary_kept op.Divide = mark (codes "/") refl
binary_kept op.Remainder = mark (codes "%") refl
binary_kept op.Add = mark (codes "+") refl
binary_kept op.Subtract = mark (codes "-") refl
binary_kept op.ShiftLeft = mark (codes "<<") refl
binary_kept op.ShiftRight = mark (codes ">>") refl
binary_kept op.Less = mark (codes "<") refl
binary_kept op.AtMost = mark (codes "<=") refl
binary_kept op.Greater = mark (codes ">") refl
binary_kept op.AtLeast = mark (codes ">=") refl
binary_kept op.Equal = mark (codes "==") refl
binary_kept op.Unequal = mark (codes "!=") refl
binary_kept op.BitAnd = mark (codes "&") refl
binary_kept op.BitXor = mark (codes "^") refl
binary_kept op.BitOr = mark (codes "|") refl

infix_kept : (i : Infix) → Kept (infix_op i)
infix_kept (Plain o) = binary_kept o
infix_kept And = mark (codes "&&") refl
infix_kept Or = mark (codes "||") refl
infix_kept Comma = mark (codes ",") refl

assigned_kept : (o : Option BinOp) → Kept (assigned_text o)
assigned_kept None = mark (codes "=") refl
assigned_kept (Some o) = binary_kept o before mark (codes "=") refl

pub space : Kept (32 ∷ [])
space = mark (32 ∷ []) refl

decimal_kept : (m : ℕ) → nat_le m greatest ≡ true → Kept (decimal m)
decimal_kept m e = let le = leb-true m greatest e in digits_kept (decimal m) (digits_all m (omega arith))

-- a form, by its operands
form_kept : (check : ℕ → ℕ → Bool) (operand : ℕ → Text) → ((m d : ℕ) → check m d ≡ true → Kept (operand m)) → (f : Form) (d n k : ℕ) → Good check d n k f → Kept (form_text operand f)
form_kept check operand known (literal m) d n k g = decimal_kept m g.0
form_kept check operand known (expanded m) d n k g = known m d g.1
form_kept check operand known (variable text) d n k g = name_kept text g.0
form_kept check operand known (member text f) d n k g = absurd g
form_kept check operand known (parens f) d n k g = mark (40 ∷ []) refl before form_kept check operand known f (suc d) n k g.1 before mark (41 ∷ []) refl
form_kept check operand known (prefixed o f) d n k g = unary_kept o before (space before form_kept check operand known f d n k g)
form_kept check operand known (stepped o f) d n k g = absurd g
form_kept check operand known (between i f h) d n k g = form_kept check operand known f d n g.1 g.2 before (space before infix_kept i) before (space before form_kept check operand known h d g.1 k g.3)
form_kept check operand known (chosen f h e) d n k g =
    (form_kept check operand known f d n g.0 g.2 before (space before mark (codes "?") refl) before (space before form_kept check operand known h d g.0 g.1 g.3))
    before (space before mark (codes ":") refl) before (space before form_kept check operand known e d g.1 k g.4)
form_kept check operand known (assigned f o h) d n k g = form_kept check operand known f d n g.2 g.3 before (space before assigned_kept o) before (space before form_kept check operand known h d g.2 k g.4)

-- ---- marks between nodes

pub none : Kept []
none = mark [] refl

pub gap_kept : (owed : Text) → Kept owed → Kept (gap owed)
gap_kept [] x = space
gap_kept (b ∷ bs) x = mark (10 ∷ []) refl before x

pub ended_kept : (end : End) (owed : Text) → Kept owed → Kept (ended end owed)
ended_kept piped owed x = mark (codes " |") refl before gap_kept owed x
ended_kept and_then owed x = mark (codes " &&") refl before gap_kept owed x
ended_kept or_else owed x = mark (codes " ||") refl before gap_kept owed x
ended_kept next [] x = mark (codes "; ") refl
ended_kept next (b ∷ bs) x = mark (10 ∷ []) refl before x
ended_kept line owed x = mark (10 ∷ []) refl before x

pub led_kept : (behind : Bool) (t : Text) → Kept t → Kept (led behind t)
led_kept true t x = space before x
led_kept false t x = x

pub key_kept : (until : Bool) → Kept (loop_key until)
key_kept true = mark (codes "until ") refl
key_kept false = mark (codes "while ") refl

pub fd_kept : (fd : Option ℕ) → Printable.fd_fits fd ≡ true → Kept (fd_text fd)
fd_kept None e = none
fd_kept (Some n) e = let lt = ltb-true n 10 e in digits_kept (decimal n) (digits_all n (omega arith))

pub opened : (o : Bool) (opening : Text) → Kept opening → Kept (behind_opening o opening)
opened true opening x = space
opened false opening x = x

pub owed_word : (o : Bool) (owed : Text) → Kept owed → Kept (behind_word o owed)
owed_word true owed x = none
owed_word false owed x = x

pub whole_kept : (body : Text) → Kept body → Kept (whole_body true body)
whole_kept body x = x before delimiter_kept body before mark (10 ∷ []) refl

-- the text of a literal body
lines_kept : (q : Bool) (t : Text) → list_all Printable.is_body_byte t ≡ true → is_unjoined q t ≡ true → (q ≡ true → starts (λ b. b == 10) t ≡ false) → ends_with 10 t ≡ true → kept q t ≡ true
lines_kept q [] e f g l = absurd (false≢true l)
lines_kept true (b ∷ []) e f g l = absurd (false≢true (sym (g refl) ∙ l))
lines_kept false (b ∷ []) e f g l = rw (eqb-true b 10 l) refl
lines_kept true (b ∷ c ∷ cs) e f g l = let x = both (not (b == 0)) (list_all Printable.is_body_byte (c ∷ cs)) e in rw (x.0, g refl, lines_kept false (c ∷ cs) x.1 f (λ i. absurd cc) l) refl
lines_kept false (b ∷ c ∷ cs) e f g l =
    let x = both (not (b == 0)) (list_all Printable.is_body_byte (c ∷ cs)) e in
    let y = both (not (is_join b (c ∷ cs))) (is_unjoined (b == 92) (c ∷ cs)) f in
    rw (x.0, lines_kept (b == 92) (c ∷ cs) x.1 y.1 (no_line b (c ∷ cs) (isnt (is_join b (c ∷ cs)) y.0)) l) refl

pub literal_body_kept : (w : shape.Parts) → Printable.literal_body true w ≡ true → Kept (body_of w)
literal_body_kept no_part e = none
literal_body_kept (part (plain text) no_part) e =
    let x = three (ends_with 10 text) (list_all Printable.is_body_byte text) (is_unjoined false text) e in
    record { is = lines_kept false text x.1 x.2 (λ i. absurd cc) x.0 } before none
literal_body_kept (part (plain text) (part p ps)) e = absurd (false≢true e)
literal_body_kept (part (exact text) ps) e = absurd (false≢true e)
literal_body_kept (part (double qs) ps) e = absurd (false≢true e)
literal_body_kept (part tilde ps) e = absurd (false≢true e)
literal_body_kept (part (param p o) ps) e = absurd (false≢true e)
literal_body_kept (part (listing s) ps) e = absurd (false≢true e)
literal_body_kept (part (sum x ws) ps) e = absurd (false≢true e)

copied_byte : (b : ℕ) → is_copied b ≡ true → Kept (b ∷ [])
copied_byte b e = tame_by is_copied (b ∷ []) refl refl (rw e refl)

copied_text : (t : Text) → Printable.is_copied_text t ≡ true → Kept t
copied_text [] e = absurd (false≢true e)
copied_text (b ∷ []) e = copied_byte b e
copied_text (b ∷ c ∷ bs) e = absurd (false≢true e)

pub copied_kept : (opening : Text) (w : shape.Parts) → Printable.is_copied_word w ≡ true → Kept (parts_text true in_word opening w)
copied_kept opening no_part e = none
copied_kept opening (part (plain text) no_part) e = copied_text text e before none
copied_kept opening (part (plain text) (part p ps)) e = absurd (false≢true e)
copied_kept opening (part (exact text) ps) e = absurd (false≢true e)
copied_kept opening (part (double qs) ps) e = absurd (false≢true e)
copied_kept opening (part tilde ps) e = absurd (false≢true e)
copied_kept opening (part (param p o) ps) e = absurd (false≢true e)
copied_kept opening (part (listing s) ps) e = absurd (false≢true e)
copied_kept opening (part (sum x ws) ps) e = absurd (false≢true e)

pub sum_kept : (checks : List (ℕ → Bool)) (operand : ℕ → Text) (d : ℕ) (e : Expr) → sum_fits checks d e ≡ true → ((m d : ℕ) → nth_check checks m d ≡ true → Kept (operand m)) → Kept (expr_text operand e)
sum_kept checks operand d e h known =
    let s = sum_shown checks d e h in
    subst Kept (sym (s.text operand)) (form_kept (nth_check checks) operand known s.form d 0 (length checks) s.good)
