-- The tokens of a form's text are those of the form.
use Rattle.std.proofs.Common.{◌≡◌, ℕ, zero, suc, ◌+◌, ◌≤◌, ◌<◌, ◌^◌, ◌/◌, ◌%◌, Bool, true, false, List, [], ◌∷◌, ◌++◌, length, Option, Some, None, refl, sym, ap, ◌∙◌, arith, append_assoc}
use Rattle.std.specs.Prelude.{◌&&◌, ◌||◌, ◌==◌, nat_le, codes, if◌then◌else◌, slice_index}
use Rattle.std.specs.List.{list_all}
use Rattle.std.specs.Fmt.{decimal}
use Rattle.std.specs.Char.{is_digit as digit_passes, digit_value}
use Rattle.std.specs.Str.Parse.{digits_value, AllDigits}
use Rattle.std.proofs.lemmas.List.{append-nil}
use Rattle.std.proofs.lemmas.Bool.{leb-true, ne_eqb, false≢true, lt-ltb}
use Rattle.std.proofs.lemmas.Fmt.{decimal_by_steps, decimal_is_IsNumeral, decimal_digit}
use Rattle.span_text.specs.Names.{is_digit, is_letter, continues_name, is_name}
use Rattle.span_text.specs.Constant.{unsigned_constant, number_of, radix_of, digits_of, is_hexadecimal}
use Rattle.span_text.specs.ExprTokens.{Cell, byte, expansion, Token, number, name, operand, sign, sign_of, longer, Begun, gap, word, operator, whole, is_gap, grown, greatest, finished, ◌then◌, tokens}
use Rattle.span_text.specs.declared.expr.UnOp.{UnOp}
use Rattle.span_text.specs.declared.expr.UnOp.TheVariants as unary
use Rattle.span_text.specs.declared.expr.BinOp.{BinOp}
use Rattle.span_text.specs.declared.expr.BinOp.TheVariants as op
use Rattle.span_text.specs.declared.sign.Infix.{Infix}
use Rattle.span_text.specs.declared.sign.Infix.TheVariants.{Plain, And, Or, Comma}
use Rattle.span_text.specs.declared.sign.Sign.TheVariants.{Between, Assign, Question, Colon, Open, Close}
use Rattle.span_text.specs.Expressions.{Form, literal, expanded, variable, member, group, prefixed, stepped, between, chosen, assigned, prefix, written}
use Rattle.span_text.proofs.Bytes.{apart}
use Rattle.sh_grammar.specs.Bytes.{Text}
use Rattle.sh_printing.specs.Sums.{unary_text, assigned_text}
use Rattle.sh_printing.specs.Spellable.{assigns}
use Rattle.sh_printing.proofs.BackBytes.{both, name_all, and_no}
use Rattle.sh_printing.proofs.BackParams.{digit_begins}
use Rattle.sh_printing.proofs.BackDelimiters.{digits_all, all_by}
use Rattle.sh_printing.proofs.BackForms.{infix_op, is_sh_infix, Good}

-- ---- the cells of a form

-- bytes before other cells
abbrev pub put : Text → List Cell → List Cell
put [] cs = cs
put (b ∷ bs) cs = byte b ∷ put bs cs

abbrev pub infix_mark : Infix → Text
infix_mark i = 32 ∷ infix_op i ++ 32 ∷ []

abbrev pub assign_mark : Option BinOp → Text
assign_mark o = 32 ∷ assigned_text o ++ 32 ∷ []

abbrev pub unary_mark : UnOp → Text
unary_mark o = unary_text o ++ 32 ∷ []

-- the cells of a form that is printed, and others behind them
abbrev pub form_cells : Form → List Cell → List Cell
form_cells (literal m) cs = put (decimal m) cs
form_cells (expanded m) cs = expansion m ∷ cs
form_cells (variable text) cs = put text cs
form_cells (member text f) cs = put text (byte 91 ∷ form_cells f (byte 93 ∷ cs))
form_cells (group f) cs = byte 40 ∷ form_cells f (byte 41 ∷ cs)
form_cells (prefixed o f) cs = put (unary_mark o) (form_cells f cs)
form_cells (stepped o f) cs = form_cells f cs
form_cells (between i f g) cs = form_cells f (put (infix_mark i) (form_cells g cs))
form_cells (chosen f g h) cs = form_cells f (put (codes " ? ") (form_cells g (put (codes " : ") (form_cells h cs))))
form_cells (assigned f o g) cs = form_cells f (put (assign_mark o) (form_cells g cs))

-- what may stand behind a form: nothing, a blank, or a closing parenthesis
data Tail : Type 0 where
  ended : Tail
  blank : List Cell → Tail
  closing : List Cell → Tail

abbrev tail_cells : Tail → List Cell
tail_cells ended = []
tail_cells (blank cs) = byte 32 ∷ cs
tail_cells (closing cs) = byte 41 ∷ cs

-- ---- what was begun ends there

record Ends (x : Begun) (ts : List Token) : Type 0 where
  done : finished x ≡ Some ts
  at_blank : grown x (byte 32) ≡ None
  at_close : grown x (byte 41) ≡ None

none_left : (us : List Token) → Some [] ≡ Some us → us ≡ []
none_left us e = cc

nothing_before : (o : Option (List Token)) → (Some [] then o) ≡ o
nothing_before None = refl
nothing_before (Some ts) = refl

finish : (x : Begun) (ts us : List Token) (t : Tail) → Ends x ts → tokens gap (tail_cells t) ≡ Some us → tokens x (tail_cells t) ≡ Some (ts ++ us)
unfolding is_gap sign_of continues_name
finish x ts us ended e f = e.done ∙ ap Some (sym (append-nil ts) ∙ ap (λ (z : List Token). ts ++ z) (sym (none_left us f)))
finish x ts us (blank cs) e f = rw (e.at_blank, e.done) (ap (λ (z : Option (List Token)). Some ts then z) (sym (nothing_before (tokens gap cs)) ∙ f))
finish x ts us (closing cs) e f = rw (e.at_close, e.done) (ap (λ (z : Option (List Token)). Some ts then z) (sym (nothing_before (tokens (operator Close) cs)) ∙ f))

-- ---- words

word_end : (w : Text) (ts : List Token) → finished (word w) ≡ Some ts → Ends (word w) ts
unfolding continues_name
word_end w ts e = record { done = e; at_blank = refl; at_close = refl }

word_more : (w bs : Text) (cs : List Cell) → list_all continues_name bs ≡ true → tokens (word w) (put bs cs) ≡ tokens (word (w ++ bs)) cs
word_more w [] cs e = ap (λ (z : Text). tokens (word z) cs) (sym (append-nil w))
word_more w (b ∷ bs) cs e =
    let x = both (continues_name b) (list_all continues_name bs) e in
    rw x.0 (word_more (w ++ b ∷ []) bs cs x.1 ∙ ap (λ (z : Text). tokens (word z) cs) (append_assoc w (b ∷ []) bs))

no_gap : (b : ℕ) → continues_name b ≡ true → is_gap b ≡ false
unfolding is_gap continues_name
no_gap b e = rw (apart continues_name b 32 e refl, apart continues_name b 9 e refl, apart continues_name b 10 e refl) refl

word_read : (w : Text) (ts us : List Token) (t : Tail) → list_all continues_name w ≡ true → (w ≡ [] → ⊥) → finished (word w) ≡ Some ts → tokens gap (tail_cells t) ≡ Some us → tokens gap (put w (tail_cells t)) ≡ Some (ts ++ us)
word_read [] ts us t e n f h = absurd (n refl)
word_read (b ∷ bs) ts us t e n f h =
    let x = both (continues_name b) (list_all continues_name bs) e in
    rw (no_gap b x.0, x.0) (ap (λ (z : Option (List Token)). Some [] then z) (word_more (b ∷ []) bs (tail_cells t) x.1 ∙ finish (word (b ∷ bs)) ts us t (word_end (b ∷ bs) ts f) h))

-- ---- constants

abbrev digit_first : (m : ℕ) (ds : Text) → Type 0
digit_first m [] = ⊥
digit_first m (b ∷ bs) = 0 < m → (b == 48) ≡ false

first_stays : (m : ℕ) (ds : Text) (b : ℕ) → 10 ≤ m → digit_first (m / 10) ds → digit_first m (ds ++ b ∷ [])
first_stays m [] b le h = absurd h
first_stays m (d ∷ ds) b le h = λ lt. h (omega arith)

-- no zero stands first but in 0
first_of : (m : ℕ) → m < 2 ^ 64 → digit_first m (decimal m)
first_of = decimal_by_steps digit_first (λ m lt some. ne_eqb (48 + m) 48 (λ is. absurd (omega arith))) (λ m ds le h. first_stays m ds (48 + m % 10) le h)

digits_pass : (ds : Text) → AllDigits 10 ds → list_all (λ b. digit_passes b 10) ds ≡ true
digits_pass [] a = refl
digits_pass (d ∷ ds) a = rw (lt-ltb (digit_value d) 10 a.0, digits_pass ds a.1) refl

name_free : (t : Text) → list_all is_digit t ≡ true → is_name t ≡ false
name_free [] e = refl
name_free (b ∷ bs) e = rw (digit_begins b (both (is_digit b) (list_all is_digit bs) e).0) refl

hex_free : (t : Text) → list_all is_digit t ≡ true → is_hexadecimal t ≡ false
hex_free [] e = refl
hex_free (b ∷ []) e = and_no (b == 48)
hex_free (b ∷ c ∷ cs) e =
    let x = both (is_digit b) (is_digit c && list_all is_digit cs) e in
    let y = both (is_digit c) (list_all is_digit cs) x.1 in
    rw (apart is_digit c 120 y.0 refl, apart is_digit c 88 y.0 refl) (and_no (b == 48))

number_by : (all : Bool) (v m most : ℕ) → all ≡ true → v ≡ m → nat_le m most ≡ true → (if all && nat_le v most then Some v else None) ≡ Some m
number_by all v m most a e le = rw (a, e, le) refl

ten_read : (m : ℕ) (b : ℕ) (bs : Text) → AllDigits 10 (b ∷ bs) → digits_value 10 (b ∷ bs) ≡ m → nat_le m greatest ≡ true → number_of greatest 10 (b ∷ bs) ≡ Some m
unfolding number_of
ten_read m b bs a v le = number_by (list_all (λ b. digit_passes b 10) (b ∷ bs)) (digits_value 10 (b ∷ bs)) m greatest (digits_pass (b ∷ bs) a) v le

decimal_radix : (hex : Bool) (t : Text) → is_hexadecimal t ≡ hex → hex ≡ false → (slice_index t 0 == 48) ≡ false → (radix_of t ≡ 10) × (digits_of t ≡ t)
decimal_radix hex t h e f = let g = h ∙ e in (rw (g, f) refl, rw g refl)

constant_by : (m : ℕ) (t : Text) → 0 < m → list_all is_digit t ≡ true → digit_first m t → AllDigits 10 t → digits_value 10 t ≡ m → nat_le m greatest ≡ true → unsigned_constant greatest t ≡ Some m
constant_by m [] some e f a v le = absurd f
constant_by m (b ∷ bs) some e f a v le =
    let x = decimal_radix (is_hexadecimal (b ∷ bs)) (b ∷ bs) refl (hex_free (b ∷ bs) e) (f some) in
    ap (λ (z : ℕ). number_of greatest z (digits_of (b ∷ bs))) x.0 ∙ ap (number_of greatest 10) x.1 ∙ ten_read m b bs a v le

zero_read : unsigned_constant greatest (48 ∷ []) ≡ Some 0
unfolding number_of
zero_read = refl

constant_read : (m : ℕ) → nat_le m greatest ≡ true → unsigned_constant greatest (decimal m) ≡ Some m
constant_read zero le = ap (unsigned_constant greatest) (decimal_digit 0 (omega arith)) ∙ zero_read
constant_read (suc m) le =
    let lo = leb-true (suc m) greatest le in
    let lt : suc m < 2 ^ 64 = omega arith in
    let n = decimal_is_IsNumeral (suc m) lt in
    constant_by (suc m) (decimal (suc m)) (omega arith) (digits_all (suc m) lt) (first_of (suc m) lt) n.0.1 n.1 le

number_done : (m : ℕ) → nat_le m greatest ≡ true → finished (word (decimal m)) ≡ Some (number m ∷ [])
number_done m le =
    let lo = leb-true m greatest le in
    let lt : m < 2 ^ 64 = omega arith in
    rw (name_free (decimal m) (digits_all m lt), constant_read m le) refl

some_digits : (t : Text) → AllDigits 10 t → 0 < length t → t ≡ [] → ⊥
some_digits t a lt e = absurd (omega (arith, ap length e))

or_true : (a : Bool) → (a || true) ≡ true
or_true true = refl
or_true false = refl

digit_goes_on : (b : ℕ) → is_digit b ≡ true → continues_name b ≡ true
unfolding continues_name
digit_goes_on b e = rw e (or_true (is_letter b))

name_done : (t : Text) → is_name t ≡ true → finished (word t) ≡ Some (name t ∷ [])
name_done t e = rw e refl

some_name : (t : Text) → is_name t ≡ true → t ≡ [] → ⊥
some_name [] e is = absurd (false≢true e)
some_name (b ∷ bs) e is = absurd cc

-- ---- operators

unary_read : (o : UnOp) (cs : List Cell) (us : List Token) → tokens gap cs ≡ Some us → tokens gap (put (unary_mark o) cs) ≡ Some (sign (prefix o) ∷ us)
unfolding sign_of longer is_gap continues_name
unary_read unary.Plus cs us e = rw e refl
unary_read unary.Minus cs us e = rw e refl
unary_read unary.Not cs us e = rw e refl
unary_read unary.Complement cs us e = rw e refl

infix_read : (i : Infix) (cs : List Cell) (us : List Token) → is_sh_infix i ≡ true → tokens gap cs ≡ Some us → tokens gap (put (infix_mark i) cs) ≡ Some (sign (Between i) ∷ us)
unfolding sign_of longer is_gap continues_name
infix_read And cs us s e = rw e refl
infix_read Or cs us s e = rw e refl
infix_read Comma cs us s e = absurd (false≢true s)
infix_read (Plain op.Power) cs us s e = absurd (false≢true s)
infix_read (Plain op.Times) cs us s e = rw e refl
infix_read (Plain op.Divide) cs us s e = rw e refl
infix_read (Plain op.Remainder) cs us s e = rw e refl
infix_read (Plain op.Add) cs us s e = rw e refl
infix_read (Plain op.Subtract) cs us s e = rw e refl
infix_read (Plain op.ShiftLeft) cs us s e = rw e refl
infix_read (Plain op.ShiftRight) cs us s e = rw e refl
infix_read (Plain op.Less) cs us s e = rw e refl
infix_read (Plain op.AtMost) cs us s e = rw e refl
infix_read (Plain op.Greater) cs us s e = rw e refl
infix_read (Plain op.AtLeast) cs us s e = rw e refl
infix_read (Plain op.Equal) cs us s e = rw e refl
infix_read (Plain op.Unequal) cs us s e = rw e refl
infix_read (Plain op.BitAnd) cs us s e = rw e refl
infix_read (Plain op.BitXor) cs us s e = rw e refl
infix_read (Plain op.BitOr) cs us s e = rw e refl

assign_read : (o : Option BinOp) (cs : List Cell) (us : List Token) → assigns o ≡ true → tokens gap cs ≡ Some us → tokens gap (put (assign_mark o) cs) ≡ Some (sign (Assign o) ∷ us)
unfolding sign_of longer is_gap continues_name
assign_read None cs us s e = rw e refl
assign_read (Some op.Times) cs us s e = rw e refl
assign_read (Some op.Divide) cs us s e = rw e refl
assign_read (Some op.Remainder) cs us s e = rw e refl
assign_read (Some op.Add) cs us s e = rw e refl
assign_read (Some op.Subtract) cs us s e = rw e refl
assign_read (Some op.ShiftLeft) cs us s e = rw e refl
assign_read (Some op.ShiftRight) cs us s e = rw e refl
assign_read (Some op.BitAnd) cs us s e = rw e refl
assign_read (Some op.BitXor) cs us s e = rw e refl
assign_read (Some op.BitOr) cs us s e = rw e refl
assign_read (Some op.Power) cs us s e = absurd (false≢true s)
assign_read (Some op.Less) cs us s e = absurd (false≢true s)
assign_read (Some op.AtMost) cs us s e = absurd (false≢true s)
assign_read (Some op.Greater) cs us s e = absurd (false≢true s)
assign_read (Some op.AtLeast) cs us s e = absurd (false≢true s)
assign_read (Some op.Equal) cs us s e = absurd (false≢true s)
assign_read (Some op.Unequal) cs us s e = absurd (false≢true s)

question_read : (cs : List Cell) (us : List Token) → tokens gap cs ≡ Some us → tokens gap (put (codes " ? ") cs) ≡ Some (sign Question ∷ us)
unfolding sign_of longer is_gap continues_name
question_read cs us e = rw e refl

colon_read : (cs : List Cell) (us : List Token) → tokens gap cs ≡ Some us → tokens gap (put (codes " : ") cs) ≡ Some (sign Colon ∷ us)
unfolding sign_of longer is_gap continues_name
colon_read cs us e = rw e refl

close_read : (t : Tail) (us : List Token) → tokens gap (tail_cells t) ≡ Some us → tokens gap (byte 41 ∷ tail_cells t) ≡ Some (sign Close ∷ us)
unfolding sign_of longer is_gap continues_name
close_read t us e = ap (λ (z : Option (List Token)). Some [] then z) (finish (operator Close) (sign Close ∷ []) us t (record { done = refl; at_blank = refl; at_close = refl }) e)

-- nothing makes an opening parenthesis longer
open_read : (cs : List Cell) (us : List Token) → tokens gap cs ≡ Some us → tokens gap (byte 40 ∷ cs) ≡ Some (sign Open ∷ us)
unfolding sign_of longer is_gap continues_name
open_read [] us e = ap (λ (z : List Token). Some (sign Open ∷ z)) (sym (none_left us e))
open_read (byte b ∷ cs) us e = ap (λ (z : Option (List Token)). Some [] then ((Some (sign Open ∷ [])) then z)) (sym (nothing_before _) ∙ e)
open_read (expansion m ∷ cs) us e = ap (λ (z : Option (List Token)). Some [] then ((Some (sign Open ∷ [])) then z)) (sym (nothing_before (tokens (whole (operand m)) cs)) ∙ e)

-- ---- forms

reads : (check : ℕ → ℕ → Bool) (f : Form) (d n k : ℕ) → Good check d n k f → (t : Tail) (us : List Token) → tokens gap (tail_cells t) ≡ Some us → tokens gap (form_cells f (tail_cells t)) ≡ Some (written f us)
reads check (literal m) d n k g t us e =
    let le = leb-true m greatest g.0 in
    let lt : m < 2 ^ 64 = omega arith in
    let x = decimal_is_IsNumeral m lt in
    word_read (decimal m) (number m ∷ []) us t (all_by is_digit continues_name digit_goes_on (decimal m) (digits_all m lt)) (some_digits (decimal m) x.0.1 x.0.0) (number_done m g.0) e
reads check (expanded m) d n k g t us e = ap (λ (z : Option (List Token)). Some [] then z) (finish (whole (operand m)) (operand m ∷ []) us t (record { done = refl; at_blank = refl; at_close = refl }) e)
reads check (variable text) d n k g t us e = word_read text (name text ∷ []) us t (name_all text g.0) (some_name text g.0) (name_done text g.0) e
reads check (member text f) d n k g t us e = absurd g
reads check (group f) d n k g t us e = open_read (form_cells f (byte 41 ∷ tail_cells t)) (written f (sign Close ∷ us)) (reads check f (suc d) n k g.1 (closing (tail_cells t)) (sign Close ∷ us) (close_read t us e))
reads check (prefixed o f) d n k g t us e = unary_read o (form_cells f (tail_cells t)) (written f us) (reads check f d n k g t us e)
reads check (stepped o f) d n k g t us e = absurd g
reads check (between i f h) d n k g t us e =
    reads check f d n g.1 g.2 (blank (put (infix_op i ++ 32 ∷ []) (form_cells h (tail_cells t)))) (sign (Between i) ∷ written h us)
    (infix_read i (form_cells h (tail_cells t)) (written h us) g.0 (reads check h d g.1 k g.3 t us e))
reads check (chosen f h p) d n k g t us e =
    reads check f d n g.0 g.2 (blank (put (codes "? ") (form_cells h (put (codes " : ") (form_cells p (tail_cells t)))))) (sign Question ∷ written h (sign Colon ∷ written p us))
    (question_read (form_cells h (put (codes " : ") (form_cells p (tail_cells t)))) (written h (sign Colon ∷ written p us))
    (reads check h d g.0 g.1 g.3 (blank (put (codes ": ") (form_cells p (tail_cells t)))) (sign Colon ∷ written p us)
    (colon_read (form_cells p (tail_cells t)) (written p us) (reads check p d g.1 k g.4 t us e))))
reads check (assigned f o h) d n k g t us e =
    reads check f d n g.2 g.3 (blank (put (assigned_text o ++ 32 ∷ []) (form_cells h (tail_cells t)))) (sign (Assign o) ∷ written h us)
    (assign_read o (form_cells h (tail_cells t)) (written h us) g.1 (reads check h d g.2 k g.4 t us e))

-- the tokens of the cells of a form
pub form_read : (check : ℕ → ℕ → Bool) (f : Form) (d n k : ℕ) → Good check d n k f → tokens gap (form_cells f []) ≡ Some (written f [])
form_read check f d n k g = reads check f d n k g ended [] refl
