-- Arithmetic expressions that are checked: where they stand, and chains of operators.
use Rattle.std.proofs.Common.{◌≡◌, ℕ, ◌+◌, ◌-◌, ◌*◌, ◌/◌, ◌^◌, ◌≤◌, ◌<◌, zero, suc, Bool, true, false, not, ◌&&◌, ◌||◌, ◌==◌, refl, sym, ap, ◌∙◌, arith}
use Rattle.std.specs.Prelude.{ℤ, pos, negsuc, nat_le, nat_lt, Option, Some, None, if◌then◌else◌}
use Rattle.std.proofs.Math.Nat.{pow-succ'}
use mir.Syntax.{w64}
use mir.Val.{SFits}
use Rattle.std.proofs.lemmas.Bool.{le-leb, lt-leb, leb-true}
use Rattle.span_text.specs.declared.expr.BinOp.{BinOp}
use Rattle.span_text.specs.declared.expr.BinOp.TheVariants.{Power, Times, Divide, Remainder, Add, Subtract, ShiftLeft, ShiftRight, Less, AtMost, Greater, AtLeast, Equal, Unequal, BitAnd, BitXor, BitOr}
use Rattle.span_text.specs.Names.{is_name}
use Rattle.span_text.specs.declared.expr.StepOp.{StepOp}
use Rattle.span_text.specs.declared.expr.UnOp.{UnOp}
use Rattle.span_text.specs.declared.expr.Expr.{Expr}
use Rattle.span_text.specs.declared.expr.Expr.TheOpen.{Expr-F}
use Rattle.span_text.specs.declared.expr.Expr.TheOpen as layer
use Rattle.span_text.specs.declared.expr.Expr.TheViews.{roll-Expr, out-Expr, out-roll-Expr, roll-out-Expr}
use Rattle.span_text.specs.declared.expr.Expr.TheFolds.{map-Expr, fold-roll-Expr}
use Rattle.span_text.specs.declared.sign.Infix.TheVariants as sign
use Rattle.span_text.specs.Expressions.{level, left_level}
use Rattle.span_text.specs.ExprTokens.{greatest}
use Rattle.sh_grammar.specs.Bytes.{Text}
use Rattle.sh_grammar.specs.Expansions.{◌>>=◌}
use Rattle.sh_grammar.specs.Steps.{limit}
use Rattle.sh_printer.specs.Chains.{if_bare, first_step, first_of, has_first_by, has_first, next_by, next_down, down, Chained}
use Rattle.sh_printer.specs.Levels.{level_step, own_level}
use Rattle.sh_printer.specs.SumChecks.{Check, Counting, Counts, fits, few_fit, halves_fit, is_constant, is_variable, known, last_fits, last_step, operand_counts, operators_fit, power_fits, variable_step}
use Rattle.sh_printer.specs.declared.checking.checks.SumChecks.{SumChecks}
use Rattle.sh_printer.proofs.SumTexts.{own_is}
use Rattle.sh_printing.specs.Spellable.{Inside, Placed, assigns, is_power, one, place_step, placed, placed_if}

-- ---- an expression opened once

pub fits_is : (check : Check) (e : Expr) (x : Expr-F Expr) (w d n : ℕ) → e ≡ roll-Expr x → fits check e w d n ≡ (place_step check (map-Expr Expr Placed (placed check) x)).fits w d n
unfolding fits placed
fits_is check e x w d n is = ap (λ (z : Expr). (placed check z).fits w d n) is ∙ ap (λ (p : Placed). p.fits w d n) (fold-roll-Expr Placed (place_step check) x)

pub if_fits : (b : Bool) (p : Placed) (w d n : ℕ) → (placed_if b p).fits w d n ≡ (if b then p.fits w d n else None)
if_fits true p w d n = refl
if_fits false p w d n = refl

-- an expression of a level of its own
abbrev levelled : ℕ → Inside → Placed
levelled own f = record { is_variable = false; fits = λ wanted d n. if nat_le wanted own then f d n else (if nat_lt d limit then f (suc d) n else None) }

-- what stands bare, or one level deeper
abbrev placed_at : (own : ℕ) → Placed → (w d n : ℕ) → Option ℕ
placed_at own p w d n = if (own == 15) || nat_le w own then p.fits 0 d n else (if nat_lt d limit then p.fits 0 (suc d) n else None)

-- there are no operands
abbrev nothing : Option ℕ
nothing = None

abbrev none_of : Counting
none_of k = None

none_both : (a b : Bool) → nothing ≡ (if a then nothing else (if b then nothing else nothing))
none_both true b = refl
none_both false true = refl
none_both false false = refl

placed_level : (b : Bool) (own : ℕ) (f : Inside) (w d n : ℕ) → (own == 15) ≡ false → (placed_if b (levelled own f)).fits w d n ≡ placed_at own (placed_if b (levelled own f)) w d n
placed_level false own f w d n is = none_both ((own == 15) || nat_le w own) (nat_lt d limit)
placed_level true own f w d n is = rw (is, le-leb 0 own (omega arith)) refl

not_fifteen : (op : BinOp) → (level (sign.Plain op) == 15) ≡ false
not_fifteen Power = refl
not_fifteen Times = refl
not_fifteen Divide = refl
not_fifteen Remainder = refl
not_fifteen Add = refl
not_fifteen Subtract = refl
not_fifteen ShiftLeft = refl
not_fifteen ShiftRight = refl
not_fifteen Less = refl
not_fifteen AtMost = refl
not_fifteen Greater = refl
not_fifteen AtLeast = refl
not_fifteen Equal = refl
not_fifteen Unequal = refl
not_fifteen BitAnd = refl
not_fifteen BitXor = refl
not_fifteen BitOr = refl

layer_stands : (check : Check) (x : Expr-F Expr) (w d n : ℕ) → (place_step check (map-Expr Expr Placed (placed check) x)).fits w d n ≡ placed_at (level_step (map-Expr Expr ℕ own_level x)) (place_step check (map-Expr Expr Placed (placed check) x)) w d n
layer_stands check (layer.Constant (pos k)) w d n = if_fits (nat_le k greatest) (one (λ d n. Some n)) w d n ∙ sym (if_fits (nat_le k greatest) (one (λ d n. Some n)) 0 d n)
layer_stands check (layer.Constant (negsuc k)) w d n = refl
layer_stands check (layer.Name text) w d n = if_fits (is_name text) (record { is_variable = true; fits = λ wanted d n. Some n }) w d n ∙ sym (if_fits (is_name text) (record { is_variable = true; fits = λ wanted d n. Some n }) 0 d n)
layer_stands check (layer.Operand k) w d n = refl
layer_stands check (layer.Member text a) w d n = refl
layer_stands check (layer.Unary op a) w d n = refl
layer_stands check (layer.Step op a) w d n = none_both (nat_le w 14) (nat_lt d limit)
layer_stands check (layer.Binary op a b) w d n = placed_level (not (is_power op)) (level (sign.Plain op)) _ w d n (not_fifteen op)
layer_stands check (layer.And a b) w d n = refl
layer_stands check (layer.Or a b) w d n = refl
layer_stands check (layer.Comma a b) w d n = none_both (nat_le w 0) (nat_lt d limit)
layer_stands check (layer.Assign a op b) w d n = placed_level _ 1 _ w d n refl
layer_stands check (layer.Choose a b c) w d n = refl

-- an expression fits as it stands, or one level deeper where it is looser than what is asked for
stands : (check : Check) (e : Expr) (w d n : ℕ) → fits check e w d n ≡ (if (own_level e == 15) || nat_le w (own_level e) then fits check e 0 d n else (if nat_lt d limit then fits check e 0 (suc d) n else None))
unfolding fits
stands check e w d n =
    let x = out-Expr e in
    let is : e ≡ roll-Expr x = sym (roll-out-Expr e) in
    fits_is check e x w d n is ∙ layer_stands check x w d n ∙ rw (own_is e x is, fits_is check e x 0 d n is, fits_is check e x 0 (suc d) n is) refl

bare_by : (check : Check) (e : Expr) (w d n : ℕ) (bare : Bool) → ((own_level e == 15) || nat_le w (own_level e)) ≡ bare → fits check e w d n ≡ (if bare then fits check e 0 d n else (if nat_lt d limit then fits check e 0 (suc d) n else None))
bare_by check e w d n bare is = stands check e w d n ∙ ap (λ (b : Bool). if b then fits check e 0 d n else (if nat_lt d limit then fits check e 0 (suc d) n else None)) is

pub fits_where : (check : Check) (e : Expr) (w d n : ℕ) → ((own_level e == 15) || nat_le w (own_level e)) ≡ true → fits check e 0 d n ≡ fits check e w d n
fits_where check e w d n is = sym (bare_by check e w d n true is)

pub fits_closed : (check : Check) (e : Expr) (w d n : ℕ) → ((own_level e == 15) || nat_le w (own_level e)) ≡ false → nat_lt d limit ≡ true → fits check e 0 (suc d) n ≡ fits check e w d n
fits_closed check e w d n loose room = sym (bare_by check e w d n false loose ∙ rw room refl)

pub fits_nowhere : (check : Check) (e : Expr) (w d n : ℕ) → ((own_level e == 15) || nat_le w (own_level e)) ≡ false → nat_lt d limit ≡ false → nothing ≡ fits check e w d n
fits_nowhere check e w d n loose room = sym (bare_by check e w d n false loose ∙ rw room refl)

or_true : (a : Bool) → (a || true) ≡ true
or_true true = refl
or_true false = refl

pub fits_bare : (check : Check) (e : Expr) (w d n : ℕ) → nat_le w (own_level e) ≡ true → fits check e 0 d n ≡ fits check e w d n
fits_bare check e w d n is = sym (bare_by check e w d n true (ap (λ (b : Bool). (own_level e == 15) || b) is ∙ or_true (own_level e == 15)))

-- ---- operators between operands

bind_none : (o : Option ℕ) → (o >>= none_of) ≡ nothing
bind_none None = refl
bind_none (Some k) = refl

infix_by : (power : Bool) (check : Check) (own l r : ℕ) (a b : Expr) (d n : ℕ) → (placed_if (not power) (levelled own (λ d n. (placed check a).fits l d n >>= λ k. (placed check b).fits r d k))).fits 0 d n ≡ (fits check a l d n >>= power_fits power check b r d)
unfolding fits
infix_by true check own l r a b d n = sym (bind_none ((placed check a).fits l d n))
infix_by false check own l r a b d n = rw (le-leb 0 own (omega arith)) refl

last_at : (check : Check) (o : Option ℕ) (d : ℕ) (e : Expr) (x : Expr-F Expr) → e ≡ roll-Expr x → (o >>= last_fits check e d) ≡ (o >>= last_step check d x)
unfolding last_fits
last_at check None d e x is = refl
last_at check (Some k) d e x is = ap (λ (y : Expr-F Expr). last_step check d y k) (ap out-Expr is ∙ out-roll-Expr x)

pub last_one : (check : Check) (d n : ℕ) (e : Expr) (x : Expr-F Expr) → e ≡ roll-Expr x → last_fits check e d n ≡ last_step check d x n
last_one check d n e x is = last_at check (Some n) d e x is

-- an operator between operands, as its first operand and the operator
pub binary_counts : (check : Check) (op : BinOp) (a b e : Expr) (d n : ℕ) → e ≡ roll-Expr (layer.Binary op a b) → fits check e 0 d n ≡ (fits check a (left_level (sign.Plain op)) d n >>= last_fits check e d)
binary_counts check op a b e d n is =
    fits_is check e (layer.Binary op a b) 0 d n is
    ∙ infix_by (is_power op) check (level (sign.Plain op)) (left_level (sign.Plain op)) (level (sign.Plain op) + 1) a b d n
    ∙ sym (last_at check (fits check a (left_level (sign.Plain op)) d n) d e (layer.Binary op a b) is)

pub and_counts : (check : Check) (a b e : Expr) (d n : ℕ) → e ≡ roll-Expr (layer.And a b) → fits check e 0 d n ≡ (fits check a 4 d n >>= last_fits check e d)
and_counts check a b e d n is =
    fits_is check e (layer.And a b) 0 d n is
    ∙ infix_by false check 4 4 5 a b d n
    ∙ sym (last_at check (fits check a 4 d n) d e (layer.And a b) is)

pub or_counts : (check : Check) (a b e : Expr) (d n : ℕ) → e ≡ roll-Expr (layer.Or a b) → fits check e 0 d n ≡ (fits check a 3 d n >>= last_fits check e d)
or_counts check a b e d n is =
    fits_is check e (layer.Or a b) 0 d n is
    ∙ infix_by false check 3 3 4 a b d n
    ∙ sym (last_at check (fits check a 3 d n) d e (layer.Or a b) is)

-- sh has no comma
pub comma_counts : (check : Check) (a b e : Expr) (d n : ℕ) → e ≡ roll-Expr (layer.Comma a b) → fits check e 0 d n ≡ (fits check a 0 d n >>= last_fits check e d)
comma_counts check a b e d n is =
    fits_is check e (layer.Comma a b) 0 d n is
    ∙ sym (bind_none (fits check a 0 d n))
    ∙ sym (last_at check (fits check a 0 d n) d e (layer.Comma a b) is)

-- ---- chains

-- what an expression is, where its first operand stands bare
abbrev Leads : Check → Expr → Expr → Type 0
Leads check e a = (d n : ℕ) → fits check e 0 d n ≡ (fits check a 0 d n >>= last_fits check e d)

abbrev LeadsIf : Check → Expr → Option Expr → Type 0
LeadsIf check e None = Unit {0}
LeadsIf check e (Some a) = Leads check e a

leads_bare : (check : Check) (wanted : ℕ) (a e : Expr) (bare : Bool) → nat_le wanted (own_level a) ≡ bare → ((d n : ℕ) → fits check e 0 d n ≡ (fits check a wanted d n >>= last_fits check e d)) → LeadsIf check e (if bare then Some a else None)
leads_bare check wanted a e false is whole = tt
leads_bare check wanted a e true is whole = λ d n. whole d n ∙ ap (λ (o : Option ℕ). o >>= last_fits check e d) (sym (fits_bare check a wanted d n is))

leads_if : (check : Check) (wanted : ℕ) (a e : Expr) → ((d n : ℕ) → fits check e 0 d n ≡ (fits check a wanted d n >>= last_fits check e d)) → LeadsIf check e (if_bare wanted a)
leads_if check wanted a e whole = leads_bare check wanted a e (nat_le wanted (own_level a)) refl whole

layer_leads : (check : Check) (x : Expr-F Expr) (e : Expr) → e ≡ roll-Expr x → LeadsIf check e (first_step x)
layer_leads check (layer.Constant c) e is = tt
layer_leads check (layer.Name text) e is = tt
layer_leads check (layer.Operand k) e is = tt
layer_leads check (layer.Member text a) e is = tt
layer_leads check (layer.Unary op a) e is = tt
layer_leads check (layer.Step op a) e is = tt
layer_leads check (layer.Binary op a b) e is = leads_if check (left_level (sign.Plain op)) a e (λ d n. binary_counts check op a b e d n is)
layer_leads check (layer.And a b) e is = leads_if check 4 a e (λ d n. and_counts check a b e d n is)
layer_leads check (layer.Or a b) e is = leads_if check 3 a e (λ d n. or_counts check a b e d n is)
layer_leads check (layer.Comma a b) e is = leads_if check 0 a e (λ d n. comma_counts check a b e d n is)
layer_leads check (layer.Assign a op b) e is = tt
layer_leads check (layer.Choose a b c) e is = tt

leads : (check : Check) (e : Expr) → LeadsIf check e (first_of e)
leads check e = layer_leads check (out-Expr e) e (sym (roll-out-Expr e))

leads_by : (check : Check) (e : Expr) (first : Option Expr) → LeadsIf check e first → has_first_by first ≡ true → Leads check e (next_by e first)
leads_by check e None l has = absurd (cc)
leads_by check e (Some a) l has = l

leads_down : (check : Check) (e : Expr) → has_first e ≡ true → Leads check e (next_down e)
leads_down check e has = leads_by check e (first_of e) (leads check e) has

behind_first : (n : ℕ) (e : Expr) → Chained (suc n) e → Chained n (next_down e)
unfolding down
behind_first n e chained = λ k lt. chained (suc k) (omega arith)

no_operator : (check : Check) (d : ℕ) (e : Expr) (o : Option ℕ) → o ≡ (o >>= operators_fit check d e 0)
unfolding operators_fit
no_operator check d e None = refl
no_operator check d e (Some k) = refl

one_operator : (check : Check) (d n : ℕ) (e : Expr) (o : Option ℕ) → ((o >>= operators_fit check d (next_down e) n) >>= last_fits check e d) ≡ (o >>= operators_fit check d e (suc n))
unfolding operators_fit
one_operator check d n e None = refl
one_operator check d n e (Some k) = refl

-- an expression is the one so many first operands down, and the operators behind it
pub chain_counts : (check : Check) (d m n : ℕ) (e : Expr) → Chained n e → fits check e 0 d m ≡ (fits check (down n e) 0 d m >>= operators_fit check d e n)
unfolding down
chain_counts check d m zero e chained = no_operator check d e (fits check e 0 d m)
chain_counts check d m (suc n) e chained =
    leads_down check e (chained 0 (omega arith)) d m
    ∙ ap (λ (o : Option ℕ). o >>= last_fits check e d) (chain_counts check d m n (next_down e) (behind_first n e chained))
    ∙ one_operator check d n e (fits check (down n (next_down e)) 0 d m)

operators_split : (check : Check) (d m h k n : ℕ) (e : Expr) → h + k ≡ n → operators_fit check d e n m ≡ (operators_fit check d (down h e) k m >>= operators_fit check d e h)
unfolding down
operators_split check d m zero k n e is = let same : n ≡ k = omega arith in ap (λ (i : ℕ). operators_fit check d e i m) same ∙ no_operator check d e (operators_fit check d e k m)
operators_split check d m (suc h) k zero e is = absurd (omega arith)
operators_split check d m (suc h) k (suc n) e is =
    sym (one_operator check d n e (Some m))
    ∙ ap (λ (o : Option ℕ). o >>= last_fits check e d) (operators_split check d m h k n (next_down e) (omega arith))
    ∙ one_operator check d h e (operators_fit check d (down h (next_down e)) k m)

few_is : (check : Check) (d m n : ℕ) (e : Expr) → n ≤ 1 → few_fit check d e n m ≡ operators_fit check d e n m
unfolding operators_fit
few_is check d m zero e le = refl
few_is check d m (suc zero) e le = refl
few_is check d m (suc (suc n)) e le = absurd (omega arith)

pub bind_same : (o p : Option ℕ) (f g : Counting) → o ≡ p → ((k : ℕ) → f k ≡ g k) → (o >>= f) ≡ (p >>= g)
bind_same o None f g is same = ap (λ (x : Option ℕ). x >>= f) is
bind_same o (Some k) f g is same = ap (λ (x : Option ℕ). x >>= f) is ∙ same k

halves_by : (check : Check) (d bits n m : ℕ) (e : Expr) (few : Bool) → nat_le n 1 ≡ few → n ≤ 2 * 2 ^ bits → ((i k : ℕ) (c : Expr) → i ≤ 2 ^ bits → halves_fit check d bits c i k ≡ operators_fit check d c i k) → (if few then few_fit check d e n m else (halves_fit check d bits (down (n / 2) e) (n - n / 2) m >>= halves_fit check d bits e (n / 2))) ≡ operators_fit check d e n m
halves_by check d bits n m e true is le same = few_is check d m n e (leb-true n 1 is)
halves_by check d bits n m e false is le same =
    bind_same _ _ _ _ (same (n - n / 2) m (down (n / 2) e) (omega arith)) (λ k. same (n / 2) k e (omega arith))
    ∙ sym (operators_split check d m (n / 2) (n - n / 2) n e (omega arith))

-- put together by halves they are the same
pub halves_are : (check : Check) (d bits n m : ℕ) (e : Expr) → n ≤ 2 ^ bits → halves_fit check d bits e n m ≡ operators_fit check d e n m
unfolding halves_fit
halves_are check d zero n m e le = few_is check d m n e le
halves_are check d (suc bits) n m e le = halves_by check d bits n m e (nat_le n 1) refl (omega (arith, pow-succ' 2 bits)) (λ i k c le. halves_are check d bits i k c le)

-- an expression as the one at the end of its chain, and the operators by halves
pub chain_halves : (check : Check) (d m n : ℕ) (e : Expr) → n ≤ 2 ^ 64 → Chained n e → (fits check (down n e) 0 d m >>= halves_fit check d 64 e n) ≡ fits check e 0 d m
chain_halves check d m n e le chained =
    bind_same _ _ _ _ refl (λ k. halves_are check d 64 n k e le)
    ∙ sym (chain_counts check d m n e chained)

pub halves_one : (check : Check) (d bits m : ℕ) (e : Expr) → halves_fit check d bits e 1 m ≡ last_fits check e d m
unfolding halves_fit
halves_one check d zero m e = refl
halves_one check d (suc bits) m e = refl

pub halves_none : (check : Check) (d bits m : ℕ) (e : Expr) → halves_fit check d bits e 0 m ≡ Some m
unfolding halves_fit
halves_none check d zero m e = refl
halves_none check d (suc bits) m e = refl

pub halves_last : (check : Check) (d n m : ℕ) (e : Expr) → 0 < n → halves_fit check d 0 e n m ≡ last_fits check e d m
unfolding halves_fit
halves_last check d zero m e some = absurd (omega arith)
halves_last check d (suc n) m e some = refl

pub halves_split : (check : Check) (d bits n m : ℕ) (e : Expr) → 0 < bits → 1 < n → halves_fit check d bits e n m ≡ (halves_fit check d (bits - 1) (down (n / 2) e) (n - n / 2) m >>= halves_fit check d (bits - 1) e (n / 2))
unfolding halves_fit
halves_split check d zero n m e some more = absurd (omega arith)
halves_split check d (suc bits) n m e some more = let less : suc bits - 1 ≡ bits = omega arith in rw (less, lt-leb n 1 more) refl

pub known_if : (b : Bool) (n : ℕ) → known b n ≡ (if b then Some n else None)
known_if true n = refl
known_if false n = refl

-- ---- assignments

pub variable_one : (e : Expr) (x : Expr-F Expr) → e ≡ roll-Expr x → is_variable e ≡ variable_step x
variable_one e x is = ap is_variable is ∙ ap variable_step (out-roll-Expr x)

variable_if : (b : Bool) (p : Placed) → p.is_variable ≡ false → (placed_if b p).is_variable ≡ false
variable_if true p is = is
variable_if false p is = refl

variable_name : (b : Bool) (p : Placed) → p.is_variable ≡ true → (placed_if b p).is_variable ≡ b
variable_name true p is = is
variable_name false p is = refl

layer_variable : (check : Check) (x : Expr-F Expr) → (place_step check (map-Expr Expr Placed (placed check) x)).is_variable ≡ variable_step x
layer_variable check (layer.Constant c) = variable_if _ _ refl
layer_variable check (layer.Name text) = variable_name (is_name text) (record { is_variable = true; fits = λ wanted d n. Some n }) refl
layer_variable check (layer.Operand k) = refl
layer_variable check (layer.Member text a) = refl
layer_variable check (layer.Unary op a) = refl
layer_variable check (layer.Step op a) = refl
layer_variable check (layer.Binary op a b) = variable_if _ _ refl
layer_variable check (layer.And a b) = refl
layer_variable check (layer.Or a b) = refl
layer_variable check (layer.Comma a b) = refl
layer_variable check (layer.Assign a op b) = variable_if _ _ refl
layer_variable check (layer.Choose a b c) = refl

variable_is : (check : Check) (e : Expr) → (placed check e).is_variable ≡ is_variable e
unfolding placed
variable_is check e = ap (λ (z : Expr). (placed check z).is_variable) (sym (roll-out-Expr e)) ∙ ap (λ (p : Placed). p.is_variable) (fold-roll-Expr Placed (place_step check) (out-Expr e)) ∙ layer_variable check (out-Expr e)

assigned_by : (check : Check) (b : Bool) (a v : Expr) (d n : ℕ) → ((known b n >>= fits check a 0 d) >>= fits check v 1 d) ≡ (placed_if b (levelled 1 (λ d n. (placed check a).fits 0 d n >>= λ k. (placed check v).fits 1 d k))).fits 0 d n
unfolding fits
assigned_by check false a v d n = refl
assigned_by check true a v d n = refl

pub assigned_counts : (check : Check) (a v e : Expr) (op : Option BinOp) (d n : ℕ) → e ≡ roll-Expr (layer.Assign a op v) → ((known (is_variable a && assigns op) n >>= fits check a 0 d) >>= fits check v 1 d) ≡ fits check e 0 d n
assigned_counts check a v e op d n is =
    ap (λ (b : Bool). (known (b && assigns op) n >>= fits check a 0 d) >>= fits check v 1 d) (sym (variable_is check a))
    ∙ assigned_by check ((placed check a).is_variable && assigns op) a v d n
    ∙ sym (fits_is check e (layer.Assign a op v) 0 d n is)

-- ---- what else an expression may be

-- the same pieces under another spelling, and under a greater rank
pub counting : (f g : Check → Counting) (m n : ℕ) (split : SumChecks) → ((check : Check) (k : ℕ) → f check k ≡ g check k) → m ≤ n → Counts f m split → Counts g n split
counting f g m n split is le c = record {
  same = λ check k. c.same check k ∙ is check k;
  first_less = omega (arith, c.first_less);
  second_less = omega (arith, c.second_less);
  rest_less = omega (arith, c.rest_less);
}

-- a constant of 64 bits that isn't negative
pub constant_counts : (check : Check) (e : Expr) (z : ℤ) (d n : ℕ) → SFits w64 z → e ≡ roll-Expr (layer.Constant z) → known (is_constant z) n ≡ fits check e 0 d n
constant_counts check e (pos k) d n f is =
    let small : k < 2 ^ 63 = f.sfits in
    sym (fits_is check e (layer.Constant (pos k)) 0 d n is ∙ if_fits (nat_le k greatest) (one (λ d n. Some n)) 0 d n ∙ rw (le-leb k greatest (omega (arith, small))) refl)
constant_counts check e (negsuc k) d n f is = sym (fits_is check e (layer.Constant (negsuc k)) 0 d n is)

pub name_counts : (check : Check) (e : Expr) (text : Text) (d n : ℕ) → e ≡ roll-Expr (layer.Name text) → known (is_name text) n ≡ fits check e 0 d n
name_counts check e text d n is = known_if (is_name text) n ∙ sym (fits_is check e (layer.Name text) 0 d n is ∙ if_fits (is_name text) (record { is_variable = true; fits = λ wanted d n. Some n }) 0 d n)

pub operand_counted_is : (check : Check) (e : Expr) (k d n : ℕ) → e ≡ roll-Expr (layer.Operand k) → operand_counts check k d n ≡ fits check e 0 d n
operand_counted_is check e k d n is = sym (fits_is check e (layer.Operand k) 0 d n is)

pub member_counts : (check : Check) (e a : Expr) (text : Text) (d n : ℕ) → e ≡ roll-Expr (layer.Member text a) → nothing ≡ fits check e 0 d n
member_counts check e a text d n is = sym (fits_is check e (layer.Member text a) 0 d n is)

pub step_counts : (check : Check) (e a : Expr) (op : StepOp) (d n : ℕ) → e ≡ roll-Expr (layer.Step op a) → nothing ≡ fits check e 0 d n
step_counts check e a op d n is = sym (fits_is check e (layer.Step op a) 0 d n is)

pub no_comma : (check : Check) (e a b : Expr) (d n : ℕ) → e ≡ roll-Expr (layer.Comma a b) → nothing ≡ fits check e 0 d n
no_comma check e a b d n is = sym (fits_is check e (layer.Comma a b) 0 d n is)

pub unary_counts : (check : Check) (e a : Expr) (op : UnOp) (d n : ℕ) → e ≡ roll-Expr (layer.Unary op a) → fits check a 14 d n ≡ fits check e 0 d n
unfolding fits
unary_counts check e a op d n is = sym (fits_is check e (layer.Unary op a) 0 d n is)

pub choice_counts : (check : Check) (a b c e : Expr) (d n : ℕ) → e ≡ roll-Expr (layer.Choose a b c) → ((fits check a 3 d n >>= fits check b 0 d) >>= fits check c 2 d) ≡ fits check e 0 d n
unfolding fits
choice_counts check a b c e d n is = sym (fits_is check e (layer.Choose a b c) 0 d n is)
