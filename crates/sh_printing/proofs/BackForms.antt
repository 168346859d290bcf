-- An expression that can be printed, as the form that is written for it, with its parentheses.
use Rattle.std.proofs.Common.{List, ◌≡◌, ℕ, ℤ, pos, negsuc, suc, ◌+◌, ◌≤◌, Bool, true, false, [], ◌∷◌, ◌++◌, length, Option, Some, None, refl, sym, ap, subst, ◌∙◌, arith}
use Rattle.std.specs.Prelude.{◌&&◌, not, ◌==◌, nat_le, nat_lt, codes, if◌then◌else◌}
use Rattle.std.specs.Fmt.{signed_decimal}
use Rattle.std.proofs.lemmas.Bool.{leb-true, le-leb, eqb-true, false≢true}
use Rattle.span_text.specs.Names.{is_name}
use Rattle.span_text.specs.ExprTokens.{greatest}
use Rattle.span_text.specs.declared.expr.UnOp.{UnOp}
use Rattle.span_text.specs.declared.expr.BinOp.{BinOp}
use Rattle.span_text.specs.declared.expr.BinOp.TheVariants as op
use Rattle.span_text.specs.declared.expr.Expr.{Expr}
use Rattle.span_text.specs.declared.expr.Expr.TheVariants as expr
use Rattle.span_text.specs.declared.expr.Expr.TheOpen.{Expr-F}
use Rattle.span_text.specs.declared.expr.Expr.TheOpen as layer
use Rattle.span_text.specs.declared.expr.Expr.TheViews.{roll-Expr}
use Rattle.span_text.specs.declared.expr.Expr.TheFolds.{map-Expr, fold-Expr, fold-roll-Expr, ind-Expr}
use Rattle.span_text.specs.declared.sign.Infix.{Infix}
use Rattle.span_text.specs.declared.sign.Infix.TheVariants.{Plain, And, Or, Comma}
use Rattle.span_text.specs.Expressions.{Form, literal, expanded, variable, member, group, prefixed, stepped, between, chosen, assigned, tree, level, left_level, Fits, joined}
use Rattle.sh_grammar.specs.Bytes.{Text}
use Rattle.sh_grammar.specs.Expansions.{◌>>=◌}
use Rattle.sh_grammar.specs.Steps.{limit}
use Rattle.sh_printing.specs.Sums.{Levelled, unary_text, binary_text, assigned_text, before_target, behind_target, expr_step}
use Rattle.sh_printing.specs.Spellable.{Placed, Inside, placed, place_step, assigns, is_power, placed_if, one, infix_fits, is_number, nth_check, sum_fits}

-- ---- forms that are printed

abbrev pub infix_op : Infix → Text
infix_op (Plain op) = binary_text op
infix_op And = codes "&&"
infix_op Or = codes "||"
infix_op Comma = codes ","

-- the text of a form
abbrev pub form_text : (ℕ → Text) → Form → Text
form_text operand (literal m) = signed_decimal (pos m)
form_text operand (expanded m) = operand m
form_text operand (variable text) = text
form_text operand (member text f) = text ++ 91 ∷ form_text operand f ++ 93 ∷ []
form_text operand (group f) = 40 ∷ form_text operand f ++ 41 ∷ []
form_text operand (prefixed op f) = unary_text op ++ 32 ∷ form_text operand f
form_text operand (stepped op f) = before_target op ++ form_text operand f ++ behind_target op
form_text operand (between i f g) = form_text operand f ++ 32 ∷ infix_op i ++ 32 ∷ form_text operand g
form_text operand (chosen f g h) = (form_text operand f ++ 32 ∷ codes "?" ++ 32 ∷ form_text operand g) ++ 32 ∷ codes ":" ++ 32 ∷ form_text operand h
form_text operand (assigned f op g) = form_text operand f ++ 32 ∷ assigned_text op ++ 32 ∷ form_text operand g

-- an operator of sh
abbrev pub is_sh_infix : Infix → Bool
is_sh_infix (Plain op) = not (is_power op)
is_sh_infix And = true
is_sh_infix Or = true
is_sh_infix Comma = false

abbrev pub IsVariable : Form → Type 0
IsVariable (literal m) = ⊥
IsVariable (expanded m) = ⊥
IsVariable (variable text) = is_name text ≡ true
IsVariable (member text f) = ⊥
IsVariable (group f) = ⊥
IsVariable (prefixed op f) = ⊥
IsVariable (stepped op f) = ⊥
IsVariable (between i f g) = ⊥
IsVariable (chosen f g h) = ⊥
IsVariable (assigned f op g) = ⊥

-- A form of sh, so deep, with n operands before it and k with its own, each of which fits.
abbrev pub Good : (ℕ → ℕ → Bool) → ℕ → ℕ → ℕ → Form → Type 0
Good check d n k (literal m) = (nat_le m greatest ≡ true) × (n ≡ k)
Good check d n k (expanded m) = (m ≡ n) × (check m d ≡ true) × (k ≡ suc n)
Good check d n k (variable text) = (is_name text ≡ true) × (n ≡ k)
Good check d n k (member text f) = ⊥
Good check d n k (group f) = (nat_lt d limit ≡ true) × Good check (suc d) n k f
Good check d n k (prefixed op f) = Good check d n k f
Good check d n k (stepped op f) = ⊥
Good check d n k (between i f g) = (is_sh_infix i ≡ true) × (m : ℕ) × Good check d n m f × Good check d m k g
Good check d n k (chosen f g h) = (m : ℕ) × (p : ℕ) × Good check d n m f × Good check d m p g × Good check d p k h
Good check d n k (assigned f op g) = IsVariable f × (assigns op ≡ true) × (m : ℕ) × Good check d n m f × Good check d m k g

-- ---- an expression's form

abbrev pub levelled : (ℕ → Text) → Expr → ℕ → Text
levelled operand e = fold-Expr Levelled (expr_step operand) e

-- the form of an expression where one of this level or a tighter one is asked for
pub record Shown (check : ℕ → ℕ → Bool) (e : Expr) (l d n k : ℕ) : Type 0 where
  pub form : Form
  pub good : Good check d n k form
  pub fits : Fits l form
  pub text : (operand : ℕ → Text) → levelled operand e l ≡ form_text operand form
  pub is : tree form ≡ e

-- a variable alone
pub record Alone (check : ℕ → ℕ → Bool) (e : Expr) : Type 0 where
  pub name : Text
  pub valid : is_name name ≡ true
  pub counts : (l d n : ℕ) → (placed check e).fits l d n ≡ Some n
  pub text : (operand : ℕ → Text) (l : ℕ) → l ≤ 15 → levelled operand e l ≡ name
  pub is : expr.Name name ≡ e

pub record Shows (check : ℕ → ℕ → Bool) (e : Expr) : Type 0 where
  pub shown : (l d n k : ℕ) → l ≤ 15 → (placed check e).fits l d n ≡ Some k → Shown check e l d n k
  pub alone : (placed check e).is_variable ≡ true → Alone check e

-- one of a level of its own
record Core (check : ℕ → ℕ → Bool) (e : Expr) (own d n k : ℕ) (text : (ℕ → Text) → Text) : Type 0 where
  form : Form
  good : Good check d n k form
  fits : (l : ℕ) → l ≤ own → Fits l form
  text_is : (operand : ℕ → Text) → text operand ≡ form_text operand form
  is : tree form ≡ e

no_some : {A : Type 0} (k : ℕ) → None ≡ Some k → A
no_some k e = absurd cc

some_is : (m k : ℕ) → Some m ≡ Some k → m ≡ k
some_is m k e = cc

bound : (o : Option ℕ) (f : ℕ → Option ℕ) (k : ℕ) → (o >>= f) ≡ Some k → (m : ℕ) × (o ≡ Some m) × (f m ≡ Some k)
bound None f k e = no_some k e
bound (Some m) f k e = (m, refl, e)

-- where its level is asked for, or with parentheses
by_level : (check : ℕ → ℕ → Bool) (e : Expr) (own l d n k : ℕ) (f : Inside) (text : (ℕ → Text) → Text) (tight shallow : Bool) → nat_le l own ≡ tight → nat_lt d limit ≡ shallow →
    ((d k : ℕ) → f d n ≡ Some k → Core check e own d n k text) → (if tight then f d n else (if shallow then f (suc d) n else None)) ≡ Some k →
    ((operand : ℕ → Text) → levelled operand e l ≡ (if tight then text operand else 40 ∷ text operand ++ 41 ∷ [])) → Shown check e l d n k
by_level check e own l d n k f text true shallow t s core h eq =
    let c = core d k h in
    record { form = c.form; good = c.good; fits = c.fits l (leb-true l own t); text = λ operand. eq operand ∙ c.text_is operand; is = c.is }
by_level check e own l d n k f text false true t s core h eq =
    let c = core (suc d) k h in
    record { form = group c.form; good = (s, c.good); fits = c.fits 0 (omega arith); text = λ operand. eq operand ∙ ap (λ (z : Text). 40 ∷ z ++ 41 ∷ []) (c.text_is operand); is = c.is }
by_level check e own l d n k f text false false t s core h eq = no_some k h

most : (i : Infix) → (level i ≤ 13) × (left_level i ≤ 14)
most Comma = (omega arith, omega arith)
most Or = (omega arith, omega arith)
most And = (omega arith, omega arith)
most (Plain op.Power) = (omega arith, omega arith)
most (Plain op.Times) = (omega arith, omega arith)
most (Plain op.Divide) = (omega arith, omega arith)
most (Plain op.Remainder) = (omega arith, omega arith)
most (Plain op.Add) = (omega arith, omega arith)
most (Plain op.Subtract) = (omega arith, omega arith)
most (Plain op.ShiftLeft) = (omega arith, omega arith)
most (Plain op.ShiftRight) = (omega arith, omega arith)
most (Plain op.Less) = (omega arith, omega arith)
most (Plain op.AtMost) = (omega arith, omega arith)
most (Plain op.Greater) = (omega arith, omega arith)
most (Plain op.AtLeast) = (omega arith, omega arith)
most (Plain op.Equal) = (omega arith, omega arith)
most (Plain op.Unequal) = (omega arith, omega arith)
most (Plain op.BitAnd) = (omega arith, omega arith)
most (Plain op.BitXor) = (omega arith, omega arith)
most (Plain op.BitOr) = (omega arith, omega arith)

-- an operand has no parentheses
bare_text : (l : ℕ) (t u : Text) → l ≤ 15 → (if nat_le l 15 then t else u) ≡ t
bare_text l t u le = rw (le-leb l 15 le) refl

-- ---- each kind of expression

-- what is not of sh has no place
nowhere_shows : (check : ℕ → ℕ → Bool) (e : Expr) → ((l d n : ℕ) → (placed check e).fits l d n ≡ None) → (placed check e).is_variable ≡ false → Shows check e
nowhere_shows check e none v = record {
  shown = λ l d n k le h. no_some k (sym (none l d n) ∙ h);
  alone = λ b. absurd cc;
}

placing : (check : ℕ → ℕ → Bool) (x : Expr-F Expr) → placed check (roll-Expr x) ≡ place_step check (map-Expr Expr Placed (placed check) x)
unfolding placed
placing check x = fold-roll-Expr Placed (place_step check) x

texts : (operand : ℕ → Text) (x : Expr-F Expr) → levelled operand (roll-Expr x) ≡ expr_step operand (map-Expr Expr Levelled (levelled operand) x)
texts operand x = fold-roll-Expr Levelled (expr_step operand) x

-- a leaf, whose form is written at each level
leaf_shown : (check : ℕ → ℕ → Bool) (e : Expr) (l d n k : ℕ) (f : Form) (t : (ℕ → Text) → Text) → l ≤ 15 → Good check d n k f → Fits l f → ((operand : ℕ → Text) → levelled operand e l ≡ (if nat_le l 15 then t operand else 40 ∷ t operand ++ 41 ∷ [])) → ((operand : ℕ → Text) → t operand ≡ form_text operand f) → tree f ≡ e → Shown check e l d n k
leaf_shown check e l d n k f t le good fits eq same is = record { form = f; good = good; fits = fits; text = λ operand. eq operand ∙ bare_text l (t operand) (40 ∷ t operand ++ 41 ∷ []) le ∙ same operand; is = is }

constant_by : (check : ℕ → ℕ → Bool) (m : ℕ) (fits : Bool) → nat_le m greatest ≡ fits → placed check (roll-Expr (layer.Constant (pos m))) ≡ placed_if fits (one (λ d n. Some n)) → Shows check (roll-Expr (layer.Constant (pos m)))
constant_by check m true v p = record {
  shown = λ l d n k le h.
      leaf_shown check (roll-Expr (layer.Constant (pos m))) l d n k (literal m) (λ operand. signed_decimal (pos m)) le (v, some_is n k (sym (ap (λ (z : Placed). z.fits l d n) p) ∙ h)) tt
      (λ operand. ap (λ (z : ℕ → Text). z l) (texts operand (layer.Constant (pos m)))) (λ operand. refl) (sym (expr.rolls-Constant (pos m)));
  alone = λ b. absurd (false≢true (sym (ap (λ (z : Placed). z.is_variable) p) ∙ b));
}
constant_by check m false v p = nowhere_shows check (roll-Expr (layer.Constant (pos m))) (λ l d n. ap (λ (z : Placed). z.fits l d n) p) (ap (λ (z : Placed). z.is_variable) p)

constant_shows : (check : ℕ → ℕ → Bool) (m : ℤ) → Shows check (roll-Expr (layer.Constant m))
constant_shows check (pos m) = constant_by check m (nat_le m greatest) refl (placing check (layer.Constant (pos m)))
constant_shows check (negsuc m) = let p = placing check (layer.Constant (negsuc m)) in nowhere_shows check (roll-Expr (layer.Constant (negsuc m))) (λ l d n. ap (λ (z : Placed). z.fits l d n) p) (ap (λ (z : Placed). z.is_variable) p)

name_by : (check : ℕ → ℕ → Bool) (text : Text) (fits : Bool) → is_name text ≡ fits → placed check (roll-Expr (layer.Name text)) ≡ placed_if fits (record { is_variable = true; fits = λ wanted d n. Some n }) → Shows check (roll-Expr (layer.Name text))
name_by check text true v p =
    let x = layer.Name text in
    let eq : (operand : ℕ → Text) (l : ℕ) → l ≤ 15 → levelled operand (roll-Expr x) l ≡ text = λ operand l le. ap (λ (z : ℕ → Text). z l) (texts operand x) ∙ bare_text l text (40 ∷ text ++ 41 ∷ []) le in
    record {
      shown = λ l d n k le h. record { form = variable text; good = (v, some_is n k (sym (ap (λ (z : Placed). z.fits l d n) p) ∙ h)); fits = tt; text = λ operand. eq operand l le; is = sym (expr.rolls-Name text) };
      alone = λ b. record { name = text; valid = v; counts = λ l d n. ap (λ (z : Placed). z.fits l d n) p; text = eq; is = sym (expr.rolls-Name text) };
    }
name_by check text false v p = nowhere_shows check (roll-Expr (layer.Name text)) (λ l d n. ap (λ (z : Placed). z.fits l d n) p) (ap (λ (z : Placed). z.is_variable) p)

operand_by : (check : ℕ → ℕ → Bool) (m d n k : ℕ) (is fits : Bool) → (m == n) ≡ is → check m d ≡ fits → (if is && fits then Some (suc n) else None) ≡ Some k → Good check d n k (expanded m)
operand_by check m d n k true true a b h = (eqb-true m n a, b, sym (some_is (suc n) k h))
operand_by check m d n k true false a b h = no_some k h
operand_by check m d n k false fits a b h = no_some k h

operand_shows : (check : ℕ → ℕ → Bool) (m : ℕ) → Shows check (roll-Expr (layer.Operand m))
operand_shows check m = let p = placing check (layer.Operand m) in record {
  shown = λ l d n k le h.
      leaf_shown check (roll-Expr (layer.Operand m)) l d n k (expanded m) (λ operand. operand m) le (operand_by check m d n k (m == n) (check m d) refl refl (sym (ap (λ (z : Placed). z.fits l d n) p) ∙ h)) tt
      (λ operand. ap (λ (z : ℕ → Text). z l) (texts operand (layer.Operand m))) (λ operand. refl) (sym (expr.rolls-Operand m));
  alone = λ b. absurd (false≢true (sym (ap (λ (z : Placed). z.is_variable) p) ∙ b));
}

-- ---- with expressions inside

unary_shows : (check : ℕ → ℕ → Bool) (o : UnOp) (a : Expr) → Shows check a → Shows check (roll-Expr (layer.Unary o a))
unary_shows check o a sa =
    let x = layer.Unary o a in let e = roll-Expr x in let p = placing check x in
    let text = λ (operand : ℕ → Text). unary_text o ++ 32 ∷ levelled operand a 14 in
    record {
      shown = λ l d n k le h.
          by_level check e 14 l d n k (λ d n. (placed check a).fits 14 d n) text (nat_le l 14) (nat_lt d limit) refl refl
          (λ d k f. let s = sa.shown 14 d n k (omega arith) f in
          record { form = prefixed o s.form; good = s.good; fits = λ l le. (le, s.fits); text_is = λ operand. ap (λ (z : Text). unary_text o ++ 32 ∷ z) (s.text operand); is = ap (expr.Unary o) s.is ∙ sym (expr.rolls-Unary o a) })
          (sym (ap (λ (z : Placed). z.fits l d n) p) ∙ h) (λ operand. ap (λ (z : ℕ → Text). z l) (texts operand x));
      alone = λ b. absurd (false≢true (sym (ap (λ (z : Placed). z.is_variable) p) ∙ b));
    }

pair_text : (a a' b b' o : Text) → a ≡ a' → b ≡ b' → (a ++ 32 ∷ o ++ 32 ∷ b) ≡ (a' ++ 32 ∷ o ++ 32 ∷ b')
pair_text a a' b b' o e f = cc

-- two operands and an operator between them
infix_core : (check : ℕ → ℕ → Bool) (i : Infix) (e a b : Expr) (d n k : ℕ) → is_sh_infix i ≡ true → ((x y : Expr) → x ≡ a → y ≡ b → joined i x y ≡ e) → Shows check a → Shows check b →
    ((placed check a).fits (left_level i) d n >>= λ m. (placed check b).fits (level i + 1) d m) ≡ Some k → Core check e (level i) d n k (λ operand. levelled operand a (left_level i) ++ 32 ∷ infix_op i ++ 32 ∷ levelled operand b (level i + 1))
infix_core check i e a b d n k sh is sa sb h =
    let t = bound ((placed check a).fits (left_level i) d n) (λ m. (placed check b).fits (level i + 1) d m) k h in
    let m = most i in let lo = m.0 in let hi = m.1 in
    let s = sa.shown (left_level i) d n t.0 (omega arith) t.1 in
    let r = sb.shown (level i + 1) d t.0 k (omega arith) t.2 in
    record {
      form = between i s.form r.form;
      good = (sh, t.0, s.good, r.good);
      fits = λ l le. (le, s.fits, r.fits);
      text_is = λ operand. pair_text (levelled operand a (left_level i)) (form_text operand s.form) (levelled operand b (level i + 1)) (form_text operand r.form) (infix_op i) (s.text operand) (r.text operand);
      is = is (tree s.form) (tree r.form) s.is r.is;
    }

infix_shows : (check : ℕ → ℕ → Bool) (i : Infix) (e a b : Expr) → is_sh_infix i ≡ true → ((x y : Expr) → x ≡ a → y ≡ b → joined i x y ≡ e) →
    ((l d n : ℕ) → (placed check e).fits l d n ≡ (let f = λ (d n : ℕ). (placed check a).fits (left_level i) d n >>= λ m. (placed check b).fits (level i + 1) d m in if nat_le l (level i) then f d n else (if nat_lt d limit then f (suc d) n else None))) →
    (placed check e).is_variable ≡ false →
    ((operand : ℕ → Text) (l : ℕ) → levelled operand e l ≡ (let t = levelled operand a (left_level i) ++ 32 ∷ infix_op i ++ 32 ∷ levelled operand b (level i + 1) in if nat_le l (level i) then t else 40 ∷ t ++ 41 ∷ [])) →
    Shows check a → Shows check b → Shows check e
infix_shows check i e a b sh is p v eq sa sb = record {
  shown = λ l d n k le h.
      by_level check e (level i) l d n k (λ d n. (placed check a).fits (left_level i) d n >>= λ m. (placed check b).fits (level i + 1) d m)
      (λ operand. levelled operand a (left_level i) ++ 32 ∷ infix_op i ++ 32 ∷ levelled operand b (level i + 1)) (nat_le l (level i)) (nat_lt d limit) refl refl
      (λ d k f. infix_core check i e a b d n k sh is sa sb f) (sym (p l d n) ∙ h) (λ operand. eq operand l);
  alone = λ b. absurd (false≢true (sym v ∙ b));
}

binary_by : (check : ℕ → ℕ → Bool) (o : BinOp) (a b : Expr) (sh : Bool) → not (is_power o) ≡ sh → placed check (roll-Expr (layer.Binary o a b)) ≡ placed_if sh (infix_fits (Plain o) (placed check a) (placed check b)) →
    Shows check a → Shows check b → Shows check (roll-Expr (layer.Binary o a b))
binary_by check o a b true v p sa sb =
    infix_shows check (Plain o) (roll-Expr (layer.Binary o a b)) a b v (λ x y f g. ap (expr.Binary o x) g ∙ ap (λ (z : Expr). expr.Binary o z b) f ∙ sym (expr.rolls-Binary o a b))
    (λ l d n. ap (λ (z : Placed). z.fits l d n) p) (ap (λ (z : Placed). z.is_variable) p) (λ operand l. ap (λ (z : ℕ → Text). z l) (texts operand (layer.Binary o a b))) sa sb
binary_by check o a b false v p sa sb = nowhere_shows check (roll-Expr (layer.Binary o a b)) (λ l d n. ap (λ (z : Placed). z.fits l d n) p) (ap (λ (z : Placed). z.is_variable) p)

and_shows : (check : ℕ → ℕ → Bool) (a b : Expr) → Shows check a → Shows check b → Shows check (roll-Expr (layer.And a b))
and_shows check a b sa sb =
    let p = placing check (layer.And a b) in
    infix_shows check And (roll-Expr (layer.And a b)) a b refl (λ x y f g. ap (expr.And x) g ∙ ap (λ (z : Expr). expr.And z b) f ∙ sym (expr.rolls-And a b))
    (λ l d n. ap (λ (z : Placed). z.fits l d n) p) (ap (λ (z : Placed). z.is_variable) p) (λ operand l. ap (λ (z : ℕ → Text). z l) (texts operand (layer.And a b))) sa sb

or_shows : (check : ℕ → ℕ → Bool) (a b : Expr) → Shows check a → Shows check b → Shows check (roll-Expr (layer.Or a b))
or_shows check a b sa sb =
    let p = placing check (layer.Or a b) in
    infix_shows check Or (roll-Expr (layer.Or a b)) a b refl (λ x y f g. ap (expr.Or x) g ∙ ap (λ (z : Expr). expr.Or z b) f ∙ sym (expr.rolls-Or a b))
    (λ l d n. ap (λ (z : Placed). z.fits l d n) p) (ap (λ (z : Placed). z.is_variable) p) (λ operand l. ap (λ (z : ℕ → Text). z l) (texts operand (layer.Or a b))) sa sb

choice_text : (a a' b b' c c' : Text) → a ≡ a' → b ≡ b' → c ≡ c' → ((a ++ 32 ∷ codes "?" ++ 32 ∷ b) ++ 32 ∷ codes ":" ++ 32 ∷ c) ≡ ((a' ++ 32 ∷ codes "?" ++ 32 ∷ b') ++ 32 ∷ codes ":" ++ 32 ∷ c')
choice_text a a' b b' c c' e f g = cc

three_are : (a b c x y z : Expr) → x ≡ a → y ≡ b → z ≡ c → expr.Choose x y z ≡ expr.Choose a b c
three_are a b c x y z e f g = ap (expr.Choose x y) g ∙ ap (λ (u : Expr). expr.Choose x u c) f ∙ ap (λ (u : Expr). expr.Choose u b c) e

choose_core : (check : ℕ → ℕ → Bool) (a b c : Expr) (d n k : ℕ) → Shows check a → Shows check b → Shows check c →
    (((placed check a).fits 3 d n >>= λ m. (placed check b).fits 0 d m) >>= λ m. (placed check c).fits 2 d m) ≡ Some k →
    Core check (roll-Expr (layer.Choose a b c)) 2 d n k (λ operand. (levelled operand a 3 ++ 32 ∷ codes "?" ++ 32 ∷ levelled operand b 0) ++ 32 ∷ codes ":" ++ 32 ∷ levelled operand c 2)
choose_core check a b c d n k sa sb sc h =
    let t = bound ((placed check a).fits 3 d n >>= λ m. (placed check b).fits 0 d m) (λ m. (placed check c).fits 2 d m) k h in
    let u = bound ((placed check a).fits 3 d n) (λ m. (placed check b).fits 0 d m) t.0 t.1 in
    let s = sa.shown 3 d n u.0 (omega arith) u.1 in
    let r = sb.shown 0 d u.0 t.0 (omega arith) u.2 in
    let q = sc.shown 2 d t.0 k (omega arith) t.2 in
    record {
      form = chosen s.form r.form q.form;
      good = (u.0, t.0, s.good, r.good, q.good);
      fits = λ l le. (le, s.fits, r.fits, q.fits);
      text_is = λ operand. choice_text (levelled operand a 3) (form_text operand s.form) (levelled operand b 0) (form_text operand r.form) (levelled operand c 2) (form_text operand q.form) (s.text operand) (r.text operand) (q.text operand);
      is = three_are a b c (tree s.form) (tree r.form) (tree q.form) s.is r.is q.is ∙ sym (expr.rolls-Choose a b c);
    }

choose_shows : (check : ℕ → ℕ → Bool) (a b c : Expr) → Shows check a → Shows check b → Shows check c → Shows check (roll-Expr (layer.Choose a b c))
choose_shows check a b c sa sb sc =
    let x = layer.Choose a b c in let p = placing check x in record {
      shown = λ l d n k le h.
          by_level check (roll-Expr x) 2 l d n k (λ d n. ((placed check a).fits 3 d n >>= λ m. (placed check b).fits 0 d m) >>= λ m. (placed check c).fits 2 d m)
          (λ operand. (levelled operand a 3 ++ 32 ∷ codes "?" ++ 32 ∷ levelled operand b 0) ++ 32 ∷ codes ":" ++ 32 ∷ levelled operand c 2) (nat_le l 2) (nat_lt d limit) refl refl
          (λ d k f. choose_core check a b c d n k sa sb sc f) (sym (ap (λ (z : Placed). z.fits l d n) p) ∙ h) (λ operand. ap (λ (z : ℕ → Text). z l) (texts operand x));
      alone = λ b. absurd (false≢true (sym (ap (λ (z : Placed). z.is_variable) p) ∙ b));
    }

assign_core : (check : ℕ → ℕ → Bool) (a b : Expr) (o : Option BinOp) (d n k : ℕ) → assigns o ≡ true → Alone check a → Shows check b →
    ((placed check a).fits 0 d n >>= λ m. (placed check b).fits 1 d m) ≡ Some k → Core check (roll-Expr (layer.Assign a o b)) 1 d n k (λ operand. levelled operand a 0 ++ 32 ∷ assigned_text o ++ 32 ∷ levelled operand b 1)
assign_core check a b o d n k as' v sb h =
    let t = bound ((placed check a).fits 0 d n) (λ m. (placed check b).fits 1 d m) k h in
    let r = sb.shown 1 d t.0 k (omega arith) t.2 in
    record {
      form = assigned (variable v.name) o r.form;
      good = (v.valid, as', t.0, (v.valid, some_is n t.0 (sym (v.counts 0 d n) ∙ t.1)), r.good);
      fits = λ l le. (le, refl, tt, r.fits);
      text_is = λ operand. pair_text (levelled operand a 0) v.name (levelled operand b 1) (form_text operand r.form) (assigned_text o) (v.text operand 0 (omega arith)) (r.text operand);
      is = ap (expr.Assign (expr.Name v.name) o) r.is ∙ ap (λ (z : Expr). expr.Assign z o b) v.is ∙ sym (expr.rolls-Assign a o b);
    }

assign_by : (check : ℕ → ℕ → Bool) (a b : Expr) (o : Option BinOp) (v as' : Bool) → (placed check a).is_variable ≡ v → assigns o ≡ as' →
    placed check (roll-Expr (layer.Assign a o b)) ≡ placed_if (v && as') (record { is_variable = false; fits = λ l d n. let f = λ (d n : ℕ). (placed check a).fits 0 d n >>= λ m. (placed check b).fits 1 d m in if nat_le l 1 then f d n else (if nat_lt d limit then f (suc d) n else None) }) →
    Shows check b → Shows check a → Shows check (roll-Expr (layer.Assign a o b))
assign_by check a b o true true v w p sb sa = let x = layer.Assign a o b in record {
  shown = λ l d n k le h.
      by_level check (roll-Expr x) 1 l d n k (λ d n. (placed check a).fits 0 d n >>= λ m. (placed check b).fits 1 d m)
      (λ operand. levelled operand a 0 ++ 32 ∷ assigned_text o ++ 32 ∷ levelled operand b 1) (nat_le l 1) (nat_lt d limit) refl refl
      (λ d k f. assign_core check a b o d n k w (sa.alone v) sb f) (sym (ap (λ (z : Placed). z.fits l d n) p) ∙ h) (λ operand. ap (λ (z : ℕ → Text). z l) (texts operand x));
  alone = λ b. absurd (false≢true (sym (ap (λ (z : Placed). z.is_variable) p) ∙ b));
}
assign_by check a b o true false v w p sb sa = nowhere_shows check (roll-Expr (layer.Assign a o b)) (λ l d n. ap (λ (z : Placed). z.fits l d n) p) (ap (λ (z : Placed). z.is_variable) p)
assign_by check a b o false as' v w p sb sa = nowhere_shows check (roll-Expr (layer.Assign a o b)) (λ l d n. ap (λ (z : Placed). z.fits l d n) p) (ap (λ (z : Placed). z.is_variable) p)

layer_shows : (check : ℕ → ℕ → Bool) (y : Expr-F ((e : Expr) × Shows check e)) → Shows check (roll-Expr (map-Expr ((e : Expr) × Shows check e) Expr (λ z. z.0) y))
layer_shows check (layer.Constant m) = constant_shows check m
layer_shows check (layer.Name text) = name_by check text (is_name text) refl (placing check (layer.Name text))
layer_shows check (layer.Operand m) = operand_shows check m
layer_shows check (layer.Member text a) = let p = placing check (layer.Member text a.0) in nowhere_shows check (roll-Expr (layer.Member text a.0)) (λ l d n. ap (λ (z : Placed). z.fits l d n) p) (ap (λ (z : Placed). z.is_variable) p)
layer_shows check (layer.Unary o a) = unary_shows check o a.0 a.1
layer_shows check (layer.Step o a) = let p = placing check (layer.Step o a.0) in nowhere_shows check (roll-Expr (layer.Step o a.0)) (λ l d n. ap (λ (z : Placed). z.fits l d n) p) (ap (λ (z : Placed). z.is_variable) p)
layer_shows check (layer.Binary o a b) = binary_by check o a.0 b.0 (not (is_power o)) refl (placing check (layer.Binary o a.0 b.0)) a.1 b.1
layer_shows check (layer.And a b) = and_shows check a.0 b.0 a.1 b.1
layer_shows check (layer.Or a b) = or_shows check a.0 b.0 a.1 b.1
layer_shows check (layer.Comma a b) = let p = placing check (layer.Comma a.0 b.0) in nowhere_shows check (roll-Expr (layer.Comma a.0 b.0)) (λ l d n. ap (λ (z : Placed). z.fits l d n) p) (ap (λ (z : Placed). z.is_variable) p)
layer_shows check (layer.Assign a o b) = assign_by check a.0 b.0 o (placed check a.0).is_variable (assigns o) refl refl (placing check (layer.Assign a.0 o b.0)) b.1 a.1
layer_shows check (layer.Choose a b c) = choose_shows check a.0 b.0 c.0 a.1 b.1 c.1

-- every expression that has a place has a form
pub shows : (check : ℕ → ℕ → Bool) (e : Expr) → Shows check e
shows check = ind-Expr (Shows check) (λ x y is. subst (λ (z : Expr-F Expr). Shows check (roll-Expr z)) is (layer_shows check y))

number_is : (n : ℕ) (o : Option ℕ) → is_number n o ≡ true → o ≡ Some n
number_is n None e = absurd (false≢true e)
number_is n (Some m) e = ap Some (eqb-true m n e)

-- the form of an expression that fits with just these operands
pub sum_shown : (checks : List (ℕ → Bool)) (d : ℕ) (e : Expr) → sum_fits checks d e ≡ true → Shown (nth_check checks) e 0 d 0 (length checks)
sum_shown checks d e h = (shows (nth_check checks) e).shown 0 d 0 (length checks) (omega arith) (number_is (length checks) ((placed (nth_check checks) e).fits 0 d 0) h)
