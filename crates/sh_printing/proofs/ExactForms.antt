-- An expression that is written as a form of sh fits where the form stands, so deep or less deep.
use Rattle.std.proofs.Common.{◌≡◌, ℕ, ℤ, pos, negsuc, suc, ◌+◌, ◌≤◌, Bool, true, false, cond, Option, Some, None, refl, sym, ap, subst, ◌∙◌, eq-eqb}
use Rattle.std.specs.Prelude.{◌&&◌, not, ◌==◌, nat_le, nat_lt, if◌then◌else◌}
use Rattle.std.proofs.lemmas.Bool.{le-leb, lt-ltb, ltb-true, false≢true}
use Rattle.std.proofs.Common.{arith}
use Rattle.span_text.specs.Names.{is_name}
use Rattle.span_text.specs.ExprTokens.{greatest}
use Rattle.span_text.specs.declared.expr.Expr.{Expr}
use Rattle.span_text.specs.declared.expr.Expr.TheVariants as expr
use Rattle.span_text.specs.declared.expr.Expr.TheOpen.{Expr-F}
use Rattle.span_text.specs.declared.expr.Expr.TheOpen as layer
use Rattle.span_text.specs.declared.expr.Expr.TheViews.{roll-Expr}
use Rattle.span_text.specs.declared.expr.Expr.TheFolds.{map-Expr, fold-roll-Expr, ind-Expr}
use Rattle.span_text.specs.declared.sign.Infix.{Infix}
use Rattle.span_text.specs.declared.sign.Infix.TheVariants.{Plain, And, Or, Comma}
use Rattle.span_text.specs.Expressions.{Form, literal, expanded, variable, member, group, prefixed, stepped, between, chosen, assigned, tree, level, left_level, Fits}
use Rattle.sh_grammar.specs.Expansions.{◌>>=◌}
use Rattle.sh_grammar.specs.Steps.{limit}
use Rattle.sh_printing.specs.Spellable.{Placed, Inside, placed, place_step, assigns, is_power, placed_if, one}
use Rattle.sh_printing.proofs.BackForms.{Good, IsVariable, is_sh_infix}

-- ---- less deep

-- What fits so deep fits less deep, and what fits between parentheses fits without them, or in them.
pub record Falls (p : Placed) : Type 0 where
  pub down : (w d n k : ℕ) → p.fits w (suc d) n ≡ Some k → p.fits w d n ≡ Some k
  pub lift : (w d n k : ℕ) → nat_lt d limit ≡ true → p.fits 0 (suc d) n ≡ Some k → p.fits w d n ≡ Some k

abbrev Sinks : Inside → Type 0
Sinks f = (d n k : ℕ) → f (suc d) n ≡ Some k → f d n ≡ Some k

falls_one : (v : Bool) (f : Inside) → Sinks f → Falls (record { is_variable = v; fits = λ w d n. f d n })
falls_one v f s = record { down = λ w d n k e. s d n k e; lift = λ w d n k l e. s d n k e }

pub less : (d : ℕ) → nat_lt (suc d) limit ≡ true → nat_lt d limit ≡ true
less d e = let h = ltb-true (suc d) limit e in lt-ltb d limit (omega arith)

level_down : (f : Inside) (d n k : ℕ) (t l u : Bool) → nat_lt (suc d) limit ≡ l → nat_lt d limit ≡ u → Sinks f → cond t (f (suc d) n) (cond l (f (suc (suc d)) n) None) ≡ Some k → cond t (f d n) (cond u (f (suc d) n) None) ≡ Some k
level_down f d n k true l u e h s r = s d n k r
level_down f d n k false true true e h s r = s (suc d) n k r
level_down f d n k false true false e h s r = absurd (false≢true (sym h ∙ less d e))
level_down f d n k false false u e h s r = absurd cc

level_lift : (f : Inside) (d n k : ℕ) (t u : Bool) → u ≡ true → Sinks f → f (suc d) n ≡ Some k → cond t (f d n) (cond u (f (suc d) n) None) ≡ Some k
level_lift f d n k true u h s r = s d n k r
level_lift f d n k false true h s r = r
level_lift f d n k false false h s r = absurd (false≢true h)

-- at a level of its own
falls_level : (own : ℕ) (f : Inside) → Sinks f → Falls (record { is_variable = false; fits = λ w d n. if nat_le w own then f d n else (if nat_lt d limit then f (suc d) n else None) })
falls_level own f s = record {
  down = λ w d n k e. level_down f d n k (nat_le w own) (nat_lt (suc d) limit) (nat_lt d limit) refl refl s e;
  lift = λ w d n k l e. level_lift f d n k (nat_le w own) (nat_lt d limit) l s (subst (λ (z : Bool). cond z (f (suc d) n) (cond (nat_lt (suc d) limit) (f (suc (suc d)) n) None) ≡ Some k) (le-leb 0 own (omega arith)) e);
}

bound : (o : Option ℕ) (f : ℕ → Option ℕ) (k : ℕ) → (o >>= f) ≡ Some k → (m : ℕ) × (o ≡ Some m) × (f m ≡ Some k)
bound None f k e = absurd cc
bound (Some m) f k e = (m, refl, e)

sinks_both : (a b : Placed) (l m : ℕ) → Falls a → Falls b → Sinks (λ d n. a.fits l d n >>= λ k. b.fits m d k)
sinks_both a b l m fa fb d n k e =
    let x = bound (a.fits l (suc d) n) (λ j. b.fits m (suc d) j) k e in
    rw (fa.down l d n x.0 x.1) (fb.down m d x.0 k x.2)

sinks_three : (a b c : Placed) → Falls a → Falls b → Falls c → Sinks (λ d n. (a.fits 3 d n >>= λ k. b.fits 0 d k) >>= λ k. c.fits 2 d k)
sinks_three a b c fa fb fc d n k e =
    let x = bound (a.fits 3 (suc d) n >>= λ j. b.fits 0 (suc d) j) (λ j. c.fits 2 (suc d) j) k e in
    rw (sinks_both a b 3 0 fa fb d n x.0 x.1) (fc.down 2 d x.0 k x.2)

-- a check holds less deep too
abbrev pub Rises : (ℕ → ℕ → Bool) → Type 0
Rises check = (m d : ℕ) → check m (suc d) ≡ true → check m d ≡ true

operand_sinks : (m d n k : ℕ) (is deep here : Bool) → (deep ≡ true → here ≡ true) → cond (is && deep) (Some (suc n)) None ≡ Some k → cond (is && here) (Some (suc n)) None ≡ Some k
operand_sinks m d n k true true true h e = e
operand_sinks m d n k true true false h e = absurd (false≢true (h refl))
operand_sinks m d n k true false here h e = absurd cc
operand_sinks m d n k false deep here h e = absurd cc

falls_nowhere : Falls (one (λ d n. None))
falls_nowhere = record { down = λ w d n k e. absurd cc; lift = λ w d n k l e. absurd cc }

falls_if : (b : Bool) (p : Placed) → Falls p → Falls (placed_if b p)
falls_if true p f = f
falls_if false p f = falls_nowhere

placing : (check : ℕ → ℕ → Bool) (x : Expr-F Expr) → placed check (roll-Expr x) ≡ place_step check (map-Expr Expr Placed (placed check) x)
unfolding placed
placing check x = fold-roll-Expr Placed (place_step check) x

abbrev pub Deeper : (ℕ → ℕ → Bool) → Expr → Type 0
Deeper check e = Falls (placed check e)

rolled : (check : ℕ → ℕ → Bool) (x : Expr-F Expr) → Falls (place_step check (map-Expr Expr Placed (placed check) x)) → Deeper check (roll-Expr x)
rolled check x f = subst Falls (sym (placing check x)) f

constant_falls : (check : ℕ → ℕ → Bool) (m : ℤ) → Deeper check (roll-Expr (layer.Constant m))
constant_falls check (pos m) = rolled check (layer.Constant (pos m)) (falls_if (nat_le m greatest) (one (λ d n. Some n)) (falls_one false (λ d n. Some n) (λ d n k e. e)))
constant_falls check (negsuc m) = rolled check (layer.Constant (negsuc m)) falls_nowhere

layer_falls : (check : ℕ → ℕ → Bool) → Rises check → (y : Expr-F ((e : Expr) × Deeper check e)) → Deeper check (roll-Expr (map-Expr ((e : Expr) × Deeper check e) Expr (λ z. z.0) y))
layer_falls check r (layer.Constant m) = constant_falls check m
layer_falls check r (layer.Name text) = rolled check (layer.Name text) (falls_if (is_name text) (record { is_variable = true; fits = λ w d n. Some n }) (falls_one true (λ d n. Some n) (λ d n k e. e)))
layer_falls check r (layer.Operand m) = rolled check (layer.Operand m) (falls_one false (λ d n. if m == n && check m d then Some (suc n) else None) (λ d n k e. operand_sinks m d n k (m == n) (check m (suc d)) (check m d) (r m d) e))
layer_falls check r (layer.Member text a) = rolled check (layer.Member text a.0) falls_nowhere
layer_falls check r (layer.Unary o a) = rolled check (layer.Unary o a.0) (falls_level 14 (λ d n. (placed check a.0).fits 14 d n) (λ d n k e. a.1.down 14 d n k e))
layer_falls check r (layer.Step o a) = rolled check (layer.Step o a.0) falls_nowhere
layer_falls check r (layer.Binary o a b) =
    rolled check (layer.Binary o a.0 b.0) (falls_if (not (is_power o)) _ (falls_level (level (Plain o)) (λ d n. (placed check a.0).fits (left_level (Plain o)) d n >>= λ k. (placed check b.0).fits (level (Plain o) + 1) d k) (sinks_both (placed check a.0) (placed check b.0) (left_level (Plain o)) (level (Plain o) + 1) a.1 b.1)))
layer_falls check r (layer.And a b) =
    rolled check (layer.And a.0 b.0) (falls_level 4 (λ d n. (placed check a.0).fits 4 d n >>= λ k. (placed check b.0).fits (4 + 1) d k) (sinks_both (placed check a.0) (placed check b.0) 4 (4 + 1) a.1 b.1))
layer_falls check r (layer.Or a b) =
    rolled check (layer.Or a.0 b.0) (falls_level 3 (λ d n. (placed check a.0).fits 3 d n >>= λ k. (placed check b.0).fits (3 + 1) d k) (sinks_both (placed check a.0) (placed check b.0) 3 (3 + 1) a.1 b.1))
layer_falls check r (layer.Comma a b) = rolled check (layer.Comma a.0 b.0) falls_nowhere
layer_falls check r (layer.Assign a o b) =
    rolled check (layer.Assign a.0 o b.0) (falls_if ((placed check a.0).is_variable && assigns o) _ (falls_level 1 (λ d n. (placed check a.0).fits 0 d n >>= λ k. (placed check b.0).fits 1 d k) (sinks_both (placed check a.0) (placed check b.0) 0 1 a.1 b.1)))
layer_falls check r (layer.Choose a b c) =
    rolled check (layer.Choose a.0 b.0 c.0) (falls_level 2 (λ d n. ((placed check a.0).fits 3 d n >>= λ k. (placed check b.0).fits 0 d k) >>= λ k. (placed check c.0).fits 2 d k) (sinks_three (placed check a.0) (placed check b.0) (placed check c.0) a.1 b.1 c.1))

pub falls : (check : ℕ → ℕ → Bool) → Rises check → (e : Expr) → Deeper check e
falls check r = ind-Expr (Deeper check) (λ x y is. subst (λ (z : Expr-F Expr). Deeper check (roll-Expr z)) is (layer_falls check r y))

-- ---- the place of a form

abbrev FitsAt : (ℕ → ℕ → Bool) → Form → ℕ → ℕ → ℕ → ℕ → Type 0
FitsAt check f l d n k = (placed check (tree f)).fits l d n ≡ Some k

at_form : (check : ℕ → ℕ → Bool) (e : Expr) (x : Expr-F Expr) (l d n k : ℕ) → e ≡ roll-Expr x → (place_step check (map-Expr Expr Placed (placed check) x)).fits l d n ≡ Some k → (placed check e).fits l d n ≡ Some k
at_form check e x l d n k is h = ap (λ (z : Expr). (placed check z).fits l d n) is ∙ (ap (λ (p : Placed). p.fits l d n) (placing check x) ∙ h)

tight : (own l : ℕ) (f g : Option ℕ) (k : ℕ) → l ≤ own → f ≡ Some k → cond (nat_le l own) f g ≡ Some k
tight own l f g k le h = rw (le-leb l own le) h

pair_fits : (a b : Placed) (l m d n j k : ℕ) → a.fits l d n ≡ Some j → b.fits m d j ≡ Some k → (a.fits l d n >>= λ i. b.fits m d i) ≡ Some k
pair_fits a b l m d n j k e f = rw e f

variable_is : (check : ℕ → ℕ → Bool) (f : Form) → IsVariable f → (placed check (tree f)).is_variable ≡ true
variable_is check (literal m) v = absurd v
variable_is check (expanded m) v = absurd v
variable_is check (variable text) v = ap (λ (z : Expr). (placed check z).is_variable) (sym (expr.rolls-Name text)) ∙ (ap (λ (p : Placed). p.is_variable) (placing check (layer.Name text)) ∙ rw v refl)
variable_is check (member text f) v = absurd v
variable_is check (group f) v = absurd v
variable_is check (prefixed o f) v = absurd v
variable_is check (stepped o f) v = absurd v
variable_is check (between i f g) v = absurd v
variable_is check (chosen f g h) v = absurd v
variable_is check (assigned f o g) v = absurd v

between_fits : (check : ℕ → ℕ → Bool) (i : Infix) (a b : Expr) (l d n k : ℕ) → is_sh_infix i ≡ true → l ≤ level i → ((placed check a).fits (left_level i) d n >>= λ j. (placed check b).fits (level i + 1) d j) ≡ Some k → (placed check (Rattle.span_text.specs.Expressions.joined i a b)).fits l d n ≡ Some k
between_fits check (Plain o) a b l d n k s le h = at_form check (expr.Binary o a b) (layer.Binary o a b) l d n k (sym (expr.rolls-Binary o a b)) (rw s (tight (level (Plain o)) l _ _ k le h))
between_fits check And a b l d n k s le h = at_form check (expr.And a b) (layer.And a b) l d n k (sym (expr.rolls-And a b)) (tight 4 l _ _ k le h)
between_fits check Or a b l d n k s le h = at_form check (expr.Or a b) (layer.Or a b) l d n k (sym (expr.rolls-Or a b)) (tight 3 l _ _ k le h)
between_fits check Comma a b l d n k s le h = absurd (false≢true s)

-- a form of sh that fits a level, and is good so deep, has its place there
pub form_fits : (check : ℕ → ℕ → Bool) → Rises check → (f : Form) (l d n k : ℕ) → Fits l f → Good check d n k f → (placed check (tree f)).fits l d n ≡ Some k
form_fits check r (literal m) l d n k h g = at_form check (expr.Constant (pos m)) (layer.Constant (pos m)) l d n k (sym (expr.rolls-Constant (pos m))) (rw g.0 (ap (λ (z : ℕ). Some z) g.1))
form_fits check r (expanded m) l d n k h g = at_form check (expr.Operand m) (layer.Operand m) l d n k (sym (expr.rolls-Operand m)) (rw (eq-eqb m n g.0, g.1) (ap (λ (z : ℕ). Some z) (sym g.2)))
form_fits check r (variable text) l d n k h g = at_form check (expr.Name text) (layer.Name text) l d n k (sym (expr.rolls-Name text)) (rw g.0 (ap (λ (z : ℕ). Some z) g.1))
form_fits check r (member text f) l d n k h g = absurd g
form_fits check r (group f) l d n k h g = (falls check r (tree f)).lift l d n k g.0 (form_fits check r f 0 (suc d) n k h g.1)
form_fits check r (prefixed o f) l d n k h g =
    at_form check (expr.Unary o (tree f)) (layer.Unary o (tree f)) l d n k (sym (expr.rolls-Unary o (tree f))) (tight 14 l _ _ k h.0 (form_fits check r f 14 d n k h.1 g))
form_fits check r (stepped o f) l d n k h g = absurd g
form_fits check r (between i f u) l d n k h g =
    let a = form_fits check r f (left_level i) d n g.1 h.1 g.2 in
    let b = form_fits check r u (level i + 1) d g.1 k h.2 g.3 in
    between_fits check i (tree f) (tree u) l d n k g.0 h.0 (pair_fits (placed check (tree f)) (placed check (tree u)) (left_level i) (level i + 1) d n g.1 k a b)
form_fits check r (chosen f u v) l d n k h g =
    let a = form_fits check r f 3 d n g.0 h.1 g.2 in
    let b = form_fits check r u 0 d g.0 g.1 h.2 g.3 in
    let c = form_fits check r v 2 d g.1 k h.3 g.4 in
    at_form check (expr.Choose (tree f) (tree u) (tree v)) (layer.Choose (tree f) (tree u) (tree v)) l d n k (sym (expr.rolls-Choose (tree f) (tree u) (tree v)))
    (tight 2 l _ _ k h.0 (rw (pair_fits (placed check (tree f)) (placed check (tree u)) 3 0 d n g.0 g.1 a b) c))
form_fits check r (assigned f o u) l d n k h g =
    let a = form_fits check r f 0 d n g.2 h.2 g.3 in
    let b = form_fits check r u 1 d g.2 k h.3 g.4 in
    at_form check (expr.Assign (tree f) o (tree u)) (layer.Assign (tree f) o (tree u)) l d n k (sym (expr.rolls-Assign (tree f) o (tree u)))
    (rw (variable_is check f g.0, g.1) (tight 1 l _ _ k h.0 (pair_fits (placed check (tree f)) (placed check (tree u)) 0 1 d n g.2 k a b)))
