-- The form of an arithmetic expansion's tokens is one of sh, with its operands in their order and at their depths.
use Rattle.std.proofs.Common.{◌≡◌, ℕ, suc, ◌+◌, Bool, true, false, List, [], ◌∷◌, refl, sym, ap, subst, ◌∙◌, arith}
use Rattle.std.specs.Prelude.{◌&&◌, nat_le, nat_lt}
use Rattle.std.proofs.lemmas.Bool.{false≢true}
use Rattle.span_text.specs.Names.{is_name}
use Rattle.span_text.specs.ExprTokens.{Token, number, name, indexed, operand, sign, greatest}
use Rattle.span_text.specs.declared.expr.UnOp.{UnOp}
use Rattle.span_text.specs.declared.expr.UnOp.TheVariants as unary
use Rattle.span_text.specs.declared.expr.BinOp.{BinOp}
use Rattle.span_text.specs.declared.expr.BinOp.TheVariants as op
use Rattle.span_text.specs.declared.expr.Expr.{Expr}
use Rattle.span_text.specs.declared.expr.Expr.TheVariants as expr
use Rattle.span_text.specs.declared.expr.Expr.TheOpen as layer
use Rattle.span_text.specs.declared.expr.Expr.TheFolds.{fold-roll-Expr}
use Rattle.span_text.specs.declared.sign.Infix.{Infix}
use Rattle.span_text.specs.declared.sign.Infix.TheVariants as infixes
use Rattle.span_text.specs.declared.sign.Sign.{Sign}
use Rattle.span_text.specs.declared.sign.Sign.TheVariants.{Between, Assign, Question, Colon, Open, Close}
use Rattle.span_text.specs.Expressions.{Form, literal, expanded, variable, member, group, prefixed, stepped, between, chosen, assigned, tree, joined, prefix, written, is_bare, Fits}
use Rattle.sh_grammar.specs.Steps.{limit}
use Rattle.sh_grammar.specs.Sums.{is_sh_expr}
use Rattle.sh_printing.specs.Spellable.{assigns}
use Rattle.sh_printing.proofs.BackBytes.{both}
use Rattle.sh_printing.proofs.BackForms.{Good, IsVariable, is_sh_infix}
use Rattle.sh_printing.proofs.BackSumCells.{unary_sh, and_sh, or_sh, assign_sh, choose_sh, binary_sh}

-- ---- tokens in their order

-- A sign from so deep to so deep.
abbrev pub SignTakes : ℕ → Sign → ℕ → Type 0
SignTakes d Open e = (nat_lt d limit ≡ true) × (e ≡ suc d)
SignTakes d Close e = d ≡ suc e
SignTakes d (Assign o) e = (assigns o ≡ true) × (d ≡ e)
SignTakes d s e = d ≡ e

-- a token, with so many operands before it and behind it
abbrev pub Takes : (ℕ → ℕ → Bool) → ℕ → ℕ → Token → ℕ → ℕ → Type 0
Takes check d n (number m) e k = (nat_le m greatest ≡ true) × (d ≡ e) × (n ≡ k)
Takes check d n (name t) e k = (is_name t ≡ true) × (d ≡ e) × (n ≡ k)
Takes check d n (indexed t) e k = (d ≡ e) × (n ≡ k)
Takes check d n (operand m) e k = (m ≡ n) × (check m d ≡ true) × (d ≡ e) × (k ≡ suc n)
Takes check d n (sign s) e k = SignTakes d s e × (n ≡ k)

-- tokens up to so deep and so many operands
abbrev pub Flow : (ℕ → ℕ → Bool) → ℕ → ℕ → ℕ → ℕ → List Token → Type 0
Flow check to many d n [] = (d ≡ to) × (n ≡ many)
Flow check to many d n (t ∷ ts) = (e : ℕ) × (k : ℕ) × Takes check d n t e k × Flow check to many e k ts

-- ---- forms of sh

no_member : (t : List ℕ) (a : Expr) → is_sh_expr (expr.Member t a) ≡ false
unfolding is_sh_expr
no_member t a = ap is_sh_expr (sym (expr.rolls-Member t a)) ∙ fold-roll-Expr Bool _ (layer.Member t a)

no_comma : (a b : Expr) → is_sh_expr (expr.Comma a b) ≡ false
unfolding is_sh_expr
no_comma a b = ap is_sh_expr (sym (expr.rolls-Comma a b)) ∙ fold-roll-Expr Bool _ (layer.Comma a b)

no_step : (o : Rattle.span_text.specs.declared.expr.StepOp.StepOp) (a : Expr) → is_sh_expr (expr.Step o a) ≡ false
unfolding is_sh_expr
no_step o a = ap is_sh_expr (sym (expr.rolls-Step o a)) ∙ fold-roll-Expr Bool _ (layer.Step o a)

no_power : (a b : Expr) → is_sh_expr (expr.Binary op.Power a b) ≡ false
unfolding is_sh_expr
no_power a b = ap is_sh_expr (sym (expr.rolls-Binary op.Power a b)) ∙ fold-roll-Expr Bool _ (layer.Binary op.Power a b)

record ShPair (i : Infix) (a b : Expr) : Type 0 where
  sh : is_sh_infix i ≡ true
  first : is_sh_expr a ≡ true
  second : is_sh_expr b ≡ true

pair_of : (i : Infix) (a b : Expr) → is_sh_infix i ≡ true → (is_sh_expr a && is_sh_expr b) ≡ true → ShPair i a b
pair_of i a b s e = let x = both (is_sh_expr a) (is_sh_expr b) e in record { sh = s; first = x.0; second = x.1 }

plain_pair : (o : BinOp) (a b : Expr) → is_sh_infix (infixes.Plain o) ≡ true → is_sh_expr (expr.Binary o a b) ≡ true → ShPair (infixes.Plain o) a b
plain_pair o a b s e = pair_of (infixes.Plain o) a b s (sym (binary_sh o a b s) ∙ e)

sh_pair : (i : Infix) (a b : Expr) → is_sh_expr (joined i a b) ≡ true → ShPair i a b
sh_pair (infixes.Plain op.Power) a b e = absurd (false≢true (sym (no_power a b) ∙ e))
sh_pair (infixes.Plain op.Times) a b e = plain_pair op.Times a b refl e
sh_pair (infixes.Plain op.Divide) a b e = plain_pair op.Divide a b refl e
sh_pair (infixes.Plain op.Remainder) a b e = plain_pair op.Remainder a b refl e
sh_pair (infixes.Plain op.Add) a b e = plain_pair op.Add a b refl e
sh_pair (infixes.Plain op.Subtract) a b e = plain_pair op.Subtract a b refl e
sh_pair (infixes.Plain op.ShiftLeft) a b e = plain_pair op.ShiftLeft a b refl e
sh_pair (infixes.Plain op.ShiftRight) a b e = plain_pair op.ShiftRight a b refl e
sh_pair (infixes.Plain op.Less) a b e = plain_pair op.Less a b refl e
sh_pair (infixes.Plain op.AtMost) a b e = plain_pair op.AtMost a b refl e
sh_pair (infixes.Plain op.Greater) a b e = plain_pair op.Greater a b refl e
sh_pair (infixes.Plain op.AtLeast) a b e = plain_pair op.AtLeast a b refl e
sh_pair (infixes.Plain op.Equal) a b e = plain_pair op.Equal a b refl e
sh_pair (infixes.Plain op.Unequal) a b e = plain_pair op.Unequal a b refl e
sh_pair (infixes.Plain op.BitAnd) a b e = plain_pair op.BitAnd a b refl e
sh_pair (infixes.Plain op.BitXor) a b e = plain_pair op.BitXor a b refl e
sh_pair (infixes.Plain op.BitOr) a b e = plain_pair op.BitOr a b refl e
sh_pair infixes.And a b e = pair_of infixes.And a b refl (sym (and_sh a b) ∙ e)
sh_pair infixes.Or a b e = pair_of infixes.Or a b refl (sym (or_sh a b) ∙ e)
sh_pair infixes.Comma a b e = absurd (false≢true (sym (no_comma a b) ∙ e))

three_sh : (a b c : Expr) → is_sh_expr (expr.Choose a b c) ≡ true → (is_sh_expr a ≡ true) × (is_sh_expr b ≡ true) × (is_sh_expr c ≡ true)
three_sh a b c e =
    let x = both (is_sh_expr a) (is_sh_expr b && is_sh_expr c) (sym (choose_sh a b c) ∙ e) in
    let y = both (is_sh_expr b) (is_sh_expr c) x.1 in (x.0, y.0, y.1)

bare_variable : (check : ℕ → ℕ → Bool) (f : Form) (d n k : ℕ) → is_bare f ≡ true → Good check d n k f → IsVariable f
bare_variable check (variable t) d n k b g = g.0
bare_variable check (member t f) d n k b g = absurd g
bare_variable check (literal m) d n k b g = absurd (false≢true b)
bare_variable check (expanded m) d n k b g = absurd (false≢true b)
bare_variable check (group f) d n k b g = absurd (false≢true b)
bare_variable check (prefixed o f) d n k b g = absurd (false≢true b)
bare_variable check (stepped o f) d n k b g = absurd (false≢true b)
bare_variable check (between i f h) d n k b g = absurd (false≢true b)
bare_variable check (chosen f h p) d n k b g = absurd (false≢true b)
bare_variable check (assigned f o h) d n k b g = absurd (false≢true b)

-- what a form is, and what stands behind it
abbrev Behind : (ℕ → ℕ → Bool) → ℕ → ℕ → ℕ → ℕ → Form → List Token → Type 0
Behind check to many d n f ts = (k : ℕ) × Good check d n k f × Flow check to many d k ts

prefix_takes : (o : UnOp) (d e : ℕ) → SignTakes d (prefix o) e → d ≡ e
prefix_takes unary.Plus d e h = h
prefix_takes unary.Minus d e h = h
prefix_takes unary.Not d e h = h
prefix_takes unary.Complement d e h = h

one_less : (d e : ℕ) → suc d ≡ suc e → d ≡ e
one_less d e h = omega (arith, h)

-- from a state that is the same
moved : (check : ℕ → ℕ → Bool) (to many d e n k : ℕ) (ts : List Token) → d ≡ e → n ≡ k → Flow check to many e k ts → Flow check to many d n ts
moved check to many d e n k ts h g f = subst (λ (z : ℕ). Flow check to many z n ts) (sym h) (subst (λ (z : ℕ). Flow check to many e z ts) (sym g) f)

written_good : (check : ℕ → ℕ → Bool) (to many : ℕ) (f : Form) (l d n : ℕ) (us : List Token) → is_sh_expr (tree f) ≡ true → Fits l f → Flow check to many d n (written f us) → Behind check to many d n f us
written_good check to many (literal m) l d n us s h g = (n, (g.2.0, refl), moved check to many d g.0 n g.1 us g.2.1 g.2.2 g.3)
written_good check to many (expanded m) l d n us s h g = (suc n, (g.2.0, g.2.1, refl), moved check to many d g.0 (suc n) g.1 us g.2.2 (sym g.2.3) g.3)
written_good check to many (variable t) l d n us s h g = (n, (g.2.0, refl), moved check to many d g.0 n g.1 us g.2.1 g.2.2 g.3)
written_good check to many (member t f) l d n us s h g = absurd (false≢true (sym (no_member t (tree f)) ∙ s))
written_good check to many (group f) l d n us s h g =
    let i = written_good check to many f 0 g.0 g.1 (sign Close ∷ us) s h g.3 in
    let c = i.2 in
    let e : g.0 ≡ suc d = g.2.0.1 in
    let good : Good check (suc d) n i.0 f = subst (λ (z : ℕ). Good check z n i.0 f) e (subst (λ (z : ℕ). Good check g.0 z i.0 f) (sym g.2.1) i.1) in
    (i.0, (g.2.0.0, good), moved check to many d c.0 i.0 c.1 us (one_less d c.0 (sym e ∙ c.2.0)) c.2.1 c.3)
written_good check to many (prefixed o f) l d n us s h g =
    written_good check to many f 14 d n us (sym (unary_sh o (tree f)) ∙ s) h.1 (moved check to many d g.0 n g.1 (written f us) (prefix_takes o d g.0 g.2.0) g.2.1 g.3)
written_good check to many (stepped o f) l d n us s h g = absurd (false≢true (sym (no_step o (tree f)) ∙ s))
written_good check to many (between i f p) l d n us s h g =
    let x = sh_pair i (tree f) (tree p) s in
    let a = written_good check to many f (Rattle.span_text.specs.Expressions.left_level i) d n (sign (Between i) ∷ written p us) x.first h.1 g in
    let t = a.2 in
    let b = written_good check to many p (Rattle.span_text.specs.Expressions.level i + 1) d a.0 us x.second h.2 (moved check to many d t.0 a.0 t.1 (written p us) t.2.0 t.2.1 t.3) in
    (b.0, (x.sh, a.0, a.1, b.1), b.2)
written_good check to many (chosen f p r) l d n us s h g =
    let x = three_sh (tree f) (tree p) (tree r) s in
    let a = written_good check to many f 3 d n (sign Question ∷ written p (sign Colon ∷ written r us)) x.0 h.1 g in
    let t = a.2 in
    let b = written_good check to many p 0 d a.0 (sign Colon ∷ written r us) x.1 h.2 (moved check to many d t.0 a.0 t.1 (written p (sign Colon ∷ written r us)) t.2.0 t.2.1 t.3) in
    let v = b.2 in
    let c = written_good check to many r 2 d b.0 us x.2 h.3 (moved check to many d v.0 b.0 v.1 (written r us) v.2.0 v.2.1 v.3) in
    (c.0, (a.0, b.0, a.1, b.1, c.1), c.2)
written_good check to many (assigned f o p) l d n us s h g =
    let x = both (is_sh_expr (tree f)) (is_sh_expr (tree p)) (sym (assign_sh (tree f) o (tree p)) ∙ s) in
    let a = written_good check to many f 0 d n (sign (Assign o) ∷ written p us) x.0 h.2 g in
    let t = a.2 in
    let b = written_good check to many p 1 d a.0 us x.1 h.3 (moved check to many d t.0 a.0 t.1 (written p us) t.2.0.1 t.2.1 t.3) in
    (b.0, (bare_variable check f d n a.0 h.1 a.1, t.2.0.0, a.0, a.1, b.1), b.2)

-- all tokens of a form
pub form_good : (check : ℕ → ℕ → Bool) (d many : ℕ) (f : Form) → is_sh_expr (tree f) ≡ true → Fits 0 f → Flow check d many d 0 (written f []) → Good check d 0 many f
form_good check d many f s h g = let x = written_good check d many f 0 d 0 [] s h g in subst (λ (z : ℕ). Good check d 0 z f) x.2.1 x.1
