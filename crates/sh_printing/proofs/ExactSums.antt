-- Arithmetic expansions that were read fit.
use Rattle.std.proofs.Common.{◌≡◌, ℕ, zero, suc, Bool, true, false, cond, List, [], ◌∷◌, ◌++◌, length, Option, Some, None, inr, refl, sym, ap, subst, ◌∙◌, append_assoc, append-nil, eq-eqb, arith}
use Rattle.std.specs.Prelude.{◌||◌, not, ◌==◌}
use Rattle.std.specs.List.{list_all}
use Rattle.span_text.specs.ExprTokens.{Cell, byte, expansion, without_joins, Token, gap, tokens}
use Rattle.span_text.specs.declared.expr.Expr.{Expr}
use Rattle.span_text.specs.Expressions.{tree}
use Rattle.arith64.specs.Parsing.{parsed}
use Rattle.arith64.proofs.Sound.{sound}
use Rattle.sh_grammar.specs.Shape as shape
use Rattle.sh_grammar.specs.Shape.{no_part, part, no_word, word, arith as arith_part}
use Rattle.sh_grammar.specs.Bytes.{Text}
use Rattle.sh_grammar.specs.Expansions.{◌>>=◌}
use Rattle.sh_grammar.specs.State.{Node, part_node, expr_node, operands_in, sum_in}
use Rattle.sh_grammar.specs.Sums.{is_sh_expr, expression}
use Rattle.sh_printing.specs.Spellable.{placed, nth_check, sum_fits}
use Rattle.sh_printing.specs.Printable.{operand_fits, operand_checks}
use Rattle.sh_printing.proofs.BackBytes.{both, isnt, neither}
use Rattle.sh_printing.proofs.BackSumTokens.{put}
use Rattle.sh_printing.proofs.BackSumCells.{Numbered, cells_back, sum_of}
use Rattle.sh_printing.proofs.ExactForms.{Rises, form_fits}
use Rattle.sh_printing.proofs.ExactTokens.{Flow, form_good}
use Rattle.sh_printing.proofs.ExactCells.{ByteTakes, Cells, cells_flow}

-- ---- the expression of cells

cells_numbered : (check : ℕ → ℕ → Bool) (to many d n : ℕ) (cs : List Cell) → Cells check to many d n cs → Numbered n cs
cells_numbered check to many d n [] h = tt
cells_numbered check to many d n (byte b ∷ cs) h = subst (λ (z : ℕ). Numbered z cs) (sym h.2.1) (cells_numbered check to many h.0 h.1 cs h.3)
cells_numbered check to many d n (expansion m ∷ cs) h = (h.2.0, subst (λ (z : ℕ). Numbered z cs) h.2.3 (cells_numbered check to many h.0 h.1 cs h.3))

some_is : (e x : Expr) → Some e ≡ Some x → e ≡ x
some_is e x h = cc

sh_only_at : (b : Bool) (e x : Expr) → is_sh_expr e ≡ b → cond b (Some e) None ≡ Some x → (is_sh_expr e ≡ true) × (e ≡ x)
sh_only_at true e x s h = (s, some_is e x h)
sh_only_at false e x s h = absurd cc

sh_only : (e x : Expr) → cond (is_sh_expr e) (Some e) None ≡ Some x → (is_sh_expr e ≡ true) × (e ≡ x)
sh_only e x h = sh_only_at (is_sh_expr e) e x refl h

fits_of : (checks : List (ℕ → Bool)) (d : ℕ) (x : Expr) → (placed (nth_check checks) x).fits 0 d 0 ≡ Some (length checks) → sum_fits checks d x ≡ true
fits_of checks d x h = rw h (eq-eqb (length checks) (length checks) refl)

form_of : (checks : List (ℕ → Bool)) (d : ℕ) (cs : List Cell) (ts : List Token) (e : Expr) → Rises (nth_check checks) → Cells (nth_check checks) d (length checks) d 0 cs → tokens gap (without_joins false cs) ≡ Some ts → parsed ts ≡ Some e → is_sh_expr e ≡ true →
    sum_fits checks d e ≡ true
form_of checks d cs ts e r c t p s =
    let f = sound ts e p in
    let w = subst (λ (z : List Token). Flow (nth_check checks) d (length checks) d 0 z) f.tokens (cells_flow (nth_check checks) d (length checks) cs ts c t) in
    let g = form_good (nth_check checks) d (length checks) f.form (ap is_sh_expr f.is ∙ s) f.fits w in
    subst (λ (z : Expr). sum_fits checks d z ≡ true) f.is (fits_of checks d (tree f.form) (form_fits (nth_check checks) r f.form 0 d 0 (length checks) f.fits g))

parsed_of : (checks : List (ℕ → Bool)) (d : ℕ) (cs : List Cell) (ts : List Token) (x : Expr) (o : Option Expr) → Rises (nth_check checks) → Cells (nth_check checks) d (length checks) d 0 cs → tokens gap (without_joins false cs) ≡ Some ts → parsed ts ≡ o →
    (o >>= λ e. cond (is_sh_expr e) (Some e) None) ≡ Some x → sum_fits checks d x ≡ true
parsed_of checks d cs ts x None r c t p h = absurd cc
parsed_of checks d cs ts x (Some e) r c t p h = let s = sh_only e x h in subst (λ (z : Expr). sum_fits checks d z ≡ true) s.1 (form_of checks d cs ts e r c t p s.0)

read_of : (checks : List (ℕ → Bool)) (d : ℕ) (cs : List Cell) (x : Expr) (o : Option (List Token)) → Rises (nth_check checks) → Cells (nth_check checks) d (length checks) d 0 cs → tokens gap (without_joins false cs) ≡ o →
    (o >>= λ ts. parsed ts >>= λ e. cond (is_sh_expr e) (Some e) None) ≡ Some x → sum_fits checks d x ≡ true
read_of checks d cs x None r c t h = absurd cc
read_of checks d cs x (Some ts) r c t h = parsed_of checks d cs ts x (parsed ts) r c t refl h

-- an expression that is read of cells fits
pub cells_fit : (checks : List (ℕ → Bool)) (d : ℕ) (cs : List Cell) (x : Expr) → Rises (nth_check checks) → Cells (nth_check checks) d (length checks) d 0 cs → expression (sum_of cs) ≡ Some x → sum_fits checks d x ≡ true
unfolding expression
cells_fit checks d cs x r c h =
    let n = cells_back 0 0 cs (cells_numbered (nth_check checks) d (length checks) d 0 cs c) in
    read_of checks d cs x (tokens gap (without_joins false cs)) r c refl
    (subst (λ (z : List Cell). (tokens gap (without_joins false z) >>= λ ts. parsed ts >>= λ e. cond (is_sh_expr e) (Some e) None) ≡ Some x) n h)

-- ---- cells that are read, with what their operands are

-- from so deep, behind n operands, to so deep and so many: the values are the operands
abbrev pub Holds : Bool → ℕ → ℕ → ℕ → ℕ → List Cell → List Node → Type 0
Holds i to many d n [] vs = (d ≡ to) × (n ≡ many) × (vs ≡ [])
Holds i to many d n (byte b ∷ es) vs = (e : ℕ) × ByteTakes d b e × Holds i to many e n es vs
Holds i to many d n (expansion m ∷ es) vs = (p : shape.Part) × (ws : List Node) × (m ≡ n) × (vs ≡ part_node p ∷ ws) × (operand_fits i d (part p no_part) ≡ true) × Holds i to many d (suc n) es ws

pub holds_both : (i : Bool) (a p b q d n : ℕ) (es fs : List Cell) (vs ws : List Node) → Holds i a p d n es vs → Holds i b q a p fs ws → Holds i b q d n (es ++ fs) (vs ++ ws)
holds_both i a p b q d n [] fs vs ws h g =
    subst (λ (z : List Node). Holds i b q d n fs (z ++ ws)) (sym h.2) (subst (λ (z : ℕ). Holds i b q z n fs ws) (sym h.0) (subst (λ (z : ℕ). Holds i b q a z fs ws) (sym h.1) g))
holds_both i a p b q d n (byte x ∷ es) fs vs ws h g = (h.0, h.1, holds_both i a p b q h.0 n es fs vs ws h.2 g)
holds_both i a p b q d n (expansion m ∷ es) fs vs ws h g =
    (h.0, h.1 ++ ws, h.2, ap (λ (z : List Node). z ++ ws) h.3, h.4, holds_both i a p b q d (suc n) es fs h.1 ws h.5 g)

pub holds_put : (i : Bool) (d n : ℕ) (w : Text) → list_all (λ b. not (b == 40 || b == 41)) w ≡ true → Holds i d n d n (put w []) []
holds_put i d n [] e = (refl, refl, refl)
holds_put i d n (b ∷ bs) e =
    let x = both (not (b == 40 || b == 41)) (list_all (λ b. not (b == 40 || b == 41)) bs) e in
    let y = neither (b == 40) (b == 41) (isnt (b == 40 || b == 41) x.0) in
    (d, inr (inr (y.0, y.1, refl)), holds_put i d n bs x.1)

-- values that are operands, before an expression
pub holds_nodes : (i : Bool) (to many d n : ℕ) (es : List Cell) (vs : List Node) (e : Expr) (ws : shape.Words) → Holds i to many d n es vs → (operands_in (vs ++ expr_node e ∷ []) ≡ operands_in vs) × (sum_in (vs ++ expr_node e ∷ []) ws ≡ arith_part e ws)
holds_nodes i to many d n [] vs e ws h = subst (λ (z : List Node). (operands_in (z ++ expr_node e ∷ []) ≡ operands_in z) × (sum_in (z ++ expr_node e ∷ []) ws ≡ arith_part e ws)) (sym h.2) (refl, refl)
holds_nodes i to many d n (byte b ∷ es) vs e ws h = holds_nodes i to many h.0 n es vs e ws h.2
holds_nodes i to many d n (expansion m ∷ es) vs e ws h =
    let r = holds_nodes i to many d (suc n) es h.1 e ws h.5 in
    subst (λ (z : List Node). (operands_in (z ++ expr_node e ∷ []) ≡ operands_in z) × (sum_in (z ++ expr_node e ∷ []) ws ≡ arith_part e ws)) (sym h.3) (ap (λ (z : shape.Words). word (part h.0 no_part) z) r.0, r.1)

nth_pre : (pre fs : List (ℕ → Bool)) (f : ℕ → Bool) (m d : ℕ) → m ≡ length pre → nth_check (pre ++ f ∷ fs) m d ≡ f d
nth_pre [] fs f zero d e = refl
nth_pre [] fs f (suc m) d e = absurd (omega (arith, e))
nth_pre (g ∷ pre) fs f zero d e = absurd (omega (arith, e))
nth_pre (g ∷ pre) fs f (suc m) d e = nth_pre pre fs f m d (omega (arith, e))

length_more : (pre : List (ℕ → Bool)) (f : ℕ → Bool) (n : ℕ) → n ≡ length pre → suc n ≡ length (pre ++ f ∷ [])
length_more [] f n e = omega (arith, e)
length_more (g ∷ pre) f zero e = absurd (omega (arith, e))
length_more (g ∷ pre) f (suc n) e = let i = length_more pre f n (omega (arith, e)) in omega (arith, i)

-- the cells, checked by what their operands are
abbrev pub Checked : Bool → List (ℕ → Bool) → ℕ → ℕ → ℕ → ℕ → List Cell → List Node → Type 0
Checked i pre to many d n es vs = Cells (nth_check (pre ++ operand_checks i (operands_in vs))) to many d n es × (many ≡ length (pre ++ operand_checks i (operands_in vs)))

pub holds_cells : (i : Bool) (pre : List (ℕ → Bool)) (to many d n : ℕ) (es : List Cell) (vs : List Node) → n ≡ length pre → Holds i to many d n es vs → Checked i pre to many d n es vs
holds_cells i pre to many d n [] vs e h =
    subst (Checked i pre to many d n []) (sym h.2) ((h.0, h.1), sym h.1 ∙ (e ∙ ap length (sym (append-nil pre))))
holds_cells i pre to many d n (byte b ∷ es) vs e h = let r = holds_cells i pre to many h.0 n es vs e h.2 in ((h.0, n, (h.1, refl), r.0), r.1)
holds_cells i pre to many d n (expansion m ∷ es) vs e h =
    let f = λ (z : ℕ). operand_fits i z (part h.0 no_part) in
    let r = holds_cells i (pre ++ f ∷ []) to many d (suc n) es h.1 (length_more pre f n e) h.5 in
    let same : (pre ++ f ∷ []) ++ operand_checks i (operands_in h.1) ≡ pre ++ f ∷ operand_checks i (operands_in h.1) = append_assoc pre (f ∷ []) (operand_checks i (operands_in h.1)) in
    let c = subst (λ (z : List (ℕ → Bool)). Cells (nth_check z) to many d (suc n) es × (many ≡ length z)) same r in
    let fits = nth_pre pre (operand_checks i (operands_in h.1)) f m d (h.2 ∙ e) ∙ h.4 in
    subst (Checked i pre to many d n (expansion m ∷ es)) (sym h.3) ((d, suc n, (h.2, fits, refl, refl), c.0), c.1)
