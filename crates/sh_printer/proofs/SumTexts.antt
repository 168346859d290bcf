-- The level and the text of an expression, one operator deep.
use Rattle.std.proofs.Common.{◌≡◌, ℕ, ◌≤◌, ◌<◌, ◌+◌, ◌||◌, zero, suc, List, length, get_or, take, ◌++◌, ◌∷◌, [], Bool, true, false, refl, sym, ap, ◌∙◌, arith}
use Rattle.std.proofs.lemmas.Bool.{le-leb}
use Rattle.std.specs.Prelude.{nat_le, map, if◌then◌else◌}
use Rattle.span_text.specs.declared.expr.Expr.{Expr}
use Rattle.span_text.specs.declared.expr.Expr.TheOpen.{Expr-F}
use Rattle.span_text.specs.declared.expr.Expr.TheOpen as layer
use Rattle.span_text.specs.declared.expr.Expr.TheViews.{roll-Expr}
use Rattle.span_text.specs.declared.expr.Expr.TheFolds.{map-Expr, fold-roll-Expr, ind-Expr}
use Rattle.span_text.specs.declared.sign.Infix.TheVariants as sign
use Rattle.span_text.specs.Expressions.{level}
use Rattle.sh_grammar.specs.Bytes.{Text, in_double}
use Rattle.sh_grammar.specs.Steps.{nth}
use Rattle.sh_printer.specs.Levels.{level_step, own_level}
use Rattle.sh_syntax.specs.declared.tree.Word.{Word}
use Rattle.sh_printing.specs.Printing.{behind_opening, operand_texts, parts_open, parts_text, words_open}
use Rattle.sh_printer.specs.Weights.{parts_weight, words_weight}
use Rattle.sh_syntax.specs.View.{view_word, words_of}
use Rattle.sh_printing.specs.Sums.{Levelled, expr_step, levelled_text}

pub own_is : (e : Expr) (x : Expr-F Expr) → e ≡ roll-Expr x → own_level e ≡ level_step (map-Expr Expr ℕ own_level x)
own_is e x is = ap own_level is ∙ fold-roll-Expr ℕ level_step x

pub text_is : (operand : ℕ → Text) (e : Expr) (x : Expr-F Expr) (wanted : ℕ) → e ≡ roll-Expr x → levelled_text operand e wanted ≡ expr_step operand (map-Expr Expr Levelled (levelled_text operand) x) wanted
text_is operand e x wanted is = ap (λ (z : Expr). levelled_text operand z wanted) is ∙ ap (λ (z : Levelled). z wanted) (fold-roll-Expr Levelled (expr_step operand) x)

-- an expression is its own text, in parentheses where it is looser than what is asked for
abbrev Enclosed : (operand : ℕ → Text) → Expr → Type 0
Enclosed operand e = (wanted : ℕ) → levelled_text operand e wanted ≡ (if nat_le wanted (own_level e) then levelled_text operand e 0 else 40 ∷ levelled_text operand e 0 ++ 41 ∷ [])

layer_text : (operand : ℕ → Text) (x : Expr-F Expr) (wanted : ℕ) →
    expr_step operand (map-Expr Expr Levelled (levelled_text operand) x) wanted
    ≡ (if nat_le wanted (level_step (map-Expr Expr ℕ own_level x)) then expr_step operand (map-Expr Expr Levelled (levelled_text operand) x) 0 else 40 ∷ expr_step operand (map-Expr Expr Levelled (levelled_text operand) x) 0 ++ 41 ∷ [])
layer_text operand (layer.Constant n) wanted = refl
layer_text operand (layer.Name text) wanted = refl
layer_text operand (layer.Operand n) wanted = refl
layer_text operand (layer.Member text a) wanted = refl
layer_text operand (layer.Unary op a) wanted = refl
layer_text operand (layer.Step op a) wanted = refl
layer_text operand (layer.Binary op a b) wanted = rw (le-leb 0 (level (sign.Plain op)) (omega arith)) refl
layer_text operand (layer.And a b) wanted = refl
layer_text operand (layer.Or a b) wanted = refl
layer_text operand (layer.Comma a b) wanted = refl
layer_text operand (layer.Assign a op b) wanted = refl
layer_text operand (layer.Choose a b c) wanted = refl

layer_enclosed : (operand : ℕ → Text) (x : Expr-F Expr) → Enclosed operand (roll-Expr x)
layer_enclosed operand x wanted = rw (text_is operand (roll-Expr x) x wanted refl, text_is operand (roll-Expr x) x 0 refl, own_is (roll-Expr x) x refl) (layer_text operand x wanted)

pub enclosed : (operand : ℕ → Text) (e : Expr) → Enclosed operand e
enclosed operand = ind-Expr (Enclosed operand) (λ x y is. layer_enclosed operand x)

enclosed_at : (operand : ℕ → Text) (e : Expr) (wanted : ℕ) (bare : Bool) → nat_le wanted (own_level e) ≡ bare → levelled_text operand e wanted ≡ (if bare then levelled_text operand e 0 else 40 ∷ levelled_text operand e 0 ++ 41 ∷ [])
enclosed_at operand e wanted bare is = enclosed operand e wanted ∙ ap (λ (z : Bool). if z then levelled_text operand e 0 else 40 ∷ levelled_text operand e 0 ++ 41 ∷ []) is

pub stands_bare : (operand : ℕ → Text) (e : Expr) (wanted : ℕ) → nat_le wanted (own_level e) ≡ true → levelled_text operand e 0 ≡ levelled_text operand e wanted
stands_bare operand e wanted is = sym (enclosed_at operand e wanted true is)

pub stands_closed : (operand : ℕ → Text) (e : Expr) (wanted : ℕ) → nat_le wanted (own_level e) ≡ false → (40 ∷ levelled_text operand e 0 ++ 41 ∷ []) ≡ levelled_text operand e wanted
stands_closed operand e wanted is = sym (enclosed_at operand e wanted false is)

-- there is no operand behind the last one
pub operand_past : (full : Bool) (opening : Text) (ws : List Word) (n : ℕ) → length ws ≤ n → nth (operand_texts full opening (words_of (map view_word ws))) n ≡ []
operand_past full opening [] n le = refl
operand_past full opening (w ∷ ws) zero le = absurd (omega arith)
operand_past full opening (w ∷ ws) (suc n) le = operand_past full (behind_opening (parts_open (view_word w)) opening) ws n (omega arith)

behind_or : (a b : Bool) (opening : Text) → behind_opening b (behind_opening a opening) ≡ behind_opening (a || b) opening
behind_or true true opening = refl
behind_or true false opening = refl
behind_or false true opening = refl
behind_or false false opening = refl

-- the operand of a number, behind those before it
pub operand_at : (full : Bool) (opening : Text) (ws : List Word) (n : ℕ) (w : Word) → n < length ws → w ≡ get_or ws n w → nth (operand_texts full opening (words_of (map view_word ws))) n ≡ parts_text full in_double (behind_opening (words_open (words_of (map view_word (take n ws)))) opening) (view_word w)
operand_at full opening [] n w lt is = absurd (omega arith)
operand_at full opening (v ∷ ws) zero w lt is = ap (λ (u : Word). parts_text full in_double opening (view_word u)) (sym is)
operand_at full opening (v ∷ ws) (suc n) w lt is =
    operand_at full (behind_opening (parts_open (view_word v)) opening) ws n w (omega arith) is
    ∙ ap (λ (t : Text). parts_text full in_double t (view_word w)) (behind_or (parts_open (view_word v)) (words_open (words_of (map view_word (take n ws)))) opening)

pub operand_weight : (ws : List Word) (n : ℕ) (w : Word) → n < length ws → w ≡ get_or ws n w → 20 + parts_weight (view_word w) ≤ words_weight (words_of (map view_word ws))
operand_weight [] n w lt is = absurd (omega arith)
operand_weight (v ∷ ws) zero w lt is = let same : parts_weight (view_word w) ≡ parts_weight (view_word v) = ap (λ (u : Word). parts_weight (view_word u)) is in omega arith
operand_weight (v ∷ ws) (suc n) w lt is = omega (arith, operand_weight ws n w (omega arith) is)
