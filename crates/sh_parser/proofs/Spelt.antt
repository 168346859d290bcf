-- The expression that a text spells is the one that its tokens are read as.
use Rattle.std.proofs.Common.{◌≡◌, true, false, List, [], ◌∷◌, Option, Some, None, refl, ap, ◌∙◌}
use Rattle.std.specs.Prelude.{if◌then◌else◌}
use Rattle.span_text.specs.declared.expr.Expr.{Expr}
use Rattle.span_text.specs.ExprTokens.{Token, gap, tokens, cells_of, without_joins}
use Rattle.span_text.specs.Expressions.{IsSpelled, written}
use Rattle.arith64.specs.Parsing.{parsed}
use Rattle.arith64.proofs.Complete.{reads}
use Rattle.arith64.proofs.Sound.{sound}
use Rattle.sh_grammar.specs.Expansions.{◌>>=◌}
use Rattle.sh_grammar.specs.State.{Sum, State}
use Rattle.sh_parser.specs.Views.{closed}
use Rattle.sh_grammar.specs.Sums.{is_sh_expr, expression}

read_as : (s : Sum) (e : Expr) → IsSpelled s.text s.operands e → (ts : List Token) × (tokens gap (without_joins false (cells_of s.text s.operands)) ≡ Some ts) × (parsed ts ≡ Some e)
read_as s e h = (written h.form [], h.is_written, reads h.form h.fits ∙ ap (λ (x : Expr). Some x) h.is)

-- an expression of sh
pub spelled_sh : (s : Sum) (e : Expr) → IsSpelled s.text s.operands e → is_sh_expr e ≡ true → expression s ≡ Some e
unfolding expression
spelled_sh s e h sh = let r = read_as s e h in rw (r.1, r.2, sh) refl

-- an expression that sh doesn't have
pub spelled_else : (s : Sum) (e : Expr) → IsSpelled s.text s.operands e → is_sh_expr e ≡ false → expression s ≡ None
unfolding expression
spelled_else s e h sh = let r = read_as s e h in rw (r.1, r.2, sh) refl

parsed_none : (s : Sum) (ts : List Token) (o : Option Expr) → tokens gap (without_joins false (cells_of s.text s.operands)) ≡ Some ts → parsed ts ≡ o → ((e : Expr) → IsSpelled s.text s.operands e → ⊥) → o ≡ None
parsed_none s ts None t p h = refl
parsed_none s ts (Some e) t p h =
    let f = sound ts e p in
    absurd (h e (record { form = f.form; fits = f.fits; is_written = t ∙ ap (λ (us : List Token). Some us) f.tokens; is = f.is }))

tokens_none : (s : Sum) (o : Option (List Token)) → tokens gap (without_joins false (cells_of s.text s.operands)) ≡ o → ((e : Expr) → IsSpelled s.text s.operands e → ⊥) → (o >>= λ ts. parsed ts >>= λ e. if is_sh_expr e then Some e else None) ≡ None
tokens_none s None t h = refl
tokens_none s (Some ts) t h = ap (λ (x : Option Expr). x >>= λ e. if is_sh_expr e then Some e else None) (parsed_none s ts (parsed ts) t refl h)

-- none at all
pub unspelled : (s : Sum) → ((e : Expr) → IsSpelled s.text s.operands e → ⊥) → expression s ≡ None
unfolding expression
unspelled s h = tokens_none s (tokens gap (without_joins false (cells_of s.text s.operands))) refl h

-- the innermost is closed, of the sums that stand open
pub closes : (s : State) (x : Sum) (xs : List Sum) (o : Option Expr) → s.sums ≡ x ∷ xs → expression x ≡ o → closed s ≡ (o >>= λ e. Some (e, record s { sums = xs }))
closes s x xs o e f = rw (e, f) refl
