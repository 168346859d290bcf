-- Chains of operators: what their expressions weigh, and that a chain's text is that of its first operand and of its operators.
use Rattle.std.proofs.Common.{◌≡◌, ℕ, ◌+◌, ◌-◌, ◌*◌, ◌/◌, ◌^◌, ◌≤◌, ◌<◌, zero, suc, Bool, true, false, [], ◌∷◌, ◌++◌, refl, sym, ap, ◌∙◌, arith, append_assoc}
use borrow.Author.Count.{below_more}
use Rattle.std.specs.Prelude.{nat_le, Option, Some, None, codes, if◌then◌else◌}
use Rattle.std.proofs.Math.Nat.{pow-succ'}
use Rattle.std.proofs.lemmas.List.{append-nil}
use Rattle.std.proofs.lemmas.Bool.{le-leb, leb-true, lt-leb}
use Rattle.span_text.specs.declared.expr.Expr.{Expr}
use Rattle.span_text.specs.declared.expr.Expr.TheOpen.{Expr-F}
use Rattle.span_text.specs.declared.expr.Expr.TheOpen as layer
use Rattle.span_text.specs.declared.expr.Expr.TheViews.{roll-Expr, out-Expr, out-roll-Expr, roll-out-Expr}
use Rattle.span_text.specs.declared.expr.Expr.TheFolds.{fold-roll-Expr}
use Rattle.span_text.specs.declared.expr.BinOp.{BinOp}
use Rattle.span_text.specs.declared.sign.Infix.TheVariants as sign
use Rattle.span_text.specs.Expression.{Size, nodes}
use Rattle.span_text.specs.Expressions.{level, left_level}
use Rattle.sh_grammar.specs.Bytes.{Text}
use Rattle.sh_printer.specs.Chains.{if_bare, first_step, first_of, has_first_by, has_first, next_by, next_down, down, last_step, last_operator, operators_text, few_text, halves_text, Chained, layer_nodes}
use Rattle.sh_printer.specs.Levels.{own_level}
use Rattle.sh_printing.specs.Sums.{binary_text, levelled_text}
use Rattle.sh_printer.proofs.SumTexts.{text_is, stands_bare}

-- ---- an expression opened once

pub first_is : (e : Expr) (x : Expr-F Expr) → e ≡ roll-Expr x → first_of e ≡ first_step x
first_is e x is = ap first_of is ∙ ap first_step (out-roll-Expr x)

pub last_is : (operand : ℕ → Text) (e : Expr) (x : Expr-F Expr) → e ≡ roll-Expr x → last_operator operand e ≡ last_step operand x
last_is operand e x is = ap (last_operator operand) is ∙ ap (last_step operand) (out-roll-Expr x)

rolled_nodes : (x : Expr-F Expr) → nodes (roll-Expr x) ≡ layer_nodes x
rolled_nodes (layer.Constant n) = ap (λ (s : Size). s.0) (fold-roll-Expr Size _ (layer.Constant n))
rolled_nodes (layer.Name text) = ap (λ (s : Size). s.0) (fold-roll-Expr Size _ (layer.Name text))
rolled_nodes (layer.Operand n) = ap (λ (s : Size). s.0) (fold-roll-Expr Size _ (layer.Operand n))
rolled_nodes (layer.Member text a) = ap (λ (s : Size). s.0) (fold-roll-Expr Size _ (layer.Member text a))
rolled_nodes (layer.Unary op a) = ap (λ (s : Size). s.0) (fold-roll-Expr Size _ (layer.Unary op a))
rolled_nodes (layer.Step op a) = ap (λ (s : Size). s.0) (fold-roll-Expr Size _ (layer.Step op a))
rolled_nodes (layer.Binary op a b) = ap (λ (s : Size). s.0) (fold-roll-Expr Size _ (layer.Binary op a b))
rolled_nodes (layer.And a b) = ap (λ (s : Size). s.0) (fold-roll-Expr Size _ (layer.And a b))
rolled_nodes (layer.Or a b) = ap (λ (s : Size). s.0) (fold-roll-Expr Size _ (layer.Or a b))
rolled_nodes (layer.Comma a b) = ap (λ (s : Size). s.0) (fold-roll-Expr Size _ (layer.Comma a b))
rolled_nodes (layer.Assign a op b) = ap (λ (s : Size). s.0) (fold-roll-Expr Size _ (layer.Assign a op b))
rolled_nodes (layer.Choose a b c) = ap (λ (s : Size). s.0) (fold-roll-Expr Size _ (layer.Choose a b c))

pub nodes_is : (e : Expr) (x : Expr-F Expr) → e ≡ roll-Expr x → nodes e ≡ layer_nodes x
nodes_is e x is = ap nodes is ∙ rolled_nodes x

layer_some : (x : Expr-F Expr) → 0 < layer_nodes x
layer_some (layer.Constant n) = omega arith
layer_some (layer.Name text) = omega arith
layer_some (layer.Operand n) = omega arith
layer_some (layer.Member text a) = omega arith
layer_some (layer.Unary op a) = omega arith
layer_some (layer.Step op a) = omega arith
layer_some (layer.Binary op a b) = omega arith
layer_some (layer.And a b) = omega arith
layer_some (layer.Or a b) = omega arith
layer_some (layer.Comma a b) = omega arith
layer_some (layer.Assign a op b) = omega arith
layer_some (layer.Choose a b c) = omega arith

pub some_nodes : (e : Expr) → 0 < nodes e
some_nodes e = omega (arith, nodes_is e (out-Expr e) (sym (roll-out-Expr e)), layer_some (out-Expr e))

-- ---- down a chain

pub down_next : (n : ℕ) (e : Expr) → down (suc n) e ≡ next_down (down n e)
unfolding down
down_next zero e = refl
down_next (suc n) e = down_next n (next_down e)

-- a loop that goes down a chain
pub further : (n : ℕ) (e d a : Expr) → d ≡ down n e → a ≡ next_down d → a ≡ down (n + 1) e
further n e d a is next = let more : n + 1 ≡ suc n = omega arith in rw more (next ∙ ap next_down is ∙ sym (down_next n e))

pub still_chained : (n : ℕ) (e d : Expr) → d ≡ down n e → has_first d ≡ true → Chained n e → Chained (n + 1) e
still_chained n e d is has chained = below_more (λ (k : ℕ). has_first (down k e) ≡ true) n chained (sym (ap has_first is) ∙ has)

-- what an expression is, where its first operand stands bare
pub record Leads (e a : Expr) : Type 0 where
  pub less : nodes a < nodes e
  pub whole : (operand : ℕ → Text) → levelled_text operand e 0 ≡ levelled_text operand a 0 ++ last_operator operand e

abbrev LeadsIf : Expr → Option Expr → Type 0
LeadsIf e None = Unit {0}
LeadsIf e (Some a) = Leads e a

bare_by : (wanted : ℕ) (a e : Expr) (bare : Bool) → nat_le wanted (own_level a) ≡ bare → nodes a < nodes e → ((operand : ℕ → Text) → levelled_text operand e 0 ≡ levelled_text operand a wanted ++ last_operator operand e) → LeadsIf e (if bare then Some a else None)
bare_by wanted a e false is less whole = tt
bare_by wanted a e true is less whole = record { less = less; whole = λ operand. whole operand ∙ ap (λ (t : Text). t ++ last_operator operand e) (sym (stands_bare operand a wanted is)) }

bare_leads : (wanted : ℕ) (a e : Expr) → nodes a < nodes e → ((operand : ℕ → Text) → levelled_text operand e 0 ≡ levelled_text operand a wanted ++ last_operator operand e) → LeadsIf e (if_bare wanted a)
bare_leads wanted a e less whole = bare_by wanted a e (nat_le wanted (own_level a)) refl less whole

joined : (a mark b : Text) → a ++ 32 ∷ mark ++ 32 ∷ b ≡ a ++ ((32 ∷ mark ++ 32 ∷ []) ++ b)
joined a mark b = simp append_assoc

-- an operator between operands, as its first operand and the operator
pub binary_opens : (operand : ℕ → Text) (op : BinOp) (a b e : Expr) → e ≡ roll-Expr (layer.Binary op a b) → levelled_text operand e 0 ≡ levelled_text operand a (left_level (sign.Plain op)) ++ last_operator operand e
binary_opens operand op a b e is = text_is operand e (layer.Binary op a b) 0 is ∙ rw (le-leb 0 (level (sign.Plain op)) (omega arith), last_is operand e (layer.Binary op a b) is) (joined (levelled_text operand a (left_level (sign.Plain op))) (binary_text op) (levelled_text operand b (level (sign.Plain op) + 1)))

pub and_opens : (operand : ℕ → Text) (a b e : Expr) → e ≡ roll-Expr (layer.And a b) → levelled_text operand e 0 ≡ levelled_text operand a 4 ++ last_operator operand e
and_opens operand a b e is = text_is operand e (layer.And a b) 0 is ∙ rw (last_is operand e (layer.And a b) is) (joined (levelled_text operand a 4) (codes "&&") (levelled_text operand b 5))

pub or_opens : (operand : ℕ → Text) (a b e : Expr) → e ≡ roll-Expr (layer.Or a b) → levelled_text operand e 0 ≡ levelled_text operand a 3 ++ last_operator operand e
or_opens operand a b e is = text_is operand e (layer.Or a b) 0 is ∙ rw (last_is operand e (layer.Or a b) is) (joined (levelled_text operand a 3) (codes "||") (levelled_text operand b 4))

pub comma_opens : (operand : ℕ → Text) (a b e : Expr) → e ≡ roll-Expr (layer.Comma a b) → levelled_text operand e 0 ≡ levelled_text operand a 0 ++ last_operator operand e
comma_opens operand a b e is = text_is operand e (layer.Comma a b) 0 is ∙ rw (last_is operand e (layer.Comma a b) is) (joined (levelled_text operand a 0) (codes ",") (levelled_text operand b 1))

layer_leads : (x : Expr-F Expr) (e : Expr) → e ≡ roll-Expr x → LeadsIf e (first_step x)
layer_leads (layer.Constant n) e is = tt
layer_leads (layer.Name text) e is = tt
layer_leads (layer.Operand n) e is = tt
layer_leads (layer.Member text a) e is = tt
layer_leads (layer.Unary op a) e is = tt
layer_leads (layer.Step op a) e is = tt
layer_leads (layer.Binary op a b) e is = bare_leads (left_level (sign.Plain op)) a e (omega (arith, nodes_is e (layer.Binary op a b) is)) (λ operand. binary_opens operand op a b e is)
layer_leads (layer.And a b) e is = bare_leads 4 a e (omega (arith, nodes_is e (layer.And a b) is)) (λ operand. and_opens operand a b e is)
layer_leads (layer.Or a b) e is = bare_leads 3 a e (omega (arith, nodes_is e (layer.Or a b) is)) (λ operand. or_opens operand a b e is)
layer_leads (layer.Comma a b) e is = bare_leads 0 a e (omega (arith, nodes_is e (layer.Comma a b) is)) (λ operand. comma_opens operand a b e is)
layer_leads (layer.Assign a op b) e is = tt
layer_leads (layer.Choose a b c) e is = tt

leads : (e : Expr) → LeadsIf e (first_of e)
leads e = layer_leads (out-Expr e) e (sym (roll-out-Expr e))

leads_by : (e : Expr) (first : Option Expr) → LeadsIf e first → has_first_by first ≡ true → Leads e (next_by e first)
leads_by e None l has = absurd (cc)
leads_by e (Some a) l has = l

leads_down : (e : Expr) → has_first e ≡ true → Leads e (next_down e)
leads_down e has = leads_by e (first_of e) (leads e) has

within_by : (e : Expr) (first : Option Expr) → LeadsIf e first → nodes (next_by e first) ≤ nodes e
within_by e None l = omega arith
within_by e (Some a) l = omega (arith, l.less)

-- what is down a chain weighs no more, and less where there is a first operand
pub down_within : (n : ℕ) (e : Expr) → nodes (down n e) ≤ nodes e
unfolding down
down_within zero e = omega arith
down_within (suc n) e = omega (arith, down_within n (next_down e), within_by e (first_of e) (leads e))

pub down_less : (n : ℕ) (e : Expr) → 0 < n → Chained n e → nodes (down n e) < nodes e
unfolding down
down_less zero e some chained = absurd (omega arith)
down_less (suc n) e some chained = omega (arith, down_within n (next_down e), (leads_down e (chained 0 (omega arith))).less)

-- ---- the text of a chain

behind_first : (n : ℕ) (e : Expr) → Chained (suc n) e → Chained n (next_down e)
unfolding down
behind_first n e chained = λ k lt. chained (suc k) (omega arith)

-- an expression is the one so many first operands down, and the operators behind it
pub chain_text : (operand : ℕ → Text) (n : ℕ) (e : Expr) → Chained n e → levelled_text operand e 0 ≡ levelled_text operand (down n e) 0 ++ operators_text operand e n
unfolding down operators_text
chain_text operand zero e chained = sym (append-nil (levelled_text operand e 0))
chain_text operand (suc n) e chained =
    (leads_down e (chained 0 (omega arith))).whole operand
    ∙ ap (λ (t : Text). t ++ last_operator operand e) (chain_text operand n (next_down e) (behind_first n e chained))
    ∙ append_assoc (levelled_text operand (down n (next_down e)) 0) (operators_text operand (next_down e) n) (last_operator operand e)

operators_split : (operand : ℕ → Text) (h k n : ℕ) (e : Expr) → h + k ≡ n → operators_text operand e n ≡ operators_text operand (down h e) k ++ operators_text operand e h
unfolding down operators_text
operators_split operand zero k n e is = let same : n ≡ k = omega arith in ap (operators_text operand e) same ∙ sym (append-nil (operators_text operand e k))
operators_split operand (suc h) k zero e is = absurd (omega arith)
operators_split operand (suc h) k (suc n) e is =
    ap (λ (t : Text). t ++ last_operator operand e) (operators_split operand h k n (next_down e) (omega arith))
    ∙ append_assoc (operators_text operand (down h (next_down e)) k) (operators_text operand (next_down e) h) (last_operator operand e)

few_is : (operand : ℕ → Text) (n : ℕ) (e : Expr) → n ≤ 1 → few_text operand e n ≡ operators_text operand e n
unfolding operators_text
few_is operand zero e le = refl
few_is operand (suc zero) e le = refl
few_is operand (suc (suc n)) e le = absurd (omega arith)

halves_by : (operand : ℕ → Text) (bits n : ℕ) (e : Expr) (few : Bool) → nat_le n 1 ≡ few → n ≤ 2 * 2 ^ bits → ((m : ℕ) (d : Expr) → m ≤ 2 ^ bits → halves_text operand bits d m ≡ operators_text operand d m) → (if few then few_text operand e n else halves_text operand bits (down (n / 2) e) (n - n / 2) ++ halves_text operand bits e (n / 2)) ≡ operators_text operand e n
halves_by operand bits n e true is le same = few_is operand n e (leb-true n 1 is)
halves_by operand bits n e false is le same =
    rw (same (n - n / 2) (down (n / 2) e) (omega arith), same (n / 2) e (omega arith)) (sym (operators_split operand (n / 2) (n - n / 2) n e (omega arith)))

-- put together by halves they are the same
pub halves_are : (operand : ℕ → Text) (bits n : ℕ) (e : Expr) → n ≤ 2 ^ bits → halves_text operand bits e n ≡ operators_text operand e n
unfolding halves_text
halves_are operand zero n e le = few_is operand n e le
halves_are operand (suc bits) n e le = halves_by operand bits n e (nat_le n 1) refl (omega (arith, pow-succ' 2 bits)) (λ m d le. halves_are operand bits m d le)

pub halves_one : (operand : ℕ → Text) (bits : ℕ) (e : Expr) → halves_text operand bits e 1 ≡ last_operator operand e
unfolding halves_text
halves_one operand zero e = refl
halves_one operand (suc bits) e = refl

pub halves_none : (operand : ℕ → Text) (bits : ℕ) (e : Expr) → halves_text operand bits e 0 ≡ []
unfolding halves_text
halves_none operand zero e = refl
halves_none operand (suc bits) e = refl

pub halves_last : (operand : ℕ → Text) (n : ℕ) (e : Expr) → 0 < n → halves_text operand 0 e n ≡ last_operator operand e
unfolding halves_text
halves_last operand zero e some = absurd (omega arith)
halves_last operand (suc n) e some = refl

pub halves_split : (operand : ℕ → Text) (bits n : ℕ) (e : Expr) → 0 < bits → 1 < n → halves_text operand bits e n ≡ halves_text operand (bits - 1) (down (n / 2) e) (n - n / 2) ++ halves_text operand (bits - 1) e (n / 2)
unfolding halves_text
halves_split operand zero n e some more = absurd (omega arith)
halves_split operand (suc bits) n e some more = let less : suc bits - 1 ≡ bits = omega arith in rw (less, lt-leb n 1 more) refl
