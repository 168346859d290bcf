-- What an expression gives, a form at a time.
use Rattle.std.proofs.Common.{◌≡◌, ℕ, ℤ, pos, List, Option, Some, None, refl, sym, ap, ◌∙◌}
use Rattle.std.specs.Prelude.{if◌then◌else◌}
use Rattle.span_text.specs.declared.expr.Expr.{Expr}
use Rattle.span_text.specs.declared.expr.Expr.TheVariants.{Constant, Name, Member, Operand, Unary, Binary, And, Or, Choose, Assign, Step, Comma, rolls-Constant, rolls-Name, rolls-Member, rolls-Operand, rolls-Unary, rolls-Binary, rolls-And, rolls-Or, rolls-Choose, rolls-Assign, rolls-Step, rolls-Comma}
use Rattle.span_text.specs.declared.expr.Expr.TheOpen.{Expr-F}
use Rattle.span_text.specs.declared.expr.Expr.TheOpen as layer
use Rattle.span_text.specs.declared.expr.Expr.TheViews.{roll-Expr}
use Rattle.span_text.specs.declared.expr.Expr.TheFolds.{fold-Expr, fold-roll-Expr, ind-Expr, map-Expr}
use Rattle.span_text.specs.declared.expr.BinOp.{BinOp}
use Rattle.span_text.specs.declared.expr.UnOp.{UnOp}
use Rattle.span_text.specs.declared.expr.StepOp.{StepOp}
use Rattle.arith64.specs.Values.{value_of}
use Rattle.shell_world.specs.Texts.{Text, nth}
use Rattle.sh_meaning.specs.Variables.{Variables}
use Rattle.sh_meaning.specs.Arithmetic.{◌>>=◌, Known, gives, ok, is_true, unary_value, number_in, assigns, step, evaluated}
use Rattle.sh_sums.specs.Frames.{as_truth, target_name, target_step}

abbrev known : Expr → Known
known e = fold-Expr Known step e

pub constant_gives : (n : ℤ) (ns : List ℤ) (vs : Variables) → evaluated (Constant n) ns vs ≡ Some (n, vs)
unfolding evaluated
constant_gives n ns vs = ap (λ e. (fold-Expr Known step e).1 ns vs) (sym (rolls-Constant n)) ∙ ap (λ (k : Known). k.1 ns vs) (fold-roll-Expr Known step (layer.Constant n))

pub name_gives : (t : Text) (ns : List ℤ) (vs : Variables) → evaluated (Name t) ns vs ≡ gives (number_in t vs) vs
unfolding evaluated
name_gives t ns vs = ap (λ e. (fold-Expr Known step e).1 ns vs) (sym (rolls-Name t)) ∙ ap (λ (k : Known). k.1 ns vs) (fold-roll-Expr Known step (layer.Name t))

pub operand_gives : (k : ℕ) (ns : List ℤ) (vs : Variables) → evaluated (Operand k) ns vs ≡ gives (nth k ns) vs
unfolding evaluated
operand_gives k ns vs = ap (λ e. (fold-Expr Known step e).1 ns vs) (sym (rolls-Operand k)) ∙ ap (λ (z : Known). z.1 ns vs) (fold-roll-Expr Known step (layer.Operand k))

pub member_gives : (t : Text) (a : Expr) (ns : List ℤ) (vs : Variables) → evaluated (Member t a) ns vs ≡ None
unfolding evaluated
member_gives t a ns vs = ap (λ e. (fold-Expr Known step e).1 ns vs) (sym (rolls-Member t a)) ∙ ap (λ (k : Known). k.1 ns vs) (fold-roll-Expr Known step (layer.Member t a))

pub step_gives : (o : StepOp) (a : Expr) (ns : List ℤ) (vs : Variables) → evaluated (Step o a) ns vs ≡ None
unfolding evaluated
step_gives o a ns vs = ap (λ e. (fold-Expr Known step e).1 ns vs) (sym (rolls-Step o a)) ∙ ap (λ (k : Known). k.1 ns vs) (fold-roll-Expr Known step (layer.Step o a))

pub comma_gives : (a b : Expr) (ns : List ℤ) (vs : Variables) → evaluated (Comma a b) ns vs ≡ None
unfolding evaluated
comma_gives a b ns vs = ap (λ e. (fold-Expr Known step e).1 ns vs) (sym (rolls-Comma a b)) ∙ ap (λ (k : Known). k.1 ns vs) (fold-roll-Expr Known step (layer.Comma a b))

pub unary_gives : (op : UnOp) (a : Expr) (ns : List ℤ) (vs : Variables) → evaluated (Unary op a) ns vs ≡ (evaluated a ns vs >>= λ x. Some (unary_value op x.0, x.1))
unfolding evaluated
unary_gives op a ns vs = ap (λ e. (fold-Expr Known step e).1 ns vs) (sym (rolls-Unary op a)) ∙ ap (λ (k : Known). k.1 ns vs) (fold-roll-Expr Known step (layer.Unary op a))

pub binary_gives : (op : BinOp) (a b : Expr) (ns : List ℤ) (vs : Variables) → evaluated (Binary op a b) ns vs ≡ (evaluated a ns vs >>= λ x. evaluated b ns x.1 >>= λ y. gives (ok (value_of op x.0 y.0)) y.1)
unfolding evaluated
binary_gives op a b ns vs = ap (λ e. (fold-Expr Known step e).1 ns vs) (sym (rolls-Binary op a b)) ∙ ap (λ (k : Known). k.1 ns vs) (fold-roll-Expr Known step (layer.Binary op a b))

pub and_gives : (a b : Expr) (ns : List ℤ) (vs : Variables) → evaluated (And a b) ns vs ≡ (evaluated a ns vs >>= λ x. if is_true x.0 then (evaluated b ns x.1 >>= as_truth) else Some (pos 0, x.1))
unfolding evaluated
and_gives a b ns vs = ap (λ e. (fold-Expr Known step e).1 ns vs) (sym (rolls-And a b)) ∙ ap (λ (k : Known). k.1 ns vs) (fold-roll-Expr Known step (layer.And a b))

pub or_gives : (a b : Expr) (ns : List ℤ) (vs : Variables) → evaluated (Or a b) ns vs ≡ (evaluated a ns vs >>= λ x. if is_true x.0 then Some (pos 1, x.1) else (evaluated b ns x.1 >>= as_truth))
unfolding evaluated
or_gives a b ns vs = ap (λ e. (fold-Expr Known step e).1 ns vs) (sym (rolls-Or a b)) ∙ ap (λ (k : Known). k.1 ns vs) (fold-roll-Expr Known step (layer.Or a b))

pub choose_gives : (a b c : Expr) (ns : List ℤ) (vs : Variables) → evaluated (Choose a b c) ns vs ≡ (evaluated a ns vs >>= λ x. if is_true x.0 then evaluated b ns x.1 else evaluated c ns x.1)
unfolding evaluated
choose_gives a b c ns vs = ap (λ e. (fold-Expr Known step e).1 ns vs) (sym (rolls-Choose a b c)) ∙ ap (λ (k : Known). k.1 ns vs) (fold-roll-Expr Known step (layer.Choose a b c))

layer_named : (x : Expr-F Expr) → (step (map-Expr Expr Known known x)).0 ≡ target_step (map-Expr Expr (Option Text) target_name x)
layer_named (layer.Constant n) = refl
layer_named (layer.Name t) = refl
layer_named (layer.Operand j) = refl
layer_named (layer.Member t a) = refl
layer_named (layer.Step o a) = refl
layer_named (layer.Unary o a) = refl
layer_named (layer.Binary o a b) = refl
layer_named (layer.And a b) = refl
layer_named (layer.Or a b) = refl
layer_named (layer.Comma a b) = refl
layer_named (layer.Choose a b c) = refl
layer_named (layer.Assign a o b) = refl

named : (a : Expr) → (known a).0 ≡ target_name a
unfolding target_name
named = ind-Expr (λ a. (known a).0 ≡ target_name a) (λ x y is. ap (λ (k : Known). k.0) (fold-roll-Expr Known step x) ∙ layer_named x ∙ sym (fold-roll-Expr (Option Text) target_step x))

pub name_target : (t : Text) → target_name (Name t) ≡ Some t
unfolding target_name
name_target t = ap (λ e. fold-Expr (Option Text) target_step e) (sym (rolls-Name t)) ∙ fold-roll-Expr (Option Text) target_step (layer.Name t)

layer_target : (x : Expr-F Expr) → ((t : Text) → roll-Expr x ≡ Name t → ⊥) → target_name (roll-Expr x) ≡ None
unfolding target_name
layer_target (layer.Name t) never = absurd (never t (rolls-Name t))
layer_target (layer.Constant n) never = fold-roll-Expr (Option Text) target_step (layer.Constant n)
layer_target (layer.Operand j) never = fold-roll-Expr (Option Text) target_step (layer.Operand j)
layer_target (layer.Member t a) never = fold-roll-Expr (Option Text) target_step (layer.Member t a)
layer_target (layer.Step o a) never = fold-roll-Expr (Option Text) target_step (layer.Step o a)
layer_target (layer.Unary o a) never = fold-roll-Expr (Option Text) target_step (layer.Unary o a)
layer_target (layer.Binary o a b) never = fold-roll-Expr (Option Text) target_step (layer.Binary o a b)
layer_target (layer.And a b) never = fold-roll-Expr (Option Text) target_step (layer.And a b)
layer_target (layer.Or a b) never = fold-roll-Expr (Option Text) target_step (layer.Or a b)
layer_target (layer.Comma a b) never = fold-roll-Expr (Option Text) target_step (layer.Comma a b)
layer_target (layer.Choose a b c) never = fold-roll-Expr (Option Text) target_step (layer.Choose a b c)
layer_target (layer.Assign a o b) never = fold-roll-Expr (Option Text) target_step (layer.Assign a o b)

pub not_name : (a : Expr) → ((t : Text) → a ≡ Name t → ⊥) → target_name a ≡ None
not_name = ind-Expr (λ a. ((t : Text) → a ≡ Name t → ⊥) → target_name a ≡ None) (λ x y is. layer_target x)

pub assign_gives : (a : Expr) (op : Option BinOp) (b : Expr) (ns : List ℤ) (vs : Variables) → evaluated (Assign a op b) ns vs ≡ assigns (target_name a) op (evaluated b ns) vs
unfolding evaluated
assign_gives a op b ns vs = ap (λ e. (fold-Expr Known step e).1 ns vs) (sym (rolls-Assign a op b)) ∙ ap (λ (k : Known). k.1 ns vs) (fold-roll-Expr Known step (layer.Assign a op b)) ∙ ap (λ t. assigns t op ((fold-Expr Known step b).1 ns) vs) (named a)
