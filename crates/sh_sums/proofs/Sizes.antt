-- How many nodes an expression has, a form at a time.
use Rattle.std.proofs.Common.{◌≡◌, ℕ, suc, ◌+◌, ℤ, List, Option, sym, ap, ◌∙◌}
use Rattle.span_text.specs.declared.expr.Expr.{Expr}
use Rattle.span_text.specs.declared.expr.Expr.TheVariants.{Constant, Name, Member, Operand, Unary, Binary, And, Or, Choose, Assign, Step, Comma, rolls-Constant, rolls-Name, rolls-Member, rolls-Operand, rolls-Unary, rolls-Binary, rolls-And, rolls-Or, rolls-Choose, rolls-Assign, rolls-Step, rolls-Comma}
use Rattle.span_text.specs.declared.expr.Expr.TheOpen as layer
use Rattle.span_text.specs.declared.expr.Expr.TheFolds.{fold-roll-Expr}
use Rattle.span_text.specs.declared.expr.BinOp.{BinOp}
use Rattle.span_text.specs.declared.expr.UnOp.{UnOp}
use Rattle.span_text.specs.declared.expr.StepOp.{StepOp}
use Rattle.span_text.specs.Expression.{Size, nodes}

pub constant_nodes : (n : ℤ) → nodes (Constant n) ≡ 1
constant_nodes n = ap nodes (sym (rolls-Constant n)) ∙ ap (λ (s : Size). s.0) (fold-roll-Expr Size _ (layer.Constant n))

pub name_nodes : (t : List ℕ) → nodes (Name t) ≡ 1
name_nodes t = ap nodes (sym (rolls-Name t)) ∙ ap (λ (s : Size). s.0) (fold-roll-Expr Size _ (layer.Name t))

pub operand_nodes : (k : ℕ) → nodes (Operand k) ≡ 1
operand_nodes k = ap nodes (sym (rolls-Operand k)) ∙ ap (λ (s : Size). s.0) (fold-roll-Expr Size _ (layer.Operand k))

pub member_nodes : (t : List ℕ) (a : Expr) → nodes (Member t a) ≡ suc (nodes a)
member_nodes t a = ap nodes (sym (rolls-Member t a)) ∙ ap (λ (s : Size). s.0) (fold-roll-Expr Size _ (layer.Member t a))

pub step_nodes : (o : StepOp) (a : Expr) → nodes (Step o a) ≡ suc (nodes a)
step_nodes o a = ap nodes (sym (rolls-Step o a)) ∙ ap (λ (s : Size). s.0) (fold-roll-Expr Size _ (layer.Step o a))

pub unary_nodes : (o : UnOp) (a : Expr) → nodes (Unary o a) ≡ suc (nodes a)
unary_nodes o a = ap nodes (sym (rolls-Unary o a)) ∙ ap (λ (s : Size). s.0) (fold-roll-Expr Size _ (layer.Unary o a))

pub binary_nodes : (o : BinOp) (a b : Expr) → nodes (Binary o a b) ≡ suc (nodes a + nodes b)
binary_nodes o a b = ap nodes (sym (rolls-Binary o a b)) ∙ ap (λ (s : Size). s.0) (fold-roll-Expr Size _ (layer.Binary o a b))

pub and_nodes : (a b : Expr) → nodes (And a b) ≡ suc (nodes a + nodes b)
and_nodes a b = ap nodes (sym (rolls-And a b)) ∙ ap (λ (s : Size). s.0) (fold-roll-Expr Size _ (layer.And a b))

pub or_nodes : (a b : Expr) → nodes (Or a b) ≡ suc (nodes a + nodes b)
or_nodes a b = ap nodes (sym (rolls-Or a b)) ∙ ap (λ (s : Size). s.0) (fold-roll-Expr Size _ (layer.Or a b))

pub assign_nodes : (a : Expr) (op : Option BinOp) (b : Expr) → nodes (Assign a op b) ≡ suc (nodes a + nodes b)
assign_nodes a op b = ap nodes (sym (rolls-Assign a op b)) ∙ ap (λ (s : Size). s.0) (fold-roll-Expr Size _ (layer.Assign a op b))

pub comma_nodes : (a b : Expr) → nodes (Comma a b) ≡ suc (nodes a + nodes b)
comma_nodes a b = ap nodes (sym (rolls-Comma a b)) ∙ ap (λ (s : Size). s.0) (fold-roll-Expr Size _ (layer.Comma a b))

pub choose_nodes : (a b c : Expr) → nodes (Choose a b c) ≡ suc (nodes a + (nodes b + nodes c))
choose_nodes a b c = ap nodes (sym (rolls-Choose a b c)) ∙ ap (λ (s : Size). s.0) (fold-roll-Expr Size _ (layer.Choose a b c))
