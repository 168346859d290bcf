-- That each turn leaves what comes of all, and that what there is to do falls.
use Rattle.std.proofs.Common.{◌≡◌, ℕ, ◌+◌, ◌*◌, ◌<◌, ℤ, List, [], ◌∷◌, Option, Some, None, Result, Ok, Err, IfOk, OnOk, Bor, refl, sym, ap, ◌∙◌, arith}
use Rattle.span_text.specs.declared.expr.Expr.{Expr}
use Rattle.span_text.specs.declared.expr.BinOp.{BinOp}
use Rattle.span_text.specs.Expression.{nodes}
use Rattle.shell_world.specs.Texts.{Text}
use Rattle.sh_meaning.specs.Variables.{Variables}
use Rattle.sh_meaning.specs.Arithmetic.{Sum, Eval, ◌>>=◌, gives, applied, stored, old_value, assigns, evaluated}
use Rattle.sh_sums.specs.declared.frames.Frame.{Frame}
use Rattle.sh_sums.specs.declared.frames.Turn.{Turn}
use Rattle.sh_sums.specs.declared.frames.Turn.TheVariants.{Down}
use Rattle.sh_sums.specs.Frames.{frame_weight, frames_weight, meant, resumed, sum_of, turn_weight, unwound}

-- frames make nothing of nothing
pub unwound_none : (fs : List Frame) (ns : List ℤ) → unwound fs ns None ≡ None
unwound_none [] ns = refl
unwound_none (f ∷ fs) ns = unwound_none fs ns

pub gives_is : (n : Option ℤ) (vs : Variables) → gives n vs ≡ sum_of n vs
gives_is None vs = refl
gives_is (Some n) vs = refl

-- an expression is evaluated before a new frame
pub entered : {E : Type 0} (result : Result Turn E) (fs gs : List Frame) (f : Frame) (r : Bor Expr) (ns : List ℤ) (vs : Variables) (whole : Sum) → IfOk result (λ t. t ≡ Down r) → OnOk result (gs ≡ f ∷ fs) → whole ≡ (evaluated r.now ns vs >>= resumed f ns) → IfOk result (λ t. meant t gs ns vs ≡ unwound fs ns whole)
entered (Err e) fs gs f r ns vs whole is pushed all = tt
entered (Ok t) fs gs f r ns vs whole is pushed all = rw (is, pushed, all) refl

pub enters_less : {E : Type 0} (result : Result Turn E) (fs gs : List Frame) (f : Frame) (r : Bor Expr) (most : ℕ) → IfOk result (λ t. t ≡ Down r) → OnOk result (gs ≡ f ∷ fs) → frame_weight f + 3 * nodes r.now < most → IfOk result (λ t. frames_weight gs + turn_weight t < frames_weight fs + most)
enters_less (Err e) fs gs f r most is pushed less = tt
enters_less (Ok t) fs gs f r most is pushed less = rw (is, pushed) (omega (arith, less))

-- what is so at all numbers is so at these
pub at_numbers : {E : Type 0} (result : Result Turn E) (P : Turn → List ℤ → Type 0) (ns : List ℤ) → IfOk result (λ t. (ms : List ℤ) → P t ms) → IfOk result (λ t. P t ns)
at_numbers (Err e) P ns all = tt
at_numbers (Ok t) P ns all = all ns

pub entered_all : {E : Type 0} (result : Result Turn E) (fs gs : List Frame) (f : Frame) (r : Bor Expr) (vs : Variables) (whole : List ℤ → Sum) → IfOk result (λ t. t ≡ Down r) → OnOk result (gs ≡ f ∷ fs) → ((ns : List ℤ) → whole ns ≡ (evaluated r.now ns vs >>= resumed f ns)) → IfOk result (λ t. (ns : List ℤ) → meant t gs ns vs ≡ unwound fs ns (whole ns))
entered_all (Err e) fs gs f r vs whole is pushed all = tt
entered_all (Ok t) fs gs f r vs whole is pushed all = λ ns. rw (is, pushed, all ns) refl

-- ---- assignments; b is the name as the code has it

pub assigns_none : (t b : Text) (op : Option BinOp) (e : Eval) (vs : Variables) → b ≡ t → None ≡ old_value op b vs → assigns (Some t) op e vs ≡ None
assigns_none t b op e vs is none = ap (λ (r : Sum). r >>= λ x. e x.1 >>= λ y. applied op x.0 y >>= λ z. stored t z) (sym (none ∙ ap (λ k. old_value op k vs) is))

pub assigns_some : (t b : Text) (op : Option BinOp) (e : Eval) (vs : Variables) (old : ℤ) → b ≡ t → Some (old, vs) ≡ old_value op b vs → assigns (Some t) op e vs ≡ (e vs >>= λ y. applied op old y >>= stored t)
assigns_some t b op e vs old is some = ap (λ (r : Sum). r >>= λ x. e x.1 >>= λ y. applied op x.0 y >>= λ z. stored t z) (sym (some ∙ ap (λ k. old_value op k vs) is))
