-- What is written is read.
use Rattle.std.proofs.Common.{◌≡◌, ℕ, ◌+◌, ◌≤◌, Bool, true, false, List, [], ◌∷◌, Option, Some, None, refl, sym, ap, ◌∙◌, arith}
use Rattle.std.specs.Prelude.{if◌then◌else◌}
use Rattle.span_text.specs.declared.expr.UnOp.{UnOp}
use Rattle.span_text.specs.declared.expr.UnOp.TheVariants as unary
use Rattle.span_text.specs.declared.expr.BinOp.{BinOp}
use Rattle.span_text.specs.declared.expr.StepOp.{StepOp}
use Rattle.span_text.specs.declared.expr.StepOp.TheVariants.{PreAdd, PreSub, PostAdd, PostSub}
use Rattle.span_text.specs.declared.expr.Expr.{Expr}
use Rattle.span_text.specs.declared.expr.Expr.TheVariants as expr
use Rattle.span_text.specs.declared.sign.Infix.{Infix}
use Rattle.span_text.specs.declared.sign.Sign.TheVariants.{Between, Assign, Increment, Decrement, Question, Colon, Close, EndIndex}
use Rattle.span_text.specs.ExprTokens.{Cell, Token, sign}
use Rattle.span_text.specs.Expressions.{Form, literal, expanded, variable, member, group, prefixed, stepped, between, chosen, assigned, tree, prefix, written, before_target, behind_target, level, left_level, is_bare, Fits, Spells}
use Rattle.arith64.specs.declared.frames.Frame.{Frame}
use Rattle.arith64.specs.declared.frames.Frame.TheVariants.{Group, Index, Prefix, Left, Test, Otherwise, Target}
use Rattle.arith64.specs.declared.frames.Slot.{Slot}
use Rattle.arith64.specs.declared.frames.Slot.TheVariants.{Wanted, Stepping, Held}
use Rattle.arith64.specs.declared.frames.Parser.{Parser}
use Rattle.arith64.specs.Parsing.{◌>>=◌, reduce, room, wanted, prefix_at, left_at, test_at, end_at, run, only, accept, nothing_read}
use Rattle.arith64.proofs.Binding.{one_more, no_more, is_level, stays, stays_three, at_most}

abbrev pub «at» : List Frame → Slot → Parser
«at» fs slot = record { frames = fs; slot = slot }

-- what reading a form comes to, behind these frames: what is left open binds before each operator that may follow
pub record Read (l : ℕ) (fs : List Frame) (f : Form) : Type 0 where
  pub stack : List Frame
  pub last : Expr
  pub bare : Bool
  pub goes : (ts : List Token) → run («at» fs Wanted) (written f ts) ≡ run («at» stack (Held last bare)) ts
  pub same : (m : ℕ) → m ≤ l → reduce m stack last ≡ reduce m fs (tree f)

-- the same of what may be assigned to
pub record Bare (fs : List Frame) (f : Form) : Type 0 where
  pub plain : (ts : List Token) → run («at» fs Wanted) (written f ts) ≡ run («at» fs (Held (tree f) true)) ts
  pub steps : (op : StepOp) (ts : List Token) → run («at» fs (Stepping op)) (written f ts) ≡ run («at» fs (Held (expr.Step op (tree f)) false)) ts

prefix_is : (fs : List Frame) (op : UnOp) → prefix_at fs (prefix op) ≡ wanted (Prefix op ∷ fs)
prefix_is fs unary.Plus = refl
prefix_is fs unary.Minus = refl
prefix_is fs unary.Not = refl
prefix_is fs unary.Complement = refl

left_is : (i : Infix) (fs : List Frame) (a : Expr) → room fs ≤ level i → left_at i (fs, a) ≡ wanted (Left i a ∷ fs)
left_is i fs a le = ap (λ (b : Bool). if b then wanted (Left i a ∷ fs) else None) (at_most (room fs) (level i) le)

steps_are : (fs : List Frame) (f : Form) → Bare fs f → (op : StepOp) (ts : List Token) → run («at» fs Wanted) (before_target op (written f (behind_target op ts))) ≡ run («at» fs (Held (expr.Step op (tree f)) false)) ts
steps_are fs f b PreAdd ts = b.steps PreAdd ts
steps_are fs f b PreSub ts = b.steps PreSub ts
steps_are fs f b PostAdd ts = b.plain (sign Increment ∷ ts)
steps_are fs f b PostSub ts = b.plain (sign Decrement ∷ ts)

one : (l : ℕ) (fs : List Frame) (f : Form) (b : Bool) → ((ts : List Token) → run («at» fs Wanted) (written f ts) ≡ run («at» fs (Held (tree f) b)) ts) → Read l fs f
one l fs f b goes = record { stack = fs; last = tree f; bare = b; goes = goes; same = λ m le. refl }

-- an index, behind its name
indexes : (fs : List Frame) (text : List ℕ) (step : Option StepOp) (f : Form) → Read 0 (Index text step ∷ fs) f → (ts : List Token) →
    run («at» (Index text step ∷ fs) Wanted) (written f (sign EndIndex ∷ ts)) ≡ (end_at (Index text step ∷ fs, tree f) EndIndex >>= λ q. run q ts)
indexes fs text step f x ts = x.goes (sign EndIndex ∷ ts) ∙ ap (λ (y : List Frame × Expr). end_at y EndIndex >>= λ q. run q ts) (x.same 0 (omega arith) ∙ no_more 0 (Index text step) fs (tree f) refl)

grouped : (fs : List Frame) (f : Form) → Read 0 (Group ∷ fs) f → (ts : List Token) → run («at» (Group ∷ fs) Wanted) (written f (sign Close ∷ ts)) ≡ run («at» fs (Held (tree f) false)) ts
grouped fs f x ts = x.goes (sign Close ∷ ts) ∙ ap (λ (y : List Frame × Expr). end_at y Close >>= λ q. run q ts) (x.same 0 (omega arith) ∙ no_more 0 Group fs (tree f) refl)

prefixes : (l : ℕ) (fs : List Frame) (op : UnOp) (f : Form) → l ≤ 14 → Read 14 (Prefix op ∷ fs) f → Read l fs (prefixed op f)
prefixes l fs op f le x = record {
  stack = x.stack;
  last = x.last;
  bare = x.bare;
  goes = λ ts. ap (λ (o : Option Parser). o >>= λ q. run q (written f ts)) (prefix_is fs op) ∙ x.goes ts;
  same = λ m lt. x.same m (omega arith) ∙ one_more m (Prefix op) fs (tree f) refl;
}

sided : (l : ℕ) (fs : List Frame) (i : Infix) (f g : Form) → l ≤ level i → room fs ≤ level i → Read (left_level i) fs f → Read (level i + 1) (Left i (tree f) ∷ fs) g → Read l fs (between i f g)
sided l fs i f g le r x y = record {
  stack = y.stack;
  last = y.last;
  bare = y.bare;
  goes = λ ts. x.goes (sign (Between i) ∷ written g ts)
      ∙ ap (λ (z : List Frame × Expr). left_at i z >>= λ q. run q (written g ts)) (x.same (left_level i) (omega arith) ∙ stays (level i) (left_level i) fs (tree f) (is_level i) r)
      ∙ ap (λ (o : Option Parser). o >>= λ q. run q (written g ts)) (left_is i fs (tree f) r)
      ∙ y.goes ts;
  same = λ m lt. y.same m (omega arith) ∙ one_more m (Left i (tree f)) fs (tree g) (at_most m (level i) (omega arith));
}

choices : (l : ℕ) (fs : List Frame) (f g h : Form) → l ≤ 2 → room fs ≤ 2 → Read 3 fs f → Read 0 (Test (tree f) ∷ fs) g → Read 2 (Otherwise (tree f) (tree g) ∷ fs) h → Read l fs (chosen f g h)
choices l fs f g h le r x y z = record {
  stack = z.stack;
  last = z.last;
  bare = z.bare;
  goes = λ ts. x.goes (sign Question ∷ written g (sign Colon ∷ written h ts))
      ∙ ap (λ (p : List Frame × Expr). test_at p >>= λ q. run q (written g (sign Colon ∷ written h ts))) (x.same 3 (omega arith) ∙ stays_three fs (tree f) r)
      ∙ y.goes (sign Colon ∷ written h ts)
      ∙ ap (λ (p : List Frame × Expr). end_at p Colon >>= λ q. run q (written h ts)) (y.same 0 (omega arith) ∙ no_more 0 (Test (tree f)) fs (tree g) refl)
      ∙ z.goes ts;
  same = λ m lt. z.same m (omega arith) ∙ one_more m (Otherwise (tree f) (tree g)) fs (tree h) (at_most m 2 (omega arith));
}

assigns : (l : ℕ) (fs : List Frame) (f : Form) (op : Option BinOp) (g : Form) → l ≤ 1 → room fs ≤ 1 → Bare fs f → Read 1 (Target (tree f) op ∷ fs) g → Read l fs (assigned f op g)
assigns l fs f op g le r x y = record {
  stack = y.stack;
  last = y.last;
  bare = y.bare;
  goes = λ ts. x.plain (sign (Assign op) ∷ written g ts)
      ∙ ap (λ (b : Bool). (if b then wanted (Target (tree f) op ∷ fs) else None) >>= λ q. run q (written g ts)) (at_most (room fs) 1 r)
      ∙ y.goes ts;
  same = λ m lt. y.same m (omega arith) ∙ one_more m (Target (tree f) op) fs (tree g) (at_most m 1 (omega arith));
}

mutual
  pub complete : (f : Form) (l : ℕ) (fs : List Frame) → Fits l f → room fs ≤ l → Read l fs f
  complete (literal n) l fs h r = one l fs (literal n) false (λ ts. refl)
  complete (expanded n) l fs h r = one l fs (expanded n) false (λ ts. refl)
  complete (variable text) l fs h r = one l fs (variable text) true (λ ts. refl)
  complete (member text f) l fs h r = one l fs (member text f) true (indexes fs text None f (complete f 0 (Index text None ∷ fs) h (omega arith)))
  complete (group f) l fs h r = one l fs (group f) false (grouped fs f (complete f 0 (Group ∷ fs) h (omega arith)))
  complete (prefixed op f) l fs h r = prefixes l fs op f h.0 (complete f 14 (Prefix op ∷ fs) h.1 (omega arith))
  complete (stepped op f) l fs h r = one l fs (stepped op f) false (steps_are fs f (bares f fs h.0 h.1) op)
  complete (between i f g) l fs h r =
      let le = h.0 in let left = (is_level i).left in
      sided l fs i f g le (omega arith) (complete f (left_level i) fs h.1 (omega arith)) (complete g (level i + 1) (Left i (tree f) ∷ fs) h.2 (omega arith))
  complete (chosen f g k) l fs h r =
      let le = h.0 in
      choices l fs f g k le (omega arith) (complete f 3 fs h.1 (omega arith)) (complete g 0 (Test (tree f) ∷ fs) h.2 (omega arith)) (complete k 2 (Otherwise (tree f) (tree g) ∷ fs) h.3 (omega arith))
  complete (assigned f op g) l fs h r =
      let le = h.0 in
      assigns l fs f op g le (omega arith) (bares f fs h.1 h.2) (complete g 1 (Target (tree f) op ∷ fs) h.3 (omega arith))

  bares : (f : Form) (fs : List Frame) → is_bare f ≡ true → Fits 0 f → Bare fs f
  bares (variable text) fs b h = record { plain = λ ts. refl; steps = λ op ts. refl }
  bares (member text f) fs b h = record {
    plain = indexes fs text None f (complete f 0 (Index text None ∷ fs) h (omega arith));
    steps = λ op. indexes fs text (Some op) f (complete f 0 (Index text (Some op) ∷ fs) h (omega arith));
  }
  bares (literal n) fs b h = absurd cc
  bares (expanded n) fs b h = absurd cc
  bares (group f) fs b h = absurd cc
  bares (prefixed op f) fs b h = absurd cc
  bares (stepped op f) fs b h = absurd cc
  bares (between i f g) fs b h = absurd cc
  bares (chosen f g k) fs b h = absurd cc
  bares (assigned f op g) fs b h = absurd cc

-- THE TOKENS OF A FORM ARE READ AS IT
pub reads : (f : Form) → Fits 0 f → (run nothing_read (written f []) >>= accept) ≡ Some (tree f)
unfolding reduce
reads f h =
    let x = complete f 0 [] h (omega arith) in
    ap (λ (o : Option Parser). o >>= accept) (x.goes []) ∙ ap only (x.same 0 (omega arith))

some_is : {A : Type 0} (x y : A) → Some x ≡ Some y → x ≡ y
some_is x y e = cc

pub unique : (cells : List Cell) (a b : Expr) → Spells cells a → Spells cells b → a ≡ b
unique cells a b x y =
    let e = some_is (written x.form []) (written y.form []) (sym x.is_written ∙ y.is_written) in
    let trees : Some (tree x.form) ≡ Some (tree y.form) = sym (reads x.form x.fits) ∙ ap (λ (ts : List Token). run nothing_read ts >>= accept) e ∙ reads y.form y.fits in
    sym x.is ∙ some_is (tree x.form) (tree y.form) trees ∙ y.is
