-- What is read is written so.
use Rattle.std.proofs.Common.{◌≡◌, ℕ, ◌+◌, ◌<◌, ◌≤◌, Bool, true, false, List, [], ◌∷◌, Option, Some, None, refl, sym, ap, subst, ◌∙◌, nat_le, arith}
use Rattle.std.specs.Prelude.{if◌then◌else◌}
use Rattle.std.proofs.lemmas.Bool.Decides.{nat_tests}
use Rattle.span_text.specs.declared.expr.BinOp.{BinOp}
use Rattle.span_text.specs.declared.expr.BinOp.TheVariants as op
use Rattle.span_text.specs.declared.expr.StepOp.{StepOp}
use Rattle.span_text.specs.declared.expr.StepOp.TheVariants.{PreAdd, PreSub, PostAdd, PostSub}
use Rattle.span_text.specs.declared.expr.Expr.{Expr}
use Rattle.span_text.specs.declared.expr.Expr.TheVariants as expr
use Rattle.span_text.specs.declared.sign.Infix.{Infix}
use Rattle.span_text.specs.declared.sign.Infix.TheVariants.{Plain, And, Or, Comma}
use Rattle.span_text.specs.declared.sign.Sign.{Sign}
use Rattle.span_text.specs.declared.sign.Sign.TheVariants.{Between, Assign, Not, Complement, Increment, Decrement, Question, Colon, Open, Close, EndIndex}
use Rattle.span_text.specs.ExprTokens.{Token, number, name, indexed, operand, sign}
use Rattle.span_text.specs.Expressions.{Form, literal, expanded, variable, member, group, prefixed, stepped, between, chosen, assigned, joined, tree, prefix, written, before_target, behind_target, level, left_level, is_bare, Fits}
use Rattle.arith64.specs.declared.frames.Frame.{Frame}
use Rattle.arith64.specs.declared.frames.Frame.TheVariants.{Group, Index, Prefix, Left, Test, Otherwise, Target}
use Rattle.arith64.specs.declared.frames.Slot.{Slot}
use Rattle.arith64.specs.declared.frames.Slot.TheVariants.{Wanted, Stepping, Held}
use Rattle.arith64.specs.declared.frames.Parser.{Parser}
use Rattle.arith64.specs.Parsing.{◌>>=◌, reduce, binds, room, asked, prefix_at, operand_at, variable_at, left_at, test_at, otherwise_at, close_at, member_at, end_index_at, sign_at, behind_at, shift_at, shift, run, only, accept_at, accept, nothing_read}
use Rattle.arith64.proofs.Binding.{one_more, no_more, Level, is_level}

-- ---- tokens that were read, the last first

abbrev pub onto : Form → List Token → List Token
onto (literal n) r = number n ∷ r
onto (expanded n) r = operand n ∷ r
onto (variable text) r = name text ∷ r
onto (member text f) r = sign EndIndex ∷ onto f (indexed text ∷ r)
onto (group f) r = sign Close ∷ onto f (sign Open ∷ r)
onto (prefixed op f) r = onto f (sign (prefix op) ∷ r)
onto (stepped op f) r = behind_target op (onto f (before_target op r))
onto (between i f g) r = onto g (sign (Between i) ∷ onto f r)
onto (chosen f g h) r = onto h (sign Colon ∷ onto g (sign Question ∷ onto f r))
onto (assigned f op g) r = onto g (sign (Assign op) ∷ onto f r)

abbrev back : List Token → List Token → List Token
back [] ts = ts
back (t ∷ r) ts = back r (t ∷ ts)

back_onto : (f : Form) (r ts : List Token) → back (onto f r) ts ≡ back r (written f ts)
back_onto (literal n) r ts = refl
back_onto (expanded n) r ts = refl
back_onto (variable text) r ts = refl
back_onto (member text f) r ts = back_onto f (indexed text ∷ r) (sign EndIndex ∷ ts)
back_onto (group f) r ts = back_onto f (sign Open ∷ r) (sign Close ∷ ts)
back_onto (prefixed op f) r ts = back_onto f (sign (prefix op) ∷ r) ts
back_onto (stepped PreAdd f) r ts = back_onto f (sign Increment ∷ r) ts
back_onto (stepped PreSub f) r ts = back_onto f (sign Decrement ∷ r) ts
back_onto (stepped PostAdd f) r ts = back_onto f r (sign Increment ∷ ts)
back_onto (stepped PostSub f) r ts = back_onto f r (sign Decrement ∷ ts)
back_onto (between i f g) r ts = back_onto g (sign (Between i) ∷ onto f r) ts ∙ back_onto f r (sign (Between i) ∷ written g ts)
back_onto (chosen f g h) r ts = back_onto h (sign Colon ∷ onto g (sign Question ∷ onto f r)) ts ∙ back_onto g (sign Question ∷ onto f r) (sign Colon ∷ written h ts) ∙ back_onto f r (sign Question ∷ written g (sign Colon ∷ written h ts))
back_onto (assigned f op g) r ts = back_onto g (sign (Assign op) ∷ onto f r) ts ∙ back_onto f r (sign (Assign op) ∷ written g ts)

abbrev turned : List Token → List Token → List Token
turned [] r = r
turned (t ∷ ts) r = turned ts (t ∷ r)

back_turned : (ts r : List Token) → back (turned ts r) [] ≡ back r ts
back_turned [] r = refl
back_turned (t ∷ ts) r = back_turned ts (t ∷ r)

-- ---- what stands for the tokens that were read

-- these tokens, of which r is the last, are an expression of this level behind those that q ends with
pub record Came (l : ℕ) (e : Expr) (q r : List Token) : Type 0 where
  pub form : Form
  pub fits : Fits l form
  pub is : tree form ≡ e
  pub put : onto form q ≡ r

abbrev Stands : List Frame → List Token → Type 0
Stands [] r = r ≡ []
Stands (Group ∷ fs) r = (q : List Token) × (r ≡ sign Open ∷ q) × Stands fs q
Stands (Index text None ∷ fs) r = (q : List Token) × (r ≡ indexed text ∷ q) × Stands fs q
Stands (Index text (Some op) ∷ fs) r = (q : List Token) × (r ≡ indexed text ∷ before_target op q) × ((ts : List Token) → behind_target op ts ≡ ts) × Stands fs q
Stands (Prefix op ∷ fs) r = (q : List Token) × (r ≡ sign (prefix op) ∷ q) × Stands fs q
Stands (Left i a ∷ fs) r = (q p : List Token) × Came (left_level i) a q p × (r ≡ sign (Between i) ∷ p) × (room fs ≤ level i) × Stands fs q
Stands (Test a ∷ fs) r = (q p : List Token) × Came 3 a q p × (r ≡ sign Question ∷ p) × (room fs ≤ 2) × Stands fs q
Stands (Otherwise a b ∷ fs) r = (q p s : List Token) × Came 3 a q p × Came 0 b (sign Question ∷ p) s × (r ≡ sign Colon ∷ s) × (room fs ≤ 2) × Stands fs q
Stands (Target a op ∷ fs) r = (q : List Token) × (f : Form) × (is_bare f ≡ true) × Fits 0 f × (tree f ≡ a) × (r ≡ sign (Assign op) ∷ onto f q) × (room fs ≤ 1) × Stands fs q

-- the same where an operand came that operators of level m may take
record Stood (m : ℕ) (x : List Frame × Expr) (r : List Token) : Type 0 where
  q : List Token
  k : ℕ
  came : Came k x.1 q r
  low : m ≤ k
  roomy : room x.0 ≤ k
  stands : Stands x.0 q

looser : (f : Form) (j k : ℕ) → j ≤ k → Fits k f → Fits j f
looser (literal n) j k le h = tt
looser (expanded n) j k le h = tt
looser (variable text) j k le h = tt
looser (member text f) j k le h = h
looser (group f) j k le h = h
looser (prefixed op f) j k le h = let a = h.0 in (omega arith, h.1)
looser (stepped op f) j k le h = h
looser (between i f g) j k le h = let a = h.0 in (omega arith, h.1, h.2)
looser (chosen f g x) j k le h = let a = h.0 in (omega arith, h.1, h.2, h.3)
looser (assigned f op g) j k le h = let a = h.0 in (omega arith, h.1, h.2, h.3)

came_looser : (j k : ℕ) (e : Expr) (q r : List Token) → j ≤ k → Came k e q r → Came j e q r
came_looser j k e q r le c = record { form = c.form; fits = looser c.form j k le c.fits; is = c.is; put = c.put }

room_most : (fs : List Frame) → room fs ≤ 14
room_most [] = omega arith
room_most (Group ∷ fs) = omega arith
room_most (Index text step ∷ fs) = omega arith
room_most (Prefix op ∷ fs) = omega arith
room_most (Left i a ∷ fs) = let most = (is_level i).most in omega arith
room_most (Test a ∷ fs) = omega arith
room_most (Otherwise a b ∷ fs) = omega arith
room_most (Target a op ∷ fs) = omega arith

decided : {X : Type 0} (b : Bool) → (b ≡ true → X) → (b ≡ false → X) → X
decided true f g = f refl
decided false f g = g refl

is_at_most : (m k : ℕ) → nat_le m k ≡ true → m ≤ k
is_at_most m k e = grind (arith, nat_tests)

stays : (m : ℕ) (f : Frame) (fs : List Frame) (e : Expr) (q r : List Token) (k : ℕ) → binds m f ≡ false → Came k e q r → m ≤ k → asked f ≤ k → Stands (f ∷ fs) q → Stood m (reduce m (f ∷ fs) e) r
stays m f fs e q r k fails c low le st = rw (no_more m f fs e fails) (record { q = q; k = k; came = c; low = low; roomy = le; stands = st })

reduced : (m : ℕ) (fs : List Frame) (e : Expr) (q r : List Token) (k : ℕ) → m ≤ 14 → Came k e q r → m ≤ k → room fs ≤ k → Stands fs q → Stood m (reduce m fs e) r
unfolding reduce
reduced m [] e q r k most c low le st = record { q = q; k = k; came = c; low = low; roomy = le; stands = st }
reduced m (Group ∷ fs) e q r k most c low le st = stays m Group fs e q r k refl c low le st
reduced m (Index text step ∷ fs) e q r k most c low le st = stays m (Index text step) fs e q r k refl c low le st
reduced m (Test a ∷ fs) e q r k most c low le st = stays m (Test a) fs e q r k refl c low le st
reduced m (Prefix op ∷ fs) e q r k most c low le st =
    let next : Came 14 (expr.Unary op e) st.0 r = record {
      form = prefixed op c.form;
      fits = (omega arith, looser c.form 14 k le c.fits);
      is = ap (expr.Unary op) c.is;
      put = ap (onto c.form) (sym st.1) ∙ c.put;
    } in
    reduced m fs (expr.Unary op e) st.0 r 14 most next most (room_most fs) st.2
reduced m (Left i a ∷ fs) e q r k most c low le st =
    let next : Came (level i) (joined i a e) st.0 r = record {
      form = between i st.2.form c.form;
      fits = (omega arith, st.2.fits, looser c.form (level i + 1) k le c.fits);
      is = ap (λ (x : Expr). joined i x (tree c.form)) st.2.is ∙ ap (joined i a) c.is;
      put = ap (λ (z : List Token). onto c.form (sign (Between i) ∷ z)) st.2.put ∙ ap (onto c.form) (sym st.3) ∙ c.put;
    } in
    decided (nat_le m (level i))
    (λ holds. rw (one_more m (Left i a) fs e holds) (reduced m fs (joined i a e) st.0 r (level i) most next (is_at_most m (level i) holds) st.4 st.5))
    (λ fails. stays m (Left i a) fs e q r k fails c low le st)
reduced m (Otherwise a b ∷ fs) e q r k most c low le st =
    let next : Came 2 (expr.Choose a b e) st.0 r = record {
      form = chosen st.3.form st.4.form c.form;
      fits = (omega arith, st.3.fits, st.4.fits, looser c.form 2 k le c.fits);
      is = ap (λ (x : Expr). expr.Choose x (tree st.4.form) (tree c.form)) st.3.is ∙ ap (λ (x : Expr). expr.Choose a x (tree c.form)) st.4.is ∙ ap (expr.Choose a b) c.is;
      put = ap (λ (z : List Token). onto c.form (sign Colon ∷ onto st.4.form (sign Question ∷ z))) st.3.put ∙ ap (λ (z : List Token). onto c.form (sign Colon ∷ z)) st.4.put ∙ ap (onto c.form) (sym st.5) ∙ c.put;
    } in
    decided (nat_le m 2)
    (λ holds. rw (one_more m (Otherwise a b) fs e holds) (reduced m fs (expr.Choose a b e) st.0 r 2 most next (is_at_most m 2 holds) st.6 st.7))
    (λ fails. stays m (Otherwise a b) fs e q r k fails c low le st)
reduced m (Target a op ∷ fs) e q r k most c low le st =
    let next : Came 1 (expr.Assign a op e) st.0 r = record {
      form = assigned st.1 op c.form;
      fits = (omega arith, st.2, st.3, looser c.form 1 k le c.fits);
      is = ap (λ (x : Expr). expr.Assign x op (tree c.form)) st.4 ∙ ap (expr.Assign a op) c.is;
      put = ap (onto c.form) (sym st.5) ∙ c.put;
    } in
    decided (nat_le m 1)
    (λ holds. rw (one_more m (Target a op) fs e holds) (reduced m fs (expr.Assign a op e) st.0 r 1 most next (is_at_most m 1 holds) st.6 st.7))
    (λ fails. stays m (Target a op) fs e q r k fails c low le st)

-- ---- where reading is, and the tokens that were read

-- an operand that came last; the bool: it may be assigned to
record Last (e : Expr) (bare : Bool) (q r : List Token) : Type 0 where
  form : Form
  fits : Fits 15 form
  is : tree form ≡ e
  put : onto form q ≡ r
  may : bare ≡ true → is_bare form ≡ true

abbrev Kept : List Frame → Slot → List Token → Type 0
Kept fs Wanted r = Stands fs r
Kept fs (Stepping op) r = (q : List Token) × (r ≡ before_target op q) × ((ts : List Token) → behind_target op ts ≡ ts) × Stands fs q
Kept fs (Held e bare) r = (q : List Token) × Last e bare q r × Stands fs q

abbrev Goes : Option Parser → List Token → Type 0
Goes None r = Unit {0}
Goes (Some p) r = Kept p.frames p.slot r

last_came : (e : Expr) (bare : Bool) (q r : List Token) → Last e bare q r → Came 15 e q r
last_came e bare q r x = record { form = x.form; fits = x.fits; is = x.is; put = x.put }

stood : (m : ℕ) (fs : List Frame) (e : Expr) (bare : Bool) (r : List Token) → m ≤ 14 → Kept fs (Held e bare) r → Stood m (reduce m fs e) r
stood m fs e bare r most h = let a = room_most fs in reduced m fs e h.0 r 15 most (last_came e bare h.0 r h.1) (omega arith) (omega arith) h.2

prefix_goes : (fs : List Frame) (s : Sign) (r : List Token) → Stands fs r → Goes (prefix_at fs s) (sign s ∷ r)
prefix_goes fs (Between And) r st = tt
prefix_goes fs (Between Or) r st = tt
prefix_goes fs (Between Comma) r st = tt
prefix_goes fs (Between (Plain op.Add)) r st = (r, refl, st)
prefix_goes fs (Between (Plain op.Subtract)) r st = (r, refl, st)
prefix_goes fs (Between (Plain o)) r st = tt
prefix_goes fs (Assign o) r st = tt
prefix_goes fs Not r st = (r, refl, st)
prefix_goes fs Complement r st = (r, refl, st)
prefix_goes fs Increment r st = (r, refl, (λ ts. refl), st)
prefix_goes fs Decrement r st = (r, refl, (λ ts. refl), st)
prefix_goes fs Question r st = tt
prefix_goes fs Colon r st = tt
prefix_goes fs Open r st = (r, refl, st)
prefix_goes fs Close r st = tt
prefix_goes fs EndIndex r st = tt

never : {X : Type 0} → false ≡ true → X
never e = absurd cc

operand_goes : (fs : List Frame) (t : Token) (r : List Token) → Stands fs r → Goes (operand_at fs t) (t ∷ r)
operand_goes fs (number n) r st = (r, record { form = literal n; fits = tt; is = refl; put = refl; may = never }, st)
operand_goes fs (operand n) r st = (r, record { form = expanded n; fits = tt; is = refl; put = refl; may = never }, st)
operand_goes fs (name text) r st = (r, record { form = variable text; fits = tt; is = refl; put = refl; may = λ e. refl }, st)
operand_goes fs (indexed text) r st = (r, refl, st)
operand_goes fs (sign s) r st = prefix_goes fs s r st

variable_goes : (fs : List Frame) (op : StepOp) (t : Token) (r : List Token) → Kept fs (Stepping op) r → Goes (variable_at fs op t) (t ∷ r)
variable_goes fs op (name text) r st = (st.0, record { form = stepped op (variable text); fits = (refl, tt); is = refl; put = st.2 (name text ∷ before_target op st.0) ∙ ap (λ (z : List Token). name text ∷ z) (sym st.1); may = never }, st.3)
variable_goes fs op (indexed text) r st = (st.0, ap (λ (z : List Token). indexed text ∷ z) st.1, st.2, st.3)
variable_goes fs op (number n) r st = tt
variable_goes fs op (operand n) r st = tt
variable_goes fs op (sign s) r st = tt

left_goes : (i : Infix) (x : List Frame × Expr) (r : List Token) → Stood (left_level i) x r → Goes (left_at i x) (sign (Between i) ∷ r)
left_goes i x r st =
    decided (nat_le (room x.0) (level i))
    (λ holds. rw holds (st.q, r, came_looser (left_level i) st.k x.1 st.q r st.low st.came, refl, is_at_most (room x.0) (level i) holds, st.stands))
    (λ fails. rw fails tt)

is_more : (m k : ℕ) → nat_le m k ≡ false → k < m
is_more m k e = grind (arith, nat_tests)

loosest : (l m : ℕ) → Level l m → nat_le 3 l ≡ false → l + 1 ≤ 2
loosest l m v e =
    let lt = is_more 3 l e in
    let other : (l ≡ 1 → ⊥) → (l ≡ 2 → ⊥) → l + 1 ≤ 2 = λ a b. omega (arith, a, b) in
    other v.not_one v.not_two

after_three : (fs : List Frame) (e : Expr) → room (reduce 3 fs e).0 ≤ 2
unfolding reduce
after_three [] e = omega arith
after_three (Group ∷ fs) e = omega arith
after_three (Index text step ∷ fs) e = omega arith
after_three (Test a ∷ fs) e = omega arith
after_three (Prefix op ∷ fs) e = after_three fs (expr.Unary op e)
after_three (Left i a ∷ fs) e =
    decided (nat_le 3 (level i))
    (λ holds. rw holds (after_three fs (joined i a e)))
    (λ fails. rw fails (loosest (level i) (left_level i) (is_level i) fails))
after_three (Otherwise a b ∷ fs) e = omega arith
after_three (Target a op ∷ fs) e = omega arith

otherwise_goes : (fs : List Frame) (e : Expr) (r : List Token) → Stood 0 (fs, e) r → Goes (otherwise_at fs e) (sign Colon ∷ r)
otherwise_goes [] e r st = tt
otherwise_goes (Test a ∷ fs) e r st =
    let s = st.stands in
    (s.0, s.1, r, s.2, subst (λ (z : List Token). Came 0 e z r) s.3 (came_looser 0 st.k e st.q r st.low st.came), refl, s.4, s.5)
otherwise_goes (f ∷ fs) e r st = tt

close_goes : (fs : List Frame) (e : Expr) (r : List Token) → Stood 0 (fs, e) r → Goes (close_at fs e) (sign Close ∷ r)
close_goes [] e r st = tt
close_goes (Group ∷ fs) e r st =
    let s = st.stands in let c = st.came in
    (s.0, record { form = group c.form; fits = looser c.form 0 st.k st.low c.fits; is = c.is; put = ap (λ (z : List Token). sign Close ∷ onto c.form z) (sym s.1) ∙ ap (λ (z : List Token). sign Close ∷ z) c.put; may = never }, s.2)
close_goes (f ∷ fs) e r st = tt

member_goes : (fs : List Frame) (text : List ℕ) (step : Option StepOp) (e : Expr) (q r : List Token) (k : ℕ) → Came k e q r → Stands (Index text step ∷ fs) q → Goes (member_at fs text step e) (sign EndIndex ∷ r)
member_goes fs text None e q r k c s =
    (s.0, record { form = member text c.form; fits = looser c.form 0 k (omega arith) c.fits; is = ap (expr.Member text) c.is; put = ap (λ (z : List Token). sign EndIndex ∷ onto c.form z) (sym s.1) ∙ ap (λ (z : List Token). sign EndIndex ∷ z) c.put; may = λ e. refl }, s.2)
member_goes fs text (Some op) e q r k c s = (
  s.0,
  record {
    form = stepped op (member text c.form);
    fits = (refl, looser c.form 0 k (omega arith) c.fits);
    is = ap (λ (x : Expr). expr.Step op (expr.Member text x)) c.is;
    put = s.2 (sign EndIndex ∷ onto c.form (indexed text ∷ before_target op s.0)) ∙ ap (λ (z : List Token). sign EndIndex ∷ onto c.form z) (sym s.1) ∙ ap (λ (z : List Token). sign EndIndex ∷ z) c.put;
    may = never;
  },
  s.3,
)

end_index_goes : (fs : List Frame) (e : Expr) (r : List Token) → Stood 0 (fs, e) r → Goes (end_index_at fs e) (sign EndIndex ∷ r)
end_index_goes [] e r st = tt
end_index_goes (Index text step ∷ fs) e r st = member_goes fs text step e st.q r st.k st.came st.stands
end_index_goes (f ∷ fs) e r st = tt

step_goes : (fs : List Frame) (op : StepOp) (s : Sign) (e : Expr) (bare : Bool) (r : List Token) → ((ts : List Token) → before_target op ts ≡ ts) → ((ts : List Token) → behind_target op ts ≡ sign s ∷ ts) → Kept fs (Held e bare) r →
    Goes (if bare then Some (record { frames = fs; slot = Held (expr.Step op e) false }) else None) (sign s ∷ r)
step_goes fs op s e true r before behind h =
    let x = h.1 in (
      h.0,
      record {
        form = stepped op x.form;
        fits = (x.may refl, looser x.form 0 15 (omega arith) x.fits);
        is = ap (expr.Step op) x.is;
        put = ap (λ (z : List Token). behind_target op (onto x.form z)) (before h.0) ∙ ap (behind_target op) x.put ∙ behind r;
        may = never;
      },
      h.2,
    )
step_goes fs op s e false r before behind h = tt

assign_goes : (fs : List Frame) (o : Option BinOp) (e : Expr) (bare : Bool) (r : List Token) → Kept fs (Held e bare) r → Goes (sign_at fs e bare (Assign o)) (sign (Assign o) ∷ r)
assign_goes fs o e false r h = tt
assign_goes fs o e true r h =
    let x = h.1 in
    decided (nat_le (room fs) 1)
    (λ holds. rw holds (h.0, x.form, x.may refl, looser x.form 0 15 (omega arith) x.fits, x.is, ap (λ (z : List Token). sign (Assign o) ∷ z) (sym x.put), is_at_most (room fs) 1 holds, h.2))
    (λ fails. rw fails tt)

test_goes : (x : List Frame × Expr) (r : List Token) → room x.0 ≤ 2 → Stood 3 x r → Goes (test_at x) (sign Question ∷ r)
test_goes x r le st = (st.q, r, came_looser 3 st.k x.1 st.q r st.low st.came, refl, le, st.stands)

sign_goes : (fs : List Frame) (e : Expr) (bare : Bool) (s : Sign) (r : List Token) → Kept fs (Held e bare) r → Goes (sign_at fs e bare s) (sign s ∷ r)
sign_goes fs e bare (Between i) r h = left_goes i (reduce (left_level i) fs e) r (stood (left_level i) fs e bare r (is_level i).at_most h)
sign_goes fs e bare (Assign o) r h = assign_goes fs o e bare r h
sign_goes fs e bare Increment r h = step_goes fs PostAdd Increment e bare r (λ ts. refl) (λ ts. refl) h
sign_goes fs e bare Decrement r h = step_goes fs PostSub Decrement e bare r (λ ts. refl) (λ ts. refl) h
sign_goes fs e bare Question r h = test_goes (reduce 3 fs e) r (after_three fs e) (stood 3 fs e bare r (omega arith) h)
sign_goes fs e bare Colon r h = otherwise_goes (reduce 0 fs e).0 (reduce 0 fs e).1 r (stood 0 fs e bare r (omega arith) h)
sign_goes fs e bare Close r h = close_goes (reduce 0 fs e).0 (reduce 0 fs e).1 r (stood 0 fs e bare r (omega arith) h)
sign_goes fs e bare EndIndex r h = end_index_goes (reduce 0 fs e).0 (reduce 0 fs e).1 r (stood 0 fs e bare r (omega arith) h)
sign_goes fs e bare Not r h = tt
sign_goes fs e bare Complement r h = tt
sign_goes fs e bare Open r h = tt

behind_goes : (fs : List Frame) (e : Expr) (bare : Bool) (t : Token) (r : List Token) → Kept fs (Held e bare) r → Goes (behind_at fs e bare t) (t ∷ r)
behind_goes fs e bare (sign s) r h = sign_goes fs e bare s r h
behind_goes fs e bare (number n) r h = tt
behind_goes fs e bare (operand n) r h = tt
behind_goes fs e bare (name text) r h = tt
behind_goes fs e bare (indexed text) r h = tt

shift_goes : (fs : List Frame) (slot : Slot) (t : Token) (r : List Token) → Kept fs slot r → Goes (shift_at fs slot t) (t ∷ r)
shift_goes fs Wanted t r h = operand_goes fs t r h
shift_goes fs (Stepping op) t r h = variable_goes fs op t r h
shift_goes fs (Held e bare) t r h = behind_goes fs e bare t r h

abbrev Ends : Option Expr → List Token → Type 0
Ends None r = Unit {0}
Ends (Some e) r = Came 0 e [] r

only_ends : (x : List Frame × Expr) (r : List Token) → Stood 0 x r → Ends (only x) r
only_ends ([], e) r st = subst (λ (z : List Token). Came 0 e z r) st.stands (came_looser 0 st.k e st.q r st.low st.came)
only_ends (f ∷ fs, e) r st = tt

accept_ends : (fs : List Frame) (slot : Slot) (r : List Token) → Kept fs slot r → Ends (accept_at fs slot) r
accept_ends fs Wanted r h = tt
accept_ends fs (Stepping op) r h = tt
accept_ends fs (Held e bare) r h = only_ends (reduce 0 fs e) r (stood 0 fs e bare r (omega arith) h)

next_ends : (ts : List Token) (o : Option Parser) (r : List Token) → ((p : Parser) → Kept p.frames p.slot r → Ends (run p ts >>= accept) (turned ts r)) → Goes o r → Ends ((o >>= λ q. run q ts) >>= accept) (turned ts r)
next_ends ts None r next h = tt
next_ends ts (Some p) r next h = next p h

run_ends : (ts : List Token) (p : Parser) (r : List Token) → Kept p.frames p.slot r → Ends (run p ts >>= accept) (turned ts r)
run_ends [] p r h = accept_ends p.frames p.slot r h
run_ends (t ∷ ts) p r h = next_ends ts (shift p t) (t ∷ r) (λ q k. run_ends ts q (t ∷ r) k) (shift_goes p.frames p.slot t r h)

ended : (o : Option Expr) (r : List Token) (e : Expr) → Ends o r → o ≡ Some e → Came 0 e [] r
ended None r e h is = absurd cc
ended (Some x) r e h is = let same : x ≡ e = cc in subst (λ (y : Expr). Came 0 y [] r) same h

-- a form that was written as these tokens
pub record IsForm (e : Expr) (ts : List Token) : Type 0 where
  pub form : Form
  pub fits : Fits 0 form
  pub is : tree form ≡ e
  pub tokens : ts ≡ written form []

-- WHAT IS READ IS WRITTEN AS THESE TOKENS
pub sound : (ts : List Token) (e : Expr) → (run nothing_read ts >>= accept) ≡ Some e → IsForm e ts
sound ts e is =
    let c = ended (run nothing_read ts >>= accept) (turned ts []) e (run_ends ts nothing_read [] refl) is in
    record {
      form = c.form;
      fits = c.fits;
      is = c.is;
      tokens = sym (back_turned ts []) ∙ ap (λ (r : List Token). back r []) (sym c.put) ∙ back_onto c.form [] [];
    }
