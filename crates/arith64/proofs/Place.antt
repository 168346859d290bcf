-- Where reading can go on.
use Rattle.std.proofs.Common.{◌≡◌, ℕ, Bool, true, false, List, [], ◌∷◌, ◌++◌, Option, Some, None, refl, sym, ap, subst, ◌∙◌, nat_le, pos, ◌<◌, ◌≤◌, arith}
use Rattle.std.proofs.lemmas.Bool.Decides.{nat_tests}
use Rattle.std.specs.Prelude.{◌==◌, if◌then◌else◌}
use Rattle.span_text.specs.declared.expr.UnOp.TheVariants as unary
use Rattle.span_text.specs.declared.expr.BinOp.{BinOp}
use Rattle.span_text.specs.declared.expr.BinOp.TheVariants as op
use Rattle.span_text.specs.declared.expr.Expr.{Expr}
use Rattle.span_text.specs.declared.expr.Expr.TheVariants as expr
use Rattle.span_text.specs.declared.sign.Infix.{Infix}
use Rattle.span_text.specs.declared.sign.Infix.TheVariants.{Plain, And, Or, Comma}
use Rattle.span_text.specs.declared.sign.Sign.{Sign}
use Rattle.span_text.specs.declared.sign.Sign.TheVariants.{Between, Assign, Not, Complement, Increment, Decrement, Question, Colon, Open, Close, EndIndex}
use Rattle.span_text.specs.Names.{begins_name, continues_name}
use Rattle.span_text.specs.ExprTokens.{Cell, byte, expansion, is_byte, without_joins, Token, number, indexed, operand, sign, sign_of, longer, gap, tokens, greatest, is_gap}
use Rattle.span_text.specs.Expressions.{Spells, joined, level, left_level}
use Rattle.arith64.specs.declared.frames.Frame.{Frame}
use Rattle.arith64.specs.declared.frames.Frame.TheVariants.{Group, Index, Prefix, Left, Test, Otherwise, Target}
use Rattle.arith64.specs.declared.frames.Slot.{Slot}
use Rattle.arith64.specs.declared.frames.Slot.TheVariants.{Wanted, Stepping, Held}
use Rattle.arith64.specs.declared.frames.Parser.{Parser}
use Rattle.arith64.specs.declared.pending.Digits.{Digits}
use Rattle.arith64.specs.declared.pending.Digits.TheVariants.{Zero, Octal, Decimal, Hexadecimal}
use Rattle.arith64.specs.declared.pending.Pending.{Pending}
use Rattle.arith64.specs.declared.pending.Pending.TheVariants.{Gap, Name, Number, Operator}
use Rattle.arith64.specs.declared.reader.Reader.{Reader}
use Rattle.arith64.specs.Parsing.{◌>>=◌, reduce, room, left_at, wanted, end_at, shift, parsed, nothing_read, only}
use Rattle.arith64.specs.Reader.{first_digit, next_digit, value_of_digits, may_grow, is_prefix, opens, wants_operand, wants_variable, settled, enter_word, enter_sign, enter_sign_if, start, number_at, finish, flush, as_number, more_sign, step, reader, placed, read_cell, read_cells, read_end, at_start}
use Rattle.arith64.proofs.Binding.{one_more, at_most}
use Rattle.arith64.proofs.Words.{Small, SmallDigits, next_small, first_small, is_digit_else}
use Rattle.arith64.proofs.Complete.{reads}
use Rattle.arith64.proofs.Sound.{sound}
use Rattle.arith64.proofs.Exact.{exact}

-- ---- what is read is spelled, and what is spelled is read

abbrev pub result : List Cell → Option Expr
result cells = read_cells at_start cells >>= read_end

some_is : {A : Type 0} (x y : A) → Some x ≡ Some y → x ≡ y
some_is x y e = cc

exactly : (cells : List Cell) → result cells ≡ (tokens gap (without_joins false cells) >>= parsed)
exactly cells = exact cells false Gap gap nothing_read refl

pub spelled : (cells : List Cell) (e : Expr) → result cells ≡ Some e → Spells cells e
spelled cells e h = from (tokens gap (without_joins false cells)) refl (sym (exactly cells) ∙ h)
  where
    from : (o : Option (List Token)) → tokens gap (without_joins false cells) ≡ o → (o >>= parsed) ≡ Some e → Spells cells e
    from None t k = absurd cc
    from (Some ts) t k = let f = sound ts e k in record { form = f.form; fits = f.fits; is_written = t ∙ ap (λ (us : List Token). Some us) f.tokens; is = f.is }

pub spelling_read : (cells : List Cell) (e : Expr) → Spells cells e → result cells ≡ Some e
spelling_read cells e s = exactly cells ∙ ap (λ (o : Option (List Token)). o >>= parsed) s.is_written ∙ reads s.form s.fits ∙ ap (λ (x : Expr). Some x) s.is

pub unspelled : (cells : List Cell) → result cells ≡ None → (e : Expr) → Spells cells e → ⊥
unspelled cells h e s = differ (sym h ∙ spelling_read cells e s)
  where
    differ : None ≡ Some e → ⊥
    differ k = cc

pub read_append : (cs ds : List Cell) (r : Reader) → read_cells r (cs ++ ds) ≡ (read_cells r cs >>= λ q. read_cells q ds)
read_append [] ds r = refl
read_append (c ∷ cs) ds r = next (read_cell r c) (λ q. read_append cs ds q)
  where
    next : (o : Option Reader) → ((q : Reader) → read_cells q (cs ++ ds) ≡ (read_cells q cs >>= λ x. read_cells x ds)) → (o >>= λ q. read_cells q (cs ++ ds)) ≡ ((o >>= λ q. read_cells q cs) >>= λ x. read_cells x ds)
    next None h = refl
    next (Some q) h = h q

-- no spelled text begins with cells that aren't read
pub no_more : (cs more : List Cell) (e : Expr) → read_cells at_start cs ≡ None → Spells (cs ++ more) e → ⊥
no_more cs more e h s = unspelled (cs ++ more) (ap (λ (o : Option Reader). o >>= read_end) (read_append cs more at_start ∙ ap (λ (o : Option Reader). o >>= λ q. read_cells q more) h)) e s

-- ---- what was begun can become a token that stands here

abbrev Alive : Pending → Slot → Type 0
Alive Gap slot = Unit {0}
Alive (Name text) slot = wants_variable slot ≡ true
Alive (Number digits) slot = (wants_operand slot ≡ true) × Small (value_of_digits digits)
Alive (Operator s) slot = (may_grow s ≡ true) × (opens slot s ≡ true)

abbrev AliveAt : Option (Pending × Parser) → Type 0
AliveAt None = Unit {0}
AliveAt (Some x) = Alive x.0 x.1.slot

settled_alive : (o : Option Parser) → AliveAt (settled o)
settled_alive None = tt
settled_alive (Some p) = tt

sign_alive : (p : Parser) (s : Sign) → AliveAt (enter_sign p s)
sign_alive p s = goes (may_grow s) (opens p.slot s) refl refl
  where
    goes : (t u : Bool) → may_grow s ≡ t → opens p.slot s ≡ u → AliveAt (if t then (if u then Some (Operator s, p) else None) else settled (shift p (sign s)))
    goes true true e f = (e, f)
    goes true false e f = tt
    goes false u e f = settled_alive (shift p (sign s))

sign_if_alive : (p : Parser) (o : Option Sign) → AliveAt (enter_sign_if p o)
sign_if_alive p None = tt
sign_if_alive p (Some s) = sign_alive p s

word_alive : (p : Parser) (b : ℕ) → continues_name b ≡ true → AliveAt (enter_word p b)
word_alive p b c = goes (begins_name b) (wants_variable p.slot) (wants_operand p.slot) refl refl refl
  where
    goes : (t u v : Bool) → begins_name b ≡ t → wants_variable p.slot ≡ u → wants_operand p.slot ≡ v → AliveAt (if t then (if u then Some (Name (b ∷ []), p) else None) else (if v then Some (Number (first_digit b), p) else None))
    goes true true v e f g = f
    goes true false v e f g = tt
    goes false u true e f g = (g, first_small b (is_digit_else b c e))
    goes false u false e f g = tt

start_alive : (p : Parser) (c : Cell) → AliveAt (start p c)
start_alive p (expansion n) = settled_alive (shift p (operand n))
start_alive p (byte b) = goes (is_gap b) (continues_name b) refl
  where
    goes : (t u : Bool) → continues_name b ≡ u → AliveAt (if t then Some (Gap, p) else (if u then enter_word p b else enter_sign_if p (sign_of b)))
    goes true u e = tt
    goes false true e = word_alive p b e
    goes false false e = sign_if_alive p (sign_of b)

flush_alive : (p : Parser) (y : Pending) (c : Cell) → AliveAt (flush p y c)
flush_alive p y c = goes (finish p y)
  where
    goes : (o : Option Parser) → AliveAt (o >>= λ q. start q c)
    goes None = tt
    goes (Some q) = start_alive q c

step_alive : (y : Pending) (p : Parser) (c : Cell) → Alive y p.slot → AliveAt (step p y c)
step_alive y p (expansion n) h = flush_alive p y (expansion n)
step_alive Gap p (byte b) h = start_alive p (byte b)
step_alive (Name text) p (byte b) h = goes (continues_name b) (b == 91)
  where
    goes : (t u : Bool) → AliveAt (if t then Some (Name (text ++ b ∷ []), p) else (if u then settled (shift p (indexed text)) else flush p (Name text) (byte b)))
    goes true u = h
    goes false true = settled_alive (shift p (indexed text))
    goes false false = flush_alive p (Name text) (byte b)
step_alive (Number digits) p (byte b) h = goes (continues_name b) (next_digit digits b) (next_small digits b)
  where
    goes : (t : Bool) (o : Option Digits) → SmallDigits o → AliveAt (if t then as_number p o else flush p (Number digits) (byte b))
    goes true None s = tt
    goes true (Some e) s = (h.0, s)
    goes false o s = flush_alive p (Number digits) (byte b)
step_alive (Operator s) p (byte b) h = goes (longer s b)
  where
    goes : (o : Option Sign) → AliveAt (more_sign p s o b)
    goes None = flush_alive p (Operator s) (byte b)
    goes (Some t) = sign_alive p t

abbrev Good : Option Reader → Type 0
Good None = Unit {0}
Good (Some r) = Alive r.pending r.parser.slot

placed_good : (o : Option (Pending × Parser)) → AliveAt o → Good (placed o)
placed_good None h = tt
placed_good (Some x) h = h

cell_good : (r : Reader) (c : Cell) → Alive r.pending r.parser.slot → Good (read_cell r c)
cell_good r c h = goes r.joins (is_byte 10 c) (is_byte 92 c)
  where
    goes : (t u v : Bool) → Good (if t then (if u then Some (reader false (r.pending, r.parser)) else None) else (if v then Some (reader true (r.pending, r.parser)) else placed (step r.parser r.pending c)))
    goes true true v = h
    goes true false v = tt
    goes false u true = h
    goes false u false = placed_good (step r.parser r.pending c) (step_alive r.pending r.parser c h)

cells_good : (cs : List Cell) (r : Reader) → Alive r.pending r.parser.slot → Good (read_cells r cs)
cells_good [] r h = h
cells_good (c ∷ cs) r h = next (read_cell r c) (cell_good r c h) (λ q k. cells_good cs q k)
  where
    next : (o : Option Reader) → Good o → ((q : Reader) → Alive q.pending q.parser.slot → Good (read_cells q cs)) → Good (o >>= λ q. read_cells q cs)
    next None h k = tt
    next (Some q) h k = k q h

-- ---- cells that lead on to an expression

abbrev pub Leads : Reader → Type 0
Leads r = (more : List Cell) × (e : Expr) × ((read_cells r more >>= read_end) ≡ Some e)

abbrev «at» : List Frame → Slot → Reader
«at» fs slot = record { joins = false; pending = Gap; parser = record { frames = fs; slot = slot } }

-- one cell more
before : (r q : Reader) (c : Cell) → read_cell r c ≡ Some q → Leads q → Leads r
before r q c h l = (c ∷ l.0, l.1, ap (λ (o : Option Reader). (o >>= λ x. read_cells x l.0) >>= read_end) h ∙ l.2)

abbrev one : Expr
one = expr.Constant (pos 1)

spent : (fs : List Frame) (n : ℕ) → nat_le n greatest ≡ true → placed (number_at (record { frames = fs; slot = Wanted }) n >>= λ q. start q (byte 32)) ≡ Some («at» fs (Held (expr.Constant (pos n)) false))
unfolding is_gap
spent fs n h = ap (λ (t : Bool). placed ((if t then shift (record { frames = fs; slot = Wanted }) (number n) else None) >>= λ q. start q (byte 32))) h

-- what closes all that stands open behind an operand; here the place is any that comes to these frames with this operand
closing : (fs : List Frame) (e : Expr) (gs : List Frame) (x : Expr) (bare : Bool) → reduce 0 gs x ≡ reduce 0 fs e → Leads («at» gs (Held x bare))
unfolding reduce is_gap continues_name begins_name sign_of
closing [] e gs x bare h = ([], e, ap only h)
closing (Group ∷ fs) e gs x bare h =
    before («at» gs (Held x bare)) («at» fs (Held e false)) (byte 41)
    (ap (λ (y : List Frame × Expr). placed (settled (end_at y Close))) h)
    (closing fs e fs e false refl)
closing (Index text None ∷ fs) e gs x bare h =
    before («at» gs (Held x bare)) («at» fs (Held (expr.Member text e) true)) (byte 93)
    (ap (λ (y : List Frame × Expr). placed (settled (end_at y EndIndex))) h)
    (closing fs (expr.Member text e) fs (expr.Member text e) true refl)
closing (Index text (Some op) ∷ fs) e gs x bare h =
    before («at» gs (Held x bare)) («at» fs (Held (expr.Step op (expr.Member text e)) false)) (byte 93)
    (ap (λ (y : List Frame × Expr). placed (settled (end_at y EndIndex))) h)
    (closing fs (expr.Step op (expr.Member text e)) fs (expr.Step op (expr.Member text e)) false refl)
closing (Test a ∷ fs) e gs x bare h =
    before («at» gs (Held x bare)) («at» (Otherwise a e ∷ fs) Wanted) (byte 58)
    (ap (λ (y : List Frame × Expr). placed (settled (end_at y Colon))) h)
    (before («at» (Otherwise a e ∷ fs) Wanted) (record { joins = false; pending = Number (Decimal 1); parser = record { frames = Otherwise a e ∷ fs; slot = Wanted } }) (byte 49) refl
    (before (record { joins = false; pending = Number (Decimal 1); parser = record { frames = Otherwise a e ∷ fs; slot = Wanted } }) («at» (Otherwise a e ∷ fs) (Held one false)) (byte 32) refl
    (closing fs (expr.Choose a e one) (Otherwise a e ∷ fs) one false refl)))
closing (Prefix op ∷ fs) e gs x bare h = closing fs (expr.Unary op e) gs x bare h
closing (Left i a ∷ fs) e gs x bare h = closing fs (joined i a e) gs x bare (h ∙ one_more 0 (Left i a) fs e (at_most 0 (level i) (omega arith)))
closing (Otherwise a b ∷ fs) e gs x bare h = closing fs (expr.Choose a b e) gs x bare h
closing (Target a op ∷ fs) e gs x bare h = closing fs (expr.Assign a op e) gs x bare h

held_leads : (fs : List Frame) (e : Expr) (bare : Bool) → Leads («at» fs (Held e bare))
held_leads fs e bare = closing fs e fs e bare refl

abbrev with : Pending → List Frame → Slot → Reader
with y fs slot = record { joins = false; pending = y; parser = record { frames = fs; slot = slot } }

number_leads : (fs : List Frame) (digits : Digits) → Small (value_of_digits digits) → Leads (with (Number digits) fs Wanted)
unfolding is_gap continues_name begins_name sign_of
number_leads fs Zero h = before (with (Number Zero) fs Wanted) («at» fs (Held (expr.Constant (pos 0)) false)) (byte 32) refl (held_leads fs (expr.Constant (pos 0)) false)
number_leads fs (Octal n) h = before (with (Number (Octal n)) fs Wanted) («at» fs (Held (expr.Constant (pos n)) false)) (byte 32) (spent fs n h) (held_leads fs (expr.Constant (pos n)) false)
number_leads fs (Decimal n) h = before (with (Number (Decimal n)) fs Wanted) («at» fs (Held (expr.Constant (pos n)) false)) (byte 32) (spent fs n h) (held_leads fs (expr.Constant (pos n)) false)
number_leads fs (Hexadecimal (Some n)) h = before (with (Number (Hexadecimal (Some n))) fs Wanted) («at» fs (Held (expr.Constant (pos n)) false)) (byte 32) (spent fs n h) (held_leads fs (expr.Constant (pos n)) false)
number_leads fs (Hexadecimal None) h =
    before (with (Number (Hexadecimal None)) fs Wanted) (with (Number (Hexadecimal (Some 1))) fs Wanted) (byte 49) refl
    (before (with (Number (Hexadecimal (Some 1))) fs Wanted) («at» fs (Held (expr.Constant (pos 1)) false)) (byte 32) refl (held_leads fs (expr.Constant (pos 1)) false))

wanted_leads : (fs : List Frame) → Leads («at» fs Wanted)
unfolding is_gap continues_name begins_name sign_of
wanted_leads fs = before («at» fs Wanted) (with (Number (Decimal 1)) fs Wanted) (byte 49) refl (number_leads fs (Decimal 1) refl)

name_leads : (text : List ℕ) (fs : List Frame) (slot : Slot) → wants_variable slot ≡ true → Leads (with (Name text) fs slot)
unfolding is_gap continues_name begins_name sign_of
name_leads text fs Wanted h = before (with (Name text) fs Wanted) («at» fs (Held (expr.Name text) true)) (byte 32) refl (held_leads fs (expr.Name text) true)
name_leads text fs (Stepping op) h = before (with (Name text) fs (Stepping op)) («at» fs (Held (expr.Step op (expr.Name text)) false)) (byte 32) refl (held_leads fs (expr.Step op (expr.Name text)) false)
name_leads text fs (Held e bare) h = absurd cc

gap_leads : (fs : List Frame) (slot : Slot) → Leads («at» fs slot)
unfolding is_gap continues_name begins_name sign_of
gap_leads fs Wanted = wanted_leads fs
gap_leads fs (Stepping op) = before («at» fs (Stepping op)) (with (Name (97 ∷ [])) fs (Stepping op)) (byte 97) refl (name_leads (97 ∷ []) fs (Stepping op) refl)
gap_leads fs (Held e bare) = held_leads fs e bare

is_more : (m k : ℕ) → nat_le m k ≡ false → k < m
is_more m k e = grind (arith, nat_tests)

-- an operator between operands has room, where it isn't `**`
after_room : (m : ℕ) (fs : List Frame) (e : Expr) → room (reduce m fs e).0 ≤ m
unfolding reduce
after_room m [] e = omega arith
after_room m (Group ∷ fs) e = omega arith
after_room m (Index text step ∷ fs) e = omega arith
after_room m (Test a ∷ fs) e = omega arith
after_room m (Prefix op ∷ fs) e = after_room m fs (expr.Unary op e)
after_room m (Left i a ∷ fs) e = at_test (nat_le m (level i)) refl (after_room m fs (joined i a e))
  where
    at_test : (t : Bool) → nat_le m (level i) ≡ t → room (reduce m fs (joined i a e)).0 ≤ m → room (if t then reduce m fs (joined i a e) else (Left i a ∷ fs, e)).0 ≤ m
    at_test true h le = le
    at_test false h le = let lt = is_more m (level i) h in omega arith
after_room m (Otherwise a b ∷ fs) e = at_test (nat_le m 2) refl (after_room m fs (expr.Choose a b e))
  where
    at_test : (t : Bool) → nat_le m 2 ≡ t → room (reduce m fs (expr.Choose a b e)).0 ≤ m → room (if t then reduce m fs (expr.Choose a b e) else (Otherwise a b ∷ fs, e)).0 ≤ m
    at_test true h le = le
    at_test false h le = let lt = is_more m 2 h in omega arith
after_room m (Target a op ∷ fs) e = at_test (nat_le m 1) refl (after_room m fs (expr.Assign a op e))
  where
    at_test : (t : Bool) → nat_le m 1 ≡ t → room (reduce m fs (expr.Assign a op e)).0 ≤ m → room (if t then reduce m fs (expr.Assign a op e) else (Target a op ∷ fs, e)).0 ≤ m
    at_test true h le = le
    at_test false h le = let lt = is_more m 1 h in omega arith

infix_shifts : (i : Infix) (fs : List Frame) (e : Expr) → left_level i ≡ level i → left_at i (reduce (left_level i) fs e) ≡ wanted (Left i (reduce (left_level i) fs e).1 ∷ (reduce (left_level i) fs e).0)
infix_shifts i fs e same =
    ap (λ (t : Bool). if t then wanted (Left i (reduce (left_level i) fs e).1 ∷ (reduce (left_level i) fs e).0) else None)
    (at_most (room (reduce (left_level i) fs e).0) (level i) (subst (λ (k : ℕ). room (reduce (left_level i) fs e).0 ≤ k) same (after_room (left_level i) fs e)))

-- behind an operand, a blank ends such an operator
infix_leads : (o : BinOp) (fs : List Frame) (e : Expr) (bare : Bool) → left_level (Plain o) ≡ level (Plain o) → longer (Between (Plain o)) 32 ≡ None → Leads (with (Operator (Between (Plain o))) fs (Held e bare))
unfolding is_gap continues_name begins_name sign_of
infix_leads o fs e bare same ends =
    let x = reduce (left_level (Plain o)) fs e in
    before (with (Operator (Between (Plain o))) fs (Held e bare)) («at» (Left (Plain o) x.1 ∷ x.0) Wanted) (byte 32)
    (ap (λ (t : Option Sign). placed (more_sign (record { frames = fs; slot = Held e bare }) (Between (Plain o)) t 32)) ends
    ∙ ap (λ (q : Option Parser). placed (q >>= λ p. start p (byte 32))) (infix_shifts (Plain o) fs e same))
    (wanted_leads (Left (Plain o) x.1 ∷ x.0))

-- and a `=` makes the others longer
equal_leads : (s : Sign) (o : BinOp) (fs : List Frame) (e : Expr) (bare : Bool) → left_level (Plain o) ≡ level (Plain o) → may_grow (Between (Plain o)) ≡ false → longer s 61 ≡ Some (Between (Plain o)) → Leads (with (Operator s) fs (Held e bare))
equal_leads s o fs e bare same final ends =
    let x = reduce (left_level (Plain o)) fs e in
    before (with (Operator s) fs (Held e bare)) («at» (Left (Plain o) x.1 ∷ x.0) Wanted) (byte 61)
    (ap (λ (t : Option Sign). placed (more_sign (record { frames = fs; slot = Held e bare }) s t 61)) ends
    ∙ ap (λ (t : Bool). placed (if t then Some (Operator (Between (Plain o)), record { frames = fs; slot = Held e bare }) else settled (left_at (Plain o) x))) final
    ∙ ap (λ (q : Option Parser). placed (settled q)) (infix_shifts (Plain o) fs e same))
    (wanted_leads (Left (Plain o) x.1 ∷ x.0))

operator_leads : (s : Sign) (fs : List Frame) (e : Expr) (bare : Bool) → may_grow s ≡ true → Leads (with (Operator s) fs (Held e bare))
unfolding longer
operator_leads (Between And) fs e bare h = absurd cc
operator_leads (Between Or) fs e bare h = absurd cc
operator_leads (Between Comma) fs e bare h = absurd cc
operator_leads (Between (Plain op.Power)) fs e bare h = absurd cc
operator_leads (Between (Plain op.AtMost)) fs e bare h = absurd cc
operator_leads (Between (Plain op.AtLeast)) fs e bare h = absurd cc
operator_leads (Between (Plain op.Equal)) fs e bare h = absurd cc
operator_leads (Between (Plain op.Unequal)) fs e bare h = absurd cc
operator_leads (Between (Plain o)) fs e bare h = infix_leads o fs e bare refl refl
operator_leads (Assign (Some o)) fs e bare h = absurd cc
operator_leads (Assign None) fs e bare h = equal_leads (Assign None) op.Equal fs e bare refl refl refl
operator_leads Not fs e bare h = equal_leads Not op.Unequal fs e bare refl refl refl
operator_leads Complement fs e bare h = absurd cc
operator_leads Increment fs e bare h = absurd cc
operator_leads Decrement fs e bare h = absurd cc
operator_leads Question fs e bare h = absurd cc
operator_leads Colon fs e bare h = absurd cc
operator_leads Open fs e bare h = absurd cc
operator_leads Close fs e bare h = absurd cc
operator_leads EndIndex fs e bare h = absurd cc

prefix_leads : (s : Sign) (fs : List Frame) → is_prefix s ≡ true → Leads (with (Operator s) fs Wanted)
unfolding longer is_gap continues_name begins_name sign_of
prefix_leads (Between And) fs h = absurd cc
prefix_leads (Between Or) fs h = absurd cc
prefix_leads (Between Comma) fs h = absurd cc
prefix_leads (Between (Plain op.Add)) fs h = before (with (Operator (Between (Plain op.Add))) fs Wanted) («at» (Prefix unary.Plus ∷ fs) Wanted) (byte 32) refl (wanted_leads (Prefix unary.Plus ∷ fs))
prefix_leads (Between (Plain op.Subtract)) fs h = before (with (Operator (Between (Plain op.Subtract))) fs Wanted) («at» (Prefix unary.Minus ∷ fs) Wanted) (byte 32) refl (wanted_leads (Prefix unary.Minus ∷ fs))
prefix_leads (Between (Plain o)) fs h = absurd cc
prefix_leads (Assign o) fs h = absurd cc
prefix_leads Not fs h = before (with (Operator Not) fs Wanted) («at» (Prefix unary.Not ∷ fs) Wanted) (byte 32) refl (wanted_leads (Prefix unary.Not ∷ fs))
prefix_leads Complement fs h = absurd cc
prefix_leads Increment fs h = absurd cc
prefix_leads Decrement fs h = absurd cc
prefix_leads Question fs h = absurd cc
prefix_leads Colon fs h = absurd cc
prefix_leads Open fs h = absurd cc
prefix_leads Close fs h = absurd cc
prefix_leads EndIndex fs h = absurd cc

pending_leads : (y : Pending) (fs : List Frame) (slot : Slot) → Alive y slot → Leads (with y fs slot)
pending_leads Gap fs slot h = gap_leads fs slot
pending_leads (Name text) fs slot h = name_leads text fs slot h
pending_leads (Number digits) fs Wanted h = number_leads fs digits h.1
pending_leads (Number digits) fs (Stepping o) h = let no_way : false ≡ true = h.0 in absurd cc
pending_leads (Number digits) fs (Held e bare) h = let no_way : false ≡ true = h.0 in absurd cc
pending_leads (Operator s) fs Wanted h = prefix_leads s fs h.1
pending_leads (Operator s) fs (Stepping o) h = let no_way : false ≡ true = h.1 in absurd cc
pending_leads (Operator s) fs (Held e bare) h = operator_leads s fs e bare h.0

reader_leads : (joins : Bool) (y : Pending) (p : Parser) → Alive y p.slot → Leads (record { joins = joins; pending = y; parser = p })
reader_leads false y p h = pending_leads y p.frames p.slot h
reader_leads true y p h = before (record { joins = true; pending = y; parser = p }) (record { joins = false; pending = y; parser = p }) (byte 10) refl (pending_leads y p.frames p.slot h)

-- WHAT IS READ SO FAR can become a spelled text
pub leads : (cells : List Cell) (r : Reader) → read_cells at_start cells ≡ Some r → (more : List Cell) × (e : Expr) × Spells (cells ++ more) e
leads cells r h =
    let good = subst Good h (cells_good cells at_start tt) in
    let l = reader_leads r.joins r.pending r.parser good in
    (l.0, l.1, spelled (cells ++ l.0) l.1 (ap (λ (o : Option Reader). o >>= read_end) (read_append cells l.0 at_start ∙ ap (λ (o : Option Reader). o >>= λ q. read_cells q l.0) h) ∙ l.2))
