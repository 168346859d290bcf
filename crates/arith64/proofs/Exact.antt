-- Reading cells one by one is reading their tokens.
use Rattle.std.proofs.Common.{◌≡◌, ℕ, Bool, true, false, List, [], ◌∷◌, ◌++◌, Option, Some, None, refl, sym, ap, ◌∙◌}
use Rattle.std.specs.Prelude.{◌==◌, if◌then◌else◌, ◌&&◌}
use Rattle.std.proofs.Math.Path.{fun_ext}
use Rattle.std.proofs.lemmas.List.{append-nil}
use Rattle.span_text.specs.declared.expr.BinOp.TheVariants as op
use Rattle.span_text.specs.declared.expr.Expr.{Expr}
use Rattle.span_text.specs.declared.sign.Infix.TheVariants.{Plain, And, Or, Comma}
use Rattle.span_text.specs.declared.sign.Sign.{Sign}
use Rattle.span_text.specs.declared.sign.Sign.TheVariants.{Between, Assign, Not, Complement, Increment, Decrement, Question, Colon, Open, Close, EndIndex}
use Rattle.span_text.specs.Constant.{unsigned_constant}
use Rattle.span_text.specs.Names.{is_name, begins_name, continues_name}
use Rattle.span_text.specs.ExprTokens.{Cell, byte, expansion, is_byte, without_joins, Token, number, name, indexed, operand, sign, sign_of, longer, Begun, gap, word, operator, whole, operator_if, is_gap, begun, grown, greatest, number_if, finished, ◌then◌, if_begun, tokens}
use Rattle.arith64.specs.declared.frames.Parser.{Parser}
use Rattle.arith64.specs.declared.pending.Digits.{Digits}
use Rattle.arith64.specs.declared.pending.Pending.{Pending}
use Rattle.arith64.specs.declared.pending.Pending.TheVariants.{Gap, Name, Number, Operator}
use Rattle.arith64.specs.Parsing.{◌>>=◌, shift, run, accept}
use Rattle.arith64.specs.Reader.{first_digit, next_digit, value_of_digits, may_grow, opens, wants_operand, wants_variable, settled, enter_word, enter_sign, enter_sign_if, start, number_at, finish, flush, as_number, more_name, more_number, more_sign, step, reader, placed, read_cells, read_end}
use Rattle.arith64.proofs.Words.{is_digit_else, name_more, IsNumber, number_first, number_more, number_none, Small, SmallDigits, next_small, first_small}
use Rattle.arith64.proofs.Ahead.{bind_none, bind_some, ends, ahead, whole_ahead, gap_ahead, over_ahead, final_ahead, closed_sign, grown_word, dead_word, number_none_at, closed_words, closed_number, unnamed, no_name}

-- ---- one cell more

-- a digit comes first
abbrev IsDigits : List ℕ → Type 0
IsDigits [] = ⊥
IsDigits (d ∷ v) = begins_name d ≡ false

no_name_of : (w v : List ℕ) → IsDigits w → is_name (w ++ v) ≡ false
no_name_of [] v h = absurd h
no_name_of (d ∷ w) v h = no_name d (w ++ v) h

digits_more : (w : List ℕ) (b : ℕ) → IsDigits w → IsDigits (w ++ b ∷ [])
digits_more [] b h = absurd h
digits_more (d ∷ w) b h = h

-- what was begun, as the code and as the spelling have it
abbrev Sees : Pending → Begun → Type 0
Sees Gap x = x ≡ gap
Sees (Name text) x = (x ≡ word text) × (is_name text ≡ true)
Sees (Number digits) x = (w : List ℕ) × (x ≡ word w) × IsDigits w × IsNumber w digits × Small (value_of_digits digits)
Sees (Operator s) x = x ≡ operator s

-- what a step comes to: what is ahead stays the same, or is nothing
abbrev Steps : Option (Pending × Parser) → Begun → Parser → Cell → Type 0
Steps None x p c = (cs : List Cell) → ahead x p (c ∷ cs) ≡ None
Steps (Some y) x p c = (z : Begun) × Sees y.0 z × ((cs : List Cell) → ahead x p (c ∷ cs) ≡ ahead z y.1 cs)

settle_steps : (o : Option Parser) (x : Begun) (p : Parser) (c : Cell) → ((cs : List Cell) → ahead x p (c ∷ cs) ≡ (o >>= λ q. ahead gap q cs)) → Steps (settled o) x p c
settle_steps None x p c h = h
settle_steps (Some q) x p c h = (gap, refl, h)

-- the same, where what is ahead is that of another place
moved : (o : Option (Pending × Parser)) (x y : Begun) (p q : Parser) (c d : Cell) → ((cs : List Cell) → ahead x p (c ∷ cs) ≡ ahead y q (d ∷ cs)) → Steps o y q d → Steps o x p c
moved None x y p q c d same h = λ cs. same cs ∙ h cs
moved (Some z) x y p q c d same h = (h.0, h.1, λ cs. same cs ∙ h.2 cs)

sign_steps : (s : Sign) (x : Begun) (p q : Parser) (c : Cell) → ((cs : List Cell) → ahead x p (c ∷ cs) ≡ ahead (operator s) q cs) → Steps (enter_sign q s) x p c
sign_steps s x p q c same = grows (may_grow s) (opens q.slot s) refl refl
  where
    grows : (t u : Bool) → may_grow s ≡ t → opens q.slot s ≡ u → Steps (if t then (if u then Some (Operator s, q) else None) else settled (shift q (sign s))) x p c
    grows true true e f = (operator s, refl, same)
    grows true false e f = λ cs. same cs ∙ closed_sign q.frames q.slot s cs e f
    grows false u e f = settle_steps (shift q (sign s)) x p c (λ cs. same cs ∙ final_ahead s q cs e)

word_steps : (b : ℕ) (p : Parser) → continues_name b ≡ true → ((cs : List Cell) → ahead gap p (byte b ∷ cs) ≡ ahead (word (b ∷ [])) p cs) → Steps (enter_word p b) gap p (byte b)
word_steps b p h same = begins (begins_name b) (wants_variable p.slot) (wants_operand p.slot) refl refl refl
  where
    begins : (t u v : Bool) → begins_name b ≡ t → wants_variable p.slot ≡ u → wants_operand p.slot ≡ v →
        Steps (if t then (if u then Some (Name (b ∷ []), p) else None) else (if v then Some (Number (first_digit b), p) else None)) gap p (byte b)
    begins true true v e f g = (word (b ∷ []), (refl, rw e refl), same)
    begins true false v e f g = λ cs. same cs ∙ dead_word cs (b ∷ []) p (λ w. closed_words p.frames p.slot (b ∷ w) f)
    begins false u true e f g = (word (b ∷ []), (b ∷ [], refl, e, number_first b (is_digit_else b h e), first_small b (is_digit_else b h e)), same)
    begins false u false e f g = λ cs. same cs ∙ dead_word cs (b ∷ []) p (λ w. unnamed p (b ∷ w) (no_name b w e) (number_none_at p (λ n. closed_number p.frames p.slot n g) (unsigned_constant greatest (b ∷ w))))

begun_ahead : (b : ℕ) (p : Parser) (cs : List Cell) (o : Option Begun) → begun (byte b) ≡ o → ahead gap p (byte b ∷ cs) ≡ (if_begun o (λ y. tokens y cs) None >>= ends p)
begun_ahead b p cs o e = gap_ahead p (byte b) cs ∙ ap (λ (x : Option Begun). if_begun x (λ y. tokens y cs) None >>= ends p) e

abbrev begun_at : Bool → Bool → Option Sign → ℕ → Option Begun
begun_at t u s b = if t then Some gap else (if u then Some (word (b ∷ [])) else operator_if s)

begun_is : (b : ℕ) (t u : Bool) (s : Option Sign) → is_gap b ≡ t → continues_name b ≡ u → sign_of b ≡ s → begun (byte b) ≡ begun_at t u s b
begun_is b t u s e f g = ap (λ (x : Bool). begun_at x (continues_name b) (sign_of b) b) e ∙ ap (λ (x : Bool). begun_at t x (sign_of b) b) f ∙ ap (λ (x : Option Sign). begun_at t u x b) g

start_steps : (p : Parser) (c : Cell) → Steps (start p c) gap p c
start_steps p (expansion n) = settle_steps (shift p (operand n)) gap p (expansion n) (λ cs. gap_ahead p (expansion n) cs ∙ whole_ahead (operand n) p cs)
start_steps p (byte b) = starts (is_gap b) (continues_name b) (sign_of b) refl refl refl
  where
    starts : (t u : Bool) (s : Option Sign) → is_gap b ≡ t → continues_name b ≡ u → sign_of b ≡ s →
        Steps (if t then Some (Gap, p) else (if u then enter_word p b else enter_sign_if p s)) gap p (byte b)
    starts true u s e f g = (gap, refl, λ cs. begun_ahead b p cs (Some gap) (begun_is b true u s e f g))
    starts false true s e f g = word_steps b p f (λ cs. begun_ahead b p cs (Some (word (b ∷ []))) (begun_is b false true s e f g))
    starts false false None e f g = λ cs. begun_ahead b p cs None (begun_is b false false None e f g)
    starts false false (Some s) e f g = sign_steps s gap p p (byte b) (λ cs. begun_ahead b p cs (Some (operator s)) (begun_is b false false (Some s) e f g))

named : (w : List ℕ) (t : Bool) → is_name w ≡ t → finished (word w) ≡ (if t then Some (name w ∷ []) else number_if (unsigned_constant greatest w))
named w t e = ap (λ (x : Bool). if x then Some (name w ∷ []) else number_if (unsigned_constant greatest w)) e

value_steps : (p : Parser) (o : Option ℕ) → Small o → (o >>= number_at p) ≡ (number_if o >>= run p)
value_steps p None h = refl
value_steps p (Some n) h = ap (λ (t : Bool). if t then shift p (number n) else None) h ∙ sym (bind_some (shift p (number n)))

-- what was begun is over, as the code and as the spelling have it
finish_is : (y : Pending) (x : Begun) (p : Parser) → Sees y x → finish p y ≡ (finished x >>= run p)
finish_is Gap x p h = rw h refl
finish_is (Name text) x p h = rw h.0 (sym (ap (λ (o : Option (List Token)). o >>= run p) (named text true h.1) ∙ bind_some (shift p (name text))))
finish_is (Number digits) x p h =
    let constant : unsigned_constant greatest h.0 ≡ value_of_digits digits = ap (unsigned_constant greatest) (sym (append-nil h.0)) ∙ h.3 [] in
    let unnamed_is : is_name h.0 ≡ false = ap is_name (sym (append-nil h.0)) ∙ no_name_of h.0 [] h.2 in
    rw h.1 (value_steps p (value_of_digits digits) h.4 ∙ sym (ap (λ (o : Option (List Token)). o >>= run p) (named h.0 false unnamed_is) ∙ ap (λ (o : Option ℕ). number_if o >>= run p) constant))
finish_is (Operator s) x p h = rw h (sym (bind_some (shift p (sign s))))

flush_steps : (y : Pending) (x : Begun) (p : Parser) (c : Cell) → Sees y x → grown x c ≡ None → Steps (flush p y c) x p c
flush_steps y x p c h e = over (finish p y) (λ cs. over_ahead x p c cs e ∙ ap (λ (o : Option Parser). o >>= λ q. ahead gap q (c ∷ cs)) (sym (finish_is y x p h)))
  where
    over : (o : Option Parser) → ((cs : List Cell) → ahead x p (c ∷ cs) ≡ (o >>= λ q. ahead gap q (c ∷ cs))) → Steps (o >>= λ q. start q c) x p c
    over None same = same
    over (Some q) same = moved (start q c) x gap p q c c same (start_steps q c)

word_grows : (w : List ℕ) (b : ℕ) (t u : Bool) → continues_name b ≡ t → (b == 91 && is_name w) ≡ u → grown (word w) (byte b) ≡ grown_word w t u b
word_grows w b t u e f = ap (λ (x : Bool). grown_word w x (b == 91 && is_name w) b) e ∙ ap (λ (x : Bool). grown_word w t x b) f

grown_ahead : (x : Begun) (p : Parser) (c : Cell) (cs : List Cell) (y : Begun) → grown x c ≡ Some y → ahead x p (c ∷ cs) ≡ ahead y p cs
grown_ahead x p c cs y e = ap (λ (o : Option Begun). if_begun o (λ z. tokens z cs) (finished x then if_begun (begun c) (λ z. tokens z cs) None) >>= ends p) e

and_name : (t : Bool) (w : List ℕ) → is_name w ≡ true → (t && is_name w) ≡ t
and_name true w h = h
and_name false w h = refl

and_no_name : (t : Bool) (w : List ℕ) → is_name w ≡ false → (t && is_name w) ≡ false
and_no_name true w h = h
and_no_name false w h = refl

name_steps : (text : List ℕ) (p : Parser) (b : ℕ) → is_name text ≡ true → Steps (more_name p text b) (word text) p (byte b)
name_steps text p b h = goes (continues_name b) (b == 91) refl refl
  where
    goes : (t u : Bool) → continues_name b ≡ t → (b == 91) ≡ u →
        Steps (if t then Some (Name (text ++ b ∷ []), p) else (if u then settled (shift p (indexed text)) else flush p (Name text) (byte b))) (word text) p (byte b)
    goes true u e f = (word (text ++ b ∷ []), (refl, name_more text b h e), λ cs. grown_ahead (word text) p (byte b) cs (word (text ++ b ∷ [])) (word_grows text b true u e (and_name (b == 91) text h ∙ f)))
    goes false true e f = settle_steps (shift p (indexed text)) (word text) p (byte b)
        (λ cs. grown_ahead (word text) p (byte b) cs (whole (indexed text)) (word_grows text b false true e (and_name (b == 91) text h ∙ f)) ∙ whole_ahead (indexed text) p cs)
    goes false false e f = flush_steps (Name text) (word text) p (byte b) (refl, h) (word_grows text b false false e (and_name (b == 91) text h ∙ f))

number_steps : (w : List ℕ) (digits : Digits) (p : Parser) (b : ℕ) → IsDigits w → IsNumber w digits → Small (value_of_digits digits) → Steps (more_number p digits b) (word w) p (byte b)
number_steps w digits p b d h small = goes (continues_name b) (next_digit digits b) refl refl (next_small digits b)
  where
    unnamed_is : (b == 91 && is_name w) ≡ false
    unnamed_is = and_no_name (b == 91) w (ap is_name (sym (append-nil w)) ∙ no_name_of w [] d)

    goes : (t : Bool) (o : Option Digits) → continues_name b ≡ t → next_digit digits b ≡ o → SmallDigits o →
        Steps (if t then as_number p o else flush p (Number digits) (byte b)) (word w) p (byte b)
    goes true (Some e) c n s = (
      word (w ++ b ∷ []),
      (w ++ b ∷ [], refl, digits_more w b d, number_more w b digits e h n, s),
      λ cs. grown_ahead (word w) p (byte b) cs (word (w ++ b ∷ [])) (word_grows w b true false c unnamed_is),
    )
    goes true None c n s = λ cs. grown_ahead (word w) p (byte b) cs (word (w ++ b ∷ [])) (word_grows w b true false c unnamed_is)
        ∙ dead_word cs (w ++ b ∷ []) p (λ v. unnamed p ((w ++ b ∷ []) ++ v) (no_name_of (w ++ b ∷ []) v (digits_more w b d)) (ap (λ (x : Option ℕ). number_if x >>= run p) (number_none w b digits h n v)))
    goes false o c n s = flush_steps (Number digits) (word w) p (byte b) (w, refl, d, h, small) (word_grows w b false false c unnamed_is)

operator_steps : (s : Sign) (p : Parser) (b : ℕ) → Steps (more_sign p s (longer s b) b) (operator s) p (byte b)
operator_steps s p b = goes (longer s b) refl
  where
    goes : (o : Option Sign) → longer s b ≡ o → Steps (more_sign p s o b) (operator s) p (byte b)
    goes None e = flush_steps (Operator s) (operator s) p (byte b) refl (ap operator_if e)
    goes (Some t) e = sign_steps t (operator s) p p (byte b) (λ cs. grown_ahead (operator s) p (byte b) cs (operator t) (ap operator_if e))

no_expansion : (y : Pending) (x : Begun) (n : ℕ) → Sees y x → grown x (expansion n) ≡ None
no_expansion Gap x n h = rw h refl
no_expansion (Name text) x n h = rw h.0 refl
no_expansion (Number digits) x n h = rw h.1 refl
no_expansion (Operator s) x n h = rw h refl

-- ONE CELL MORE changes nothing of what is ahead
pub steps_are : (y : Pending) (x : Begun) (p : Parser) (c : Cell) → Sees y x → Steps (step p y c) x p c
steps_are y x p (expansion n) h = flush_steps y x p (expansion n) h (no_expansion y x n h)
steps_are Gap x p (byte b) h = rw h (start_steps p (byte b))
steps_are (Name text) x p (byte b) h = rw h.0 (name_steps text p b h.1)
steps_are (Number digits) x p (byte b) h = rw h.1 (number_steps h.0 digits p b h.2 h.3 h.4)
steps_are (Operator s) x p (byte b) h = rw h (operator_steps s p b)

-- ---- joins

no_longer : (s : Sign) → longer s 92 ≡ None
unfolding longer
no_longer (Between And) = refl
no_longer (Between Or) = refl
no_longer (Between Comma) = refl
no_longer (Between (Plain op.Power)) = refl
no_longer (Between (Plain op.Times)) = refl
no_longer (Between (Plain op.Divide)) = refl
no_longer (Between (Plain op.Remainder)) = refl
no_longer (Between (Plain op.Add)) = refl
no_longer (Between (Plain op.Subtract)) = refl
no_longer (Between (Plain op.ShiftLeft)) = refl
no_longer (Between (Plain op.ShiftRight)) = refl
no_longer (Between (Plain op.Less)) = refl
no_longer (Between (Plain op.AtMost)) = refl
no_longer (Between (Plain op.Greater)) = refl
no_longer (Between (Plain op.AtLeast)) = refl
no_longer (Between (Plain op.Equal)) = refl
no_longer (Between (Plain op.Unequal)) = refl
no_longer (Between (Plain op.BitAnd)) = refl
no_longer (Between (Plain op.BitXor)) = refl
no_longer (Between (Plain op.BitOr)) = refl
no_longer (Assign (Some o)) = refl
no_longer (Assign None) = refl
no_longer Not = refl
no_longer Complement = refl
no_longer Increment = refl
no_longer Decrement = refl
no_longer Question = refl
no_longer Colon = refl
no_longer Open = refl
no_longer Close = refl
no_longer EndIndex = refl

backslash_begins : begun (byte 92) ≡ None
unfolding is_gap continues_name sign_of
backslash_begins = refl

backslash_grows : (x : Begun) → grown x (byte 92) ≡ None
unfolding continues_name
backslash_grows gap = refl
backslash_grows (word w) = refl
backslash_grows (operator s) = ap operator_if (no_longer s)
backslash_grows (whole t) = refl

-- a backslash that is no join can't stand anywhere
no_backslash : (x : Begun) (p : Parser) (cs : List Cell) → ahead x p (byte 92 ∷ cs) ≡ None
no_backslash x p cs =
    over_ahead x p (byte 92) cs (backslash_grows x)
    ∙ ap (λ (f : Parser → Option Expr). (finished x >>= run p) >>= f) (fun_ext (λ q. begun_ahead 92 q cs None backslash_begins))
    ∙ bind_none (finished x >>= run p)

ends_of : (o : Option (List Token)) (p : Parser) → (o >>= ends p) ≡ ((o >>= run p) >>= accept)
ends_of None p = refl
ends_of (Some ts) p = refl

abbrev reads : Bool → Pending → Parser → List Cell → Option Expr
reads j y p cs = read_cells (reader j (y, p)) cs >>= read_end

stepped_reads : (cs ds : List Cell) (c : Cell) (x : Begun) (p : Parser) (o : Option (Pending × Parser)) → Steps o x p c → ((y : Pending) (z : Begun) (q : Parser) → Sees y z → reads false y q cs ≡ ahead z q ds) →
    ((placed o >>= λ r. read_cells r cs) >>= read_end) ≡ ahead x p (c ∷ ds)
stepped_reads cs ds c x p None h next = sym (h ds)
stepped_reads cs ds c x p (Some y) h next = next y.0 h.0 y.1 h.1 ∙ sym (h.2 ds)

-- READING CELL BY CELL is reading the tokens
pub exact : (cs : List Cell) (j : Bool) (y : Pending) (x : Begun) (p : Parser) → Sees y x → reads j y p cs ≡ ahead x p (without_joins j cs)
exact [] false y x p h = ap (λ (o : Option Parser). o >>= accept) (finish_is y x p h) ∙ sym (ends_of (finished x) p)
exact [] true y x p h = sym (no_backslash x p [])
exact (c ∷ cs) false y x p h = goes (is_byte 92 c) (exact cs true y x p h) (λ z v q k. exact cs false z v q k)
  where
    goes : (t : Bool) → reads true y p cs ≡ ahead x p (without_joins true cs) → ((z : Pending) (v : Begun) (q : Parser) → Sees z v → reads false z q cs ≡ ahead v q (without_joins false cs)) →
        (((if t then Some (reader true (y, p)) else placed (step p y c)) >>= λ q. read_cells q cs) >>= read_end) ≡ ahead x p (if t then without_joins true cs else c ∷ without_joins false cs)
    goes true joins next = joins
    goes false joins next = stepped_reads cs (without_joins false cs) c x p (step p y c) (steps_are y x p c h) next
exact (c ∷ cs) true y x p h = goes (is_byte 10 c) (exact cs false y x p h)
  where
    goes : (t : Bool) → reads false y p cs ≡ ahead x p (without_joins false cs) →
        (((if t then Some (reader false (y, p)) else None) >>= λ q. read_cells q cs) >>= read_end) ≡ ahead x p (if t then without_joins false cs else byte 92 ∷ c ∷ without_joins false cs)
    goes true next = next
    goes false next = sym (no_backslash x p (c ∷ without_joins false cs))
