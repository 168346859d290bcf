-- What comes of the cells behind what was begun, and where that is nothing.
use Rattle.std.proofs.Common.{◌≡◌, ℕ, Bool, true, false, List, [], ◌∷◌, ◌++◌, Option, Some, None, refl, sym, ap, subst, ◌∙◌, append_assoc}
use Rattle.std.specs.Prelude.{◌==◌, if◌then◌else◌, ◌&&◌}
use Rattle.std.proofs.Math.Path.{fun_ext}
use Rattle.std.proofs.lemmas.List.{append-nil}
use Rattle.span_text.specs.declared.expr.BinOp.TheVariants as op
use Rattle.span_text.specs.declared.expr.Expr.{Expr}
use Rattle.span_text.specs.declared.sign.Infix.TheVariants.{Plain, And, Or, Comma}
use Rattle.span_text.specs.declared.sign.Sign.{Sign}
use Rattle.span_text.specs.declared.sign.Sign.TheVariants.{Between, Assign, Not, Complement, Increment, Decrement, Question, Colon, Open, Close, EndIndex}
use Rattle.span_text.specs.Constant.{unsigned_constant}
use Rattle.span_text.specs.Names.{is_name, begins_name, continues_name}
use Rattle.span_text.specs.ExprTokens.{Cell, byte, expansion, Token, number, name, indexed, sign, longer, Begun, gap, word, operator, whole, operator_if, begun, grown, greatest, number_if, finished, ◌then◌, if_begun, tokens}
use Rattle.arith64.specs.declared.frames.Frame.{Frame}
use Rattle.arith64.specs.declared.frames.Slot.{Slot}
use Rattle.arith64.specs.declared.frames.Slot.TheVariants.{Wanted, Stepping, Held}
use Rattle.arith64.specs.declared.frames.Parser.{Parser}
use Rattle.arith64.specs.Parsing.{◌>>=◌, prefix_at, shift, run, accept}
use Rattle.arith64.specs.Reader.{may_grow, is_prefix, opens, wants_operand, wants_variable}

-- ---- options and runs

pub bind_none : {A B : Type 0} (o : Option A) → ◌>>=◌ {A = A} {B = B} o (λ x. None) ≡ None
bind_none (Some x) = refl
bind_none None = refl

pub bind_some : {A : Type 0} (o : Option A) → (o >>= λ x. Some x) ≡ o
bind_some (Some x) = refl
bind_some None = refl

pub then_nil : (o : Option (List Token)) → (Some [] then o) ≡ o
then_nil None = refl
then_nil (Some ts) = refl

abbrev pub ends : Parser → List Token → Option Expr
ends p ts = run p ts >>= accept

pub step_append : (o : Option Parser) (ts us : List Token) → ((q : Parser) → ends q (ts ++ us) ≡ (run q ts >>= λ x. ends x us)) → ((o >>= λ q. run q (ts ++ us)) >>= accept) ≡ ((o >>= λ q. run q ts) >>= λ x. ends x us)
step_append None ts us h = refl
step_append (Some q) ts us h = h q

pub ends_append : (ts us : List Token) (p : Parser) → ends p (ts ++ us) ≡ (run p ts >>= λ q. ends q us)
ends_append [] us p = refl
ends_append (t ∷ ts) us p = step_append (shift p t) ts us (λ q. ends_append ts us q)

-- tokens and then tokens
pub then_ends : (a b : Option (List Token)) (p : Parser) → ((a then b) >>= ends p) ≡ ((a >>= run p) >>= λ q. b >>= ends q)
then_ends None b p = refl
then_ends (Some ts) None p = sym (bind_none (run p ts))
then_ends (Some ts) (Some us) p = ends_append ts us p

-- what comes of cells behind what was begun
abbrev pub ahead : Begun → Parser → List Cell → Option Expr
ahead x p cs = tokens x cs >>= ends p

-- behind a token that nothing makes longer
pub whole_tokens : (t : Token) (cs : List Cell) → tokens (whole t) cs ≡ (Some (t ∷ []) then tokens gap cs)
whole_tokens t [] = refl
whole_tokens t (c ∷ cs) = ap (λ (o : Option (List Token)). Some (t ∷ []) then o) (sym (then_nil (if_begun (begun c) (λ y. tokens y cs) None)))

pub one_then : (t : Token) (o : Option (List Token)) (p : Parser) → ((Some (t ∷ []) then o) >>= ends p) ≡ (shift p t >>= λ q. o >>= ends q)
one_then t o p = then_ends (Some (t ∷ [])) o p ∙ ap (λ (r : Option Parser). r >>= λ q. o >>= ends q) (bind_some (shift p t))

pub whole_ahead : (t : Token) (p : Parser) (cs : List Cell) → ahead (whole t) p cs ≡ (shift p t >>= λ q. ahead gap q cs)
whole_ahead t p cs = ap (λ (o : Option (List Token)). o >>= ends p) (whole_tokens t cs) ∙ one_then t (tokens gap cs) p

pub gap_ahead : (p : Parser) (c : Cell) (cs : List Cell) → ahead gap p (c ∷ cs) ≡ (if_begun (begun c) (λ y. tokens y cs) None >>= ends p)
gap_ahead p c cs = ap (λ (o : Option (List Token)). o >>= ends p) (then_nil (if_begun (begun c) (λ y. tokens y cs) None))

-- what was begun is over before this cell
pub over_ahead : (x : Begun) (p : Parser) (c : Cell) (cs : List Cell) → grown x c ≡ None → ahead x p (c ∷ cs) ≡ ((finished x >>= run p) >>= λ q. ahead gap q (c ∷ cs))
over_ahead x p c cs e =
    ap (λ (o : Option Begun). if_begun o (λ y. tokens y cs) (finished x then if_begun (begun c) (λ y. tokens y cs) None) >>= ends p) e
    ∙ then_ends (finished x) (if_begun (begun c) (λ y. tokens y cs) None) p
    ∙ ap (λ (f : Parser → Option Expr). (finished x >>= run p) >>= f) (fun_ext (λ q. sym (gap_ahead q c cs)))

-- ---- signs that nothing makes longer

pub final_longer : (s : Sign) (b : ℕ) → may_grow s ≡ false → longer s b ≡ None
unfolding longer
final_longer (Between And) b e = refl
final_longer (Between Or) b e = refl
final_longer (Between Comma) b e = refl
final_longer (Between (Plain op.Power)) b e = refl
final_longer (Between (Plain op.AtMost)) b e = refl
final_longer (Between (Plain op.AtLeast)) b e = refl
final_longer (Between (Plain op.Equal)) b e = refl
final_longer (Between (Plain op.Unequal)) b e = refl
final_longer (Between (Plain o)) b e = absurd cc
final_longer (Assign (Some o)) b e = refl
final_longer (Assign None) b e = absurd cc
final_longer Not b e = absurd cc
final_longer Complement b e = refl
final_longer Increment b e = refl
final_longer Decrement b e = refl
final_longer Question b e = refl
final_longer Colon b e = refl
final_longer Open b e = refl
final_longer Close b e = refl
final_longer EndIndex b e = refl

pub final_grown : (s : Sign) (c : Cell) → may_grow s ≡ false → grown (operator s) c ≡ None
final_grown s (expansion n) e = refl
final_grown s (byte b) e = ap operator_if (final_longer s b e)

pub final_tokens : (s : Sign) (cs : List Cell) → may_grow s ≡ false → tokens (operator s) cs ≡ (Some (sign s ∷ []) then tokens gap cs)
final_tokens s [] e = refl
final_tokens s (c ∷ cs) e =
    ap (λ (o : Option Begun). if_begun o (λ y. tokens y cs) (Some (sign s ∷ []) then if_begun (begun c) (λ y. tokens y cs) None)) (final_grown s c e)
    ∙ ap (λ (o : Option (List Token)). Some (sign s ∷ []) then o) (sym (then_nil (if_begun (begun c) (λ y. tokens y cs) None)))

pub final_ahead : (s : Sign) (p : Parser) (cs : List Cell) → may_grow s ≡ false → ahead (operator s) p cs ≡ (shift p (sign s) >>= λ q. ahead gap q cs)
final_ahead s p cs e = ap (λ (o : Option (List Token)). o >>= ends p) (final_tokens s cs e) ∙ one_then (sign s) (tokens gap cs) p

-- ---- signs that can't stand here, whatever they become

abbrev pub IfSign : (Sign → Type 0) → Option Sign → Type 0
IfSign P None = Unit {0}
IfSign P (Some s) = P s

-- a sign and all that it becomes are refused
pub dead_sign : (P : Sign → Type 0) (p : Parser) → ((s : Sign) → P s → shift p (sign s) ≡ None) → ((s : Sign) (b : ℕ) → P s → IfSign P (longer s b)) → (cs : List Cell) (s : Sign) → P s → ahead (operator s) p cs ≡ None
dead_sign P p refuses closed [] s h = ap (λ (o : Option Parser). (o >>= λ q. Some q) >>= accept) (refuses s h)
dead_sign P p refuses closed (expansion n ∷ cs) s h = over_ahead (operator s) p (expansion n) cs refl ∙ ap (λ (o : Option Parser). (o >>= λ q. Some q) >>= λ q. ahead gap q (expansion n ∷ cs)) (refuses s h)
dead_sign P p refuses closed (byte b ∷ cs) s h = becomes (longer s b) refl (closed s b h) (λ t k. dead_sign P p refuses closed cs t k)
  where
    becomes : (o : Option Sign) → longer s b ≡ o → IfSign P o → ((t : Sign) → P t → ahead (operator t) p cs ≡ None) → ahead (operator s) p (byte b ∷ cs) ≡ None
    becomes None e k next = over_ahead (operator s) p (byte b) cs (ap operator_if e) ∙ ap (λ (o : Option Parser). (o >>= λ q. Some q) >>= λ q. ahead gap q (byte b ∷ cs)) (refuses s h)
    becomes (Some t) e k next =
        ap (λ (o : Option Sign). if_begun (operator_if o) (λ y. tokens y cs) (Some (sign s ∷ []) then if_begun (begun (byte b)) (λ y. tokens y cs) None) >>= ends p) e
        ∙ next t k

-- the signs that stand before no operand
abbrev pub is_refused : Sign → Bool
is_refused (Between (Plain op.Add)) = false
is_refused (Between (Plain op.Subtract)) = false
is_refused Not = false
is_refused Complement = false
is_refused Increment = false
is_refused Decrement = false
is_refused Open = false
is_refused s = true

abbrev pub IsRefused : Sign → Type 0
IsRefused s = is_refused s ≡ true

pub refused_prefix : (fs : List Frame) (s : Sign) → IsRefused s → prefix_at fs s ≡ None
refused_prefix fs (Between And) e = refl
refused_prefix fs (Between Or) e = refl
refused_prefix fs (Between Comma) e = refl
refused_prefix fs (Between (Plain op.Add)) e = absurd cc
refused_prefix fs (Between (Plain op.Subtract)) e = absurd cc
refused_prefix fs (Between (Plain o)) e = refl
refused_prefix fs (Assign o) e = refl
refused_prefix fs Not e = absurd cc
refused_prefix fs Complement e = absurd cc
refused_prefix fs Increment e = absurd cc
refused_prefix fs Decrement e = absurd cc
refused_prefix fs Question e = refl
refused_prefix fs Colon e = refl
refused_prefix fs Open e = absurd cc
refused_prefix fs Close e = refl
refused_prefix fs EndIndex e = refl

pub if_one : (t : Bool) (a : Sign) → IsRefused a → IfSign IsRefused (if t then Some a else None)
if_one true a h = h
if_one false a h = tt

pub if_two : (t u : Bool) (a b : Sign) → IsRefused a → IsRefused b → IfSign IsRefused (if t then Some a else (if u then Some b else None))
if_two true u a b h k = h
if_two false u a b h k = if_one u b k

pub closed_refused : (s : Sign) (b : ℕ) → IsRefused s → IfSign IsRefused (longer s b)
unfolding longer
closed_refused (Between And) b e = tt
closed_refused (Between Or) b e = tt
closed_refused (Between Comma) b e = tt
closed_refused (Between (Plain op.Add)) b e = absurd cc
closed_refused (Between (Plain op.Subtract)) b e = absurd cc
closed_refused (Between (Plain op.Times)) b e = if_two (b == 42) (b == 61) (Between (Plain op.Power)) (Assign (Some op.Times)) refl refl
closed_refused (Between (Plain op.Divide)) b e = if_one (b == 61) (Assign (Some op.Divide)) refl
closed_refused (Between (Plain op.Remainder)) b e = if_one (b == 61) (Assign (Some op.Remainder)) refl
closed_refused (Between (Plain op.Less)) b e = if_two (b == 60) (b == 61) (Between (Plain op.ShiftLeft)) (Between (Plain op.AtMost)) refl refl
closed_refused (Between (Plain op.Greater)) b e = if_two (b == 62) (b == 61) (Between (Plain op.ShiftRight)) (Between (Plain op.AtLeast)) refl refl
closed_refused (Between (Plain op.ShiftLeft)) b e = if_one (b == 61) (Assign (Some op.ShiftLeft)) refl
closed_refused (Between (Plain op.ShiftRight)) b e = if_one (b == 61) (Assign (Some op.ShiftRight)) refl
closed_refused (Between (Plain op.BitAnd)) b e = if_two (b == 38) (b == 61) (Between And) (Assign (Some op.BitAnd)) refl refl
closed_refused (Between (Plain op.BitXor)) b e = if_one (b == 61) (Assign (Some op.BitXor)) refl
closed_refused (Between (Plain op.BitOr)) b e = if_two (b == 124) (b == 61) (Between Or) (Assign (Some op.BitOr)) refl refl
closed_refused (Between (Plain o)) b e = tt
closed_refused (Assign None) b e = if_one (b == 61) (Between (Plain op.Equal)) refl
closed_refused (Assign (Some o)) b e = tt
closed_refused Not b e = absurd cc
closed_refused Complement b e = absurd cc
closed_refused Increment b e = absurd cc
closed_refused Decrement b e = absurd cc
closed_refused Question b e = tt
closed_refused Colon b e = tt
closed_refused Open b e = absurd cc
closed_refused Close b e = tt
closed_refused EndIndex b e = tt

pub not_prefix : (s : Sign) → may_grow s ≡ true → is_prefix s ≡ false → IsRefused s
not_prefix (Between And) g e = refl
not_prefix (Between Or) g e = refl
not_prefix (Between Comma) g e = refl
not_prefix (Between (Plain op.Add)) g e = absurd cc
not_prefix (Between (Plain op.Subtract)) g e = absurd cc
not_prefix (Between (Plain o)) g e = refl
not_prefix (Assign o) g e = refl
not_prefix Not g e = absurd cc
not_prefix Complement g e = absurd cc
not_prefix Increment g e = absurd cc
not_prefix Decrement g e = absurd cc
not_prefix Question g e = refl
not_prefix Colon g e = refl
not_prefix Open g e = absurd cc
not_prefix Close g e = refl
not_prefix EndIndex g e = refl

pub any_sign : (o : Option Sign) → IfSign (λ s. Unit {0}) o
any_sign None = tt
any_sign (Some s) = tt

pub closed_sign : (fs : List Frame) (slot : Slot) (s : Sign) (cs : List Cell) → may_grow s ≡ true → opens slot s ≡ false → ahead (operator s) (record { frames = fs; slot = slot }) cs ≡ None
closed_sign fs Wanted s cs g e = dead_sign IsRefused (record { frames = fs; slot = Wanted }) (λ t h. refused_prefix fs t h) closed_refused cs s (not_prefix s g e)
closed_sign fs (Stepping o) s cs g e = dead_sign (λ t. Unit {0}) (record { frames = fs; slot = Stepping o }) (λ t h. refl) (λ t b h. any_sign (longer t b)) cs s tt
closed_sign fs (Held a bare) s cs g e = absurd cc

-- ---- words that can't stand here

-- this word can't stand here
pub record Refused (p : Parser) (w : List ℕ) : Type 0 where
  pub over : (finished (word w) >>= run p) ≡ None
  pub index : is_name w ≡ true → shift p (indexed w) ≡ None

pub here : (w : List ℕ) (p : Parser) → ((v : List ℕ) → Refused p (w ++ v)) → Refused p w
here w p h = subst (Refused p) (append-nil w) (h [])

pub further : (w : List ℕ) (b : ℕ) (p : Parser) → ((v : List ℕ) → Refused p (w ++ v)) → (v : List ℕ) → Refused p ((w ++ b ∷ []) ++ v)
further w b p h v = subst (Refused p) (sym (append_assoc w (b ∷ []) v)) (h (b ∷ v))

pub over_none : (w : List ℕ) (p : Parser) (c : Cell) (cs : List Cell) → grown (word w) c ≡ None → Refused p w → ahead (word w) p (c ∷ cs) ≡ None
over_none w p c cs e h = over_ahead (word w) p c cs e ∙ ap (λ (o : Option Parser). o >>= λ q. ahead gap q (c ∷ cs)) h.over

abbrev pub grown_word : List ℕ → Bool → Bool → ℕ → Option Begun
grown_word w t u b = if t then Some (word (w ++ b ∷ [])) else (if u then Some (whole (indexed w)) else None)

abbrev pub behind_word : List ℕ → Parser → ℕ → List Cell → Option Begun → Option Expr
behind_word w p b cs o = if_begun o (λ y. tokens y cs) (finished (word w) then if_begun (begun (byte b)) (λ y. tokens y cs) None) >>= ends p

pub two_trues : (x y : Bool) → (x && y) ≡ true → y ≡ true
two_trues true y e = e
two_trues false y e = absurd cc

-- a word and all that it becomes are refused
pub dead_word : (cs : List Cell) (w : List ℕ) (p : Parser) → ((v : List ℕ) → Refused p (w ++ v)) → ahead (word w) p cs ≡ None
dead_word [] w p h = lemma (finished (word w)) (here w p h).over
  where
    lemma : (o : Option (List Token)) → (o >>= run p) ≡ None → (o >>= ends p) ≡ None
    lemma None e = refl
    lemma (Some ts) e = ap (λ (r : Option Parser). r >>= accept) e
dead_word (expansion n ∷ cs) w p h = over_none w p (expansion n) cs refl (here w p h)
dead_word (byte b ∷ cs) w p h = becomes (continues_name b) (b == 91 && is_name w) refl refl (dead_word cs (w ++ b ∷ []) p (further w b p h))
  where
    becomes : (t u : Bool) → continues_name b ≡ t → (b == 91 && is_name w) ≡ u → ahead (word (w ++ b ∷ [])) p cs ≡ None → ahead (word w) p (byte b ∷ cs) ≡ None
    becomes true u e f next = ap (λ (t : Bool). behind_word w p b cs (grown_word w t (b == 91 && is_name w) b)) e ∙ next
    becomes false true e f next =
        ap (λ (t : Bool). behind_word w p b cs (grown_word w t (b == 91 && is_name w) b)) e
        ∙ ap (λ (u : Bool). behind_word w p b cs (grown_word w false u b)) f
        ∙ whole_ahead (indexed w) p cs
        ∙ ap (λ (o : Option Parser). o >>= λ q. ahead gap q cs) ((here w p h).index (two_trues (b == 91) (is_name w) f))
    becomes false false e f next =
        over_none w p (byte b) cs (ap (λ (t : Bool). grown_word w t (b == 91 && is_name w) b) e ∙ ap (λ (u : Bool). grown_word w false u b) f) (here w p h)

pub number_none_at : (p : Parser) → ((n : ℕ) → shift p (number n) ≡ None) → (o : Option ℕ) → (number_if o >>= run p) ≡ None
number_none_at p h None = refl
number_none_at p h (Some n) = ap (λ (o : Option Parser). o >>= λ q. Some q) (h n)

-- where an operand came no word can stand
pub closed_words : (fs : List Frame) (slot : Slot) (w : List ℕ) → wants_variable slot ≡ false → Refused (record { frames = fs; slot = slot }) w
closed_words fs Wanted w e = absurd cc
closed_words fs (Stepping o) w e = absurd cc
closed_words fs (Held a bare) w e = record { over = at (is_name w); index = λ k. refl }
  where
    at : (t : Bool) → ((if t then Some (name w ∷ []) else number_if (unsigned_constant greatest w)) >>= run (record { frames = fs; slot = Held a bare })) ≡ None
    at true = refl
    at false = number_none_at (record { frames = fs; slot = Held a bare }) (λ n. refl) (unsigned_constant greatest w)

pub closed_number : (fs : List Frame) (slot : Slot) (n : ℕ) → wants_operand slot ≡ false → shift (record { frames = fs; slot = slot }) (number n) ≡ None
closed_number fs Wanted n e = absurd cc
closed_number fs (Stepping o) n e = refl
closed_number fs (Held a bare) n e = refl

pub unnamed : (p : Parser) (w : List ℕ) → is_name w ≡ false → (number_if (unsigned_constant greatest w) >>= run p) ≡ None → Refused p w
unnamed p w e h = record {
  over = ap (λ (t : Bool). (if t then Some (name w ∷ []) else number_if (unsigned_constant greatest w)) >>= run p) e ∙ h;
  index = λ k. absurd (differ k);
}
  where
    differ : is_name w ≡ true → ⊥
    differ k = cc

-- a word that begins with a digit is no name
pub no_name : (d : ℕ) (v : List ℕ) → begins_name d ≡ false → is_name (d ∷ v) ≡ false
no_name d v e = rw e refl
