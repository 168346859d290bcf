-- The tokens of an arithmetic expansion's cells: parentheses, operands and names as the cells have them.
use Rattle.std.proofs.Common.{◌≡◌, ℕ, zero, suc, Bool, true, false, cond, List, [], ◌∷◌, ◌++◌, Option, Some, None, ◌⊎◌, inl, inr, refl, sym, ap, subst, ◌∙◌, append_assoc, append-nil, arith}
use Rattle.std.specs.Prelude.{◌&&◌, ◌==◌, nat_le, nat_lt}
use Rattle.std.specs.List.{list_all}
use Rattle.std.proofs.lemmas.Bool.{false≢true, true≢false}
use Rattle.span_text.specs.Names.{is_name, continues_name}
use Rattle.span_text.specs.Constant.{number_of, radix_of, digits_of, unsigned_constant}
use Rattle.span_text.specs.ExprTokens.{Cell, byte, expansion, is_byte, without_joins, Token, number, name, sign, sign_of, longer, Begun, gap, word, operator, whole, operator_if, is_gap, begun, grown, greatest, number_if, finished, ◌then◌, if_begun, tokens}
use Rattle.span_text.specs.declared.expr.BinOp.TheVariants as op
use Rattle.span_text.specs.declared.sign.Infix.TheVariants as infixes
use Rattle.span_text.specs.declared.sign.Sign.{Sign}
use Rattle.span_text.specs.declared.sign.Sign.TheVariants.{Between, Assign, Not}
use Rattle.sh_grammar.proofs.Tools.{If, chosen_by, if_some}
use Rattle.sh_grammar.specs.Steps.{limit}
use Rattle.sh_printing.proofs.BackBytes.{both}
use Rattle.sh_printing.proofs.ExactTokens.{SignTakes, Takes, Flow}

-- ---- cells in their order

-- a byte from so deep to so deep: a parenthesis, or another
abbrev pub ByteTakes : ℕ → ℕ → ℕ → Type 0
ByteTakes d b e = ((b ≡ 40) × (nat_lt d limit ≡ true) × (e ≡ suc d)) ⊎ (((b ≡ 41) × (d ≡ suc e)) ⊎ (((b == 40) ≡ false) × ((b == 41) ≡ false) × (d ≡ e)))

abbrev pub CellTakes : (ℕ → ℕ → Bool) → ℕ → ℕ → Cell → ℕ → ℕ → Type 0
CellTakes check d n (byte b) e k = ByteTakes d b e × (n ≡ k)
CellTakes check d n (expansion m) e k = (m ≡ n) × (check m d ≡ true) × (d ≡ e) × (k ≡ suc n)

abbrev pub Cells : (ℕ → ℕ → Bool) → ℕ → ℕ → ℕ → ℕ → List Cell → Type 0
Cells check to many d n [] = (d ≡ to) × (n ≡ many)
Cells check to many d n (c ∷ cs) = (e : ℕ) × (k : ℕ) × CellTakes check d n c e k × Cells check to many e k cs

moved : (check : ℕ → ℕ → Bool) (to many d e n k : ℕ) (cs : List Cell) → d ≡ e → n ≡ k → Cells check to many e k cs → Cells check to many d n cs
moved check to many d e n k cs h g f = subst (λ (z : ℕ). Cells check to many z n cs) (sym h) (subst (λ (z : ℕ). Cells check to many e z cs) (sym g) f)

-- ---- without joins

slash_first : (check : ℕ → ℕ → Bool) (to many d n : ℕ) (cs : List Cell) → Cells check to many d n cs → Cells check to many d n (byte 92 ∷ cs)
slash_first check to many d n cs h = (d, n, (inr (inr (refl, refl, refl)), refl), h)

plain_byte : (d b e : ℕ) → (b == 40) ≡ false → (b == 41) ≡ false → ByteTakes d b e → d ≡ e
plain_byte d b e n m (inl h) = absurd (true≢false (sym (ap (λ (z : ℕ). z == 40) h.0) ∙ n))
plain_byte d b e n m (inr (inl h)) = absurd (true≢false (sym (ap (λ (z : ℕ). z == 41) h.0) ∙ m))
plain_byte d b e n m (inr (inr h)) = h.2

behind_byte : (check : ℕ → ℕ → Bool) (to many d n b k : ℕ) (c : Cell) (cs : List Cell) → is_byte b c ≡ true → (b == 40) ≡ false → (b == 41) ≡ false → Cells check to many d n (c ∷ cs) → Cells check to many d n cs
behind_byte check to many d n b k (expansion m) cs e p q h = absurd (false≢true e)
behind_byte check to many d n b k (byte x) cs e p q h =
    let is : x ≡ b = Rattle.std.proofs.Common.eqb-true x b e in
    moved check to many d h.0 n h.1 cs (plain_byte d x h.0 (ap (λ (z : ℕ). z == 40) is ∙ p) (ap (λ (z : ℕ). z == 41) is ∙ q) h.2.0) h.2.1 h.3

without : (check : ℕ → ℕ → Bool) (to many d n : ℕ) (q : Bool) (cs : List Cell) → Cells check to many d n cs → Cells check to many d n (without_joins q cs)
without check to many d n false [] h = h
without check to many d n true [] h = slash_first check to many d n [] h
without check to many d n false (c ∷ cs) h =
    chosen_by (Cells check to many d n) (is_byte 92 c) (without_joins true cs) (c ∷ without_joins false cs)
    (λ e. without check to many d n true cs (behind_byte check to many d n 92 n c cs e refl refl h)) (λ e. (h.0, h.1, h.2, without check to many h.0 h.1 false cs h.3))
without check to many d n true (c ∷ cs) h =
    chosen_by (Cells check to many d n) (is_byte 10 c) (without_joins false cs) (byte 92 ∷ c ∷ without_joins false cs)
    (λ e. without check to many d n false cs (behind_byte check to many d n 10 n c cs e refl refl h))
    (λ e. slash_first check to many d n (c ∷ without_joins false cs) (h.0, h.1, h.2, without check to many h.0 h.1 false cs h.3))

-- ---- what was begun

abbrev Pending : (ℕ → ℕ → Bool) → ℕ → ℕ → Begun → ℕ → ℕ → Type 0
Pending check d n gap e k = (d ≡ e) × (n ≡ k)
Pending check d n (word w) e k = (d ≡ e) × (n ≡ k)
Pending check d n (operator s) e k = Takes check d n (sign s) e k
Pending check d n (whole t) e k = Takes check d n t e k

constant_if : (a : Bool) (v : ℕ) → If (λ (z : ℕ). nat_le z greatest ≡ true) (cond (a && nat_le v greatest) (Some v) None)
constant_if a v = chosen_by (If (λ (z : ℕ). nat_le z greatest ≡ true)) (a && nat_le v greatest) (Some v) None (λ e. (both a (nat_le v greatest) e).1) (λ e. tt)

constant_fits : (r m : ℕ) (ds : List ℕ) → number_of greatest r ds ≡ Some m → nat_le m greatest ≡ true
unfolding number_of
constant_fits r m [] e = absurd cc
constant_fits r m (x ∷ xs) e = if_some (λ (z : ℕ). nat_le z greatest ≡ true) _ m e (constant_if (list_all (λ b. Rattle.std.specs.Char.is_digit b r) (x ∷ xs)) (Rattle.std.specs.Str.Parse.digits_value r (x ∷ xs)))

some_is : (x y : List Token) → Some x ≡ Some y → x ≡ y
some_is x y e = cc

flow_moved : (check : ℕ → ℕ → Bool) (to many d e n k : ℕ) (ts : List Token) → d ≡ e → n ≡ k → Flow check to many e k ts → Flow check to many d n ts
flow_moved check to many d e n k ts h g f = subst (λ (z : ℕ). Flow check to many z n ts) (sym h) (subst (λ (z : ℕ). Flow check to many e z ts) (sym g) f)

word_flow : (check : ℕ → ℕ → Bool) (to many d n : ℕ) (w : List ℕ) (ts us : List Token) (p : Bool) (o : Option ℕ) → is_name w ≡ p → unsigned_constant greatest w ≡ o → cond p (Some (name w ∷ [])) (number_if o) ≡ Some ts → Flow check to many d n us → Flow check to many d n (ts ++ us)
word_flow check to many d n w ts us true o i j e f = subst (λ (z : List Token). Flow check to many d n (z ++ us)) (some_is (name w ∷ []) ts e) (d, n, (i, refl, refl), f)
word_flow check to many d n w ts us false None i j e f = absurd cc
word_flow check to many d n w ts us false (Some m) i j e f = subst (λ (z : List Token). Flow check to many d n (z ++ us)) (some_is (number m ∷ []) ts e) (d, n, (constant_fits (radix_of w) m (digits_of w) j, refl, refl), f)

done_word : (check : ℕ → ℕ → Bool) (to many d n : ℕ) (w : List ℕ) (ts us : List Token) → (cond (is_name w) (Some (name w ∷ [])) (number_if (unsigned_constant greatest w))) ≡ Some ts → Flow check to many d n us → Flow check to many d n (ts ++ us)
done_word check to many d n w ts us e f = word_flow check to many d n w ts us (is_name w) (unsigned_constant greatest w) refl refl e f

done : (check : ℕ → ℕ → Bool) (to many d n e k : ℕ) (x : Begun) (ts us : List Token) → finished x ≡ Some ts → Pending check d n x e k → Flow check to many e k us → Flow check to many d n (ts ++ us)
done check to many d n e k gap ts us h p f = subst (λ (z : List Token). Flow check to many d n (z ++ us)) (some_is [] ts h) (flow_moved check to many d e n k us p.0 p.1 f)
done check to many d n e k (whole t) ts us h p f = subst (λ (z : List Token). Flow check to many d n (z ++ us)) (some_is (t ∷ []) ts h) (e, k, p, f)
done check to many d n e k (operator s) ts us h p f = subst (λ (z : List Token). Flow check to many d n (z ++ us)) (some_is (sign s ∷ []) ts h) (e, k, p, f)
done check to many d n e k (word w) ts us h p f = done_word check to many d n w ts us h (flow_moved check to many d e n k us p.0 p.1 f)

-- ---- signs

abbrev Plainly : ℕ → ℕ → Sign → Type 0
Plainly d e s = SignTakes d s e

on_none : (P : Sign → Type 0) (b k : ℕ) (s : Sign) (o : Option Sign) → P s → If P o → If P (cond (b == k) (Some s) o)
on_none P b k s o h i = chosen_by (If P) (b == k) (Some s) o (λ e. h) (λ e. i)

longer_takes : (d e : ℕ) (s : Sign) (b : ℕ) → SignTakes d s e → If (λ (z : Sign). SignTakes d z e) (longer s b)
unfolding longer
longer_takes d e (Between (infixes.Plain op.Add)) b h = on_none (Plainly d e) b 43 _ _ h (on_none (Plainly d e) b 61 _ _ (refl, h) tt)
longer_takes d e (Between (infixes.Plain op.Subtract)) b h = on_none (Plainly d e) b 45 _ _ h (on_none (Plainly d e) b 61 _ _ (refl, h) tt)
longer_takes d e (Between (infixes.Plain op.Times)) b h = on_none (Plainly d e) b 42 _ _ h (on_none (Plainly d e) b 61 _ _ (refl, h) tt)
longer_takes d e (Between (infixes.Plain op.Divide)) b h = on_none (Plainly d e) b 61 _ _ (refl, h) tt
longer_takes d e (Between (infixes.Plain op.Remainder)) b h = on_none (Plainly d e) b 61 _ _ (refl, h) tt
longer_takes d e (Between (infixes.Plain op.Less)) b h = on_none (Plainly d e) b 60 _ _ h (on_none (Plainly d e) b 61 _ _ h tt)
longer_takes d e (Between (infixes.Plain op.Greater)) b h = on_none (Plainly d e) b 62 _ _ h (on_none (Plainly d e) b 61 _ _ h tt)
longer_takes d e (Between (infixes.Plain op.ShiftLeft)) b h = on_none (Plainly d e) b 61 _ _ (refl, h) tt
longer_takes d e (Between (infixes.Plain op.ShiftRight)) b h = on_none (Plainly d e) b 61 _ _ (refl, h) tt
longer_takes d e (Between (infixes.Plain op.BitAnd)) b h = on_none (Plainly d e) b 38 _ _ h (on_none (Plainly d e) b 61 _ _ (refl, h) tt)
longer_takes d e (Between (infixes.Plain op.BitXor)) b h = on_none (Plainly d e) b 61 _ _ (refl, h) tt
longer_takes d e (Between (infixes.Plain op.BitOr)) b h = on_none (Plainly d e) b 124 _ _ h (on_none (Plainly d e) b 61 _ _ (refl, h) tt)
longer_takes d e (Assign None) b h = on_none (Plainly d e) b 61 _ _ h.1 tt
longer_takes d e Not b h = on_none (Plainly d e) b 61 _ _ h tt
longer_takes d e s b h = tt

-- no sign grows by a parenthesis
longer_open : (s : Sign) → longer s 40 ≡ None
unfolding longer
longer_open (Between (infixes.Plain op.Add)) = refl
longer_open (Between (infixes.Plain op.Subtract)) = refl
longer_open (Between (infixes.Plain op.Times)) = refl
longer_open (Between (infixes.Plain op.Divide)) = refl
longer_open (Between (infixes.Plain op.Remainder)) = refl
longer_open (Between (infixes.Plain op.Less)) = refl
longer_open (Between (infixes.Plain op.Greater)) = refl
longer_open (Between (infixes.Plain op.ShiftLeft)) = refl
longer_open (Between (infixes.Plain op.ShiftRight)) = refl
longer_open (Between (infixes.Plain op.BitAnd)) = refl
longer_open (Between (infixes.Plain op.BitXor)) = refl
longer_open (Between (infixes.Plain op.BitOr)) = refl
longer_open (Assign None) = refl
longer_open Not = refl
longer_open s = refl

longer_close : (s : Sign) → longer s 41 ≡ None
unfolding longer
longer_close (Between (infixes.Plain op.Add)) = refl
longer_close (Between (infixes.Plain op.Subtract)) = refl
longer_close (Between (infixes.Plain op.Times)) = refl
longer_close (Between (infixes.Plain op.Divide)) = refl
longer_close (Between (infixes.Plain op.Remainder)) = refl
longer_close (Between (infixes.Plain op.Less)) = refl
longer_close (Between (infixes.Plain op.Greater)) = refl
longer_close (Between (infixes.Plain op.ShiftLeft)) = refl
longer_close (Between (infixes.Plain op.ShiftRight)) = refl
longer_close (Between (infixes.Plain op.BitAnd)) = refl
longer_close (Between (infixes.Plain op.BitXor)) = refl
longer_close (Between (infixes.Plain op.BitOr)) = refl
longer_close (Assign None) = refl
longer_close Not = refl
longer_close s = refl

on_open : (P : Sign → Type 0) (b k : ℕ) (s : Sign) (o : Option Sign) → ((b == k) ≡ true → P s) → If P o → If P (cond (b == k) (Some s) o)
on_open P b k s o h i = chosen_by (If P) (b == k) (Some s) o h (λ e. i)

sign_takes : (d e b : ℕ) → (b == 40) ≡ false → (b == 41) ≡ false → d ≡ e → If (λ (z : Sign). SignTakes d z e) (sign_of b)
unfolding sign_of
sign_takes d e b n m h =
    let P = Plainly d e in
    on_none P b 43 _ _ h (on_none P b 45 _ _ h (on_none P b 42 _ _ h (on_none P b 47 _ _ h (on_none P b 37 _ _ h (on_none P b 60 _ _ h
    (on_none P b 62 _ _ h (on_none P b 38 _ _ h (on_none P b 94 _ _ h (on_none P b 124 _ _ h (on_none P b 44 _ _ h (on_none P b 61 _ _ (refl, h)
    (on_none P b 33 _ _ h (on_none P b 126 _ _ h (on_none P b 63 _ _ h (on_none P b 58 _ _ h
    (on_open P b 40 _ _ (λ x. absurd (true≢false (sym x ∙ n))) (on_open P b 41 _ _ (λ x. absurd (true≢false (sym x ∙ m))) (on_none P b 93 _ _ h tt))))))))))))))))))

-- ---- cells that are read

abbrev Further : (ℕ → ℕ → Bool) → ℕ → ℕ → ℕ → ℕ → List Cell → Begun → Type 0
Further check to many d n cs y = (e : ℕ) × (k : ℕ) × Pending check d n y e k × Cells check to many e k cs

-- what is begun
begun_if : (check : ℕ → ℕ → Bool) (to many d n e k : ℕ) (cs : List Cell) (o : Option Sign) → n ≡ k → Cells check to many e k cs → If (λ (z : Sign). SignTakes d z e) o → If (Further check to many d n cs) (operator_if o)
begun_if check to many d n e k cs None h f i = tt
begun_if check to many d n e k cs (Some s) h f i = (e, k, (i, h), f)

begun_byte : (check : ℕ → ℕ → Bool) (to many d n b e k : ℕ) (cs : List Cell) → ByteTakes d b e → n ≡ k → Cells check to many e k cs → If (Further check to many d n cs) (begun (byte b))
unfolding is_gap continues_name sign_of
begun_byte check to many d n b e k cs (inl h) g f = subst (λ (z : ℕ). If (Further check to many d n cs) (begun (byte z))) (sym h.0) (e, k, ((h.1, h.2), g), f)
begun_byte check to many d n b e k cs (inr (inl h)) g f = subst (λ (z : ℕ). If (Further check to many d n cs) (begun (byte z))) (sym h.0) (e, k, (h.1, g), f)
begun_byte check to many d n b e k cs (inr (inr h)) g f =
    chosen_by (If (Further check to many d n cs)) (is_gap b) _ _ (λ x. (e, k, (h.2, g), f))
    (λ x. chosen_by (If (Further check to many d n cs)) (continues_name b) _ _ (λ y. (e, k, (h.2, g), f)) (λ y. begun_if check to many d n e k cs (sign_of b) g f (sign_takes d e b h.0 h.1 h.2)))

begins : (check : ℕ → ℕ → Bool) (to many d n : ℕ) (c : Cell) (cs : List Cell) → Cells check to many d n (c ∷ cs) → If (Further check to many d n cs) (begun c)
begins check to many d n (byte b) cs h = begun_byte check to many d n b h.0 h.1 cs h.2.0 h.2.1 h.3
begins check to many d n (expansion m) cs h = (h.0, h.1, h.2, h.3)

-- what grows

no_paren : (b : ℕ) (p : ℕ → Bool) → p 40 ≡ false → p 41 ≡ false → p b ≡ true → ((b == 40) ≡ false) × ((b == 41) ≡ false)
no_paren b p n m e = (Rattle.span_text.proofs.Bytes.apart p b 40 e n, Rattle.span_text.proofs.Bytes.apart p b 41 e m)

name_40 : continues_name 40 ≡ false
unfolding continues_name
name_40 = refl

name_41 : continues_name 41 ≡ false
unfolding continues_name
name_41 = refl

grown_operator : (check : ℕ → ℕ → Bool) (to many d n e k j l : ℕ) (s : Sign) (b : ℕ) (cs : List Cell) → Takes check d n (sign s) e k → ByteTakes e b j → k ≡ l → Cells check to many j l cs → If (Further check to many d n cs) (operator_if (longer s b))
grown_operator check to many d n e k j l s b cs p (inl h) g f = subst (λ (z : Option Sign). If (Further check to many d n cs) (operator_if z)) (sym (ap (longer s) h.0 ∙ longer_open s)) tt
grown_operator check to many d n e k j l s b cs p (inr (inl h)) g f = subst (λ (z : Option Sign). If (Further check to many d n cs) (operator_if z)) (sym (ap (longer s) h.0 ∙ longer_close s)) tt
grown_operator check to many d n e k j l s b cs p (inr (inr h)) g f =
    begun_if check to many d n j l cs (longer s b) (p.1 ∙ g) f (subst (λ (z : ℕ). If (λ (y : Sign). SignTakes d y z) (longer s b)) h.2 (longer_takes d e s b p.0))

grows : (check : ℕ → ℕ → Bool) (to many d n e k : ℕ) (x : Begun) (c : Cell) (cs : List Cell) → Pending check d n x e k → Cells check to many e k (c ∷ cs) → If (Further check to many d n cs) (grown x c)
grows check to many d n e k gap c cs p h = tt
grows check to many d n e k (whole t) c cs p h = tt
grows check to many d n e k (word w) (expansion m) cs p h = tt
grows check to many d n e k (operator s) (expansion m) cs p h = tt
grows check to many d n e k (operator s) (byte b) cs p h = grown_operator check to many d n e k h.0 h.1 s b cs p h.2.0 h.2.1 h.3
grows check to many d n e k (word w) (byte b) cs p h =
    chosen_by (If (Further check to many d n cs)) (continues_name b) _ _
    (λ y. let q = no_paren b continues_name name_40 name_41 y in (h.0, h.1, (p.0 ∙ plain_byte e b h.0 q.0 q.1 h.2.0, p.1 ∙ h.2.1), h.3))
    (λ y. chosen_by (If (Further check to many d n cs)) (b == 91 && is_name w) _ _
    (λ z. let q = no_paren b (λ v. v == 91) refl refl (both (b == 91) (is_name w) z).0 in (h.0, h.1, (p.0 ∙ plain_byte e b h.0 q.0 q.1 h.2.0, p.1 ∙ h.2.1), h.3)) (λ z. tt))

-- ---- all tokens

abbrev Lexes : (ℕ → ℕ → Bool) → ℕ → ℕ → List Cell → Type 0
Lexes check to many cs = (d n e k : ℕ) (y : Begun) (us : List Token) → Pending check d n y e k → Cells check to many e k cs → tokens y cs ≡ Some us → Flow check to many d n us

both_flow : (check : ℕ → ℕ → Bool) (to many d n e k : ℕ) (x : Begun) (cs : List Cell) (ts us : List Token) (o : Option (List Token)) → finished x ≡ Some us → Pending check d n x e k → ((Some us) then o) ≡ Some ts → ((vs : List Token) → o ≡ Some vs → Flow check to many e k vs) → Flow check to many d n ts
both_flow check to many d n e k x cs ts us None g p t i = absurd cc
both_flow check to many d n e k x cs ts us (Some vs) g p t i = subst (Flow check to many d n) (some_is (us ++ vs) ts t) (done check to many d n e k x us vs g p (i vs refl))

begun_more : (check : ℕ → ℕ → Bool) (to many d n e k : ℕ) (x : Begun) (cs : List Cell) (ts : List Token) (f : Option (List Token)) (b : Option Begun) → finished x ≡ f → If (Further check to many e k cs) b → Pending check d n x e k →
    (f then if_begun b (λ y. tokens y cs) None) ≡ Some ts → Lexes check to many cs → Flow check to many d n ts
begun_more check to many d n e k x cs ts None b g h p t i = absurd cc
begun_more check to many d n e k x cs ts (Some us) None g h p t i = absurd cc
begun_more check to many d n e k x cs ts (Some us) (Some y) g h p t i = both_flow check to many d n e k x cs ts us (tokens y cs) g p t (λ vs u. i e k h.0 h.1 y vs h.2 h.3 u)

lexed : (check : ℕ → ℕ → Bool) (to many d n e k : ℕ) (x : Begun) (c : Cell) (cs : List Cell) (ts : List Token) (g b : Option Begun) → If (Further check to many d n cs) g → If (Further check to many e k cs) b → Pending check d n x e k →
    if_begun g (λ y. tokens y cs) (finished x then if_begun b (λ y. tokens y cs) None) ≡ Some ts → Lexes check to many cs → Flow check to many d n ts
lexed check to many d n e k x c cs ts (Some y) b h f p t i = i d n h.0 h.1 y ts h.2 h.3 t
lexed check to many d n e k x c cs ts None b h f p t i = begun_more check to many d n e k x cs ts (finished x) b refl f p t i

lex : (check : ℕ → ℕ → Bool) (to many d n e k : ℕ) (x : Begun) (cs : List Cell) (ts : List Token) → Pending check d n x e k → Cells check to many e k cs → tokens x cs ≡ Some ts → Flow check to many d n ts
lex check to many d n e k x [] ts p h t = subst (Flow check to many d n) (append-nil ts) (done check to many d n e k x ts [] t p h)
lex check to many d n e k x (c ∷ cs) ts p h t =
    lexed check to many d n e k x c cs ts (grown x c) (begun c) (grows check to many d n e k x c cs p h) (begins check to many e k c cs h) p t (λ d n e k y us q f u. lex check to many d n e k y cs us q f u)

-- the tokens of cells: their parentheses, operands and names are in order
pub cells_flow : (check : ℕ → ℕ → Bool) (d many : ℕ) (cs : List Cell) (ts : List Token) → Cells check d many d 0 cs → tokens gap (without_joins false cs) ≡ Some ts → Flow check d many d 0 ts
cells_flow check d many cs ts h t = lex check d many d 0 d 0 gap (without_joins false cs) ts (refl, refl) (without check d many d 0 false cs h) t
