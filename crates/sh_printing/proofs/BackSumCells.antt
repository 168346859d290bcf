-- The expression that the cells of a form spell.
use Rattle.std.proofs.Common.{◌≡◌, ℕ, suc, ◌+◌, ◌<◌, Bool, true, false, List, [], ◌∷◌, ◌++◌, length, Option, Some, None, refl, sym, ap, subst, ◌∙◌, arith, append_assoc}
use Rattle.std.specs.Prelude.{◌&&◌, ◌||◌, not, ◌==◌, nat_le, nat_lt, codes, pos}
use Rattle.std.specs.List.{list_all}
use Rattle.std.specs.Fmt.{decimal}
use Rattle.std.proofs.lemmas.List.{append-nil}
use Rattle.std.proofs.lemmas.Bool.{leb-true, ne_eqb, false≢true, lt-ltb}
use Rattle.std.proofs.lemmas.Bool.Decides.{nat_tests}
use Rattle.span_text.specs.Names.{is_digit, continues_name, is_name}
use Rattle.span_text.specs.ExprTokens.{Cell, byte, expansion, cell_at, is_last, cells_from, cells_of, without_joins, greatest}
use Rattle.span_text.specs.declared.span.Span.{Span}
use Rattle.span_text.specs.declared.expr.UnOp.{UnOp}
use Rattle.span_text.specs.declared.expr.UnOp.TheVariants as unary
use Rattle.span_text.specs.declared.expr.BinOp.{BinOp}
use Rattle.span_text.specs.declared.expr.BinOp.TheVariants as op
use Rattle.span_text.specs.declared.expr.Expr.{Expr}
use Rattle.span_text.specs.declared.expr.Expr.TheVariants.{Constant, Name, Operand, Unary, Binary, And, Or, Choose, Assign, rolls-Constant, rolls-Name, rolls-Operand, rolls-Unary, rolls-Binary, rolls-And, rolls-Or, rolls-Choose, rolls-Assign}
use Rattle.span_text.specs.declared.expr.Expr.TheOpen as layer
use Rattle.span_text.specs.declared.expr.Expr.TheFolds.{fold-roll-Expr}
use Rattle.span_text.specs.declared.sign.Infix.{Infix}
use Rattle.span_text.specs.declared.sign.Infix.TheVariants as infixes
use Rattle.span_text.specs.Expressions.{Form, literal, expanded, variable, member, group, prefixed, stepped, between, chosen, assigned, tree, joined, Fits}
use Rattle.span_text.proofs.Bytes.{apart}
use Rattle.arith64.proofs.Complete.{reads}
use Rattle.sh_grammar.specs.Bytes.{Text}
use Rattle.sh_grammar.specs.State.{Sum}
use Rattle.sh_grammar.specs.Sums.{is_sh_expr, expression}
use Rattle.sh_printing.proofs.BackBytes.{both, isnt, neither, name_all}
use Rattle.sh_printing.proofs.BackDelimiters.{digits_all, all_by}
use Rattle.sh_printing.proofs.BackForms.{is_sh_infix, Good}
use Rattle.sh_printing.proofs.BackSumTokens.{put, infix_mark, assign_mark, unary_mark, form_cells, form_read}

-- ---- bytes of an expression

-- no parenthesis, no `$`, no backslash and no NUL
abbrev pub is_calm : ℕ → Bool
is_calm b = not (b == 40 || b == 41 || b == 0 || b == 36 || b == 92)

calm_by : (p : ℕ → Bool) → p 40 ≡ false → p 41 ≡ false → p 0 ≡ false → p 36 ≡ false → p 92 ≡ false → (b : ℕ) → p b ≡ true → is_calm b ≡ true
calm_by p e f g h i b a = rw (apart p b 40 a e, apart p b 41 a f, apart p b 0 a g, apart p b 36 a h, apart p b 92 a i) refl

pub name_calm : (t : Text) → is_name t ≡ true → list_all is_calm t ≡ true
unfolding continues_name
name_calm t e = all_by continues_name is_calm (calm_by continues_name refl refl refl refl refl) t (name_all t e)

pub decimal_calm : (m : ℕ) → nat_le m greatest ≡ true → list_all is_calm (decimal m) ≡ true
decimal_calm m e = let le = leb-true m greatest e in all_by is_digit is_calm (calm_by is_digit refl refl refl refl refl) (decimal m) (digits_all m (omega arith))

pub infix_calm : (i : Infix) → list_all is_calm (infix_mark i) ≡ true
infix_calm infixes.And = refl
infix_calm infixes.Or = refl
infix_calm infixes.Comma = refl
infix_calm (infixes.Plain op.Power) = refl
infix_calm (infixes.Plain op.Times) = refl
infix_calm (infixes.Plain op.Divide) = refl
infix_calm (infixes.Plain op.Remainder) = refl
infix_calm (infixes.Plain op.Add) = refl
infix_calm (infixes.Plain op.Subtract) = refl
infix_calm (infixes.Plain op.ShiftLeft) = refl
infix_calm (infixes.Plain op.ShiftRight) = refl
infix_calm (infixes.Plain op.Less) = refl
infix_calm (infixes.Plain op.AtMost) = refl
infix_calm (infixes.Plain op.Greater) = refl
infix_calm (infixes.Plain op.AtLeast) = refl
infix_calm (infixes.Plain op.Equal) = refl
infix_calm (infixes.Plain op.Unequal) = refl
infix_calm (infixes.Plain op.BitAnd) = refl
infix_calm (infixes.Plain op.BitXor) = refl
infix_calm (infixes.Plain op.BitOr) = refl

pub assign_calm : (o : Option BinOp) → list_all is_calm (assign_mark o) ≡ true
assign_calm None = refl
assign_calm (Some op.Power) = refl
assign_calm (Some op.Times) = refl
assign_calm (Some op.Divide) = refl
assign_calm (Some op.Remainder) = refl
assign_calm (Some op.Add) = refl
assign_calm (Some op.Subtract) = refl
assign_calm (Some op.ShiftLeft) = refl
assign_calm (Some op.ShiftRight) = refl
assign_calm (Some op.Less) = refl
assign_calm (Some op.AtMost) = refl
assign_calm (Some op.Greater) = refl
assign_calm (Some op.AtLeast) = refl
assign_calm (Some op.Equal) = refl
assign_calm (Some op.Unequal) = refl
assign_calm (Some op.BitAnd) = refl
assign_calm (Some op.BitXor) = refl
assign_calm (Some op.BitOr) = refl

pub unary_calm : (o : UnOp) → list_all is_calm (unary_mark o) ≡ true
unary_calm unary.Plus = refl
unary_calm unary.Minus = refl
unary_calm unary.Not = refl
unary_calm unary.Complement = refl

-- ---- cells as the text and the spans that were read

abbrev pub text_of : List Cell → Text
text_of [] = []
text_of (byte b ∷ cs) = b ∷ text_of cs
text_of (expansion m ∷ cs) = 36 ∷ text_of cs

abbrev pub spans_of : ℕ → List Cell → List Span
spans_of at [] = []
spans_of at (byte b ∷ cs) = spans_of (at + 1) cs
spans_of at (expansion m ∷ cs) = record { from = at; to = at + 1 } ∷ spans_of (at + 1) cs

abbrev pub sum_of : List Cell → Sum
sum_of cs = record { text = text_of cs; operands = spans_of 0 cs }

-- the operands are numbered from n on
abbrev pub Numbered : ℕ → List Cell → Type 0
Numbered n [] = Unit {0}
Numbered n (byte b ∷ cs) = Numbered n cs
Numbered n (expansion m ∷ cs) = (m ≡ n) × Numbered (suc n) cs

same_is : (m : ℕ) → (m == m) ≡ true
same_is m = grind (arith, nat_tests)

not_below : (m : ℕ) → nat_lt m m ≡ false
not_below m = grind (arith, nat_tests)

next_is : (n : ℕ) → suc n ≡ n + 1
next_is n = omega arith

behind_it : (at c n b : ℕ) (cs : List Cell) → at < c → (cell_at at n (spans_of c cs) b ≡ byte b ∷ []) × (is_last at (spans_of c cs) ≡ false)
behind_it at c n b [] lt = (refl, refl)
behind_it at c n b (byte x ∷ cs) lt = behind_it at (c + 1) n b cs (omega arith)
behind_it at c n b (expansion m ∷ cs) lt = (rw (lt-ltb at c lt) refl, ne_eqb (at + 1) (c + 1) (λ is. absurd (omega arith)))

at_itself : (at n b : ℕ) (ss : List Span) → cell_at at n (record { from = at; to = at + 1 } ∷ ss) b ≡ expansion n ∷ []
at_itself at n b ss = rw (not_below at, same_is at) refl

pub cells_back : (at n : ℕ) (cs : List Cell) → Numbered n cs → cells_from at n (spans_of at cs) (text_of cs) ≡ cs
cells_back at n [] h = refl
cells_back at n (byte b ∷ cs) h = let x = behind_it at (at + 1) n b cs (omega arith) in rw (x.0, x.1) (ap (λ (z : List Cell). byte b ∷ z) (cells_back (at + 1) n cs h))
cells_back at n (expansion m ∷ cs) h =
    rw (at_itself at n 36 (spans_of (at + 1) cs), same_is (at + 1)) (ap (λ (z : List Cell). expansion n ∷ z) (cells_back (at + 1) (n + 1) cs (subst (λ (z : ℕ). Numbered z cs) (next_is n) h.1)) ∙ ap (λ (z : ℕ). expansion z ∷ cs) (sym h.0))

-- ---- no joins

abbrev no_slash : List Cell → Bool
no_slash [] = true
no_slash (byte b ∷ cs) = not (b == 92) && no_slash cs
no_slash (expansion m ∷ cs) = no_slash cs

unjoined : (cs : List Cell) → no_slash cs ≡ true → without_joins false cs ≡ cs
unjoined [] e = refl
unjoined (byte b ∷ cs) e = let x = both (not (b == 92)) (no_slash cs) e in rw (isnt (b == 92) x.0) (ap (λ (z : List Cell). byte b ∷ z) (unjoined cs x.1))
unjoined (expansion m ∷ cs) e = ap (λ (z : List Cell). expansion m ∷ z) (unjoined cs e)

calm_slash : (b : ℕ) → is_calm b ≡ true → (b == 92) ≡ false
calm_slash b e = (neither (b == 40 || b == 41 || b == 0 || b == 36) (b == 92) (isnt (b == 40 || b == 41 || b == 0 || b == 36 || b == 92) e)).1

put_slash : (w : Text) (cs : List Cell) → list_all is_calm w ≡ true → no_slash cs ≡ true → no_slash (put w cs) ≡ true
put_slash [] cs e f = f
put_slash (b ∷ bs) cs e f = let x = both (is_calm b) (list_all is_calm bs) e in rw (calm_slash b x.0, put_slash bs cs x.1 f) refl

form_slash : (check : ℕ → ℕ → Bool) (f : Form) (d n k : ℕ) → Good check d n k f → (cs : List Cell) → no_slash cs ≡ true → no_slash (form_cells f cs) ≡ true
form_slash check (literal m) d n k g cs e = put_slash (decimal m) cs (decimal_calm m g.0) e
form_slash check (expanded m) d n k g cs e = e
form_slash check (variable text) d n k g cs e = put_slash text cs (name_calm text g.0) e
form_slash check (member text f) d n k g cs e = absurd g
form_slash check (group f) d n k g cs e = form_slash check f (suc d) n k g.1 (byte 41 ∷ cs) e
form_slash check (prefixed o f) d n k g cs e = put_slash (unary_mark o) (form_cells f cs) (unary_calm o) (form_slash check f d n k g cs e)
form_slash check (stepped o f) d n k g cs e = absurd g
form_slash check (between i f h) d n k g cs e = form_slash check f d n g.1 g.2 _ (put_slash (infix_mark i) (form_cells h cs) (infix_calm i) (form_slash check h d g.1 k g.3 cs e))
form_slash check (chosen f h p) d n k g cs e =
    form_slash check f d n g.0 g.2 _ (put_slash (codes " ? ") (form_cells h (put (codes " : ") (form_cells p cs))) refl (form_slash check h d g.0 g.1 g.3 _ (put_slash (codes " : ") (form_cells p cs) refl (form_slash check p d g.1 k g.4 cs e))))
form_slash check (assigned f o h) d n k g cs e = form_slash check f d n g.2 g.3 _ (put_slash (assign_mark o) (form_cells h cs) (assign_calm o) (form_slash check h d g.2 k g.4 cs e))

put_numbered : (w : Text) (n : ℕ) (cs : List Cell) → Numbered n cs → Numbered n (put w cs)
put_numbered [] n cs h = h
put_numbered (b ∷ bs) n cs h = put_numbered bs n cs h

form_numbered : (check : ℕ → ℕ → Bool) (f : Form) (d n k : ℕ) → Good check d n k f → (cs : List Cell) → Numbered k cs → Numbered n (form_cells f cs)
form_numbered check (literal m) d n k g cs h = put_numbered (decimal m) n cs (subst (λ (z : ℕ). Numbered z cs) (sym g.1) h)
form_numbered check (expanded m) d n k g cs h = (g.0, subst (λ (z : ℕ). Numbered z cs) g.2 h)
form_numbered check (variable text) d n k g cs h = put_numbered text n cs (subst (λ (z : ℕ). Numbered z cs) (sym g.1) h)
form_numbered check (member text f) d n k g cs h = absurd g
form_numbered check (group f) d n k g cs h = form_numbered check f (suc d) n k g.1 (byte 41 ∷ cs) h
form_numbered check (prefixed o f) d n k g cs h = put_numbered (unary_mark o) n (form_cells f cs) (form_numbered check f d n k g cs h)
form_numbered check (stepped o f) d n k g cs h = absurd g
form_numbered check (between i f p) d n k g cs h = form_numbered check f d n g.1 g.2 _ (put_numbered (infix_mark i) g.1 (form_cells p cs) (form_numbered check p d g.1 k g.3 cs h))
form_numbered check (chosen f p r) d n k g cs h =
    form_numbered check f d n g.0 g.2 _ (put_numbered (codes " ? ") g.0 (form_cells p (put (codes " : ") (form_cells r cs))) (form_numbered check p d g.0 g.1 g.3 _ (put_numbered (codes " : ") g.1 (form_cells r cs) (form_numbered check r d g.1 k g.4 cs h))))
form_numbered check (assigned f o p) d n k g cs h = form_numbered check f d n g.2 g.3 _ (put_numbered (assign_mark o) g.2 (form_cells p cs) (form_numbered check p d g.2 k g.4 cs h))

-- ---- forms of sh

pub unary_sh : (o : UnOp) (a : Expr) → is_sh_expr (Unary o a) ≡ is_sh_expr a
unfolding is_sh_expr
unary_sh o a = ap is_sh_expr (sym (rolls-Unary o a)) ∙ fold-roll-Expr Bool _ (layer.Unary o a)

pub and_sh : (a b : Expr) → is_sh_expr (And a b) ≡ (is_sh_expr a && is_sh_expr b)
unfolding is_sh_expr
and_sh a b = ap is_sh_expr (sym (rolls-And a b)) ∙ fold-roll-Expr Bool _ (layer.And a b)

pub or_sh : (a b : Expr) → is_sh_expr (Or a b) ≡ (is_sh_expr a && is_sh_expr b)
unfolding is_sh_expr
or_sh a b = ap is_sh_expr (sym (rolls-Or a b)) ∙ fold-roll-Expr Bool _ (layer.Or a b)

pub assign_sh : (a : Expr) (o : Option BinOp) (b : Expr) → is_sh_expr (Assign a o b) ≡ (is_sh_expr a && is_sh_expr b)
unfolding is_sh_expr
assign_sh a o b = ap is_sh_expr (sym (rolls-Assign a o b)) ∙ fold-roll-Expr Bool _ (layer.Assign a o b)

pub choose_sh : (a b c : Expr) → is_sh_expr (Choose a b c) ≡ (is_sh_expr a && (is_sh_expr b && is_sh_expr c))
unfolding is_sh_expr
choose_sh a b c = ap is_sh_expr (sym (rolls-Choose a b c)) ∙ fold-roll-Expr Bool _ (layer.Choose a b c)

constant_sh : (m : ℕ) → is_sh_expr (Constant (pos m)) ≡ true
unfolding is_sh_expr
constant_sh m = ap is_sh_expr (sym (rolls-Constant (pos m))) ∙ fold-roll-Expr Bool _ (layer.Constant (pos m))

name_sh : (t : Text) → is_sh_expr (Name t) ≡ true
unfolding is_sh_expr
name_sh t = ap is_sh_expr (sym (rolls-Name t)) ∙ fold-roll-Expr Bool _ (layer.Name t)

operand_sh : (m : ℕ) → is_sh_expr (Operand m) ≡ true
unfolding is_sh_expr
operand_sh m = ap is_sh_expr (sym (rolls-Operand m)) ∙ fold-roll-Expr Bool _ (layer.Operand m)

pub binary_sh : (o : BinOp) (a b : Expr) → is_sh_infix (infixes.Plain o) ≡ true → is_sh_expr (Binary o a b) ≡ (is_sh_expr a && is_sh_expr b)
unfolding is_sh_expr
binary_sh op.Power a b e = absurd (false≢true e)
binary_sh op.Times a b e = ap is_sh_expr (sym (rolls-Binary op.Times a b)) ∙ fold-roll-Expr Bool _ (layer.Binary op.Times a b)
binary_sh op.Divide a b e = ap is_sh_expr (sym (rolls-Binary op.Divide a b)) ∙ fold-roll-Expr Bool _ (layer.Binary op.Divide a b)
binary_sh op.Remainder a b e = ap is_sh_expr (sym (rolls-Binary op.Remainder a b)) ∙ fold-roll-Expr Bool _ (layer.Binary op.Remainder a b)
binary_sh op.Add a b e = ap is_sh_expr (sym (rolls-Binary op.Add a b)) ∙ fold-roll-Expr Bool _ (layer.Binary op.Add a b)
binary_sh op.Subtract a b e = ap is_sh_expr (sym (rolls-Binary op.Subtract a b)) ∙ fold-roll-Expr Bool _ (layer.Binary op.Subtract a b)
binary_sh op.ShiftLeft a b e = ap is_sh_expr (sym (rolls-Binary op.ShiftLeft a b)) ∙ fold-roll-Expr Bool _ (layer.Binary op.ShiftLeft a b)
binary_sh op.ShiftRight a b e = ap is_sh_expr (sym (rolls-Binary op.ShiftRight a b)) ∙ fold-roll-Expr Bool _ (layer.Binary op.ShiftRight a b)
binary_sh op.Less a b e = ap is_sh_expr (sym (rolls-Binary op.Less a b)) ∙ fold-roll-Expr Bool _ (layer.Binary op.Less a b)
binary_sh op.AtMost a b e = ap is_sh_expr (sym (rolls-Binary op.AtMost a b)) ∙ fold-roll-Expr Bool _ (layer.Binary op.AtMost a b)
binary_sh op.Greater a b e = ap is_sh_expr (sym (rolls-Binary op.Greater a b)) ∙ fold-roll-Expr Bool _ (layer.Binary op.Greater a b)
binary_sh op.AtLeast a b e = ap is_sh_expr (sym (rolls-Binary op.AtLeast a b)) ∙ fold-roll-Expr Bool _ (layer.Binary op.AtLeast a b)
binary_sh op.Equal a b e = ap is_sh_expr (sym (rolls-Binary op.Equal a b)) ∙ fold-roll-Expr Bool _ (layer.Binary op.Equal a b)
binary_sh op.Unequal a b e = ap is_sh_expr (sym (rolls-Binary op.Unequal a b)) ∙ fold-roll-Expr Bool _ (layer.Binary op.Unequal a b)
binary_sh op.BitAnd a b e = ap is_sh_expr (sym (rolls-Binary op.BitAnd a b)) ∙ fold-roll-Expr Bool _ (layer.Binary op.BitAnd a b)
binary_sh op.BitXor a b e = ap is_sh_expr (sym (rolls-Binary op.BitXor a b)) ∙ fold-roll-Expr Bool _ (layer.Binary op.BitXor a b)
binary_sh op.BitOr a b e = ap is_sh_expr (sym (rolls-Binary op.BitOr a b)) ∙ fold-roll-Expr Bool _ (layer.Binary op.BitOr a b)

infix_sh : (i : Infix) (a b : Expr) → is_sh_infix i ≡ true → is_sh_expr a ≡ true → is_sh_expr b ≡ true → is_sh_expr (joined i a b) ≡ true
infix_sh (infixes.Plain o) a b s e f = binary_sh o a b s ∙ rw (e, f) refl
infix_sh infixes.And a b s e f = and_sh a b ∙ rw (e, f) refl
infix_sh infixes.Or a b s e f = or_sh a b ∙ rw (e, f) refl
infix_sh infixes.Comma a b s e f = absurd (false≢true s)

form_sh : (check : ℕ → ℕ → Bool) (f : Form) (d n k : ℕ) → Good check d n k f → is_sh_expr (tree f) ≡ true
form_sh check (literal m) d n k g = constant_sh m
form_sh check (expanded m) d n k g = operand_sh m
form_sh check (variable text) d n k g = name_sh text
form_sh check (member text f) d n k g = absurd g
form_sh check (group f) d n k g = form_sh check f (suc d) n k g.1
form_sh check (prefixed o f) d n k g = unary_sh o (tree f) ∙ form_sh check f d n k g
form_sh check (stepped o f) d n k g = absurd g
form_sh check (between i f p) d n k g = infix_sh i (tree f) (tree p) g.0 (form_sh check f d n g.1 g.2) (form_sh check p d g.1 k g.3)
form_sh check (chosen f p r) d n k g = choose_sh (tree f) (tree p) (tree r) ∙ rw (form_sh check f d n g.0 g.2, form_sh check p d g.0 g.1 g.3, form_sh check r d g.1 k g.4) refl
form_sh check (assigned f o p) d n k g = assign_sh (tree f) o (tree p) ∙ rw (form_sh check f d n g.2 g.3, form_sh check p d g.2 k g.4) refl

-- THE EXPRESSION that the cells of a form spell
pub form_spells : (check : ℕ → ℕ → Bool) (f : Form) (d k : ℕ) → Good check d 0 k f → Fits 0 f → expression (sum_of (form_cells f [])) ≡ Some (tree f)
unfolding expression
form_spells check f d k g fits =
    let cells : cells_of (text_of (form_cells f [])) (spans_of 0 (form_cells f [])) ≡ form_cells f [] = cells_back 0 0 (form_cells f []) (form_numbered check f d 0 k g [] tt) in
    rw (cells, unjoined (form_cells f []) (form_slash check f d 0 k g [] refl), form_read check f d 0 k g, reads f fits, form_sh check f d 0 k g) refl

-- ---- cells behind others

-- the cells of a form behind others
abbrev pub added : List Cell → Form → List Cell
added cs (literal m) = cs ++ put (decimal m) []
added cs (expanded m) = cs ++ expansion m ∷ []
added cs (variable text) = cs ++ put text []
added cs (member text f) = cs
added cs (group f) = added (cs ++ put (40 ∷ []) []) f ++ put (41 ∷ []) []
added cs (prefixed o f) = added (cs ++ put (unary_mark o) []) f
added cs (stepped o f) = cs
added cs (between i f g) = added (added cs f ++ put (infix_mark i) []) g
added cs (chosen f g h) = added (added (added cs f ++ put (codes " ? ") []) g ++ put (codes " : ") []) h
added cs (assigned f o g) = added (added cs f ++ put (assign_mark o) []) g

put_more : (w : Text) (cs : List Cell) → put w [] ++ cs ≡ put w cs
put_more [] cs = refl
put_more (b ∷ bs) cs = ap (λ (z : List Cell). byte b ∷ z) (put_more bs cs)

chunk : (cs : List Cell) (w : Text) (es : List Cell) → (cs ++ put w []) ++ es ≡ cs ++ put w es
chunk cs w es = append_assoc cs (put w []) es ∙ ap (λ (z : List Cell). cs ++ z) (put_more w es)

added_more : (check : ℕ → ℕ → Bool) (f : Form) (d n k : ℕ) → Good check d n k f → (cs es : List Cell) → added cs f ++ es ≡ cs ++ form_cells f es
added_more check (literal m) d n k g cs es = chunk cs (decimal m) es
added_more check (expanded m) d n k g cs es = append_assoc cs (expansion m ∷ []) es
added_more check (variable text) d n k g cs es = chunk cs text es
added_more check (member text f) d n k g cs es = absurd g
added_more check (group f) d n k g cs es =
    chunk (added (cs ++ put (40 ∷ []) []) f) (41 ∷ []) es ∙ added_more check f (suc d) n k g.1 (cs ++ put (40 ∷ []) []) (byte 41 ∷ es) ∙ chunk cs (40 ∷ []) (form_cells f (byte 41 ∷ es))
added_more check (prefixed o f) d n k g cs es = added_more check f d n k g (cs ++ put (unary_mark o) []) es ∙ chunk cs (unary_mark o) (form_cells f es)
added_more check (stepped o f) d n k g cs es = absurd g
added_more check (between i f p) d n k g cs es =
    added_more check p d g.1 k g.3 (added cs f ++ put (infix_mark i) []) es ∙ chunk (added cs f) (infix_mark i) (form_cells p es) ∙ added_more check f d n g.1 g.2 cs (put (infix_mark i) (form_cells p es))
added_more check (chosen f p r) d n k g cs es =
    let x = added cs f in let y = added (x ++ put (codes " ? ") []) p in
    added_more check r d g.1 k g.4 (y ++ put (codes " : ") []) es ∙ chunk y (codes " : ") (form_cells r es)
    ∙ added_more check p d g.0 g.1 g.3 (x ++ put (codes " ? ") []) (put (codes " : ") (form_cells r es)) ∙ chunk x (codes " ? ") (form_cells p (put (codes " : ") (form_cells r es)))
    ∙ added_more check f d n g.0 g.2 cs (put (codes " ? ") (form_cells p (put (codes " : ") (form_cells r es))))
added_more check (assigned f o p) d n k g cs es =
    added_more check p d g.2 k g.4 (added cs f ++ put (assign_mark o) []) es ∙ chunk (added cs f) (assign_mark o) (form_cells p es) ∙ added_more check f d n g.2 g.3 cs (put (assign_mark o) (form_cells p es))

pub added_spells : (check : ℕ → ℕ → Bool) (f : Form) (d k : ℕ) → Good check d 0 k f → Fits 0 f → expression (sum_of (added [] f)) ≡ Some (tree f)
added_spells check f d k g fits = ap (λ (z : List Cell). expression (sum_of z)) (sym (append-nil (added [] f)) ∙ added_more check f d 0 k g [] []) ∙ form_spells check f d k g fits

-- ---- what stands behind what was read

pub text_put : (cs : List Cell) (w : Text) → text_of (cs ++ put w []) ≡ text_of cs ++ w
text_put [] [] = refl
text_put [] (b ∷ bs) = ap (λ (z : Text). b ∷ z) (text_put [] bs)
text_put (byte b ∷ cs) w = ap (λ (z : Text). b ∷ z) (text_put cs w)
text_put (expansion m ∷ cs) w = ap (λ (z : Text). 36 ∷ z) (text_put cs w)

pub spans_put : (at : ℕ) (cs : List Cell) (w : Text) → spans_of at (cs ++ put w []) ≡ spans_of at cs
spans_put at [] [] = refl
spans_put at [] (b ∷ bs) = spans_put (at + 1) [] bs
spans_put at (byte b ∷ cs) w = spans_put (at + 1) cs w
spans_put at (expansion m ∷ cs) w = ap (λ (z : List Span). record { from = at; to = at + 1 } ∷ z) (spans_put (at + 1) cs w)

text_operand : (cs : List Cell) (m : ℕ) → text_of (cs ++ expansion m ∷ []) ≡ text_of cs ++ 36 ∷ []
text_operand [] m = refl
text_operand (byte b ∷ cs) m = ap (λ (z : Text). b ∷ z) (text_operand cs m)
text_operand (expansion i ∷ cs) m = ap (λ (z : Text). 36 ∷ z) (text_operand cs m)

abbrev span_at : ℕ → Span
span_at at = record { from = at; to = at + 1 }

further : (at n : ℕ) → at + 1 + n ≡ at + suc n
further at n = omega arith

sum_is : (t u : Text) (ss rs : List Span) → t ≡ u → ss ≡ rs → ◌≡◌ {A = Sum} (record { text = t; operands = ss }) (record { text = u; operands = rs })
sum_is t u ss rs e f = cc

spans_operand : (at : ℕ) (cs : List Cell) (m : ℕ) → spans_of at (cs ++ expansion m ∷ []) ≡ spans_of at cs ++ span_at (at + length (text_of cs)) ∷ []
spans_operand at [] m = ap (λ (z : ℕ). span_at z ∷ []) (omega arith)
spans_operand at (byte b ∷ cs) m = spans_operand (at + 1) cs m ∙ ap (λ (z : ℕ). spans_of (at + 1) cs ++ span_at z ∷ []) (further at (length (text_of cs)))
spans_operand at (expansion i ∷ cs) m = ap (λ (z : List Span). span_at at ∷ z) (spans_operand (at + 1) cs m ∙ ap (λ (z : ℕ). spans_of (at + 1) cs ++ span_at z ∷ []) (further at (length (text_of cs))))

pub sum_put : (cs : List Cell) (w : Text) → ◌≡◌ {A = Sum} (record { text = text_of cs ++ w; operands = spans_of 0 cs }) (sum_of (cs ++ put w []))
sum_put cs w = sum_is _ _ _ _ (sym (text_put cs w)) (sym (spans_put 0 cs w))

pub sum_operand : (cs : List Cell) (m : ℕ) → ◌≡◌ {A = Sum} (record { text = text_of cs ++ 36 ∷ []; operands = spans_of 0 cs ++ record { from = length (text_of cs); to = length (text_of cs) + 1 } ∷ [] })
    (sum_of (cs ++ expansion m ∷ []))
sum_operand cs m = sum_is _ _ _ _ (sym (text_operand cs m)) (sym (spans_operand 0 cs m ∙ ap (λ (z : ℕ). spans_of 0 cs ++ span_at z ∷ []) (omega arith)))
