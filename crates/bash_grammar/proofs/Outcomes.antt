-- An expression's text gives what it spells, or the place where it goes wrong.
use Rattle.std.proofs.Common.{◌≡◌, ℕ, ◌+◌, ◌<◌, Bool, true, false, cond, List, [], ◌∷◌, ◌++◌, length, get_or, take, Option, Some, None, refl, sym, ap, subst, ◌∙◌, append_assoc, arith}
use Rattle.span_text.specs.declared.expr.Expr.{Expr}
use Rattle.span_text.specs.declared.span.Span.{Span}
use Rattle.span_text.specs.ExprTokens.{Cell, cell_at, is_last, without_first, cells_of}
use Rattle.span_text.specs.Expressions.{IsSpelled, Apart, IsFirstBad}
use Rattle.arith64.specs.Parsing.{◌>>=◌}
use Rattle.arith64.specs.Reader.{read_cells, read_end, at_start}
use Rattle.arith64.proofs.Place.{spelled as is_spelled, spelling_read, unspelled, read_append}
use Rattle.arith64.proofs.Loop.{Kept, first, bad_byte, bad_end, goes_next}
use Rattle.bash_grammar.specs.Bytes.{Text}
use Rattle.bash_grammar.specs.Sums.{spelled, spoiled, is_none, spoiled_from, expression, or_spoiled, outcome}

-- ---- expressions

is_one : (o : Option Expr) (n : ℕ) (e : Expr) → or_spoiled o n ≡ spelled e → o ≡ Some e
is_one None n e h = absurd cc
is_one (Some x) n e h = ap (λ (y : Expr). Some y) cc

is_not : (o : Option Expr) (n at : ℕ) → or_spoiled o n ≡ spoiled at → (o ≡ None) × (n ≡ at)
is_not None n at h = (refl, cc)
is_not (Some x) n at h = absurd cc

pub sum_sound : (text : Text) (operands : List Span) (e : Expr) → outcome text operands ≡ spelled e → IsSpelled text operands e
unfolding outcome
sum_sound text operands e h = is_spelled (cells_of text operands) e (is_one (expression (cells_of text operands)) (spoiled_from 0 0 operands [] text) e h)

pub sum_complete : (text : Text) (operands : List Span) (e : Expr) → IsSpelled text operands e → outcome text operands ≡ spelled e
unfolding outcome
sum_complete text operands e h = ap (λ (o : Option Expr). or_spoiled o (spoiled_from 0 0 operands [] text)) (spelling_read (cells_of text operands) e h)

-- ---- places

byte_there : (done bs : Text) (b : ℕ) → get_or (done ++ b ∷ bs) (length done) 0 ≡ b
byte_there [] bs b = refl
byte_there (d ∷ ds) bs b = byte_there ds bs b

one_more : (done : Text) (b : ℕ) → length (done ++ b ∷ []) ≡ length done + 1
one_more [] b = refl
one_more (d ∷ ds) b = let i = one_more ds b in omega arith

there : (text done bs : Text) (at b : ℕ) → at ≡ length done → text ≡ done ++ b ∷ bs → get_or text at 0 ≡ b
there text done bs at b e f = ap (λ (t : Text). get_or t at 0) f ∙ ap (λ (n : ℕ). get_or (done ++ b ∷ bs) n 0) e ∙ byte_there done bs b

long : (done bs : Text) → length (done ++ bs) ≡ length done + length bs
long [] bs = omega arith
long (d ∷ ds) bs = let i = long ds bs in omega arith

whole : (text : Text) → take (length text) text ≡ text
whole [] = refl
whole (b ∷ bs) = ap (λ (t : Text). b ∷ t) (whole bs)

ended : (text done : Text) (at : ℕ) → at ≡ length done → text ≡ done ++ [] → at ≡ length text
ended text done at e f = let a = ap length f in let b = long done [] in omega arith

behind : (text done bs : Text) (b : ℕ) → text ≡ done ++ b ∷ bs → text ≡ (done ++ b ∷ []) ++ bs
behind text done bs b f = f ∙ sym (append_assoc done (b ∷ []) bs)

-- the way that a byte takes, where it is read or not
goes : {X : Type 0} (P : ℕ → Type 0) (at other : ℕ) (o : Option X) → (o ≡ None → P at) → ((x : X) → o ≡ Some x → P other) → P (cond (is_none o) at other)
goes P at other None f g = f refl
goes P at other (Some x) f g = g x refl

last_or_not : (P : ℕ → Type 0) (b : Bool) (m n : ℕ) → (b ≡ true → P m) → (b ≡ false → P n) → P (cond b m n)
last_or_not P true m n f g = f refl
last_or_not P false m n f g = g refl

stops_from : (text : Text) (operands : List Span) → Apart 0 (length text) operands → expression (cells_of text operands) ≡ None →
    (bs done : Text) (at number : ℕ) (spans : List Span) (before : List Cell) (reader : _) → at ≡ length done → text ≡ done ++ bs → read_cells at_start before ≡ Some reader → Kept text operands at number spans reader →
    IsFirstBad text operands (spoiled_from at number spans before bs)
stops_from text operands h none [] done at number spans before reader e f r k =
    let same = ended text done at e f in
    let all = subst (λ (n : ℕ). Kept text operands n number spans reader) same k in
    subst (λ (n : ℕ). IsFirstBad text operands n) (sym same) (bad_end text operands number spans reader h all (sym (ap (λ (o : Option _). o >>= read_end) (ap (λ (t : Text). read_cells at_start (cells_of t operands)) (sym (whole text)) ∙ all.read)) ∙ none)).place
stops_from text operands h none (b ∷ bs) done at number spans before reader e f r k =
    let cs = cell_at at number spans b in
    let here = there text done bs at b e f in
    let l = ap length f in let m = long done (b ∷ bs) in
    let lt : at < length text = omega arith in
    let same = read_append before cs at_start ∙ ap (λ (o : Option _). o >>= λ q. read_cells q cs) r in
    goes (λ (n : ℕ). IsFirstBad text operands n) at _ (read_cells at_start (before ++ cs))
    (λ bad. (bad_byte text operands at number spans reader b k lt here (sym same ∙ bad)).place)
    (λ next good. last_or_not (λ (n : ℕ). IsFirstBad text operands n) (is_last at spans) _ _
    (λ last. stops_from text operands h none bs (done ++ b ∷ []) (at + 1) (number + 1) (without_first spans) (before ++ cs) next (let o = one_more done b in omega arith) (behind text done bs b f) good
    (goes_next text operands at number spans reader next (number + 1) (without_first spans) k lt (subst (λ (x : ℕ). read_cells reader (cell_at at number spans x) ≡ Some next) (sym here) (sym same ∙ good)) (rw (last) refl) (rw (last) refl)))
    (λ last. stops_from text operands h none bs (done ++ b ∷ []) (at + 1) number spans (before ++ cs) next (let o = one_more done b in omega arith) (behind text done bs b f) good
    (goes_next text operands at number spans reader next number spans k lt (subst (λ (x : ℕ). read_cells reader (cell_at at number spans x) ≡ Some next) (sym here) (sym same ∙ good)) (rw (last) refl) (rw (last) refl))))

pub sum_place : (text : Text) (operands : List Span) (at : ℕ) → Apart 0 (length text) operands → outcome text operands ≡ spoiled at → IsFirstBad text operands at
unfolding outcome
sum_place text operands at h e =
    let n = is_not (expression (cells_of text operands)) (spoiled_from 0 0 operands [] text) at e in
    subst (λ (m : ℕ). IsFirstBad text operands m) n.1 (stops_from text operands h n.0 text [] 0 0 operands [] at_start refl refl refl (first text operands h))

pub sum_none : (text : Text) (operands : List Span) (at : ℕ) → outcome text operands ≡ spoiled at → (e : Expr) → IsSpelled text operands e → ⊥
unfolding outcome
sum_none text operands at h e s = unspelled (cells_of text operands) (is_not (expression (cells_of text operands)) (spoiled_from 0 0 operands [] text) at h).0 e s
