-- The last part of a body that was read ends it: bytes that stand for themselves, of which the last is a newline.
use Rattle.std.proofs.Common.{◌≡◌, ℕ, Bool, true, false, List, [], ◌∷◌, Option, Some, None, refl, sym, subst, ◌∙◌}
use Rattle.std.specs.Prelude.{◌||◌, not, ◌==◌, nat_lt}
use Rattle.std.proofs.lemmas.Bool.{false≢true, true≢false}
use Rattle.span_text.specs.Names.{begins_name, continues_name, is_digit}
use Rattle.span_text.proofs.Bytes.{apart, first_is_name}
use Rattle.text_grammar.specs.Grammar.{Leaf, rule}
use Rattle.sh_grammar.specs.Shape.{Param, FillTest, count}
use Rattle.span_text.specs.declared.expr.Expr.{Expr}
use Rattle.sh_grammar.specs.Bytes.{Text, is_join, clear, with_byte, run_from, name_run}
use Rattle.sh_grammar.specs.Tokens.{Close, token, is_token}
use Rattle.sh_grammar.specs.Expansions.{◌>>=◌, Head, closed as closed_head, filling, trimming, special, param_at, long_param_at, fill_test, fills, trims, operator_at, is_close, tail, length_head, or_else, is_dash, hash_head, is_hash, head_at, behind as behind_byte, behind_two, dollar_param, dollar_head}
use Rattle.sh_grammar.specs.State.{State, Node, expr_node}
use Rattle.sh_grammar.specs.Sums.{innermost}
use Rattle.sh_grammar.specs.Steps.{Known, limit, run_step, behind, closed_read}
use Rattle.sh_grammar.specs.Table.{Test, Rule, unit_begins, body}
use Rattle.sh_grammar.specs.Table as table
use Rattle.sh_grammar.proofs.Tools.{If, then, chosen, chosen_by}
use Rattle.sh_printing.specs.Spellable.{is_unjoined}
use Rattle.sh_printing.proofs.BackBytes.{both, isnt, no_join}
use Rattle.sh_printing.proofs.ExactParts.{by_step, behind_is}
use Rattle.sh_printing.proofs.ExactRules.{Stepped, All}
use Rattle.sh_printing.proofs.ExactStates.{Forth, Unjoined, Clean, is_lines}
use Rattle.sh_printing.proofs.ExactTails.{Rest, clear_ends, gap_ends, byte_ends, two_ends, long_ends, tail_ends}
use Rattle.sh_printing.proofs.ExactBodies.{unjoined_tails, unjoined_after, clean_tails}
use Rattle.sh_printing.proofs.ExactBack.{close_token}
use Rattle.sh_printing.proofs.ExactLast.{ClosedEnds, dollar_param_last, dollar_head_last}

-- ---- behind what ends no body

-- no backslash quotes the next byte, and there is one
abbrev pub Solid : Text → Type 0
Solid t = (is_unjoined false t ≡ true) × (t ≡ [] → ⊥)

no_more : (k : ℕ) (t : Text) → is_lines (k ∷ t) ≡ true → (k == 10) ≡ false → t ≡ [] → ⊥
no_more k t l n e = true≢false (sym (subst (λ (z : Text). is_lines (k ∷ z) ≡ true) e l) ∙ n)

solid_after : (k : ℕ) (t : Text) → Clean true (k ∷ t) → (k == 92) ≡ false → (k == 10) ≡ false → Solid t
solid_after k t c n m = (unjoined_after k t c.0 n, no_more k t c.1 m)

pub solid_behind : (k : ℕ) (t rest : Text) → Clean true t → clear t ≡ k ∷ rest → (k == 92) ≡ false → (k == 10) ≡ false → Solid rest
solid_behind k t rest c h n m = solid_after k rest (subst (Clean true) h (clear_ends (Clean true) (clean_tails true) t c)) n m

-- ---- runs and parameters

run_unjoined : (p : ℕ → Bool) (t : Text) → p 92 ≡ false → is_unjoined false t ≡ true → is_unjoined false (run_from (λ b bs. p b) false t).1 ≡ true
run_unjoined p [] m u = refl
run_unjoined p (b ∷ bs) m u =
    let j = isnt (is_join b bs) (both (not (is_join b bs)) (is_unjoined (b == 92) bs) u).0 in
    rw j (chosen_by (λ (x : Text × Text). is_unjoined false x.1 ≡ true) (p b) (with_byte b (run_from (λ b bs. p b) false bs)) ([], b ∷ bs)
    (λ e. run_unjoined p bs m (unjoined_after b bs (false, u) (apart p b 92 e m))) (λ e. u))

no_backslash_name : continues_name 92 ≡ false
unfolding continues_name
no_backslash_name = refl

name_unjoined : (b : ℕ) (bs : Text) → begins_name b ≡ true → Unjoined (b ∷ bs) → is_unjoined false (name_run (b ∷ bs)).1 ≡ true
unfolding name_run
name_unjoined b bs e u =
    let c = first_is_name b e in
    let n : (b == 92) ≡ false = apart continues_name b 92 c no_backslash_name in
    rw (no_join b bs n, c) (run_unjoined continues_name bs no_backslash_name (unjoined_after b bs u n))

abbrev Unquoted : {A : Type 0} → A × Text → Type 0
Unquoted x = is_unjoined false x.1 ≡ true

special_unjoined : (b : ℕ) (bs : Text) → Unjoined (b ∷ bs) → If (Unquoted {A = Param}) (special b bs)
special_unjoined b bs u =
    chosen_by (If (Unquoted {A = Param})) (b == 35) _ _ (λ e. unjoined_after b bs u (apart (λ z. z == 35) b 92 e refl))
    (λ e. chosen_by (If (Unquoted {A = Param})) (b == 63) _ _ (λ e. unjoined_after b bs u (apart (λ z. z == 63) b 92 e refl))
    (λ e. chosen_by (If (Unquoted {A = Param})) (b == 64) _ _ (λ e. unjoined_after b bs u (apart (λ z. z == 64) b 92 e refl))
    (λ e. chosen_by (If (Unquoted {A = Param})) (b == 42) _ _ (λ e. unjoined_after b bs u (apart (λ z. z == 42) b 92 e refl)) (λ e. tt))))

param_unjoined : (t : Text) → Unjoined t → If (Unquoted {A = Param}) (param_at t)
unfolding param_at
param_unjoined [] u = tt
param_unjoined (b ∷ bs) u =
    chosen_by (If (Unquoted {A = Param})) (begins_name b) _ _ (λ e. name_unjoined b bs e u)
    (λ e. chosen_by (If (Unquoted {A = Param})) (is_digit b) _ _ (λ i. unjoined_after b bs u (apart (λ z. is_digit z) b 92 i refl)) (λ i. special_unjoined b bs u))

dollar_param_unjoined : (t : Text) → Unjoined t → If (Unquoted {A = Param}) (dollar_param t)
unfolding dollar_param
dollar_param_unjoined t u =
    then Unjoined (Unquoted {A = Param}) (behind_byte 36 (clear t)) _ (byte_ends Unjoined unjoined_tails 36 (clear t) (clear_ends Unjoined unjoined_tails t u)) (λ rest h. param_unjoined (clear rest) (clear_ends Unjoined unjoined_tails rest h))

-- ---- heads

abbrev ClosedUnquoted : Head × Text → Type 0
ClosedUnquoted (closed_head p o, rest) = is_unjoined false rest ≡ true
ClosedUnquoted (filling p t c, rest) = Unit {0}
ClosedUnquoted (trimming p s l, rest) = Unit {0}

fill_unjoined : (p : Param) (colon : Bool) (bs : Text) (o : Option FillTest) → If ClosedUnquoted (o >>= λ t. Some (filling p t colon, bs))
fill_unjoined p colon bs None = tt
fill_unjoined p colon bs (Some t) = tt

fills_unjoined : (p : Param) (colon : Bool) (t : Text) → If ClosedUnquoted (fills p colon t)
fills_unjoined p colon [] = tt
fills_unjoined p colon (b ∷ bs) = fill_unjoined p colon bs (fill_test b)

trims_unjoined : (p : Param) (suffix : Bool) (n : ℕ) (t : Text) → If ClosedUnquoted (trims p suffix n t)
trims_unjoined p suffix n [] = tt
trims_unjoined p suffix n (b ∷ bs) = chosen (If ClosedUnquoted) (b == n) _ _ tt tt

operator_unjoined : (p : Param) (t : Text) → Unjoined t → If ClosedUnquoted (operator_at p t)
operator_unjoined p [] u = tt
operator_unjoined p (b ∷ bs) u =
    chosen_by (If ClosedUnquoted) (b == 125) _ _ (λ e. unjoined_after b bs u (apart (λ z. z == 125) b 92 e refl))
    (λ e. chosen (If ClosedUnquoted) (b == 58) _ _ (fills_unjoined p true (clear bs))
    (chosen (If ClosedUnquoted) (b == 35) _ _ (trims_unjoined p false 35 (clear bs))
    (chosen (If ClosedUnquoted) (b == 37) _ _ (trims_unjoined p true 37 (clear bs)) (fills_unjoined p false (b ∷ bs)))))

close_unjoined : (t : Text) → Unjoined t → is_close t ≡ true → is_unjoined false (tail t) ≡ true
close_unjoined [] u e = absurd (false≢true e)
close_unjoined (b ∷ bs) u e = unjoined_after b bs u (apart (λ z. z == 125) b 92 e refl)

length_unjoined : (o : Option (Param × Text)) → If (Rest {A = Param} Unjoined) o → If ClosedUnquoted (length_head o)
length_unjoined None h = tt
length_unjoined (Some x) h = chosen_by (If ClosedUnquoted) (is_close (clear x.1)) _ _ (λ e. close_unjoined (clear x.1) (clear_ends Unjoined unjoined_tails x.1 h) e) (λ e. tt)

else_unjoined : (o p : Option (Head × Text)) → If ClosedUnquoted o → If ClosedUnquoted p → If ClosedUnquoted (or_else o p)
else_unjoined None p h i = i
else_unjoined (Some x) p h i = h

hash_unjoined : (t : Text) → Unjoined t → If ClosedUnquoted (hash_head t)
hash_unjoined t u =
    chosen (If ClosedUnquoted) (is_close t || is_dash t) _ _ (chosen (If ClosedUnquoted) (is_dash t) _ _ tt (operator_unjoined count t u))
    (else_unjoined (length_head (long_param_at t)) (operator_at count t) (length_unjoined (long_param_at t) (long_ends Unjoined unjoined_tails t u)) (operator_unjoined count t u))

head_unjoined : (t : Text) → Unjoined t → If ClosedUnquoted (head_at t)
unfolding head_at
head_unjoined t u =
    let k = unjoined_tails in
    chosen (If ClosedUnquoted) (is_hash t) _ _ (hash_unjoined (clear (tail t)) (clear_ends Unjoined k (tail t) (tail_ends Unjoined k t u)))
    (then (Rest {A = Param} Unjoined) ClosedUnquoted (long_param_at t) _ (long_ends Unjoined k t u) (λ x h. operator_unjoined x.0 (clear x.1) (clear_ends Unjoined k x.1 h)))

dollar_head_unjoined : (t : Text) → Unjoined t → If ClosedUnquoted (dollar_head t)
unfolding dollar_head
dollar_head_unjoined t u =
    then Unjoined ClosedUnquoted (behind_two 36 123 t) _ (two_ends Unjoined unjoined_tails 36 123 t u) (λ rest h. head_unjoined (clear rest) (clear_ends Unjoined unjoined_tails rest h))

-- ---- steps

-- what is kept: ends of a body that is expanded
abbrev pub Ends : State → Type 0
Ends = All (Forth true) (λ s. Unit {0})

both_if : {A : Type 0} (P Q : A → Type 0) (o : Option A) → If P o → If Q o → If (λ x. P x × Q x) o
both_if P Q None h i = tt
both_if P Q (Some x) h i = (h, i)

pub solid_dollar : {k : Known} {d : ℕ} {s e : State} {vs : List Node} → Clean true s.bytes → Stepped k Ends table.dollar d s e vs → Solid e.bytes
unfolding run_step
solid_dollar {s = s} c st =
    by_step (λ (m : State) (ws : List Node). Solid m.bytes)
    (then (λ (x : Param × Text). Unquoted x × (x.1 ≡ [] → ⊥)) (λ (x : Leaf Node × State). Solid x.1.bytes) (dollar_param s.bytes) _
    (both_if (Unquoted {A = Param}) (λ (x : Param × Text). x.1 ≡ [] → ⊥) (dollar_param s.bytes) (dollar_param_unjoined s.bytes c.0) (dollar_param_last s.bytes c)) (λ x h. h)) st

closed_solid : (s : State) (x : Head × Text) → ClosedUnquoted x → ClosedEnds x → If (λ (y : Leaf Node × State). Solid y.1.bytes) (closed_read s x)
closed_solid s (closed_head p o, rest) u l = (u, l)
closed_solid s (filling p t c, rest) u l = tt
closed_solid s (trimming p x l, rest) u m = tt

pub solid_closed : {k : Known} {d : ℕ} {s e : State} {vs : List Node} → Clean true s.bytes → Stepped k Ends table.closed d s e vs → Solid e.bytes
unfolding run_step
solid_closed {s = s} c st =
    by_step (λ (m : State) (ws : List Node). Solid m.bytes)
    (chosen (If (λ (x : Leaf Node × State). Solid x.1.bytes)) (nat_lt s.depth limit) _ _
    (then (λ (x : Head × Text). ClosedUnquoted x × ClosedEnds x) (λ (x : Leaf Node × State). Solid x.1.bytes) (dollar_head s.bytes) _
    (both_if ClosedUnquoted ClosedEnds (dollar_head s.bytes) (dollar_head_unjoined s.bytes c.0) (dollar_head_last s.bytes c)) (λ x h. closed_solid s x h.0 h.1)) tt) st

pub solid_quote : {k : Known} {d : ℕ} {s e : State} {vs : List Node} → Clean true s.bytes → Stepped k Ends table.quote d s e vs → Solid e.bytes
unfolding run_step
solid_quote {s = s} c st =
    by_step (λ (m : State) (ws : List Node). Solid m.bytes)
    (then (λ (z : Text). clear s.bytes ≡ 34 ∷ z) (λ (x : Leaf Node × State). Solid x.1.bytes) (behind 34 (clear s.bytes)) _ (behind_is 34 (clear s.bytes)) (λ rest h. solid_behind 34 s.bytes rest c h refl refl)) st

pub solid_brace : {k : Known} {d : ℕ} {s e : State} {vs : List Node} → Clean true s.bytes → Stepped k Ends table.close_brace d s e vs → Solid e.bytes
unfolding run_step
solid_brace {s = s} c st =
    by_step (λ (m : State) (ws : List Node). Solid m.bytes)
    (then (λ (z : Text). clear s.bytes ≡ 125 ∷ z) (λ (x : Leaf Node × State). Solid x.1.bytes) (behind 125 (clear s.bytes)) _ (behind_is 125 (clear s.bytes)) (λ rest h. solid_behind 125 s.bytes rest c h refl refl)) st

solid_token : (t : Text) → Clean true t → is_token Close t ≡ true → Solid (token t).1
solid_token t c e = solid_after 41 (token t).1 (subst (Clean true) (close_token t e) (gap_ends (Clean true) (clean_tails true) t c)) refl refl

pub solid_close : {k : Known} {d : ℕ} {s e : State} {vs : List Node} → Clean true s.bytes → Stepped k Ends (table.op Close) d s e vs → Solid e.bytes
unfolding run_step
solid_close {s = s} c st =
    by_step (λ (m : State) (ws : List Node). Solid m.bytes) (chosen_by (If (λ (x : Leaf Node × State). Solid x.1.bytes)) (is_token Close s.bytes) _ _ (λ t. solid_token s.bytes c t) (λ t. tt)) st

solid_byte : (t : Text) → Clean true t → If Solid (behind_byte 41 t)
solid_byte [] c = tt
solid_byte (b ∷ bs) c = chosen_by (If Solid) (b == 41) _ _ (λ e. solid_after b bs c (apart (λ z. z == 41) b 92 e refl) (apart (λ z. z == 41) b 10 e refl)) (λ e. tt)

solid_two : (t : Text) → Clean true t → If Solid (behind_two 41 41 t)
unfolding behind_two
solid_two t c =
    then (Clean true) Solid (behind_byte 41 (clear t)) _ (byte_ends (Clean true) (clean_tails true) 41 (clear t) (clear_ends (Clean true) (clean_tails true) t c))
    (λ rest h. solid_byte (clear rest) (clear_ends (Clean true) (clean_tails true) rest h))

expr_solid : (s : State) (rest : Text) (o : Option Expr) → Solid rest → If (λ (x : Leaf Node × State). Solid x.1.bytes) (o >>= λ e. Some (Rattle.text_grammar.specs.Grammar.said (expr_node e), record s { bytes = rest; sums = Rattle.sh_grammar.specs.Sums.without_innermost s.sums }))
expr_solid s rest None h = tt
expr_solid s rest (Some e) h = h

pub solid_sum : {k : Known} {d : ℕ} {s e : State} {vs : List Node} → Clean true s.bytes → Stepped k Ends table.close_sum d s e vs → Solid e.bytes
unfolding run_step
solid_sum {s = s} c st =
    by_step (λ (m : State) (ws : List Node). Solid m.bytes) (then Solid (λ (x : Leaf Node × State). Solid x.1.bytes) (behind_two 41 41 s.bytes) _ (solid_two s.bytes c) (λ rest h. expr_solid s rest (innermost s.sums) h)) st

pub leaves_bytes : {k : Known} {d : ℕ} {s e : State} {vs : List Node} → Stepped k Ends table.leave d s e vs → s.bytes ≡ e.bytes
unfolding run_step
leaves_bytes {s = s} st = by_step (λ (m : State) (ws : List Node). s.bytes ≡ m.bytes) refl st
