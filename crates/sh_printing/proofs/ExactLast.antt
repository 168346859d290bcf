-- What ends where a body ends: only bytes that stand for themselves, since the last byte is a newline.
use Rattle.std.proofs.Common.{◌≡◌, ℕ, Bool, true, false, cond, [], ◌∷◌, ◌++◌, Option, Some, None, refl, sym, ap, subst, ◌∙◌, eqb-true}
use Rattle.std.specs.Prelude.{◌||◌, not, ◌==◌}
use Rattle.std.proofs.lemmas.Bool.{false≢true, true≢false}
use Rattle.span_text.specs.Names.{begins_name, continues_name, is_digit}
use Rattle.span_text.proofs.Bytes.{apart}
use Rattle.sh_grammar.specs.Shape.{Param, FillTest, count}
use Rattle.sh_grammar.specs.Bytes.{Text, Context, is_join, clear, with_byte, run_from, is_literal, literal_run, name_run}
use Rattle.sh_grammar.specs.Expansions.{◌>>=◌, Head, closed, filling, trimming, special, param_at, long_param_at, fills, fill_test, trims, operator_at, is_close, tail, length_head, or_else, is_dash, hash_head, is_hash, head_at, behind, behind_two, dollar_param, dollar_head}
use Rattle.sh_grammar.proofs.Tools.{If, then, chosen, chosen_by}
use Rattle.sh_printing.specs.Spellable.{ends_with, is_unjoined}
use Rattle.sh_printing.proofs.BackBytes.{both, isnt, joins, no_join}
use Rattle.sh_printing.proofs.ExactBytes.{clear_free, backslash_bare, bare_free}
use Rattle.sh_printing.proofs.ExactStates.{is_lines, Unjoined, Clean}
use Rattle.sh_printing.proofs.ExactTails.{Rest, clear_ends, byte_ends, two_ends, long_ends, tail_ends}
use Rattle.sh_printing.proofs.ExactBodies.{unjoined_after, clean_tails}

-- ---- the last byte

ends_last : (xs : Text) (k : ℕ) → ends_with 10 (xs ++ k ∷ []) ≡ (k == 10)
ends_last [] k = refl
ends_last (x ∷ []) k = refl
ends_last (x ∷ y ∷ ys) k = ends_last (y ∷ ys) k

lines_last : (xs : Text) (k : ℕ) → is_lines (xs ++ k ∷ []) ≡ (k == 10)
lines_last [] k = refl
lines_last (x ∷ xs) k = ends_last (x ∷ xs) k

-- no byte but a newline is the last one
pub no_last : (i : Bool) (t xs : Text) (k : ℕ) → Clean i t → i ≡ true → clear t ≡ xs ++ k ∷ [] → (k == 10) ≡ false → ⊥
no_last false t xs k c e h n = false≢true e
no_last true t xs k c e h n =
    let d = clear_ends (Clean true) (clean_tails true) t c in
    true≢false (sym (subst (λ (z : Text). is_lines z ≡ true) h d.1) ∙ (lines_last xs k ∙ n))

-- ---- runs

lines_on : (b : ℕ) (bs : Text) → is_lines (b ∷ bs) ≡ true → is_lines bs ≡ true
lines_on b [] e = refl
lines_on b (c ∷ cs) e = e

ends_more : (b : ℕ) (text : Text) → ends_with 10 text ≡ true → ends_with 10 (b ∷ text) ≡ true
ends_more b [] e = absurd (false≢true e)
ends_more b (c ∷ cs) e = e

next_unjoined : (q : Bool) (b : ℕ) (bs : Text) → is_unjoined q (b ∷ bs) ≡ true → (b == 92) ≡ false → is_unjoined false bs ≡ true
next_unjoined q b bs e n = unjoined_after b bs (q, e) n

free_of : (t : Text) → is_unjoined false t ≡ true → joins t ≡ false
free_of [] e = refl
free_of (b ∷ bs) e = isnt (is_join b bs) (both (not (is_join b bs)) (is_unjoined (b == 92) bs) e).0

any_unjoined : (q : Bool) (b : ℕ) (bs : Text) → is_unjoined q (b ∷ bs) ≡ true → Unjoined bs
any_unjoined true b bs e = (false, e)
any_unjoined false b bs e = (b == 92, (both (not (is_join b bs)) (is_unjoined (b == 92) bs) e).1)

-- behind a byte of a run no join begins
run_free : (c : Context) (q : Bool) (b : ℕ) (bs : Text) (p : Bool) → (b == 92) ≡ p → is_unjoined q (b ∷ bs) ≡ true → is_literal c b bs ≡ true → joins bs ≡ false
run_free c q b bs false n u l = free_of bs (next_unjoined q b bs u n)
run_free c q b bs true n u l = bare_free c bs (backslash_bare c bs (subst (λ (z : ℕ). is_literal c z bs ≡ true) (eqb-true b 92 n) l))

abbrev LastOf : Text → Type 0
LastOf text = ends_with 10 text ≡ true

no_rest : (b : ℕ) (bs : Text) → b ∷ bs ≡ [] → ⊥
no_rest b bs e = absurd cc

run_more : (c : Context) (q : Bool) (b : ℕ) (bs : Text) → is_unjoined q (b ∷ bs) ≡ true → is_lines (b ∷ bs) ≡ true → is_literal c b bs ≡ true → (run_from (is_literal c) false bs).1 ≡ [] →
    ((v : Bool) → is_unjoined v bs ≡ true → (bs ≡ [] → ⊥) → is_literal c b bs ≡ true → (run_from (is_literal c) false bs).1 ≡ [] → LastOf (run_from (is_literal c) false bs).0) → LastOf (b ∷ (run_from (is_literal c) false bs).0)
run_more c q b [] u l g r h = l
run_more c q b (x ∷ xs) u l g r h = let v = any_unjoined q b (x ∷ xs) u in ends_more b (run_from (is_literal c) false (x ∷ xs)).0 (h v.0 v.1 (no_rest x xs) g r)

run_byte : (c : Context) (q : Bool) (b : ℕ) (bs : Text) (g : Bool) → is_literal c b bs ≡ g → is_unjoined q (b ∷ bs) ≡ true → joins (b ∷ bs) ≡ false → is_lines (b ∷ bs) ≡ true →
    (cond g (with_byte b (run_from (is_literal c) false bs)) ([], b ∷ bs)).1 ≡ [] →
    ((v : Bool) → is_unjoined v bs ≡ true → (bs ≡ [] → ⊥) → is_literal c b bs ≡ true → (run_from (is_literal c) false bs).1 ≡ [] → LastOf (run_from (is_literal c) false bs).0) → LastOf (run_from (is_literal c) false (b ∷ bs)).0
run_byte c q b bs true g u j l r h = rw (j, g) (run_more c q b bs u l g r h)
run_byte c q b bs false g u j l r h = absurd (no_rest b bs r)

-- a run that goes to the end ends with a newline
run_last : (c : Context) (q : Bool) (t : Text) → is_unjoined q t ≡ true → joins t ≡ false → is_lines t ≡ true → (t ≡ [] → ⊥) → (run_from (is_literal c) false t).1 ≡ [] → LastOf (run_from (is_literal c) false t).0
run_last c q [] u j l n r = absurd (n refl)
run_last c q (b ∷ bs) u j l n r =
    run_byte c q b bs (is_literal c b bs) refl u j l (subst (λ (z : Bool). (cond z (run_from (is_literal c) true bs) (cond (is_literal c b bs) (with_byte b (run_from (is_literal c) false bs)) ([], b ∷ bs))).1 ≡ []) j r)
    (λ v k m g s. run_last c v bs k (run_free c q b bs (b == 92) refl u g) (lines_on b bs l) m s)

filled_run : (c : Context) (t : Text) (b : ℕ) (bs rest : Text) → run_from (is_literal c) false t ≡ (b ∷ bs, rest) → t ≡ [] → ⊥
filled_run c t b bs rest r e = no_rest b bs (sym (ap (λ (z : Text × Text). z.0) r) ∙ ap (λ (z : Text). (run_from (is_literal c) false z).0) e)

pub literal_last : (i : Bool) (c : Context) (s : Text) (b : ℕ) (bs rest : Text) → Clean i s → i ≡ true → literal_run c (clear s) ≡ (b ∷ bs, rest) → rest ≡ [] → ends_with 10 (b ∷ bs) ≡ true
unfolding literal_run
literal_last false c s b bs rest k e r n = absurd (false≢true e)
literal_last true c s b bs rest k e r n =
    let d = clear_ends (Clean true) (clean_tails true) s k in
    subst LastOf (ap (λ (z : Text × Text). z.0) r) (run_last c d.0.0 (clear s) d.0.1 (clear_free s) d.1 (filled_run c (clear s) b bs rest r) (ap (λ (z : Text × Text). z.1) r ∙ n))

-- ---- names and parameters

-- a run of bytes that are no newline doesn't go to the end
each_more : (p : ℕ → Bool) (b : ℕ) (bs : Text) → p 10 ≡ false → p b ≡ true → is_lines (b ∷ bs) ≡ true → (run_from (λ b bs. p b) false bs).1 ≡ [] → ((bs ≡ [] → ⊥) → (run_from (λ b bs. p b) false bs).1 ≡ [] → ⊥) → ⊥
each_more p b [] n e l r h = true≢false (sym l ∙ apart p b 10 e n)
each_more p b (x ∷ xs) n e l r h = h (no_rest x xs) r

each_byte : (p : ℕ → Bool) (b : ℕ) (bs : Text) (g : Bool) → p b ≡ g → p 10 ≡ false → p 92 ≡ false → is_unjoined false (b ∷ bs) ≡ true → is_lines (b ∷ bs) ≡ true →
    (cond g (with_byte b (run_from (λ b bs. p b) false bs)) ([], b ∷ bs)).1 ≡ [] → (is_unjoined false bs ≡ true → is_lines bs ≡ true → (bs ≡ [] → ⊥) → (run_from (λ b bs. p b) false bs).1 ≡ [] → ⊥) → ⊥
each_byte p b bs true e n m u l r h = each_more p b bs n e l r (λ x s. h (next_unjoined false b bs u (apart p b 92 e m)) (lines_on b bs l) x s)
each_byte p b bs false e n m u l r h = no_rest b bs r

each_last : (p : ℕ → Bool) (t : Text) → p 10 ≡ false → p 92 ≡ false → is_unjoined false t ≡ true → is_lines t ≡ true → (t ≡ [] → ⊥) → (run_from (λ b bs. p b) false t).1 ≡ [] → ⊥
each_last p [] n m u l e r = e refl
each_last p (b ∷ bs) n m u l e r =
    let j = free_of (b ∷ bs) u in
    each_byte p b bs (p b) refl n m u l (subst (λ (z : Bool). (cond z (run_from (λ b bs. p b) true bs) (cond (p b) (with_byte b (run_from (λ b bs. p b) false bs)) ([], b ∷ bs))).1 ≡ []) j r) (λ v k x s. each_last p bs n m v k x s)

first_rest : (p : ℕ → Bool) (b : ℕ) (bs : Text) → is_join b bs ≡ false → p b ≡ true → (run_from (λ b bs. p b) false (b ∷ bs)).1 ≡ [] → (run_from (λ b bs. p b) false bs).1 ≡ []
first_rest p b bs j e r =
    subst (λ (z : Bool). (cond z (with_byte b (run_from (λ b bs. p b) false bs)) ([], b ∷ bs)).1 ≡ []) e
    (subst (λ (z : Bool). (cond z (run_from (λ b bs. p b) true bs) (cond (p b) (with_byte b (run_from (λ b bs. p b) false bs)) ([], b ∷ bs))).1 ≡ []) j r)

first_more : (p : ℕ → Bool) (b : ℕ) (bs : Text) → p 10 ≡ false → p 92 ≡ false → p b ≡ true → is_unjoined false bs ≡ true → is_lines (b ∷ bs) ≡ true → (run_from (λ b bs. p b) false bs).1 ≡ [] → ⊥
first_more p b bs n m e u l r = each_more p b bs n e l r (λ x s. each_last p bs n m u (lines_on b bs l) x s)

-- the same of its first byte, before which a backslash may stand
first_last : (p : ℕ → Bool) (b : ℕ) (bs : Text) → p 10 ≡ false → p 92 ≡ false → p b ≡ true → Clean true (b ∷ bs) → (run_from (λ b bs. p b) false (b ∷ bs)).1 ≡ [] → ⊥
first_last p b bs n m e c r =
    let k : (b == 92) ≡ false = apart p b 92 e m in
    let w : (run_from (λ b bs. p b) false bs).1 ≡ [] = first_rest p b bs (no_join b bs k) e r in
    first_more p b bs n m e (unjoined_after b bs c.0 k) c.1 w

abbrev Ends : {A : Type 0} → A × Text → Type 0
Ends x = x.1 ≡ [] → ⊥

lone_at : (b k : ℕ) (bs : Text) → (b == k) ≡ true → (k == 10) ≡ false → (b == 10) ≡ true → ⊥
lone_at b k bs e n l = true≢false (sym l ∙ (ap (λ (z : ℕ). z == 10) (eqb-true b k e) ∙ n))

lone : (b k : ℕ) (bs : Text) → (b == k) ≡ true → (k == 10) ≡ false → is_lines (b ∷ bs) ≡ true → bs ≡ [] → ⊥
lone b k bs e n l h = lone_at b k bs e n (subst (λ (z : Text). is_lines (b ∷ z) ≡ true) h l)

special_last : (b : ℕ) (bs : Text) → is_lines (b ∷ bs) ≡ true → If (Ends {A = Param}) (special b bs)
special_last b bs l =
    chosen_by (If (Ends {A = Param})) (b == 35) _ _ (λ e h. lone b 35 bs e refl l h)
    (λ e. chosen_by (If (Ends {A = Param})) (b == 63) _ _ (λ e h. lone b 63 bs e refl l h)
    (λ e. chosen_by (If (Ends {A = Param})) (b == 64) _ _ (λ e h. lone b 64 bs e refl l h)
    (λ e. chosen_by (If (Ends {A = Param})) (b == 42) _ _ (λ e h. lone b 42 bs e refl l h) (λ e. tt))))

no_newline_name : continues_name 10 ≡ false
unfolding continues_name
no_newline_name = refl

no_backslash_name : continues_name 92 ≡ false
unfolding continues_name
no_backslash_name = refl

name_last : (b : ℕ) (bs : Text) → begins_name b ≡ true → Clean true (b ∷ bs) → (name_run (b ∷ bs)).1 ≡ [] → ⊥
unfolding name_run
name_last b bs e c r = first_last continues_name b bs no_newline_name no_backslash_name (Rattle.span_text.proofs.Bytes.first_is_name b e) c r

digit_alone : (b : ℕ) (bs : Text) → is_digit b ≡ true → is_lines (b ∷ bs) ≡ true → bs ≡ [] → ⊥
digit_alone b bs e l h = true≢false (sym (subst (λ (z : Text). is_lines (b ∷ z) ≡ true) h l) ∙ apart (λ z. is_digit z) b 10 e refl)

param_last : (t : Text) → Clean true t → If (Ends {A = Param}) (param_at t)
unfolding param_at
param_last [] c = tt
param_last (b ∷ bs) c =
    chosen_by (If (Ends {A = Param})) (begins_name b) _ _ (λ e r. name_last b bs e c r)
    (λ e. chosen_by (If (Ends {A = Param})) (is_digit b) _ _ (λ e h. digit_alone b bs e c.1 h) (λ e. special_last b bs c.1))

pub dollar_param_last : (t : Text) → Clean true t → If (λ (x : Param × Text). x.1 ≡ [] → ⊥) (dollar_param t)
unfolding dollar_param
dollar_param_last t c =
    let k = clean_tails true in
    then (Clean true) (Ends {A = Param}) (behind 36 (clear t)) _ (byte_ends (Clean true) k 36 (clear t) (clear_ends (Clean true) k t c)) (λ rest h. param_last (clear rest) (clear_ends (Clean true) k rest h))

-- ---- heads

abbrev pub ClosedEnds : Head × Text → Type 0
ClosedEnds (closed p o, rest) = rest ≡ [] → ⊥
ClosedEnds (filling p t c, rest) = Unit {0}
ClosedEnds (trimming p s l, rest) = Unit {0}

fill_last : (p : Param) (colon : Bool) (bs : Text) (o : Option FillTest) → If ClosedEnds (o >>= λ t. Some (filling p t colon, bs))
fill_last p colon bs None = tt
fill_last p colon bs (Some t) = tt

fills_last : (p : Param) (colon : Bool) (t : Text) → If ClosedEnds (fills p colon t)
fills_last p colon [] = tt
fills_last p colon (b ∷ bs) = fill_last p colon bs (fill_test b)

trims_last : (p : Param) (suffix : Bool) (n : ℕ) (t : Text) → If ClosedEnds (trims p suffix n t)
trims_last p suffix n [] = tt
trims_last p suffix n (b ∷ bs) = chosen (If ClosedEnds) (b == n) _ _ tt tt

operator_last : (p : Param) (t : Text) → is_lines t ≡ true → If ClosedEnds (operator_at p t)
operator_last p [] l = tt
operator_last p (b ∷ bs) l =
    chosen_by (If ClosedEnds) (b == 125) _ _ (λ e h. lone b 125 bs e refl l h)
    (λ e. chosen (If ClosedEnds) (b == 58) _ _ (fills_last p true (clear bs))
    (chosen (If ClosedEnds) (b == 35) _ _ (trims_last p false 35 (clear bs))
    (chosen (If ClosedEnds) (b == 37) _ _ (trims_last p true 37 (clear bs)) (fills_last p false (b ∷ bs)))))

close_last : (t : Text) → is_lines t ≡ true → is_close t ≡ true → tail t ≡ [] → ⊥
close_last [] l e h = false≢true e
close_last (b ∷ bs) l e h = lone b 125 bs e refl l h

length_last : (o : Option (Param × Text)) → If (Rest {A = Param} (Clean true)) o → If ClosedEnds (length_head o)
length_last None h = tt
length_last (Some x) h =
    chosen_by (If ClosedEnds) (is_close (clear x.1)) _ _ (λ e n. close_last (clear x.1) (clear_ends (Clean true) (clean_tails true) x.1 h).1 e n) (λ e. tt)

else_last : (o p : Option (Head × Text)) → If ClosedEnds o → If ClosedEnds p → If ClosedEnds (or_else o p)
else_last None p h i = i
else_last (Some x) p h i = h

hash_last : (t : Text) → Clean true t → If ClosedEnds (hash_head t)
hash_last t c =
    chosen (If ClosedEnds) (is_close t || is_dash t) _ _ (chosen (If ClosedEnds) (is_dash t) _ _ tt (operator_last count t c.1))
    (else_last (length_head (long_param_at t)) (operator_at count t) (length_last (long_param_at t) (long_ends (Clean true) (clean_tails true) t c)) (operator_last count t c.1))

head_last : (t : Text) → Clean true t → If ClosedEnds (head_at t)
unfolding head_at
head_last t c =
    let k = clean_tails true in
    chosen (If ClosedEnds) (is_hash t) _ _ (hash_last (clear (tail t)) (clear_ends (Clean true) k (tail t) (tail_ends (Clean true) k t c)))
    (then (Rest {A = Param} (Clean true)) ClosedEnds (long_param_at t) _ (long_ends (Clean true) k t c) (λ x h. operator_last x.0 (clear x.1) (clear_ends (Clean true) k x.1 h).1))

pub dollar_head_last : (t : Text) → Clean true t → If ClosedEnds (dollar_head t)
unfolding dollar_head
dollar_head_last t c =
    let k = clean_tails true in
    then (Clean true) ClosedEnds (behind_two 36 123 t) _ (two_ends (Clean true) k 36 123 t c) (λ rest h. head_last (clear rest) (clear_ends (Clean true) k rest h))
