-- Parts of words without other nodes read back: bytes that stand for themselves, quoted bytes, parameters.
use Rattle.std.proofs.Common.{◌≡◌, ℕ, Bool, true, false, List, [], ◌∷◌, ◌++◌, Some, refl, ap, subst}
use Rattle.std.specs.Prelude.{◌||◌, ◌&&◌, not, ◌==◌}
use Rattle.std.specs.List.{list_all}
use Rattle.std.proofs.lemmas.List.{append-nil}
use Rattle.span_text.proofs.Bytes.{apart}
use Rattle.text_grammar.specs.Grammar.{star, rule}
use Rattle.sh_grammar.specs.Shape.{plain, exact, double}
use Rattle.sh_grammar.specs.Bytes.{Text, Context, in_word, in_double, in_body, in_brace, in_quoted_brace, in_body_brace, in_body_pattern, is_join, clear, starts, expands, is_bare_dollar, is_meta, is_active, is_plain, is_escaped, has_single, has_double, is_bare_backslash, is_literal}
use Rattle.sh_grammar.specs.State.{Sum, Node, part_node, parts_in}
use Rattle.sh_grammar.specs.Table.{unit_begins, double_quotes, expansion}
use Rattle.sh_grammar.specs.Table as table
use Rattle.sh_grammar.specs.Steps.{Known, run_step, holds, escaped_behind, dollar_behind, quoted_run}
use Rattle.sh_printing.specs.Spellable.{is_literal_text, is_exact_byte}
use Rattle.sh_printing.proofs.BackSays.{Says, silent_step, said_step, ◌then◌, the_first, the_second, by_rule}
use Rattle.sh_printing.proofs.BackDue.{Due, st}
use Rattle.sh_printing.proofs.BackBytes.{both, isnt, neither, and_no, joins, no_join, clear_is, Stops, literal_back, literal_joins, literal_more}

-- ---- which part begins

no_single : (c : Context) (b : ℕ) (bs : Text) → is_literal c b bs ≡ true → (has_single c && b == 39) ≡ false
unfolding is_literal is_plain is_active is_meta has_single
no_single in_word b bs e = apart (λ z. is_literal in_word z bs) b 39 e refl
no_single in_double b bs e = refl
no_single in_body b bs e = refl
no_single in_brace b bs e = apart (λ z. is_literal in_brace z bs) b 39 e refl
no_single in_quoted_brace b bs e = refl
no_single in_body_brace b bs e = refl
no_single in_body_pattern b bs e = refl

no_double : (c : Context) (b : ℕ) (bs : Text) → is_literal c b bs ≡ true → (has_double c && b == 34) ≡ false
unfolding is_literal is_plain is_active is_meta has_double
no_double in_word b bs e = apart (λ z. is_literal in_word z bs) b 34 e refl
no_double in_double b bs e = refl
no_double in_body b bs e = refl
no_double in_brace b bs e = apart (λ z. is_literal in_brace z bs) b 34 e refl
no_double in_quoted_brace b bs e = apart (λ z. is_literal in_quoted_brace z bs) b 34 e refl
no_double in_body_brace b bs e = refl
no_double in_body_pattern b bs e = refl

bare_or : (c : Context) (bs : Text) → is_literal c 92 bs ≡ true → is_bare_backslash c bs ≡ true
unfolding is_literal is_plain is_active
bare_or in_word bs e = e
bare_or in_double bs e = e
bare_or in_body bs e = e
bare_or in_brace bs e = e
bare_or in_quoted_brace bs e = e
bare_or in_body_brace bs e = e
bare_or in_body_pattern bs e = e

two : (a : Bool) → (a || false) ≡ true → a ≡ true
two true e = refl
two false e = absurd cc

dollar_or : (c : Context) (bs : Text) → is_literal c 36 bs ≡ true → is_bare_dollar bs ≡ true
unfolding is_literal is_plain is_active
dollar_or in_word bs e = two (is_bare_dollar bs) e
dollar_or in_double bs e = two (is_bare_dollar bs) e
dollar_or in_body bs e = two (is_bare_dollar bs) e
dollar_or in_brace bs e = two (is_bare_dollar bs) e
dollar_or in_quoted_brace bs e = two (is_bare_dollar bs) e
dollar_or in_body_brace bs e = two (is_bare_dollar bs) e
dollar_or in_body_pattern bs e = two (is_bare_dollar bs) e

bare_unescaped : (c : Context) (bs : Text) → is_bare_backslash c bs ≡ true → starts (is_escaped c) bs ≡ false
bare_unescaped c [] e = absurd cc
bare_unescaped c (b ∷ bs) e = (neither (is_escaped c b) (b == 0) (isnt (is_escaped c b || b == 0) e)).0

no_escape_at : (c : Context) (t : Bool) (b : ℕ) (bs : Text) → (b == 92) ≡ t → is_literal c b bs ≡ true → escaped_behind c (b ∷ bs) ≡ false
no_escape_at c false b bs is e = rw is refl
no_escape_at c true b bs is e = rw is (bare_unescaped c bs (bare_or c bs (subst (λ (z : ℕ). is_literal c z bs ≡ true) (Rattle.std.proofs.Common.eqb-true b 92 is) e)))

no_expansion_at : (c : Context) (t : Bool) (b : ℕ) (bs : Text) → (b == 36) ≡ t → is_literal c b bs ≡ true → dollar_behind (b ∷ bs) ≡ false
no_expansion_at c false b bs is e = rw is refl
no_expansion_at c true b bs is e = rw (is, dollar_or c bs (subst (λ (z : ℕ). is_literal c z bs ≡ true) (Rattle.std.proofs.Common.eqb-true b 36 is) e)) refl

-- ---- bytes that stand for themselves

pub plain_says : (k : Known) (c : Context) (d : ℕ) (q : List Sum) (g : Due) (b : ℕ) (bs t : Text) → is_literal_text c (b ∷ bs) ≡ true → Stops c (b ∷ bs) t →
    Says k (rule (table.part c)) (st d q g ((b ∷ bs) ++ t)) (st d q g t) (part_node (plain (b ∷ bs)) ∷ [])
unfolding run_step holds
plain_says k c d q g b bs t e s =
    let x = both (not (is_join b bs) && is_literal c b bs) (is_literal_text c bs) e in
    let y = both (not (is_join b bs)) (is_literal c b bs) x.0 in
    let l = literal_more c b bs t y.1 x.1 s in
    let j : clear (b ∷ (bs ++ t)) ≡ b ∷ (bs ++ t) = clear_is (b ∷ (bs ++ t)) (literal_joins c b bs t e) in
    by_rule (table.part c) refl
    (the_second (rw j (no_single c b (bs ++ t) l))
    (the_second (rw j (no_double c b (bs ++ t) l))
    (the_second (rw j (no_escape_at c (b == 92) b (bs ++ t) refl l))
    (the_second (rw j (no_expansion_at c (b == 36) b (bs ++ t) refl l))
    (said_step (rw (j, literal_back c (b ∷ bs) t e s) refl))))))

-- ---- quoted bytes

quoted_back : (text t : Text) → list_all is_exact_byte text ≡ true → quoted_run (text ++ 39 ∷ t) ≡ Some (text, t)
unfolding quoted_run
quoted_back [] t e = refl
quoted_back (b ∷ text) t e =
    let x = both (is_exact_byte b) (list_all is_exact_byte text) e in
    let n = neither (b == 39) (b == 0) (isnt (b == 39 || b == 0) x.0) in
    rw (n.0, n.1, quoted_back text t x.1) refl

pub exact_says : (k : Known) (c : Context) (d : ℕ) (q : List Sum) (g : Due) (text t : Text) → has_single c ≡ true → list_all is_exact_byte text ≡ true →
    Says k (rule (table.part c)) (st d q g (39 ∷ (text ++ 39 ∷ t))) (st d q g t) (part_node (exact text) ∷ [])
unfolding run_step holds
exact_says k c d q g text t s e =
    let j : clear (39 ∷ (text ++ 39 ∷ t)) ≡ 39 ∷ (text ++ 39 ∷ t) = clear_is (39 ∷ (text ++ 39 ∷ t)) (no_join 39 (text ++ 39 ∷ t) refl) in
    by_rule (table.part c) refl
    (the_first (rw (j, s) refl)
    (said_step (rw (j, quoted_back text t e) refl)))

escape_joins : (b : ℕ) (t : Text) → (b == 10) ≡ false → joins (92 ∷ b ∷ t) ≡ false
escape_joins b t e = e

pub escaped_says : (k : Known) (c : Context) (d : ℕ) (q : List Sum) (g : Due) (b : ℕ) (t : Text) → is_escaped c b ≡ true → (b == 10) ≡ false →
    Says k (rule (table.part c)) (st d q g (92 ∷ b ∷ t)) (st d q g t) (part_node (exact (b ∷ [])) ∷ [])
unfolding run_step holds
escaped_says k c d q g b t s e =
    let j : clear (92 ∷ b ∷ t) ≡ 92 ∷ b ∷ t = clear_is (92 ∷ b ∷ t) (escape_joins b t e) in
    by_rule (table.part c) refl
    (the_second (rw j (and_no (has_single c)))
    (the_second (rw j (and_no (has_double c)))
    (the_first (rw (j, s) refl)
    (said_step (rw (j, s) refl)))))

-- between double quotes
pub double_says : (k : Known) (c : Context) (d : ℕ) (q : List Sum) (g h : Due) (inner t : Text) (xs : List Node) → has_double c ≡ true →
    Says k (star (unit_begins in_double) (rule (table.part in_double))) (st d q g inner) (st d q h (34 ∷ t)) xs →
    Says k (rule (table.part c)) (st d q g (34 ∷ inner)) (st d q h t) (part_node (double (parts_in xs)) ∷ [])
unfolding run_step holds
double_says k c d q g h inner t xs s a =
    let i : clear (34 ∷ inner) ≡ 34 ∷ inner = clear_is (34 ∷ inner) (no_join 34 inner refl) in
    let j : clear (34 ∷ t) ≡ 34 ∷ t = clear_is (34 ∷ t) (no_join 34 t refl) in
    by_rule (table.part c) refl
    (the_second (rw i (and_no (has_single c)))
    (the_first (rw (i, s) refl)
    (by_rule double_quotes (ap (λ (z : List Node). part_node (double (parts_in z)) ∷ []) (append-nil xs))
    (silent_step (rw i refl) then a then silent_step (rw j refl)))))

-- ---- what a `$` begins

expands_no_backslash : expands 92 ≡ false
unfolding expands Rattle.sh_grammar.specs.Bytes.is_special_param Rattle.span_text.specs.Names.begins_name
expands_no_backslash = refl

-- an expansion, by the byte behind the `$`
pub expansion_says : (k : Known) (c : Context) (d : ℕ) (q : List Sum) (g h : Due) (b : ℕ) (bs t : Text) (xs : List Node) → expands b ≡ true →
    Says k (rule (expansion c)) (st d q g (36 ∷ b ∷ bs)) (st d q h t) xs → Says k (rule (table.part c)) (st d q g (36 ∷ b ∷ bs)) (st d q h t) xs
unfolding run_step holds expands
expansion_says k c d q g h b bs t xs s a =
    let i : clear (36 ∷ b ∷ bs) ≡ 36 ∷ b ∷ bs = clear_is (36 ∷ b ∷ bs) refl in
    let j : clear (b ∷ bs) ≡ b ∷ bs = clear_is (b ∷ bs) (no_join b bs (apart expands b 92 s expands_no_backslash)) in
    by_rule (table.part c) refl
    (the_second (rw i (and_no (has_single c)))
    (the_second (rw i (and_no (has_double c)))
    (the_second (rw i refl)
    (the_first (rw (i, j, s) refl) a))))
