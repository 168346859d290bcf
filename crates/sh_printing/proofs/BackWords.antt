-- Words read back, from their parts.
use Rattle.std.proofs.Common.{◌≡◌, ℕ, Bool, true, false, List, [], ◌∷◌, Some, refl}
use Rattle.std.specs.Prelude.{◌||◌, not, ◌==◌}
use Rattle.text_grammar.specs.Grammar.{step, star, rule}
use Rattle.sh_grammar.specs.Shape as shape
use Rattle.sh_grammar.specs.Shape.{plain, exact, double, tilde, param, subst as listing, arith, no_part, part}
use Rattle.sh_grammar.specs.Bytes.{Text, Context, in_word, clear, gap, starts, unit_starts}
use Rattle.sh_grammar.specs.Tokens.{Word, front, token, code, tilde_at, tilde_next}
use Rattle.sh_grammar.specs.State.{Sum, Node, part_node, word_node, parts_in}
use Rattle.sh_grammar.specs.Table.{to_word, unit_begins, word, value, word_parts, more_parts, pattern}
use Rattle.sh_grammar.specs.Table as table
use Rattle.sh_grammar.specs.Steps.{Known, run_step, holds}
use Rattle.sh_printing.specs.Printable.{parts_fit, behind_tilde}
use Rattle.sh_printing.proofs.BackSays.{Says, silent_step, said_step, ◌then◌, the_first, the_second, by_rule, no_more, one_more}
use Rattle.sh_printing.proofs.BackDue.{Due, st}
use Rattle.sh_printing.proofs.BackBytes.{joins, no_join, clear_is}
use Rattle.sh_printing.proofs.BackTokens.{Outside, test_is}
use Rattle.sh_printing.proofs.BackBehind.{Closes, parts_on, parts_free, word_closes}

-- the parts of a place, one behind the other
abbrev pub Parts : Known → Context → ℕ → List Sum → Due → Due → Text → Text → List Node → Type 0
Parts k c d q g h v t xs = Says k (star (unit_begins c) (rule (table.part c))) (st d q g v) (st d q h t) xs

pub no_parts : (k : Known) (c : Context) (d : ℕ) (q : List Sum) (g : Due) (t : Text) → Closes c t → Parts k c d q g g t t []
unfolding holds
no_parts k c d q g t s = no_more (rw (clear_is t s.free) s.no_unit)

pub one_part : (k : Known) (c : Context) (d : ℕ) (q : List Sum) (g m h : Due) (v w t : Text) (p : shape.Part) (xs : List Node) → joins v ≡ false → unit_starts c v ≡ true →
    Says k (rule (table.part c)) (st d q g v) (st d q m w) (part_node p ∷ []) → Parts k c d q m h w t xs → Parts k c d q g h v t (part_node p ∷ xs)
unfolding holds
one_part k c d q g m h v w t p xs f u a b = one_more (rw (clear_is v f) u) a b

-- ---- the rules

pub first_says : (k : Known) (d : ℕ) (q : List Sum) (g m h : Due) (v w t : Text) (p : shape.Part) (xs : List Node) → tilde_next v ≡ false →
    Says k (rule (table.part in_word)) (st d q g v) (st d q m w) (part_node p ∷ []) → Parts k in_word d q m h w t xs → Says k (rule word_parts) (st d q g v) (st d q h t) (part_node p ∷ xs)
unfolding holds
first_says k d q g m h v w t p xs n a b = by_rule word_parts refl (the_second n a then by_rule more_parts refl b)

pub tilde_says : (k : Known) (d : ℕ) (q : List Sum) (g h : Due) (w t : Text) (xs : List Node) → tilde_at (126 ∷ w) ≡ Some w →
    Parts k in_word d q g h w t xs → Says k (rule word_parts) (st d q g (126 ∷ w)) (st d q h t) (part_node tilde ∷ xs)
unfolding holds run_step tilde_next
tilde_says k d q g h w t xs e b =
    let j : clear (126 ∷ w) ≡ 126 ∷ w = clear_is (126 ∷ w) (no_join 126 w refl) in
    by_rule word_parts refl (the_first (rw (j, e) refl) (said_step {e = st d q g w} (rw (j, e) refl)) then by_rule more_parts refl b)

-- where a word begins
pub place_says : (k : Known) (d : ℕ) (q : List Sum) (g : Due) (bytes v : Text) → gap bytes ≡ v → front v ≡ (Word, v) → Says k (step to_word) (st d q g bytes) (st d q g v) []
unfolding run_step token code
place_says k d q g bytes v e f =
    let t : token bytes ≡ (Word, v) = rw e f in
    silent_step (rw (test_is Word Word bytes v t, e) refl)

pub word_says : (k : Known) (d : ℕ) (q : List Sum) (g h : Due) (bytes v t : Text) (xs : List Node) → gap bytes ≡ v → front v ≡ (Word, v) →
    Says k (rule word_parts) (st d q g v) (st d q h t) xs → Says k (rule word) (st d q g bytes) (st d q h t) (word_node (parts_in xs) ∷ [])
word_says k d q g h bytes v t xs e f a = by_rule word refl (place_says k d q g bytes v e f then a)

pub value_says : (k : Known) (d : ℕ) (q : List Sum) (g h : Due) (v t : Text) (xs : List Node) → Says k (rule word_parts) (st d q g v) (st d q h t) xs → Says k (rule value) (st d q g v) (st d q h t) (word_node (parts_in xs) ∷ [])
value_says k d q g h v t xs a = by_rule value refl a

pub pattern_says : (k : Known) (d : ℕ) (q : List Sum) (g m h : Due) (bytes v w t : Text) (p : shape.Part) (xs : List Node) → gap bytes ≡ v → front v ≡ (Word, v) →
    Says k (rule (table.part in_word)) (st d q g v) (st d q m w) (part_node p ∷ []) → Parts k in_word d q m h w t xs → Says k (rule pattern) (st d q g bytes) (st d q h t) (word_node (part p (parts_in xs)) ∷ [])
pattern_says k d q g m h bytes v w t p xs e f a b = by_rule pattern refl (place_says k d q g bytes v e f then a then by_rule more_parts refl b)

-- ---- tildes

-- a text that begins with no tilde
pub no_tilde : (t : Text) → joins t ≡ false → starts (λ b. b == 126) t ≡ false → tilde_next t ≡ false
unfolding tilde_next tilde_at
no_tilde [] f e = rw (clear_is [] f) refl
no_tilde (b ∷ bs) f e = rw (clear_is (b ∷ bs) f, e) refl

-- one that doesn't stand for the home directory
pub plain_tilde : (t : Text) → joins t ≡ false → starts (λ b. b == 47) t ≡ false → unit_starts in_word t ≡ true → tilde_next (126 ∷ t) ≡ false
unfolding tilde_next tilde_at
plain_tilde t f s u = rw (clear_is (126 ∷ t) (no_join 126 t refl), clear_is t f, s, u) refl

tilde_home : (t : Text) → joins t ≡ false → (starts (λ b. b == 47) t || not (unit_starts in_word t)) ≡ true → tilde_at (126 ∷ t) ≡ Some t
unfolding tilde_at
tilde_home t f e = rw (clear_is t f, e) refl

last_true : (a : Bool) → (a || true) ≡ true
last_true true = refl
last_true false = refl

-- the parts behind a tilde
pub tilde_back : (i : Bool) (d : ℕ) (opening : Text) (ps : shape.Parts) (t : Text) → behind_tilde ps ≡ true → parts_fit i d in_word ps ≡ true → Outside t → tilde_at (126 ∷ parts_on in_word opening ps t) ≡ Some (parts_on in_word opening ps t)
tilde_back i d opening no_part t b e o = tilde_home t o.free (rw o.no_unit (last_true (starts (λ b. b == 47) t)))
tilde_back i d opening (part (plain []) ps) t b e o = absurd cc
tilde_back i d opening (part (plain (c ∷ cs)) ps) t b e o =
    tilde_home (parts_on in_word opening (part (plain (c ∷ cs)) ps) t) (parts_free i d in_word opening (part (plain (c ∷ cs)) ps) t e (word_closes t o)) (rw (b) refl)
tilde_back i d opening (part (exact text) ps) t b e o = absurd cc
tilde_back i d opening (part (double qs) ps) t b e o = absurd cc
tilde_back i d opening (part tilde ps) t b e o = absurd cc
tilde_back i d opening (part (param p x) ps) t b e o = absurd cc
tilde_back i d opening (part (listing s) ps) t b e o = absurd cc
tilde_back i d opening (part (arith s ws) ps) t b e o = absurd cc
