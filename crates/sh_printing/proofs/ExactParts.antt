-- Parts of words that were read fit where they stand: bytes that stand for themselves, quotes.
use Rattle.std.proofs.Common.{◌≡◌, ℕ, Bool, true, false, List, [], ◌∷◌, ◌++◌, refl, sym, ap, subst, ◌∙◌, eqb-true}
use Rattle.std.specs.Prelude.{◌||◌, ◌&&◌, not, ◌==◌}
use Rattle.std.specs.List.{list_all}
use Rattle.std.proofs.lemmas.Bool.{false≢true}
use Rattle.span_text.specs.Names.{begins_name, continues_name}
use Rattle.text_grammar.specs.Grammar.{Leaf}
use Rattle.text_grammar.specs.Values.{leaf_kids}
use Rattle.sh_grammar.specs.Shape as shape
use Rattle.sh_grammar.specs.Shape.{plain, exact, double, tilde, param, subst as listing, arith, no_part, part}
use Rattle.sh_grammar.specs.Bytes.{Text, Context, is_join, clear, starts, expands, is_special_param, is_escaped, in_word, in_double, in_body, in_brace, in_quoted_brace, in_body_brace, in_body_pattern, has_single, is_literal, literal_run, unit_starts}
use Rattle.sh_grammar.specs.State.{State, Node, part_node}
use Rattle.sh_grammar.specs.Steps.{Known, run_step, behind, escaped_read, quoted_run, literal_read}
use Rattle.sh_grammar.specs.Table.{Step}
use Rattle.sh_grammar.specs.Table as table
use Rattle.sh_grammar.proofs.Tools.{If, then, chosen_by, if_some}
use Rattle.sh_printing.specs.Marks.{is_quote}
use Rattle.sh_printing.specs.Spellable.{ends_with, is_unjoined, keeps, is_exact_byte, exact_fits_by}
use Rattle.sh_printing.specs.Printing.{continued}
use Rattle.sh_printing.specs.Printable.{is_plain_part, is_expansion, first_is, plain_fits, part_fits}
use Rattle.sh_printing.proofs.BackBytes.{both, isnt, joins, clear_is, goes_at}
use Rattle.sh_printing.proofs.ExactBytes.{clear_free, clear_twice, is_stuck, unit_stuck, Ran, literal_ran}
use Rattle.sh_printing.proofs.ExactRules.{Stepped}
use Rattle.sh_printing.proofs.ExactStates.{Fine, Unjoined, Clean}
use Rattle.sh_printing.proofs.ExactTails.{clear_ends}
use Rattle.sh_printing.proofs.ExactBodies.{unjoined_tails, unjoined_after}

-- ---- what stands ahead

-- the bytes that a part begins with
abbrev pub Begins : Context → shape.Part → Text → Type 0
Begins c (plain []) t = ⊥
Begins c (plain (b ∷ bs)) t = (starts (λ z. z == b) t ≡ true) × (goes_at (is_literal c) t ≡ true)
Begins c (exact text) t = starts (λ z. z == 39 || z == 92) t ≡ true
Begins c (double ps) t = starts (λ z. z == 34) t ≡ true
Begins c tilde t = ⊥
Begins c (param p o) t = starts (λ z. z == 36) t ≡ true
Begins c (listing s) t = starts (λ z. z == 36) t ≡ true
Begins c (arith e ws) t = starts (λ z. z == 36) t ≡ true

-- parts begin here, or something else does
abbrev pub Fronts : Context → shape.Parts → Text → Type 0
Fronts c no_part t = (unit_starts c t ≡ false) × (starts (is_stuck c) t ≡ false)
Fronts c (part p ps) t = (unit_starts c t ≡ true) × Begins c p t

-- where more of a name stands behind, more of a name follows
abbrev pub NotOn : shape.Parts → Text → Type 0
NotOn behind t = continued behind ≡ true → starts continues_name t ≡ true

pub fronts_free : (c : Context) (ps : shape.Parts) (t : Text) → Fronts c ps t → starts (is_stuck c) t ≡ false
fronts_free c no_part t f = f.1
fronts_free c (part p ps) t f = unit_stuck c t f.0

pub same_byte : (p : ℕ → Bool) (b : ℕ) (t : Text) → starts (λ z. z == b) t ≡ true → starts p t ≡ p b
same_byte p b [] e = absurd (false≢true e)
same_byte p b (x ∷ xs) e = ap p (eqb-true x b e)

pub fronts_on : (c : Context) (ps : shape.Parts) (t : Text) → Fronts c ps t → NotOn ps t
fronts_on c no_part t f e = absurd (false≢true e)
fronts_on c (part (plain []) ps) t f e = absurd f.1
fronts_on c (part (plain (b ∷ bs)) ps) t f e = same_byte continues_name b t f.1.0 ∙ e
fronts_on c (part (exact text) ps) t f e = absurd (false≢true e)
fronts_on c (part (double qs) ps) t f e = absurd (false≢true e)
fronts_on c (part tilde ps) t f e = absurd (false≢true e)
fronts_on c (part (param p o) ps) t f e = absurd (false≢true e)
fronts_on c (part (listing s) ps) t f e = absurd (false≢true e)
fronts_on c (part (arith x ws) ps) t f e = absurd (false≢true e)

-- ---- claims

-- bytes that stand for themselves are all that do so here
abbrev pub PlainRun : Context → shape.Part → State → State → Type 0
PlainRun c (plain text) s e = literal_run c (clear s.bytes) ≡ (text, e.bytes)
PlainRun c (exact text) s e = Unit {0}
PlainRun c (double ps) s e = Unit {0}
PlainRun c tilde s e = Unit {0}
PlainRun c (param p o) s e = Unit {0}
PlainRun c (listing x) s e = Unit {0}
PlainRun c (arith x ws) s e = Unit {0}

-- a part that was read, before whatever stands ahead of its end
pub record PartOk (inside : Bool) (d : ℕ) (c : Context) (p : shape.Part) (s e : State) : Type 0 where
  pub begins : Begins c p (clear s.bytes)
  pub runs : PlainRun c p s e
  pub fits : (behind : shape.Parts) → Fronts c behind (clear e.bytes) → part_fits inside d c behind p ≡ true

pub record OnePart (inside : Bool) (d : ℕ) (c : Context) (s e : State) (vs : List Node) : Type 0 where
  pub one : shape.Part
  pub is : vs ≡ part_node one ∷ []
  pub ok : PartOk inside d c one s e

pub record OneExpansion (inside : Bool) (d : ℕ) (c : Context) (s e : State) (vs : List Node) : Type 0 where
  pub one : shape.Part
  pub is : vs ≡ part_node one ∷ []
  pub expands : is_expansion one ≡ true
  pub fits : (behind : shape.Parts) → NotOn behind (clear e.bytes) → part_fits inside d c behind one ≡ true

-- what a step gave
pub by_step : {k : Known} {F : State → Type 0} {p : Step} {d : ℕ} {s e : State} {vs : List Node} (P : State → List Node → Type 0) →
    If (λ (x : Leaf Node × State). P x.1 (leaf_kids x.0)) (run_step k p s) → Stepped k F p d s e vs → P e vs
by_step {k} {F} {p = p} {s = s} {e = e} P h st =
    subst (P e) (sym st.is) (if_some (λ (x : Leaf Node × State). P x.1 (leaf_kids x.0)) (run_step k p s) (st.gave, e) st.reads h)

-- ---- bytes that stand for themselves

no_plain : (c : Context) (ps : shape.Parts) (t : Text) → Fronts c ps t → goes_at (is_literal c) t ≡ false → first_is is_plain_part ps ≡ false
no_plain c no_part t f g = refl
no_plain c (part (plain []) ps) t f g = absurd f.1
no_plain c (part (plain (b ∷ bs)) ps) t f g = absurd (false≢true (sym g ∙ f.1.1))
no_plain c (part (exact text) ps) t f g = refl
no_plain c (part (double qs) ps) t f g = refl
no_plain c (part tilde ps) t f g = refl
no_plain c (part (param p o) ps) t f g = refl
no_plain c (part (listing s) ps) t f g = refl
no_plain c (part (arith x ws) ps) t f g = refl

dollar_expands : (t : Text) → starts (λ z. z == 36) t ≡ true → starts expands t ≡ true
unfolding expands is_special_param begins_name
dollar_expands [] e = absurd (false≢true e)
dollar_expands (x ∷ xs) e = subst (λ (z : ℕ). expands z ≡ true) (sym (eqb-true x 36 e)) refl

no_expansion : (c : Context) (ps : shape.Parts) (t : Text) → Fronts c ps t → starts expands t ≡ false → first_is is_expansion ps ≡ false
no_expansion c no_part t f g = refl
no_expansion c (part (plain text) ps) t f g = refl
no_expansion c (part (exact text) ps) t f g = refl
no_expansion c (part (double qs) ps) t f g = refl
no_expansion c (part tilde ps) t f g = refl
no_expansion c (part (param p o) ps) t f g = absurd (false≢true (sym g ∙ dollar_expands t f.1))
no_expansion c (part (listing s) ps) t f g = absurd (false≢true (sym g ∙ dollar_expands t f.1))
no_expansion c (part (arith x ws) ps) t f g = absurd (false≢true (sym g ∙ dollar_expands t f.1))

not_dollar : (a b : Bool) → (a ≡ true → b ≡ false) → not (a && b) ≡ true
not_dollar true b h = rw (h refl) refl
not_dollar false b h = refl

-- a run fits before what stands ahead
pub run_fits : (c : Context) (cleared : Text) (b : ℕ) (bs rest : Text) (behind : shape.Parts) → Ran c cleared (b ∷ bs) rest → Fronts c behind (clear rest) → plain_fits c behind (b ∷ bs) ≡ true
run_fits c cleared b bs rest behind r f =
    let same : clear rest ≡ rest = clear_is rest r.rest_free in
    let g : Fronts c behind rest = subst (Fronts c behind) same f in
    let x = r.literal (fronts_free c behind rest g) in
    let y = no_plain c behind rest g r.rest_ends in
    let z = not_dollar (ends_with 36 (b ∷ bs)) (first_is is_expansion behind) (λ e. no_expansion c behind rest g (r.dollar e)) in
    rw (x, y, z) refl

literal_gives : (i : Bool) (d : ℕ) (c : Context) (s : State) (text rest : Text) → literal_run c (clear s.bytes) ≡ (text, rest) → Ran c (clear s.bytes) text rest →
    If (λ (x : Leaf Node × State). OnePart i d c s x.1 (leaf_kids x.0)) (literal_read s (text, rest))
literal_gives i d c s [] rest is r = tt
literal_gives i d c s (b ∷ bs) rest is r =
    record { one = plain (b ∷ bs); is = refl; ok = record { begins = r.front; runs = is; fits = λ behind f. run_fits c (clear s.bytes) b bs rest behind r f } }

pub literal_part : (k : Known) (i : Bool) (d : ℕ) (c : Context) (s e : State) (vs : List Node) → Stepped k (Fine k i) (table.literal c) d s e vs → OnePart i d c s e vs
unfolding run_step
literal_part k i d c s e vs st =
    let r = subst (λ (z : Text). Ran c z (literal_run c (clear s.bytes)).0 (literal_run c (clear s.bytes)).1) (clear_twice s.bytes) (literal_ran c (clear s.bytes)) in
    by_step (OnePart i d c s) (literal_gives i d c s (literal_run c (clear s.bytes)).0 (literal_run c (clear s.bytes)).1 refl r) st

-- ---- quotes

pub behind_is : (b : ℕ) (t : Text) → If (λ (z : Text). t ≡ b ∷ z) (behind b t)
behind_is b [] = tt
behind_is b (x ∷ xs) = chosen_by (If (λ (z : Text). x ∷ xs ≡ b ∷ z)) (x == b) _ _ (λ e. ap (λ (y : ℕ). y ∷ xs) (eqb-true x b e)) (λ e. tt)

no_join_front : (b : ℕ) (text rest : Text) → is_join b (text ++ rest) ≡ false → is_join b text ≡ false
no_join_front b [] rest e = refl
no_join_front b (c ∷ cs) rest e = e

-- the front of what has no joins has none
front_kept : (q : Bool) (text rest : Text) → is_unjoined q (text ++ rest) ≡ true → is_unjoined q text ≡ true
front_kept true [] rest e = refl
front_kept false [] rest e = refl
front_kept true (b ∷ bs) rest e = front_kept false bs rest e
front_kept false (b ∷ bs) rest e =
    let x = both (not (is_join b (bs ++ rest))) (is_unjoined (b == 92) (bs ++ rest)) e in
    rw (no_join_front b bs rest (isnt (is_join b (bs ++ rest)) x.0), front_kept (b == 92) bs rest x.1) refl

record Quoted (bytes text rest : Text) : Type 0 where
  each : list_all is_exact_byte text ≡ true
  is : bytes ≡ text ++ 39 ∷ rest

quoted_is : (bytes : Text) → If (λ (x : Text × Text). Quoted bytes x.0 x.1) (quoted_run bytes)
unfolding quoted_run
quoted_is [] = tt
quoted_is (b ∷ bs) =
    chosen_by (If (λ (x : Text × Text). Quoted (b ∷ bs) x.0 x.1)) (b == 39) _ _ (λ e. record { each = refl; is = ap (λ (z : ℕ). z ∷ bs) (eqb-true b 39 e) })
    (λ e. chosen_by (If (λ (x : Text × Text). Quoted (b ∷ bs) x.0 x.1)) (b == 0) _ _ (λ f. tt)
    (λ f. then (λ (x : Text × Text). Quoted bs x.0 x.1) (λ (x : Text × Text). Quoted (b ∷ bs) x.0 x.1) (quoted_run bs) _ (quoted_is bs)
    (λ x h. record { each = rw (e, f) h.each; is = ap (λ (z : Text). b ∷ z) h.is })))

-- what is quoted has no joins where there are none
pub quoted_kept : (i : Bool) (bytes text rest : Text) → Clean i bytes → clear bytes ≡ 39 ∷ (text ++ 39 ∷ rest) → keeps i text ≡ true
quoted_kept false bytes text rest e is = refl
quoted_kept true bytes text rest e is =
    front_kept false text (39 ∷ rest) (unjoined_after 39 (text ++ 39 ∷ rest) (subst Unjoined is (clear_ends Unjoined unjoined_tails bytes e.0)) refl)

or_second : (a b : Bool) → b ≡ true → (a || b) ≡ true
or_second true b e = refl
or_second false b e = e

pub exact_part : (k : Known) (i : Bool) (d : ℕ) (c : Context) (s e : State) (vs : List Node) → has_single c ≡ true → Fine k i s → Stepped k (Fine k i) table.exact d s e vs → OnePart i d c s e vs
unfolding run_step
exact_part k i d c s e vs single fine st =
    by_step (OnePart i d c s)
    (then (λ (z : Text). clear s.bytes ≡ 39 ∷ z) (λ (x : Leaf Node × State). OnePart i d c s x.1 (leaf_kids x.0)) (behind 39 (clear s.bytes)) _ (behind_is 39 (clear s.bytes))
    (λ rest h. then (λ (x : Text × Text). Quoted rest x.0 x.1) (λ (x : Leaf Node × State). OnePart i d c s x.1 (leaf_kids x.0)) (quoted_run rest) _ (quoted_is rest)
    (λ x q. record {
      one = exact x.0;
      is = refl;
      ok = record {
        begins = subst (λ (z : Text). starts (λ y. y == 39 || y == 92) z ≡ true) (sym h) refl;
        runs = tt;
        fits = λ behind f. rw single (or_second (is_quote x.0) (list_all is_exact_byte x.0 && keeps i x.0) (rw (q.each, quoted_kept i s.bytes x.0 x.1 fine.0.clean (h ∙ ap (λ (z : Text). 39 ∷ z) q.is)) refl));
      };
    }))) st

not_nul : (c : Context) (b : ℕ) → has_single c ≡ true → is_escaped c b ≡ true → (b == 0) ≡ false
unfolding has_single is_escaped
not_nul in_word b s e = isnt (b == 0) e
not_nul in_brace b s e = isnt (b == 0) e
not_nul in_double b s e = absurd (false≢true s)
not_nul in_body b s e = absurd (false≢true s)
not_nul in_quoted_brace b s e = absurd (false≢true s)
not_nul in_body_brace b s e = absurd (false≢true s)
not_nul in_body_pattern b s e = absurd (false≢true s)

one_unjoined : (q : Bool) → is_unjoined q [] ≡ true
one_unjoined true = refl
one_unjoined false = refl

one_kept : (i : Bool) (b : ℕ) → keeps i (b ∷ []) ≡ true
one_kept false b = refl
one_kept true b = one_unjoined (b == 92)

exact_byte : (i : Bool) (b : ℕ) (p : Bool) → (b == 39) ≡ p → (b == 0) ≡ false → (p || (list_all is_exact_byte (b ∷ []) && keeps i (b ∷ []))) ≡ true
exact_byte i b true e n = refl
exact_byte i b false e n = rw (e, n, one_kept i b) refl

escaped_fits : (i : Bool) (c : Context) (b : ℕ) (p : Bool) → has_single c ≡ p → is_escaped c b ≡ true → (b == 10) ≡ false → exact_fits_by p i c (b ∷ []) ≡ true
escaped_fits i c b true s e n = exact_byte i b (b == 39) refl (not_nul c b s e)
escaped_fits i c b false s e n = rw (e, n) refl

escaped_gives : (i : Bool) (d : ℕ) (c : Context) (s : State) (rest : Text) → clear s.bytes ≡ 92 ∷ rest →
    If (λ (x : Leaf Node × State). OnePart i d c s x.1 (leaf_kids x.0)) (escaped_read c s rest)
escaped_gives i d c s [] h = tt
escaped_gives i d c s (b ∷ bs) h =
    let j : is_join 92 (b ∷ bs) ≡ false = subst (λ (z : Text). joins z ≡ false) h (clear_free s.bytes) in
    chosen_by (If (λ (x : Leaf Node × State). OnePart i d c s x.1 (leaf_kids x.0))) (is_escaped c b) _ _
    (λ e. record {
      one = exact (b ∷ []);
      is = refl;
      ok = record {
        begins = subst (λ (z : Text). starts (λ y. y == 39 || y == 92) z ≡ true) (sym h) refl;
        runs = tt;
        fits = λ behind f. escaped_fits i c b (has_single c) refl e j;
      };
    })
    (λ e. tt)

pub escaped_part : (k : Known) (i : Bool) (d : ℕ) (c : Context) (s e : State) (vs : List Node) → Stepped k (Fine k i) (table.escaped c) d s e vs → OnePart i d c s e vs
unfolding run_step
escaped_part k i d c s e vs st =
    by_step (OnePart i d c s)
    (then (λ (z : Text). clear s.bytes ≡ 92 ∷ z) (λ (x : Leaf Node × State). OnePart i d c s x.1 (leaf_kids x.0)) (behind 92 (clear s.bytes)) _ (behind_is 92 (clear s.bytes)) (λ rest h. escaped_gives i d c s rest h)) st
