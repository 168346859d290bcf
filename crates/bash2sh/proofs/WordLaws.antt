-- A word that is read is spelled so, and what is spelled so is read.
use Rattle.std.proofs.Common.{◌≡◌, ℕ, zero, suc, ◌<◌, ◌≤◌, true, false, cond, eqb, List, [], ◌∷◌, length, Some, None, refl, sym, ap, subst, ◌∙◌, inl, inr, arith}
use Rattle.std.proofs.lemmas.Bool.{eqb-true}
use Rattle.span_text.specs.Names.{begins_name, continues_name}
use Rattle.span_text.specs.Scanning.{starts, Run, is_plain_byte, is_exact_byte, is_quoted_byte, ends_word}
use Rattle.span_text.proofs.Runs.{Run-front, Run-is, Run-length, Run-shorter}
use Rattle.span_text.proofs.Bytes.{apart, first_is_name, plain_no_blank, marks}
use Rattle.bash_tree.specs.Shape.{Part, plain, exact, double, param, Parts, no_part, part}
use Rattle.bash_tree.specs.View.{parts_of}
use Rattle.bash2sh.specs.Spelling.{QuotedPartAt, QuotedPartsAt, PartAt, PartsAt, WordAt}
use Rattle.bash2sh.specs.Model.{◌>>=◌, run_at, param_at, quoted_run_at, quoted_part_at, is_quote, quoted_parts_at, behind, closed_by, exact_at, double_at, plain_at, part_at, parts_at}
use Rattle.bash2sh.proofs.Tools.{chosen, some_is, bind_some}

-- the parts as a list again
abbrev pub list_of : Parts → List Part
list_of no_part = []
list_of (part p ps) = p ∷ list_of ps

pub parts_of_list : (ps : Parts) → parts_of (list_of ps) ≡ ps
parts_of_list no_part = refl
parts_of_list (part p ps) = ap (part p) (parts_of_list ps)

-- ---- what is read is spelled so

param_sound : (inner : List ℕ) (x : Part × List ℕ) → param_at inner ≡ Some x → QuotedPartAt x.0 (36 ∷ inner) x.1
unfolding param_at
param_sound inner x e =
    elim (chosen (starts begins_name inner) (Some (param (run_at continues_name inner).0, (run_at continues_name inner).1)) None (Some x) e) [
      | inl h ↦ subst (λ (y : Part × List ℕ). QuotedPartAt y.0 (36 ∷ inner) y.1) (some_is (param (run_at continues_name inner).0, (run_at continues_name inner).1) x h.1) (inner, refl, h.0, Run-front continues_name inner)
      | inr h ↦ absurd cc
    ]

quoted_run_sound : (bytes : List ℕ) (x : Part × List ℕ) → quoted_run_at bytes ≡ Some x → QuotedPartAt x.0 bytes x.1
unfolding quoted_run_at
quoted_run_sound bytes x e =
    elim (chosen (starts is_quoted_byte bytes) (Some (plain (run_at is_quoted_byte bytes).0, (run_at is_quoted_byte bytes).1)) None (Some x) e) [
      | inl h ↦ subst (λ (y : Part × List ℕ). QuotedPartAt y.0 bytes y.1) (some_is (plain (run_at is_quoted_byte bytes).0, (run_at is_quoted_byte bytes).1) x h.1) (h.0, Run-front is_quoted_byte bytes)
      | inr h ↦ absurd cc
    ]

quoted_part_sound : (bytes : List ℕ) (x : Part × List ℕ) → quoted_part_at bytes ≡ Some x → QuotedPartAt x.0 bytes x.1
unfolding quoted_part_at
quoted_part_sound [] x e = absurd cc
quoted_part_sound (b ∷ rest) x e =
    elim (chosen (eqb b 36) (param_at rest) (quoted_run_at (b ∷ rest)) (Some x) e) [
      | inl h ↦ let is : b ≡ 36 = eqb-true _ _ h.0 in subst (λ (k : ℕ). QuotedPartAt x.0 (k ∷ rest) x.1) (sym is) (param_sound rest x h.1)
      | inr h ↦ quoted_run_sound (b ∷ rest) x h.1
    ]

quoted_parts_sound : (n : ℕ) (bytes : List ℕ) (x : List Part × List ℕ) → quoted_parts_at n bytes ≡ Some x → QuotedPartsAt (parts_of x.0) bytes x.1
unfolding quoted_parts_at
quoted_parts_sound zero bytes x e = absurd cc
quoted_parts_sound (suc n) bytes x e =
    elim (chosen (starts is_quote bytes) (Some ([], bytes)) (quoted_part_at bytes >>= λ p. quoted_parts_at n p.1 >>= λ ps. Some (p.0 ∷ ps.0, ps.1)) (Some x) e) [
      | inl h ↦ subst (λ (y : List Part × List ℕ). QuotedPartsAt (parts_of y.0) bytes y.1) (some_is ([], bytes) x h.1) refl
      | inr h ↦
          let a = bind_some (quoted_part_at bytes) (λ p. quoted_parts_at n p.1 >>= λ ps. Some (p.0 ∷ ps.0, ps.1)) x h.1 in
          let b = bind_some (quoted_parts_at n a.0.1) (λ ps. Some (a.0.0 ∷ ps.0, ps.1)) x a.2 in
          subst (λ (y : List Part × List ℕ). QuotedPartsAt (parts_of y.0) bytes y.1) (some_is (a.0.0 ∷ b.0.0, b.0.1) x b.2) (a.0.1, quoted_part_sound bytes a.0 a.1, quoted_parts_sound n a.0.1 b.0 b.1)
    ]

behind_is : (quote : ℕ) (bytes rest : List ℕ) → behind quote bytes ≡ Some rest → bytes ≡ quote ∷ rest
behind_is quote [] rest e = absurd cc
behind_is quote (b ∷ bs) rest e =
    elim (chosen (eqb b quote) (Some bs) None (Some rest) e) [
      | inl h ↦ let is : b ≡ quote = eqb-true _ _ h.0 in ap (λ (k : ℕ). k ∷ bs) is ∙ ap (λ (l : List ℕ). quote ∷ l) (some_is bs rest h.1)
      | inr h ↦ absurd cc
    ]

closed_is : (quote : ℕ) (p : Part) (after : List ℕ) (x : Part × List ℕ) → closed_by quote p after ≡ Some x → (p ≡ x.0) × (after ≡ quote ∷ x.1)
closed_is quote p after x e =
    let a = bind_some (behind quote after) (λ rest. Some (p, rest)) x e in
    let same = some_is (p, a.0) x a.2 in
    (ap (λ (y : Part × List ℕ). y.0) same, behind_is quote after a.0 a.1 ∙ ap (λ (y : Part × List ℕ). quote ∷ y.1) same)

exact_sound : (inner : List ℕ) (x : Part × List ℕ) → exact_at inner ≡ Some x → PartAt x.0 (39 ∷ inner) x.1
unfolding exact_at
exact_sound inner x e =
    let c = closed_is 39 (exact (run_at is_exact_byte inner).0) (run_at is_exact_byte inner).1 x e in
    subst (λ (p : Part). PartAt p (39 ∷ inner) x.1) c.0 (inner, refl, subst (λ (l : List ℕ). Run is_exact_byte (run_at is_exact_byte inner).0 inner l) c.1 (Run-front is_exact_byte inner))

double_sound : (inner : List ℕ) (x : Part × List ℕ) → double_at inner ≡ Some x → PartAt x.0 (34 ∷ inner) x.1
unfolding double_at
double_sound inner x e =
    let a = bind_some (quoted_parts_at (suc (length inner)) inner) (λ ps. closed_by 34 (double (parts_of ps.0)) ps.1) x e in
    let c = closed_is 34 (double (parts_of a.0.0)) a.0.1 x a.2 in
    subst (λ (p : Part). PartAt p (34 ∷ inner) x.1) c.0 (inner, refl, subst (λ (l : List ℕ). QuotedPartsAt (parts_of a.0.0) inner l) c.1 (quoted_parts_sound (suc (length inner)) inner a.0 a.1))

plain_sound : (bytes : List ℕ) (x : Part × List ℕ) → plain_at bytes ≡ Some x → PartAt x.0 bytes x.1
unfolding plain_at
plain_sound bytes x e =
    elim (chosen (starts is_plain_byte bytes) (Some (plain (run_at is_plain_byte bytes).0, (run_at is_plain_byte bytes).1)) None (Some x) e) [
      | inl h ↦ subst (λ (y : Part × List ℕ). PartAt y.0 bytes y.1) (some_is (plain (run_at is_plain_byte bytes).0, (run_at is_plain_byte bytes).1) x h.1) (h.0, Run-front is_plain_byte bytes)
      | inr h ↦ absurd cc
    ]

pub part_sound : (bytes : List ℕ) (x : Part × List ℕ) → part_at bytes ≡ Some x → PartAt x.0 bytes x.1
unfolding part_at
part_sound [] x e = absurd cc
part_sound (b ∷ rest) x e =
    elim (chosen (eqb b 39) (exact_at rest) (cond (eqb b 34) (double_at rest) (plain_at (b ∷ rest))) (Some x) e) [
      | inl h ↦ let is : b ≡ 39 = eqb-true _ _ h.0 in subst (λ (k : ℕ). PartAt x.0 (k ∷ rest) x.1) (sym is) (exact_sound rest x h.1)
      | inr h ↦ elim (chosen (eqb b 34) (double_at rest) (plain_at (b ∷ rest)) (Some x) h.1) [
        | inl h ↦ let is : b ≡ 34 = eqb-true _ _ h.0 in subst (λ (k : ℕ). PartAt x.0 (k ∷ rest) x.1) (sym is) (double_sound rest x h.1)
        | inr h ↦ plain_sound (b ∷ rest) x h.1
      ]
    ]

pub parts_sound : (n : ℕ) (bytes : List ℕ) (x : List Part × List ℕ) → parts_at n bytes ≡ Some x → PartsAt (parts_of x.0) bytes x.1
unfolding parts_at
parts_sound zero bytes x e = absurd cc
parts_sound (suc n) bytes x e =
    elim (chosen (ends_word bytes) (Some ([], bytes)) (part_at bytes >>= λ p. parts_at n p.1 >>= λ ps. Some (p.0 ∷ ps.0, ps.1)) (Some x) e) [
      | inl h ↦ subst (λ (y : List Part × List ℕ). PartsAt (parts_of y.0) bytes y.1) (some_is ([], bytes) x h.1) (refl, h.0)
      | inr h ↦
          let a = bind_some (part_at bytes) (λ p. parts_at n p.1 >>= λ ps. Some (p.0 ∷ ps.0, ps.1)) x h.1 in
          let b = bind_some (parts_at n a.0.1) (λ ps. Some (a.0.0 ∷ ps.0, ps.1)) x a.2 in
          subst (λ (y : List Part × List ℕ). PartsAt (parts_of y.0) bytes y.1) (some_is (a.0.0 ∷ b.0.0, b.0.1) x b.2) (a.0.1, part_sound bytes a.0 a.1, parts_sound n a.0.1 b.0 b.1)
    ]

-- ---- what is spelled takes bytes

name_starts : (bytes : List ℕ) → starts begins_name bytes ≡ true → starts continues_name bytes ≡ true
name_starts [] e = e
name_starts (b ∷ bs) e = first_is_name b e

quoted_part_shorter : (p : Part) (bytes rest : List ℕ) → QuotedPartAt p bytes rest → length rest < length bytes
quoted_part_shorter (plain text) bytes rest h = Run-shorter is_quoted_byte text bytes rest h.1 h.0
quoted_part_shorter (param name) bytes rest h = let k = ap length h.1 in let r = Run-length continues_name name h.0 rest h.3 in omega arith
quoted_part_shorter (exact text) bytes rest h = absurd h
quoted_part_shorter (double ps) bytes rest h = absurd h

pub quoted_shorter : (x : Part) (rest after : List ℕ) → quoted_part_at rest ≡ Some (x, after) → length after < length rest
quoted_shorter x rest after h = quoted_part_shorter x rest after (quoted_part_sound rest (x, after) h)

quoted_parts_shorter : (ps : Parts) (bytes rest : List ℕ) → QuotedPartsAt ps bytes rest → length rest ≤ length bytes
quoted_parts_shorter no_part bytes rest h = let k = ap length h in omega arith
quoted_parts_shorter (part p ps) bytes rest h = let a = quoted_part_shorter p bytes h.0 h.1 in let b = quoted_parts_shorter ps h.0 rest h.2 in omega arith

pub part_shorter : (p : Part) (bytes rest : List ℕ) → PartAt p bytes rest → length rest < length bytes
part_shorter (plain text) bytes rest h = Run-shorter is_plain_byte text bytes rest h.1 h.0
part_shorter (exact text) bytes rest h = let k = ap length h.1 in let r = Run-length is_exact_byte text h.0 (39 ∷ rest) h.2 in omega arith
part_shorter (double ps) bytes rest h = let k = ap length h.1 in let r = quoted_parts_shorter ps h.0 (34 ∷ rest) h.2 in omega arith
part_shorter (param name) bytes rest h = absurd h

pub parts_shorter : (ps : Parts) (bytes rest : List ℕ) → PartsAt ps bytes rest → length rest ≤ length bytes
parts_shorter no_part bytes rest h = let k = ap length h.0 in omega arith
parts_shorter (part p ps) bytes rest h = let a = part_shorter p bytes h.0 h.1 in let b = parts_shorter ps h.0 rest h.2 in omega arith

pub word_shorter : (ps : Parts) (bytes rest : List ℕ) → WordAt ps bytes rest → length rest < length bytes
word_shorter no_part bytes rest h = let same : bytes ≡ rest = h.1.0 in let yes : ends_word rest ≡ true = h.1.1 in let no : ends_word bytes ≡ false = h.0 in absurd cc
word_shorter (part p ps) bytes rest h = let a = part_shorter p bytes h.1.0 h.1.1 in let b = parts_shorter ps h.1.0 rest h.1.2 in omega arith

-- ---- what is spelled so is read

quoted_no_dollar : (b : ℕ) → is_quoted_byte b ≡ true → eqb b 36 ≡ false
quoted_no_dollar b e = apart is_quoted_byte b 36 e marks.dollar_no_quoted

quoted_no_quote : (b : ℕ) → is_quoted_byte b ≡ true → eqb b 34 ≡ false
quoted_no_quote b e = apart is_quoted_byte b 34 e marks.double_no_quoted

quoted_plain : (bytes : List ℕ) → starts is_quoted_byte bytes ≡ true → (quoted_part_at bytes ≡ quoted_run_at bytes) × (starts is_quote bytes ≡ false)
unfolding quoted_part_at
quoted_plain [] e = absurd cc
quoted_plain (b ∷ rest) e = (rw (quoted_no_dollar b e) refl, quoted_no_quote b e)

quoted_part_complete : (p : Part) (bytes rest : List ℕ) → QuotedPartAt p bytes rest → (quoted_part_at bytes ≡ Some (p, rest)) × (starts is_quote bytes ≡ false)
unfolding quoted_part_at quoted_run_at param_at
quoted_part_complete (plain text) bytes rest h =
    let k = Run-is is_quoted_byte text bytes rest h.1 in
    let q = quoted_plain bytes h.0 in
    (q.0 ∙ rw (h.0, k.0, k.1) refl, q.1)
quoted_part_complete (param name) bytes rest h =
    let k = Run-is continues_name name h.0 rest h.3 in
    (ap quoted_part_at h.1 ∙ rw (h.2, k.0, k.1) refl, ap (starts is_quote) h.1)
quoted_part_complete (exact text) bytes rest h = absurd h
quoted_part_complete (double ps) bytes rest h = absurd h

quoted_parts_complete : (ps : Parts) (bytes rest : List ℕ) (n : ℕ) → QuotedPartsAt ps bytes (34 ∷ rest) → length bytes < n → quoted_parts_at n bytes ≡ Some (list_of ps, 34 ∷ rest)
unfolding quoted_parts_at
quoted_parts_complete ps bytes rest zero h lt = absurd (omega arith)
quoted_parts_complete no_part bytes rest (suc n) h lt = ap (quoted_parts_at (suc n)) h
quoted_parts_complete (part p ps) bytes rest (suc n) h lt =
    let a = quoted_part_shorter p bytes h.0 h.1 in
    let q = quoted_part_complete p bytes h.0 h.1 in
    rw (q.1, q.0, quoted_parts_complete ps h.0 rest n h.2 (omega arith)) refl

plain_part : (bytes : List ℕ) → starts is_plain_byte bytes ≡ true → part_at bytes ≡ plain_at bytes
unfolding part_at
plain_part [] e = absurd cc
plain_part (b ∷ rest) e = rw (apart is_plain_byte b 39 e marks.quote_no_plain, apart is_plain_byte b 34 e marks.double_no_plain) refl

pub part_complete : (p : Part) (bytes rest : List ℕ) → PartAt p bytes rest → part_at bytes ≡ Some (p, rest)
unfolding part_at plain_at exact_at double_at
part_complete (plain text) bytes rest h =
    let k = Run-is is_plain_byte text bytes rest h.1 in
    plain_part bytes h.0 ∙ rw (h.0, k.0, k.1) refl
part_complete (exact text) bytes rest h =
    let k = Run-is is_exact_byte text h.0 (39 ∷ rest) h.2 in
    ap part_at h.1 ∙ rw (k.0, k.1) refl
part_complete (double ps) bytes rest h =
    ap part_at h.1 ∙ rw (quoted_parts_complete ps h.0 rest (suc (length h.0)) h.2 (omega arith), parts_of_list ps) refl
part_complete (param name) bytes rest h = absurd h

plain_goes_on : (bytes : List ℕ) → starts is_plain_byte bytes ≡ true → ends_word bytes ≡ false
plain_goes_on [] e = absurd cc
plain_goes_on (b ∷ bs) e = plain_no_blank b e

pub part_goes_on : (p : Part) (bytes rest : List ℕ) → PartAt p bytes rest → ends_word bytes ≡ false
part_goes_on (plain text) bytes rest h = plain_goes_on bytes h.0
part_goes_on (exact text) bytes rest h = ap ends_word h.1 ∙ marks.quote_no_blank
part_goes_on (double ps) bytes rest h = ap ends_word h.1 ∙ marks.double_no_blank
part_goes_on (param name) bytes rest h = absurd h

pub parts_complete : (ps : Parts) (bytes rest : List ℕ) (n : ℕ) → PartsAt ps bytes rest → length bytes < n → parts_at n bytes ≡ Some (list_of ps, rest)
unfolding parts_at
parts_complete ps bytes rest zero h lt = absurd (omega arith)
parts_complete no_part bytes rest (suc n) h lt = ap (parts_at (suc n)) h.0 ∙ rw h.1 refl
parts_complete (part p ps) bytes rest (suc n) h lt =
    let a = part_shorter p bytes h.0 h.1 in
    rw (part_goes_on p bytes h.0 h.1, part_complete p bytes h.0 h.1, parts_complete ps h.0 rest n h.2 (omega arith)) refl
