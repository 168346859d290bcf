-- The first line of a text.
use Rattle.std.proofs.Common.{◌≡◌, ℕ, zero, suc, ◌<◌, Bool, true, false, List, [], ◌∷◌, ◌++◌, length, get_or, take, drop, refl, ap, ◌∙◌, arith}
use Rattle.std.specs.List.{slice_split, onto_first}
use Rattle.std.proofs.lemmas.Bool.{eqb-true}
use Rattle.std.proofs.lemmas.List.Splits.{slice_split-cons_yes, slice_split-cons_no}
use Rattle.memchr.specs.Find.{Nowhere, Passes, is_byte}
use Rattle.span_text.specs.Scanning.{is_newline}

-- no newline from the start on, up to n
abbrev pub Free : List ℕ → ℕ → Type 0
Free text n = (k : ℕ) → k < n → is_newline (get_or text k 0) ≡ false

next_free : (b : ℕ) (bs : List ℕ) (n : ℕ) → Free (b ∷ bs) (suc n) → Free bs n
next_free b bs n h k lt = h (suc k) (omega arith)

pub no_newline : (text : List ℕ) → Free text (length text) → slice_split is_newline text ≡ text ∷ []
no_newline [] h = refl
no_newline (b ∷ bs) h = slice_split-cons_no is_newline b bs (h 0 (omega arith)) ∙ ap (onto_first b) (no_newline bs (next_free b bs (length bs) h))

pub at_newline : (text : List ℕ) (k : ℕ) → k < length text → Free text k → is_newline (get_or text k 0) ≡ true → slice_split is_newline text ≡ take k text ∷ slice_split is_newline (drop (suc k) text)
at_newline [] k lt h e = absurd (omega arith)
at_newline (b ∷ bs) zero lt h e = slice_split-cons_yes is_newline b bs e
at_newline (b ∷ bs) (suc k) lt h e = slice_split-cons_no is_newline b bs (h 0 (omega arith)) ∙ ap (onto_first b) (at_newline bs k (omega arith) (next_free b bs k h) e)

-- the text around a newline
pub around : (text : List ℕ) (k : ℕ) → k < length text → is_newline (get_or text k 0) ≡ true → text ≡ take k text ++ 10 ∷ drop (suc k) text
unfolding is_newline
around [] k lt e = absurd (omega arith)
around (b ∷ bs) zero lt e = ap (λ (x : ℕ). x ∷ bs) (eqb-true _ _ e)
around (b ∷ bs) (suc k) lt e = ap (λ (l : List ℕ). b ∷ l) (around bs k (omega arith) e)

not_so : (b : Bool) → (b ≡ true → ⊥) → b ≡ false
not_so true h = absurd (h refl)
not_so false h = refl

-- no newline is found before n
pub free_before : (text : List ℕ) (n : ℕ) → Nowhere (Passes (is_byte 10) text) 0 n → Free text n
unfolding is_newline
free_before text n h k lt = not_so (is_newline (get_or text k 0)) (h k (omega arith) lt)

pub is_found : (text : List ℕ) (k : ℕ) → Passes (is_byte 10) text k → is_newline (get_or text k 0) ≡ true
unfolding is_newline
is_found text k h = h

pub one_more : (k : ℕ) (l : List ℕ) → drop 1 (drop k l) ≡ drop (suc k) l
one_more zero l = refl
one_more (suc k) [] = refl
one_more (suc k) (b ∷ bs) = one_more k bs
