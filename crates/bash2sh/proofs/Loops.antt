-- Reading one after the other, as a loop does.
use Rattle.std.proofs.Common.{◌≡◌, ℕ, suc, ◌+◌, ◌-◌, ◌<◌, ◌≤◌, Bool, true, false, cond, eqb, List, [], ◌∷◌, ◌++◌, length, Option, Some, None, refl, sym, ap, ◌∙◌, append_assoc, arith}
use Rattle.std.proofs.lemmas.List.{append-nil, length-append}
use Rattle.span_text.specs.Scanning.{starts, is_blank, ends_word}
use Rattle.span_text.proofs.Runs.{Run-front, Run-length}
use Rattle.bash_tree.specs.Shape.{Part}
use Rattle.bash2sh.specs.declared.fault.Stop.{Stop}
use Rattle.bash2sh.specs.declared.fault.Stop.TheVariants as stop
use Rattle.bash2sh.specs.Model.{◌>>=◌, Fails, run_at, quoted_part_at, is_quote, quoted_parts_at, part_at, parts_at, word_at, words_at}
use Rattle.bash2sh.proofs.Tools.{with_front, regroup}
use Rattle.bash2sh.proofs.WordLaws.{part_sound, parts_sound, part_shorter, word_shorter}
use Rattle.bash2sh.proofs.CommandLaws.{goes_on}

-- items up to a stop, at most so many
abbrev pub Many : {A : Type 0} → (List ℕ → Option (A × List ℕ)) → (List ℕ → Bool) → (ℕ → List ℕ → Option (List A × List ℕ)) → Type 0
Many {A} item stops many = (n : ℕ) (bytes : List ℕ) → many (suc n) bytes ≡ cond (stops bytes) (Some ([], bytes)) (item bytes >>= λ p. many n p.1 >>= λ ps. Some (p.0 ∷ ps.0, ps.1))

module _ {A : Type 0} (item : List ℕ → Option (A × List ℕ)) (stops : List ℕ → Bool) (many : ℕ → List ℕ → Option (List A × List ℕ)) where
  -- what a loop over items keeps
  pub record Items (bytes rest : List ℕ) (front : List A) : Type 0 where
    pub so_far : with_front front (many (suc (length bytes) - length front) rest) ≡ many (suc (length bytes)) bytes
    pub fits : length front + length rest ≤ length bytes

  module _ (is : Many item stops many) (shorter : (x : A) (rest after : List ℕ) → item rest ≡ Some (x, after) → length after < length rest) where
    pub Items-more : (bytes rest after : List ℕ) (front : List A) (x : A) → stops rest ≡ false → item rest ≡ Some (x, after) → Items bytes rest front → Items bytes after (front ++ x ∷ [])
    Items-more bytes rest after front x e h before =
        let fits = before.fits in
        let lt = shorter x rest after h in
        let len : length (front ++ x ∷ []) ≡ length front + 1 = length-append front (x ∷ []) in
        let k : suc (length bytes) - length front ≡ suc (suc (length bytes) - length (front ++ x ∷ [])) = omega arith in
        let one : with_front front (many (suc (length bytes) - length front) rest) ≡ with_front (front ++ x ∷ []) (many (suc (length bytes) - length (front ++ x ∷ [])) after) = rw (k, is (suc (length bytes) - length (front ++ x ∷ [])) rest, e, h) (regroup front x (many (suc (length bytes) - length (front ++ x ∷ [])) after)) in
        record { so_far = sym one ∙ before.so_far; fits = omega arith }

    pub Items-fails : (s : Stop) (bytes rest : List ℕ) (front : List A) → stops rest ≡ false → Fails s (item rest) → Items bytes rest front → Fails s (many (suc (length bytes)) bytes)
    Items-fails stop.Memory bytes rest front e h before = tt
    Items-fails stop.Bad bytes rest front e h before =
        let fits = before.fits in
        let k : suc (length bytes) - length front ≡ suc (length bytes - length front) = omega arith in
        let one : with_front front (many (suc (length bytes) - length front) rest) ≡ None = rw (k, is (length bytes - length front) rest, e, h) refl in
        sym before.so_far ∙ one

    pub Items-done : (bytes rest : List ℕ) (front : List A) → stops rest ≡ true → Items bytes rest front → many (suc (length bytes)) bytes ≡ Some (front, rest)
    Items-done bytes rest front e before =
        let fits = before.fits in
        let k : suc (length bytes) - length front ≡ suc (length bytes - length front) = omega arith in
        let one : with_front front (many (suc (length bytes) - length front) rest) ≡ Some (front, rest) = rw (k, is (length bytes - length front) rest, e) (ap (λ (xs : List A). Some (xs, rest)) (append-nil front)) in
        sym before.so_far ∙ one

pub quoted_many : Many quoted_part_at (starts is_quote) quoted_parts_at
unfolding quoted_parts_at
quoted_many n bytes = refl

pub parts_many : Many part_at ends_word parts_at
unfolding parts_at
parts_many n bytes = refl

pub part_takes : (x : Part) (rest after : List ℕ) → part_at rest ≡ Some (x, after) → length after < length rest
part_takes x rest after h = part_shorter x rest after (part_sound rest (x, after) h)

-- ---- words up to the end of the line

abbrev pub with_words : {A : Type 0} → List A → Option (List A) → Option (List A)
with_words front read = read >>= λ x. Some (front ++ x)

regroup_words : {A : Type 0} (front : List A) (n : A) (read : Option (List A)) → with_words front (read >>= λ x. Some (n ∷ x)) ≡ with_words (front ++ n ∷ []) read
regroup_words {A} front n (Some x) = ap (λ (ns : List A). Some ns) (simp append_assoc)
regroup_words front n None = refl

pub record Words (bytes rest : List ℕ) (front : List (List Part)) : Type 0 where
  pub so_far : with_words front (words_at (suc (length bytes) - length front) rest) ≡ words_at (suc (length bytes)) bytes
  pub fits : length front + length rest ≤ length bytes

pub Words-smaller : (w : List Part) (rest after : List ℕ) → eqb (length (run_at is_blank rest).1) 0 ≡ false → word_at (run_at is_blank rest).1 ≡ Some (w, after) → length after < length rest
Words-smaller w rest after e h =
    let r = Run-front is_blank rest in
    let a = Run-length is_blank (run_at is_blank rest).0 rest (run_at is_blank rest).1 r in
    let b = word_shorter _ (run_at is_blank rest).1 after (goes_on (run_at is_blank rest).1 r.stops e, parts_sound (suc (length (run_at is_blank rest).1)) (run_at is_blank rest).1 (w, after) h) in
    omega arith

pub Words-more : (bytes rest after : List ℕ) (front : List (List Part)) (w : List Part) → eqb (length (run_at is_blank rest).1) 0 ≡ false → word_at (run_at is_blank rest).1 ≡ Some (w, after) → Words bytes rest front → Words bytes after (front ++ w ∷ [])
unfolding words_at
Words-more bytes rest after front w e h before =
    let fits = before.fits in
    let lt = Words-smaller w rest after e h in
    let len : length (front ++ w ∷ []) ≡ length front + 1 = length-append front (w ∷ []) in
    let k : suc (length bytes) - length front ≡ suc (suc (length bytes) - length (front ++ w ∷ [])) = omega arith in
    let one : with_words front (words_at (suc (length bytes) - length front) rest) ≡ with_words (front ++ w ∷ []) (words_at (suc (length bytes) - length (front ++ w ∷ [])) after) = rw (k, e, h) (regroup_words front w (words_at (suc (length bytes) - length (front ++ w ∷ [])) after)) in
    record { so_far = sym one ∙ before.so_far; fits = omega arith }

pub Words-fails : (s : Stop) (bytes rest : List ℕ) (front : List (List Part)) → eqb (length (run_at is_blank rest).1) 0 ≡ false → Fails s (word_at (run_at is_blank rest).1) → Words bytes rest front → Fails s (words_at (suc (length bytes)) bytes)
unfolding words_at
Words-fails stop.Memory bytes rest front e h before = tt
Words-fails stop.Bad bytes rest front e h before =
    let fits = before.fits in
    let k : suc (length bytes) - length front ≡ suc (length bytes - length front) = omega arith in
    let one : with_words front (words_at (suc (length bytes) - length front) rest) ≡ None = rw (k, e, h) refl in
    sym before.so_far ∙ one

pub Words-done : (bytes rest : List ℕ) (front : List (List Part)) → eqb (length (run_at is_blank rest).1) 0 ≡ true → Words bytes rest front → words_at (suc (length bytes)) bytes ≡ Some front
unfolding words_at
Words-done bytes rest front e before =
    let fits = before.fits in
    let k : suc (length bytes) - length front ≡ suc (length bytes - length front) = omega arith in
    let one : with_words front (words_at (suc (length bytes) - length front) rest) ≡ Some front = rw (k, e) (ap (λ (ws : List (List Part)). Some ws) (append-nil front)) in
    sym before.so_far ∙ one
