-- Texts that cover one another, one after another, and the least free number.
use Rattle.std.proofs.Common.{◌≡◌, ℕ, ◌+◌, ◌<◌, ◌≤◌, ◌-◌, Bool, true, false, ◌||◌, [], ◌∷◌, ◌++◌, Some, refl, sym, ap, ◌∙◌, ◌⊎◌, inl, inr, append_assoc, arith}
use Rattle.std.specs.Prelude.{zero, suc, ◌==◌, if◌then◌else◌}
use Rattle.sh_grammar.specs.Bytes.{Text}
use Rattle.sh_printing.specs.Delimiters.{Sight, sight, first_sight, next_sight, one_more, has_line, has_found, is_whole, numbered, free_from, tries}
use Rattle.sh_printer.specs.Covers.{seen, Covers}
use Rattle.sh_printer.proofs.Searches.{sight_append}

pub covers_none : (x : Text) (n : ℕ) → Covers x x n n
covers_none x n = record {
  up = omega arith;
  small = λ e. e;
  same = λ k lt le z. refl;
  found = λ k lt le less z. absurd (omega arith);
}

pub below_or_not : (n m : ℕ) → (n < m) ⊎ (m ≤ n)
below_or_not n zero = inr (omega arith)
below_or_not zero (suc m) = inl (omega arith)
below_or_not (suc n) (suc m) = elim (below_or_not n m) [ inl lt ↦ inl (omega arith) | inr le ↦ inr (omega arith) ]

found_by : (name : Text) (s : Sight) (b : ℕ) (newline : Bool) → s.found ≡ true → (if◌then◌else◌ {A = Sight} newline (record { rest = Some name; found = s.found || is_whole s.rest }) (record { rest = one_more b s.rest; found = s.found })).found ≡ true
found_by name s b true e = rw e refl
found_by name s b false e = e

-- what was found stays found
pub stays_found : (name : Text) (s : Sight) (text : Text) → s.found ≡ true → (sight name s text).found ≡ true
unfolding sight
stays_found name s [] e = e
stays_found name s (b ∷ bs) e = stays_found name (next_sight name s b) bs (found_by name s b (b == 10) e)

pub seen_then : (n : ℕ) (z x : Text) → seen n (z ++ x) ≡ sight (numbered n) (seen n z) x
seen_then n z x = sight_append (numbered n) (first_sight (numbered n)) z x

seen_both : (n : ℕ) (z x y : Text) → seen n (z ++ (x ++ y)) ≡ sight (numbered n) (seen n (z ++ x)) y
seen_both n z x y = ap (seen n) (sym (append_assoc z x y)) ∙ seen_then n (z ++ x) y

pub covers_then : (x y u v : Text) (i j k : ℕ) → Covers x y i j → Covers u v j k → Covers (x ++ u) (y ++ v) i k
covers_then x y u v i j k p q = record {
  up = omega (arith, p.up, q.up);
  small = λ e. q.small (p.small e);
  same = λ n lt le z.
      seen_both n z x u
      ∙ ap (λ (s : Sight). sight (numbered n) s u) (p.same n lt (omega (arith, q.up)) z)
      ∙ sym (seen_then n (z ++ y) u)
      ∙ q.same n lt le (z ++ y)
      ∙ ap (seen n) (append_assoc z y v);
  found = λ n lt le less z. elim (below_or_not n j) [
    | inl l ↦ rw (seen_both n z x u) (stays_found (numbered n) (seen n (z ++ x)) u (p.found n lt le l z))
    | inr h ↦ rw (sym (append_assoc z x u)) (q.found n lt h less (z ++ x))
  ];
}

pub covers_as : (x y u v : Text) (i j : ℕ) → Covers x y i j → x ≡ u → y ≡ v → Covers u v i j
covers_as x y u v i j p e f = rw (sym e, sym f) p

-- ---- the least free number

found_line : (n : ℕ) (text : Text) → (seen n text).found ≡ true → has_line (numbered n) text ≡ true
found_line n text e = rw e refl

pub free_stop : (more n : ℕ) (text : Text) → has_line (numbered n) text ≡ false → free_from (suc more) n text ≡ n
unfolding free_from
free_stop more n text e = rw e refl

pub free_more : (more n : ℕ) (text : Text) → has_line (numbered n) text ≡ true → free_from (suc more) n text ≡ free_from more (n + 1) text
unfolding free_from
free_more more n text e = rw e refl

pub free_end : (n : ℕ) (text : Text) → free_from 0 n text ≡ n
unfolding free_from
free_end n text = refl

as_many : (m n g : ℕ) (text : Text) (k h : ℕ) → m ≡ k → n ≡ h → free_from m n text ≡ free_from k h text
as_many m n g text k h e f = rw (e, f) refl

-- each number before this one is a line
pub free_skip : (m n g : ℕ) (text : Text) → n ≤ g → g ≤ n + m → ((i : ℕ) → n ≤ i → i < g → has_line (numbered i) text ≡ true) → free_from m n text ≡ free_from ((n + m) - g) g text
free_skip zero n g text le to all = as_many zero n g text ((n + zero) - g) g (omega arith) (omega arith)
free_skip (suc m) n g text le to all = elim (below_or_not n g) [
  | inl lt ↦ free_more m n text (all n (omega arith) lt) ∙ free_skip m (n + 1) g text (omega arith) (omega arith) (λ i h k. all i (omega arith) k) ∙ as_many (((n + 1) + m) - g) g g text ((n + suc m) - g) g (omega arith) refl
  | inr ge ↦ as_many (suc m) n g text ((n + suc m) - g) g (omega arith) (omega arith)
]

free_same_by : (m n : ℕ) (x y : Text) (line : Bool) → has_line (numbered n) x ≡ line → has_line (numbered n) y ≡ line → free_from m (n + 1) x ≡ free_from m (n + 1) y → free_from (suc m) n x ≡ free_from (suc m) n y
free_same_by m n x y true e f k = free_more m n x e ∙ k ∙ sym (free_more m n y f)
free_same_by m n x y false e f k = free_stop m n x e ∙ sym (free_stop m n y f)

pub free_same : (m n : ℕ) (x y : Text) → ((i : ℕ) → n ≤ i → i < n + m → has_line (numbered i) x ≡ has_line (numbered i) y) → free_from m n x ≡ free_from m n y
free_same zero n x y all = free_end n x ∙ sym (free_end n y)
free_same (suc m) n x y all = free_same_by m n x y (has_line (numbered n) y) (all n (omega arith) (omega arith)) refl (free_same m (n + 1) x y (λ i h k. all i (omega arith) (omega arith)))

-- what is found behind the bodies inside of a text is its least free number
pub covers_free : (x y : Text) (g : ℕ) → Covers x y 0 g → free_from (tries - g) g y ≡ free_from tries 0 x
covers_free x y g p =
    let le : g ≤ tries = p.small (omega arith) in
    let skip : free_from tries 0 x ≡ free_from ((0 + tries) - g) g x = free_skip tries 0 g x (omega arith) (omega arith) (λ i h k. found_line i x (p.found i (omega arith) (omega arith) k [])) in
    let same : free_from (tries - g) g x ≡ free_from (tries - g) g y = free_same (tries - g) g x y (λ i h k. ap has_found (p.same i (omega arith) h [])) in
    sym same ∙ as_many (tries - g) g g x ((0 + tries) - g) g (omega arith) refl ∙ sym skip
