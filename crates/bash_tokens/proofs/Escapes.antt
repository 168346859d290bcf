-- Escapes of `$'..'`, and what was read before them.
use Rattle.std.proofs.Common.{◌≡◌, ℕ, ◌+◌, ◌-◌, ◌*◌, Bool, true, false, cond, [], ◌∷◌, ◌++◌, Option, Some, None, refl, ap, ◌∙◌}
use Rattle.std.specs.Prelude.{nat_le, ◌&&◌}
use Rattle.std.proofs.lemmas.List.{append-nil}
use Rattle.bash_grammar.specs.Bytes.{Text, starts}
use Rattle.bash_grammar.specs.Quotes.{Ansi, ansi_from, outside, kept, octal, hexadecimal, says, is_bad, says_value, is_octal, digit_of, or_next}
use Rattle.bash_tokens.specs.Escapes.{joined_to, first_of, escaped}

-- behind the text's end nothing is said
nothing_at : (at v : ℕ) (t : Bool) → None ≡ cond t (says v None) (is_bad at None)
nothing_at at v true = refl
nothing_at at v false = refl

nothing : (at v : ℕ) → None ≡ says_value at v None
nothing at v = nothing_at at v (nat_le 1 v && nat_le v 255)

octal_at : (at n v : ℕ) (x y : Option Ansi) (s t : Bool) → s ≡ false → cond (s && t) x y ≡ y
octal_at at n v x y true t e = absurd cc
octal_at at n v x y false t e = refl

third_at : (x y : Option Ansi) (s : Bool) → cond (s && false) x y ≡ y
third_at x y true = refl
third_at x y false = refl

-- where no digit follows
pub octal_ends : (at n v : ℕ) (bs : Text) → starts is_octal bs ≡ false → ansi_from (octal at n v) bs ≡ says_value at v (ansi_from outside bs)
unfolding ansi_from
octal_ends at n v [] e = nothing at v
octal_ends at n v (b ∷ bs) e = octal_at at n v _ _ (is_octal b) (nat_le n 2) e

-- behind three digits
pub octal_done : (at v : ℕ) (bs : Text) → ansi_from (octal at 3 v) bs ≡ says_value at v (ansi_from outside bs)
unfolding ansi_from
octal_done at v [] = nothing at v
octal_done at v (b ∷ bs) = third_at _ _ (is_octal b)

-- a third digit
pub octal_more : (at v b : ℕ) (bs : Text) → is_octal b ≡ true → ansi_from (octal at 2 v) (b ∷ bs) ≡ says_value at (8 * v + (b - 48)) (ansi_from outside bs)
unfolding ansi_from
octal_more at v b bs e = rw e (octal_done at (8 * v + (b - 48)) bs)

abbrev is_digit_none : Option ℕ → Bool
is_digit_none None = true
is_digit_none (Some d) = false

hexadecimal_at : (at n v b : ℕ) (bs : Text) (t : Bool) → nat_le n 1 ≡ t → digit_of b ≡ None → ansi_from (hexadecimal at n v) (b ∷ bs) ≡ says_value at v (ansi_from outside (b ∷ bs))
unfolding ansi_from
hexadecimal_at at n v b bs true e d = rw (e, d) refl
hexadecimal_at at n v b bs false e d = rw e refl

pub hexadecimal_none : (at n v : ℕ) → ansi_from (hexadecimal at n v) [] ≡ says_value at v (ansi_from outside [])
unfolding ansi_from
hexadecimal_none at n v = nothing at v

pub hexadecimal_ends : (at n v b : ℕ) (bs : Text) → digit_of b ≡ None → ansi_from (hexadecimal at n v) (b ∷ bs) ≡ says_value at v (ansi_from outside (b ∷ bs))
hexadecimal_ends at n v b bs d = hexadecimal_at at n v b bs (nat_le n 1) refl d

-- behind two digits
pub hexadecimal_done : (at v : ℕ) (bs : Text) → ansi_from (hexadecimal at 2 v) bs ≡ says_value at v (ansi_from outside bs)
unfolding ansi_from
hexadecimal_done at v [] = nothing at v
hexadecimal_done at v (b ∷ bs) = refl

-- ---- behind what was read before

push_more : (text more : Text) (b : ℕ) → text ++ (b ∷ more) ≡ (text ++ b ∷ []) ++ more
push_more [] more b = refl
push_more (c ∷ text) more b = ap (λ z. c ∷ z) (push_more text more b)

or_nothing : (bad : Option ℕ) → or_next bad None ≡ bad
or_nothing None = refl
or_nothing (Some n) = refl

pub ends : (text : Text) (bad : Option ℕ) (rest : Text) → joined_to text bad (Some (record { text = []; bad = None; rest = rest })) ≡ Some (record { text = text; bad = bad; rest = rest })
ends text bad rest = rw (append-nil text, or_nothing bad) refl

pub keeps : (text : Text) (bad : Option ℕ) (b : ℕ) (x : Option Ansi) → joined_to text bad (says b x) ≡ joined_to (text ++ b ∷ []) bad x
keeps text bad b None = refl
keeps text bad b (Some a) = ap (λ z. Some (record { text = z; bad = or_next bad a.bad; rest = a.rest })) (push_more text a.text b)

pub spoils : (text : Text) (bad : Option ℕ) (at : ℕ) (x : Option Ansi) → joined_to text bad (is_bad at x) ≡ joined_to text (Some (first_of bad at)) x
spoils text bad at None = refl
spoils text None at (Some a) = refl
spoils text (Some n) at (Some a) = refl
