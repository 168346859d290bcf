-- What stands between `'..'` and between `$'..'` (Bash manual, sections 3.1.2.2 and 3.1.2.4).
use Rattle.std.specs.Prelude.{ℕ, suc, ◌+◌, ◌-◌, ◌*◌, Bool, ◌&&◌, ◌==◌, nat_le, [], ◌∷◌, length, Option, Some, None, if◌then◌else◌}
use Rattle.bash_grammar.specs.Bytes.{Text}

infixl 10 ◌>>=◌
abbrev pub ◌>>=◌ : {A B : Type 0} → Option A → (A → Option B) → Option B
(Some x) >>= f = f x
None >>= f = None

-- the bytes up to the closing quote, and what follows it
unfoldable pub quoted_run : Text → Option (Text × Text)
quoted_run [] = None
quoted_run (b ∷ bs) = if b == 39 then Some ([], bs) else (quoted_run bs >>= λ x. Some (b ∷ x.0, x.1))

-- ---- `$'..'`

-- Its bytes; how many were ahead at its first escape that isn't one; and what follows the closing quote.
pub record Ansi : Type 0 where
  pub text : Text
  pub bad : Option ℕ
  pub rest : Text

-- Where reading is. Each but the first has how many bytes were ahead at the backslash.
pub data Escape : Type 0 where
  outside : Escape
  kept : ℕ → Escape
  -- so many digits, and their value
  octal : (at count value : ℕ) → Escape
  hexadecimal : (at count value : ℕ) → Escape

abbrev pub says : ℕ → Option Ansi → Option Ansi
says b x = x >>= λ a. Some (record a { text = b ∷ a.text })

-- an escape that isn't one, at the place where so many bytes were ahead
abbrev pub is_bad : ℕ → Option Ansi → Option Ansi
is_bad at x = x >>= λ a. Some (record a { bad = Some at })

-- values from 1 to 255
abbrev pub says_value : ℕ → ℕ → Option Ansi → Option Ansi
says_value at value x = if nat_le 1 value && nat_le value 255 then says value x else is_bad at x

abbrev pub or_next : Option ℕ → Option ℕ → Option ℕ
or_next (Some x) y = Some x
or_next None y = y

abbrev pub on : ℕ → ℕ → ℕ → Option ℕ → Option ℕ
on b k value other = if b == k then Some value else other

-- the byte that a letter behind a backslash stands for
unfoldable pub letter : ℕ → Option ℕ
letter b = on b 97 7 (on b 98 8 (on b 101 27 (on b 69 27 (on b 102 12 (on b 110 10 (on b 114 13 (on b 116 9 (on b 118 11 (on b 92 92 (on b 39 39 (on b 34 34 (on b 63 63 None))))))))))))

abbrev pub is_octal : ℕ → Bool
is_octal b = nat_le 48 b && nat_le b 55

-- the value of a hexadecimal digit
abbrev pub digit_of : ℕ → Option ℕ
digit_of b = if nat_le 48 b && nat_le b 57 then Some (b - 48) else (if nat_le 97 b && nat_le b 102 then Some (b - 87) else (if nat_le 65 b && nat_le b 70 then Some (b - 55) else None))

abbrev pub cased : {A B : Type 0} → Option A → (A → B) → B → B
cased (Some x) f other = f x
cased None f other = other

-- a byte outside of escapes, of so many ahead
abbrev pub ordinary : ℕ → ℕ → Text → (Escape → Option Ansi) → Option Ansi
ordinary b ahead bs further = if b == 39 then Some (record { text = []; bad = None; rest = bs }) else (if b == 92 then further (kept ahead) else says b (further outside))

unfoldable pub ansi_from : Escape → Text → Option Ansi
ansi_from e [] = None
ansi_from outside (b ∷ bs) = ordinary b (suc (length bs)) bs (λ e. ansi_from e bs)
ansi_from (kept at) (b ∷ bs) = cased (letter b) (λ v. says v (ansi_from outside bs))
    (if is_octal b then ansi_from (octal at 1 (b - 48)) bs else (if b == 120 then ansi_from (hexadecimal at 0 0) bs else is_bad at (ansi_from outside bs)))
ansi_from (octal at n value) (b ∷ bs) = if is_octal b && nat_le n 2 then ansi_from (octal at (suc n) (8 * value + (b - 48))) bs else says_value at value (ordinary b (suc (length bs)) bs (λ e. ansi_from e bs))
ansi_from (hexadecimal at n value) (b ∷ bs) = cased (if nat_le n 1 then digit_of b else None) (λ d. ansi_from (hexadecimal at (suc n) (16 * value + d)) bs)
    (says_value at value (ordinary b (suc (length bs)) bs (λ e. ansi_from e bs)))
