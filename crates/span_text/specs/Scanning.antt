-- Scanning: the longest front of bytes that pass a test; and the bytes of words.
use Rattle.std.specs.Prelude.{◌≡◌, ℕ, Bool, true, false, ◌||◌, ◌&&◌, not, ◌==◌, nat_le, List, [], ◌∷◌, ◌++◌}
use Rattle.span_text.specs.Names.{is_letter, is_digit}

-- the first byte passes
abbrev pub starts : (ℕ → Bool) → List ℕ → Bool
starts p [] = false
starts p (b ∷ bs) = p b

abbrev pub Each : (ℕ → Bool) → List ℕ → Type 0
Each p [] = Unit {0}
Each p (b ∷ bs) = (p b ≡ true) × Each p bs

-- text is the longest front of bytes that passes, and rest is what follows
pub record Run (p : ℕ → Bool) (text bytes rest : List ℕ) : Type 0 where
  pub whole : bytes ≡ text ++ rest
  pub each : Each p text
  pub stops : starts p rest ≡ false

unfoldable pub is_newline : ℕ → Bool
is_newline b = b == 10

-- a space or a tab
unfoldable pub is_blank : ℕ → Bool
is_blank b = b == 32 || b == 9

-- letters, digits and `_ . / : - + , @`, which stand for themselves in any word
unfoldable pub is_plain_byte : ℕ → Bool
is_plain_byte b = is_letter b || is_digit b || b == 46 || b == 47 || b == 58 || b == 45 || b == 43 || b == 44 || b == 64

-- between single quotes: all but the quote, newlines and NUL
unfoldable pub is_exact_byte : ℕ → Bool
is_exact_byte b = not (b == 39 || b == 10 || b == 0)

-- between double quotes: all but the quote, `$`, the backquote, the backslash, newlines and NUL
unfoldable pub is_quoted_byte : ℕ → Bool
is_quoted_byte b = not (b == 34 || b == 36 || b == 96 || b == 92 || b == 10 || b == 0)

-- in a comment: all but newlines and NUL
unfoldable pub is_comment_byte : ℕ → Bool
is_comment_byte b = not (b == 10 || b == 0)

-- what ends a word on its line
abbrev pub ends_word : List ℕ → Bool
ends_word [] = true
ends_word (b ∷ bs) = is_blank b
