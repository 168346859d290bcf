-- Bytes of sh text: joins, blanks, comments, and which bytes stand for themselves (POSIX 2.2, 2.3).
use Rattle.std.specs.Prelude.{ℕ, Bool, true, false, ◌||◌, ◌&&◌, not, ◌==◌, List, [], ◌∷◌, if◌then◌else◌}
use Rattle.span_text.specs.Names.{begins_name, continues_name, is_digit}

abbrev pub Text : Type 0
Text = List ℕ

-- Where parts of words stand. Each has bytes of its own that are special there.
pub data Context : Type 0 where
  -- a word of a command
  in_word : Context
  -- between double quotes
  in_double : Context
  -- the body of a here-document that is expanded
  in_body : Context
  -- the word of `${a-w}` or `${a%w}` outside of double quotes, and the pattern of `"${a%w}"`
  in_brace : Context
  -- the word of `"${a-w}"`
  in_quoted_brace : Context
  -- the word of `${a-w}` in a here-document
  in_body_brace : Context
  -- the pattern of `${a%w}` in a here-document
  in_body_pattern : Context

-- ---- joins and gaps

-- a backslash with a newline right behind it
abbrev pub is_join : ℕ → Text → Bool
is_join b [] = false
is_join b (c ∷ bs) = b == 92 && c == 10

-- Without the joins at the front. The Bool: the byte at the front belongs to a join.
abbrev pub clear_from : Bool → Text → Text
clear_from taken [] = []
clear_from true (b ∷ bs) = clear_from false bs
clear_from false (b ∷ bs) = if is_join b bs then clear_from true bs else b ∷ bs

unfoldable pub clear : Text → Text
clear bytes = clear_from false bytes

-- behind a comment's `#`: its newline and what follows
unfoldable pub comment_end : Text → Text
comment_end [] = []
comment_end (b ∷ bs) = if b == 10 then b ∷ bs else comment_end bs

abbrev pub is_blank : ℕ → Bool
is_blank b = b == 32 || b == 9

-- without the blanks and joins before a token, and without a comment there
abbrev pub gap_from : Bool → Text → Text
gap_from taken [] = []
gap_from true (b ∷ bs) = gap_from false bs
gap_from false (b ∷ bs) = if is_blank b then gap_from false bs else (if is_join b bs then gap_from true bs else (if b == 35 then comment_end bs else b ∷ bs))

unfoldable pub gap : Text → Text
gap bytes = gap_from false bytes

-- without newlines too
abbrev pub idle_from : Bool → Bool → Text → Text
idle_from taken comment [] = []
idle_from true comment (b ∷ bs) = idle_from false comment bs
idle_from false true (b ∷ bs) = idle_from false (not (b == 10)) bs
idle_from false false (b ∷ bs) = if is_blank b || b == 10 then idle_from false false bs else (if is_join b bs then idle_from true false bs else (if b == 35 then idle_from false true bs else b ∷ bs))

unfoldable pub idle : Text → Text
idle bytes = idle_from false false bytes

abbrev pub starts : (ℕ → Bool) → Text → Bool
starts p [] = false
starts p (b ∷ bs) = p b

-- ---- runs

-- a text that was read, and the bytes behind it
abbrev pub with_byte : ℕ → Text × Text → Text × Text
with_byte b x = (b ∷ x.0, x.1)

-- The longest front of bytes that go on, with joins between them left out. A byte goes on or not by what follows it too.
abbrev pub run_from : (ℕ → Text → Bool) → Bool → Text → Text × Text
run_from goes_on taken [] = ([], [])
run_from goes_on true (b ∷ bs) = run_from goes_on false bs
run_from goes_on false (b ∷ bs) = if is_join b bs then run_from goes_on true bs else (if goes_on b bs then with_byte b (run_from goes_on false bs) else ([], b ∷ bs))

-- ---- expansions

-- `$#`, `$?`, `$@`, `$*`
unfoldable pub is_special_param : ℕ → Bool
is_special_param b = b == 35 || b == 63 || b == 64 || b == 42

-- what makes a `$` before it the beginning of an expansion, or of what isn't read: `$$`, `$!`, `$-`, a backquote
unfoldable pub expands : ℕ → Bool
expands b = begins_name b || is_digit b || is_special_param b || b == 36 || b == 33 || b == 45 || b == 123 || b == 40 || b == 96

-- behind a `$`: it stands for itself
abbrev pub is_bare_dollar : Text → Bool
is_bare_dollar bytes = not (starts expands (clear bytes))

-- ---- contexts

-- a byte that ends a word or begins an operator (2.3)
unfoldable pub is_meta : ℕ → Bool
is_meta b = is_blank b || b == 10 || b == 59 || b == 38 || b == 124 || b == 40 || b == 41 || b == 60 || b == 62

-- `$`, the backquote, the backslash and NUL stand for themselves nowhere
unfoldable pub is_active : ℕ → Bool
is_active b = b == 36 || b == 96 || b == 92 || b == 0

-- a byte that stands for itself there
unfoldable pub is_plain : Context → ℕ → Bool
is_plain in_word b = not (is_active b || is_meta b || b == 39 || b == 34)
is_plain in_double b = not (is_active b || b == 34)
is_plain in_body b = not (is_active b)
is_plain in_brace b = not (is_active b || b == 125 || b == 39 || b == 34)
is_plain in_quoted_brace b = not (is_active b || b == 125 || b == 39 || b == 34)
is_plain in_body_brace b = not (is_active b || b == 125 || b == 39 || b == 34)
is_plain in_body_pattern b = not (is_active b || b == 125 || b == 39 || b == 34)

-- a byte that a backslash quotes there; before any other the backslash stands for itself (2.2.1, 2.2.3, 2.7.4)
unfoldable pub is_escaped : Context → ℕ → Bool
is_escaped in_word b = not (b == 0)
is_escaped in_double b = b == 36 || b == 96 || b == 34 || b == 92
is_escaped in_body b = b == 36 || b == 96 || b == 92
is_escaped in_brace b = not (b == 0)
is_escaped in_quoted_brace b = b == 36 || b == 96 || b == 34 || b == 92 || b == 125
is_escaped in_body_brace b = b == 36 || b == 96 || b == 92 || b == 125
is_escaped in_body_pattern b = not (b == 0)

-- `'..'` quotes there
unfoldable pub has_single : Context → Bool
has_single in_word = true
has_single in_double = false
has_single in_body = false
has_single in_brace = true
has_single in_quoted_brace = false
has_single in_body_brace = false
has_single in_body_pattern = false

-- `".."` quotes there
unfoldable pub has_double : Context → Bool
has_double in_word = true
has_double in_double = false
has_double in_body = false
has_double in_brace = true
has_double in_quoted_brace = true
has_double in_body_brace = false
has_double in_body_pattern = false

-- where the word of `${a-w}` stands
unfoldable pub fill_context : Context → Context
fill_context in_word = in_brace
fill_context in_double = in_quoted_brace
fill_context in_body = in_body_brace
fill_context in_brace = in_brace
fill_context in_quoted_brace = in_quoted_brace
fill_context in_body_brace = in_body_brace
fill_context in_body_pattern = in_body_pattern

-- where the pattern of `${a%w}` stands
unfoldable pub trim_context : Context → Context
trim_context in_word = in_brace
trim_context in_double = in_brace
trim_context in_body = in_body_pattern
trim_context in_brace = in_brace
trim_context in_quoted_brace = in_brace
trim_context in_body_brace = in_body_pattern
trim_context in_body_pattern = in_body_pattern

-- behind a backslash: it stands for itself
abbrev pub is_bare_backslash : Context → Text → Bool
is_bare_backslash c [] = false
is_bare_backslash c (b ∷ bs) = not (is_escaped c b || b == 0)

-- a byte that stands for itself by what follows it
unfoldable pub is_literal : Context → ℕ → Text → Bool
is_literal c b bs = is_plain c b || (b == 36 && is_bare_dollar bs) || (b == 92 && is_bare_backslash c bs)

-- the bytes that stand for themselves, and what follows them
unfoldable pub literal_run : Context → Text → Text × Text
literal_run c bytes = run_from (is_literal c) false bytes

-- a part of a word begins here, or what is no part and isn't read
unfoldable pub begins_unit : Context → ℕ → Bool
begins_unit c b = is_plain c b || b == 36 || b == 92 || (b == 39 && has_single c) || (b == 34 && has_double c)

unfoldable pub unit_starts : Context → Text → Bool
unit_starts c bytes = starts (begins_unit c) bytes

-- ---- names (XBD 3.235)

unfoldable pub name_run : Text → Text × Text
name_run bytes = run_from (λ b bs. continues_name b) false bytes

unfoldable pub digit_run : Text → Text × Text
digit_run bytes = run_from (λ b bs. is_digit b) false bytes
