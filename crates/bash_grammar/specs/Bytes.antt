-- Bytes of Bash text: joins, blanks, comments, and which bytes stand for themselves (Bash manual, sections 3.1.2, 3.1.3).
use Rattle.std.specs.Prelude.{ℕ, suc, ◌-◌, Bool, true, false, ◌||◌, ◌&&◌, not, ◌==◌, List, [], ◌∷◌, if◌then◌else◌}
use Rattle.span_text.specs.Names.{begins_name, continues_name, is_digit}

abbrev pub Text : Type 0
Text = List ℕ

-- Where parts of words stand. Each has bytes of its own that end them.
pub data Spot : Type 0 where
  -- a word of a command
  words : Spot
  -- between double quotes, and in a here-document
  quotes : Spot
  -- the word of `${a-w}`
  fills : Spot
  -- the pattern of `${a%w}`
  patterns : Spot
  -- the pattern of `${a/w/b}`
  firsts : Spot
  -- what `${a/b/w}` puts in its place
  seconds : Spot
  -- a subscript
  keys : Spot
  -- `$[ ]`
  brackets : Spot
  -- the parentheses of a pattern or a regular expression
  groups : Spot
  -- behind `=~`
  regexes : Spot

-- what quoting is around them
pub data Quoting : Type 0 where
  bare : Quoting
  -- double quotes
  quoted : Quoting
  -- a here-document that is expanded
  in_body : Quoting

pub record Context : Type 0 where
  pub spot : Spot
  pub quoting : Quoting

abbrev pub context : Spot → Quoting → Context
context s q = record { spot = s; quoting = q }

abbrev pub in_word : Context
in_word = context words bare

abbrev pub in_double : Context
in_double = context quotes quoted

-- ---- joins and gaps

-- a backslash with a newline right behind it
abbrev pub is_join : ℕ → Text → Bool
is_join b [] = false
is_join b (c ∷ bs) = b == 92 && c == 10

-- Without the joins at the front. The Bool: the byte at the front belongs to a join.
abbrev pub clear_from : Bool → Text → Text
clear_from taken [] = []
clear_from true (b ∷ bs) = clear_from false bs
clear_from false (b ∷ bs) = if is_join b bs then clear_from true bs else b ∷ bs

unfoldable pub clear : Text → Text
clear bytes = clear_from false bytes

-- behind a comment's `#`: its newline and what follows
unfoldable pub comment_end : Text → Text
comment_end [] = []
comment_end (b ∷ bs) = if b == 10 then b ∷ bs else comment_end bs

abbrev pub is_blank : ℕ → Bool
is_blank b = b == 32 || b == 9

-- without the blanks and joins before a token, and without a comment there
abbrev pub gap_from : Bool → Text → Text
gap_from taken [] = []
gap_from true (b ∷ bs) = gap_from false bs
gap_from false (b ∷ bs) = if is_blank b then gap_from false bs else (if is_join b bs then gap_from true bs else (if b == 35 then comment_end bs else b ∷ bs))

unfoldable pub gap : Text → Text
gap bytes = gap_from false bytes

-- without newlines too
abbrev pub idle_from : Bool → Bool → Text → Text
idle_from taken comment [] = []
idle_from true comment (b ∷ bs) = idle_from false comment bs
idle_from false true (b ∷ bs) = idle_from false (not (b == 10)) bs
idle_from false false (b ∷ bs) = if is_blank b || b == 10 then idle_from false false bs else (if is_join b bs then idle_from true false bs else (if b == 35 then idle_from false true bs else b ∷ bs))

unfoldable pub idle : Text → Text
idle bytes = idle_from false false bytes

abbrev pub starts : (ℕ → Bool) → Text → Bool
starts p [] = false
starts p (b ∷ bs) = p b

-- this byte comes next, joins aside
abbrev pub byte_next : ℕ → Text → Bool
byte_next k bytes = starts (λ b. b == k) (clear bytes)

-- ---- runs

-- a text that was read, and the bytes behind it
abbrev pub with_byte : ℕ → Text × Text → Text × Text
with_byte b x = (b ∷ x.0, x.1)

-- The longest front of bytes that go on, with joins between them left out, and what follows its last byte. A byte goes on
-- or not by what follows it too.
abbrev pub run_from : (ℕ → Text → Bool) → Text → Bool → Text → Text × Text
run_from goes_on rest taken [] = ([], rest)
run_from goes_on rest true (b ∷ bs) = run_from goes_on rest false bs
run_from goes_on rest false (b ∷ bs) = if is_join b bs then run_from goes_on rest true bs else (if goes_on b bs then with_byte b (run_from goes_on bs false bs) else ([], rest))

-- how many brackets or parentheses stand open behind a byte
abbrev pub level_behind : ℕ → ℕ → ℕ → ℕ → ℕ
level_behind left right b level = if b == left then suc level else (if b == right then level - 1 else level)

abbrev pub counted : ℕ → (Text × Text) × ℕ → (Text × Text) × ℕ
counted b x = (with_byte b x.0, x.1)

-- The same of text in which brackets count: one that closes ends it where none is open. The ℕ: how many are open.
abbrev pub counted_from : ℕ → ℕ → (ℕ → Text → Bool) → ℕ → Text → Bool → Text → (Text × Text) × ℕ
counted_from left right goes_on level rest taken [] = (([], rest), level)
counted_from left right goes_on level rest true (b ∷ bs) = counted_from left right goes_on level rest false bs
counted_from left right goes_on level rest false (b ∷ bs) = if is_join b bs then counted_from left right goes_on level rest true bs
    else (if goes_on b bs && not (b == right && level == 0) then counted b (counted_from left right goes_on (level_behind left right b level) bs false bs) else (([], rest), level))

-- ---- names and parameters (3.4)

unfoldable pub name_run : Text → Text × Text
name_run bytes = run_from (λ b bs. continues_name b) bytes false bytes

unfoldable pub digit_run : Text → Text × Text
digit_run bytes = run_from (λ b bs. is_digit b) bytes false bytes

-- `$#`, `$?`, `$@`, `$*`, `$$`, `$!`, `$-`
unfoldable pub is_special_param : ℕ → Bool
is_special_param b = b == 35 || b == 63 || b == 64 || b == 42 || b == 36 || b == 33 || b == 45

-- ---- what stands for itself

-- a byte that ends a word or begins an operator
unfoldable pub is_meta : ℕ → Bool
is_meta b = is_blank b || b == 10 || b == 59 || b == 38 || b == 124 || b == 40 || b == 41 || b == 60 || b == 62

abbrev pub is_quotes : Spot → Bool
is_quotes quotes = true
is_quotes s = false

abbrev pub is_bare : Quoting → Bool
is_bare bare = true
is_bare q = false

abbrev pub is_body : Quoting → Bool
is_body in_body = true
is_body q = false

-- a byte that isn't plain there
unfoldable pub is_ended : Spot → ℕ → Bool
is_ended words b = is_meta b
is_ended quotes b = false
is_ended fills b = b == 125
is_ended patterns b = b == 125
is_ended firsts b = b == 125 || b == 47
is_ended seconds b = b == 125
is_ended keys b = false
is_ended brackets b = false
is_ended groups b = false
is_ended regexes b = is_blank b || b == 10 || b == 59 || b == 38 || b == 40 || b == 41 || b == 60 || b == 62

-- brackets or parentheses count there
abbrev pub counts : Spot → Bool
counts keys = true
counts brackets = true
counts groups = true
counts s = false

-- those that open and that close there
abbrev pub opening : Spot → ℕ
opening groups = 40
opening s = 91

abbrev pub closing : Spot → ℕ
closing groups = 41
closing s = 93

-- A quote that doesn't stand for itself: `'` or `"`. Between double quotes `"` ends them.
unfoldable pub is_quote : Context → ℕ → Bool
is_quote c b = (b == 39 && not (is_quotes c.spot)) || (b == 34 && not (is_quotes c.spot && is_body c.quoting))

-- `$`, the backquote and the backslash stand for themselves nowhere
unfoldable pub is_active : ℕ → Bool
is_active b = b == 36 || b == 96 || b == 92

unfoldable pub is_plain : Context → ℕ → Bool
is_plain c b = not (is_active b || is_ended c.spot b || is_quote c b)

-- a byte that a backslash quotes there; before any other the backslash stands for itself (3.1.2.1, 3.1.2.3)
unfoldable pub is_escaped_in : Spot → ℕ → Bool
is_escaped_in patterns b = true
is_escaped_in firsts b = true
is_escaped_in quotes b = b == 36 || b == 96 || b == 92
is_escaped_in keys b = b == 36 || b == 96 || b == 92 || b == 91 || b == 93 || b == 125
is_escaped_in s b = b == 36 || b == 96 || b == 92 || b == 125

unfoldable pub is_escaped : Context → ℕ → Bool
is_escaped c b = is_bare c.quoting || is_escaped_in c.spot b || (b == 34 && not (is_body c.quoting))

-- an extended pattern may begin there
abbrev pub has_globs_at : Spot → Quoting → Bool
has_globs_at words q = true
has_globs_at patterns q = true
has_globs_at firsts q = true
has_globs_at fills q = is_bare q
has_globs_at seconds q = is_bare q
has_globs_at s q = false

-- a process substitution may begin there
abbrev pub has_processes_at : Spot → Quoting → Bool
has_processes_at words q = is_bare q
has_processes_at fills q = is_bare q
has_processes_at patterns q = is_bare q
has_processes_at firsts q = is_bare q
has_processes_at seconds q = is_bare q
has_processes_at s q = false

abbrev pub is_glob : ℕ → Bool
is_glob b = b == 63 || b == 42 || b == 43 || b == 64 || b == 33

abbrev pub is_angle : ℕ → Bool
is_angle b = b == 60 || b == 62

-- `@(`, `<(`
unfoldable pub opens_glob : Context → ℕ → Text → Bool
opens_glob c b bs = has_globs_at c.spot c.quoting && is_glob b && byte_next 40 bs

unfoldable pub opens_process : Context → ℕ → Text → Bool
opens_process c b bs = has_processes_at c.spot c.quoting && is_angle b && byte_next 40 bs

-- what makes a `$` before it the beginning of an expansion
unfoldable pub expands : ℕ → Bool
expands b = begins_name b || is_digit b || is_special_param b || b == 123 || b == 40 || b == 91

-- or of a quotation
abbrev pub quotes_dollar : Spot → ℕ → Bool
quotes_dollar s b = (b == 39 || b == 34) && not (is_quotes s)

-- behind a `$`: it stands for itself
abbrev pub is_bare_dollar : Spot → Text → Bool
is_bare_dollar s bytes = not (starts (λ b. expands b || quotes_dollar s b) (clear bytes))

-- behind a backslash: it stands for itself
abbrev pub is_bare_backslash : Context → Text → Bool
is_bare_backslash c [] = false
is_bare_backslash c (b ∷ bs) = not (is_escaped c b)

-- a byte that stands for itself by what follows it
unfoldable pub is_literal : Context → ℕ → Text → Bool
is_literal c b bs = (is_plain c b && not (opens_glob c b bs || opens_process c b bs)) || (b == 36 && is_bare_dollar c.spot bs) || (b == 92 && is_bare_backslash c bs)

-- the bytes that stand for themselves, and what follows them
unfoldable pub literal_run : Context → Text → Text × Text
literal_run c bytes = run_from (is_literal c) bytes false bytes

-- the same where brackets count
unfoldable pub literal_in : Context → ℕ → Text → (Text × Text) × ℕ
literal_in c level bytes = if counts c.spot then counted_from (opening c.spot) (closing c.spot) (is_literal c) level bytes false bytes else (literal_run c bytes, level)

-- a part of a word begins with this byte
unfoldable pub begins_unit : Context → ℕ → Text → Bool
begins_unit c b bs = is_plain c b || is_active b || (is_quote c b && not (is_quotes c.spot)) || opens_process c b bs

abbrev pub unit_at : Context → Text → Bool
unit_at c [] = false
unit_at c (b ∷ bs) = begins_unit c b bs

unfoldable pub unit_starts : Context → Text → Bool
unit_starts c bytes = unit_at c (clear bytes)

-- where brackets count, all but the one that ends the text begins a part
unfoldable pub unit_starts_in : Context → ℕ → Text → Bool
unit_starts_in c level bytes = if counts c.spot then starts (λ b. not (b == closing c.spot && level == 0)) (clear bytes) else unit_starts c bytes

-- ---- contexts in a context

-- a word between the braces of `${ }`
abbrev pub inner : Spot → Context → Context
inner s c = context s c.quoting

abbrev pub unquoted : Quoting → Quoting
unquoted quoted = bare
unquoted q = q

-- a pattern there: its own quotes count, as if no double quotes were around
abbrev pub inner_pattern : Spot → Context → Context
inner_pattern s c = context s (unquoted c.quoting)

abbrev pub as_double : Quoting → Quoting
as_double in_body = in_body
as_double q = quoted

-- what is expanded in an arithmetic expression
abbrev pub inner_sum : Context → Context
inner_sum c = context quotes (as_double c.quoting)
