-- Here-documents: delimiters and the lines of bodies (Bash manual, section 3.6.6).
use Rattle.std.specs.Prelude.{ℕ, suc, Bool, true, false, ◌||◌, ◌&&◌, not, ◌==◌, List, [], ◌∷◌, length, Option, Some, None, if◌then◌else◌}
use Rattle.bash_grammar.specs.Bytes.{Text, clear, starts, is_join, is_plain, is_escaped, unit_starts, opens_glob, opens_process, in_word, in_double}
use Rattle.bash_grammar.specs.Tokens.{◌>>=◌}

-- a here-document whose body is still to come, by its number
pub record Owed : Type 0 where
  pub number : ℕ
  pub delimiter : Text
  -- the delimiter was quoted, so the body isn't expanded
  pub literal : Bool
  -- `<<-`: tabs at the beginning of a line are dropped
  pub strips : Bool

-- ---- delimiters

-- where the reading of a delimiter is
pub data Mode : Type 0 where
  unquoted : Mode
  single : Mode
  doubled : Mode
  -- behind a backslash
  kept : Mode
  kept_doubled : Mode
  -- before the newline of a join
  joined : Mode
  joined_doubled : Mode

-- what was read, whether something was quoted, and what follows
abbrev pub Read : Type 0
Read = Option ((Text × Bool) × Text)

abbrev pub with_quote : Read → Read
with_quote x = x >>= λ y. Some ((y.0.0, true), y.1)

abbrev pub with : ℕ → Read → Read
with b x = x >>= λ y. Some ((b ∷ y.0.0, y.0.1), y.1)

-- Behind a `$`: what would be an expansion or a quotation. No shell expands it, and they differ on where such a word ends.
abbrev pub opens_expansion : Text → Bool
opens_expansion bytes = starts (λ b. b == 123 || b == 40 || b == 91 || b == 39 || b == 34) (clear bytes)

abbrev pub opens_other : ℕ → Text → Bool
opens_other b bs = b == 96 || (b == 36 && opens_expansion bs) || opens_glob in_word b bs || opens_process in_word b bs

-- no line holds a newline, so a delimiter doesn't either
unfoldable pub delimiter_from : Mode → Text → Text → Read
delimiter_from unquoted rest [] = Some (([], false), rest)
delimiter_from unquoted rest (b ∷ bs) = if is_join b bs then delimiter_from joined rest bs
    else (if b == 39 then with_quote (delimiter_from single bs bs)
    else (if b == 34 then with_quote (delimiter_from doubled bs bs)
    else (if b == 92 then with_quote (delimiter_from kept bs bs)
    else (if opens_other b bs then None
    else (if is_plain in_word b || b == 36 then with b (delimiter_from unquoted bs bs) else Some (([], false), rest))))))
delimiter_from single rest [] = None
delimiter_from single rest (b ∷ bs) = if b == 39 then delimiter_from unquoted bs bs else (if b == 10 then None else with b (delimiter_from single bs bs))
delimiter_from doubled rest [] = None
delimiter_from doubled rest (b ∷ bs) = if is_join b bs then delimiter_from joined_doubled rest bs
    else (if b == 34 then delimiter_from unquoted bs bs
    else (if b == 92 then delimiter_from kept_doubled bs bs
    else (if b == 96 || b == 10 then None else with b (delimiter_from doubled bs bs))))
delimiter_from kept rest [] = None
delimiter_from kept rest (b ∷ bs) = with b (delimiter_from unquoted bs bs)
delimiter_from kept_doubled rest [] = None
delimiter_from kept_doubled rest (b ∷ bs) = if is_escaped in_double b then with b (delimiter_from doubled bs bs) else with 92 (with b (delimiter_from doubled bs bs))
delimiter_from joined rest [] = None
delimiter_from joined rest (b ∷ bs) = delimiter_from unquoted rest bs
delimiter_from joined_doubled rest [] = None
delimiter_from joined_doubled rest (b ∷ bs) = delimiter_from doubled rest bs

-- the delimiter at a word's place, whether it was quoted, and what follows it
unfoldable pub delimiter_at : Text → Option ((Text × Bool) × Text)
delimiter_at bytes = if unit_starts in_word bytes then delimiter_from unquoted bytes bytes else None

-- Tabs are dropped before a line is looked at, so no line is a delimiter that begins with one.
abbrev pub may_end : Bool → (Text × Bool) × Text → Option ((Text × Bool) × Text)
may_end strips d = if strips && starts (λ b. b == 9) d.0.0 then None else Some d

-- the delimiter behind `<<`, or behind `<<-`, which strips
unfoldable pub delimiter_for : Bool → Text → Option ((Text × Bool) × Text)
delimiter_for strips bytes = delimiter_at bytes >>= may_end strips

-- ---- bodies

-- Behind the line `name`, which is the last one or ends with a newline. Joins count as removed unless the body is literal.
abbrev pub line_from : Bool → Bool → Text → Text → Option Text
line_from literal taken [] [] = Some []
line_from literal taken (d ∷ ds) [] = None
line_from literal true name (b ∷ bs) = line_from literal false name bs
line_from literal false [] (b ∷ bs) = if not literal && is_join b bs then line_from literal true [] bs else (if b == 10 then Some bs else None)
line_from literal false (d ∷ ds) (b ∷ bs) = if not literal && is_join b bs then line_from literal true (d ∷ ds) bs else (if d == b then line_from literal false ds bs else None)

-- where the reading of a body is
pub data Place : Type 0 where
  -- at the beginning of a line
  line_start : Place
  within : Place
  -- before the newline of a join
  join_at_start : Place
  join_within : Place
  -- behind a backslash that makes no join
  kept_byte : Place

-- The lines of a body: their bytes; for each byte how many were ahead there, and for the end how many where the delimiter
-- begins; and what follows the delimiter's line.
pub record Lines : Type 0 where
  pub text : Text
  pub aheads : List ℕ
  pub rest : Text

abbrev pub last_line : Owed → Place → Text → Option Text
last_line o line_start bytes = line_from o.literal false o.delimiter bytes
last_line o within bytes = None
last_line o join_at_start bytes = None
last_line o join_within bytes = None
last_line o kept_byte bytes = None

abbrev pub or_further : ℕ → Option Text → Option Lines → Option Lines
or_further ahead (Some rest) further = Some (record { text = []; aheads = ahead ∷ []; rest = rest })
or_further ahead None further = further

abbrev pub with_byte : ℕ → ℕ → Option Lines → Option Lines
with_byte b ahead x = x >>= λ y. Some (record y { text = b ∷ y.text; aheads = ahead ∷ y.aheads })

abbrev pub is_start : Place → Bool
is_start line_start = true
is_start within = false
is_start join_at_start = false
is_start join_within = false
is_start kept_byte = false

abbrev pub join_of : Place → Place
join_of line_start = join_at_start
join_of within = join_within
join_of join_at_start = join_at_start
join_of join_within = join_within
join_of kept_byte = join_within

abbrev pub behind_byte : Bool → ℕ → Place
behind_byte literal b = if b == 10 then line_start else (if b == 92 && not literal then kept_byte else within)

-- The lines before the delimiter's line. Behind the last newline no line begins.
unfoldable pub body_from : Owed → Place → Text → Option Lines
body_from o p [] = None
body_from o join_at_start (b ∷ bs) = body_from o line_start bs
body_from o join_within (b ∷ bs) = body_from o within bs
body_from o kept_byte (b ∷ bs) = with_byte b (suc (length bs)) (body_from o within bs)
body_from o p (b ∷ bs) = or_further (suc (length bs)) (last_line o p (b ∷ bs))
    (if not o.literal && is_join b bs then body_from o (join_of p) bs
    else (if o.strips && is_start p && b == 9 then body_from o p bs
    else with_byte b (suc (length bs)) (body_from o (behind_byte o.literal b) bs)))

-- a body from the beginning of its first line
unfoldable pub body_at : Owed → Text → Option Lines
body_at o bytes = body_from o line_start bytes
