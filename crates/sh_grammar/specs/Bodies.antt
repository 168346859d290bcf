-- Here-documents: delimiters and the lines of bodies (POSIX 2.7.4).
use Rattle.std.specs.Prelude.{ℕ, Bool, true, false, ◌||◌, ◌&&◌, not, ◌==◌, List, [], ◌∷◌, Option, Some, None, if◌then◌else◌}
use Rattle.sh_grammar.specs.Bytes.{Text, clear, starts, is_join, in_word, in_double, is_plain, is_escaped, unit_starts}
use Rattle.sh_grammar.specs.Expansions.{◌>>=◌}

-- a here-document whose body is still to come
pub record Owed : Type 0 where
  pub delimiter : Text
  -- the delimiter was quoted, so the body isn't expanded
  pub literal : Bool
  -- `<<-`: tabs at the beginning of a line are dropped
  pub strips : Bool

-- ---- delimiters

-- where the reading of a delimiter is
pub data Mode : Type 0 where
  bare : Mode
  single : Mode
  doubled : Mode
  -- behind a backslash
  kept : Mode
  kept_doubled : Mode
  -- before the newline of a join
  joined : Mode
  joined_doubled : Mode

-- what was read, whether something was quoted, and what follows
abbrev pub Read : Type 0
Read = Option ((Text × Bool) × Text)

abbrev pub quoted : Read → Read
quoted x = x >>= λ y. Some ((y.0.0, true), y.1)

abbrev pub with : ℕ → Read → Read
with b x = x >>= λ y. Some ((b ∷ y.0.0, y.0.1), y.1)

-- behind a `$`: the shells disagree on how such a word goes on
abbrev pub opens_expansion : Text → Bool
opens_expansion bytes = starts (λ b. b == 123 || b == 40) (clear bytes)

-- no line holds a newline, so a delimiter doesn't either
unfoldable pub delimiter_from : Mode → Text → Read
delimiter_from bare [] = Some (([], false), [])
delimiter_from bare (b ∷ bs) = if is_join b bs then delimiter_from joined bs
    else (if b == 39 then quoted (delimiter_from single bs)
    else (if b == 34 then quoted (delimiter_from doubled bs)
    else (if b == 92 then quoted (delimiter_from kept bs)
    else (if b == 36 && opens_expansion bs then None
    else (if is_plain in_word b || b == 36 then with b (delimiter_from bare bs) else Some (([], false), b ∷ bs))))))
delimiter_from single [] = None
delimiter_from single (b ∷ bs) = if b == 39 then delimiter_from bare bs else (if b == 10 || b == 0 then None else with b (delimiter_from single bs))
delimiter_from doubled [] = None
delimiter_from doubled (b ∷ bs) = if is_join b bs then delimiter_from joined_doubled bs
    else (if b == 34 then delimiter_from bare bs
    else (if b == 92 then delimiter_from kept_doubled bs
    else (if b == 96 || b == 10 || b == 0 then None else with b (delimiter_from doubled bs))))
delimiter_from kept [] = None
delimiter_from kept (b ∷ bs) = if b == 0 then None else with b (delimiter_from bare bs)
delimiter_from kept_doubled [] = None
delimiter_from kept_doubled (b ∷ bs) = if b == 0 then None else (if is_escaped in_double b then with b (delimiter_from doubled bs) else with 92 (with b (delimiter_from doubled bs)))
delimiter_from joined [] = None
delimiter_from joined (b ∷ bs) = delimiter_from bare bs
delimiter_from joined_doubled [] = None
delimiter_from joined_doubled (b ∷ bs) = delimiter_from doubled bs

-- the delimiter at a word's place, whether it was quoted, and what follows it
unfoldable pub delimiter_at : Text → Option ((Text × Bool) × Text)
delimiter_at bytes = if unit_starts in_word bytes then delimiter_from bare bytes else None

-- Tabs are dropped before a line is looked at, so no line is a delimiter that begins with one.
abbrev pub may_end : Bool → (Text × Bool) × Text → Option ((Text × Bool) × Text)
may_end strips d = if strips && starts (λ b. b == 9) d.0.0 then None else Some d

-- the delimiter behind `<<`, or behind `<<-`, which strips
unfoldable pub delimiter_for : Bool → Text → Option ((Text × Bool) × Text)
delimiter_for strips bytes = delimiter_at bytes >>= may_end strips

-- ---- bodies

-- Behind the line `name`, which is the last one or ends with a newline. Joins count as removed unless the body is literal.
abbrev pub line_from : Bool → Bool → Text → Text → Option Text
line_from literal taken [] [] = Some []
line_from literal taken (d ∷ ds) [] = None
line_from literal true name (b ∷ bs) = line_from literal false name bs
line_from literal false [] (b ∷ bs) = if not literal && is_join b bs then line_from literal true [] bs else (if b == 10 then Some bs else None)
line_from literal false (d ∷ ds) (b ∷ bs) = if not literal && is_join b bs then line_from literal true (d ∷ ds) bs else (if d == b then line_from literal false ds bs else None)

-- where the reading of a body is
pub data Place : Type 0 where
  -- at the beginning of a line
  line_start : Place
  within : Place
  -- before the newline of a join
  join_at_start : Place
  join_within : Place
  -- behind a backslash that makes no join
  kept_byte : Place

abbrev pub last_line : Owed → Place → Text → Option Text
last_line o line_start bytes = line_from o.literal false o.delimiter bytes
last_line o within bytes = None
last_line o join_at_start bytes = None
last_line o join_within bytes = None
last_line o kept_byte bytes = None

abbrev pub or_further : Option Text → Option (Text × Text) → Option (Text × Text)
or_further (Some rest) further = Some ([], rest)
or_further None further = further

abbrev pub with_byte : ℕ → Option (Text × Text) → Option (Text × Text)
with_byte b x = x >>= λ y. Some (b ∷ y.0, y.1)

abbrev pub is_start : Place → Bool
is_start line_start = true
is_start within = false
is_start join_at_start = false
is_start join_within = false
is_start kept_byte = false

abbrev pub join_of : Place → Place
join_of line_start = join_at_start
join_of within = join_within
join_of join_at_start = join_at_start
join_of join_within = join_within
join_of kept_byte = join_within

abbrev pub behind_byte : Bool → ℕ → Place
behind_byte literal b = if b == 10 then line_start else (if b == 92 && not literal then kept_byte else within)

-- The lines before the delimiter's line, and what follows that line. Behind the last newline no line begins.
unfoldable pub body_from : Owed → Place → Text → Option (Text × Text)
body_from o p [] = None
body_from o join_at_start (b ∷ bs) = body_from o line_start bs
body_from o join_within (b ∷ bs) = body_from o within bs
body_from o kept_byte (b ∷ bs) = if b == 0 then None else with_byte b (body_from o within bs)
body_from o p (b ∷ bs) = or_further (last_line o p (b ∷ bs))
    (if b == 0 then None
    else (if not o.literal && is_join b bs then body_from o (join_of p) bs
    else (if o.strips && is_start p && b == 9 then body_from o p bs
    else with_byte b (body_from o (behind_byte o.literal b) bs))))

-- a body from the beginning of its first line: its bytes, without joins if it is expanded, and what follows the delimiter's line
unfoldable pub body_at : Owed → Text → Option (Text × Text)
body_at o bytes = body_from o line_start bytes

-- the bodies of these here-documents, one behind the other
unfoldable pub bodies_at : List Owed → Text → Option (List Text × Text)
bodies_at [] bytes = Some ([], bytes)
bodies_at (o ∷ os) bytes = body_at o bytes >>= λ x. bodies_at os x.1 >>= λ y. Some (x.0 ∷ y.0, y.1)
