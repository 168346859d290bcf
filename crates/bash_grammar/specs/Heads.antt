-- What stands behind a `$` (Bash manual, sections 3.1.2, 3.4, 3.5.3, 3.5.4, 3.5.5).
use Rattle.std.specs.Prelude.{ℕ, Bool, true, false, ◌||◌, ◌&&◌, not, ◌==◌, [], ◌∷◌, Option, Some, None, if◌then◌else◌}
use Rattle.span_text.specs.Names.{begins_name, is_digit}
use Rattle.bash_grammar.specs.Shape.{Code, indirect, special_parameter, FillTest, default, assigning, alternate, ReplaceAt, at_first, at_all, at_start, at_end, Param, digits, count, status, at, star}
use Rattle.bash_grammar.specs.Bytes.{Text, Spot, is_quotes, clear, starts, byte_next, is_special_param, digit_run, expands}
use Rattle.bash_grammar.specs.Tokens.{◌>>=◌, behind, is_something}

-- a parameter, or what is refused in its place
pub data Subject : Type 0 where
  known : Param → Subject
  refused : Code → Subject

-- ---- parameters

-- `#`, `?`, `@`, `*`, and others that are refused
abbrev pub special : ℕ → Subject
special b = if b == 35 then known count else (if b == 63 then known status else (if b == 64 then known at else (if b == 42 then known star else refused special_parameter)))

-- behind `$`, no name: one digit, or a special parameter
unfoldable pub short_param_at : Text → Option (Subject × Text)
short_param_at [] = None
short_param_at (b ∷ bs) = if is_digit b then Some (known (digits (b ∷ [])), bs) else (if is_special_param b then Some (special b, bs) else None)

abbrev pub closes : Text → Bool
closes bytes = byte_next 125 bytes

-- what `${` begins with: a parameter that is no name, and whether its length is asked for
pub record Special : Type 0 where
  pub subject : Subject
  pub is_length : Bool

abbrev pub of_length : Subject → Text → Option (Special × Text)
of_length s rest = Some (record { subject = s; is_length = true }, rest)

abbrev pub of_value : Subject → Text → Option (Special × Text)
of_value s rest = Some (record { subject = s; is_length = false }, rest)

abbrev pub is_lone_special : Text → Bool
is_lone_special [] = false
is_lone_special (b ∷ bs) = is_special_param b && closes bs

abbrev pub head_of : Text → ℕ
head_of [] = 0
head_of (b ∷ bs) = b

abbrev pub tail : Text → Text
tail [] = []
tail (b ∷ bs) = bs

-- behind `${#`, where no name follows: `${#1}` and `${##}` are lengths, `${#}` and `${#-a}` are of `$#`
abbrev pub hash_special : Text → Text → Option (Special × Text)
hash_special bs cs = if starts is_digit cs then (if closes (digit_run cs).1 then of_length (known (digits (digit_run cs).0)) (digit_run cs).1 else None)
    else (if is_lone_special cs then of_length (special (head_of cs)) (tail cs) else of_value (known count) bs)

-- behind `${!`, where no name follows: `${!1}` is indirect, `${!#}` and `${!-a}` are of special parameters
abbrev pub bang_special : Text → Text → Option (Special × Text)
bang_special bs cs = if starts is_digit cs then of_value (refused indirect) (digit_run cs).1
    else (if is_lone_special cs then of_value (refused special_parameter) (tail cs) else of_value (refused special_parameter) bs)

-- behind `${`, where no name comes next
unfoldable pub special_at : Text → Option (Special × Text)
special_at [] = None
special_at (b ∷ bs) = if b == 35 then hash_special bs (clear bs) else (if b == 33 then bang_special bs (clear bs)
    else (if is_digit b then of_value (known (digits (digit_run (b ∷ bs)).0)) (digit_run (b ∷ bs)).1
    else (if is_special_param b then of_value (special b) bs else None)))

-- ---- at the `$`

-- behind two bytes, with joins before them and between them
unfoldable pub behind_two : ℕ → ℕ → Text → Option Text
behind_two j k bytes = behind j (clear bytes) >>= λ rest. behind k (clear rest)

abbrev pub opens_name : Text → Bool
opens_name bytes = starts begins_name (clear bytes)

-- behind `$`, where a name comes next
unfoldable pub dollar_name : Text → Option Text
dollar_name bytes = behind 36 (clear bytes) >>= λ rest. if opens_name rest then Some (clear rest) else None

-- `$1`, `$?`
unfoldable pub dollar_short : Text → Option (Subject × Text)
dollar_short bytes = behind 36 (clear bytes) >>= λ rest. short_param_at (clear rest)

abbrev pub if_name : Option Text → Option Text
if_name o = o >>= λ rest. if opens_name rest then Some (clear rest) else None

-- behind `${`, `${#` and `${!`, where a name comes next
unfoldable pub brace_name : Text → Option Text
brace_name bytes = if_name (behind_two 36 123 bytes)

unfoldable pub length_name : Text → Option Text
length_name bytes = if_name (behind_two 36 123 bytes >>= λ rest. behind 35 (clear rest))

unfoldable pub pointed_name : Text → Option Text
pointed_name bytes = if_name (behind_two 36 123 bytes >>= λ rest. behind 33 (clear rest))

-- `${` and what is no name
unfoldable pub brace_special : Text → Option (Special × Text)
brace_special bytes = behind_two 36 123 bytes >>= λ rest. special_at (clear rest)

unfoldable pub brace_next : Text → Bool
brace_next bytes = is_something (behind_two 36 123 bytes)

-- behind the second `(` of `$((`
unfoldable pub dollar_sum : Text → Option Text
dollar_sum bytes = behind_two 36 40 bytes >>= λ rest. behind 40 (clear rest)

unfoldable pub sum_next : Text → Bool
sum_next bytes = is_something (dollar_sum bytes)

unfoldable pub subst_next : Text → Bool
subst_next bytes = is_something (behind_two 36 40 bytes) && not (sum_next bytes)

unfoldable pub old_next : Text → Bool
old_next bytes = is_something (behind_two 36 91 bytes)

-- `$'` and `$"`, where quotes quote
unfoldable pub ansi_next : Spot → Text → Bool
ansi_next s bytes = not (is_quotes s) && is_something (behind_two 36 39 bytes)

unfoldable pub locale_next : Spot → Text → Bool
locale_next s bytes = not (is_quotes s) && is_something (behind_two 36 34 bytes)

abbrev pub dollar_at : Text → Bool
dollar_at [] = false
dollar_at (b ∷ bs) = b == 36 && starts expands (clear bs)

-- an expansion that a `$` begins
unfoldable pub expansion_next : Text → Bool
expansion_next bytes = dollar_at (clear bytes)

-- ---- behind the parameter of `${`

-- `[@]` and `[*]`
unfoldable pub members_at : Text → Option (Bool × Text)
members_at bytes = behind 91 (clear bytes) >>= λ a. if byte_next 64 a then (behind 93 (clear (tail (clear a))) >>= λ rest. Some (true, rest))
    else (if byte_next 42 a then (behind 93 (clear (tail (clear a))) >>= λ rest. Some (false, rest)) else None)

-- the `*` of `${!a*}`, or the `@` of `${!a@}`
unfoldable pub names_at : Text → Option Text
names_at bytes = if (byte_next 42 bytes || byte_next 64 bytes) && closes (tail (clear bytes)) then Some (tail (clear bytes)) else None

-- `-`, `=`, `+`, or `?`, which is refused
abbrev pub fill_test : ℕ → Option (Option FillTest)
fill_test b = if b == 45 then Some (Some default) else (if b == 61 then Some (Some assigning) else (if b == 43 then Some (Some alternate) else (if b == 63 then Some None else None)))

abbrev pub fill_in : Bool → Text → Option ((Option FillTest × Bool) × Text)
fill_in colon [] = None
fill_in colon (b ∷ bs) = fill_test b >>= λ t. Some ((t, colon), bs)

-- with a colon before it or without
unfoldable pub fill_at : Text → Option ((Option FillTest × Bool) × Text)
fill_at bytes = if byte_next 58 bytes then fill_in true (clear (tail (clear bytes))) else fill_in false (clear bytes)

-- a second byte of the same kind makes it the longest, or all
abbrev pub doubled : ℕ → Text → Bool × Text
doubled k bytes = if byte_next k bytes then (true, tail (clear bytes)) else (false, bytes)

-- `#`, `##`, `%`, `%%`: whether it is of the end, and whether the longest
abbrev pub trim_in : Text → Option ((Bool × Bool) × Text)
trim_in [] = None
trim_in (b ∷ bs) = if b == 35 || b == 37 then Some ((b == 37, (doubled b bs).0), (doubled b bs).1) else None

unfoldable pub trim_at : Text → Option ((Bool × Bool) × Text)
trim_at bytes = trim_in (clear bytes)

-- `^`, `^^`, `,`, `,,`: whether it makes upper case, and whether of all
abbrev pub case_in : Text → Option ((Bool × Bool) × Text)
case_in [] = None
case_in (b ∷ bs) = if b == 94 || b == 44 then Some ((b == 94, (doubled b bs).0), (doubled b bs).1) else None

unfoldable pub case_at : Text → Option ((Bool × Bool) × Text)
case_at bytes = case_in (clear bytes)

-- behind `/`
abbrev pub replace_in : Text → ReplaceAt × Text
replace_in bs = if byte_next 47 bs then (at_all, tail (clear bs)) else (if byte_next 35 bs then (at_start, tail (clear bs)) else (if byte_next 37 bs then (at_end, tail (clear bs)) else (at_first, bs)))

unfoldable pub replace_at : Text → Option (ReplaceAt × Text)
replace_at bytes = behind 47 (clear bytes) >>= λ rest. Some (replace_in rest)

-- the letters of `${a@Q}`
unfoldable pub is_transform : ℕ → Bool
is_transform b = b == 85 || b == 117 || b == 76 || b == 81 || b == 69 || b == 80 || b == 65 || b == 75 || b == 97 || b == 107

abbrev pub transform_in : Text → Option Text
transform_in [] = None
transform_in (b ∷ bs) = if is_transform b && closes bs then Some bs else None

unfoldable pub transform_at : Text → Option Text
transform_at bytes = behind 64 (clear bytes) >>= λ rest. transform_in (clear rest)

-- the colon of `${a:1}`
unfoldable pub slice_at : Text → Option Text
slice_at bytes = if is_something (fill_at bytes) then None else behind 58 (clear bytes)
