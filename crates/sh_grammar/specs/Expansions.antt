-- What stands behind a `$` (POSIX 2.5.1, 2.5.2, 2.6).
use Rattle.std.specs.Prelude.{ℕ, Bool, true, false, ◌||◌, ◌&&◌, not, ◌==◌, [], ◌∷◌, Option, Some, None, if◌then◌else◌}
use Rattle.span_text.specs.Names.{begins_name, is_digit}
use Rattle.sh_grammar.specs.Shape.{Param, named, digits, count, status, at, star, ParamOp, as_is, length_of, FillTest, default, assigning, alternate}
use Rattle.sh_grammar.specs.Bytes.{Text, clear, starts, name_run, digit_run}

infixl 10 ◌>>=◌
abbrev pub ◌>>=◌ : {A B : Type 0} → Option A → (A → Option B) → Option B
(Some x) >>= f = f x
None >>= f = None

-- what a `${` begins: all of it, or the front before a word
pub data Head : Type 0 where
  -- `${a}`, `${#a}`
  closed : Param → ParamOp → Head
  -- `${a-`, `${a:-`
  filling : Param → FillTest → (colon : Bool) → Head
  -- `${a#`, `${a%%`
  trimming : Param → (suffix longest : Bool) → Head

abbrev pub named_as : (Text → Param) → Text × Text → Option (Param × Text)
named_as f x = Some (f x.0, x.1)

abbrev pub special : ℕ → Text → Option (Param × Text)
special b bs = if b == 35 then Some (count, bs) else (if b == 63 then Some (status, bs) else (if b == 64 then Some (at, bs) else (if b == 42 then Some (star, bs) else None)))

abbrev pub one_digit : ℕ → Text → Option (Param × Text)
one_digit b bs = Some (digits (b ∷ []), bs)

-- behind `$`: a name, one digit, `#`, `?`, `@` or `*`
unfoldable pub param_at : Text → Option (Param × Text)
param_at [] = None
param_at (b ∷ bs) = if begins_name b then named_as named (name_run (b ∷ bs)) else (if is_digit b then one_digit b bs else special b bs)

-- behind `${` or `${#`: the same, and more digits than one
unfoldable pub long_param_at : Text → Option (Param × Text)
long_param_at [] = None
long_param_at (b ∷ bs) = if begins_name b then named_as named (name_run (b ∷ bs)) else (if is_digit b then named_as digits (digit_run (b ∷ bs)) else special b bs)

abbrev pub fill_test : ℕ → Option FillTest
fill_test b = if b == 45 then Some default else (if b == 61 then Some assigning else (if b == 43 then Some alternate else None))

abbrev pub fills : Param → Bool → Text → Option (Head × Text)
fills p colon [] = None
fills p colon (b ∷ bs) = fill_test b >>= λ t. Some (filling p t colon, bs)

-- behind `#` or `%`: a second one makes the match the longest
abbrev pub trims : Param → Bool → ℕ → Text → Option (Head × Text)
trims p suffix k [] = Some (trimming p suffix false, [])
trims p suffix k (b ∷ bs) = if b == k then Some (trimming p suffix true, bs) else Some (trimming p suffix false, b ∷ bs)

-- behind the parameter of `${`
abbrev pub operator_at : Param → Text → Option (Head × Text)
operator_at p [] = None
operator_at p (b ∷ bs) = if b == 125 then Some (closed p as_is, bs)
    else (if b == 58 then fills p true (clear bs)
    else (if b == 35 then trims p false 35 (clear bs)
    else (if b == 37 then trims p true 37 (clear bs) else fills p false (b ∷ bs))))

abbrev pub is_close : Text → Bool
is_close bytes = starts (λ b. b == 125) bytes

abbrev pub tail : Text → Text
tail [] = []
tail (b ∷ bs) = bs

-- `${#a}`, where a `}` stands behind the parameter
abbrev pub length_head : Option (Param × Text) → Option (Head × Text)
length_head None = None
length_head (Some x) = if is_close (clear x.1) then Some (closed x.0 length_of, tail (clear x.1)) else None

abbrev pub or_else : {A : Type 0} → Option A → Option A → Option A
or_else (Some x) y = Some x
or_else None y = y

-- `${#-}` is the length of `$-`, which sh text doesn't have here
abbrev pub is_dash : Text → Bool
is_dash [] = false
is_dash (b ∷ bs) = b == 45 && is_close (clear bs)

-- behind `${#`: `${#}`, a length, or an operation on `$#`
abbrev pub hash_head : Text → Option (Head × Text)
hash_head bs = if is_close bs || is_dash bs then (if is_dash bs then None else operator_at count bs) else or_else (length_head (long_param_at bs)) (operator_at count bs)

abbrev pub is_hash : Text → Bool
is_hash bytes = starts (λ b. b == 35) bytes

-- behind `${`
unfoldable pub head_at : Text → Option (Head × Text)
head_at bytes = if is_hash bytes then hash_head (clear (tail bytes)) else (long_param_at bytes >>= λ x. operator_at x.0 (clear x.1))

-- ---- at the `$`

abbrev pub behind : ℕ → Text → Option Text
behind k [] = None
behind k (b ∷ bs) = if b == k then Some bs else None

-- behind two bytes, with joins before them and between them
unfoldable pub behind_two : ℕ → ℕ → Text → Option Text
behind_two j k bytes = behind j (clear bytes) >>= λ rest. behind k (clear rest)

-- `$a`
unfoldable pub dollar_param : Text → Option (Param × Text)
dollar_param bytes = behind 36 (clear bytes) >>= λ rest. param_at (clear rest)

-- `${`
unfoldable pub dollar_head : Text → Option (Head × Text)
dollar_head bytes = behind_two 36 123 bytes >>= λ rest. head_at (clear rest)

abbrev pub is_open : Text → Bool
is_open bytes = starts (λ b. b == 40) bytes

abbrev pub is_subst : Option Text → Bool
is_subst None = false
is_subst (Some rest) = not (is_open (clear rest))

-- behind the second `(` of `$((`
unfoldable pub dollar_sum : Text → Option Text
dollar_sum bytes = behind_two 36 40 bytes >>= λ rest. behind 40 (clear rest)

-- `$(` that isn't `$((`
unfoldable pub subst_next : Text → Bool
subst_next bytes = is_subst (behind_two 36 40 bytes)

abbrev pub is_something : {A : Type 0} → Option A → Bool
is_something None = false
is_something (Some x) = true

unfoldable pub sum_next : Text → Bool
sum_next bytes = is_something (dollar_sum bytes)

unfoldable pub brace_next : Text → Bool
brace_next bytes = is_something (behind_two 36 123 bytes)

abbrev pub is_closed : Option (Head × Text) → Bool
is_closed None = false
is_closed (Some (closed p o, rest)) = true
is_closed (Some (filling p t c, rest)) = false
is_closed (Some (trimming p s l, rest)) = false

abbrev pub is_filling : Option (Head × Text) → Bool
is_filling None = false
is_filling (Some (closed p o, rest)) = false
is_filling (Some (filling p t c, rest)) = true
is_filling (Some (trimming p s l, rest)) = false

unfoldable pub closed_next : Text → Bool
closed_next bytes = is_closed (dollar_head bytes)

unfoldable pub filling_next : Text → Bool
filling_next bytes = is_filling (dollar_head bytes)
