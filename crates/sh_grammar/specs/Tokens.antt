-- Tokens: operators, reserved words, names (POSIX 2.3, 2.4, 2.10).
use Rattle.std.specs.Prelude.{ℕ, Bool, true, false, ◌||◌, ◌&&◌, not, ◌==◌, [], ◌∷◌, length, Option, Some, None, if◌then◌else◌, codes}
use Rattle.span_text.specs.Names.{begins_name, is_digit}
use Rattle.span_text.specs.KnownNames.{same_text}
use Rattle.sh_grammar.specs.Bytes.{Text, clear, gap, starts, in_word, literal_run, unit_starts, name_run, digit_run}

pub data Op : Type 0 where
  -- the end of the text
  End : Op
  Newline : Op
  -- `;`, `;;`
  Semi : Op
  SemiSemi : Op
  -- `&&`, `||`, `|`
  AndIf : Op
  OrIf : Op
  Pipe : Op
  -- `(`, `)`
  Open : Op
  Close : Op
  -- `<`, `>`, `>>`, `<<`, `<<-`, `<&`, `>&`
  Less : Op
  Great : Op
  DGreat : Op
  DLess : Op
  DLessDash : Op
  LessAnd : Op
  GreatAnd : Op
  -- one digit right before `<` or `>`
  Io : Op
  -- a word begins
  Word : Op
  -- an operator that sh doesn't have here, or no token
  Other : Op

unfoldable pub code : Op → ℕ
code End = 0
code Newline = 1
code Semi = 2
code SemiSemi = 3
code AndIf = 4
code OrIf = 5
code Pipe = 6
code Open = 7
code Close = 8
code Less = 9
code Great = 10
code DGreat = 11
code DLess = 12
code DLessDash = 13
code LessAnd = 14
code GreatAnd = 15
code Io = 16
code Word = 17
code Other = 18

-- behind a byte k that may follow, joins aside
abbrev pub after_byte : ℕ → Text → (Text → Op × Text) → Op × Text → Op × Text
after_byte k [] longer shorter = shorter
after_byte k (b ∷ bs) longer shorter = if b == k then longer bs else shorter

abbrev pub goes_on_with : ℕ → Text → (Text → Op × Text) → Op × Text → Op × Text
goes_on_with k bytes longer shorter = after_byte k (clear bytes) longer shorter

-- each operator is the longest of the shells at its place; the text is what stands behind its first byte
unfoldable pub semi_at : Text → Op × Text
semi_at bs = goes_on_with 59 bs (λ cs. goes_on_with 38 cs (λ ds. (Other, ds)) (SemiSemi, cs)) (goes_on_with 38 bs (λ cs. (Other, cs)) (Semi, bs))

unfoldable pub and_at : Text → Op × Text
and_at bs = goes_on_with 38 bs (λ cs. (AndIf, cs)) (Other, bs)

unfoldable pub pipe_at : Text → Op × Text
pipe_at bs = goes_on_with 124 bs (λ cs. (OrIf, cs)) (goes_on_with 38 bs (λ cs. (Other, cs)) (Pipe, bs))

unfoldable pub here_at : Text → Op × Text
here_at bs = goes_on_with 45 bs (λ cs. (DLessDash, cs)) (goes_on_with 60 bs (λ cs. (Other, cs)) (DLess, bs))

unfoldable pub less_at : Text → Op × Text
less_at bs = goes_on_with 60 bs here_at (goes_on_with 38 bs (λ cs. (LessAnd, cs)) (goes_on_with 62 bs (λ cs. (Other, cs)) (Less, bs)))

unfoldable pub great_at : Text → Op × Text
great_at bs = goes_on_with 62 bs (λ cs. (DGreat, cs)) (goes_on_with 38 bs (λ cs. (GreatAnd, cs)) (goes_on_with 124 bs (λ cs. (Other, cs)) (Great, bs)))

abbrev pub is_angle : ℕ → Bool
is_angle b = b == 60 || b == 62

-- digits in front, and what stands behind them: a descriptor, what isn't read, or a word
abbrev pub digits_word : Text → Text × Text → Op × Text
digits_word bytes run = if starts is_angle run.1 then (if length run.0 == 1 then (Io, run.1) else (Other, bytes)) else (Word, bytes)

abbrev pub word_at : Text → Op × Text
word_at bytes = if starts is_digit bytes then digits_word bytes (digit_run bytes) else (Word, bytes)

-- The token at the front, and what follows it; what begins a word stays.
unfoldable pub front : Text → Op × Text
front [] = (End, [])
front (b ∷ bs) = if b == 10 then (Newline, bs)
    else (if b == 59 then semi_at bs
    else (if b == 38 then and_at bs
    else (if b == 124 then pipe_at bs
    else (if b == 40 then (Open, bs)
    else (if b == 41 then (Close, bs)
    else (if b == 60 then less_at bs
    else (if b == 62 then great_at bs
    else (if unit_starts in_word (b ∷ bs) then word_at (b ∷ bs) else (Other, b ∷ bs)))))))))

-- behind blanks and a comment
unfoldable pub token : Text → Op × Text
token bytes = front (gap bytes)

unfoldable pub is_token : Op → Text → Bool
is_token k bytes = code (token bytes).0 == code k

-- ---- reserved words (2.4)

pub data Key : Type 0 where
  If : Key
  Then : Key
  Elif : Key
  Else : Key
  Fi : Key
  For : Key
  In : Key
  Until : Key
  While : Key
  Do : Key
  Done : Key
  Case : Key
  Esac : Key
  OpenBrace : Key
  CloseBrace : Key
  Bang : Key

unfoldable pub key_text : Key → Text
key_text If = codes "if"
key_text Then = codes "then"
key_text Elif = codes "elif"
key_text Else = codes "else"
key_text Fi = codes "fi"
key_text For = codes "for"
key_text In = codes "in"
key_text Until = codes "until"
key_text While = codes "while"
key_text Do = codes "do"
key_text Done = codes "done"
key_text Case = codes "case"
key_text Esac = codes "esac"
key_text OpenBrace = codes "{"
key_text CloseBrace = codes "}"
key_text Bang = codes "!"

-- the bytes at a token's place that stand for themselves
abbrev pub bare : Text → Text × Text
bare bytes = literal_run in_word (gap bytes)

-- they are a whole word, with nothing quoted or expanded
abbrev pub is_whole : Text × Text → Bool
is_whole run = not (unit_starts in_word run.1)

-- this reserved word
unfoldable pub is_key : Key → Text → Bool
is_key k bytes = is_whole (bare bytes) && same_text (bare bytes).0 (key_text k)

-- a reserved word that begins a compound command
abbrev pub opens_compound : Text → Bool
opens_compound bytes = is_key If bytes || is_key For bytes || is_key While bytes || is_key Until bytes || is_key Case bytes || is_key OpenBrace bytes

-- a reserved word that begins no command
abbrev pub is_other_key : Text → Bool
is_other_key bytes = is_key Then bytes || is_key Elif bytes || is_key Else bytes || is_key Fi bytes || is_key In bytes || is_key Do bytes || is_key Done bytes || is_key Esac bytes || is_key CloseBrace bytes || is_key Bang bytes

-- ---- what may come next

unfoldable pub here_next : Text → Bool
here_next bytes = is_token DLess bytes || is_token DLessDash bytes

unfoldable pub copy_next : Text → Bool
copy_next bytes = is_token LessAnd bytes || is_token GreatAnd bytes

unfoldable pub redirect_next : Text → Bool
redirect_next bytes = is_token Io bytes || is_token Less bytes || is_token Great bytes || is_token DGreat bytes || here_next bytes || copy_next bytes

-- a word that is no reserved word
unfoldable pub name_next : Text → Bool
name_next bytes = is_token Word bytes && not (opens_compound bytes || is_other_key bytes)

unfoldable pub simple_next : Text → Bool
simple_next bytes = redirect_next bytes || name_next bytes

unfoldable pub compound_next : Text → Bool
compound_next bytes = is_token Open bytes || (is_token Word bytes && opens_compound bytes)

unfoldable pub command_next : Text → Bool
command_next bytes = compound_next bytes || simple_next bytes

unfoldable pub pipeline_next : Text → Bool
pipeline_next bytes = is_key Bang bytes || command_next bytes

-- ---- names

-- a name here, and what follows it
unfoldable pub name_at : Text → Option (Text × Text)
name_at bytes = if starts begins_name bytes then Some (name_run bytes) else None

abbrev pub behind : ℕ → Text → Option Text
behind k [] = None
behind k (b ∷ bs) = if b == k then Some bs else None

infixl 10 ◌>>=◌
abbrev pub ◌>>=◌ : {A B : Type 0} → Option A → (A → Option B) → Option B
(Some x) >>= f = f x
None >>= f = None

abbrev pub is_something : {A : Type 0} → Option A → Bool
is_something None = false
is_something (Some x) = true

-- `name=` at a token's place: the name, and what follows the `=`
unfoldable pub assign_at : Text → Option (Text × Text)
assign_at bytes = name_at (gap bytes) >>= λ x. behind 61 (clear x.1) >>= λ rest. Some (x.0, rest)

unfoldable pub assign_next : Text → Bool
assign_next bytes = is_something (assign_at bytes)

abbrev pub opens : Option (Text × Text) → Bool
opens None = false
opens (Some x) = is_token Open x.1

-- `name (`
unfoldable pub function_next : Text → Bool
function_next bytes = name_next bytes && opens (name_at (gap bytes))

-- `~` that stands for the home directory: `/` or the word's end follows (2.6.1)
unfoldable pub tilde_at : Text → Option Text
tilde_at bytes = behind 126 bytes >>= λ rest. if starts (λ b. b == 47) (clear rest) || not (unit_starts in_word (clear rest)) then Some rest else None

unfoldable pub tilde_next : Text → Bool
tilde_next bytes = is_something (tilde_at (clear bytes))
