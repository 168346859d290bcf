-- Tokens: operators, reserved words, names (Bash manual, sections 2, 3.1.1, 3.2.1, 6.4).
use Rattle.std.specs.Prelude.{ℕ, Bool, true, false, ◌||◌, ◌&&◌, not, ◌==◌, List, [], ◌∷◌, length, Option, Some, None, if◌then◌else◌, codes}
use Rattle.span_text.specs.Names.{begins_name, is_digit}
use Rattle.span_text.specs.KnownNames.{same_text, is_among}
use Rattle.bash_grammar.specs.Bytes.{Text, clear, gap, starts, byte_next, in_word, is_angle, literal_run, unit_starts, name_run, digit_run}

pub data Op : Type 0 where
  -- the end of the text
  End : Op
  Newline : Op
  -- `;`, `;;`, `;&`, `;;&`
  Semi : Op
  SemiSemi : Op
  SemiAnd : Op
  SemiSemiAnd : Op
  -- `&`, `&&`, `||`, `|`, `|&`
  Amp : Op
  AndIf : Op
  OrIf : Op
  Pipe : Op
  PipeAnd : Op
  -- `(`, `)`
  Open : Op
  Close : Op
  -- `<`, `>`, `>|`, `>>`, `<<`, `<<-`, `<<<`, `<&`, `>&`, `<>`, `&>`, `&>>`
  Less : Op
  Great : Op
  Clobber : Op
  DGreat : Op
  DLess : Op
  DLessDash : Op
  TLess : Op
  LessAnd : Op
  GreatAnd : Op
  LessGreat : Op
  AndGreat : Op
  AndDGreat : Op
  -- one digit right before `<` or `>`; more of them, or a name in braces
  Io : Op
  Far : Op
  -- a word begins
  Word : Op

unfoldable pub code : Op → ℕ
code End = 0
code Newline = 1
code Semi = 2
code SemiSemi = 3
code SemiAnd = 4
code SemiSemiAnd = 5
code Amp = 6
code AndIf = 7
code OrIf = 8
code Pipe = 9
code PipeAnd = 10
code Open = 11
code Close = 12
code Less = 13
code Great = 14
code Clobber = 15
code DGreat = 16
code DLess = 17
code DLessDash = 18
code TLess = 19
code LessAnd = 20
code GreatAnd = 21
code LessGreat = 22
code AndGreat = 23
code AndDGreat = 24
code Io = 25
code Far = 26
code Word = 27

-- behind a byte k that may follow, joins aside
abbrev pub after_byte : ℕ → Text → (Text → Op × Text) → Op × Text → Op × Text
after_byte k [] longer shorter = shorter
after_byte k (b ∷ bs) longer shorter = if b == k then longer bs else shorter

abbrev pub goes_on_with : ℕ → Text → (Text → Op × Text) → Op × Text → Op × Text
goes_on_with k bytes longer shorter = after_byte k (clear bytes) longer shorter

-- each operator is the longest at its place; the text is what stands behind its first byte
unfoldable pub semi_at : Text → Op × Text
semi_at bs = goes_on_with 59 bs (λ cs. goes_on_with 38 cs (λ ds. (SemiSemiAnd, ds)) (SemiSemi, cs)) (goes_on_with 38 bs (λ cs. (SemiAnd, cs)) (Semi, bs))

unfoldable pub and_at : Text → Op × Text
and_at bs = goes_on_with 38 bs (λ cs. (AndIf, cs)) (goes_on_with 62 bs (λ cs. goes_on_with 62 cs (λ ds. (AndDGreat, ds)) (AndGreat, cs)) (Amp, bs))

unfoldable pub pipe_at : Text → Op × Text
pipe_at bs = goes_on_with 124 bs (λ cs. (OrIf, cs)) (goes_on_with 38 bs (λ cs. (PipeAnd, cs)) (Pipe, bs))

unfoldable pub here_at : Text → Op × Text
here_at bs = goes_on_with 45 bs (λ cs. (DLessDash, cs)) (goes_on_with 60 bs (λ cs. (TLess, cs)) (DLess, bs))

unfoldable pub less_at : Text → Op × Text
less_at bs = goes_on_with 60 bs here_at (goes_on_with 38 bs (λ cs. (LessAnd, cs)) (goes_on_with 62 bs (λ cs. (LessGreat, cs)) (Less, bs)))

unfoldable pub great_at : Text → Op × Text
great_at bs = goes_on_with 62 bs (λ cs. (DGreat, cs)) (goes_on_with 38 bs (λ cs. (GreatAnd, cs)) (goes_on_with 124 bs (λ cs. (Clobber, cs)) (Great, bs)))

-- an operator that begins with `<` or `>`, joins aside: a parenthesis right behind it makes a word of it
abbrev pub is_redirecting : Text → Bool
is_redirecting [] = false
is_redirecting (b ∷ bs) = is_angle b && not (byte_next 40 bs)

-- digits in front, and what stands behind them: a descriptor, or a word
abbrev pub digits_word : Text → Text × Text → Op × Text
digits_word bytes run = if is_redirecting (clear run.1) then (if length run.0 == 1 then (Io, run.1) else (Far, run.1)) else (Word, bytes)

abbrev pub behind : ℕ → Text → Option Text
behind k [] = None
behind k (b ∷ bs) = if b == k then Some bs else None

infixl 10 ◌>>=◌
abbrev pub ◌>>=◌ : {A B : Type 0} → Option A → (A → Option B) → Option B
(Some x) >>= f = f x
None >>= f = None

-- what stands behind a name in braces
abbrev pub braced_at : Text → Option Text
braced_at bytes = behind 123 bytes >>= λ a. (if starts begins_name (clear a) then behind 125 (clear (name_run a).1) else None)

abbrev pub braces_word : Text → Option Text → Op × Text
braces_word bytes None = (Word, bytes)
braces_word bytes (Some rest) = if is_redirecting (clear rest) then (Far, rest) else (Word, bytes)

abbrev pub word_at : Text → Op × Text
word_at bytes = if starts is_digit bytes then digits_word bytes (digit_run bytes) else braces_word bytes (braced_at bytes)

abbrev pub angle_at : ℕ → Text → Op × Text
angle_at b bs = if byte_next 40 bs then (Word, b ∷ bs) else (if b == 60 then less_at bs else great_at bs)

-- The token at the front, and what follows it; what begins a word stays.
unfoldable pub front : Text → Op × Text
front [] = (End, [])
front (b ∷ bs) = if b == 10 then (Newline, bs)
    else (if b == 59 then semi_at bs
    else (if b == 38 then and_at bs
    else (if b == 124 then pipe_at bs
    else (if b == 40 then (Open, bs)
    else (if b == 41 then (Close, bs)
    else (if is_angle b then angle_at b bs else word_at (b ∷ bs)))))))

-- behind blanks and a comment
unfoldable pub token : Text → Op × Text
token bytes = front (gap bytes)

unfoldable pub is_token : Op → Text → Bool
is_token k bytes = code (token bytes).0 == code k

-- ---- reserved words (3.2.1)

pub data Key : Type 0 where
  If : Key
  Then : Key
  Elif : Key
  Else : Key
  Fi : Key
  For : Key
  In : Key
  Until : Key
  While : Key
  Do : Key
  Done : Key
  Case : Key
  Esac : Key
  Select : Key
  Function : Key
  Time : Key
  Coproc : Key
  OpenBrace : Key
  CloseBrace : Key
  OpenCond : Key
  CloseCond : Key
  Bang : Key

unfoldable pub key_text : Key → Text
key_text If = codes "if"
key_text Then = codes "then"
key_text Elif = codes "elif"
key_text Else = codes "else"
key_text Fi = codes "fi"
key_text For = codes "for"
key_text In = codes "in"
key_text Until = codes "until"
key_text While = codes "while"
key_text Do = codes "do"
key_text Done = codes "done"
key_text Case = codes "case"
key_text Esac = codes "esac"
key_text Select = codes "select"
key_text Function = codes "function"
key_text Time = codes "time"
key_text Coproc = codes "coproc"
key_text OpenBrace = codes "{"
key_text CloseBrace = codes "}"
key_text OpenCond = codes "[["
key_text CloseCond = codes "]]"
key_text Bang = codes "!"

-- the bytes at a token's place that stand for themselves
abbrev pub literal_word : Text → Text × Text
literal_word bytes = literal_run in_word (gap bytes)

-- they are a whole word, with nothing quoted or expanded
abbrev pub is_whole : Text × Text → Bool
is_whole run = not (unit_starts in_word run.1)

-- this reserved word
unfoldable pub is_key : Key → Text → Bool
is_key k bytes = is_whole (literal_word bytes) && same_text (literal_word bytes).0 (key_text k)

-- one of these words
unfoldable pub is_word_of : List Text → Text → Bool
is_word_of texts bytes = is_whole (literal_word bytes) && is_among texts (literal_word bytes).0

-- reserved words that begin a compound command
unfoldable pub compound_words : List Text
compound_words = codes "if" ∷ codes "for" ∷ codes "while" ∷ codes "until" ∷ codes "case" ∷ codes "select" ∷ codes "{" ∷ codes "[[" ∷ []

-- that begin another command
unfoldable pub command_words : List Text
command_words = codes "function" ∷ codes "time" ∷ codes "coproc" ∷ []

-- that begin none
unfoldable pub other_words : List Text
other_words = codes "then" ∷ codes "elif" ∷ codes "else" ∷ codes "fi" ∷ codes "in" ∷ codes "do" ∷ codes "done" ∷ codes "esac" ∷ codes "}" ∷ codes "]]" ∷ codes "!" ∷ []

-- built-ins behind which a word may be an assignment of a list (4.2, 6.7)
unfoldable pub declaring_words : List Text
declaring_words = codes "declare" ∷ codes "typeset" ∷ codes "local" ∷ codes "readonly" ∷ []

-- the operators of `[[ ]]` before an operand, and between two (6.4)
unfoldable pub unary_tests : List Text
unary_tests =
    codes "-a" ∷ codes "-b" ∷ codes "-c" ∷ codes "-d" ∷ codes "-e" ∷ codes "-f" ∷ codes "-g" ∷ codes "-h" ∷ codes "-k" ∷
    codes "-n" ∷ codes "-o" ∷ codes "-p" ∷ codes "-r" ∷ codes "-s" ∷ codes "-t" ∷ codes "-u" ∷ codes "-v" ∷ codes "-w" ∷
    codes "-x" ∷ codes "-z" ∷ codes "-G" ∷ codes "-L" ∷ codes "-N" ∷ codes "-O" ∷ codes "-R" ∷ codes "-S" ∷ []

unfoldable pub binary_tests : List Text
binary_tests =
    codes "=" ∷ codes "==" ∷ codes "!=" ∷ codes "-nt" ∷ codes "-ot" ∷ codes "-ef" ∷ codes "-eq" ∷ codes "-ne" ∷ codes "-lt" ∷
    codes "-le" ∷ codes "-gt" ∷ codes "-ge" ∷ []

-- ---- what may come next

unfoldable pub here_next : Text → Bool
here_next bytes = is_token DLess bytes || is_token DLessDash bytes

unfoldable pub copy_next : Text → Bool
copy_next bytes = is_token LessAnd bytes || is_token GreatAnd bytes

-- `&>`, `&>>`, before which no descriptor stands
unfoldable pub both_next : Text → Bool
both_next bytes = is_token AndGreat bytes || is_token AndDGreat bytes

unfoldable pub redirect_next : Text → Bool
redirect_next bytes = is_token Io bytes || is_token Far bytes || is_token Less bytes || is_token Great bytes || is_token Clobber bytes || is_token DGreat bytes || is_token TLess bytes || is_token LessGreat bytes || here_next bytes || copy_next bytes || both_next bytes

-- a word that is no reserved word
unfoldable pub plain_next : Text → Bool
plain_next bytes = is_token Word bytes && not (is_word_of compound_words bytes || is_word_of command_words bytes || is_word_of other_words bytes)

unfoldable pub simple_next : Text → Bool
simple_next bytes = redirect_next bytes || plain_next bytes

unfoldable pub compound_next : Text → Bool
compound_next bytes = is_token Open bytes || (is_token Word bytes && is_word_of compound_words bytes)

unfoldable pub command_next : Text → Bool
command_next bytes = compound_next bytes || simple_next bytes || (is_token Word bytes && is_word_of command_words bytes)

unfoldable pub pipeline_next : Text → Bool
pipeline_next bytes = is_key Bang bytes || command_next bytes

-- `((`, with no byte between
abbrev pub opens_twice : Op × Text → Bool
opens_twice (Open, rest) = byte_next 40 rest
opens_twice t = false

unfoldable pub sum_command_next : Text → Bool
sum_command_next bytes = opens_twice (token bytes)

-- `(` and `)`
unfoldable pub parens_next : Text → Bool
parens_next bytes = is_token Open bytes && is_token Close (token bytes).1

abbrev pub is_angle_token : Text → Bool
is_angle_token bytes = is_token Less bytes || is_token Great bytes

-- ---- names

-- a name here, and what follows it
unfoldable pub name_at : Text → Option (Text × Text)
name_at bytes = if starts begins_name bytes then Some (name_run bytes) else None

-- `~` that stands for the home directory: `/` or the word's end follows (3.5.2)
unfoldable pub tilde_at : Text → Option Text
tilde_at bytes = behind 126 bytes >>= λ rest. if byte_next 47 rest || not (unit_starts in_word rest) then Some rest else None

abbrev pub is_something : {A : Type 0} → Option A → Bool
is_something None = false
is_something (Some x) = true

unfoldable pub tilde_next : Text → Bool
tilde_next bytes = is_something (tilde_at (clear bytes))
