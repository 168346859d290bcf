-- What each step reads.
use Rattle.std.specs.Prelude.{◌||◌, ℕ, suc, ◌+◌, ◌-◌, Bool, true, false, ◌&&◌, ◌==◌, nat_lt, List, [], ◌∷◌, ◌++◌, length, drop, map, Option, Some, None, if◌then◌else◌, codes}
use Rattle.span_text.specs.declared.span.Span.{Span}
use Rattle.span_text.specs.KnownNames.{same_text}
use Rattle.text_grammar.specs.Grammar.{Leaf, quiet, said}
use Rattle.bash_grammar.specs.Shape.{Code, Name, plain, exact as exact_part, tilde as tilde_part, param, as_is, named, Parts, no_part, part, Word, word, read, write, append, here_literal, here_expanded, here_string, copy_in, copy_out, both_out, both_append, refused_op, stop, fall, test_on, special_parameter, extended_glob, locale_quote, nested_quote, arith_form, ansi_escape, backquote, read_write, indirect}
use Rattle.bash_grammar.specs.Bytes.{Quoting, bare, quoted, in_body, Text, in_word, clear, gap, byte_next, literal_in, unit_starts, name_run}
use Rattle.bash_grammar.specs.Quotes.{quoted_run, Ansi, outside, ansi_from}
use Rattle.bash_grammar.specs.Tokens.{◌>>=◌, behind, Op, End, Newline, SemiSemi, SemiAnd, SemiSemiAnd, Amp, Pipe, PipeAnd, Less, Great, Clobber, DGreat, DLess, DLessDash, TLess, LessAnd, GreatAnd, LessGreat, AndGreat, AndDGreat, Io, Far, Word as WordToken, token, is_token, literal_word, is_key, is_word_of, is_angle_token, name_at, tilde_at}
use Rattle.bash_grammar.specs.Heads.{Subject, known, refused, Special, tail, behind_two, dollar_name, dollar_short, brace_name, length_name, pointed_name, brace_special, dollar_sum, members_at, names_at, fill_at, trim_at, case_at, replace_at, transform_at, slice_at}
use Rattle.bash_grammar.specs.Bodies.{Owed, Lines, delimiter_for, body_at}
use Rattle.bash_grammar.specs.State.{State, Found, Outer, Frame, move, nth, offset, behind_quotes, place_of, place_behind, span_at}
use Rattle.bash_grammar.specs.Sums.{Outcome, spelled, spoiled, outcome, stretch_run, open_frame, close_frame, level_of, with_level, begin_operand as begin_in, end_operand as end_in, marks, names_of, effects_from, framed, is_idle, joined_up, placed_from}
use Rattle.bash_grammar.specs.Nodes.{Node, mark_node, name_node, digit_node, far_node, unit_node, code_node, code_at_node, sum_node, blank_node, bad_node, subject_node, members_node, fill_node, trim_node, case_node, replace_node, op_node, aimed_node, append_node, both_node, ampersand_node, end_node, test_node}
use Rattle.bash_grammar.specs.Moves.{Flag, posix, last_flag, Step, op, key, line, ends, ampersand, pipe, item_op, test_op, option, name, assign_name, assign_op, digit, far, redirect_op, here_document, from_token, from_unit, to_here, to_word, to_regex, byte, tilde, literal, escaped, exact, ansi, nested_exact, nested_ansi, lone_quote, lone_ansi, lone_locale, open_locale, dollar, open_subst, open_process, lone_glob, open_old, open_glob, open_group, close_group, odd_ticks, open_ticks, close_ticks, open_length, open_pointed, open_named, open_special, members, open_key, names, fill_op, trim_op, case_op, replace_op, slice_op, transform_op, open_sum, open_double, close_double, begin_sum, end_sum, sum_bytes, begin_operand, end_operand, enter, leave}

-- what follows a subscript that begins here
abbrev pub Scan : Type 0
Scan = State → Option Text

-- What is known of a text: the bodies of its here-documents, how an expanded one is read at a depth, and how subscripts end.
pub record Known : Type 0 where
  pub bodies : List Found
  pub expand : ℕ → Found → Option Word
  pub scan : Scan

-- nesting is at most so deep
abbrev pub limit : ℕ
limit = 100

-- ---- leaves

abbrev pub Read : Type 0
Read = Option (Leaf Node × State)

abbrev pub when : {A : Type 0} → Bool → A → Option A
when b x = if b then Some x else None

abbrev pub silent : State → Text → Read
silent s bytes = Some (quiet, move s bytes)

abbrev pub gives : Node → State → Text → Read
gives x s bytes = Some (said x, move s bytes)

abbrev pub with_frames : State → List Frame → Text → Read
with_frames s frames bytes = Some (quiet, record s { bytes = bytes; frames = frames })

-- ---- names

abbrev pub named_at : State → Text → Text × Text → Name
named_at s from x = record { text = x.0; span = span_at s from x.1 }

abbrev pub name_read : State → Text → Text × Text → Read
name_read s from x = gives (name_node (named_at s from x)) s x.1

-- `$a`; `$_` is refused
abbrev pub dollar_read : State → Text → Text × Text → Read
dollar_read s from x = if same_text x.0 (codes "_") then gives (code_node special_parameter) s x.1 else gives (unit_node (param (named (named_at s from x)) as_is)) s x.1

abbrev pub short_read : State → Subject × Text → Read
short_read s (known p, rest) = gives (unit_node (param p as_is)) s rest
short_read s (refused c, rest) = gives (code_node c) s rest

abbrev pub or_short : State → Option Text → Read
or_short s (Some from) = dollar_read s from (name_run from)
or_short s None = dollar_short s.bytes >>= short_read s

-- ---- tokens

abbrev pub pipe_read : State → Op × Text → Read
pipe_read s (Pipe, rest) = gives (both_node false) s rest
pipe_read s (PipeAnd, rest) = gives (both_node true) s rest
pipe_read s t = None

abbrev pub item_read : State → Op × Text → Read
item_read s (SemiSemi, rest) = gives (end_node stop) s rest
item_read s (SemiAnd, rest) = gives (end_node fall) s rest
item_read s (SemiSemiAnd, rest) = gives (end_node test_on) s rest
item_read s t = None

-- an operator that is a word, or `<` or `>`
abbrev pub test_read : State → Text → Text × Text → Read
test_read s from ([], rest) = None
test_read s from (b ∷ bs, rest) = gives (test_node (record { text = b ∷ bs; span = span_at s from rest })) s rest

abbrev pub angle_read : State → Text → Read
angle_read s [] = None
angle_read s (b ∷ bs) = test_read s (b ∷ bs) (b ∷ [], bs)

abbrev pub flag_text : Flag → Text
flag_text posix = codes "-p"
flag_text last_flag = codes "--"

-- where a word begins behind blanks; digits right before `<` or `>` belong to the operator
abbrev pub word_place : Text → Option Text
word_place bytes = if is_token WordToken bytes then Some (gap bytes) else None

abbrev pub digit_read : State → Text → Read
digit_read s [] = None
digit_read s (b ∷ bs) = gives (digit_node (b - 48)) s bs

abbrev pub far_read : State → Op × Text → Read
far_read s (Far, rest) = gives far_node s rest
far_read s t = None

-- behind `=` or `+=`
unfoldable pub equals_at : Text → Option (Bool × Text)
equals_at bytes = if byte_next 43 bytes then (behind 61 (clear (tail (clear bytes))) >>= λ rest. Some (true, rest)) else (behind 61 (clear bytes) >>= λ rest. Some (false, rest))

abbrev pub redirect_read : State → Op × Text → Read
redirect_read s (Less, rest) = gives (op_node read) s rest
redirect_read s (Great, rest) = gives (op_node write) s rest
redirect_read s (Clobber, rest) = gives (op_node write) s rest
redirect_read s (DGreat, rest) = gives (op_node append) s rest
redirect_read s (TLess, rest) = gives (op_node here_string) s rest
redirect_read s (LessAnd, rest) = gives (op_node copy_in) s rest
redirect_read s (GreatAnd, rest) = gives (op_node copy_out) s rest
redirect_read s (AndGreat, rest) = gives (op_node both_out) s rest
redirect_read s (AndDGreat, rest) = gives (op_node both_append) s rest
redirect_read s (LessGreat, rest) = gives (op_node (refused_op read_write (span_at s (gap s.bytes) rest))) s rest
redirect_read s t = None

-- ---- here-documents

abbrev pub no_body : Found
no_body = record { number = 0; text = []; offsets = [] }

-- the body of the here-document with this number
abbrev pub body_in : ℕ → List Found → Found
body_in n [] = no_body
body_in n (f ∷ fs) = if f.number == n then f else body_in n fs

abbrev pub body_end : Found → ℕ
body_end f = suc (nth f.offsets (length f.offsets - 2))

-- where the body is, or where it would be
abbrev pub body_span : Found → Text → Span
body_span f [] = record { from = nth f.offsets 0; to = nth f.offsets 0 }
body_span f (b ∷ bs) = record { from = nth f.offsets 0; to = body_end f }

-- a body that isn't expanded is one part, or none
abbrev pub literal_parts : Found → Text → Parts
literal_parts f [] = no_part
literal_parts f (b ∷ bs) = part (plain (b ∷ bs)) (body_span f (b ∷ bs)) no_part

abbrev pub expanded_word : Known → ℕ → Found → Text → Option Word
expanded_word k depth f [] = Some (word no_part (body_span f []))
expanded_word k depth f (b ∷ bs) = k.expand depth f

-- the redirection to this here-document
abbrev pub here_node : Known → ℕ → Found → Bool → Option Node
here_node k depth f true = Some (aimed_node here_literal (word (literal_parts f f.text) (body_span f f.text)))
here_node k depth f false = expanded_word k depth f f.text >>= λ w. Some (aimed_node here_expanded w)

abbrev pub owes : State → Bool → (Text × Bool) × Text → State
owes s strips d = record s { bytes = d.1; owed = s.owed ++ record { number = s.named; delimiter = d.0.0; literal = d.0.1; strips = strips } ∷ []; named = suc s.named }

-- behind the operator
abbrev pub here_after : Known → State → Bool → Text → Read
here_after k s strips bytes = word_place bytes >>= λ place. delimiter_for strips place >>= λ d. here_node k s.depth (body_in s.named k.bodies) d.0.1 >>= λ x. Some (said x, owes s strips d)

abbrev pub here_read : Known → State → Op × Text → Read
here_read k s (DLess, rest) = here_after k s false rest
here_read k s (DLessDash, rest) = here_after k s true rest
here_read k s t = None

-- the body with the offsets of its bytes
abbrev pub found_of : State → Owed → Lines → Found
found_of s o x = record { number = o.number; text = x.text; offsets = map (λ n. offset s.source (n + behind_quotes s.outer)) x.aheads }

-- the bodies of these here-documents, one behind the other
unfoldable pub bodies_at : State → List Owed → Text → Option (List Found × Text)
bodies_at s [] bytes = Some ([], bytes)
bodies_at s (o ∷ os) bytes = body_at o bytes >>= λ x. bodies_at s os x.rest >>= λ y. Some (found_of s o x ∷ y.0, y.1)

abbrev pub line_read : State → Text → Read
line_read s rest = bodies_at s s.owed rest >>= λ x. Some (quiet, record s { bytes = x.1; owed = []; found = s.found ++ x.0 })

abbrev pub none_owed : List Owed → Bool
none_owed [] = true
none_owed (o ∷ os) = false

-- ---- words

abbrev pub literal_read : State → (Text × Text) × ℕ → Read
literal_read s (([], rest), level) = None
literal_read s ((b ∷ bs, rest), level) = Some (said (unit_node (plain (b ∷ bs))), record s { bytes = rest; frames = with_level level s.frames })

abbrev pub byte_read : State → Text → Read
byte_read s [] = None
byte_read s (b ∷ bs) = gives (unit_node (exact_part (b ∷ []))) s bs

-- `$'..'`: its text, or the place of its first escape that isn't one
abbrev pub ansi_node : State → Ansi → Option ℕ → Node
ansi_node s a None = unit_node (exact_part a.text)
ansi_node s a (Some at) = code_at_node ansi_escape (offset s.source (at + behind_quotes s.outer))

abbrev pub ansi_read : State → Ansi → Read
ansi_read s a = gives (ansi_node s a a.bad) s a.rest

-- what is refused up to behind one byte, or two
abbrev pub lone_read : State → Code → Text → Read
lone_read s c [] = None
lone_read s c (b ∷ bs) = gives (code_node c) s bs

abbrev pub lone_two : State → Code → Text → Read
lone_two s c [] = None
lone_two s c (b ∷ bs) = lone_read s c (clear bs)

-- behind an angle or a pattern's sign, and the parenthesis
abbrev pub behind_sign : Text → Option Text
behind_sign [] = None
behind_sign (b ∷ bs) = behind 40 (clear bs)

-- ---- backquotes

-- the bytes up to the next backquote, and what follows it
unfoldable pub tick_run : Text → Option (Text × Text)
tick_run [] = None
tick_run (b ∷ bs) = if b == 96 then Some ([], bs) else (tick_run bs >>= λ x. Some (b ∷ x.0, x.1))

unfoldable pub ticks_at : Text → Option (Text × Text)
ticks_at bytes = behind 96 (clear bytes) >>= tick_run

abbrev pub into_ticks : State → Text × Text → Read
into_ticks s x = Some (quiet, record s { bytes = x.0; owed = []; outer = record { bytes = x.1; owed = s.owed } ∷ s.outer })

abbrev pub out_of_ticks : State → List Outer → Read
out_of_ticks s [] = None
out_of_ticks s (o ∷ os) = Some (quiet, record s { bytes = o.bytes; owed = o.owed; outer = os })

-- ---- parameters

abbrev pub special_read : State → Special × Text → Read
special_read s x = gives (subject_node x.0.subject x.0.is_length) s x.1

-- ---- expressions

-- the spans of an expression's text as spans of the whole text
abbrev pub shifted : State → Text → Span → Span
shifted s text x = record { from = place_of s (drop x.from text); to = place_behind s (drop x.to text) }

abbrev pub shifted_name : State → Text → Name → Name
shifted_name s text n = record { text = n.text; span = shifted s text n.span }

-- a quote that is refused between the braces of `${ }` there
abbrev pub is_nested : Quoting → ℕ → Bool
is_nested bare b = false
is_nested quoted b = b == 39
is_nested in_body b = b == 39 || b == 34

-- what is refused where an expression goes wrong before these bytes
abbrev pub spoiled_code : Quoting → Text → Code
spoiled_code q [] = arith_form
spoiled_code q (b ∷ bs) = if is_nested q b then nested_quote else arith_form

abbrev pub outcome_node : State → Quoting → Frame → Text → Outcome → Node
outcome_node s q f text (spelled e) = sum_node e (map (shifted_name s f.bytes) (names_of (marks text f.operands))) (map (shifted s f.bytes) (effects_from 0 [] (marks text f.operands))) (record { from = place_of s f.bytes; to = place_of s s.bytes })
outcome_node s q f text (spoiled at) = bad_node (spoiled_code q (drop at text)) (place_of s (drop at f.bytes)) (record { from = place_of s f.bytes; to = place_of s s.bytes })

abbrev pub is_blank_text : Frame → Text → Bool
is_blank_text f text = is_idle (joined_up false (placed_from 0 0 f.operands text))

abbrev pub sum_read : State → Bool → Quoting → List Frame → Read
sum_read s optional q [] = None
sum_read s optional q (f ∷ fs) = Some (said (if optional && is_blank_text f (framed f s.bytes) then blank_node else outcome_node s q f (framed f s.bytes) (outcome (framed f s.bytes) f.operands)), record s { frames = fs })

-- a byte at least
abbrev pub stretch_read : State → Text × ℕ → Read
stretch_read s x = if length x.0 == length s.bytes then None else Some (quiet, record s { bytes = x.0; frames = with_level x.1 s.frames })

-- ---- steps

unfoldable pub run_step : Known → Step → State → Option (Leaf Node × State)
run_step k (op o) s = if is_token o s.bytes then silent s (token s.bytes).1 else None
run_step k (key w) s = if is_key w s.bytes then silent s (literal_word s.bytes).1 else None
run_step k line s = if is_token Newline s.bytes then line_read s (token s.bytes).1 else None
run_step k ends s = if is_token End s.bytes && none_owed s.owed then silent s [] else None
run_step k ampersand s = if is_token Amp s.bytes then gives (ampersand_node (span_at s (gap s.bytes) (token s.bytes).1)) s (token s.bytes).1 else None
run_step k pipe s = pipe_read s (token s.bytes)
run_step k item_op s = item_read s (token s.bytes)
run_step k test_op s = if is_angle_token s.bytes then angle_read s (gap s.bytes) else test_read s (gap s.bytes) (literal_word s.bytes)
run_step k (option f) s = if is_word_of (flag_text f ∷ []) s.bytes then silent s (literal_word s.bytes).1 else None
run_step k name s = name_at (gap s.bytes) >>= λ x. if unit_starts in_word x.1 then None else name_read s (gap s.bytes) x
run_step k assign_name s = name_at (gap s.bytes) >>= name_read s (gap s.bytes)
run_step k assign_op s = equals_at s.bytes >>= λ x. gives (append_node x.0) s x.1
run_step k digit s = if is_token Io s.bytes then digit_read s (gap s.bytes) else None
run_step k far s = far_read s (token s.bytes)
run_step k redirect_op s = redirect_read s (token s.bytes)
run_step k here_document s = here_read k s (token s.bytes)
run_step k from_token s = gives (mark_node (place_of s (gap s.bytes))) s s.bytes
run_step k from_unit s = gives (mark_node (place_of s (clear s.bytes))) s s.bytes
run_step k to_here s = gives (mark_node (place_behind s s.bytes)) s s.bytes
run_step k to_word s = word_place s.bytes >>= silent s
run_step k to_regex s = silent s (gap s.bytes)
run_step k (byte b) s = behind b (clear s.bytes) >>= silent s
run_step k tilde s = tilde_at (clear s.bytes) >>= gives (unit_node tilde_part) s
run_step k (literal c) s = literal_read s (literal_in c (level_of s.frames) s.bytes)
run_step k escaped s = behind 92 (clear s.bytes) >>= byte_read s
run_step k exact s = behind 39 (clear s.bytes) >>= quoted_run >>= λ x. gives (unit_node (exact_part x.0)) s x.1
run_step k ansi s = behind_two 36 39 s.bytes >>= ansi_from outside >>= ansi_read s
run_step k nested_exact s = behind 39 (clear s.bytes) >>= quoted_run >>= λ x. gives (code_node nested_quote) s x.1
run_step k nested_ansi s = behind_two 36 39 s.bytes >>= ansi_from outside >>= λ a. gives (code_node nested_quote) s a.rest
run_step k lone_quote s = lone_read s nested_quote (clear s.bytes)
run_step k lone_ansi s = lone_two s nested_quote (clear s.bytes)
run_step k lone_locale s = lone_two s locale_quote (clear s.bytes)
run_step k open_locale s = behind_two 36 34 s.bytes >>= silent s
run_step k dollar s = or_short s (dollar_name s.bytes)
run_step k open_subst s = behind_two 36 40 s.bytes >>= silent s
run_step k open_process s = behind_sign (clear s.bytes) >>= silent s
run_step k lone_glob s = lone_two s extended_glob (clear s.bytes)
run_step k open_old s = behind_two 36 91 s.bytes >>= λ rest. with_frames s (open_frame rest s.frames) rest
run_step k open_glob s = behind_sign (clear s.bytes) >>= λ rest. with_frames s (open_frame rest s.frames) rest
run_step k open_group s = behind 40 (clear s.bytes) >>= λ rest. with_frames s (open_frame rest s.frames) rest
run_step k (close_group b) s = behind b (clear s.bytes) >>= with_frames s (close_frame s.frames)
run_step k odd_ticks s = ticks_at s.bytes >>= λ x. gives (code_node backquote) s x.1
run_step k open_ticks s = ticks_at s.bytes >>= into_ticks s
run_step k close_ticks s = if is_token End s.bytes && none_owed s.owed then out_of_ticks s s.outer else None
run_step k open_length s = length_name s.bytes >>= λ from. name_read s from (name_run from)
run_step k open_pointed s = pointed_name s.bytes >>= λ from. name_read s from (name_run from)
run_step k open_named s = brace_name s.bytes >>= λ from. name_read s from (name_run from)
run_step k open_special s = brace_special s.bytes >>= special_read s
run_step k members s = members_at s.bytes >>= λ x. gives (members_node x.0) s x.1
run_step k open_key s = behind 91 (clear s.bytes) >>= λ rest. with_frames s (open_frame rest s.frames) rest
run_step k names s = names_at s.bytes >>= gives (code_node indirect) s
run_step k fill_op s = fill_at s.bytes >>= λ x. gives (fill_node x.0.0 x.0.1) s x.1
run_step k trim_op s = trim_at s.bytes >>= λ x. gives (trim_node x.0.0 x.0.1) s x.1
run_step k case_op s = case_at s.bytes >>= λ x. gives (case_node x.0.0 x.0.1) s x.1
run_step k replace_op s = replace_at s.bytes >>= λ x. gives (replace_node x.0) s x.1
run_step k slice_op s = slice_at s.bytes >>= silent s
run_step k transform_op s = transform_at s.bytes >>= gives (code_node indirect) s
run_step k open_sum s = dollar_sum s.bytes >>= silent s
run_step k open_double s = behind_two 40 40 (gap s.bytes) >>= silent s
run_step k close_double s = behind_two 41 41 s.bytes >>= silent s
run_step k begin_sum s = with_frames s (open_frame s.bytes s.frames) s.bytes
run_step k (end_sum optional q) s = sum_read s optional q s.frames
run_step k (sum_bytes x) s = stretch_read s (stretch_run x (level_of s.frames) s.bytes)
run_step k begin_operand s = with_frames s (begin_in (clear s.bytes) s.frames) s.bytes
run_step k end_operand s = with_frames s (end_in s.bytes s.frames) s.bytes
run_step k enter s = when (nat_lt s.depth limit) (quiet, record s { depth = suc s.depth })
run_step k leave s = Some (quiet, record s { depth = s.depth - 1 })
