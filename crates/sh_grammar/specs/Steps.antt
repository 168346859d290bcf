-- What each step reads, and when each test holds.
use Rattle.std.specs.Prelude.{ℕ, zero, suc, ◌-◌, Bool, true, false, ◌||◌, ◌&&◌, not, ◌==◌, nat_lt, List, [], ◌∷◌, ◌++◌, Option, Some, None, if◌then◌else◌}
use Rattle.span_text.specs.Names.{is_digit}
use Rattle.text_grammar.specs.Grammar.{Leaf, quiet, said}
use Rattle.sh_grammar.specs.Shape.{Parts, no_part, part, plain, exact as exact_part, tilde as tilde_part, param, as_is, RedirectOp, read, write, append, here_literal, here_expanded, copy_in, copy_out}
use Rattle.sh_grammar.specs.Bytes.{Text, Context, clear, gap, starts, literal_run, unit_starts, has_single, has_double, is_escaped, is_bare_dollar, in_word}
use Rattle.sh_grammar.specs.Tokens.{Op, End, Newline, Semi, AndIf, OrIf, Less, Great, DGreat, DLess, DLessDash, LessAnd, GreatAnd, Open, Word, Esac, token, is_token, bare, is_key, here_next, copy_next, redirect_next, simple_next, compound_next, pipeline_next, name_at, assign_at, assign_next, function_next, tilde_at, tilde_next}
use Rattle.sh_grammar.specs.Expansions.{◌>>=◌, Head, closed as closed_head, filling, trimming, dollar_param, dollar_head, behind_two, dollar_sum, subst_next, sum_next, brace_next, closed_next, filling_next}
use Rattle.sh_grammar.specs.Bodies.{Owed, delimiter_for, bodies_at}
use Rattle.sh_grammar.specs.State.{State, Sum, move, Node, text_node, digit_node, part_node, head_node, expr_node, op_node, aimed_node}
use Rattle.sh_grammar.specs.Sums.{sum_run, with_bytes, with_operand, no_sum, innermost, without_innermost}
use Rattle.sh_grammar.specs.Table.{Step, op, key, line, ends, name, assign_name, descriptor, file_op, here, copy, to_word, tilde, literal, escaped, exact, quote, dollar, closed, open_head, open_subst, close_brace, open_sum, sum_bytes, operand, sum_open, sum_close, close_sum, enter, leave, Test, next, key_next, separates, goes_on, links, pipeline_begins, compound_begins, function_begins, simple_begins, assign_begins, redirect_begins, here_begins, copy_begins, prefix_begins, suffix_begins, item_begins, tilde_begins, unit_begins, single_begins, double_begins, escape_begins, expansion_begins, subst_begins, brace_begins, closed_begins, filling_begins, sum_begins, sum_goes_on, sum_opens}

-- What is known of the here-documents: all bodies in their order, and how an expanded one is read at a depth.
pub record Known : Type 0 where
  pub bodies : List Text
  pub expand : ℕ → Text → Option Parts

-- nesting is at most so deep
abbrev pub limit : ℕ
limit = 1000

-- ---- leaves

abbrev pub Read : Type 0
Read = Option (Leaf Node × State)

abbrev pub when : {A : Type 0} → Bool → A → Option A
when b x = if b then Some x else None

abbrev pub silent : State → Text → Read
silent s bytes = Some (quiet, move s bytes)

abbrev pub gives : Node → State → Text → Read
gives x s bytes = Some (said x, move s bytes)

abbrev pub behind : ℕ → Text → Option Text
behind k [] = None
behind k (b ∷ bs) = if b == k then Some bs else None

-- where a word begins behind blanks; digits right before `<` or `>` belong to the operator
abbrev pub word_place : Text → Option Text
word_place bytes = if is_token Word bytes then Some (gap bytes) else None

-- ---- here-documents

abbrev pub nth : List Text → ℕ → Text
nth [] n = []
nth (x ∷ xs) zero = x
nth (x ∷ xs) (suc n) = nth xs n

-- a body that isn't expanded is one part, or none
abbrev pub literal_parts : Text → Parts
literal_parts [] = no_part
literal_parts (b ∷ bs) = part (plain (b ∷ bs)) no_part

abbrev pub expanded_parts : Known → ℕ → Text → Option Parts
expanded_parts k depth [] = Some no_part
expanded_parts k depth (b ∷ bs) = k.expand depth (b ∷ bs)

-- the redirection to this here-document
abbrev pub here_node : Known → State → Bool → Option Node
here_node k s true = Some (aimed_node here_literal (literal_parts (nth k.bodies s.named)))
here_node k s false = expanded_parts k s.depth (nth k.bodies s.named) >>= λ ps. Some (aimed_node here_expanded ps)

-- behind the operator
abbrev pub here_after : Known → State → Bool → Text → Read
here_after k s strips bytes = word_place bytes >>= λ place. delimiter_for strips place >>= λ d. here_node k s d.0.1 >>= λ x.
    Some (said x, record s { bytes = d.1; owed = s.owed ++ record { delimiter = d.0.0; literal = d.0.1; strips = strips } ∷ []; named = suc s.named })

abbrev pub here_read : Known → State → Op × Text → Read
here_read k s (DLess, rest) = here_after k s false rest
here_read k s (DLessDash, rest) = here_after k s true rest
here_read k s t = None

-- ---- other redirections

abbrev pub op_read : State → Op × Text → Read
op_read s (Less, rest) = gives (op_node read) s rest
op_read s (Great, rest) = gives (op_node write) s rest
op_read s (DGreat, rest) = gives (op_node append) s rest
op_read s t = None

abbrev pub is_copied : ℕ → Bool
is_copied b = is_digit b || b == 45

-- a digit or `-` that is the whole word
abbrev pub copied_read : State → RedirectOp → Text → Read
copied_read s o [] = None
copied_read s o (b ∷ bs) = if is_copied b && not (unit_starts in_word (clear bs)) then gives (aimed_node o (part (plain (b ∷ [])) no_part)) s bs else None

abbrev pub copy_read : State → Op × Text → Read
copy_read s (LessAnd, rest) = word_place rest >>= λ place. copied_read s copy_in place
copy_read s (GreatAnd, rest) = word_place rest >>= λ place. copied_read s copy_out place
copy_read s t = None

abbrev pub digit_read : State → Text → Read
digit_read s [] = None
digit_read s (b ∷ bs) = gives (digit_node (b - 48)) s bs

-- ---- words

abbrev pub literal_read : State → Text × Text → Read
literal_read s ([], rest) = None
literal_read s (b ∷ bs, rest) = gives (part_node (plain (b ∷ bs))) s rest

abbrev pub escaped_read : Context → State → Text → Read
escaped_read c s [] = None
escaped_read c s (b ∷ bs) = if is_escaped c b then gives (part_node (exact_part (b ∷ []))) s bs else None

-- the bytes up to the closing quote
unfoldable pub quoted_run : Text → Option (Text × Text)
quoted_run [] = None
quoted_run (b ∷ bs) = if b == 39 then Some ([], bs) else (if b == 0 then None else (quoted_run bs >>= λ x. Some (b ∷ x.0, x.1)))

abbrev pub closed_read : State → Head × Text → Read
closed_read s (closed_head p o, rest) = gives (part_node (param p o)) s rest
closed_read s (filling p t c, rest) = None
closed_read s (trimming p x l, rest) = None

abbrev pub head_read : State → Head × Text → Read
head_read s (closed_head p o, rest) = None
head_read s (filling p t c, rest) = gives (head_node (filling p t c)) s rest
head_read s (trimming p x l, rest) = gives (head_node (trimming p x l)) s rest

-- ---- arithmetic expansions

abbrev pub with_sums : State → List Sum → Text → Read
with_sums s sums bytes = Some (quiet, record s { bytes = bytes; sums = sums })

abbrev pub bytes_read : State → Text × Text → Read
bytes_read s ([], rest) = None
bytes_read s (b ∷ bs, rest) = with_sums s (with_bytes (b ∷ bs) s.sums) rest

-- ---- steps

abbrev pub line_read : State → Text → Read
line_read s rest = bodies_at s.owed rest >>= λ x. Some (quiet, record s { bytes = x.1; owed = []; found = s.found ++ x.0 })

abbrev pub none_owed : List Owed → Bool
none_owed [] = true
none_owed (o ∷ os) = false

unfoldable pub run_step : Known → Step → State → Option (Leaf Node × State)
run_step k (op o) s = if is_token o s.bytes then silent s (token s.bytes).1 else None
run_step k (key w) s = if is_key w s.bytes then silent s (bare s.bytes).1 else None
run_step k line s = if is_token Newline s.bytes then line_read s (token s.bytes).1 else None
run_step k ends s = if is_token End s.bytes && none_owed s.owed then silent s [] else None
run_step k name s = name_at (gap s.bytes) >>= λ x. if unit_starts in_word x.1 then None else gives (text_node x.0) s x.1
run_step k assign_name s = assign_at s.bytes >>= λ x. gives (text_node x.0) s x.1
run_step k descriptor s = digit_read s (gap s.bytes)
run_step k file_op s = op_read s (token s.bytes)
run_step k here s = here_read k s (token s.bytes)
run_step k copy s = copy_read s (token s.bytes)
run_step k to_word s = word_place s.bytes >>= λ place. silent s place
run_step k tilde s = tilde_at (clear s.bytes) >>= λ rest. gives (part_node tilde_part) s rest
run_step k (literal c) s = literal_read s (literal_run c (clear s.bytes))
run_step k (escaped c) s = behind 92 (clear s.bytes) >>= λ rest. escaped_read c s rest
run_step k exact s = behind 39 (clear s.bytes) >>= λ rest. quoted_run rest >>= λ x. gives (part_node (exact_part x.0)) s x.1
run_step k quote s = behind 34 (clear s.bytes) >>= λ rest. silent s rest
run_step k dollar s = dollar_param s.bytes >>= λ x. gives (part_node (param x.0 as_is)) s x.1
run_step k closed s = if nat_lt s.depth limit then (dollar_head s.bytes >>= λ x. closed_read s x) else None
run_step k open_head s = dollar_head s.bytes >>= λ x. head_read s x
run_step k open_subst s = behind_two 36 40 s.bytes >>= λ rest. silent s rest
run_step k close_brace s = behind 125 (clear s.bytes) >>= λ rest. silent s rest
run_step k open_sum s = dollar_sum s.bytes >>= λ rest. with_sums s (no_sum ∷ s.sums) rest
run_step k sum_bytes s = bytes_read s (sum_run s.bytes)
run_step k operand s = with_sums s (with_operand s.sums) s.bytes
run_step k sum_open s = behind 40 s.bytes >>= λ rest. with_sums s (with_bytes (40 ∷ []) s.sums) rest
run_step k sum_close s = behind 41 s.bytes >>= λ rest. with_sums s (with_bytes (41 ∷ []) s.sums) rest
run_step k close_sum s = behind_two 41 41 s.bytes >>= λ rest. innermost s.sums >>= λ e. Some (said (expr_node e), record s { bytes = rest; sums = without_innermost s.sums })
run_step k enter s = when (nat_lt s.depth limit) (quiet, record s { depth = suc s.depth })
run_step k leave s = Some (quiet, record s { depth = s.depth - 1 })

-- ---- tests

abbrev pub byte_next : ℕ → Text → Bool
byte_next k bytes = starts (λ b. b == k) (clear bytes)

abbrev pub escaped_behind : Context → Text → Bool
escaped_behind c [] = false
escaped_behind c (b ∷ bs) = b == 92 && starts (is_escaped c) bs

abbrev pub dollar_behind : Text → Bool
dollar_behind [] = false
dollar_behind (b ∷ bs) = b == 36 && not (is_bare_dollar bs)

abbrev pub is_empty : Text → Bool
is_empty [] = true
is_empty (b ∷ bs) = false

unfoldable pub holds : Test → State → Bool
holds (next o) s = is_token o s.bytes
holds (key_next w) s = is_key w s.bytes
holds separates s = is_token Semi s.bytes || is_token Newline s.bytes
holds goes_on s = is_token Semi s.bytes && pipeline_next (token s.bytes).1
holds links s = is_token AndIf s.bytes || is_token OrIf s.bytes
holds pipeline_begins s = pipeline_next s.bytes
holds compound_begins s = compound_next s.bytes
holds function_begins s = function_next s.bytes
holds simple_begins s = simple_next s.bytes
holds assign_begins s = assign_next s.bytes
holds redirect_begins s = redirect_next s.bytes
holds here_begins s = here_next s.bytes
holds copy_begins s = copy_next s.bytes
holds prefix_begins s = redirect_next s.bytes || assign_next s.bytes
holds suffix_begins s = redirect_next s.bytes || is_token Word s.bytes
holds item_begins s = is_token Open s.bytes || (is_token Word s.bytes && not (is_key Esac s.bytes))
holds tilde_begins s = tilde_next s.bytes
holds (unit_begins c) s = unit_starts c (clear s.bytes)
holds (single_begins c) s = has_single c && byte_next 39 s.bytes
holds (double_begins c) s = has_double c && byte_next 34 s.bytes
holds (escape_begins c) s = escaped_behind c (clear s.bytes)
holds expansion_begins s = dollar_behind (clear s.bytes)
holds subst_begins s = subst_next s.bytes
holds brace_begins s = brace_next s.bytes
holds closed_begins s = closed_next s.bytes
holds filling_begins s = filling_next s.bytes
holds sum_begins s = sum_next s.bytes
holds sum_goes_on s = not (starts (λ b. b == 41) s.bytes || starts (λ b. b == 0) s.bytes) && not (is_empty s.bytes)
holds sum_opens s = starts (λ b. b == 40) s.bytes
