-- When each test holds.
use Rattle.std.specs.Prelude.{ℕ, Bool, true, false, ◌||◌, ◌&&◌, not, ◌==◌, [], ◌∷◌, Option, Some, None, if◌then◌else◌}
use Rattle.bash_grammar.specs.Bytes.{Text, Context, Spot, words, seconds, is_bare, is_body, is_quotes, clear, gap, starts, byte_next, is_quote, is_escaped, expands, quotes_dollar, opens_glob, opens_process, unit_starts, unit_starts_in}
use Rattle.bash_grammar.specs.Tokens.{◌>>=◌, behind, is_something, End, Newline, Semi, SemiSemi, SemiAnd, SemiSemiAnd, Amp, AndIf, OrIf, Pipe, PipeAnd, Open, Word, token, is_token, Esac, CloseCond, is_key, is_word_of, declaring_words, command_words, unary_tests, binary_tests, is_angle_token, here_next, redirect_next, simple_next, compound_next, command_next, pipeline_next, sum_command_next, parens_next, name_at, tilde_next}
use Rattle.bash_grammar.specs.Heads.{sum_next, subst_next, brace_next, old_next, ansi_next, locale_next, dollar_at, expansion_next, brace_name, length_name, pointed_name, members_at, names_at, fill_at, trim_at, case_at, slice_at}
use Rattle.bash_grammar.specs.State.{State, move}
use Rattle.bash_grammar.specs.Sums.{level_of, stretches}
use Rattle.bash_grammar.specs.Moves.{Test, next, key_next, byte_begins, separates, list_goes_on, goes_on, links, pipes, item_ends, pipeline_begins, command_begins, compound_begins, other_begins, simple_begins, double_begins, parens_begin, option_begins, time_ends, declare_begins, redirect_begins, here_begins, prefix_begins, suffix_begins, list_begins, indexed_begins, item_begins, unary_begins, binary_begins, regex_begins, cond_word_begins, regex_word_begins, regex_goes_on, tilde_begins, unit_begins, quote_begins, exact_begins, double_quote_begins, escape_begins, pair_begins, dollar_begins, expansion_begins, locale_begins, lone_locale_begins, ansi_begins, ansi_pair_begins, other_unit_begins, tick_begins, odd_tick_begins, process_begins, in_command, sum_begins, subst_begins, brace_begins, old_begins, length_begins, pointed_begins, named_begins, members_begin, names_begin, fill_begins, trim_begins, case_begins, slice_begins, sum_goes_on, sum_opens, sum_expands}
use Rattle.bash_grammar.specs.Table.{in_regex}
use Rattle.bash_grammar.specs.Steps.{Scan, flag_text, equals_at, ticks_at}

-- ---- assignments (3.4, 6.7)

-- behind a subscript, if there is one
abbrev pub behind_index : Scan → State → Option Text
behind_index scan s = if byte_next 91 s.bytes then scan s else Some s.bytes

-- behind the `=` or `+=` of an assignment
unfoldable pub assign_at : Scan → State → Option Text
assign_at scan s = name_at (gap s.bytes) >>= λ x. behind_index scan (move s x.1) >>= equals_at >>= λ y. Some y.1

abbrev pub assign_next : Scan → State → Bool
assign_next scan s = is_something (assign_at scan s)

abbrev pub opens_list : Option Text → Bool
opens_list None = false
opens_list (Some rest) = byte_next 40 rest

-- `[i]=`
unfoldable pub indexed_next : Scan → State → Bool
indexed_next scan s = starts (λ b. b == 91) (gap s.bytes) && is_something (scan (move s (gap s.bytes)) >>= λ rest. behind 61 (clear rest))

-- ---- `[[ ]]` (6.4)

-- a word other than `]]`
abbrev pub cond_word_next : Text → Bool
cond_word_next bytes = is_token Word bytes && not (is_key CloseCond bytes)

-- a regular expression goes on
abbrev pub regex_next : Text → Bool
regex_next bytes = unit_starts in_regex bytes || byte_next 40 bytes

-- ---- units

abbrev pub is_words : Spot → Bool
is_words words = true
is_words s = false

abbrev pub is_seconds : Spot → Bool
is_seconds seconds = true
is_seconds s = false

abbrev pub escapes : Context → Text → Bool
escapes c [] = false
escapes c (b ∷ bs) = b == 92 && starts (is_escaped c) bs

abbrev pub quotes_at : Context → Text → Bool
quotes_at c bytes = starts (λ b. is_quote c b && not (is_quotes c.spot)) bytes || escapes c bytes

abbrev pub dollar_in : Context → Text → Bool
dollar_in c [] = false
dollar_in c (b ∷ bs) = b == 36 && starts (λ d. expands d || quotes_dollar c.spot d) (clear bs)

abbrev pub process_at : Context → Text → Bool
process_at c [] = false
process_at c (b ∷ bs) = opens_process c b bs

abbrev pub glob_at : Context → Text → Bool
glob_at c [] = false
glob_at c (b ∷ bs) = opens_glob c b bs

abbrev pub has_byte : ℕ → Text → Bool
has_byte k [] = false
has_byte k (b ∷ bs) = b == k || has_byte k bs

-- a backslash between backquotes, or inside double quotes a `"`
abbrev pub is_odd_tick : Context → Option (Text × Text) → Bool
is_odd_tick c None = false
is_odd_tick c (Some x) = has_byte 92 x.0 || (has_byte 34 x.0 && not (is_bare c.quoting || is_body c.quoting))

unfoldable pub holds : Scan → Test → State → Bool
holds scan (next o) s = is_token o s.bytes
holds scan (key_next w) s = is_key w s.bytes
holds scan (byte_begins b) s = byte_next b s.bytes
holds scan separates s = is_token Semi s.bytes || is_token Amp s.bytes
holds scan list_goes_on s = is_token Semi s.bytes || is_token Amp s.bytes || is_token Newline s.bytes
holds scan goes_on s = (is_token Semi s.bytes || is_token Amp s.bytes) && pipeline_next (token s.bytes).1
holds scan links s = is_token AndIf s.bytes || is_token OrIf s.bytes
holds scan pipes s = is_token Pipe s.bytes || is_token PipeAnd s.bytes
holds scan item_ends s = is_token SemiSemi s.bytes || is_token SemiAnd s.bytes || is_token SemiSemiAnd s.bytes
holds scan pipeline_begins s = pipeline_next s.bytes
holds scan command_begins s = command_next s.bytes
holds scan compound_begins s = compound_next s.bytes
holds scan other_begins s = is_token Word s.bytes && is_word_of command_words s.bytes
holds scan simple_begins s = simple_next s.bytes
holds scan double_begins s = sum_command_next s.bytes
holds scan parens_begin s = parens_next s.bytes
holds scan (option_begins f) s = is_word_of (flag_text f ∷ []) s.bytes
holds scan time_ends s = is_token Semi s.bytes || is_token Newline s.bytes || is_token End s.bytes
holds scan declare_begins s = is_token Word s.bytes && is_word_of declaring_words s.bytes
holds scan redirect_begins s = redirect_next s.bytes
holds scan here_begins s = here_next s.bytes
holds scan prefix_begins s = redirect_next s.bytes || assign_next scan s
holds scan suffix_begins s = redirect_next s.bytes || is_token Word s.bytes
holds scan list_begins s = opens_list (assign_at scan s)
holds scan indexed_begins s = indexed_next scan s
holds scan item_begins s = is_token Open s.bytes || (is_token Word s.bytes && not (is_key Esac s.bytes))
holds scan unary_begins s = is_token Word s.bytes && is_word_of unary_tests s.bytes
holds scan binary_begins s = is_angle_token s.bytes || (is_token Word s.bytes && is_word_of binary_tests s.bytes)
holds scan regex_begins s = is_token Word s.bytes && is_word_of ((61 ∷ 126 ∷ []) ∷ []) s.bytes
holds scan cond_word_begins s = cond_word_next s.bytes
holds scan regex_word_begins s = regex_next (gap s.bytes) && not (is_key CloseCond s.bytes)
holds scan regex_goes_on s = regex_next s.bytes
holds scan tilde_begins s = tilde_next s.bytes
holds scan (unit_begins c) s = unit_starts_in c (level_of s.frames) s.bytes
holds scan (quote_begins c) s = quotes_at c (clear s.bytes)
holds scan (exact_begins c) s = is_bare c.quoting && byte_next 39 s.bytes
holds scan (double_quote_begins c) s = not (is_body c.quoting) && byte_next 34 s.bytes
holds scan (escape_begins c) s = escapes c (clear s.bytes)
holds scan (pair_begins c) s = not (is_body c.quoting) && byte_next 39 s.bytes
holds scan (dollar_begins c) s = dollar_in c (clear s.bytes)
holds scan expansion_begins s = expansion_next s.bytes
holds scan (locale_begins c) s = not (is_body c.quoting) && locale_next c.spot s.bytes
holds scan (lone_locale_begins c) s = locale_next c.spot s.bytes
holds scan (ansi_begins c) s = (is_bare c.quoting || not (is_body c.quoting || is_seconds c.spot)) && ansi_next c.spot s.bytes
holds scan (ansi_pair_begins c) s = not (is_body c.quoting) && ansi_next c.spot s.bytes
holds scan (other_unit_begins c) s = byte_next 96 s.bytes || process_at c (clear s.bytes) || glob_at c (clear s.bytes)
holds scan tick_begins s = byte_next 96 s.bytes
holds scan (odd_tick_begins c) s = is_odd_tick c (ticks_at s.bytes)
holds scan (process_begins c) s = process_at c (clear s.bytes)
holds scan (in_command c) s = is_words c.spot
holds scan sum_begins s = sum_next s.bytes
holds scan subst_begins s = subst_next s.bytes
holds scan brace_begins s = brace_next s.bytes
holds scan old_begins s = old_next s.bytes
holds scan length_begins s = is_something (length_name s.bytes)
holds scan pointed_begins s = is_something (pointed_name s.bytes)
holds scan named_begins s = is_something (brace_name s.bytes)
holds scan members_begin s = is_something (members_at s.bytes)
holds scan names_begin s = is_something (names_at s.bytes)
holds scan fill_begins s = is_something (fill_at s.bytes)
holds scan trim_begins s = is_something (trim_at s.bytes)
holds scan case_begins s = is_something (case_at s.bytes)
holds scan slice_begins s = is_something (slice_at s.bytes)
holds scan (sum_goes_on x) s = stretches x (level_of s.frames) s.bytes
holds scan sum_opens s = starts (λ b. b == 40) s.bytes
holds scan sum_expands s = dollar_at s.bytes
