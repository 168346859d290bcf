-- A step leaves no more bytes than there were, and fewer where it is said to take one.
use Rattle.std.proofs.Common.{◌≡◌, ◌+◌, ◌≤◌, [], ◌∷◌, length, Option, Some, None, refl, arith}
use Rattle.std.specs.Prelude.{◌&&◌, nat_lt}
use Rattle.text_grammar.specs.Grammar.{Leaf, quiet}
use Rattle.text_grammar.specs.Language.{one_if}
use Rattle.bash_grammar.specs.Shape.{locale_quote, nested_quote, extended_glob}
use Rattle.bash_grammar.specs.Bytes.{Text, clear, gap, literal_in, name_run, unit_starts, in_word}
use Rattle.bash_grammar.specs.Quotes.{quoted_run, outside, ansi_from}
use Rattle.bash_grammar.specs.Tokens.{◌>>=◌, behind, End, Newline, Amp, Io, token, is_token, literal_word, is_key, is_word_of, is_angle_token, name_at, tilde_at}
use Rattle.bash_grammar.specs.Heads.{behind_two, dollar_name, brace_name, length_name, pointed_name, brace_special, dollar_sum, members_at, names_at, fill_at, trim_at, case_at, replace_at, transform_at, slice_at}
use Rattle.bash_grammar.specs.State.{State, move, ahead}
use Rattle.bash_grammar.specs.Sums.{level_of, open_frame, close_frame, begin_operand as begin_in, end_operand as end_in, stretch_run}
use Rattle.bash_grammar.specs.Nodes.{Node}
use Rattle.bash_grammar.specs.Moves.{Step, op, key, line, ends, ampersand, pipe, item_op, test_op, option, name, assign_name, assign_op, digit, far, redirect_op, here_document, from_token, from_unit, to_here, to_word, to_regex, byte, tilde, literal, escaped, exact, ansi, nested_exact, nested_ansi, lone_quote, lone_ansi, lone_locale, open_locale, dollar, open_subst, open_process, lone_glob, open_old, open_glob, open_group, close_group, odd_ticks, open_ticks, close_ticks, open_length, open_pointed, open_named, open_special, members, open_key, names, fill_op, trim_op, case_op, replace_op, slice_op, transform_op, open_sum, open_double, close_double, begin_sum, end_sum, sum_bytes, begin_operand, end_operand, enter, leave}
use Rattle.bash_grammar.specs.Steps.{Known, limit, name_read, flag_text, word_place, behind_sign, ticks_at, equals_at, none_owed, run_step}
use Rattle.bash_grammar.specs.Depths.{op_takes, step_takes}
use Rattle.bash_grammar.proofs.Tools as tools
use Rattle.bash_grammar.proofs.Tools.{chosen, chosen_by, then, if_some}
use Rattle.bash_grammar.proofs.Lengths.{clear_fits, gap_fits, literal_fits, literal_in_fits, name_run_fits}
use Rattle.bash_grammar.proofs.Fronts.{token_fits, found_fits}
use Rattle.bash_grammar.proofs.Heads.{Within, Left, RestLeft, behind_clear, behind_two_fits, name_fits, tilde_fits, equals_fits, dollar_name_fits, brace_name_fits, length_name_fits, pointed_name_fits, brace_special_fits, dollar_sum_fits, members_fits, names_fits, fill_fits, trim_fits, case_fits, replace_fits, transform_fits, slice_fits}
use Rattle.bash_grammar.proofs.Quotations.{AnsiWithin, ansi_left, quoted_left}
use Rattle.bash_grammar.proofs.Leaves.{Gives, on, kept, moved, framed_left, name_left, or_short_left, pipe_left, item_left, test_left, angle_left, digit_left, far_within, redirect_left, place_within, key_left, flag_left, here_left, line_left, literal_left, byte_left, lone_left, lone_two_left, sign_left, ticks_twice, into_left, out_left, sum_within, stretch_fits, stretch_left}

-- what is behind one byte, or two
byte_moved : (s : State) (x : Leaf Node) (o : Option Text) → tools.If (Left (length s.bytes)) o → Gives s 1 (o >>= λ rest. Some (x, move s rest))
byte_moved s x o h = on s 1 (Left (length s.bytes)) o _ h (λ rest i. moved s 1 rest i)

pair_moved : {A : Type 0} (s : State) (x : A → Leaf Node) (o : Option (A × Text)) → tools.If (RestLeft {A = A} (length s.bytes)) o → Gives s 1 (o >>= λ y. Some (x y.0, move s y.1))
pair_moved {A} s x o h = on s 1 (RestLeft {A = A} (length s.bytes)) o _ h (λ y i. moved s 1 y.1 i)

name_moved : (s : State) (o : Option Text) → tools.If (Left (length s.bytes)) o → Gives s 1 (o >>= λ from. name_read s from (name_run from))
name_moved s o h = on s 1 (Left (length s.bytes)) o _ h (λ from i. let r = name_run_fits from in name_left s from (name_run from) (omega arith))

frame_opened : (s : State) (o : Option Text) → tools.If (Left (length s.bytes)) o → Gives s 1 (o >>= λ rest. Some (quiet, record s { bytes = rest; frames = open_frame rest s.frames }))
frame_opened s o h = on s 1 (Left (length s.bytes)) o _ h (λ rest i. framed_left s 1 quiet (open_frame rest s.frames) rest i)

whole : (s : State) → length s.bytes + 0 ≤ length s.bytes
whole s = omega arith

abbrev StepFits : Known → Step → State → Type 0
StepFits k p s = Gives s (one_if (step_takes p)) (run_step k p s)

fits : (k : Known) (p : Step) (s : State) → StepFits k p s
unfolding run_step
fits k (op o) s = chosen_by (Gives s (one_if (op_takes o))) (is_token o s.bytes) _ _ (λ e. moved s (one_if (op_takes o)) (token s.bytes).1 (found_fits o s.bytes e)) (λ e. tt)
fits k (key w) s = chosen_by (Gives s 1) (is_key w s.bytes) _ _ (λ e. moved s 1 (literal_word s.bytes).1 (key_left w s.bytes e)) (λ e. tt)
fits k line s = chosen_by (Gives s 1) (is_token Newline s.bytes) _ _ (λ e. line_left s (token s.bytes).1 (found_fits Newline s.bytes e)) (λ e. tt)
fits k ends s = chosen (Gives s 0) (is_token End s.bytes && none_owed s.owed) _ _ (moved s 0 _ (omega arith)) tt
fits k ampersand s = chosen_by (Gives s 1) (is_token Amp s.bytes) _ _ (λ e. moved s 1 (token s.bytes).1 (found_fits Amp s.bytes e)) (λ e. tt)
fits k pipe s = pipe_left s (token s.bytes) (token_fits s.bytes)
fits k item_op s = item_left s (token s.bytes) (token_fits s.bytes)
fits k test_op s = let g = gap_fits s.bytes in let l = literal_fits in_word (gap s.bytes) in
    chosen (Gives s 1) (is_angle_token s.bytes) _ _ (angle_left s (gap s.bytes) g) (test_left s (gap s.bytes) (literal_word s.bytes) (omega arith))
fits k (option f) s = chosen_by (Gives s 1) (is_word_of (flag_text f ∷ []) s.bytes) _ _ (λ e. moved s 1 (literal_word s.bytes).1 (flag_left f s.bytes e)) (λ e. tt)
fits k name s = on s 1 (RestLeft {A = Text} (length s.bytes)) (name_at (gap s.bytes)) _ (name_fits (length s.bytes) (gap s.bytes) (gap_fits s.bytes))
    (λ x h. chosen (Gives s 1) (unit_starts in_word x.1) None (name_read s (gap s.bytes) x) tt (name_left s (gap s.bytes) x h))
fits k assign_name s = on s 1 (RestLeft {A = Text} (length s.bytes)) (name_at (gap s.bytes)) _ (name_fits (length s.bytes) (gap s.bytes) (gap_fits s.bytes)) (λ x h. name_left s (gap s.bytes) x h)
fits k assign_op s = pair_moved s _ (equals_at s.bytes) (equals_fits (length s.bytes) s.bytes (omega arith))
fits k digit s = chosen (Gives s 1) (is_token Io s.bytes) _ _ (digit_left s (gap s.bytes) (gap_fits s.bytes)) tt
fits k far s = far_within s (token s.bytes) (token_fits s.bytes)
fits k redirect_op s = redirect_left s (token s.bytes) (token_fits s.bytes)
fits k here_document s = here_left k s (token s.bytes) (token_fits s.bytes)
fits k from_token s = moved s 0 s.bytes (whole s)
fits k from_unit s = moved s 0 s.bytes (whole s)
fits k to_here s = moved s 0 s.bytes (whole s)
fits k to_word s = on s 0 (Within (length s.bytes)) (word_place s.bytes) _ (place_within s.bytes) (λ place h. moved s 0 place (omega arith))
fits k to_regex s = let g = gap_fits s.bytes in moved s 0 (gap s.bytes) (omega arith)
fits k (byte b) s = byte_moved s quiet (behind b (clear s.bytes)) (behind_clear b (length s.bytes) s.bytes (omega arith))
fits k tilde s = byte_moved s _ (tilde_at (clear s.bytes)) (tilde_fits (length s.bytes) (clear s.bytes) (clear_fits s.bytes))
fits k (literal c) s = literal_left s (length s.bytes) (literal_in c (level_of s.frames) s.bytes) (omega arith) (literal_in_fits c (level_of s.frames) s.bytes)
fits k escaped s = on s 1 (Left (length s.bytes)) (behind 92 (clear s.bytes)) _ (behind_clear 92 (length s.bytes) s.bytes (omega arith)) (λ rest h. byte_left s rest (omega arith))
fits k exact s = on s 1 (RestLeft {A = Text} (length s.bytes)) (behind 39 (clear s.bytes) >>= quoted_run) _ (quoted_left s.bytes) (λ x h. moved s 1 x.1 h)
fits k ansi s = on s 1 (AnsiWithin (length s.bytes)) (behind_two 36 39 s.bytes >>= ansi_from outside) _ (ansi_left s.bytes) (λ a h. moved s 1 a.rest h)
fits k nested_exact s = on s 1 (RestLeft {A = Text} (length s.bytes)) (behind 39 (clear s.bytes) >>= quoted_run) _ (quoted_left s.bytes) (λ x h. moved s 1 x.1 h)
fits k nested_ansi s = on s 1 (AnsiWithin (length s.bytes)) (behind_two 36 39 s.bytes >>= ansi_from outside) _ (ansi_left s.bytes) (λ a h. moved s 1 a.rest h)
fits k lone_quote s = lone_left s nested_quote (clear s.bytes) (clear_fits s.bytes)
fits k lone_ansi s = lone_two_left s nested_quote (clear s.bytes) (clear_fits s.bytes)
fits k lone_locale s = lone_two_left s locale_quote (clear s.bytes) (clear_fits s.bytes)
fits k open_locale s = byte_moved s quiet (behind_two 36 34 s.bytes) (behind_two_fits 36 34 s.bytes)
fits k dollar s = or_short_left s (dollar_name s.bytes) (dollar_name_fits s.bytes)
fits k open_subst s = byte_moved s quiet (behind_two 36 40 s.bytes) (behind_two_fits 36 40 s.bytes)
fits k open_process s = byte_moved s quiet (behind_sign (clear s.bytes)) (sign_left (length s.bytes) (clear s.bytes) (clear_fits s.bytes))
fits k lone_glob s = lone_two_left s extended_glob (clear s.bytes) (clear_fits s.bytes)
fits k open_old s = frame_opened s (behind_two 36 91 s.bytes) (behind_two_fits 36 91 s.bytes)
fits k open_glob s = frame_opened s (behind_sign (clear s.bytes)) (sign_left (length s.bytes) (clear s.bytes) (clear_fits s.bytes))
fits k open_group s = frame_opened s (behind 40 (clear s.bytes)) (behind_clear 40 (length s.bytes) s.bytes (omega arith))
fits k (close_group b) s = on s 1 (Left (length s.bytes)) (behind b (clear s.bytes)) _ (behind_clear b (length s.bytes) s.bytes (omega arith)) (λ rest h. framed_left s 1 quiet (close_frame s.frames) rest h)
fits k odd_ticks s = on s 1 (λ (x : Text × Text). length x.0 + length x.1 + 2 ≤ length s.bytes) (ticks_at s.bytes) _ (ticks_twice s.bytes) (λ x h. moved s 1 x.1 (omega arith))
fits k open_ticks s = on s 1 (λ (x : Text × Text). length x.0 + length x.1 + 2 ≤ length s.bytes) (ticks_at s.bytes) _ (ticks_twice s.bytes) (λ x h. into_left s x h)
fits k close_ticks s = chosen (Gives s 1) (is_token End s.bytes && none_owed s.owed) _ _ (out_left s s.outer refl) tt
fits k open_length s = name_moved s (length_name s.bytes) (length_name_fits s.bytes)
fits k open_pointed s = name_moved s (pointed_name s.bytes) (pointed_name_fits s.bytes)
fits k open_named s = name_moved s (brace_name s.bytes) (brace_name_fits s.bytes)
fits k open_special s = pair_moved s _ (brace_special s.bytes) (brace_special_fits s.bytes)
fits k members s = pair_moved s _ (members_at s.bytes) (members_fits s.bytes)
fits k open_key s = frame_opened s (behind 91 (clear s.bytes)) (behind_clear 91 (length s.bytes) s.bytes (omega arith))
fits k names s = byte_moved s _ (names_at s.bytes) (names_fits s.bytes)
fits k fill_op s = pair_moved s _ (fill_at s.bytes) (fill_fits s.bytes)
fits k trim_op s = pair_moved s _ (trim_at s.bytes) (trim_fits s.bytes)
fits k case_op s = pair_moved s _ (case_at s.bytes) (case_fits s.bytes)
fits k replace_op s = pair_moved s _ (replace_at s.bytes) (replace_fits s.bytes)
fits k slice_op s = byte_moved s quiet (slice_at s.bytes) (slice_fits s.bytes)
fits k transform_op s = byte_moved s _ (transform_at s.bytes) (transform_fits s.bytes)
fits k open_sum s = byte_moved s quiet (dollar_sum s.bytes) (dollar_sum_fits s.bytes)
fits k open_double s = let g = gap_fits s.bytes in on s 1 (Left (length (gap s.bytes))) (behind_two 40 40 (gap s.bytes)) _ (behind_two_fits 40 40 (gap s.bytes)) (λ rest h. moved s 1 rest (omega arith))
fits k close_double s = byte_moved s quiet (behind_two 41 41 s.bytes) (behind_two_fits 41 41 s.bytes)
fits k begin_sum s = framed_left s 0 quiet (open_frame s.bytes s.frames) s.bytes (whole s)
fits k (end_sum optional q) s = sum_within s optional q s.frames
fits k (sum_bytes x) s = stretch_left s (stretch_run x (level_of s.frames) s.bytes) (stretch_fits x (level_of s.frames) s.bytes)
fits k begin_operand s = framed_left s 0 quiet (begin_in (clear s.bytes) s.frames) s.bytes (whole s)
fits k end_operand s = framed_left s 0 quiet (end_in s.bytes s.frames) s.bytes (whole s)
fits k enter s = chosen (Gives s 0) (nat_lt s.depth limit) _ _ (kept s _ 0 refl (whole s)) tt
fits k leave s = kept s _ 0 refl (whole s)

pub step_fits : (k : Known) (p : Step) (s m : State) (x : Leaf Node) → run_step k p s ≡ Some (x, m) → ahead m + one_if (step_takes p) ≤ ahead s
step_fits k p s m x e = if_some (λ (y : Leaf Node × State). ahead y.1 + one_if (step_takes p) ≤ ahead s) (run_step k p s) (x, m) e (fits k p s)
