-- Reading from left to right, as the code does it.
use Rattle.std.specs.Prelude.{◌≡◌, ℕ, zero, suc, ◌+◌, Bool, true, false, List, [], ◌∷◌, length, take, drop, Option, Some, None, Result, Ok, Err, ◌==◌, if◌then◌else◌}
use Rattle.std.specs.List.{prefix_len, list_all}
use Rattle.span_text.specs.Names.{begins_name, continues_name}
use Rattle.span_text.specs.Scanning.{starts, is_blank, is_plain_byte, is_exact_byte, is_quoted_byte, is_comment_byte, ends_word}
use Rattle.bash_tree.specs.Shape.{Part, plain, exact, double, param, Words, no_word, word, Value, no_value, value, no_assign, assign, Command, simple, Script, no_item, item, alone}
use Rattle.bash_tree.specs.View.{parts_of}
use Rattle.bash2sh.specs.declared.fault.Stop.{Stop}
use Rattle.bash2sh.specs.declared.fault.Stop.TheVariants as stop
use Rattle.bash2sh.specs.Form.{command_form}

infixl 10 ◌>>=◌
abbrev pub ◌>>=◌ : {A B : Type 0} → Option A → (A → Option B) → Option B
(Some x) >>= f = f x
None >>= f = None

-- What a function returned, seen by view, is what reading gives, unless memory ran out.
abbrev pub Fails : {Y : Type 0} → Stop → Option Y → Type 0
Fails stop.Memory read = Unit {0}
Fails stop.Bad read = read ≡ None

abbrev pub Gives : {X Y : Type 0} → (X → Y) → Result X Stop → Option Y → Type 0
Gives view (Ok x) read = read ≡ Some (view x)
Gives view (Err e) read = Fails e read

abbrev pub run_at : (ℕ → Bool) → List ℕ → List ℕ × List ℕ
run_at p bytes = (take (prefix_len p bytes) bytes, drop (prefix_len p bytes) bytes)

-- ---- words

unfoldable pub param_at : List ℕ → Option (Part × List ℕ)
param_at inner = if starts begins_name inner then Some (param (run_at continues_name inner).0, (run_at continues_name inner).1) else None

unfoldable pub quoted_run_at : List ℕ → Option (Part × List ℕ)
quoted_run_at bytes = if starts is_quoted_byte bytes then Some (plain (run_at is_quoted_byte bytes).0, (run_at is_quoted_byte bytes).1) else None

unfoldable pub quoted_part_at : List ℕ → Option (Part × List ℕ)
quoted_part_at [] = None
quoted_part_at (b ∷ rest) = if b == 36 then param_at rest else quoted_run_at (b ∷ rest)

abbrev pub is_quote : ℕ → Bool
is_quote b = b == 34

-- at most so many parts, up to the closing quote
unfoldable pub quoted_parts_at : ℕ → List ℕ → Option (List Part × List ℕ)
quoted_parts_at zero bytes = None
quoted_parts_at (suc n) bytes = if starts is_quote bytes then Some ([], bytes) else (quoted_part_at bytes >>= λ p. quoted_parts_at n p.1 >>= λ ps. Some (p.0 ∷ ps.0, ps.1))

-- what stands behind a quote
abbrev pub behind : ℕ → List ℕ → Option (List ℕ)
behind quote [] = None
behind quote (b ∷ rest) = if b == quote then Some rest else None

abbrev pub closed_by : ℕ → Part → List ℕ → Option (Part × List ℕ)
closed_by quote p bytes = behind quote bytes >>= λ rest. Some (p, rest)

unfoldable pub exact_at : List ℕ → Option (Part × List ℕ)
exact_at inner = closed_by 39 (exact (run_at is_exact_byte inner).0) (run_at is_exact_byte inner).1

unfoldable pub double_at : List ℕ → Option (Part × List ℕ)
double_at inner = quoted_parts_at (suc (length inner)) inner >>= λ ps. closed_by 34 (double (parts_of ps.0)) ps.1

unfoldable pub plain_at : List ℕ → Option (Part × List ℕ)
plain_at bytes = if starts is_plain_byte bytes then Some (plain (run_at is_plain_byte bytes).0, (run_at is_plain_byte bytes).1) else None

unfoldable pub part_at : List ℕ → Option (Part × List ℕ)
part_at [] = None
part_at (b ∷ rest) = if b == 39 then exact_at rest else (if b == 34 then double_at rest else plain_at (b ∷ rest))

-- at most so many parts, up to the end of the word
unfoldable pub parts_at : ℕ → List ℕ → Option (List Part × List ℕ)
parts_at zero bytes = None
parts_at (suc n) bytes = if ends_word bytes then Some ([], bytes) else (part_at bytes >>= λ p. parts_at n p.1 >>= λ ps. Some (p.0 ∷ ps.0, ps.1))

abbrev pub word_at : List ℕ → Option (List Part × List ℕ)
word_at bytes = parts_at (suc (length bytes)) bytes

-- at most so many words, up to the end of the line
unfoldable pub words_at : ℕ → List ℕ → Option (List (List Part))
words_at zero bytes = None
words_at (suc n) bytes = if length (run_at is_blank bytes).1 == 0 then Some []
    else (word_at (run_at is_blank bytes).1 >>= λ w. words_at n w.1 >>= λ ws. Some (w.0 ∷ ws))

abbrev pub words_from : List (List Part) → Words
words_from [] = no_word
words_from (w ∷ ws) = word (parts_of w) (words_from ws)

-- ---- commands

unfoldable pub value_at : List ℕ → Option Value
value_at bytes = if ends_word bytes then (if list_all is_blank bytes then Some no_value else None)
    else (word_at bytes >>= λ w. if list_all is_blank w.1 then Some (value (parts_of w.0)) else None)

abbrev pub plus_at : List ℕ → Option (Bool × List ℕ)
plus_at [] = None
plus_at (b ∷ bs) = if b == 61 then Some (true, bs) else None

-- `=` or `+=`, and what stands behind it
unfoldable pub sign_at : List ℕ → Option (Bool × List ℕ)
sign_at [] = None
sign_at (b ∷ bs) = if b == 61 then Some (false, bs) else (if b == 43 then plus_at bs else None)

abbrev pub named : List (List Part) → Option Command
named [] = None
named (w ∷ ws) = Some (simple no_assign (words_from (w ∷ ws)))

unfoldable pub words_command : List ℕ → Option Command
words_command bytes = words_at (suc (length bytes)) bytes >>= named

unfoldable pub assign_command : List ℕ → Bool × List ℕ → Option Command
assign_command name s = value_at s.1 >>= λ v. Some (simple (assign name s.0 v no_assign) no_word)

abbrev pub by_sign : List ℕ → Option (Bool × List ℕ) → List ℕ → Option Command
by_sign name None bytes = words_command bytes
by_sign name (Some s) bytes = assign_command name s

unfoldable pub command_at : List ℕ → Option Command
command_at bytes = if starts begins_name bytes then by_sign (run_at continues_name bytes).0 (sign_at (run_at continues_name bytes).1) bytes else words_command bytes

-- ---- lines: nothing where the line isn't taken, and else its command, where it has one

abbrev pub of_form : Command → Option (Option Command)
of_form c = if command_form c then Some (Some c) else None

abbrev pub taken_at : List ℕ → Option (Option Command)
taken_at bytes = command_at bytes >>= of_form

unfoldable pub front_at : List ℕ → Option (Option Command)
front_at [] = Some None
front_at (b ∷ rest) = if b == 35 then (if list_all is_comment_byte rest then Some None else None) else taken_at (b ∷ rest)

unfoldable pub line_at : List ℕ → Option (Option Command)
line_at line = front_at (run_at is_blank line).1

infixl 10 ◌>>◌
abbrev pub ◌>>◌ : {A B : Type 0} → Result A ℕ → (A → Result B ℕ) → Result B ℕ
(Ok x) >> f = f x
(Err e) >> f = Err e

abbrev pub put : Option Command → List Command → List Command
put None cs = cs
put (Some c) cs = c ∷ cs

-- what comes of a line at this offset, where the lines behind it are read by next
abbrev pub by_line : ℕ → List ℕ → Option (Option Command) → Result (List Command) ℕ → Result (List Command) ℕ
by_line at line None next = Err (at + length (run_at is_blank line).0)
by_line at line (Some c) next = next >> λ cs. Ok (put c cs)

unfoldable pub lines_at : ℕ → List (List ℕ) → Result (List Command) ℕ
lines_at at [] = Ok []
lines_at at (l ∷ ls) = by_line at l (line_at l) (lines_at (at + length l + 1) ls)

abbrev pub script_from : List Command → Script
script_from [] = no_item
script_from (c ∷ cs) = item (alone c) (script_from cs)
