-- How long the sh text of a script is: at most four bytes for a byte of its Bash text.
use Rattle.std.proofs.Common.{◌≡◌, ℕ, ◌+◌, ◌*◌, ◌≤◌, Bool, true, false, List, [], ◌∷◌, ◌++◌, length, sym, ap, subst, inl, inr, arith, length-append, if◌then◌else◌}
use Rattle.span_text.specs.Names.{continues_name}
use Rattle.span_text.specs.Scanning.{is_blank, is_plain_byte, is_exact_byte, is_quoted_byte}
use Rattle.span_text.proofs.Runs.{Run-length}
use Rattle.sh_grammar.specs.Bytes.{in_word, in_double, has_single}
use Rattle.sh_printing.specs.Marks.{line, blank, exact_text, named_text, is_quote}
use Rattle.sh_printing.specs.Printing.{continued, part_opens, behind_opening, parts_text, words_text, value_text, chain_text, printed}
use Rattle.bash_tree.specs.Shape.{plain, exact, double, param, Parts, no_part, part, Words, no_word, word, Value, no_value, value, no_assign, assign, Command, simple, Script, no_item, item, background_item, alone}
use Rattle.bash2sh.specs.Form.{name_form, words_form, command_form}
use Rattle.bash2sh.specs.Lower.{lower_part, lower_parts, lower_words, lower_value, lower_chain, lower}
use Rattle.bash2sh.specs.Spelling.{QuotedPartsAt, PartsAt, WordsAt, ValueAt, sign, CommandAt, LinesAt, total}
use Rattle.bash2sh.proofs.Tools.{both}
use Rattle.bash2sh.proofs.Printable.{no_reserved}
use Rattle.bash2sh.proofs.WordLaws.{word_shorter}

-- ---- parts of words

named_size : (more : Bool) (name : List ℕ) → length (named_text more name) ≤ length name + 3
named_size true name = let k = length-append name (125 ∷ []) in omega (arith, k)
named_size false name = omega arith

quoted_by : (b : Bool) (text : List ℕ) → length (if b then 92 ∷ text else (39 ∷ text ++ 39 ∷ [])) ≤ length text + 2
quoted_by true text = omega arith
quoted_by false text = let k = length-append text (39 ∷ []) in omega (arith, k)

exact_size : (text : List ℕ) → length (exact_text (has_single in_word) text) ≤ length text + 2
unfolding has_single
exact_size text = quoted_by (is_quote text) text

quoted_size : (opening : List ℕ) (ps : Parts) (bytes rest : List ℕ) → QuotedPartsAt ps bytes rest → length (parts_text true in_double opening (lower_parts ps)) + 3 * length rest ≤ 3 * length bytes
quoted_size opening no_part bytes rest h = let k = ap length h in omega (arith, k)
quoted_size opening (part (plain text) ps) bytes rest h =
    let a = Run-length is_quoted_byte text bytes h.0 h.1.1 in
    let b = quoted_size opening ps h.0 rest h.2 in
    let c = length-append text (parts_text true in_double opening (lower_parts ps)) in
    omega (arith, a, b, c)
quoted_size opening (part (param name) ps) bytes rest h =
    let a = ap length h.1.1 in
    let b = Run-length continues_name name h.1.0 h.0 h.1.3 in
    let c = quoted_size opening ps h.0 rest h.2 in
    let d = named_size (continued (lower_parts ps)) name in
    let e = length-append (named_text (continued (lower_parts ps)) name) (parts_text true in_double opening (lower_parts ps)) in
    omega (arith, a, b, c, d, e)
quoted_size opening (part (exact text) ps) bytes rest h = absurd h.1
quoted_size opening (part (double qs) ps) bytes rest h = absurd h.1

-- the quotes around a text
quotes_size : (t : List ℕ) → length (34 ∷ t ++ 34 ∷ []) ≡ length t + 2
quotes_size t = let k = length-append t (34 ∷ []) in omega (arith, k)

parts_size : (opening : List ℕ) (ps : Parts) (bytes rest : List ℕ) → PartsAt ps bytes rest → length (parts_text true in_word opening (lower_parts ps)) + 3 * length rest ≤ 3 * length bytes
parts_size opening no_part bytes rest h = let k = ap length h.0 in omega (arith, k)
parts_size opening (part (plain text) ps) bytes rest h =
    let a = Run-length is_plain_byte text bytes h.0 h.1.1 in
    let b = parts_size opening ps h.0 rest h.2 in
    let c = length-append text (parts_text true in_word opening (lower_parts ps)) in
    omega (arith, a, b, c)
parts_size opening (part (exact text) ps) bytes rest h =
    let a = ap length h.1.1 in
    let b = Run-length is_exact_byte text h.1.0 (39 ∷ h.0) h.1.2 in
    let c = parts_size opening ps h.0 rest h.2 in
    let d = exact_size text in
    let e = length-append (exact_text (has_single in_word) text) (parts_text true in_word opening (lower_parts ps)) in
    omega (arith, a, b, c, d, e)
parts_size opening (part (double qs) ps) bytes rest h =
    let a = ap length h.1.1 in
    let b = quoted_size opening qs h.1.0 (34 ∷ h.0) h.1.2 in
    let behind : List ℕ = behind_opening (part_opens (lower_part (double qs))) opening in
    let c = parts_size behind ps h.0 rest h.2 in
    let d = quotes_size (parts_text true in_double opening (lower_parts qs)) in
    let e = length-append (34 ∷ parts_text true in_double opening (lower_parts qs) ++ 34 ∷ []) (parts_text true in_word behind (lower_parts ps)) in
    omega (arith, a, b, c, d, e)
parts_size opening (part (param name) ps) bytes rest h = absurd h.1

-- ---- words

words_size : (ws : Words) (bytes : List ℕ) → WordsAt ws bytes → length (words_text true true (lower_words ws)) ≤ 4 * length bytes
words_size no_word bytes h = omega arith
words_size (word w ws) bytes h =
    let a = Run-length is_blank h.0 bytes h.1 h.3 in
    let b = parts_size blank w h.1 h.2 h.4.1 in
    let c = word_shorter w h.1 h.2 h.4 in
    let d = words_size ws h.2 h.5 in
    let e = length-append (parts_text true in_word blank (lower_parts w)) (words_text true true (lower_words ws)) in
    omega (arith, a, b, c, d, e)

-- what stands behind the `=`
value_size : (append : Bool) (name : List ℕ) (v : Value) (bytes : List ℕ) → ValueAt v bytes → length (value_text true (lower_value append name v)) ≤ 3 * length bytes + length name + 3
value_size false name no_value bytes h = omega arith
value_size false name (value w) bytes h = let a = parts_size blank w bytes h.0 h.1.1 in omega (arith, a)
value_size true name no_value bytes h =
    let a = length-append (name ++ []) (34 ∷ []) in
    let b = length-append name [] in
    let c = length-append (34 ∷ 36 ∷ (name ++ []) ++ 34 ∷ []) [] in
    omega (arith, a, b, c)
value_size true name (value w) bytes h =
    let a = parts_size blank w bytes h.0 h.1.1 in
    let b = length-append name [] in
    let c = length-append (name ++ []) (34 ∷ []) in
    let d = length-append (34 ∷ 36 ∷ (name ++ []) ++ 34 ∷ []) (parts_text true in_word blank (lower_parts w)) in
    omega (arith, a, b, c, d)

-- ---- commands

called_line : (a b : List ℕ) → length (a ++ b ++ 10 ∷ [] ++ [] ++ []) ≡ length a + length b + 1
called_line a b = grind (arith, length-append)

assigned_line : (name v : List ℕ) → length (name ++ 61 ∷ v ++ [] ++ [] ++ 10 ∷ [] ++ [] ++ []) ≡ length name + length v + 2
assigned_line name v = grind (arith, length-append)

sign_size : (append : Bool) (after : List ℕ) → length after + 1 ≤ length (sign append after)
sign_size false after = omega arith
sign_size true after = omega arith

-- a line: its command and the newline
line_size : (c : Command) (bytes : List ℕ) → CommandAt c bytes → command_form c ≡ true → length (chain_text true line (lower_chain (alone c))) ≤ 4 * length bytes + 1
line_size (simple no_assign no_word) bytes h f = absurd h
line_size (simple no_assign (word w ws)) bytes h f =
    let a = parts_size blank w bytes h.0 h.1.1 in
    let b = words_size ws h.0 h.2 in
    let c = called_line (parts_text true in_word blank (lower_parts w)) (words_text true true (lower_words ws)) in
    rw (no_reserved w (both (name_form w) (words_form ws) f).0) (omega (arith, a, b, c))
line_size (simple (assign name append v no_assign) no_word) bytes h f =
    let a = Run-length continues_name name bytes (sign append h.0) h.2 in
    let b = sign_size append h.0 in
    let c = value_size append name v h.0 h.3 in
    let d = assigned_line name (value_text true (lower_value append name v)) in
    omega (arith, a, b, c, d)
line_size (simple (assign name append v no_assign) (word w ws)) bytes h f = absurd h
line_size (simple (assign name append v (assign name' append' v' more)) ws) bytes h f = absurd h

-- ---- scripts

pub lines_size : (ls : List (List ℕ)) (s : Script) → LinesAt ls s → length (printed (lower s)) ≤ 4 * total ls
lines_size [] no_item h = omega arith
lines_size [] (item c more) h = absurd h
lines_size [] (background_item c more) h = absurd h
lines_size (l ∷ ls) s (inl h) = let a = lines_size ls s h.1 in omega (arith, a)
lines_size (l ∷ ls) s (inr h) =
    let a = Run-length is_blank h.3.0 l h.3.1 h.3.2 in
    let b = line_size h.0 h.3.1 h.3.3 h.3.4 in
    let c = lines_size ls h.1 h.4 in
    let d = length-append (chain_text true line (lower_chain (alone h.0))) (printed (lower h.1)) in
    subst (λ (x : Script). length (printed (lower x)) ≤ 4 * total (l ∷ ls)) (sym h.2) (omega (arith, a, b, c, d))
