-- A script whose text is short has no delimiter that is a line of its body: each body is a part of the text.
use Rattle.std.proofs.Common.{◌≡◌, ℕ, suc, ◌+◌, ◌<◌, ◌≤◌, Bool, true, false, [], ◌∷◌, ◌++◌, length, refl, subst, arith}
use Rattle.std.specs.Prelude.{◌||◌, ◌&&◌, not, nat_lt, codes, if◌then◌else◌}
use Rattle.std.proofs.lemmas.Bool.{false≢true}
use Rattle.span_text.specs.Names.{is_name}
use Rattle.sh_grammar.specs.Shape as shape
use Rattle.sh_grammar.specs.Shape.{plain, exact, double, tilde, param, subst as listing, arith as sum, no_part, part, as_is, length_of, fill, trim, no_word, word, no_value, value, no_assign, assign, no_redirect, redirect, command, simple, group, subshell, branching, loop, walk, cases, function, no_branch, branch, no_else, otherwise, parameters, listed, no_item, item, no_stage, stage, pipeline, no_link, and_link, or_link, chain, no_chain, next_chain}
use Rattle.sh_grammar.specs.Bytes.{Text, Context, in_word, in_double, in_body, has_double, fill_context, trim_context}
use Rattle.sh_grammar.specs.Steps.{limit}
use Rattle.sh_printing.specs.Delimiters.{has_line, delimiter, tries}
use Rattle.sh_printing.specs.Marks as marks
use Rattle.sh_printing.specs.Marks.{End, next, blank, ended, led, fd_text, whole_body, param_name, colon_text, test_text, trim_mark, loop_key}
use Rattle.sh_printing.specs.Spellable.{begins_with, param_fits, is_reserved_text, sum_fits}
use Rattle.sh_printing.specs.Printing.{part_text, parts_text, words_text, value_text, assigns_text, redirects_text, last_words_text, last_text, command_text, kind_text, branches_text, otherwise_text, for_words_text, patterns_text, items_text, stages_text, pipeline_text, links_text, chain_text, list_text, script_text, continued, behind_opening, part_opens, parts_open, has_assign, has_word, words_last, is_something, stage_end, link_end}
use Rattle.sh_printing.specs.Printable
use Rattle.sh_printing.proofs.BackBytes.{both, three, four, five}
use Rattle.sh_printing.proofs.BackNamed.{body_of, part_free, parts_free, words_free, value_free, assigns_free, redirects_free, command_free, kind_free, branches_free, otherwise_free, for_free, items_free, stages_free, pipeline_free, links_free, chain_free, list_free}
use Rattle.sh_printing.proofs.BackLastWords.{either}
use Rattle.sh_printing.proofs.BackFree.{delimiter_free}
use Rattle.sh_printing.proofs.BackLengths.{two_parts, three_parts, four_parts, five_parts, six_parts, behind_byte, led_parts, ended_parts, Operands, sum_operands, first_operand, later_operands, operand_parts, Holds, last_holds, redirect_parts, redirects_hold, redirects_end}

-- ---- bodies

all : (a b : Bool) → a ≡ true → b ≡ true → (a && b) ≡ true
all true b e f = f
all false b e f = absurd (false≢true e)

body_free : (n : ℕ) → n + 1 < tries → (body : Text) → length (whole_body true body) ≤ n → not (has_line (delimiter body) body) ≡ true
body_free n lt body h =
    let x = three_parts n body (delimiter body) (10 ∷ []) h in
    rw (delimiter_free body (omega (arith, lt, x.0))) refl

-- the body of a here-document that is behind others
owed_free : (n : ℕ) → n + 1 < tries → (i : Bool) (d : ℕ) (last : Text → Text) (rs : shape.Redirects) (owed body : Text) → Holds n last → Printable.redirects_fit i d rs ≡ true → length (redirects_text true true last (owed ++ whole_body true body) rs) ≤ n → (not (has_line (delimiter body) body) ≡ true) × (length body ≤ n)
owed_free n lt i d last rs owed body l e h =
    let x = two_parts n owed (whole_body true body) (redirects_hold n i d true last rs l e (owed ++ whole_body true body) h) in
    (body_free n lt body x.1, (three_parts n body (delimiter body) (10 ∷ []) x.1).0)

-- a word behind `<&` has none
copied_free : (w : shape.Parts) → Printable.is_copied_word w ≡ true → parts_free w ≡ true
copied_free no_part e = refl
copied_free (part (plain text) no_part) e = refl
copied_free (part (plain text) (part p ps)) e = absurd (false≢true e)
copied_free (part (exact text) ps) e = absurd (false≢true e)
copied_free (part (double qs) ps) e = absurd (false≢true e)
copied_free (part tilde ps) e = absurd (false≢true e)
copied_free (part (param p a) ps) e = absurd (false≢true e)
copied_free (part (listing s) ps) e = absurd (false≢true e)
copied_free (part (sum x ws) ps) e = absurd (false≢true e)

-- ---- a simple command's words behind its redirections

-- what stands behind the redirections is short, where words do
abbrev WordsBehind : ℕ → End → shape.Kind → Type 0
WordsBehind n end (simple vs ws) = words_last vs ws ≡ true → (x : Text) × (length (last_words_text true end ws x) ≤ n)
WordsBehind n end (group s) = Unit {0}
WordsBehind n end (subshell s) = Unit {0}
WordsBehind n end (branching bs o) = Unit {0}
WordsBehind n end (loop until t b) = Unit {0}
WordsBehind n end (walk m ws b) = Unit {0}
WordsBehind n end (cases w is) = Unit {0}
WordsBehind n end (function m c) = Unit {0}

-- The redirections stand behind a command, but for a function's definition, which has none.
tail_behind : (n : ℕ) (i : Bool) (d : ℕ) (end : End) (tail : Text) (rs : shape.Redirects) (k : shape.Kind) → Printable.kind_fits i d (Printable.has_redirect rs) k ≡ true → length (kind_text true end tail k) ≤ n → (length tail ≤ n → redirects_free rs ≡ true) → redirects_free rs ≡ true
tail_behind n i d end tail rs (simple vs ws) e h f = f (two_parts n (assigns_text true false vs ++ (if words_last vs ws then [] else words_text true (has_assign vs) ws)) tail h).1
tail_behind n i d end tail rs (group s) e h f = f (two_parts n (codes "{ " ++ list_text true s ++ codes "}") tail h).1
tail_behind n i d end tail rs (subshell s) e h f = f (two_parts n (codes "( " ++ list_text true s ++ codes ")") tail h).1
tail_behind n i d end tail rs (branching bs o) e h f = f (two_parts n (branches_text true (codes "if ") bs ++ otherwise_text true o ++ codes "fi") tail h).1
tail_behind n i d end tail rs (loop until a b) e h f = f (two_parts n (loop_key until ++ list_text true a ++ codes "do " ++ list_text true b ++ codes "done") tail h).1
tail_behind n i d end tail rs (walk m ws b) e h f = f (two_parts n (codes "for " ++ m ++ for_words_text true ws ++ codes "do " ++ list_text true b ++ codes "done") tail h).1
tail_behind n i d end tail rs (cases w is) e h f = f (two_parts n (codes "case " ++ parts_text true in_word blank w ++ codes " in " ++ items_text true is ++ codes "esac") tail h).1
tail_behind n i d end tail no_redirect (function m c) e h f = refl
tail_behind n i d end tail (redirect fd op w rs) (function m c) e h f = absurd (false≢true (five false (is_name m) (not (is_reserved_text m)) (Printable.has_compound c) (Printable.command_fits i d c) e).0)

kind_holds : (n : ℕ) (i : Bool) (d : ℕ) (end : End) (redirected : Bool) (k : shape.Kind) → Printable.kind_fits i d redirected k ≡ true → Holds n (last_text true end k)
kind_holds n i d end r (simple vs ws) e owed h =
    let x = four (has_assign vs || has_word ws || r) (Printable.assigns_fit i d vs) (Printable.words_fit i d ws) (Printable.name_fits (has_assign vs || r) ws) e in
    either (words_last vs ws) (λ l. last_holds n i d end ws x.2 owed (subst (λ (b : Bool). length ((if b then last_words_text true end ws else ended end) owed) ≤ n) l h))
    (λ l. ended_parts n end owed (subst (λ (b : Bool). length ((if b then last_words_text true end ws else ended end) owed) ≤ n) l h))
kind_holds n i d end r (group s) e owed h = ended_parts n end owed h
kind_holds n i d end r (subshell s) e owed h = ended_parts n end owed h
kind_holds n i d end r (branching bs o) e owed h = ended_parts n end owed h
kind_holds n i d end r (loop until a b) e owed h = ended_parts n end owed h
kind_holds n i d end r (walk m ws b) e owed h = ended_parts n end owed h
kind_holds n i d end r (cases w is) e owed h = ended_parts n end owed h
kind_holds n i d end r (function m c) e owed h = ended_parts n end owed h

words_behind : (n : ℕ) (end : End) (rs : shape.Redirects) (k : shape.Kind) → length (kind_text true end (redirects_text true (is_something k) (last_text true end k) [] rs) k) ≤ n → WordsBehind n end k
words_behind n end rs (simple vs ws) h =
    let b = is_something (simple vs ws) in
    let last = last_text true end (simple vs ws) in
    let tail = redirects_text true b last [] rs in
    let x = redirects_end n b last rs [] (two_parts n (assigns_text true false vs ++ (if words_last vs ws then [] else words_text true (has_assign vs) ws)) tail h).1 in
    λ l. (x.0, subst (λ (p : Bool). length ((if p then last_words_text true end ws else ended end) x.0) ≤ n) l x.1)
words_behind n end rs (group s) h = tt
words_behind n end rs (subshell s) h = tt
words_behind n end rs (branching bs o) h = tt
words_behind n end rs (loop until a b) h = tt
words_behind n end rs (walk m ws b) h = tt
words_behind n end rs (cases w is) h = tt
words_behind n end rs (function m c) h = tt

-- ---- the nodes

mutual
  part_short : (n : ℕ) → n + 1 < tries → (i : Bool) (d : ℕ) (c : Context) (opening : Text) (behind : shape.Parts) (p : shape.Part) → Printable.part_fits i d c behind p ≡ true → length (part_text true c opening (continued behind) p) ≤ n → part_free p ≡ true
  part_short n lt i d c opening behind (plain text) e h = refl
  part_short n lt i d c opening behind (exact text) e h = refl
  part_short n lt i d c opening behind (double ps) e h =
      parts_short n lt i d in_double opening ps (both (has_double c) (Printable.parts_fit i d in_double ps) e).1 (two_parts n (parts_text true in_double opening ps) (34 ∷ []) (behind_byte n 34 (parts_text true in_double opening ps ++ 34 ∷ []) h)).0
  part_short n lt i d c opening behind tilde e h = refl
  part_short n lt i d c opening behind (param p as_is) e h = refl
  part_short n lt i d c opening behind (param p length_of) e h = refl
  part_short n lt i d c opening behind (param p (fill t colon w)) e h =
      parts_short n lt i (suc d) (fill_context c) opening w (four (nat_lt d limit) (param_fits p) (not (Printable.is_length p t colon w)) (Printable.parts_fit i (suc d) (fill_context c) w) e).3
      (six_parts n (codes "${") (param_name p) (colon_text colon) (test_text t) (parts_text true (fill_context c) opening w) (125 ∷ []) h).4
  part_short n lt i d c opening behind (param p (trim suffix longest w)) e h =
      parts_short n lt i (suc d) (trim_context c) opening w (four (nat_lt d limit) (param_fits p) (not (Printable.changes_mark p suffix longest w)) (Printable.parts_fit i (suc d) (trim_context c) w) e).3
      (five_parts n (codes "${") (param_name p) (trim_mark suffix longest) (parts_text true (trim_context c) opening w) (125 ∷ []) h).3
  part_short n lt i d c opening behind (listing s) e h = list_short n lt i (suc d) s (both (nat_lt d limit) (Printable.list_fits i (suc d) s) e).1 (four_parts n (codes "$(") opening (list_text true s) (41 ∷ []) h).2
  part_short n lt i d c opening behind (sum x ws) e h = operands_short n lt i opening ws (sum_operands n i opening ws (suc d) x (both (nat_lt d limit) (sum_fits (Printable.operand_checks i ws) (suc d) x) e).1 h)

  parts_short : (n : ℕ) → n + 1 < tries → (i : Bool) (d : ℕ) (c : Context) (opening : Text) (ps : shape.Parts) → Printable.parts_fit i d c ps ≡ true → length (parts_text true c opening ps) ≤ n → parts_free ps ≡ true
  parts_short n lt i d c opening no_part e h = refl
  parts_short n lt i d c opening (part p ps) e h =
      let x = both (Printable.part_fits i d c ps p) (Printable.parts_fit i d c ps) e in
      let y = two_parts n (part_text true c opening (continued ps) p) (parts_text true c (behind_opening (part_opens p) opening) ps) h in
      all (part_free p) (parts_free ps) (part_short n lt i d c opening ps p x.0 y.0) (parts_short n lt i d c (behind_opening (part_opens p) opening) ps x.1 y.1)

  operands_short : (n : ℕ) → n + 1 < tries → (i : Bool) (opening : Text) (ws : shape.Words) → Operands n i opening ws → words_free ws ≡ true
  operands_short n lt i opening no_word h = refl
  operands_short n lt i opening (word w ws) h =
      let x = first_operand n i opening w ws h in
      all (parts_free w) (words_free ws) (parts_short n lt i x.0 in_double opening w (operand_parts i x.0 w x.1) x.2) (operands_short n lt i (behind_opening (parts_open w) opening) ws (later_operands n i opening w ws h))

  word_short : (n : ℕ) → n + 1 < tries → (i : Bool) (d : ℕ) (spaced : Bool) (opening : Text) (w : shape.Parts) → Printable.word_fits i d spaced w ≡ true → length (parts_text true in_word opening w) ≤ n → parts_free w ≡ true
  word_short n lt i d spaced opening no_part e h = refl
  word_short n lt i d spaced opening (part tilde ps) e h = parts_short n lt i d in_word opening ps (both (Printable.behind_tilde ps) (Printable.parts_fit i d in_word ps) e).1 (behind_byte n 126 (parts_text true in_word opening ps) h)
  word_short n lt i d spaced opening (part (plain text) ps) e h =
      parts_short n lt i d in_word opening ps (four (not (spaced && begins_with 35 text)) (not (Printable.reads_tilde text ps)) (Printable.plain_fits in_word ps text) (Printable.parts_fit i d in_word ps) e).3 (two_parts n text (parts_text true in_word opening ps) h).1
  word_short n lt i d spaced opening (part (exact text) ps) e h =
      parts_short n lt i d in_word opening ps (both (Printable.part_fits i d in_word ps (exact text)) (Printable.parts_fit i d in_word ps) e).1 (two_parts n (part_text true in_word opening (continued ps) (exact text)) (parts_text true in_word opening ps) h).1
  word_short n lt i d spaced opening (part (double qs) ps) e h =
      let x = both (Printable.part_fits i d in_word ps (double qs)) (Printable.parts_fit i d in_word ps) e in
      let y = two_parts n (part_text true in_word opening (continued ps) (double qs)) (parts_text true in_word (behind_opening (part_opens (double qs)) opening) ps) h in
      all (part_free (double qs)) (parts_free ps) (part_short n lt i d in_word opening ps (double qs) x.0 y.0) (parts_short n lt i d in_word (behind_opening (part_opens (double qs)) opening) ps x.1 y.1)
  word_short n lt i d spaced opening (part (param p a) ps) e h =
      let x = both (Printable.part_fits i d in_word ps (param p a)) (Printable.parts_fit i d in_word ps) e in
      let y = two_parts n (part_text true in_word opening (continued ps) (param p a)) (parts_text true in_word (behind_opening (part_opens (param p a)) opening) ps) h in
      all (part_free (param p a)) (parts_free ps) (part_short n lt i d in_word opening ps (param p a) x.0 y.0) (parts_short n lt i d in_word (behind_opening (part_opens (param p a)) opening) ps x.1 y.1)
  word_short n lt i d spaced opening (part (listing s) ps) e h =
      let x = both (Printable.part_fits i d in_word ps (listing s)) (Printable.parts_fit i d in_word ps) e in
      let y = two_parts n (part_text true in_word opening (continued ps) (listing s)) (parts_text true in_word blank ps) h in
      all (part_free (listing s)) (parts_free ps) (part_short n lt i d in_word opening ps (listing s) x.0 y.0) (parts_short n lt i d in_word blank ps x.1 y.1)
  word_short n lt i d spaced opening (part (sum a ws) ps) e h =
      let x = both (Printable.part_fits i d in_word ps (sum a ws)) (Printable.parts_fit i d in_word ps) e in
      let y = two_parts n (part_text true in_word opening (continued ps) (sum a ws)) (parts_text true in_word (behind_opening (part_opens (sum a ws)) opening) ps) h in
      all (part_free (sum a ws)) (parts_free ps) (part_short n lt i d in_word opening ps (sum a ws) x.0 y.0) (parts_short n lt i d in_word (behind_opening (part_opens (sum a ws)) opening) ps x.1 y.1)

  words_short : (n : ℕ) → n + 1 < tries → (i : Bool) (d : ℕ) (behind : Bool) (ws : shape.Words) → Printable.words_fit i d ws ≡ true → length (words_text true behind ws) ≤ n → words_free ws ≡ true
  words_short n lt i d behind no_word e h = refl
  words_short n lt i d behind (word w ws) e h =
      let x = both (Printable.word_fits i d true w) (Printable.words_fit i d ws) e in
      let y = two_parts n (led behind (parts_text true in_word blank w)) (words_text true true ws) h in
      all (parts_free w) (words_free ws) (word_short n lt i d true blank w x.0 (led_parts n behind (parts_text true in_word blank w) y.0)) (words_short n lt i d true ws x.1 y.1)

  last_words_short : (n : ℕ) → n + 1 < tries → (i : Bool) (d : ℕ) (end : End) (ws : shape.Words) (owed : Text) → Printable.words_fit i d ws ≡ true → length (last_words_text true end ws owed) ≤ n → words_free ws ≡ true
  last_words_short n lt i d end no_word owed e h = refl
  last_words_short n lt i d end (word w ws) owed e h =
      let x = both (Printable.word_fits i d true w) (Printable.words_fit i d ws) e in
      let y = two_parts n (32 ∷ parts_text true in_word (marks.gap owed) w) (last_words_text true end ws (marks.behind_word (parts_open w) owed)) h in
      all (parts_free w) (words_free ws) (word_short n lt i d true (marks.gap owed) w x.0 (behind_byte n 32 (parts_text true in_word (marks.gap owed) w) y.0)) (last_words_short n lt i d end ws (marks.behind_word (parts_open w) owed) x.1 y.1)

  patterns_short : (n : ℕ) → n + 1 < tries → (i : Bool) (d : ℕ) (key : Text) (ws : shape.Words) → Printable.patterns_fit i d ws ≡ true → length (patterns_text true key ws) ≤ n → words_free ws ≡ true
  patterns_short n lt i d key no_word e h = refl
  patterns_short n lt i d key (word w ws) e h =
      let x = four (Printable.has_part w) (not (Printable.plain_begins 35 w)) (Printable.parts_fit i d in_word w) (Printable.patterns_fit i d ws) e in
      let y = three_parts n key (parts_text true in_word blank w) (patterns_text true (codes " | ") ws) h in
      all (parts_free w) (words_free ws) (parts_short n lt i d in_word blank w x.2 y.1) (patterns_short n lt i d (codes " | ") ws x.3 y.2)

  value_short : (n : ℕ) → n + 1 < tries → (i : Bool) (d : ℕ) (v : shape.Value) → Printable.value_fits i d v ≡ true → length (value_text true v) ≤ n → value_free v ≡ true
  value_short n lt i d no_value e h = refl
  value_short n lt i d (value w) e h = word_short n lt i d false blank w e h

  assigns_short : (n : ℕ) → n + 1 < tries → (i : Bool) (d : ℕ) (behind : Bool) (vs : shape.Assigns) → Printable.assigns_fit i d vs ≡ true → length (assigns_text true behind vs) ≤ n → assigns_free vs ≡ true
  assigns_short n lt i d behind no_assign e h = refl
  assigns_short n lt i d behind (assign m v vs) e h =
      let x = three (is_name m) (Printable.value_fits i d v) (Printable.assigns_fit i d vs) e in
      let y = two_parts n (led behind (m ++ 61 ∷ value_text true v)) (assigns_text true true vs) h in
      let z = two_parts n m (61 ∷ value_text true v) (led_parts n behind (m ++ 61 ∷ value_text true v) y.0) in
      all (value_free v) (assigns_free vs) (value_short n lt i d v x.1 (behind_byte n 61 (value_text true v) z.1)) (assigns_short n lt i d true vs x.2 y.1)

  redirects_short : (n : ℕ) → n + 1 < tries → (i : Bool) (d : ℕ) (behind : Bool) (last : Text → Text) (owed : Text) (rs : shape.Redirects) → Holds n last → Printable.redirects_fit i d rs ≡ true → length (redirects_text true behind last owed rs) ≤ n → redirects_free rs ≡ true
  redirects_short n lt i d behind last owed no_redirect l e h = refl
  redirects_short n lt i d behind last owed (redirect fd shape.read w rs) l e h =
      let x = three (Printable.fd_fits fd) (Printable.word_fits i d true w) (Printable.redirects_fit i d rs) e in
      let y = redirect_parts n behind (fd_text fd) (codes "<" ++ parts_text true in_word (marks.gap owed) w) _ h in
      all (parts_free w) (redirects_free rs) (word_short n lt i d true (marks.gap owed) w x.1 (two_parts n (codes "<") (parts_text true in_word (marks.gap owed) w) y.0).1) (redirects_short n lt i d true last (marks.behind_word (parts_open w) owed) rs l x.2 y.1)
  redirects_short n lt i d behind last owed (redirect fd shape.write w rs) l e h =
      let x = three (Printable.fd_fits fd) (Printable.word_fits i d true w) (Printable.redirects_fit i d rs) e in
      let y = redirect_parts n behind (fd_text fd) (codes ">" ++ parts_text true in_word (marks.gap owed) w) _ h in
      all (parts_free w) (redirects_free rs) (word_short n lt i d true (marks.gap owed) w x.1 (two_parts n (codes ">") (parts_text true in_word (marks.gap owed) w) y.0).1) (redirects_short n lt i d true last (marks.behind_word (parts_open w) owed) rs l x.2 y.1)
  redirects_short n lt i d behind last owed (redirect fd shape.append w rs) l e h =
      let x = three (Printable.fd_fits fd) (Printable.word_fits i d true w) (Printable.redirects_fit i d rs) e in
      let y = redirect_parts n behind (fd_text fd) (codes ">>" ++ parts_text true in_word (marks.gap owed) w) _ h in
      all (parts_free w) (redirects_free rs) (word_short n lt i d true (marks.gap owed) w x.1 (two_parts n (codes ">>") (parts_text true in_word (marks.gap owed) w) y.0).1) (redirects_short n lt i d true last (marks.behind_word (parts_open w) owed) rs l x.2 y.1)
  redirects_short n lt i d behind last owed (redirect fd shape.here_literal w rs) l e h =
      let x = three (Printable.fd_fits fd) (Printable.literal_body i w) (Printable.redirects_fit i d rs) e in
      let y = redirect_parts n behind (fd_text fd) _ _ h in
      all (not (has_line (delimiter (body_of w)) (body_of w))) (redirects_free rs) (owed_free n lt i d last rs owed (body_of w) l x.2 y.1).0 (redirects_short n lt i d true last (owed ++ whole_body true (body_of w)) rs l x.2 y.1)
  redirects_short n lt i d behind last owed (redirect fd shape.here_expanded w rs) l e h =
      let x = three (Printable.fd_fits fd) (Printable.ends_line w && Printable.parts_fit true d in_body w) (Printable.redirects_fit i d rs) e in
      let y = redirect_parts n behind (fd_text fd) _ _ h in
      let b = owed_free n lt i d last rs owed (body_of w) l x.2 y.1 in
      all (not (has_line (delimiter (body_of w)) (body_of w)) && parts_free w) (redirects_free rs)
      (all (not (has_line (delimiter (body_of w)) (body_of w))) (parts_free w) b.0 (parts_short n lt true d in_body blank w (both (Printable.ends_line w) (Printable.parts_fit true d in_body w) x.1).1 b.1))
      (redirects_short n lt i d true last (owed ++ whole_body true (body_of w)) rs l x.2 y.1)
  redirects_short n lt i d behind last owed (redirect fd shape.copy_in w rs) l e h =
      let x = three (Printable.fd_fits fd) (Printable.is_copied_word w) (Printable.redirects_fit i d rs) e in
      let y = redirect_parts n behind (fd_text fd) _ _ h in
      all (parts_free w) (redirects_free rs) (copied_free w x.1) (redirects_short n lt i d true last (marks.behind_word (parts_open w) owed) rs l x.2 y.1)
  redirects_short n lt i d behind last owed (redirect fd shape.copy_out w rs) l e h =
      let x = three (Printable.fd_fits fd) (Printable.is_copied_word w) (Printable.redirects_fit i d rs) e in
      let y = redirect_parts n behind (fd_text fd) _ _ h in
      all (parts_free w) (redirects_free rs) (copied_free w x.1) (redirects_short n lt i d true last (marks.behind_word (parts_open w) owed) rs l x.2 y.1)

  command_short : (n : ℕ) → n + 1 < tries → (i : Bool) (d : ℕ) (end : End) (c : shape.Command) → Printable.command_fits i d c ≡ true → length (command_text true end c) ≤ n → command_free c ≡ true
  command_short n lt i d end (command k rs) e h =
      let x = both (Printable.kind_fits i d (Printable.has_redirect rs) k) (Printable.redirects_fit i d rs) e in
      let tail = redirects_text true (is_something k) (last_text true end k) [] rs in
      all (kind_free k) (redirects_free rs) (kind_short n lt i d end tail (Printable.has_redirect rs) k x.0 h (words_behind n end rs k h))
      (tail_behind n i d end tail rs k x.0 h (λ t. redirects_short n lt i d (is_something k) (last_text true end k) [] rs (kind_holds n i d end (Printable.has_redirect rs) k x.0) x.1 t))

  kind_short : (n : ℕ) → n + 1 < tries → (i : Bool) (d : ℕ) (end : End) (tail : Text) (redirected : Bool) (k : shape.Kind) → Printable.kind_fits i d redirected k ≡ true → length (kind_text true end tail k) ≤ n → WordsBehind n end k → kind_free k ≡ true
  kind_short n lt i d end tail r (simple vs ws) e h b =
      let x = four (has_assign vs || has_word ws || r) (Printable.assigns_fit i d vs) (Printable.words_fit i d ws) (Printable.name_fits (has_assign vs || r) ws) e in
      let y = three_parts n (assigns_text true false vs) (if words_last vs ws then [] else words_text true (has_assign vs) ws) tail h in
      all (assigns_free vs) (words_free ws) (assigns_short n lt i d false vs x.1 y.0)
      (either (words_last vs ws) (λ l. last_words_short n lt i d end ws (b l).0 x.2 (b l).1) (λ l. words_short n lt i d (has_assign vs) ws x.2 (subst (λ (z : Bool). length (if z then [] else words_text true (has_assign vs) ws) ≤ n) l y.1)))
  kind_short n lt i d end tail r (group s) e h b =
      list_short n lt i (suc d) s (three (nat_lt d limit) (Printable.has_chain s) (Printable.list_fits i (suc d) s) e).2 (four_parts n (codes "{ ") (list_text true s) (codes "}") tail h).1
  kind_short n lt i d end tail r (subshell s) e h b =
      list_short n lt i (suc d) s (three (nat_lt d limit) (Printable.has_chain s) (Printable.list_fits i (suc d) s) e).2 (four_parts n (codes "( ") (list_text true s) (codes ")") tail h).1
  kind_short n lt i d end tail r (branching bs o) e h b =
      let x = four (nat_lt d limit) (Printable.has_branch bs) (Printable.branches_fit i (suc d) bs) (Printable.otherwise_fits i (suc d) o) e in
      let y = four_parts n (branches_text true (codes "if ") bs) (otherwise_text true o) (codes "fi") tail h in
      all (branches_free bs) (otherwise_free o) (branches_short n lt i (suc d) (codes "if ") bs x.2 y.0) (otherwise_short n lt i (suc d) o x.3 y.1)
  kind_short n lt i d end tail r (loop until s t) e h b =
      let x = five (nat_lt d limit) (Printable.has_chain s) (Printable.list_fits i (suc d) s) (Printable.has_chain t) (Printable.list_fits i (suc d) t) e in
      let y = six_parts n (loop_key until) (list_text true s) (codes "do ") (list_text true t) (codes "done") tail h in
      all (list_free s) (list_free t) (list_short n lt i (suc d) s x.2 y.1) (list_short n lt i (suc d) t x.4 y.3)
  kind_short n lt i d end tail r (walk m ws s) e h b =
      let x = five (nat_lt d limit) (is_name m) (Printable.for_words_fit i (suc d) ws) (Printable.has_chain s) (Printable.list_fits i (suc d) s) e in
      let y = six_parts n (codes "for " ++ m) (for_words_text true ws) (codes "do ") (list_text true s) (codes "done") tail h in
      all (for_free ws) (list_free s) (for_short n lt i (suc d) ws x.2 y.1) (list_short n lt i (suc d) s x.4 y.3)
  kind_short n lt i d end tail r (cases w is) e h b =
      let x = three (nat_lt d limit) (Printable.word_fits i (suc d) true w) (Printable.items_fit i (suc d) is) e in
      let y = six_parts n (codes "case ") (parts_text true in_word blank w) (codes " in ") (items_text true is) (codes "esac") tail h in
      all (parts_free w) (items_free is) (word_short n lt i (suc d) true blank w x.1 y.1) (items_short n lt i (suc d) is x.2 y.3)
  kind_short n lt i d end tail r (function m c) e h b =
      command_short n lt i d end c (five (not r) (is_name m) (not (is_reserved_text m)) (Printable.has_compound c) (Printable.command_fits i d c) e).4 (three_parts n m (codes "() ") (command_text true end c) h).2

  branches_short : (n : ℕ) → n + 1 < tries → (i : Bool) (d : ℕ) (key : Text) (bs : shape.Branches) → Printable.branches_fit i d bs ≡ true → length (branches_text true key bs) ≤ n → branches_free bs ≡ true
  branches_short n lt i d key no_branch e h = refl
  branches_short n lt i d key (branch s t bs) e h =
      let x = five (Printable.has_chain s) (Printable.list_fits i d s) (Printable.has_chain t) (Printable.list_fits i d t) (Printable.branches_fit i d bs) e in
      let y = five_parts n key (list_text true s) (codes "then ") (list_text true t) (branches_text true (codes "elif ") bs) h in
      all (list_free s) (list_free t && branches_free bs) (list_short n lt i d s x.1 y.1) (all (list_free t) (branches_free bs) (list_short n lt i d t x.3 y.3) (branches_short n lt i d (codes "elif ") bs x.4 y.4))

  otherwise_short : (n : ℕ) → n + 1 < tries → (i : Bool) (d : ℕ) (o : shape.Otherwise) → Printable.otherwise_fits i d o ≡ true → length (otherwise_text true o) ≤ n → otherwise_free o ≡ true
  otherwise_short n lt i d no_else e h = refl
  otherwise_short n lt i d (otherwise s) e h = list_short n lt i d s (both (Printable.has_chain s) (Printable.list_fits i d s) e).1 (two_parts n (codes "else ") (list_text true s) h).1

  for_short : (n : ℕ) → n + 1 < tries → (i : Bool) (d : ℕ) (ws : shape.ForWords) → Printable.for_words_fit i d ws ≡ true → length (for_words_text true ws) ≤ n → for_free ws ≡ true
  for_short n lt i d parameters e h = refl
  for_short n lt i d (listed ws) e h = words_short n lt i d true ws e (three_parts n (codes " in") (words_text true true ws) (codes "; ") h).1

  items_short : (n : ℕ) → n + 1 < tries → (i : Bool) (d : ℕ) (is : shape.Items) → Printable.items_fit i d is ≡ true → length (items_text true is) ≤ n → items_free is ≡ true
  items_short n lt i d no_item e h = refl
  items_short n lt i d (item ps s is) e h =
      let x = four (has_word ps) (Printable.patterns_fit i d ps) (Printable.list_fits i d s) (Printable.items_fit i d is) e in
      let y = five_parts n (patterns_text true (codes "(") ps) (codes ") ") (list_text true s) (codes ";; ") (items_text true is) h in
      all (words_free ps) (list_free s && items_free is) (patterns_short n lt i d (codes "(") ps x.1 y.0) (all (list_free s) (items_free is) (list_short n lt i d s x.2 y.2) (items_short n lt i d is x.3 y.4))

  stages_short : (n : ℕ) → n + 1 < tries → (i : Bool) (d : ℕ) (end : End) (cs : shape.Stages) → Printable.stages_fit i d cs ≡ true → length (stages_text true end cs) ≤ n → stages_free cs ≡ true
  stages_short n lt i d end no_stage e h = refl
  stages_short n lt i d end (stage c cs) e h =
      let x = both (Printable.command_fits i d c) (Printable.stages_fit i d cs) e in
      let y = two_parts n (command_text true (stage_end end cs) c) (stages_text true end cs) h in
      all (command_free c) (stages_free cs) (command_short n lt i d (stage_end end cs) c x.0 y.0) (stages_short n lt i d end cs x.1 y.1)

  pipeline_short : (n : ℕ) → n + 1 < tries → (i : Bool) (d : ℕ) (end : End) (p : shape.Pipeline) → Printable.pipeline_fits i d p ≡ true → length (pipeline_text true end p) ≤ n → pipeline_free p ≡ true
  pipeline_short n lt i d end (pipeline true cs) e h = stages_short n lt i d end cs (both (Printable.has_stage cs) (Printable.stages_fit i d cs) e).1 (two_parts n (codes "! ") (stages_text true end cs) h).1
  pipeline_short n lt i d end (pipeline false cs) e h = stages_short n lt i d end cs (both (Printable.has_stage cs) (Printable.stages_fit i d cs) e).1 h

  links_short : (n : ℕ) → n + 1 < tries → (i : Bool) (d : ℕ) (end : End) (ls : shape.Links) → Printable.links_fit i d ls ≡ true → length (links_text true end ls) ≤ n → links_free ls ≡ true
  links_short n lt i d end no_link e h = refl
  links_short n lt i d end (and_link p ls) e h =
      let x = both (Printable.pipeline_fits i d p) (Printable.links_fit i d ls) e in
      let y = two_parts n (pipeline_text true (link_end end ls) p) (links_text true end ls) h in
      all (pipeline_free p) (links_free ls) (pipeline_short n lt i d (link_end end ls) p x.0 y.0) (links_short n lt i d end ls x.1 y.1)
  links_short n lt i d end (or_link p ls) e h =
      let x = both (Printable.pipeline_fits i d p) (Printable.links_fit i d ls) e in
      let y = two_parts n (pipeline_text true (link_end end ls) p) (links_text true end ls) h in
      all (pipeline_free p) (links_free ls) (pipeline_short n lt i d (link_end end ls) p x.0 y.0) (links_short n lt i d end ls x.1 y.1)

  chain_short : (n : ℕ) → n + 1 < tries → (i : Bool) (d : ℕ) (end : End) (c : shape.Chain) → Printable.chain_fits i d c ≡ true → length (chain_text true end c) ≤ n → chain_free c ≡ true
  chain_short n lt i d end (chain p ls) e h =
      let x = both (Printable.pipeline_fits i d p) (Printable.links_fit i d ls) e in
      let y = two_parts n (pipeline_text true (link_end end ls) p) (links_text true end ls) h in
      all (pipeline_free p) (links_free ls) (pipeline_short n lt i d (link_end end ls) p x.0 y.0) (links_short n lt i d end ls x.1 y.1)

  list_short : (n : ℕ) → n + 1 < tries → (i : Bool) (d : ℕ) (s : shape.Script) → Printable.list_fits i d s ≡ true → length (list_text true s) ≤ n → list_free s ≡ true
  list_short n lt i d no_chain e h = refl
  list_short n lt i d (next_chain c s) e h =
      let x = both (Printable.chain_fits i d c) (Printable.list_fits i d s) e in
      let y = two_parts n (chain_text true next c) (list_text true s) h in
      all (chain_free c) (list_free s) (chain_short n lt i d next c x.0 y.0) (list_short n lt i d s x.1 y.1)

-- EACH DELIMITER IS FREE in a script whose text is short.
pub script_short : (n : ℕ) → n + 1 < tries → (s : shape.Script) → Printable.list_fits false 0 s ≡ true → length (script_text true s) ≤ n → list_free s ≡ true
script_short n lt no_chain e h = refl
script_short n lt (next_chain c s) e h =
    let x = both (Printable.chain_fits false 0 c) (Printable.list_fits false 0 s) e in
    let y = two_parts n (chain_text true marks.line c) (script_text true s) h in
    all (chain_free c) (list_free s) (chain_short n lt false 0 marks.line c x.0 y.0) (script_short n lt s x.1 y.1)
