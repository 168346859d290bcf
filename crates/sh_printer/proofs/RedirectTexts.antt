-- Redirections one after the other, with the bodies that are still to come.
use Rattle.std.proofs.Common.{◌≡◌, ℕ, ◌+◌, ◌<◌, ◌≤◌, Bool, true, false, not, ◌&&◌, List, [], ◌∷◌, ◌++◌, drop, take, length, get_or, refl, sym, ap, ◌∙◌, append_assoc, arith}
use Rattle.std.specs.Prelude.{zero, suc, map, if◌then◌else◌}
use Rattle.std.proofs.lemmas.List.{append-nil, take_more}
use Rattle.sh_syntax.specs.declared.tree.Redirect.{Redirect, out-Redirect}
use Rattle.sh_syntax.specs.declared.tree.Word.{Word, out-Word}
use Rattle.sh_grammar.specs.Bytes.{Text, in_body, in_word}
use Rattle.sh_grammar.specs.Shape as shape
use Rattle.sh_printing.specs.Marks.{blank, ended, gap, behind_word, led, fd_text, aimed_text, is_here}
use Rattle.sh_printer.specs.Owed.{body_by, body_text, owed_text, still_owed}
use Rattle.sh_printer.specs.Pieces.{here_start, here_end, here_text, inner_text, owed_of, owed_weight, operator_text, target_text, delimiter_of, redirect_text, still_owed_behind, last_words_of}
use Rattle.sh_printing.specs.Marks.{End}
use Rattle.sh_printing.specs.Printing.{parts_open, parts_text, owed_behind, redirects_text, last_text, last_words_text, words_last}
use Rattle.sh_syntax.specs.View.{Aimed, view_operator, view_part, view_redirect, view_word, parts_of, redirects_of, words_of}
use Rattle.sh_printer.specs.Weights.{kind_weight, parts_weight, words_weight}
use Rattle.sh_printer.proofs.Bodies.{owed_append}
use Rattle.sh_printer.proofs.Firsts.{led_then}
use Rattle.sh_printer.proofs.Openings.{drop_at}
use Rattle.sh_syntax.proofs.Views.{redirect_is, word_is}

-- behind a word in which a newline stands nothing is owed
pub opens_clear : (full : Bool) (op : shape.RedirectOp) (opens : Bool) (body owed : Text) → (not (is_here op) && opens) ≡ true → owed_behind full op opens body owed ≡ []
opens_clear full shape.read true body owed e = refl
opens_clear full shape.write true body owed e = refl
opens_clear full shape.append true body owed e = refl
opens_clear full shape.copy_in true body owed e = refl
opens_clear full shape.copy_out true body owed e = refl
opens_clear full shape.here_literal opens body owed e = absurd cc
opens_clear full shape.here_expanded opens body owed e = absurd cc
opens_clear full shape.read false body owed e = absurd cc
opens_clear full shape.write false body owed e = absurd cc
opens_clear full shape.append false body owed e = absurd cc
opens_clear full shape.copy_in false body owed e = absurd cc
opens_clear full shape.copy_out false body owed e = absurd cc

pub others_stay : (full : Bool) (op : shape.RedirectOp) (opens : Bool) (body owed : Text) → (not (is_here op) && opens) ≡ false → owed_behind full op opens body owed ≡ owed ++ body_by (is_here op) full body
others_stay full shape.here_literal opens body owed e = refl
others_stay full shape.here_expanded opens body owed e = refl
others_stay full shape.read false body owed e = sym (append-nil owed)
others_stay full shape.write false body owed e = sym (append-nil owed)
others_stay full shape.append false body owed e = sym (append-nil owed)
others_stay full shape.copy_in false body owed e = sym (append-nil owed)
others_stay full shape.copy_out false body owed e = sym (append-nil owed)
others_stay full shape.read true body owed e = absurd cc
others_stay full shape.write true body owed e = absurd cc
others_stay full shape.append true body owed e = absurd cc
others_stay full shape.copy_in true body owed e = absurd cc
others_stay full shape.copy_out true body owed e = absurd cc

map_behind : (rs : List Redirect) (r : Redirect) → map view_redirect (rs ++ r ∷ []) ≡ map view_redirect rs ++ view_redirect r ∷ []
map_behind [] r = refl
map_behind (x ∷ xs) r = ap (λ (l : List Aimed). view_redirect x ∷ l) (map_behind xs r)

pub owed_more : (full : Bool) (rs : List Redirect) (i : ℕ) (r : Redirect) → i < length rs → r ≡ get_or rs i r → owed_of full (take (i + 1) rs) ≡ owed_of full (take i rs) ++ body_text full (view_redirect r)
owed_more full rs i r lt is =
    ap (λ (l : List Redirect). owed_of full l) (take_more rs i r lt ∙ ap (λ (x : Redirect). take i rs ++ x ∷ []) (sym is))
    ∙ ap (λ (l : List Aimed). owed_text full l) (map_behind (take i rs) r)
    ∙ owed_append full (map view_redirect (take i rs)) (view_redirect r ∷ [])
    ∙ ap (λ (t : Text). owed_of full (take i rs) ++ t) (append-nil (body_text full (view_redirect r)))

pub still_more : (full : Bool) (rs : List Redirect) (i : ℕ) (r : Redirect) → i < length rs → r ≡ get_or rs i r → (not (is_here (view_redirect r).op) && parts_open (view_redirect r).word) ≡ false → owed_of full (take (i + 1) rs) ≡ still_owed_behind full (view_redirect r) (owed_of full (take i rs))
still_more full rs i r lt is e = owed_more full rs i r lt is ∙ sym (others_stay full (view_redirect r).op (parts_open (view_redirect r).word) (parts_text full in_body blank (view_redirect r).word) (owed_of full (take i rs)) e)

pub aimed_split : (full : Bool) (op : shape.RedirectOp) (body : shape.Parts) (word : Text) → operator_text op ++ target_text op (delimiter_of full body) word ≡ aimed_text full op (parts_text full in_body blank body) word
aimed_split full shape.read body word = refl
aimed_split full shape.write body word = refl
aimed_split full shape.append body word = refl
aimed_split full shape.here_literal body word = refl
aimed_split full shape.here_expanded body word = refl
aimed_split full shape.copy_in body word = refl
aimed_split full shape.copy_out body word = refl

one_redirect : (full behind : Bool) (last : Text → Text) (owed : Text) (r : Aimed) (rest : shape.Redirects) → (led behind [] ++ redirect_text full owed r) ++ redirects_text full true last (still_owed_behind full r owed) rest ≡ redirects_text full behind last owed (shape.redirect r.fd r.op r.word rest)
one_redirect full behind last owed r rest =
    ap (λ (t : Text). t ++ redirects_text full true last (still_owed_behind full r owed) rest)
    (led_then behind (redirect_text full owed r) ∙ ap (λ (t : Text). led behind t) (append_assoc (fd_text r.fd) (operator_text r.op) (target_text r.op (delimiter_of full r.word) (parts_text full in_word (gap owed) r.word)) ∙ ap (λ (t : Text). fd_text r.fd ++ t) (aimed_split full r.op r.word (parts_text full in_word (gap owed) r.word))))

pub redirects_next : (full behind : Bool) (last : Text → Text) (rs : List Redirect) (i : ℕ) (r : Redirect) → i < length rs → r ≡ get_or rs i r → (led behind [] ++ redirect_text full (owed_of full (take i rs)) (view_redirect r)) ++ redirects_text full true last (still_owed_behind full (view_redirect r) (owed_of full (take i rs))) (redirects_of (map view_redirect (drop (i + 1) rs))) ≡ redirects_text full behind last (owed_of full (take i rs)) (redirects_of (map view_redirect (drop i rs)))
redirects_next full behind last rs i r lt is =
    one_redirect full behind last (owed_of full (take i rs)) (view_redirect r) (redirects_of (map view_redirect (drop (i + 1) rs)))
    ∙ sym (ap (λ (l : List Redirect). redirects_text full behind last (owed_of full (take i rs)) (redirects_of (map view_redirect l))) (drop_at rs i r lt is))

pub redirect_weighs : (rs : List Redirect) (i : ℕ) (r : Redirect) → i < length rs → r ≡ get_or rs i r → owed_weight (drop i rs) ≡ 20 + (parts_weight (view_redirect r).word + owed_weight (drop (i + 1) rs))
redirect_weighs rs i r lt is = ap owed_weight (drop_at rs i r lt is)

pub rest_less : (rs : List Redirect) (i : ℕ) → owed_weight (drop i rs) ≤ owed_weight rs
rest_less [] zero = omega arith
rest_less [] (suc i) = omega arith
rest_less (r ∷ rs) zero = omega arith
rest_less (r ∷ rs) (suc i) = omega (arith, rest_less rs i)

pub front_less : (rs : List Redirect) (i : ℕ) → owed_weight (take i rs) ≤ owed_weight rs
front_less [] zero = omega arith
front_less [] (suc i) = omega arith
front_less (r ∷ rs) zero = omega arith
front_less (r ∷ rs) (suc i) = omega (arith, front_less rs i)

-- the next body
pub bodies_next : (full : Bool) (rs : List Redirect) (i : ℕ) (r : Redirect) → i < length rs → r ≡ get_or rs i r → body_text full (view_redirect r) ++ owed_of full (drop (i + 1) rs) ≡ owed_of full (drop i rs)
bodies_next full rs i r lt is = sym (ap (owed_of full) (drop_at rs i r lt is))

-- the body that a redirection has
pub body_weighs : (r : Redirect) → parts_weight (parts_of (map view_part (out-Word (out-Redirect r).word).parts)) ≡ parts_weight (view_redirect r).word
body_weighs r = ap parts_weight (sym (word_is (out-Redirect r).word)) ∙ sym (ap (λ (a : Aimed). parts_weight a.word) (redirect_is r))

pub here_parts : (quoted : Bool) (delimiter : Text) → here_start quoted ++ (delimiter ++ here_end quoted) ≡ here_text quoted delimiter
here_parts true delimiter = refl
here_parts false delimiter = ap (λ (t : Text). 60 ∷ 60 ∷ t) (append-nil delimiter)

pub body_parts : (full : Bool) (r : Redirect) → is_here (view_operator (out-Redirect r).op) ≡ true → inner_text full (out-Word (out-Redirect r).word).parts ++ (delimiter_of full (parts_of (map view_part (out-Word (out-Redirect r).word).parts)) ++ 10 ∷ []) ≡ body_text full (view_redirect r)
body_parts full r e = rw (redirect_is r, e, word_is (out-Redirect r).word) (sym (append_assoc (inner_text full (out-Word (out-Redirect r).word).parts) (delimiter_of full (parts_of (map view_part (out-Word (out-Redirect r).word).parts))) (10 ∷ [])))

pub no_body : (full : Bool) (r : Redirect) → is_here (view_operator (out-Redirect r).op) ≡ false → body_text full (view_redirect r) ≡ []
no_body full r e = rw (redirect_is r, e) refl

-- ---- words behind the redirections

last_by : (full : Bool) (end : End) (ws : shape.Words) (last : Bool) → last_words_text full end (if last then ws else shape.no_word) ≡ (if last then last_words_text full end ws else ended end)
last_by full end ws true = refl
last_by full end ws false = refl

pub last_is : (full : Bool) (end : End) (k : shape.Kind) → last_words_text full end (last_words_of k) ≡ last_text full end k
last_is full end (shape.simple as' ws) = last_by full end ws (words_last as' ws)
last_is full end (shape.group s) = refl
last_is full end (shape.subshell s) = refl
last_is full end (shape.branching bs o) = refl
last_is full end (shape.loop until t b) = refl
last_is full end (shape.walk n ws b) = refl
last_is full end (shape.cases w is) = refl
last_is full end (shape.function n c) = refl

last_less_by : (ws : shape.Words) (last : Bool) → words_weight (if last then ws else shape.no_word) ≤ words_weight ws
last_less_by ws true = omega arith
last_less_by ws false = omega arith

pub last_less : (k : shape.Kind) → words_weight (last_words_of k) ≤ kind_weight k
last_less (shape.simple as' ws) = omega (arith, last_less_by ws (words_last as' ws))
last_less (shape.group s) = omega arith
last_less (shape.subshell s) = omega arith
last_less (shape.branching bs o) = omega arith
last_less (shape.loop until t b) = omega arith
last_less (shape.walk n ws b) = omega arith
last_less (shape.cases w is) = omega arith
last_less (shape.function n c) = omega arith

owed_behind_last : (full opens : Bool) (owed : List Redirect) → owed_of full (still_owed opens owed) ≡ behind_word opens (owed_of full owed)
owed_behind_last full true owed = refl
owed_behind_last full false owed = refl

pub last_first : (full : Bool) (end : End) (owed : List Redirect) (ws : List Word) (w : Word) → ws ≡ w ∷ drop 1 ws → (32 ∷ parts_text full in_word (gap (owed_of full owed)) (view_word w)) ++ last_words_text full end (words_of (map view_word (drop 1 ws))) (owed_of full (still_owed (parts_open (view_word w)) owed)) ≡ last_words_text full end (words_of (map view_word ws)) (owed_of full owed)
last_first full end owed ws w e = rw (owed_behind_last full (parts_open (view_word w)) owed) (sym (ap (λ (l : List Word). last_words_text full end (words_of (map view_word l)) (owed_of full owed)) e))
