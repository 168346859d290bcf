-- Where printed commands, pipelines and lists begin.
use Rattle.std.proofs.Common.{◌≡◌, ℕ, suc, Bool, true, false, [], ◌∷◌, ◌++◌, refl, sym, ap, subst, ◌∙◌, append_assoc}
use Rattle.std.specs.Prelude.{◌||◌, ◌&&◌, not, ◌==◌, nat_lt, if◌then◌else◌}
use Rattle.std.proofs.lemmas.Bool.{true≢false, false≢true}
use Rattle.span_text.specs.Names.{is_name}
use Rattle.sh_grammar.specs.Shape as shape
use Rattle.sh_grammar.specs.Shape.{no_word, word, no_redirect, redirect, no_assign, assign, command, simple, group, subshell, branching, loop, walk, cases, function, no_branch, branch, stage, no_stage, pipeline, chain, no_chain, next_chain}
use Rattle.sh_grammar.specs.Bytes.{Text, in_word, gap, is_literal, is_plain, is_active, is_meta, literal_run}
use Rattle.sh_grammar.specs.Tokens.{Open, Newline, code, is_token, If, For, While, Until, Case, OpenBrace, Bang, key_text, command_next, compound_next, simple_next, name_next, pipeline_next}
use Rattle.sh_printing.specs.Marks.{End, ended, blank}
use Rattle.sh_printing.specs.Spellable.{is_reserved_text, is_literal_text}
use Rattle.sh_printing.specs.Printing.{parts_text, words_text, redirects_text, assigns_text, value_text, command_text, stages_text, pipeline_text, links_text, chain_text, list_text, has_assign, has_word, last_words_text, stage_end, link_end}
use Rattle.sh_printing.specs.Printable.{word_fits, words_fit, redirects_fit, assigns_fit, name_fits, kind_fits, command_fits, stages_fit, pipeline_fits, links_fit, chain_fits, list_fits, has_redirect, has_chain, is_assignment, is_reserved_word, has_compound, branches_fit, otherwise_fits}
use Rattle.sh_printing.proofs.BackBytes.{both, isnt, no_join, gap_is, literal_back}
use Rattle.sh_printing.proofs.BackTokens.{word_ends, test_is, key_gap, key_token, open_token, key_test}
use Rattle.sh_printing.proofs.BackBehind.{parts_on}
use Rattle.sh_printing.proofs.BackBraces.{right_five, right_four}
use Rattle.sh_printing.proofs.BackWordFronts.{WordFront}
use Rattle.sh_printing.proofs.BackKeys.{NoKeys, no_compound, no_other, by_none, by_text}
use Rattle.sh_printing.proofs.BackNamed.{command_free, stages_free, pipeline_free, links_free, chain_free, list_free}
use Rattle.sh_printing.proofs.BackSimple.{SimpleFront, redirect_simple, assign_front, name_word, name_bytes, name_plain, word_token, word_is_other, word_is_word, word_no_redirect}
use Rattle.sh_printing.proofs.BackFirst.{first_simple}
use Rattle.sh_printing.proofs.BackCommands.{CommandFront, simple_front, key_command, pipeline_begins_at}
use Rattle.sh_printing.proofs.BackBegins.{words_outside, redirects_outside, ended_outside, ended_open, words_open, redirects_no_open, redirect_at}

-- ---- simple commands

pub record SimpleFits (i : Bool) (d : ℕ) (vs : shape.Assigns) (ws : shape.Words) (rs : shape.Redirects) : Type 0 where
  pub some : (has_assign vs || has_word ws || has_redirect rs) ≡ true
  pub assigns : assigns_fit i d vs ≡ true
  pub words : words_fit i d ws ≡ true
  pub name : name_fits (has_assign vs || has_redirect rs) ws ≡ true

pub simple_facts : (i : Bool) (d : ℕ) (vs : shape.Assigns) (ws : shape.Words) (rs : shape.Redirects) → kind_fits i d (has_redirect rs) (simple vs ws) ≡ true → SimpleFits i d vs ws rs
simple_facts i d vs ws rs e =
    let x = both ((has_assign vs || has_word ws || has_redirect rs) && assigns_fit i d vs && words_fit i d ws) (name_fits (has_assign vs || has_redirect rs) ws) e in
    let y = both ((has_assign vs || has_word ws || has_redirect rs) && assigns_fit i d vs) (words_fit i d ws) x.0 in
    let z = both (has_assign vs || has_word ws || has_redirect rs) (assigns_fit i d vs) y.0 in
    record { some = z.0; assigns = z.1; words = y.1; name = x.1 }

-- the text of a simple command, with what is behind it
abbrev pub simple_text : End → shape.Assigns → shape.Words → shape.Redirects → Text → Text
simple_text end vs ws rs t = command_text true end (command (simple vs ws) rs) ++ t

pub assign_split : (end : End) (n : Text) (v : shape.Value) (more : shape.Assigns) (ws : shape.Words) (rs : shape.Redirects) (t : Text) →
    simple_text end (assign n v more) ws rs t ≡ n ++ 61 ∷ (value_text true v ++ (assigns_text true true more ++ (words_text true true ws ++ (redirects_text true true (ended end) [] rs ++ t))))
assign_split end n v more ws rs t =
    right_five (n ++ 61 ∷ value_text true v) (assigns_text true true more) (words_text true true ws) (redirects_text true true (ended end) [] rs) t
    ∙ append_assoc n (61 ∷ value_text true v) (assigns_text true true more ++ (words_text true true ws ++ (redirects_text true true (ended end) [] rs ++ t)))

-- the text of a command of words, by where its words stand
abbrev called_text : Bool → End → shape.Parts → shape.Words → shape.Redirects → Text
called_text last end w ws rs = (if last then [] else words_text true false (word w ws)) ++ redirects_text true (not last) (if last then last_words_text true end (word w ws) else ended end) [] rs

called_is : (last : Bool) (end : End) (w : shape.Parts) (ws : shape.Words) (rs : shape.Redirects) → is_reserved_word w ≡ last → command_text true end (command (simple no_assign (word w ws)) rs) ≡ called_text last end w ws rs
called_is last end w ws rs e = ap (λ (z : Bool). called_text z end w ws rs) e

pub word_split : (end : End) (w : shape.Parts) (ws : shape.Words) (rs : shape.Redirects) (t : Text) → is_reserved_word w ≡ false →
    simple_text end no_assign (word w ws) rs t ≡ parts_on in_word blank w (words_text true true ws ++ (redirects_text true true (ended end) [] rs ++ t))
word_split end w ws rs t e = ap (λ (z : Text). z ++ t) (called_is false end w ws rs e) ∙ right_four (parts_text true in_word blank w) (words_text true true ws) (redirects_text true true (ended end) [] rs) t

pub last_split : (end : End) (w : shape.Parts) (ws : shape.Words) (rs : shape.Redirects) (t : Text) → is_reserved_word w ≡ true →
    simple_text end no_assign (word w ws) rs t ≡ redirects_text true false (last_words_text true end (word w ws)) [] rs ++ t
last_split end w ws rs t e = ap (λ (z : Text). z ++ t) (called_is true end w ws rs e)

-- a reserved word is a command's name behind redirections alone
pub last_redirected : (w : shape.Parts) (ws : shape.Words) (redirected : Bool) → name_fits redirected (word w ws) ≡ true → is_reserved_word w ≡ true → redirected ≡ true
last_redirected w ws true e r = refl
last_redirected w ws false e r = absurd (true≢false (sym r ∙ isnt (is_reserved_word w) (both (not (is_assignment w)) (not (is_reserved_word w)) e).1))

last_begins : (i : Bool) (d : ℕ) (end : End) (w : shape.Parts) (ws : shape.Words) (rs : shape.Redirects) (t : Text) → has_redirect rs ≡ true → redirects_fit i d rs ≡ true → SimpleFront (redirects_text true false (last_words_text true end (word w ws)) [] rs ++ t)
last_begins i d end w ws no_redirect t h f = absurd (false≢true h)
last_begins i d end w ws (redirect fd op v rs) t h f = redirect_simple _ (redirect_at i d (last_words_text true end (word w ws)) [] fd op v rs t f)

word_begins_by : (last : Bool) (i : Bool) (d : ℕ) (end : End) (w : shape.Parts) (ws : shape.Words) (rs : shape.Redirects) (t : Text) → is_reserved_word w ≡ last → kind_fits i d (has_redirect rs) (simple no_assign (word w ws)) ≡ true → redirects_fit i d rs ≡ true → SimpleFront (simple_text end no_assign (word w ws) rs t)
word_begins_by true i d end w ws rs t r e f =
    let x = simple_facts i d no_assign (word w ws) rs e in
    subst SimpleFront (sym (last_split end w ws rs t r)) (last_begins i d end w ws rs t (last_redirected w ws (has_redirect rs) x.name r) f)
word_begins_by false i d end w ws rs t r e f =
    let x = simple_facts i d no_assign (word w ws) rs e in
    let y = both (word_fits i d true w) (words_fit i d ws) x.words in
    let u = redirects_text true true (ended end) [] rs ++ t in
    let o = redirects_outside (ended end) [] rs t (ended_outside end t) in
    subst SimpleFront (sym (word_split end w ws rs t r)) (first_simple i d blank w (words_text true true ws ++ u) y.0 r (words_outside ws u o) (words_open i d ws u y.1 o (redirects_no_open i d (ended end) [] rs t (ended_open end t) f)))

pub simple_begins : (i : Bool) (d : ℕ) (end : End) (vs : shape.Assigns) (ws : shape.Words) (rs : shape.Redirects) (t : Text) → kind_fits i d (has_redirect rs) (simple vs ws) ≡ true → redirects_fit i d rs ≡ true → SimpleFront (simple_text end vs ws rs t)
simple_begins i d end (assign n v more) ws rs t e f =
    let x = simple_facts i d (assign n v more) ws rs e in
    let y = both (is_name n && Rattle.sh_printing.specs.Printable.value_fits i d v) (assigns_fit i d more) x.assigns in
    subst SimpleFront (sym (assign_split end n v more ws rs t)) (assign_front n _ (both (is_name n) (Rattle.sh_printing.specs.Printable.value_fits i d v) y.0).0).simple
simple_begins i d end no_assign (word w ws) rs t e f = word_begins_by (is_reserved_word w) i d end w ws rs t refl e f
simple_begins i d end no_assign no_word (redirect fd op w rs) t e f = redirect_simple _ (redirect_at i d (ended end) [] fd op w rs t f)
simple_begins i d end no_assign no_word no_redirect t e f = let x = simple_facts i d no_assign no_word no_redirect e in absurd (false≢true x.some)

-- ---- other commands

last : (a : Bool) → (a || true) ≡ true
last true = refl
last false = refl

no_backslash : (is_plain in_word 92 ≡ false) × (is_plain in_word 36 ≡ false)
unfolding is_plain is_active
no_backslash = (refl, refl)

plain_or : (a b c : Bool) → a ≡ true → (a || b || c) ≡ true
plain_or true b c e = refl
plain_or false b c e = absurd cc

plain_is : (b : ℕ) (bs : Text) → is_plain in_word b ≡ true → is_literal in_word b bs ≡ true
unfolding is_literal
plain_is b bs e = plain_or (is_plain in_word b) (b == 36 && Rattle.sh_grammar.specs.Bytes.is_bare_dollar bs) (b == 92 && Rattle.sh_grammar.specs.Bytes.is_bare_backslash in_word bs) e

plain_literal : (n : Text) → Rattle.std.specs.List.list_all (is_plain in_word) n ≡ true → is_literal_text in_word n ≡ true
plain_literal [] e = refl
plain_literal (b ∷ bs) e =
    let x = both (is_plain in_word b) (Rattle.std.specs.List.list_all (is_plain in_word) bs) e in
    rw (no_join b bs (Rattle.span_text.proofs.Bytes.apart (is_plain in_word) b 92 x.0 no_backslash.0), plain_is b bs x.0, plain_literal bs x.1) refl

no_dollar : (n : Text) → Rattle.std.specs.List.list_all (is_plain in_word) n ≡ true → Rattle.sh_printing.specs.Spellable.ends_with 36 n ≡ true → ⊥
no_dollar [] e f = false≢true f
no_dollar (b ∷ []) e f =
    let x = (both (is_plain in_word b) true e).0 in
    false≢true (sym (Rattle.span_text.proofs.Bytes.apart (is_plain in_word) b 36 x no_backslash.1) ∙ f)
no_dollar (b ∷ c ∷ bs) e f = no_dollar (c ∷ bs) (both (is_plain in_word b) (Rattle.std.specs.List.list_all (is_plain in_word) (c ∷ bs)) e).1 f

-- a name that is no reserved word
name_command : (t : Text) → WordFront t → NoKeys t → CommandFront t
unfolding command_next simple_next name_next
name_command t f n =
    let k = word_token t t f.solid f in
    let x = word_is_other t t k in
    record { solid = f.solid; no_line = x.0; no_bang = n Bang; begins = rw (word_no_redirect t t k, word_is_word t t k, no_compound t n, no_other t n) (last (compound_next t)) }

paren_stops : (t : Text) → (is_literal in_word 40 t ≡ false)
unfolding is_literal is_plain is_active is_meta
paren_stops t = refl

paren_command : (t : Text) → CommandFront (40 ∷ t)
unfolding command_next compound_next code
paren_command t =
    let v = 40 ∷ t in
    let g = gap_is 40 t refl in
    let k = open_token v t g in
    record { solid = g; no_line = test_is Open Newline v t k; no_bang = by_none v g (no_join 40 t refl) (paren_stops t) Bang; begins = rw (test_is Open Open v t k) refl }

pub function_keys : (n t : Text) → is_name n ≡ true → is_reserved_text n ≡ false → NoKeys (n ++ 40 ∷ t)
function_keys n t e r =
    let f = name_word n (40 ∷ t) e in
    by_text (n ++ 40 ∷ t) n (40 ∷ t) (ap (literal_run in_word) f.solid ∙ literal_back in_word n (40 ∷ t) (plain_literal n (name_plain n (name_bytes n e))) (record { free = no_join 40 t refl; ends = paren_stops t; no_dollar = λ k. absurd (no_dollar n (name_plain n (name_bytes n e)) k) })) r

no_if : (i : Bool) (d : ℕ) (o : shape.Otherwise) (rs : shape.Redirects) → command_fits i d (command (branching no_branch o) rs) ≡ true → ⊥
no_if i d o rs e =
    let x = both (kind_fits i d (has_redirect rs) (branching no_branch o)) (redirects_fit i d rs) e in
    let y = both (nat_lt d Rattle.sh_grammar.specs.Steps.limit && false && branches_fit i (suc d) no_branch) (otherwise_fits i (suc d) o) x.0 in
    let z = both (nat_lt d Rattle.sh_grammar.specs.Steps.limit && false) true y.0 in
    false≢true (both (nat_lt d Rattle.sh_grammar.specs.Steps.limit) false z.0).1

pub record FunctionFits (i : Bool) (d : ℕ) (rs : shape.Redirects) (n : Text) (c : shape.Command) : Type 0 where
  pub none : has_redirect rs ≡ false
  pub name : is_name n ≡ true
  pub free : is_reserved_text n ≡ false
  pub is_compound : has_compound c ≡ true
  pub body : command_fits i d c ≡ true

pub function_facts : (i : Bool) (d : ℕ) (rs : shape.Redirects) (n : Text) (c : shape.Command) → kind_fits i d (has_redirect rs) (function n c) ≡ true → FunctionFits i d rs n c
function_facts i d rs n c e =
    let x = both (not (has_redirect rs) && is_name n && not (is_reserved_text n) && has_compound c) (command_fits i d c) e in
    let y = both (not (has_redirect rs) && is_name n && not (is_reserved_text n)) (has_compound c) x.0 in
    let z = both (not (has_redirect rs) && is_name n) (not (is_reserved_text n)) y.0 in
    let u = both (not (has_redirect rs)) (is_name n) z.0 in
    record { none = isnt (has_redirect rs) u.0; name = u.1; free = isnt (is_reserved_text n) z.1; is_compound = y.1; body = x.1 }

pub function_split : (n c t : Text) → ((n ++ (40 ∷ 41 ∷ 32 ∷ [])) ++ c) ++ t ≡ n ++ 40 ∷ 41 ∷ 32 ∷ (c ++ t)
function_split n c t = append_assoc (n ++ (40 ∷ 41 ∷ 32 ∷ [])) c t ∙ append_assoc n (40 ∷ 41 ∷ 32 ∷ []) (c ++ t)

pub command_begins : (i : Bool) (d : ℕ) (end : End) (c : shape.Command) (t : Text) → command_fits i d c ≡ true → command_free c ≡ true → CommandFront (command_text true end c ++ t)
unfolding key_text
command_begins i d end (command (simple vs ws) rs) t e f =
    let x = both (kind_fits i d (has_redirect rs) (simple vs ws)) (redirects_fit i d rs) e in
    simple_front _ (simple_begins i d end vs ws rs t x.0 x.1)
command_begins i d end (command (group s) rs) t e f = key_command OpenBrace _ (word_ends _ refl) refl
command_begins i d end (command (subshell s) rs) t e f = paren_command _
command_begins i d end (command (branching no_branch o) rs) t e f = absurd (no_if i d o rs e)
command_begins i d end (command (branching (branch a b bs) o) rs) t e f = key_command If _ (word_ends _ refl) refl
command_begins i d end (command (loop true a b) rs) t e f = key_command Until _ (word_ends _ refl) refl
command_begins i d end (command (loop false a b) rs) t e f = key_command While _ (word_ends _ refl) refl
command_begins i d end (command (walk n ws b) rs) t e f = key_command For _ (word_ends _ refl) refl
command_begins i d end (command (cases w is) rs) t e f = key_command Case _ (word_ends _ refl) refl
command_begins i d end (command (function n c) rs) t e f =
    let x = function_facts i d rs n c (both (kind_fits i d (has_redirect rs) (function n c)) (redirects_fit i d rs) e).0 in
    let v = 41 ∷ 32 ∷ (command_text true end c ++ t) in
    subst CommandFront (sym (function_split n (command_text true end c) t)) (name_command (n ++ 40 ∷ v) (name_word n (40 ∷ v) x.name) (function_keys n v x.name x.free))

-- ---- pipelines and lists

pub record PipelineFront (t : Text) : Type 0 where
  pub solid : gap t ≡ t
  pub no_line : is_token Newline t ≡ false
  pub begins : pipeline_next t ≡ true

command_pipeline : (t : Text) → CommandFront t → PipelineFront t
command_pipeline t f = record { solid = f.solid; no_line = f.no_line; begins = pipeline_begins_at t t f f.solid }

bang_pipeline : (t : Text) → PipelineFront (33 ∷ 32 ∷ t)
unfolding pipeline_next key_text
bang_pipeline t =
    let v = 33 ∷ 32 ∷ t in
    let o = word_ends (32 ∷ t) refl in
    let g = key_gap Bang (32 ∷ t) in
    record { solid = g; no_line = (word_is_other v v (key_token Bang v (32 ∷ t) g)).0; begins = rw (key_test Bang Bang v (32 ∷ t) g o) refl }

pub stages_split : (end : End) (c : shape.Command) (cs : shape.Stages) (t : Text) → stages_text true end (stage c cs) ++ t ≡ command_text true (stage_end end cs) c ++ (stages_text true end cs ++ t)
stages_split end c cs t = append_assoc (command_text true (stage_end end cs) c) (stages_text true end cs) t

pub stages_begin : (i : Bool) (d : ℕ) (end : End) (c : shape.Command) (cs : shape.Stages) (t : Text) → command_fits i d c ≡ true → command_free c ≡ true → CommandFront (stages_text true end (stage c cs) ++ t)
stages_begin i d end c cs t e f = subst CommandFront (sym (stages_split end c cs t)) (command_begins i d (stage_end end cs) c (stages_text true end cs ++ t) e f)

pub pipeline_begins : (i : Bool) (d : ℕ) (end : End) (p : shape.Pipeline) (t : Text) → pipeline_fits i d p ≡ true → pipeline_free p ≡ true → PipelineFront (pipeline_text true end p ++ t)
pipeline_begins i d end (pipeline negated no_stage) t e f = absurd cc
pipeline_begins i d end (pipeline false (stage c cs)) t e f =
    let x = both (command_fits i d c) (stages_fit i d cs) e in
    command_pipeline _ (stages_begin i d end c cs t x.0 (both (command_free c) (stages_free cs) f).0)
pipeline_begins i d end (pipeline true (stage c cs)) t e f = bang_pipeline (stages_text true end (stage c cs) ++ t)

pub chain_split : (end : End) (p : shape.Pipeline) (ls : shape.Links) (t : Text) → chain_text true end (chain p ls) ++ t ≡ pipeline_text true (link_end end ls) p ++ (links_text true end ls ++ t)
chain_split end p ls t = append_assoc (pipeline_text true (link_end end ls) p) (links_text true end ls) t

pub chain_begins : (i : Bool) (d : ℕ) (end : End) (c : shape.Chain) (t : Text) → chain_fits i d c ≡ true → chain_free c ≡ true → PipelineFront (chain_text true end c ++ t)
chain_begins i d end (chain p ls) t e f =
    subst PipelineFront (sym (chain_split end p ls t)) (pipeline_begins i d (link_end end ls) p (links_text true end ls ++ t) (both (pipeline_fits i d p) (links_fit i d ls) e).0 (both (pipeline_free p) (links_free ls) f).0)

pub list_split : (c : shape.Chain) (s : shape.Script) (t : Text) → list_text true (next_chain c s) ++ t ≡ chain_text true Rattle.sh_printing.specs.Marks.next c ++ (list_text true s ++ t)
list_split c s t = append_assoc (chain_text true Rattle.sh_printing.specs.Marks.next c) (list_text true s) t

pub list_begins : (i : Bool) (d : ℕ) (s : shape.Script) (t : Text) → has_chain s ≡ true → list_fits i d s ≡ true → list_free s ≡ true → PipelineFront (list_text true s ++ t)
list_begins i d no_chain t h e f = absurd cc
list_begins i d (next_chain c s) t h e f =
    subst PipelineFront (sym (list_split c s t)) (chain_begins i d Rattle.sh_printing.specs.Marks.next c (list_text true s ++ t) (both (chain_fits i d c) (list_fits i d s) e).0 (both (chain_free c) (list_free s) f).0)

-- no newline comes next
pub list_no_line : (i : Bool) (d : ℕ) (s : shape.Script) (t : Text) → list_fits i d s ≡ true → list_free s ≡ true → is_token Newline t ≡ false → is_token Newline (list_text true s ++ t) ≡ false
list_no_line i d no_chain t e f n = n
list_no_line i d (next_chain c s) t e f n = (list_begins i d (next_chain c s) t refl e f).no_line
