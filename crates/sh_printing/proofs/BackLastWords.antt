-- Words that stand behind a command's redirections read back.
use Rattle.std.proofs.Common.{◌≡◌, ℕ, Bool, true, false, List, [], ◌∷◌, ◌++◌, refl, sym, ap, ◌∙◌, append_assoc}
use Rattle.std.proofs.lemmas.Bool.{false≢true}
use Rattle.text_grammar.specs.Grammar.{star, rule}
use Rattle.sh_grammar.specs.Shape as shape
use Rattle.sh_grammar.specs.Shape.{no_word, word, no_redirect, redirect}
use Rattle.sh_grammar.specs.Bytes.{Text, in_word, gap}
use Rattle.sh_grammar.specs.Tokens.{Open, is_token}
use Rattle.sh_grammar.specs.State.{State, Sum, word_node}
use Rattle.sh_grammar.specs.Table.{prefix_begins, suffix_begins, suffix_item, word as word_rule}
use Rattle.sh_grammar.specs.Steps.{Known, holds}
use Rattle.sh_printing.specs.Marks as marks
use Rattle.sh_printing.specs.Marks.{End, ended, behind_word}
use Rattle.sh_printing.specs.Printing.{parts_text, parts_open, redirects_text, last_words_text}
use Rattle.sh_printing.specs.Printable.{word_fits, words_fit, redirects_fit, has_redirect, is_assignment}
use Rattle.sh_printing.proofs.BackSays.{Says, one_more, at_state}
use Rattle.sh_printing.proofs.BackDue.{Due, st, pending_text}
use Rattle.sh_printing.proofs.BackBytes.{both, gap_blank}
use Rattle.sh_printing.proofs.BackTokens.{Outside, word_ends}
use Rattle.sh_printing.proofs.BackBehind.{parts_on}
use Rattle.sh_printing.proofs.BackWordFronts.{WordFront, word_begins}
use Rattle.sh_printing.proofs.BackRedirects.{RedirectFront}
use Rattle.sh_printing.proofs.BackLines.{blank_test}
use Rattle.sh_printing.proofs.BackNodes.{word_nodes}
use Rattle.sh_printing.proofs.BackSimple.{word_token, word_no_redirect, word_is_other, carry_redirect, carry_assign}
use Rattle.sh_printing.proofs.BackFirst.{first_front}
use Rattle.sh_printing.proofs.BackCommands.{suffix_words}
use Rattle.sh_printing.proofs.BackBegins.{ended_outside, ended_open, redirect_at}
use Rattle.sh_printing.proofs.BackLists.{On}
use Rattle.sh_printing.proofs.BackCommandSteps.{Lasts, StartsAs}
use Rattle.sh_printing.proofs.BackSums.{opening_of}

-- ---- where they begin

pub last_outside : (end : End) (ws : shape.Words) (t owed : Text) → Outside (last_words_text true end ws owed ++ t)
last_outside end no_word t owed = ended_outside end t owed
last_outside end (word w ws) t owed = word_ends _ refl

last_text_is : (end : End) (w : shape.Parts) (ws : shape.Words) (t owed : Text) → last_words_text true end (word w ws) owed ++ t ≡ 32 ∷ parts_on in_word (marks.gap owed) w (last_words_text true end ws (behind_word (parts_open w) owed) ++ t)
last_text_is end w ws t owed = append_assoc (32 ∷ parts_text true in_word (marks.gap owed) w) (last_words_text true end ws (behind_word (parts_open w) owed)) t

last_open : (i : Bool) (d : ℕ) (end : End) (ws : shape.Words) (t owed : Text) → words_fit i d ws ≡ true → is_token Open (last_words_text true end ws owed ++ t) ≡ false
last_open i d end no_word t owed e = ended_open end t owed
last_open i d end (word w ws) t owed e =
    let x = both (word_fits i d true w) (words_fit i d ws) e in
    let h = behind_word (parts_open w) owed in
    let z = last_words_text true end ws h ++ t in
    let f = word_begins i d (marks.gap owed) w z x.0 (last_outside end ws t h) in
    let v = parts_on in_word (marks.gap owed) w z in
    ap (is_token Open) (last_text_is end w ws t owed) ∙ blank_test Open v ∙ (word_is_other v v (word_token v v f.solid f)).1

-- no redirection and no assignment is the first of them
last_stops : (i : Bool) (d : ℕ) (end : End) (w : shape.Parts) (ws : shape.Words) (t : Text) → words_fit i d (word w ws) ≡ true → is_assignment w ≡ false → (s : State) (owed : Text) → s.bytes ≡ last_words_text true end (word w ws) owed ++ t → holds prefix_begins s ≡ false
unfolding holds
last_stops i d end w ws t e n s owed b =
    let x = both (word_fits i d true w) (words_fit i d ws) e in
    let h = behind_word (parts_open w) owed in
    let z = last_words_text true end ws h ++ t in
    let o = last_outside end ws t h in
    let f = word_begins i d (marks.gap owed) w z x.0 o in
    let first = first_front i d (marks.gap owed) w z x.0 o (last_open i d end ws t h x.1) in
    let v = parts_on in_word (marks.gap owed) w z in
    let g : gap s.bytes ≡ gap v = ap gap (b ∙ last_text_is end w ws t owed) ∙ gap_blank v in
    rw (carry_redirect s.bytes v g, carry_assign s.bytes v g, word_no_redirect v v (word_token v v f.solid f), first.no_assign n) refl

pub words_lasts : (i : Bool) (d : ℕ) (end : End) (w : shape.Parts) (ws : shape.Words) (t : Text) → words_fit i d (word w ws) ≡ true → is_assignment w ≡ false → Lasts prefix_begins (last_words_text true end (word w ws)) t
words_lasts i d end w ws t e n = record { outside = last_outside end (word w ws) t; stops = last_stops i d end w ws t e n }

-- ---- the redirections before them

pub redirects_at : (i : Bool) (d : ℕ) (last : Text → Text) (owed : Text) (rs : shape.Redirects) (t : Text) → has_redirect rs ≡ true → redirects_fit i d rs ≡ true → RedirectFront (redirects_text true false last owed rs ++ t)
redirects_at i d last owed no_redirect t h e = absurd (false≢true h)
redirects_at i d last owed (redirect fd op w rs) t h e = redirect_at i d last owed fd op w rs t e

pub starts_behind : (rs : shape.Redirects) (bytes text : Text) → has_redirect rs ≡ true → gap bytes ≡ gap text → StartsAs rs bytes text
starts_behind no_redirect bytes text h e = absurd (false≢true h)
starts_behind (redirect fd op w rs) bytes text h e = e

-- by a test
pub either : {A : Type 0} (p : Bool) → (p ≡ true → A) → (p ≡ false → A) → A
either true f g = f refl
either false f g = g refl

-- ---- one behind the other

-- a word in front of others
pub last_word_step : (k : Known) (d : ℕ) (q : List Sum) (g h : Due) (w : shape.Parts) (end : End) (ws : shape.Words) (t : Text) (all : List Text) → pending_text h.owing ≡ behind_word (parts_open w) (pending_text g.owing) →
    WordFront (parts_on in_word (opening_of g) w (last_words_text true end ws (pending_text h.owing) ++ t)) →
    ((bytes : Text) → gap bytes ≡ parts_on in_word (opening_of g) w (last_words_text true end ws (pending_text h.owing) ++ t) → Says k (rule word_rule) (st d q g bytes) (st d q h (last_words_text true end ws (pending_text h.owing) ++ t)) (word_node w ∷ [])) →
    On k (star suffix_begins (rule suffix_item)) d q (st d q h (last_words_text true end ws (pending_text h.owing) ++ t)) (ended end) t (word_nodes ws) all →
    On k (star suffix_begins (rule suffix_item)) d q (st d q g (last_words_text true end (word w ws) (pending_text g.owing) ++ t)) (ended end) t (word_nodes (word w ws)) all
last_word_step k d q g h w end ws t all owed front a b =
    let u = last_words_text true end ws (pending_text h.owing) ++ t in
    let v = parts_on in_word (opening_of g) w u in
    let same : gap (32 ∷ v) ≡ v = gap_blank v ∙ front.solid in
    let tk = word_token (32 ∷ v) v same front in
    let s = st d q g (32 ∷ v) in
    let is : last_words_text true end (word w ws) (pending_text g.owing) ++ t ≡ 32 ∷ v = last_text_is end w ws t (pending_text g.owing) ∙ ap (λ (z : Text). 32 ∷ (parts_text true in_word (opening_of g) w ++ (last_words_text true end ws z ++ t))) (sym owed) in
    record {
      owing = b.owing;
      found = b.found;
      is_all = b.is_all;
      says = at_state (ap (λ (z : Text). st d q g z) (sym is)) (one_more {xs = word_node w ∷ []} (suffix_words.begins s v tk) (suffix_words.turn k s (st d q h u) (word_node w ∷ []) v tk (a (32 ∷ v) same)) b.says);
    }
