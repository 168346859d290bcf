-- Commands read back, from what stands in them.
use Rattle.std.proofs.Common.{◌≡◌, ℕ, Bool, true, false, List, [], ◌∷◌, ◌++◌, refl, sym, ◌∙◌}
use Rattle.std.specs.Prelude.{◌||◌, not, ◌==◌}
use Rattle.span_text.specs.KnownNames.{same_text}
use Rattle.text_grammar.specs.Grammar.{star, rule}
use Rattle.sh_grammar.specs.Shape as shape
use Rattle.sh_grammar.specs.Bytes.{Text, in_word, gap, is_literal, is_plain, is_active, is_meta}
use Rattle.sh_grammar.specs.Tokens.{Op, Newline, Semi, SemiSemi, Open, Close, Word, Io, Less, Great, DGreat, DLess, DLessDash, LessAnd, GreatAnd, code, token, is_token, Key, If, Then, Elif, Else, Fi, For, In, Until, While, Do, Done, Case, Esac, OpenBrace, CloseBrace, Bang, key_text, is_key, opens_compound, is_other_key, name_next, simple_next, compound_next, command_next, pipeline_next, redirect_next, here_next, copy_next, assign_next}
use Rattle.sh_grammar.specs.State.{State, Sum, Node, command_node, words_in, assigns_in, redirects_in}
use Rattle.sh_grammar.specs.Table.{Test, Rule, redirect_begins, prefix_begins, suffix_begins, next, assign, redirect, prefix_item, suffix_item, word, prefixed, called, suffix, simple_command, command}
use Rattle.sh_grammar.specs.Steps.{Known, holds}
use Rattle.sh_printing.proofs.BackSays.{Says, ◌then◌, the_first, the_second, by_rule}
use Rattle.sh_printing.proofs.BackDue.{Due, st}
use Rattle.sh_printing.proofs.BackBytes.{and_no, no_join, gap_is}
use Rattle.sh_printing.proofs.BackTokens.{Outside, test_is, key_test, key_token, key_gap, close_token, semis_token}
use Rattle.sh_printing.proofs.BackEnds.{Ended, end_redirect, end_word, end_assign}
use Rattle.sh_printing.proofs.BackKeys.{NoKeys, no_compound, by_none}
use Rattle.sh_printing.proofs.BackSimple.{SimpleFront, carry_key, carry_compound, carry_simple, carry_function, word_no_redirect, word_is_word, word_is_other}

-- ---- repetitions of redirections and words

-- a repetition that redirections are turns of
pub record Redirecting (p : Test) (r : Rule) : Type 0 where
  pub begins : (s : State) → redirect_next s.bytes ≡ true → holds p s ≡ true
  pub ends : (s : State) (o : Op) (rest : Text) → Ended o s.bytes rest → holds p s ≡ false
  pub turn : (k : Known) (s e : State) (xs : List Node) → redirect_next s.bytes ≡ true → Says k (rule redirect) s e xs → Says k (rule r) s e xs

pub by_redirect : Redirecting redirect_begins redirect
unfolding holds
by_redirect = record { begins = λ s e. e; ends = λ s o rest e. end_redirect o s.bytes rest e; turn = λ k s e xs i a. a }

pub by_prefix : Redirecting prefix_begins prefix_item
unfolding holds
by_prefix = record { begins = λ s e. rw e refl; ends = λ s o rest e. rw (end_redirect o s.bytes rest e, end_assign o s.bytes rest e) refl; turn = λ k s e xs i a. by_rule prefix_item refl (the_first i a) }

pub by_suffix : Redirecting suffix_begins suffix_item
unfolding holds
by_suffix = record { begins = λ s e. rw e refl; ends = λ s o rest e. rw (end_redirect o s.bytes rest e, end_word o s.bytes rest e) refl; turn = λ k s e xs i a. by_rule suffix_item refl (the_first i a) }

-- one that words are turns of
pub record Wording (p : Test) (r : Rule) : Type 0 where
  pub begins : (s : State) (u : Text) → token s.bytes ≡ (Word, u) → holds p s ≡ true
  pub turn : (k : Known) (s e : State) (xs : List Node) (u : Text) → token s.bytes ≡ (Word, u) → Says k (rule word) s e xs → Says k (rule r) s e xs

or_last : (a : Bool) → (a || true) ≡ true
or_last true = refl
or_last false = refl

pub suffix_words : Wording suffix_begins suffix_item
unfolding holds
suffix_words = record { begins = λ s u e. rw (word_is_word s.bytes u e) (or_last (redirect_next s.bytes)); turn = λ k s e xs u i a. by_rule suffix_item refl (the_second (word_no_redirect s.bytes u i) a) }

pub listed_words : Wording (next Word) word
unfolding holds
listed_words = record { begins = λ s u e. word_is_word s.bytes u e; turn = λ k s e xs u i a. a }

-- ---- simple commands

-- an assignment in front of a command
pub prefix_assign : (k : Known) (s e : State) (xs : List Node) → redirect_next s.bytes ≡ false → Says k (rule assign) s e xs → Says k (rule prefix_item) s e xs
unfolding holds
prefix_assign k s e xs n a = by_rule prefix_item refl (the_second n a)

pub simple_says : (k : Known) (d : ℕ) (q : List Sum) (g : Due) (bytes v : Text) (e : State) (xs : List Node) (c : shape.Command) → gap bytes ≡ v → SimpleFront v →
    Says k (rule simple_command) (st d q g bytes) e (command_node c ∷ []) → Says k (rule command) (st d q g bytes) e (command_node c ∷ [])
unfolding holds compound_next
simple_says k d q g bytes v e xs c is f a =
    let i : gap bytes ≡ gap v = is ∙ sym f.solid in
    by_rule command refl
    (the_second (carry_compound bytes v i ∙ rw (f.no_open, no_compound v f.keys) (and_no (is_token Word v)))
    (the_second (carry_function bytes v i ∙ f.no_function) a))

-- what is made of the nodes of a simple command
abbrev pub simple_of : List Node → shape.Command
simple_of xs = shape.command (shape.simple (assigns_in xs) (words_in xs)) (redirects_in xs)

-- that begins with its name
pub called_says : (k : Known) (d : ℕ) (q : List Sum) (g : Due) (bytes v : Text) (m e : State) (xs ys : List Node) → gap bytes ≡ v → SimpleFront v → redirect_next v ≡ false → assign_next v ≡ false →
    Says k (rule word) (st d q g bytes) m xs → Says k (star suffix_begins (rule suffix_item)) m e ys → Says k (rule command) (st d q g bytes) e (command_node (simple_of (xs ++ ys)) ∷ [])
unfolding holds
called_says k d q g bytes v m e xs ys is f n o a b =
    let i : gap bytes ≡ gap v = is ∙ sym f.solid in
    simple_says k d q g bytes v e (xs ++ ys) (simple_of (xs ++ ys)) is f
    (by_rule simple_command refl (the_first (carry_simple bytes v i ∙ f.is_simple)
    (the_second (rw (Rattle.sh_printing.proofs.BackSimple.carry_redirect bytes v i, Rattle.sh_printing.proofs.BackSimple.carry_assign bytes v i, n, o) refl)
    (by_rule called refl (a then by_rule suffix refl b)))))

-- that begins with an assignment or a redirection
pub prefixed_says : (k : Known) (d : ℕ) (q : List Sum) (g : Due) (bytes v : Text) (m o e : State) (xs ys zs : List Node) → gap bytes ≡ v → SimpleFront v → (redirect_next bytes || assign_next bytes) ≡ true →
    Says k (rule prefix_item) (st d q g bytes) m xs → Says k (star prefix_begins (rule prefix_item)) m o ys → Says k (star suffix_begins (rule suffix_item)) o e zs → Says k (rule command) (st d q g bytes) e (command_node (simple_of (xs ++ (ys ++ zs))) ∷ [])
unfolding holds
prefixed_says k d q g bytes v m o e xs ys zs is f n a b c =
    let i : gap bytes ≡ gap v = is ∙ sym f.solid in
    simple_says k d q g bytes v e (xs ++ (ys ++ zs)) (simple_of (xs ++ (ys ++ zs))) is f
    (by_rule simple_command refl (the_first (carry_simple bytes v i ∙ f.is_simple)
    (the_first n (by_rule prefixed refl (a then b then by_rule suffix refl c)))))

-- ---- where any command begins

pub record CommandFront (t : Text) : Type 0 where
  pub solid : gap t ≡ t
  pub no_line : is_token Newline t ≡ false
  pub no_bang : is_key Bang t ≡ false
  pub begins : command_next t ≡ true

pub simple_front : (t : Text) → SimpleFront t → CommandFront t
unfolding command_next
simple_front t f = record { solid = f.solid; no_line = f.no_line; no_bang = f.keys Bang; begins = rw f.is_simple (or_last (compound_next t)) }

pub pipeline_begins_at : (t bytes : Text) → CommandFront t → gap bytes ≡ t → pipeline_next bytes ≡ true
unfolding pipeline_next command_next
pipeline_begins_at t bytes f e =
    let i : gap bytes ≡ gap t = e ∙ sym f.solid in
    rw (carry_key Bang bytes t i, carry_compound bytes t i, carry_simple bytes t i, f.no_bang) f.begins

-- ---- reserved words

-- a reserved word at a place
pub record KeyAt (w : Key) (bytes t : Text) : Type 0 where
  pub is : gap bytes ≡ key_text w ++ t
  pub outside : Outside t

pub key_says_it : (v w : Key) (bytes t : Text) → KeyAt w bytes t → is_key v bytes ≡ same_text (key_text w) (key_text v)
key_says_it v w bytes t a = key_test v w bytes t a.is a.outside

-- whether it opens a compound command
abbrev pub opens_by : Key → Bool
opens_by If = true
opens_by For = true
opens_by While = true
opens_by Until = true
opens_by Case = true
opens_by OpenBrace = true
opens_by w = false

opened : (w : Key) → (same_text (key_text w) (key_text If) || same_text (key_text w) (key_text For) || same_text (key_text w) (key_text While) || same_text (key_text w) (key_text Until) || same_text (key_text w) (key_text Case) || same_text (key_text w) (key_text OpenBrace)) ≡ opens_by w
unfolding key_text
opened If = refl
opened Then = refl
opened Elif = refl
opened Else = refl
opened Fi = refl
opened For = refl
opened In = refl
opened Until = refl
opened While = refl
opened Do = refl
opened Done = refl
opened Case = refl
opened Esac = refl
opened OpenBrace = refl
opened CloseBrace = refl
opened Bang = refl

otherwise_keyed : (w : Key) → (same_text (key_text w) (key_text Then) || same_text (key_text w) (key_text Elif) || same_text (key_text w) (key_text Else) || same_text (key_text w) (key_text Fi) || same_text (key_text w) (key_text In) || same_text (key_text w) (key_text Do) || same_text (key_text w) (key_text Done) || same_text (key_text w) (key_text Esac) || same_text (key_text w) (key_text CloseBrace) || same_text (key_text w) (key_text Bang)) ≡ not (opens_by w)
unfolding key_text
otherwise_keyed If = refl
otherwise_keyed Then = refl
otherwise_keyed Elif = refl
otherwise_keyed Else = refl
otherwise_keyed Fi = refl
otherwise_keyed For = refl
otherwise_keyed In = refl
otherwise_keyed Until = refl
otherwise_keyed While = refl
otherwise_keyed Do = refl
otherwise_keyed Done = refl
otherwise_keyed Case = refl
otherwise_keyed Esac = refl
otherwise_keyed OpenBrace = refl
otherwise_keyed CloseBrace = refl
otherwise_keyed Bang = refl

key_opens : (w : Key) (bytes t : Text) → KeyAt w bytes t → opens_compound bytes ≡ opens_by w
key_opens w bytes t a =
    rw (key_says_it If w bytes t a, key_says_it For w bytes t a, key_says_it While w bytes t a, key_says_it Until w bytes t a, key_says_it Case w bytes t a, key_says_it OpenBrace w bytes t a) (opened w)

key_others : (w : Key) (bytes t : Text) → KeyAt w bytes t → is_other_key bytes ≡ not (opens_by w)
key_others w bytes t a =
    rw (key_says_it Then w bytes t a, key_says_it Elif w bytes t a, key_says_it Else w bytes t a, key_says_it Fi w bytes t a, key_says_it In w bytes t a, key_says_it Do w bytes t a, key_says_it Done w bytes t a, key_says_it Esac w bytes t a, key_says_it CloseBrace w bytes t a, key_says_it Bang w bytes t a) (otherwise_keyed w)

-- the tests at an opening word
pub key_compound : (w : Key) (bytes t : Text) → KeyAt w bytes t → opens_by w ≡ true → compound_next bytes ≡ true
unfolding compound_next
key_compound w bytes t a o =
    let k = key_token w bytes t a.is in
    rw (word_is_word bytes (key_text w ++ t) k, key_opens w bytes t a, o) (or_last (is_token Open bytes))

no_bang_key : (w : Key) → opens_by w ≡ true → same_text (key_text w) (key_text Bang) ≡ false
unfolding key_text
no_bang_key If o = refl
no_bang_key Then o = absurd cc
no_bang_key Elif o = absurd cc
no_bang_key Else o = absurd cc
no_bang_key Fi o = absurd cc
no_bang_key For o = refl
no_bang_key In o = absurd cc
no_bang_key Until o = refl
no_bang_key While o = refl
no_bang_key Do o = absurd cc
no_bang_key Done o = absurd cc
no_bang_key Case o = refl
no_bang_key Esac o = absurd cc
no_bang_key OpenBrace o = refl
no_bang_key CloseBrace o = absurd cc
no_bang_key Bang o = absurd cc

pub key_command : (w : Key) (t : Text) → Outside t → opens_by w ≡ true → CommandFront (key_text w ++ t)
unfolding command_next
key_command w t o y =
    let v = key_text w ++ t in
    let a : KeyAt w v t = record { is = key_gap w t; outside = o } in
    record { solid = key_gap w t; no_line = (word_is_other v v (key_token w v t a.is)).0; no_bang = key_says_it Bang w v t a ∙ no_bang_key w y; begins = rw (key_compound w v t a y) refl }

-- ---- what stands behind a list

pub record ListEnd (t : Text) : Type 0 where
  pub no_pipeline : pipeline_next t ≡ false
  pub no_line : is_token Newline t ≡ false
  pub no_semi : is_token Semi t ≡ false

-- a word that closes
abbrev pub closes_by : Key → Bool
closes_by Then = true
closes_by Elif = true
closes_by Else = true
closes_by Fi = true
closes_by Do = true
closes_by Done = true
closes_by Esac = true
closes_by CloseBrace = true
closes_by w = false

closing_key : (w : Key) → closes_by w ≡ true → (opens_by w ≡ false) × (same_text (key_text w) (key_text Bang) ≡ false)
unfolding key_text
closing_key If o = absurd cc
closing_key Then o = (refl, refl)
closing_key Elif o = (refl, refl)
closing_key Else o = (refl, refl)
closing_key Fi o = (refl, refl)
closing_key For o = absurd cc
closing_key In o = absurd cc
closing_key Until o = absurd cc
closing_key While o = absurd cc
closing_key Do o = (refl, refl)
closing_key Done o = (refl, refl)
closing_key Case o = absurd cc
closing_key Esac o = (refl, refl)
closing_key OpenBrace o = absurd cc
closing_key CloseBrace o = (refl, refl)
closing_key Bang o = absurd cc

word_is_no_semi : (t u : Text) → token t ≡ (Word, u) → is_token Semi t ≡ false
unfolding code
word_is_no_semi t u k = test_is Word Semi t u k

key_end_at : (w : Key) (bytes t : Text) → KeyAt w bytes t → closes_by w ≡ true → ListEnd bytes
unfolding pipeline_next command_next compound_next simple_next name_next
key_end_at w bytes t a y =
    let k = key_token w bytes t a.is in
    let c = closing_key w y in
    let x = word_is_other bytes (key_text w ++ t) k in
    record { no_pipeline = rw (key_opens w bytes t a, key_others w bytes t a, key_says_it Bang w bytes t a, c.1, x.1, word_is_word bytes (key_text w ++ t) k, c.0, word_no_redirect bytes (key_text w ++ t) k) refl; no_line = x.0; no_semi = word_is_no_semi bytes (key_text w ++ t) k }

pub key_end : (w : Key) (t : Text) → Outside t → closes_by w ≡ true → ListEnd (key_text w ++ t)
key_end w t o y = key_end_at w (key_text w ++ t) t (record { is = key_gap w t; outside = o }) y

-- an operator that closes
op_end : (o : Op) (t rest : Text) → token t ≡ (o, rest) → NoKeys t → (code o == code Word) ≡ false → (code o == code Open) ≡ false → (code o == code Newline) ≡ false → (code o == code Semi) ≡ false → redirect_next t ≡ false → ListEnd t
unfolding pipeline_next command_next compound_next simple_next name_next
op_end o t rest k n w p l s r =
    record { no_pipeline = rw (n Bang, test_is o Open t rest k, test_is o Word t rest k, w, p, r) refl; no_line = test_is o Newline t rest k ∙ l; no_semi = test_is o Semi t rest k ∙ s }

mark_keys : (is_literal in_word 41 [] ≡ false) × (is_literal in_word 59 [] ≡ false)
unfolding is_literal is_plain is_active is_meta
mark_keys = (refl, refl)

mark_stops : (t : Text) → (is_literal in_word 41 t ≡ false) × (is_literal in_word 59 t ≡ false)
unfolding is_literal is_plain is_active is_meta
mark_stops t = (refl, refl)

pub close_end : (t : Text) → ListEnd (41 ∷ t)
unfolding code redirect_next here_next copy_next
close_end t =
    let v = 41 ∷ t in
    let g : gap v ≡ v = gap_is 41 t refl in
    let k = close_token v t g in
    op_end Close v t k (by_none v g (no_join 41 t refl) (mark_stops t).0) refl refl refl refl
    (rw (test_is Close Io v t k, test_is Close Less v t k, test_is Close Great v t k, test_is Close DGreat v t k, test_is Close DLess v t k, test_is Close DLessDash v t k, test_is Close LessAnd v t k, test_is Close GreatAnd v t k) refl)

pub semis_end : (t : Text) → ListEnd (59 ∷ 59 ∷ 32 ∷ t)
unfolding code redirect_next here_next copy_next
semis_end t =
    let v = 59 ∷ 59 ∷ 32 ∷ t in
    let g : gap v ≡ v = gap_is 59 (59 ∷ 32 ∷ t) refl in
    let k = semis_token v t g in
    op_end SemiSemi v (32 ∷ t) k (by_none v g refl (mark_stops (59 ∷ 32 ∷ t)).1) refl refl refl refl
    (rw (test_is SemiSemi Io v _ k, test_is SemiSemi Less v _ k, test_is SemiSemi Great v _ k, test_is SemiSemi DGreat v _ k, test_is SemiSemi DLess v _ k, test_is SemiSemi DLessDash v _ k, test_is SemiSemi LessAnd v _ k, test_is SemiSemi GreatAnd v _ k) refl)
