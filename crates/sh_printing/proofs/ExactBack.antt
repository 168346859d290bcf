-- The bodies that come are those that were named: what is kept from right to left.
use Rattle.std.proofs.Common.{◌≡◌, ℕ, Bool, true, false, List, [], ◌∷◌, ◌++◌, length, Option, Some, None, refl, sym, ap, subst, ◌∙◌, append_assoc, eqb-true}
use Rattle.std.specs.Prelude.{◌==◌, nat_lt}
use Rattle.std.proofs.lemmas.Bool.{false≢true, true≢false}
use Rattle.text_grammar.specs.Grammar.{Leaf}
use Rattle.sh_grammar.specs.Bytes.{Text, clear, gap, in_word, digit_run, starts, unit_starts}
use Rattle.span_text.specs.Names.{is_digit}
use Rattle.sh_grammar.specs.Tokens.{Op, Newline, Open, Close, DLess, DLessDash, Other, code, after_byte, goes_on_with, semi_at, and_at, pipe_at, here_at, less_at, great_at, is_angle, word_at, front, token, is_token}
use Rattle.sh_grammar.specs.Expansions.{◌>>=◌}
use Rattle.sh_grammar.specs.Bodies.{Owed, delimiter_for, bodies_at}
use Rattle.sh_grammar.specs.State.{State, Node}
use Rattle.sh_grammar.specs.Table.{Step, line, here, enter, leave}
use Rattle.sh_grammar.specs.Steps.{Known, limit, Read, word_place, here_node, here_read, run_step}
use Rattle.sh_grammar.proofs.Tools.{If, then, chosen, chosen_by, if_some}
use Rattle.sh_printing.specs.Spellable.{is_unjoined}
use Rattle.sh_printing.proofs.ExactRules.{Keeps}
use Rattle.sh_printing.proofs.ExactStates.{Forth, Back, Owes, Unjoined, Clean}
use Rattle.sh_printing.proofs.ExactTails.{gap_ends}
use Rattle.sh_printing.proofs.ExactBodies.{unjoined_tails, unjoined_after}
use Rattle.sh_printing.proofs.ExactLines.{Bodies, bodies_fit}
use Rattle.sh_printing.proofs.ExactInvariants.{Steady, IsSteady, steady, forth}

-- ---- a token by its first byte

-- It isn't this one: its number is another, but where the first byte is that of a newline or of a closing parenthesis.
abbrev pub Isnt : ℕ → Op × Text → Type 0
Isnt n x = (code x.0 == n) ≡ false

not_after : (n k : ℕ) (t : Text) (longer : Text → Op × Text) (shorter : Op × Text) → ((u : Text) → Isnt n (longer u)) → Isnt n shorter → Isnt n (after_byte k t longer shorter)
not_after n k [] longer shorter h e = e
not_after n k (b ∷ bs) longer shorter h e = chosen (Isnt n) (b == k) (longer bs) shorter (h bs) e

pub not_on : (n k : ℕ) (t : Text) (longer : Text → Op × Text) (shorter : Op × Text) → ((u : Text) → Isnt n (longer u)) → Isnt n shorter → Isnt n (goes_on_with k t longer shorter)
not_on n k t longer shorter h e = not_after n k (clear t) longer shorter h e

-- the number of none of these
pub record Others (n : ℕ) : Type 0 where
  pub semi : (t : Text) → Isnt n (semi_at t)
  pub and' : (t : Text) → Isnt n (and_at t)
  pub pipe : (t : Text) → Isnt n (pipe_at t)
  pub less : (t : Text) → Isnt n (less_at t)
  pub great : (t : Text) → Isnt n (great_at t)
  pub word : (t : Text) → Isnt n (word_at t)
  pub open' : (t : Text) → Isnt n (Open, t)
  pub other : (t : Text) → Isnt n (Other, t)

pub front_other : (n : ℕ) → Others n → (b : ℕ) (bs : Text) → ((b == 10) ≡ true → Isnt n (Newline, bs)) → ((b == 41) ≡ true → Isnt n (Close, bs)) → Isnt n (front (b ∷ bs))
unfolding front
front_other n o b bs h g =
    chosen_by (Isnt n) (b == 10) _ _ h
    (λ e. chosen (Isnt n) (b == 59) _ _ (o.semi bs)
    (chosen (Isnt n) (b == 38) _ _ (o.and' bs)
    (chosen (Isnt n) (b == 124) _ _ (o.pipe bs)
    (chosen (Isnt n) (b == 40) _ _ (o.open' bs)
    (chosen_by (Isnt n) (b == 41) _ _ g
    (λ f. chosen (Isnt n) (b == 60) _ _ (o.less bs)
    (chosen (Isnt n) (b == 62) _ _ (o.great bs)
    (chosen (Isnt n) (unit_starts in_word (b ∷ bs)) _ _ (o.word (b ∷ bs)) (o.other (b ∷ bs))))))))))

word_isnt_1 : (t : Text) → Isnt 1 (word_at t)
unfolding code
word_isnt_1 t =
    chosen (Isnt 1) (starts is_digit t) _ _
    (chosen (Isnt 1) (starts is_angle (digit_run t).1) _ _ (chosen (Isnt 1) (length (digit_run t).0 == 1) _ _ refl refl) refl) refl

word_isnt_8 : (t : Text) → Isnt 8 (word_at t)
unfolding code
word_isnt_8 t =
    chosen (Isnt 8) (starts is_digit t) _ _
    (chosen (Isnt 8) (starts is_angle (digit_run t).1) _ _ (chosen (Isnt 8) (length (digit_run t).0 == 1) _ _ refl refl) refl) refl

others_newline : Others 1
unfolding code semi_at and_at pipe_at less_at here_at great_at
others_newline = record {
  semi = λ t. not_on 1 59 t _ _ (λ u. not_on 1 38 u _ _ (λ v. refl) refl) (not_on 1 38 t _ _ (λ u. refl) refl);
  and' = λ t. not_on 1 38 t _ _ (λ u. refl) refl;
  pipe = λ t. not_on 1 124 t _ _ (λ u. refl) (not_on 1 38 t _ _ (λ u. refl) refl);
  less = λ t. not_on 1 60 t _ _ (λ u. not_on 1 45 u _ _ (λ v. refl) (not_on 1 60 u _ _ (λ v. refl) refl)) (not_on 1 38 t _ _ (λ u. refl) (not_on 1 62 t _ _ (λ u. refl) refl));
  great = λ t. not_on 1 62 t _ _ (λ u. refl) (not_on 1 38 t _ _ (λ u. refl) (not_on 1 124 t _ _ (λ u. refl) refl));
  word = λ t. word_isnt_1 t;
  open' = λ t. refl;
  other = λ t. refl;
}

others_close : Others 8
unfolding code semi_at and_at pipe_at less_at here_at great_at
others_close = record {
  semi = λ t. not_on 8 59 t _ _ (λ u. not_on 8 38 u _ _ (λ v. refl) refl) (not_on 8 38 t _ _ (λ u. refl) refl);
  and' = λ t. not_on 8 38 t _ _ (λ u. refl) refl;
  pipe = λ t. not_on 8 124 t _ _ (λ u. refl) (not_on 8 38 t _ _ (λ u. refl) refl);
  less = λ t. not_on 8 60 t _ _ (λ u. not_on 8 45 u _ _ (λ v. refl) (not_on 8 60 u _ _ (λ v. refl) refl)) (not_on 8 38 t _ _ (λ u. refl) (not_on 8 62 t _ _ (λ u. refl) refl));
  great = λ t. not_on 8 62 t _ _ (λ u. refl) (not_on 8 38 t _ _ (λ u. refl) (not_on 8 124 t _ _ (λ u. refl) refl));
  word = λ t. word_isnt_8 t;
  open' = λ t. refl;
  other = λ t. refl;
}

close_isnt_newline : (bs : Text) → Isnt 1 (Close, bs)
unfolding code
close_isnt_newline bs = refl

newline_isnt_close : (bs : Text) → Isnt 8 (Newline, bs)
unfolding code
newline_isnt_close bs = refl

-- a newline and what is behind it
newline_byte : (b : ℕ) (bs : Text) (p : Bool) → (b == 10) ≡ p → (code (front (b ∷ bs)).0 == 1) ≡ true → b ∷ bs ≡ 10 ∷ (front (b ∷ bs)).1
unfolding front
newline_byte b bs true e h = subst (λ (z : ℕ). z ∷ bs ≡ 10 ∷ (front (z ∷ bs)).1) (sym (eqb-true b 10 e)) refl
newline_byte b bs false e h = absurd (false≢true (sym (front_other 1 others_newline b bs (λ f. absurd (true≢false (sym f ∙ e))) (λ f. close_isnt_newline bs)) ∙ h))

-- a closing parenthesis
close_byte : (b : ℕ) (bs : Text) (p : Bool) → (b == 41) ≡ p → (code (front (b ∷ bs)).0 == 8) ≡ true → b ∷ bs ≡ 41 ∷ (front (b ∷ bs)).1
unfolding front
close_byte b bs true e h = subst (λ (z : ℕ). z ∷ bs ≡ 41 ∷ (front (z ∷ bs)).1) (sym (eqb-true b 41 e)) refl
close_byte b bs false e h = absurd (false≢true (sym (front_other 8 others_close b bs (λ f. newline_isnt_close bs) (λ f. absurd (true≢false (sym f ∙ e)))) ∙ h))

newline_at : (u : Text) (e : (code (front u).0 == 1) ≡ true) → u ≡ 10 ∷ (front u).1
unfolding code front
newline_at [] e = absurd (false≢true e)
newline_at (b ∷ bs) e = newline_byte b bs (b == 10) refl e

close_at : (u : Text) (e : (code (front u).0 == 8) ≡ true) → u ≡ 41 ∷ (front u).1
unfolding code front
close_at [] e = absurd (false≢true e)
close_at (b ∷ bs) e = close_byte b bs (b == 41) refl e

newline_code : (n : ℕ) → (n == code Newline) ≡ true → (n == 1) ≡ true
unfolding code
newline_code n e = e

close_code : (n : ℕ) → (n == code Close) ≡ true → (n == 8) ≡ true
unfolding code
close_code n e = e

pub newline_token : (t : Text) → is_token Newline t ≡ true → gap t ≡ 10 ∷ (token t).1
unfolding is_token token
newline_token t e = newline_at (gap t) (newline_code (code (front (gap t)).0) e)

pub close_token : (t : Text) → is_token Close t ≡ true → gap t ≡ 41 ∷ (token t).1
unfolding is_token token
close_token t e = close_at (gap t) (close_code (code (front (gap t)).0) e)

-- ---- from right to left

abbrev BackTo : Known → Bool → State → State → Type 0
BackTo k i s m = Back k i m → Back k i s

steady_back : (k : Known) (i : Bool) (s m : State) → Steady s m → BackTo k i s m
steady_back k i s m h b = record {
  later = b.later;
  whole = b.whole ∙ ap (λ (z : List Text). z ++ b.later) h.found;
  owes = subst (λ (z : List Owed). Owes i z b.later) h.owed b.owes;
}

owes_front : (i : Bool) (os us : List Owed) (bodies : List Text) → Owes i (os ++ us) bodies → Owes i os bodies
owes_front i [] us bodies h = tt
owes_front i (o ∷ os) us [] h = absurd h
owes_front i (o ∷ os) us (b ∷ bs) h = (h.0, owes_front i os us bs h.1)

named_back : (k : Known) (i : Bool) (s m : State) (us : List Owed) → m.found ≡ s.found → m.owed ≡ s.owed ++ us → BackTo k i s m
named_back k i s m us f o b = record {
  later = b.later;
  whole = b.whole ∙ ap (λ (z : List Text). z ++ b.later) f;
  owes = owes_front i s.owed us b.later (subst (λ (z : List Owed). Owes i z b.later) o b.owes);
}

abbrev BackIn : Known → Bool → State → Read → Type 0
BackIn k i s o = If (λ (x : Leaf Node × State). BackTo k i s x.1) o

back_any : {A : Type 0} (k : Known) (i : Bool) (s : State) (o : Option A) (f : A → Read) → ((x : A) → BackIn k i s (f x)) → BackIn k i s (o >>= f)
back_any k i s None f h = tt
back_any k i s (Some x) f h = h x

here_back : (k : Known) (i : Bool) (s : State) (x : Op × Text) → BackIn k i s (here_read k s x)
here_back k i s (DLess, rest) = back_any k i s (word_place rest) _ (λ p. back_any k i s (delimiter_for false p) _ (λ d. back_any k i s (here_node k s d.0.1) _ (λ y b. named_back k i s _ (record { delimiter = d.0.0; literal = d.0.1; strips = false } ∷ []) refl refl b)))
here_back k i s (DLessDash, rest) = back_any k i s (word_place rest) _ (λ p. back_any k i s (delimiter_for true p) _ (λ d. back_any k i s (here_node k s d.0.1) _ (λ y b. named_back k i s _ (record { delimiter = d.0.0; literal = d.0.1; strips = true } ∷ []) refl refl b)))
here_back k i s x = tt

found_back : (k : Known) (i : Bool) (s m : State) (x : List Text × Text) → Bodies i s.owed x → m.found ≡ s.found ++ x.0 → BackTo k i s m
found_back k i s m x h f b = record {
  later = x.0 ++ b.later;
  whole = b.whole ∙ (ap (λ (z : List Text). z ++ b.later) f ∙ append_assoc s.found x.0 b.later);
  owes = h.owes b.later;
}

unjoined_behind : (i : Bool) (t : Text) → Clean i t → is_token Newline t ≡ true → i ≡ true → is_unjoined false (token t).1 ≡ true
unjoined_behind false t c n e = absurd (false≢true e)
unjoined_behind true t c n e = unjoined_after 10 (token t).1 (subst Unjoined (newline_token t n) (gap_ends Unjoined unjoined_tails t c.0)) refl

line_back : (k : Known) (i : Bool) (s : State) → Forth i s → BackIn k i s (run_step k line s)
unfolding run_step
line_back k i s f =
    chosen_by (BackIn k i s) (is_token Newline s.bytes) _ _
    (λ n. then (Bodies i s.owed) (λ (x : Leaf Node × State). BackTo k i s x.1) (bodies_at s.owed (token s.bytes).1) _ (bodies_fit i s.owed (token s.bytes).1 (unjoined_behind i s.bytes f.clean n))
    (λ x h b. found_back k i s _ x h refl b)) (λ n. tt)

here_step_back : (k : Known) (i : Bool) (s : State) → BackIn k i s (run_step k here s)
unfolding run_step
here_step_back k i s = here_back k i s (token s.bytes)

steady_like : (k : Known) (i : Bool) (s m : State) → m.found ≡ s.found → m.owed ≡ s.owed → BackTo k i s m
steady_like k i s m f o b = record { later = b.later; whole = b.whole ∙ ap (λ (z : List Text). z ++ b.later) f; owes = subst (λ (z : List Owed). Owes i z b.later) o b.owes }

enter_back : (k : Known) (i : Bool) (s : State) → BackIn k i s (run_step k enter s)
unfolding run_step
enter_back k i s = chosen (BackIn k i s) (nat_lt s.depth limit) _ _ (λ b. steady_like k i s _ refl refl b) tt

leave_back : (k : Known) (i : Bool) (s : State) → BackIn k i s (run_step k leave s)
unfolding run_step
leave_back k i s b = steady_like k i s _ refl refl b

steady_backs : (k : Known) (i : Bool) (s : State) (o : Read) → IsSteady s o → BackIn k i s o
steady_backs k i s None h = tt
steady_backs k i s (Some x) h = steady_back k i s x.1 h

step_back : (k : Known) (i : Bool) (p : Step) (s : State) → Forth i s → BackIn k i s (run_step k p s)
step_back k i line s f = line_back k i s f
step_back k i here s f = here_step_back k i s
step_back k i enter s f = enter_back k i s
step_back k i leave s f = leave_back k i s
step_back k i p s f = steady_backs k i s (run_step k p s) (steady k p s refl)

pub keeps : (k : Known) (i : Bool) → Keeps k (Forth i) (Back k i)
keeps k i = record {
  forth = forth k i;
  back = λ p s e x h f b. if_some (λ (y : Leaf Node × State). BackTo k i s y.1) (run_step k p s) (x, e) h (step_back k i p s f) b;
}
