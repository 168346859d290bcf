-- Newlines with the bodies that are owed, and what stands between commands.
use Rattle.std.proofs.Common.{◌≡◌, ℕ, Bool, true, false, List, [], ◌∷◌, ◌++◌, length, refl, sym, ap, ◌∙◌}
use Rattle.std.proofs.lemmas.List.{append-nil}
use Rattle.text_grammar.specs.Grammar.{step, star, rule}
use Rattle.sh_grammar.specs.Bytes.{Text, gap}
use Rattle.sh_grammar.specs.Tokens.{Op, Newline, Semi, AndIf, OrIf, Pipe, code, token, is_token}
use Rattle.sh_grammar.specs.State.{State, Sum, Node}
use Rattle.sh_grammar.specs.Table.{line, next, lines}
use Rattle.sh_grammar.specs.Steps.{Known, run_step, holds}
use Rattle.sh_printing.specs.Marks as marks
use Rattle.sh_printing.specs.Marks.{End, piped, and_then, or_else}
use Rattle.sh_printing.proofs.BackSays.{Says, silent_step, by_rule, no_more, one_more, to_state}
use Rattle.sh_printing.proofs.BackDue.{Due, Pending, named, settled, st, bodies_of, pending_text, bodies_read}
use Rattle.sh_printing.proofs.BackBytes.{gap_blank, gap_is}
use Rattle.sh_printing.proofs.BackTokens.{test_is, newline_token}

-- nothing is owed, and these were found
abbrev pub clean : List Text → Due
clean found = record { owing = []; found = found }

pub settled_state : (d : ℕ) (q : List Sum) (g : Due) (t : Text) → record (st d q g t) { owed = []; found = g.found ++ bodies_of g.owing } ≡ st d q (settled g) t
settled_state d q g t = ap (λ (z : List Text). record { bytes = t; owed = []; named = length z; found = named g; depth = d; sums = q }) (sym (append-nil (named g)))

-- a newline and all that is owed
pub line_says : (k : Known) (d : ℕ) (q : List Sum) (g : Due) (bytes t : Text) → gap bytes ≡ 10 ∷ (pending_text g.owing ++ t) → Says k (step line) (st d q g bytes) (st d q (settled g) t) []
unfolding run_step code
line_says k d q g bytes t e =
    let n = newline_token bytes (pending_text g.owing ++ t) e in
    to_state (settled_state d q g t) (silent_step (rw (test_is Newline Newline bytes _ n, n, bodies_read g.owing t) refl))

pub no_lines : (k : Known) (d : ℕ) (q : List Sum) (g : Due) (t : Text) → is_token Newline t ≡ false → Says k (star (next Newline) (step line)) (st d q g t) (st d q g t) []
unfolding holds
no_lines k d q g t n = no_more n

-- the same token behind a blank
pub blank_token : (t : Text) → token (32 ∷ t) ≡ token t
unfolding token
blank_token t = rw (gap_blank t) refl

pub blank_test : (o : Op) (t : Text) → is_token o (32 ∷ t) ≡ is_token o t
unfolding is_token
blank_test o t = rw (blank_token t) refl

first_of : (a b c : Text) → marks.gap (a ++ (b ++ 10 ∷ c)) ≡ 10 ∷ (a ++ (b ++ 10 ∷ c))
first_of [] [] c = refl
first_of [] (x ∷ b) c = refl
first_of (x ∷ a) b c = refl

solid_newline : (bytes t : Text) → bytes ≡ 10 ∷ t → gap bytes ≡ 10 ∷ t
solid_newline bytes t e = ap gap e ∙ gap_is 10 t refl

newline_is : (bytes t : Text) → gap bytes ≡ 10 ∷ t → is_token Newline bytes ≡ true
unfolding code
newline_is bytes t e = test_is Newline Newline bytes t (newline_token bytes t e)

pending_first : (p : Pending) (ps : List Pending) → marks.gap (pending_text (p ∷ ps)) ≡ 10 ∷ pending_text (p ∷ ps)
pending_first p ps = first_of p.body p.owed.delimiter (pending_text ps)

-- a state where nothing is owed is settled
pub settled_clean : (d : ℕ) (q : List Sum) (found : List Text) (t : Text) → st d q (clean found) t ≡ st d q (settled (clean found)) t
settled_clean d q found t = ap (λ (z : List Text). st d q (clean z) t) (sym (append-nil found))

-- where reading goes on behind a gap
pub record Goes (k : Known) (g : Rattle.sh_grammar.specs.Table.Gram) (s : State) (d : ℕ) (q : List Sum) (h : Due) (t : Text) (xs : List Node) : Type 0 where
  pub ahead : Text
  pub same : gap ahead ≡ gap t
  pub says : Says k g s (st d q h ahead) xs

-- a gap in front of what is no newline: a blank, or a newline with all that is owed
pub gap_says : (k : Known) (d : ℕ) (q : List Sum) (ps : List Pending) (found : List Text) (t : Text) → is_token Newline t ≡ false →
    Goes k (star (next Newline) (step line)) (st d q (record { owing = ps; found = found }) (marks.gap (pending_text ps) ++ t)) d q (settled (record { owing = ps; found = found })) t []
unfolding holds
gap_says k d q [] found t n =
    record { ahead = 32 ∷ t; same = gap_blank t; says = to_state (settled_clean d q found (32 ∷ t)) (no_lines k d q (clean found) (32 ∷ t) (blank_test Newline t ∙ n)) }
gap_says k d q (p ∷ ps) found t n =
    let g : Due = record { owing = p ∷ ps; found = found } in
    let e : marks.gap (pending_text (p ∷ ps)) ++ t ≡ 10 ∷ (pending_text (p ∷ ps) ++ t) = ap (λ (z : Text). z ++ t) (pending_first p ps) in
    let i = solid_newline (marks.gap (pending_text (p ∷ ps)) ++ t) (pending_text (p ∷ ps) ++ t) e in
    record {
      ahead = t;
      same = refl;
      says =
          one_more (newline_is (marks.gap (pending_text (p ∷ ps)) ++ t) (pending_text (p ∷ ps) ++ t) i)
          (line_says k d q g (marks.gap (pending_text (p ∷ ps)) ++ t) t i) (no_lines k d q (settled g) t n);
    }

pub lines_say : (k : Known) (d : ℕ) (q : List Sum) (ps : List Pending) (found : List Text) (t : Text) → is_token Newline t ≡ false →
    Goes k (rule lines) (st d q (record { owing = ps; found = found }) (marks.gap (pending_text ps) ++ t)) d q (settled (record { owing = ps; found = found })) t []
lines_say k d q ps found t n = let a = gap_says k d q ps found t n in record { ahead = a.ahead; same = a.same; says = by_rule lines refl a.says }

pub no_lines_say : (k : Known) (d : ℕ) (q : List Sum) (g : Due) (t : Text) → is_token Newline t ≡ false → Says k (rule lines) (st d q g t) (st d q g t) []
no_lines_say k d q g t n = by_rule lines refl (no_lines k d q g t n)

-- ---- what ends a command

-- the text that ends a command, and its token
abbrev pub end_token : End → Bool → Op
end_token piped owes = Pipe
end_token and_then owes = AndIf
end_token or_else owes = OrIf
end_token marks.next false = Semi
end_token marks.next true = Newline
end_token marks.line owes = Newline
