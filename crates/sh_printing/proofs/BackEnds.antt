-- What ends a command.
use Rattle.std.proofs.Common.{◌≡◌, ℕ, Bool, true, false, [], ◌∷◌, ◌++◌, None, refl, ◌∙◌}
use Rattle.std.specs.Prelude.{◌||◌, ◌==◌}
use Rattle.span_text.specs.Names.{begins_name}
use Rattle.sh_grammar.specs.Bytes.{Text, gap}
use Rattle.sh_grammar.specs.Tokens.{Op, Newline, Semi, AndIf, OrIf, Pipe, Open, Io, Less, Great, DGreat, DLess, DLessDash, LessAnd, GreatAnd, Word, code, token, is_token, here_next, copy_next, redirect_next, name_at, assign_at, assign_next}
use Rattle.sh_printing.specs.Marks as marks
use Rattle.sh_printing.specs.Marks.{End, piped, and_then, or_else, ended}
use Rattle.sh_printing.proofs.BackBytes.{gap_is, gap_blank}
use Rattle.sh_printing.proofs.BackTokens.{Outside, word_ends, test_is, newline_token, semi_token, and_token, or_token, pipe_token}

-- neither a redirection nor a word nor a parenthesis
pub record IsEnd (o : Op) : Type 0 where
  pub no_redirect : (code o == code Io || code o == code Less || code o == code Great || code o == code DGreat || (code o == code DLess || code o == code DLessDash) || (code o == code LessAnd || code o == code GreatAnd)) ≡ false
  pub no_word : (code o == code Word) ≡ false
  pub no_open : (code o == code Open) ≡ false

-- the text of an end, with its token and what stands behind that
pub record Ended (o : Op) (t rest : Text) : Type 0 where
  pub outside : Outside t
  pub token_is : token t ≡ (o, rest)
  pub is_end : IsEnd o
  pub no_name : name_at (gap t) ≡ None

no_name_at : (b : ℕ) (bs t : Text) → gap t ≡ b ∷ bs → begins_name b ≡ false → name_at (gap t) ≡ None
unfolding name_at
no_name_at b bs t e n = rw (e, n) refl

no_letters : (begins_name 124 ≡ false) × (begins_name 38 ≡ false) × (begins_name 59 ≡ false) × (begins_name 10 ≡ false)
unfolding begins_name
no_letters = (refl, refl, refl, refl)

end_ops : IsEnd Pipe × IsEnd AndIf × IsEnd OrIf × IsEnd Semi × IsEnd Newline
unfolding code
end_ops = (record { no_redirect = refl; no_word = refl; no_open = refl }, record { no_redirect = refl; no_word = refl; no_open = refl }, record { no_redirect = refl; no_word = refl; no_open = refl }, record { no_redirect = refl; no_word = refl; no_open = refl }, record { no_redirect = refl; no_word = refl; no_open = refl })

gap_mark : (b : ℕ) (bs : Text) → Rattle.sh_printing.proofs.BackBytes.is_solid b ≡ true → gap (32 ∷ b ∷ bs) ≡ b ∷ bs
gap_mark b bs s = gap_blank (b ∷ bs) ∙ gap_is b bs s

pub piped_end : (owed t : Text) → Ended Pipe (ended piped owed ++ t) (marks.gap owed ++ t)
piped_end [] t = let e = gap_mark 124 (32 ∷ t) refl in record { outside = word_ends _ refl; token_is = pipe_token _ t 32 e refl; is_end = end_ops.0; no_name = no_name_at 124 _ _ e no_letters.0 }
piped_end (x ∷ xs) t = let e = gap_mark 124 (10 ∷ x ∷ (xs ++ t)) refl in record { outside = word_ends _ refl; token_is = pipe_token _ (x ∷ (xs ++ t)) 10 e refl; is_end = end_ops.0; no_name = no_name_at 124 _ _ e no_letters.0 }

pub and_end : (owed t : Text) → Ended AndIf (ended and_then owed ++ t) (marks.gap owed ++ t)
and_end owed t = let e = gap_mark 38 (38 ∷ (marks.gap owed ++ t)) refl in record { outside = word_ends _ refl; token_is = and_token _ (marks.gap owed ++ t) e; is_end = end_ops.1; no_name = no_name_at 38 _ _ e no_letters.1 }

pub or_end : (owed t : Text) → Ended OrIf (ended or_else owed ++ t) (marks.gap owed ++ t)
or_end owed t = let e = gap_mark 124 (124 ∷ (marks.gap owed ++ t)) refl in record { outside = word_ends _ refl; token_is = or_token _ (marks.gap owed ++ t) e; is_end = end_ops.2; no_name = no_name_at 124 _ _ e no_letters.0 }

pub semi_end : (t : Text) → Ended Semi (ended marks.next [] ++ t) (32 ∷ t)
semi_end t = let e = gap_is 59 (32 ∷ t) refl in record { outside = word_ends _ refl; token_is = semi_token _ t e; is_end = end_ops.3; no_name = no_name_at 59 _ _ e no_letters.2 }

pub next_end : (x : ℕ) (xs t : Text) → Ended Newline (ended marks.next (x ∷ xs) ++ t) ((x ∷ xs) ++ t)
next_end x xs t = let e = gap_is 10 (x ∷ (xs ++ t)) refl in record { outside = word_ends _ refl; token_is = newline_token _ ((x ∷ xs) ++ t) e; is_end = end_ops.4; no_name = no_name_at 10 _ _ e no_letters.3 }

pub line_end : (owed t : Text) → Ended Newline (ended marks.line owed ++ t) (owed ++ t)
line_end owed t = let e = gap_is 10 (owed ++ t) refl in record { outside = word_ends _ refl; token_is = newline_token _ (owed ++ t) e; is_end = end_ops.4; no_name = no_name_at 10 _ _ e no_letters.3 }

abbrev pub marks_pipe : End → Bool
marks_pipe piped = true
marks_pipe and_then = false
marks_pipe or_else = false
marks_pipe marks.next = false
marks_pipe marks.line = false

abbrev pub marks_link : End → Bool
marks_link piped = false
marks_link and_then = true
marks_link or_else = true
marks_link marks.next = false
marks_link marks.line = false

-- any end
pub record AnyEnd (end : End) (owed t : Text) : Type 0 where
  pub op : Op
  pub rest : Text
  pub is : Ended op (ended end owed ++ t) rest
  pub no_pipe : (code op == code Pipe) ≡ marks_pipe end
  pub no_link : (code op == code AndIf || code op == code OrIf) ≡ marks_link end

pub any_end : (end : End) (owed t : Text) → AnyEnd end owed t
unfolding code
any_end piped owed t = record { op = Pipe; rest = marks.gap owed ++ t; is = piped_end owed t; no_pipe = refl; no_link = refl }
any_end and_then owed t = record { op = AndIf; rest = marks.gap owed ++ t; is = and_end owed t; no_pipe = refl; no_link = refl }
any_end or_else owed t = record { op = OrIf; rest = marks.gap owed ++ t; is = or_end owed t; no_pipe = refl; no_link = refl }
any_end marks.next [] t = record { op = Semi; rest = 32 ∷ t; is = semi_end t; no_pipe = refl; no_link = refl }
any_end marks.next (x ∷ xs) t = record { op = Newline; rest = (x ∷ xs) ++ t; is = next_end x xs t; no_pipe = refl; no_link = refl }
any_end marks.line owed t = record { op = Newline; rest = owed ++ t; is = line_end owed t; no_pipe = refl; no_link = refl }

-- ---- what doesn't begin there

pub end_redirect : (o : Op) (t rest : Text) → Ended o t rest → redirect_next t ≡ false
unfolding redirect_next here_next copy_next
end_redirect o t rest e =
    let k = e.token_is in
    rw (test_is o Io t rest k, test_is o Less t rest k, test_is o Great t rest k, test_is o DGreat t rest k, test_is o DLess t rest k, test_is o DLessDash t rest k, test_is o LessAnd t rest k, test_is o GreatAnd t rest k) e.is_end.no_redirect

pub end_word : (o : Op) (t rest : Text) → Ended o t rest → is_token Word t ≡ false
end_word o t rest e = test_is o Word t rest e.token_is ∙ e.is_end.no_word

pub end_open : (o : Op) (t rest : Text) → Ended o t rest → is_token Open t ≡ false
end_open o t rest e = test_is o Open t rest e.token_is ∙ e.is_end.no_open

pub end_assign : (o : Op) (t rest : Text) → Ended o t rest → assign_next t ≡ false
unfolding assign_next assign_at
end_assign o t rest e = rw e.no_name refl
