-- Here-documents, their delimiters, and the texts that are printed of them, worked out.
use Rattle.std.proofs.Common.{◌≡◌, ℕ, suc, ◌+◌, ◌-◌, ◌^◌, true, false, ◌∷◌, None, refl, ap, ◌∙◌, arith}
use Rattle.std.specs.Prelude.{Bool, codes, if◌then◌else◌}
use Rattle.std.proofs.lemmas.Fmt.{decimal_digit}
use Rattle.sh_grammar.specs.Shape.{Script, plain, subst, no_part, part, Parts, no_word, word, no_assign, no_redirect, redirect, Redirects, write, here_expanded, here_literal, Command, command, Kind, simple, group, no_stage, stage, pipeline, no_link, chain, no_chain, next_chain}
use Rattle.sh_grammar.specs.Bytes.{Text}
use Rattle.sh_grammar.specs.Tokens.{key_text}
use Rattle.sh_printing.specs.Delimiters.{delimiter, numbered, free_from, has_line, sight, tries}
use Rattle.sh_printing.specs.Printing.{printed}

-- ---- delimiters

stops : (k n : ℕ) (t : Text) → has_line (numbered n) t ≡ false → free_from (suc k) n t ≡ n
unfolding free_from
stops k n t e = ap (λ (b : Bool). if b then free_from k (n + 1) t else n) e

goes_on : (k n : ℕ) (t : Text) → has_line (numbered n) t ≡ true → free_from (suc k) n t ≡ free_from k (n + 1) t
unfolding free_from
goes_on k n t e = ap (λ (b : Bool). if b then free_from k (n + 1) t else n) e

abbrev most : ℕ
most = 2 ^ 64 - 3

names : (numbered 0 ≡ codes "E0") × (numbered 1 ≡ codes "E1")
names = (ap (λ (z : Text). 69 ∷ z) (decimal_digit 0 (omega arith)), ap (λ (z : Text). 69 ∷ z) (decimal_digit 1 (omega arith)))

tries_are : tries ≡ suc (suc most)
tries_are = omega arith

-- `E0` where no line is it
first : (t : Text) → has_line (codes "E0") t ≡ false → delimiter t ≡ codes "E0"
unfolding delimiter
first t e = ap (λ (z : ℕ). numbered (free_from z 0 t)) tries_are ∙ ap numbered (stops (suc most) 0 t (ap (λ (z : Text). has_line z t) names.0 ∙ e)) ∙ names.0

-- `E1` behind it
second : (t : Text) → has_line (codes "E0") t ≡ true → has_line (codes "E1") t ≡ false → delimiter t ≡ codes "E1"
unfolding delimiter
second t e f =
    ap (λ (z : ℕ). numbered (free_from z 0 t)) tries_are ∙ ap numbered (goes_on (suc most) 0 t (ap (λ (z : Text). has_line z t) names.0 ∙ e) ∙ stops most 1 t (ap (λ (z : Text). has_line z t) names.1 ∙ f)) ∙ names.1

-- ---- texts

abbrev one : Command → Script
one c = next_chain (chain (pipeline false (stage c no_stage)) no_link) no_chain

abbrev w : Text → Parts
w text = part (plain text) no_part

abbrev calls : Text → Kind
calls name = simple no_assign (word (w name) no_word)

abbrev here : Parts → Redirects → Redirects
here body rs = redirect None here_expanded body rs

-- a here-document
lone : printed (one (command (calls (codes "a")) (here (w (codes "x\n")) no_redirect))) ≡ codes "a <<E0\nx\nE0\n"
unfolding key_text sight
lone = rw (first (codes "x\n") refl) refl

-- without expansion
quoted : printed (one (command (calls (codes "a")) (redirect None here_literal (w (codes "$x\n")) no_redirect))) ≡ codes "a <<'E0'\n$x\nE0\n"
unfolding key_text sight
quoted = rw (first (codes "$x\n") refl) refl

-- two of them, whose bodies come in their order
both : printed (one (command (calls (codes "a")) (here (w (codes "E0\n")) (here (w (codes "y\n")) no_redirect)))) ≡ codes "a <<E1 <<E0\nE0\nE1\ny\nE0\n"
unfolding key_text sight
both = rw (second (codes "E0\n") refl refl, first (codes "y\n") refl) refl

-- one in a body, whose delimiter the outer one can't have
abbrev inner : Parts
inner = part (subst (one (command (calls (codes "b")) (here (w (codes "x\n")) no_redirect)))) (w (codes "\n"))

nested : printed (one (command (calls (codes "a")) (here inner no_redirect))) ≡ codes "a <<E1\n$( b <<E0\nx\nE0\n)\nE1\n"
unfolding key_text sight
nested = rw (first (codes "x\n") refl) (rw (second (codes "$( b <<E0\nx\nE0\n)\n") refl refl) refl)

-- before a substitution, where the newline behind `$(` brings the body
abbrev listed : Parts
listed = part (subst (one (command (calls (codes "b")) no_redirect))) no_part

opened : printed (one (command (calls (codes "a")) (here (w (codes "x\n")) (redirect None write listed no_redirect)))) ≡ codes "a <<E0 >$(\nx\nE0\nb; )\n"
unfolding key_text sight
opened = rw (first (codes "x\n") refl) refl

-- before words that stand behind redirections
turned : printed (one (command (simple no_assign (word (w (codes "if")) (word listed no_word))) (here (w (codes "x\n")) no_redirect))) ≡ codes "<<E0 if $(\nx\nE0\nb; )\n"
unfolding key_text sight
turned = rw (first (codes "x\n") refl) refl

-- in a list, and before a pipeline's next command
piped : printed (one (command (group (next_chain (chain (pipeline false (stage (command (calls (codes "a")) (here (w (codes "x\n")) no_redirect)) (stage (command (calls (codes "b")) (here (w (codes "y\n")) no_redirect)) no_stage))) no_link) no_chain)) no_redirect))
    ≡ codes "{ a <<E0 |\nx\nE0\nb <<E0\ny\nE0\n}\n"
unfolding key_text sight
piped = rw (first (codes "x\n") refl, first (codes "y\n") refl) refl
