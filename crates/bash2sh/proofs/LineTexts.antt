-- The loop that makes the sh text of a script line by line.
use Rattle.std.proofs.Common.{◌≡◌, ℕ, suc, ◌+◌, ◌-◌, ◌≤◌, true, List, [], ◌∷◌, ◌++◌, length, Option, Some, None, Result, Ok, Err, refl, sym, ap, subst, ◌∙◌, append_assoc, arith, Bor}
use Rattle.std.proofs.lemmas.List.{append-nil, length-append}
use Rattle.std.proofs.lemmas.List.Folds.{length-prefix_len}
use Rattle.std.specs.List.{slice_split, prefix_len}
use Rattle.span_text.specs.Scanning.{is_newline, is_blank}
use Rattle.bash_tree.specs.Shape.{Command, alone}
use Rattle.sh_printing.specs.Marks as mark
use Rattle.sh_printing.specs.Printing.{chain_text}
use Rattle.bash2sh.specs.Answers.{limit}
use Rattle.bash2sh.specs.Lower.{lower_chain}
use Rattle.bash2sh.specs.Model.{◌>>◌, line_at, put, lines_at, script_from}
use Rattle.bash2sh.specs.Translation.{IsTranslated, IsRefused}
use Rattle.bash2sh.specs.Views.{Cut}
use Rattle.bash2sh.specs.LineTexts.{text_from, PutsLine, GivesText}
use Rattle.bash2sh.proofs.LineLaws.{lines_sound, is_refused, is_placed}
use Rattle.bash2sh.proofs.Rest.{same, regroup, by_first}
use Rattle.bash2sh.proofs.Translating.{is_translated}

-- ---- one text behind another

texts_behind : (cs ds : List Command) → text_from (cs ++ ds) ≡ text_from cs ++ text_from ds
texts_behind [] ds = refl
texts_behind (c ∷ cs) ds =
    ap (λ (t : List ℕ). chain_text true mark.line (lower_chain (alone c)) ++ t) (texts_behind cs ds) ∙ sym (append_assoc (chain_text true mark.line (lower_chain (alone c))) (text_from cs) (text_from ds))

-- ---- what the loop keeps

pub record Made (text rest written : List ℕ) : Type 0 where
  pub done : List Command
  pub is : written ≡ text_from done
  pub read : lines_at 0 (slice_split is_newline text) ≡ (lines_at (length text - length rest) (slice_split is_newline rest) >> λ cs. Ok (done ++ cs))
  pub fits : length rest ≤ length text

pub Made-start : (text : List ℕ) → Made text text []
Made-start text =
    let none : length text - length text ≡ 0 = omega arith in
    record { done = []; is = refl; read = rw none (same (lines_at 0 (slice_split is_newline text))); fits = omega arith }

put_behind : (done : List Command) (o : Option Command) (old new : List ℕ) → old ≡ text_from done → new ≡ old ++ text_from (put o []) → new ≡ text_from (done ++ put o [])
put_behind done o old new is p = p ∙ ap (λ (t : List ℕ). t ++ text_from (put o [])) is ∙ sym (texts_behind done (put o []))

step : (text rest line : List ℕ) (ls : List (List ℕ)) (written : List ℕ) (o : Option Command) (s : Made text rest written) → slice_split is_newline rest ≡ line ∷ ls → line_at line ≡ Some o → lines_at 0 (slice_split is_newline text) ≡ (lines_at (length text - length rest + length line + 1) ls >> λ cs. Ok ((s.done ++ put o []) ++ cs))
step text rest line ls written o s split e =
    s.read ∙ ap (λ (l : List (List ℕ)). lines_at (length text - length rest) l >> λ cs. Ok (s.done ++ cs)) split
    ∙ ap (λ (r : Result (List Command) ℕ). r >> λ cs. Ok (s.done ++ cs)) (by_first (length text - length rest) line ls (Some o) e)
    ∙ regroup s.done o (lines_at (length text - length rest + length line + 1) ls)

pub Made-more : (text rest line : List ℕ) (more : Bor (List ℕ)) (written new : List ℕ) (u : Unit {0}) → Cut rest line (Some more) → PutsLine (Ok u) (line_at line) written new → Made text rest written → Made text more.now new
Made-more text rest line more written new u cut p s =
    let fits = s.fits in
    let long : length rest ≡ length line + suc (length more.now) = ap length cut.0 ∙ length-append line (10 ∷ more.now) in
    let at : length text - length rest + length line + 1 ≡ length text - length more.now = omega arith in
    record {
      done = s.done ++ put p.0 [];
      is = put_behind s.done p.0 written new s.is p.2;
      read = step text rest line (slice_split is_newline more.now) written p.0 s cut.1 p.1 ∙ ap (λ (n : ℕ). lines_at n (slice_split is_newline more.now) >> λ cs. Ok ((s.done ++ put p.0 []) ++ cs)) at;
      fits = omega arith;
    }

pub Made-done : (text rest line : List ℕ) (written new : List ℕ) (u : Unit {0}) → Cut rest line None → PutsLine (Ok u) (line_at line) written new → Made text rest written → GivesText (Ok new) (lines_at 0 (slice_split is_newline text))
unfolding lines_at
Made-done text rest line written new u cut p s =
    (s.done ++ put p.0 [], step text rest line [] written p.0 s cut.1 p.1 ∙ ap (λ (d : List Command). Ok d) (append-nil (s.done ++ put p.0 [])), put_behind s.done p.0 written new s.is p.2)

bad_split : (text rest line : List ℕ) (ls : List (List ℕ)) (written : List ℕ) → slice_split is_newline rest ≡ line ∷ ls → line_at line ≡ None → Made text rest written → lines_at 0 (slice_split is_newline text) ≡ Err (length text - length rest + prefix_len is_blank line)
bad_split text rest line ls written split e s =
    s.read ∙ ap (λ (l : List (List ℕ)). lines_at (length text - length rest) l >> λ cs. Ok (s.done ++ cs)) split
    ∙ ap (λ (r : Result (List Command) ℕ). r >> λ cs. Ok (s.done ++ cs)) (by_first (length text - length rest) line ls None e)
    ∙ ap (λ (n : ℕ). Err (length text - length rest + n)) (length-prefix_len is_blank line)

pub Made-bad : (text rest line : List ℕ) (next : Option (Bor (List ℕ))) (written : List ℕ) → Cut rest line next → line_at line ≡ None → Made text rest written → lines_at 0 (slice_split is_newline text) ≡ Err (length text - length rest + prefix_len is_blank line)
Made-bad text rest line None written cut e s = bad_split text rest line [] written cut.1 e s
Made-bad text rest line (Some more) written cut e s = bad_split text rest line (slice_split is_newline more.now) written cut.1 e s

-- ---- what is made

pub text_translated : (text written : List ℕ) → length text ≤ limit → GivesText (Ok written) (lines_at 0 (slice_split is_newline text)) → IsTranslated text written
text_translated text written fits h =
    subst (λ (w : List ℕ). IsTranslated text w) (sym h.2) (is_translated text (script_from h.0) fits (lines_sound (slice_split is_newline text) 0 h.0 h.1))

pub text_refused : (text : List ℕ) (place : ℕ) → lines_at 0 (slice_split is_newline text) ≡ Err place → IsRefused text place
text_refused text place e = record { no_script = is_refused text place e; first = is_placed text place e }
