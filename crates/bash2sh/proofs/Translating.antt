-- A script that was read and lowered is translated.
use Rattle.std.proofs.Common.{◌≡◌, true, List, ℕ, ap, subst, ◌∙◌, length, suc, ◌+◌, ◌*◌, ◌^◌, ◌≤◌, ◌<◌, Bool, false, [], ◌∷◌, ◌++◌, refl, arith}
use Rattle.std.specs.List.{slice_split, onto_first}
use Rattle.std.proofs.lemmas.List.Splits.{slice_split-cons_yes, slice_split-cons_no}
use Rattle.span_text.specs.Scanning.{is_newline, is_blank}
use Rattle.span_text.proofs.Runs.{Run-length}
use Rattle.bash_tree.specs.Shape.{Script as BashScript}
use Rattle.sh_printing.specs.Printing.{printed}
use Rattle.sh_printing.proofs.BackScripts.{reads_back}
use Rattle.bash2sh.specs.Answers.{limit}
use Rattle.bash2sh.specs.Lower.{lower}
use Rattle.bash2sh.specs.Spelling.{Reads, IsFirstBad, total}
use Rattle.bash2sh.specs.Translation.{IsTranslated}
use Rattle.bash2sh.proofs.Meaning.{same_meaning}
use Rattle.bash2sh.proofs.Printable.{printable}
use Rattle.bash2sh.proofs.Sizes.{lines_size}
use Rattle.bash2sh.proofs.Spelled.{reads_taken}

-- ---- how many bytes the lines take

total_onto : (b n : ℕ) (ls : List (List ℕ)) → total ls ≡ suc n → total (onto_first b ls) ≡ suc (suc n)
total_onto b n [] e = absurd cc
total_onto b n (l ∷ ls) e = omega (arith, e)

split_yes : (b : ℕ) (bs : List ℕ) (ls : List (List ℕ)) → total ls ≡ suc (length bs) → total ([] ∷ ls) ≡ suc (suc (length bs))
split_yes b bs ls e = omega (arith, e)

split_by : (b : ℕ) (bs : List ℕ) (t : Bool) → is_newline b ≡ t → total (slice_split is_newline bs) ≡ suc (length bs) → total (slice_split is_newline (b ∷ bs)) ≡ suc (suc (length bs))
split_by b bs true e more = ap total (slice_split-cons_yes is_newline b bs e) ∙ split_yes b bs (slice_split is_newline bs) more
split_by b bs false e more = ap total (slice_split-cons_no is_newline b bs e) ∙ total_onto b (length bs) (slice_split is_newline bs) more

total_split : (text : List ℕ) → total (slice_split is_newline text) ≡ suc (length text)
total_split [] = refl
total_split (b ∷ bs) = split_by b bs (is_newline b) refl (total_split bs)

-- ---- what is written

-- spans speak of less than 2^32 bytes
is_short : (n m : ℕ) → n ≤ limit → m ≤ 4 * suc n → m < 2 ^ 32
is_short n m a b = omega (arith, a, b)

pub is_translated : (text : List ℕ) (s : BashScript) → length text ≤ limit → Reads text s → IsTranslated text (printed (lower s))
is_translated text s fits h =
    let taken = reads_taken text s h in
    let size : length (printed (lower s)) ≤ 4 * suc (length text) = subst (λ (n : ℕ). length (printed (lower s)) ≤ 4 * n) (total_split text) (lines_size (slice_split is_newline text) s h) in
    record {
      bash = s;
      spelled = h;
      sh = lower s;
      reads = reads_back (lower s) (printable s taken) (is_short (length text) (length (printed (lower s))) fits size);
      same = same_meaning s taken;
    }

-- ---- the place of a refusal lies in its text

total_behind : (ls ms : List (List ℕ)) → total (ls ++ ms) ≡ total ls + total ms
total_behind [] ms = omega arith
total_behind (l ∷ ls) ms = omega (arith, total_behind ls ms)

pub place_within : (text : List ℕ) (place : ℕ) → IsFirstBad text place → place ≤ length text
place_within text place f =
    let a = total_split text in
    let b : total (slice_split is_newline text) ≡ total (f.before ++ f.line ∷ f.behind) = ap total f.lines in
    let c = total_behind f.before (f.line ∷ f.behind) in
    let d = Run-length is_blank f.gap f.line f.first f.blanks in
    let e = f.place-is in
    omega (arith, a, b, c, d, e)
