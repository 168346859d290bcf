-- The operands of an expression that is checked, by their numbers.
use Rattle.std.proofs.Common.{◌≡◌, ℕ, zero, suc, ◌+◌, ◌≤◌, ◌<◌, Bool, true, false, ◌&&◌, ◌==◌, List, [], ◌∷◌, length, get_or, refl, sym, ap, ◌∙◌, arith}
use Rattle.std.specs.Prelude.{map, Option, Some, None, if◌then◌else◌}
use Rattle.sh_printer.specs.SumChecks.{Check, operand_counts}
use Rattle.sh_printing.specs.Printable.{operand_checks, operand_fits}
use Rattle.sh_printing.specs.Spellable.{nth_check}
use Rattle.sh_syntax.specs.declared.tree.Part.{Part}
use Rattle.sh_syntax.specs.declared.tree.Word.{Word, out-Word}
use Rattle.sh_syntax.specs.View.{view_part, view_word, parts_of, words_of}
use Rattle.sh_syntax.proofs.Views.{word_is}

pub checks_length : (inside : Bool) (ws : List Word) → length (operand_checks inside (words_of (map view_word ws))) ≡ length ws
checks_length inside [] = refl
checks_length inside (w ∷ ws) = ap suc (checks_length inside ws)

-- there is no operand behind the last one
pub check_past : (inside : Bool) (ws : List Word) (k d : ℕ) → length ws ≤ k → nth_check (operand_checks inside (words_of (map view_word ws))) k d ≡ false
check_past inside [] k d le = refl
check_past inside (w ∷ ws) zero d le = absurd (omega arith)
check_past inside (w ∷ ws) (suc k) d le = check_past inside ws k d (omega arith)

pub check_at : (inside : Bool) (ws : List Word) (k d : ℕ) (w : Word) → k < length ws → w ≡ get_or ws k w → nth_check (operand_checks inside (words_of (map view_word ws))) k d ≡ operand_fits inside d (view_word w)
check_at inside [] k d w lt is = absurd (omega arith)
check_at inside (v ∷ ws) zero d w lt is = ap (λ (u : Word). operand_fits inside d (view_word u)) (sym is)
check_at inside (v ∷ ws) (suc k) d w lt is = check_at inside ws k d w (omega arith) is

abbrev nothing : Option ℕ
nothing = None

-- the parts of a word that was taken from a list
pub parts_at : (ws : List Word) (n : ℕ) (w : Word) (ps : List Part) → w ≡ get_or ws n w → ps ≡ (out-Word (get_or ws n w)).parts → view_word w ≡ parts_of (map view_part ps)
parts_at ws n w ps at is = word_is w ∙ ap (λ (v : Word). parts_of (map view_part (out-Word v).parts)) at ∙ ap (λ (l : List Part). parts_of (map view_part l)) (sym is)

-- another number than the next one
pub other_number : (check : Check) (k d n : ℕ) → (k == n) ≡ false → nothing ≡ operand_counts check k d n
other_number check k d n is = ap (λ (b : Bool). if b && check k d then Some (suc n) else None) (sym is)

counts_by : (same ok : Bool) (n : ℕ) → ok ≡ false → nothing ≡ (if same && ok then Some (suc n) else None)
counts_by true true n is = absurd (cc)
counts_by true false n is = refl
counts_by false ok n is = refl

pub unfit_operand : (check : Check) (k d n : ℕ) → check k d ≡ false → nothing ≡ operand_counts check k d n
unfit_operand check k d n is = counts_by (k == n) (check k d) n is

pub next_operand : (check : Check) (k d n : ℕ) → (k == n) ≡ true → k ≡ n → check k d ≡ true → Some (k + 1) ≡ operand_counts check k d n
next_operand check k d n same is ok =
    let one : k + 1 ≡ suc n = omega (arith, is) in
    ap (λ (i : ℕ). Some i) one ∙ ap (λ (b : Bool). if b then Some (suc n) else nothing) (sym (ap (λ (b : Bool). b && check k d) same ∙ ok))
