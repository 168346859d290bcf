-- Passes over the arguments.
use Rattle.std.proofs.Common.{◌≡◌, ℕ, suc, ◌+◌, ◌<◌, ◌≤◌, Bool, true, false, cond, List, [], ◌∷◌, ◌++◌, length, drop, Some, Result, Ok, Err, refl, sym, ap, ◌∙◌, arith, slice_get}
use Rattle.std.proofs.lemmas.List.{append_assoc, append-nil, drop_more}
use Rattle.std.proofs.lemmas.Option.{get_or_from_slice_get}
use Rattle.fmt_print.specs.Printing.{whole, shows, missing, fault_of, takes_argument, with_front, next, prints, repeated, after, Argument}
use Rattle.fmt_print.specs.declared.Printed.{Printed}
use Rattle.fmt_print.specs.declared.printing.Pass.{Pass}
use Rattle.fmt_print.specs.declared.fault.FmtFault.{FmtFault}
use Rattle.fmt_print.specs.declared.pieces.Piece.{Piece}

pub with_front-nil : (later : Result Printed FmtFault) → with_front [] later ≡ later
with_front-nil (Ok later) = refl
with_front-nil (Err fault) = refl

pub with_front-with_front : (a b : List ℕ) (later : Result Printed FmtFault) → with_front a (with_front b later) ≡ with_front (a ++ b) later
with_front-with_front a b (Ok later) = ap (λ t. Ok (record { text = t; cut = later.cut })) (sym (append_assoc a b later.text))
with_front-with_front a b (Err fault) = refl

-- what follows a piece that was shown
pub shown_goes : (arguments : List (List ℕ)) (old text : List ℕ) (cut : Bool) (used : ℕ) (fault : FmtFault) (later : List Piece) → with_front old (next fault (Some (record { text = text; cut = cut })) (prints later used (drop used arguments))) ≡ after arguments (old ++ text) (record { used = used; cut = cut }) later
shown_goes arguments old text true used fault later = refl
shown_goes arguments old text false used fault later = with_front-with_front old text (prints later used (drop used arguments))

takes_next : (piece : Piece) (later : List Piece) (k : ℕ) (argument : List ℕ) (arguments : List (List ℕ)) → takes_argument piece ≡ true → prints (piece ∷ later) k (argument ∷ arguments) ≡ next (fault_of piece k) (shows piece argument) (prints later (k + 1) arguments)
takes_next piece later k argument arguments takes =
    ap (λ b. cond b (next (fault_of piece k) (shows piece argument) (prints later (k + 1) arguments)) (next (fault_of piece k) (shows piece (missing piece)) (prints later k (argument ∷ arguments)))) takes

pub argument_taken : (piece : Piece) (arguments : List (List ℕ)) (k : ℕ) (argument : List ℕ) → takes_argument piece ≡ true → k < length arguments → slice_get arguments k ≡ Some argument → Argument piece arguments k argument (k + 1)
argument_taken piece arguments k argument takes within read later =
    let here : drop k arguments ≡ argument ∷ drop (k + 1) arguments = drop_more arguments k [] within ∙ ap (λ a. a ∷ drop (k + 1) arguments) (get_or_from_slice_get arguments k argument [] read) in
    ap (prints (piece ∷ later) k) here ∙ takes_next piece later k argument (drop (k + 1) arguments) takes

-- what was printed of a pass, and the pieces that are left of it
pub record Passes (arguments : List (List ℕ)) (old : List ℕ) (from : ℕ) (pieces : List Piece) (text : List ℕ) (used : ℕ) (left : List Piece) : Type 0 where
  pub bound : used ≤ length arguments
  pub goes : (later : List Piece) → with_front text (prints (left ++ later) used (drop used arguments)) ≡ with_front old (prints (pieces ++ later) from (drop from arguments))

-- what was printed of all passes, and how many are left
pub record Repeats (arguments : List (List ℕ)) (pieces : List Piece) (answer : Result Printed FmtFault) (text : List ℕ) (used left : ℕ) : Type 0 where
  pub bound : used ≤ length arguments
  pub goes : with_front text (prints (repeated left pieces) used (drop used arguments)) ≡ answer

pub repeats_none : (arguments : List (List ℕ)) (pieces : List Piece) (count : ℕ) → Repeats arguments pieces (prints (repeated count pieces) 0 arguments) [] 0 count
repeats_none arguments pieces count = record { bound = omega arith; goes = with_front-nil _ }

pub repeats_all : (arguments : List (List ℕ)) (pieces : List Piece) (answer : Result Printed FmtFault) (text : List ℕ) (used left : ℕ) → left ≡ 0 → Repeats arguments pieces answer text used left → answer ≡ Ok (whole text)
repeats_all arguments pieces answer text used left none h =
    sym h.goes ∙ ap (λ n. with_front text (prints (repeated n pieces) used (drop used arguments))) none ∙ ap (λ t. Ok (whole t)) (append-nil text)

pub repeats_on : (arguments : List (List ℕ)) (pieces : List Piece) (answer : Result Printed FmtFault) (text new : List ℕ) (used left then : ℕ) (pass : Pass) → left ≡ suc then → Repeats arguments pieces answer text used left → pass.cut ≡ false → pass.used ≤ length arguments → ((later : List Piece) → with_front text (prints (pieces ++ later) used (drop used arguments)) ≡ after arguments new pass later) → Repeats arguments pieces answer new pass.used then
repeats_on arguments pieces answer text new used left then pass more h on bound step = record {
  bound = bound;
  goes =
      ap (λ b. cond b (Ok (record { text = new; cut = true })) (with_front new (prints (repeated then pieces) pass.used (drop pass.used arguments)))) (sym on) ∙ sym (step (repeated then pieces)) ∙ ap (λ n. with_front text (prints (repeated n pieces) used (drop used arguments))) (sym more) ∙ h.goes;
}

pub repeats_cut : (arguments : List (List ℕ)) (pieces : List Piece) (answer : Result Printed FmtFault) (text new : List ℕ) (used left then : ℕ) (pass : Pass) → left ≡ suc then → Repeats arguments pieces answer text used left → pass.cut ≡ true → ((later : List Piece) → with_front text (prints (pieces ++ later) used (drop used arguments)) ≡ after arguments new pass later) → answer ≡ Ok (record { text = new; cut = true })
repeats_cut arguments pieces answer text new used left then pass more h cut step =
    sym h.goes ∙ ap (λ n. with_front text (prints (repeated n pieces) used (drop used arguments))) more ∙ step (repeated then pieces) ∙ ap (λ b. cond b (Ok (record { text = new; cut = true })) (with_front new (prints (repeated then pieces) pass.used (drop pass.used arguments)))) cut

pub repeats_fails : (arguments : List (List ℕ)) (pieces : List Piece) (answer : Result Printed FmtFault) (text : List ℕ) (used left then : ℕ) (fault : FmtFault) → left ≡ suc then → Repeats arguments pieces answer text used left → ((later : List Piece) → with_front text (prints (pieces ++ later) used (drop used arguments)) ≡ Err fault) → answer ≡ Err fault
repeats_fails arguments pieces answer text used left then fault more h fails =
    sym h.goes ∙ ap (λ n. with_front text (prints (repeated n pieces) used (drop used arguments))) more ∙ fails (repeated then pieces)
