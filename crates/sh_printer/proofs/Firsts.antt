-- The first item of a list and those behind it, in texts and weights.
use Rattle.std.proofs.Common.{◌≡◌, ◌+◌, ◌<◌, ◌≤◌, Bool, true, false, List, [], ◌∷◌, ◌++◌, drop, length, get_or, refl, sym, ap, ◌∙◌, append_assoc, arith}
use Rattle.std.specs.Prelude.{map}
use Rattle.std.proofs.lemmas.List.{append-nil}
use Rattle.sh_syntax.specs.declared.tree.Assign.{Assign}
use Rattle.sh_syntax.specs.declared.tree.Part.{Part}
use Rattle.sh_syntax.specs.declared.tree.Redirect.{Redirect}
use Rattle.sh_syntax.specs.declared.tree.Word.{Word}
use Rattle.sh_grammar.specs.Bytes.{Text, Context, in_word}
use Rattle.sh_printing.specs.Marks.{blank, led, gap}
use Rattle.sh_printer.specs.Owed.{body_text, still_owed}
use Rattle.sh_printer.specs.Pieces.{owed_of, owed_weight}
use Rattle.sh_printing.specs.Printing.{part_text, parts_text, words_text, value_text, assigns_text, part_opens, behind_opening, continued}
use Rattle.sh_syntax.specs.View.{view_assign, view_part, view_redirect, view_word, parts_of, words_of, assigns_of}
use Rattle.sh_printer.specs.Weights.{part_weight, parts_weight, words_weight, value_weight, assigns_weight}

pub none : {X : Type 0} (xs : List X) → length xs < 1 → xs ≡ []
none [] lt = refl
none (x ∷ xs) lt = absurd (omega arith)

pub first : {X : Type 0} (xs : List X) (x : X) → 1 ≤ length xs → x ≡ get_or xs 0 x → xs ≡ x ∷ drop 1 xs
first [] x lt is = absurd (omega arith)
first (y ∷ ys) x lt is = ap (λ z. z ∷ ys) (sym is)

pub led_then : (behind : Bool) (text : Text) → led behind [] ++ text ≡ led behind text
led_then true text = refl
led_then false text = refl

pub words_first : (full behind : Bool) (ws : List Word) (w : Word) → ws ≡ w ∷ drop 1 ws → (led behind [] ++ parts_text full in_word blank (view_word w)) ++ words_text full true (words_of (map view_word (drop 1 ws))) ≡ words_text full behind (words_of (map view_word ws))
words_first full behind ws w e = ap (λ (t : Text). t ++ words_text full true (words_of (map view_word (drop 1 ws)))) (led_then behind (parts_text full in_word blank (view_word w))) ∙ sym (ap (λ (l : List Word). words_text full behind (words_of (map view_word l))) e)

pub words_weigh : (ws : List Word) (w : Word) → ws ≡ w ∷ drop 1 ws → words_weight (words_of (map view_word ws)) ≡ 20 + (parts_weight (view_word w) + words_weight (words_of (map view_word (drop 1 ws))))
words_weigh ws w e = ap (λ (l : List Word). words_weight (words_of (map view_word l))) e

pub assigns_first : (full behind : Bool) (as' : List Assign) (a : Assign) → as' ≡ a ∷ drop 1 as' → (led behind [] ++ (((view_assign a).0 ++ 61 ∷ []) ++ value_text full (view_assign a).1)) ++ assigns_text full true (assigns_of (map view_assign (drop 1 as'))) ≡ assigns_text full behind (assigns_of (map view_assign as'))
assigns_first full behind as' a e =
    ap (λ (t : Text). t ++ assigns_text full true (assigns_of (map view_assign (drop 1 as'))))
    (led_then behind (((view_assign a).0 ++ 61 ∷ []) ++ value_text full (view_assign a).1) ∙ ap (λ (t : Text). led behind t) (append_assoc (view_assign a).0 (61 ∷ []) (value_text full (view_assign a).1)))
    ∙ sym (ap (λ (l : List Assign). assigns_text full behind (assigns_of (map view_assign l))) e)

pub assigns_weigh : (as' : List Assign) (a : Assign) → as' ≡ a ∷ drop 1 as' → assigns_weight (assigns_of (map view_assign as')) ≡ 20 + (value_weight (view_assign a).1 + assigns_weight (assigns_of (map view_assign (drop 1 as'))))
assigns_weigh as' a e = ap (λ (l : List Assign). assigns_weight (assigns_of (map view_assign l))) e

-- what is owed behind a part
pub gap_behind_part : (full opens : Bool) (owed : List Redirect) → gap (owed_of full (still_owed opens owed)) ≡ behind_opening opens (gap (owed_of full owed))
gap_behind_part full true owed = refl
gap_behind_part full false owed = refl

pub still_less : (opens : Bool) (owed : List Redirect) → owed_weight (still_owed opens owed) ≤ owed_weight owed
still_less true owed = omega arith
still_less false owed = omega arith

pub parts_first : (full : Bool) (c : Context) (owed : List Redirect) (ps : List Part) (p : Part) → ps ≡ p ∷ drop 1 ps → (part_text full c (gap (owed_of full owed)) (continued (parts_of (map view_part (drop 1 ps)))) (view_part p) ++ []) ++ parts_text full c (gap (owed_of full (still_owed (part_opens (view_part p)) owed))) (parts_of (map view_part (drop 1 ps))) ≡ parts_text full c (gap (owed_of full owed)) (parts_of (map view_part ps))
parts_first full c owed ps p e = rw (append-nil (part_text full c (gap (owed_of full owed)) (continued (parts_of (map view_part (drop 1 ps)))) (view_part p)), gap_behind_part full (part_opens (view_part p)) owed) (sym (ap (λ (l : List Part). parts_text full c (gap (owed_of full owed)) (parts_of (map view_part l))) e))

pub parts_weigh : (ps : List Part) (p : Part) → ps ≡ p ∷ drop 1 ps → parts_weight (parts_of (map view_part ps)) ≡ 20 + (part_weight (view_part p) + parts_weight (parts_of (map view_part (drop 1 ps))))
parts_weigh ps p e = ap (λ (l : List Part). parts_weight (parts_of (map view_part l))) e

pub bodies_first : (full : Bool) (rs : List Redirect) (r : Redirect) → rs ≡ r ∷ drop 1 rs → (body_text full (view_redirect r) ++ []) ++ owed_of full (drop 1 rs) ≡ owed_of full rs
bodies_first full rs r e = rw (append-nil (body_text full (view_redirect r))) (sym (ap (λ (l : List Redirect). owed_of full l) e))

pub bodies_weigh : (rs : List Redirect) (r : Redirect) → rs ≡ r ∷ drop 1 rs → owed_weight rs ≡ 20 + (parts_weight (view_redirect r).word + owed_weight (drop 1 rs))
bodies_weigh rs r e = ap owed_weight e
