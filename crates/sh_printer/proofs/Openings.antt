-- Loops that look for a part that opens, or for a body.
use Rattle.std.proofs.Common.{◌≡◌, ℕ, ◌+◌, ◌<◌, Bool, true, false, not, ◌&&◌, List, ◌∷◌, drop, length, get_or, refl, sym, ap, ◌∙◌}
use Rattle.std.specs.Prelude.{map}
use Rattle.std.proofs.lemmas.List.{drop_more}
use Rattle.sh_syntax.specs.declared.tree.Part.{Part}
use Rattle.sh_syntax.specs.declared.tree.Redirect.{Redirect, out-Redirect}
use Rattle.sh_syntax.specs.declared.tree.Word.{Word, out-Word}
use Rattle.sh_printing.specs.Marks.{is_here}
use Rattle.sh_printer.specs.Owed.{has_here}
use Rattle.sh_printing.specs.Printing.{part_opens, parts_open, words_open}
use Rattle.sh_syntax.specs.View.{Aimed, view_operator, view_part, view_redirect, view_word, parts_of, words_of}
use Rattle.sh_syntax.proofs.Views.{redirect_is, word_is}

-- the items from this one on
pub drop_at : {X : Type 0} (xs : List X) (i : ℕ) (x : X) → i < length xs → x ≡ get_or xs i x → drop i xs ≡ x ∷ drop (i + 1) xs
drop_at {X} xs i x lt is = drop_more xs i x lt ∙ ap (λ (y : X). y ∷ drop (i + 1) xs) (sym is)

pub parts_stop : (ps : List Part) (i : ℕ) (p : Part) → i < length ps → p ≡ get_or ps i p → part_opens (view_part p) ≡ true → parts_open (parts_of (map view_part (drop i ps))) ≡ true
parts_stop ps i p lt is e = rw (drop_at ps i p lt is, e) refl

pub parts_more : (ps : List Part) (i : ℕ) (p : Part) → i < length ps → p ≡ get_or ps i p → part_opens (view_part p) ≡ false → parts_open (parts_of (map view_part (drop (i + 1) ps))) ≡ parts_open (parts_of (map view_part (drop i ps)))
parts_more ps i p lt is e = rw (drop_at ps i p lt is, e) refl

pub words_stop : (ws : List Word) (i : ℕ) (w : Word) → i < length ws → w ≡ get_or ws i w → parts_open (view_word w) ≡ true → words_open (words_of (map view_word (drop i ws))) ≡ true
words_stop ws i w lt is e = rw (drop_at ws i w lt is, e) refl

pub words_more : (ws : List Word) (i : ℕ) (w : Word) → i < length ws → w ≡ get_or ws i w → parts_open (view_word w) ≡ false → words_open (words_of (map view_word (drop (i + 1) ws))) ≡ words_open (words_of (map view_word (drop i ws)))
words_more ws i w lt is e = rw (drop_at ws i w lt is, e) refl

pub heres_stop : (rs : List Redirect) (i : ℕ) (r : Redirect) → i < length rs → r ≡ get_or rs i r → is_here (view_redirect r).op ≡ true → has_here (map view_redirect (drop i rs)) ≡ true
heres_stop rs i r lt is e = rw (drop_at rs i r lt is, e) refl

pub heres_more : (rs : List Redirect) (i : ℕ) (r : Redirect) → i < length rs → r ≡ get_or rs i r → is_here (view_redirect r).op ≡ false → has_here (map view_redirect (drop (i + 1) rs)) ≡ has_here (map view_redirect (drop i rs))
heres_more rs i r lt is e = rw (drop_at rs i r lt is, e) refl

pub here_op : (r : Redirect) → is_here (view_redirect r).op ≡ is_here (view_operator (out-Redirect r).op)
here_op r = ap (λ (a : Aimed). is_here a.op) (redirect_is r)

pub redirect_then : (r : Redirect) (here : Bool) → here ≡ is_here (view_operator (out-Redirect r).op) → here ≡ false → (not (is_here (view_redirect r).op) && parts_open (view_redirect r).word) ≡ parts_open (parts_of (map view_part (out-Word (out-Redirect r).word).parts))
redirect_then r here is e = rw (here_op r ∙ sym is ∙ e) (ap (λ (a : Aimed). parts_open a.word) (redirect_is r) ∙ ap parts_open (word_is (out-Redirect r).word))

pub redirect_else : (r : Redirect) (here : Bool) → here ≡ is_here (view_operator (out-Redirect r).op) → here ≡ true → (not (is_here (view_redirect r).op) && parts_open (view_redirect r).word) ≡ false
redirect_else r here is e = rw (here_op r ∙ sym is ∙ e) refl
