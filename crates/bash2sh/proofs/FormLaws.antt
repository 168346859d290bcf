-- Tests and texts over the parts of the code's words.
use Rattle.std.proofs.Common.{◌≡◌, Bool, ◌&&◌, true, false, List, [], ◌∷◌, ◌++◌, refl, sym, ap, ◌∙◌, ℕ, suc, ◌≤◌, ◌<◌, length, get_or, drop, eqb, arith}
use Rattle.std.specs.Prelude.{map}
use Rattle.std.specs.List.{list_all, flat_map}
use Rattle.std.proofs.lemmas.List.Concat.{flat_map-cons}
use Rattle.std.proofs.lemmas.Bool.Decides.{nat_tests}
use Rattle.bash_tree.specs.declared.tree.Part.{Part}
use Rattle.bash_tree.specs.declared.tree.Word.{Word}
use Rattle.bash_tree.specs.Shape as shape
use Rattle.bash_tree.specs.declared.tree.Assign.{Assign}
use Rattle.bash_tree.specs.declared.tree.CommandKind.{CommandKind}
use Rattle.bash_tree.specs.declared.tree.CommandKind.TheVariants.{Simple}
use Rattle.bash_tree.specs.Shape.{simple, no_assign, no_word}
use Rattle.bash_tree.specs.View.{view_part, view_word, view_value, parts_of, words_of, assigns_of, command_of, assigns_in, words_in}
use Rattle.bash2sh.specs.Form.{parts_form, texts_of, word_form, words_form, name_form, is_free_name, value_form, command_form}

pub forms_are : (f : shape.Part → Bool) (ps : List Part) → parts_form f (parts_of (map view_part ps)) ≡ list_all (λ p. f (view_part p)) ps
forms_are f [] = refl
forms_are f (p ∷ ps) = ap (λ b. f (view_part p) && b) (forms_are f ps)

pub texts_are : (f : shape.Part → List ℕ) (ps : List Part) → texts_of f (parts_of (map view_part ps)) ≡ flat_map (λ p. f (view_part p)) ps
texts_are f [] = refl
texts_are f (p ∷ ps) = ap (λ (l : List ℕ). f (view_part p) ++ l) (texts_are f ps) ∙ sym (flat_map-cons (λ (q : Part). f (view_part q)) p ps)

pub words_are : (ws : List Word) → words_form (words_of ws) ≡ list_all (λ w. word_form (view_word w)) ws
words_are [] = refl
words_are (w ∷ ws) = ap (λ b. word_form (view_word w) && b) (words_are ws)

pub kind_is : (k : CommandKind) → command_of k ≡ simple (assigns_of (assigns_in k)) (words_of (words_in k))
kind_is (Simple as' ws) = refl

-- words: the name and the arguments
pub call_is : (ws : List Word) (w : Word) → 1 ≤ length ws → w ≡ get_or ws 0 w → command_form (simple no_assign (words_of ws)) ≡ (name_form (view_word w) && list_all (λ v. word_form (view_word v)) (drop 1 ws))
call_is [] w lt is = absurd (omega arith)
call_is (x ∷ xs) w lt is = ap (λ b. name_form (view_word x) && b) (words_are xs) ∙ ap (λ (y : Word). name_form (view_word y) && list_all (λ v. word_form (view_word v)) xs) (sym is)

pub assign_is : (as' : List Assign) (a : Assign) → length as' ≡ 1 → a ≡ get_or as' 0 a → command_form (simple (assigns_of as') no_word) ≡ (is_free_name a.name.text && value_form (view_value a.value))
assign_is [] a e is = absurd (omega arith)
assign_is (x ∷ []) a e is = ap (λ (y : Assign). is_free_name y.name.text && value_form (view_value y.value)) (sym is)
assign_is (x ∷ y ∷ ys) a e is = absurd (omega arith)

not_nothing : (n : ℕ) → eqb (suc n) 0 ≡ false
not_nothing n = grind (arith, nat_tests)

not_one : (n : ℕ) → eqb (suc (suc n)) 1 ≡ false
not_one n = grind (arith, nat_tests)

-- several assignments
pub assigns_other : (as' : List Assign) → 0 < length as' → (length as' ≡ 1 → ⊥) → eqb (length as') 1 ≡ command_form (simple (assigns_of as') no_word)
assigns_other [] lt other = absurd (omega arith)
assigns_other (x ∷ []) lt other = absurd (other refl)
assigns_other (x ∷ y ∷ ys) lt other = not_one (length ys)

-- nothing is assigned
pub no_assigns : (k : CommandKind) → eqb (length (assigns_in k)) 0 ≡ true → command_form (command_of k) ≡ command_form (simple no_assign (words_of (words_in k)))
no_assigns (Simple [] ws) e = refl
no_assigns (Simple (a ∷ as') ws) e = let n = not_nothing (length as') in absurd cc

-- something is
pub some_assigns : (k : CommandKind) → eqb (length (assigns_in k)) 0 ≡ false → command_form (command_of k) ≡ (eqb (length (words_in k)) 0 && command_form (simple (assigns_of (assigns_in k)) no_word))
some_assigns (Simple [] ws) e = absurd cc
some_assigns (Simple (a ∷ as') []) e = refl
some_assigns (Simple (a ∷ []) (w ∷ ws)) e = rw (not_nothing (length ws)) refl
some_assigns (Simple (a ∷ b ∷ as') (w ∷ ws)) e = rw (not_nothing (length ws)) refl
