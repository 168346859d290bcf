-- Words and parts of the code's tree as lists.
use Rattle.std.proofs.Common.{◌≡◌, ℕ, zero, suc, List, [], ◌∷◌, length, drop, map, Bool, ◌&&◌, nat_le, refl, ap, ◌∙◌}
use Rattle.std.specs.List.{list_all}
use Rattle.sh_grammar.specs.Shape as shape
use Rattle.sh_syntax.specs.declared.tree.Part.{Part}
use Rattle.sh_syntax.specs.declared.tree.Word.{Word, out-Word}
use Rattle.sh_syntax.specs.View.{view_part, view_word, parts_of, words_of}
use Rattle.sh_syntax.proofs.Views.{word_is}
use Rattle.sh_meaning.specs.builtins.Forms.{list_of_parts, list_of_words}
use Rattle.sh_meaning.specs.builtins.Export.{begins_parts, is_export_operand, is_without_equals_inside, is_without_equals, is_export_name, fits_value, has_fit_value, is_fit_operand, are_operands}
use Rattle.sh_meaning.specs.builtins.Literals.{is_text, is_literal_part, is_literal, are_written}

pub parts_listed : (ps : List shape.Part) → list_of_parts (parts_of ps) ≡ ps
parts_listed [] = refl
parts_listed (p ∷ ps) = ap (λ qs. p ∷ qs) (parts_listed ps)

pub words_listed : (ws : List shape.Parts) → list_of_words (words_of ws) ≡ ws
words_listed [] = refl
words_listed (w ∷ ws) = ap (λ vs. w ∷ vs) (words_listed ws)

pub all_mapped : {X Y : Type 0} (f : X → Y) (p : Y → Bool) (xs : List X) → list_all p (map f xs) ≡ list_all (λ x. p (f x)) xs
all_mapped f p [] = refl
all_mapped f p (x ∷ xs) = ap (λ b. p (f x) && b) (all_mapped f p xs)

pub drop_mapped : {X Y : Type 0} (f : X → Y) (k : ℕ) (xs : List X) → drop k (map f xs) ≡ map f (drop k xs)
drop_mapped f zero xs = refl
drop_mapped f (suc k) [] = refl
drop_mapped f (suc k) (x ∷ xs) = drop_mapped f k xs

pub length_mapped : {X Y : Type 0} (f : X → Y) (xs : List X) → length (map f xs) ≡ length xs
length_mapped f [] = refl
length_mapped f (x ∷ xs) = ap suc (length_mapped f xs)

-- of parts that are seen
pub seen_parts : (p : shape.Part → Bool) (ps : List Part) → list_all p (list_of_parts (parts_of (map view_part ps))) ≡ list_all (λ q. p (view_part q)) ps
seen_parts p ps = ap (list_all p) (parts_listed (map view_part ps)) ∙ all_mapped view_part p ps

pub parts_inside : (ps : List Part) → list_all is_text (list_of_parts (parts_of (map view_part ps))) ≡ list_all (λ q. is_text (view_part q)) ps
parts_inside ps = seen_parts is_text ps

pub literal_word : (w : Word) → is_literal (view_word w) ≡ list_all (λ q. is_literal_part (view_part q)) (out-Word w).parts
unfolding is_literal
literal_word w = ap (λ v. list_all is_literal_part (list_of_parts v)) (word_is w) ∙ seen_parts is_literal_part (out-Word w).parts

-- behind the first k
pub seen_behind : (k : ℕ) (ws : List Word) → drop k (list_of_words (words_of (map view_word ws))) ≡ map view_word (drop k ws)
seen_behind k ws = ap (drop k) (words_listed (map view_word ws)) ∙ drop_mapped view_word k ws

pub written_words : (k n : ℕ) (ws : List Word) → are_written k n (words_of (map view_word ws)) ≡ (list_all (λ w. is_literal (view_word w)) (drop k ws) && nat_le n (length (drop k ws)))
unfolding are_written
written_words k n ws =
    ap (λ vs. list_all is_literal vs && nat_le n (length vs)) (seen_behind k ws)
    ∙ ap (λ b. b && nat_le n (length (map view_word (drop k ws)))) (all_mapped view_word is_literal (drop k ws))
    ∙ ap (λ m. list_all (λ w. is_literal (view_word w)) (drop k ws) && nat_le n m) (length_mapped view_word (drop k ws))

-- ---- operands of `export`

pub operand_word : (w : Word) → is_export_operand (view_word w) ≡ begins_parts (map view_part (out-Word w).parts)
unfolding is_export_operand
operand_word w = ap (λ v. begins_parts (list_of_parts v)) (word_is w) ∙ ap begins_parts (parts_listed (map view_part (out-Word w).parts))

pub equals_inside : (ps : List Part) → list_all is_without_equals_inside (list_of_parts (parts_of (map view_part ps))) ≡ list_all (λ q. is_without_equals_inside (view_part q)) ps
equals_inside ps = seen_parts is_without_equals_inside ps

pub name_word : (w : Word) → is_export_name (view_word w) ≡ (is_literal (view_word w) && list_all (λ q. is_without_equals (view_part q)) (out-Word w).parts)
unfolding is_export_name
name_word w = ap (λ v. is_literal (view_word w) && list_all is_without_equals (list_of_parts v)) (word_is w) ∙ ap (λ b. is_literal (view_word w) && b) (seen_parts is_without_equals (out-Word w).parts)

pub value_word : (w : Word) → has_fit_value (view_word w) ≡ list_all (λ q. fits_value (view_part q)) (out-Word w).parts
unfolding has_fit_value
value_word w = ap (λ v. list_all fits_value (list_of_parts v)) (word_is w) ∙ seen_parts fits_value (out-Word w).parts

pub operand_words : (n : ℕ) (ws : List Word) → are_operands n (words_of (map view_word ws)) ≡ (list_all (λ w. is_fit_operand (view_word w)) (drop 1 ws) && nat_le n (length (drop 1 ws)))
unfolding are_operands
operand_words n ws =
    ap (λ vs. list_all is_fit_operand vs && nat_le n (length vs)) (seen_behind 1 ws)
    ∙ ap (λ b. b && nat_le n (length (map view_word (drop 1 ws)))) (all_mapped view_word is_fit_operand (drop 1 ws))
    ∙ ap (λ m. list_all (λ w. is_fit_operand (view_word w)) (drop 1 ws) && nat_le n m) (length_mapped view_word (drop 1 ws))
