-- Which words stand behind the redirections of a command.
use Rattle.std.proofs.Common.{◌≡◌, ◌≤◌, false, List, [], ◌∷◌, drop, length, refl, ap, arith}
use Rattle.std.specs.Prelude.{map}
use Rattle.sh_grammar.specs.Shape as shape
use Rattle.sh_syntax.specs.declared.tree.Assign.{Assign}
use Rattle.sh_syntax.specs.declared.tree.Part.{Part}
use Rattle.sh_syntax.specs.declared.tree.Word.{Word}
use Rattle.sh_printing.specs.Printing.{words_last}
use Rattle.sh_printing.specs.Spellable.{is_reserved_word}
use Rattle.sh_syntax.specs.View.{view_assign, view_part, view_word, assigns_of, parts_of, words_of}

more_parts : (p q : shape.Part) (ps : shape.Parts) → false ≡ is_reserved_word (shape.part p (shape.part q ps))
more_parts (shape.plain text) q ps = refl
more_parts (shape.exact text) q ps = refl
more_parts (shape.double inner) q ps = refl
more_parts shape.tilde q ps = refl
more_parts (shape.param name op) q ps = refl
more_parts (shape.subst s) q ps = refl
more_parts (shape.arith e ws) q ps = refl

-- a word of two parts is no reserved word
pub many_parts : (ps : List Part) → 2 ≤ length ps → false ≡ is_reserved_word (parts_of (map view_part ps))
many_parts [] le = absurd (omega arith)
many_parts (p ∷ []) le = absurd (omega arith)
many_parts (p ∷ q ∷ ps) le = more_parts (view_part p) (view_part q) (parts_of (map view_part ps))

pub first_word : (ws : List Word) (w : Word) → ws ≡ w ∷ drop 1 ws → words_last shape.no_assign (words_of (map view_word ws)) ≡ is_reserved_word (view_word w)
first_word ws w e = ap (λ (l : List Word). words_last shape.no_assign (words_of (map view_word l))) e

pub assigned_first : (as' : List Assign) (ws : shape.Words) → 1 ≤ length as' → false ≡ words_last (assigns_of (map view_assign as')) ws
assigned_first [] ws le = absurd (omega arith)
assigned_first (a ∷ as') ws le = refl
