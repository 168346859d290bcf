-- A node that was made, seen as plain data.
use Rattle.std.proofs.Common.{◌≡◌, ℕ, List, [], ◌∷◌, ◌++◌, false, eqb, length, Some, refl, ◌∙◌, ap}
use Rattle.std.specs.Prelude.{map}
use Rattle.bash_tree.specs.declared.tree.Part.{Part}
use Rattle.bash_tree.specs.declared.tree.PartKind.TheVariants.{Plain, Exact, Double, Param}
use Rattle.bash_tree.specs.declared.tree.Param.{Param as Parameter}
use Rattle.bash_tree.specs.declared.tree.ParamOp.{ParamOp}
use Rattle.bash_tree.specs.Shape as shape
use Rattle.bash_tree.specs.declared.tree.Word.{Word}
use Rattle.bash_tree.specs.View.{view_part, view_kind, parts_of, name_of_param, view_word, words_of}
use Rattle.bash2sh.specs.Model.{words_from, named}
use Rattle.bash2sh.specs.Views.{words_seen}
use Rattle.bash_tree.proofs.Views.{part_is, plain_is, exact_is, double_is, param_is}

pub plain_seen : (p : Part) (t : List ℕ) → p.kind ≡ Plain t → view_part p ≡ shape.plain t
plain_seen p t e = part_is p ∙ ap view_kind e ∙ plain_is t

pub exact_seen : (p : Part) (t : List ℕ) → p.kind ≡ Exact t → view_part p ≡ shape.exact t
exact_seen p t e = part_is p ∙ ap view_kind e ∙ exact_is t

pub double_seen : (p : Part) (ps : List Part) → p.kind ≡ Double ps → view_part p ≡ shape.double (parts_of (map view_part ps))
double_seen p ps e = part_is p ∙ ap view_kind e ∙ double_is ps

pub param_seen : (p : Part) (q : Parameter) (o : ParamOp) → p.kind ≡ Param q o → view_part p ≡ shape.param (name_of_param q)
param_seen p q o e = part_is p ∙ ap view_kind e ∙ param_is q o

pub map_more : {X Y : Type 0} (f : X → Y) (xs : List X) (x : X) → map f (xs ++ x ∷ []) ≡ map f xs ++ f x ∷ []
map_more f [] x = refl
map_more {X} {Y} f (y ∷ ys) x = ap (λ (l : List Y). f y ∷ l) (map_more f ys x)

words_are : (ws : List Word) → words_from (words_seen ws) ≡ words_of ws
words_are [] = refl
words_are (w ∷ ws) = ap (λ (x : shape.Words). shape.word (view_word w) x) (words_are ws)

-- the command of some words
pub words_named : (ws : List Word) → eqb (length ws) 0 ≡ false → named (words_seen ws) ≡ Some (shape.simple shape.no_assign (words_of ws))
words_named [] e = absurd cc
words_named (w ∷ ws) e = ap (λ (x : shape.Words). Some (shape.simple shape.no_assign x)) (words_are (w ∷ ws))
