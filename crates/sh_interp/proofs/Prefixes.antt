-- What the names of a prefix had is kept in order, and seen the last first.
use Rattle.std.proofs.Common.{◌≡◌, List, [], ◌∷◌, ◌++◌, refl, sym, ap, ◌∙◌}
use Rattle.std.specs.Prelude.{Option, map, reverse}
use Rattle.std.proofs.lemmas.List.{map-append, reverse-append}
use Rattle.shell_world.specs.Texts.{Text}
use Rattle.sh_meaning.specs.declared.variable.Variable.{Variable}
use Rattle.sh_meaning.specs.Simple.{saved_names}

pub names_reversed : (before : List (Text × Option Variable)) → reverse (saved_names before) ≡ saved_names (reverse before)
names_reversed [] = refl
names_reversed (x ∷ before) =
    reverse-append (x.0 ∷ []) (saved_names before)
    ∙ ap (λ names. names ++ x.0 ∷ []) (names_reversed before)
    ∙ sym (map-append (λ y. y.0) (reverse before) (x ∷ []))
    ∙ ap saved_names (sym (reverse-append (x ∷ []) before))
