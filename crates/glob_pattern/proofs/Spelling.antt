-- Comparing signs with bytes.
use Rattle.std.proofs.Common.{◌≡◌, ℕ, ◌<◌, ◌≤◌, Bool, false, List, [], ◌∷◌, length, drop, refl, sym, ◌∙◌, arith}
use Rattle.std.specs.Prelude.{◌==◌}
use Rattle.std.proofs.lemmas.Bool.Decides.{nat_tests}
use Rattle.std.proofs.lemmas.List.{drop_more, drop_all}
use Rattle.glob_pattern.specs.declared.sign.Sign.{Sign}
use Rattle.glob_pattern.specs.Brackets.{spells}

pub spells_short : (rest : List Sign) (name : List ℕ) (i : ℕ) (whole : Bool) → length rest < 1 → i < length name → spells rest (drop i name) ≡ whole → false ≡ whole
spells_short [] name i whole l h before =
    let d = drop_more name i 0 h in
    let one : spells [] (drop i name) ≡ false = rw d refl in
    sym one ∙ before
spells_short (sign ∷ rest) name i whole l h before = absurd (omega arith)

empty_spells : (rest : List Sign) → (length rest == 0) ≡ spells rest []
empty_spells [] = refl
empty_spells (sign ∷ rest) = grind (arith, nat_tests)

pub spells_end : (rest : List Sign) (name : List ℕ) (i : ℕ) (whole : Bool) → length name ≤ i → spells rest (drop i name) ≡ whole → (length rest == 0) ≡ whole
spells_end rest name i whole h before =
    let d = drop_all i name h in
    let one : spells rest (drop i name) ≡ spells rest [] = rw d refl in
    empty_spells rest ∙ sym one ∙ before
