-- What this crate needs of the definitions of names.
use Rattle.std.proofs.Common.{◌≡◌, ℕ, Bool, true, List, ◌++◌, refl, IsTrue, codes}
use Rattle.std.specs.Prelude.{◌||◌, ◌&&◌, ◌==◌, nat_le}
use Rattle.std.specs.List.{list_all}
use Rattle.span_text.specs.Names.{begins_name, continues_name, is_name, is_reserved}

-- a letter, `_` or a digit
abbrev pub follows : ℕ → Bool
follows b = (b == 95 || (nat_le 97 b && nat_le b 122) || (nat_le 65 b && nat_le b 90)) || (nat_le 48 b && nat_le b 57)

-- such bytes make a name of the prefix
pub prefix_names : (rest : List ℕ) → list_all follows rest ≡ true → IsTrue (is_name (codes "__bs_" ++ rest))
unfolding begins_name continues_name
prefix_names rest e = e

pub prefix_reserves : (rest : List ℕ) → IsTrue (is_reserved (codes "__bs_" ++ rest))
prefix_reserves rest = refl
