-- The byte in front.
use Rattle.std.specs.Prelude.{ℕ, [], ◌∷◌}
use Rattle.sh_grammar.specs.Bytes.{Text}

-- the first byte, or NUL where there is none
abbrev pub front_byte : Text → ℕ
front_byte [] = 0
front_byte (b ∷ bs) = b
