-- Parts by what they begin and end with.
use Rattle.std.specs.Prelude.{ℕ, Bool, false}
use Rattle.sh_grammar.specs.Shape as shape
use Rattle.sh_printing.specs.Spellable.{begins_with, ends_with}

-- the part begins with this byte, which stands for itself
abbrev pub part_begins : ℕ → shape.Part → Bool
part_begins k (shape.plain text) = begins_with k text
part_begins k (shape.exact text) = false
part_begins k (shape.double ps) = false
part_begins k shape.tilde = false
part_begins k (shape.param p o) = false
part_begins k (shape.subst s) = false
part_begins k (shape.arith e ws) = false

-- the part ends with a newline, which stands for itself
abbrev pub part_ends : shape.Part → Bool
part_ends (shape.plain text) = ends_with 10 text
part_ends (shape.exact text) = false
part_ends (shape.double ps) = false
part_ends shape.tilde = false
part_ends (shape.param p o) = false
part_ends (shape.subst s) = false
part_ends (shape.arith e ws) = false
