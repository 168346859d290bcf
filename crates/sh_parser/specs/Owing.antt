-- Here-documents that are owed, and what a byte of a body does, as the grammar says it.
use Rattle.std.specs.Prelude.{ℕ, Bool, true, false, ◌&&◌, not, ◌==◌, if◌then◌else◌, ◌∷◌, ◌++◌, Option, Some, None}
use Rattle.sh_grammar.specs.Bytes.{Text, clear, is_join}
use Rattle.sh_grammar.specs.Expansions.{◌>>=◌}
use Rattle.sh_grammar.specs.Bodies as bodies
use Rattle.sh_grammar.specs.Bodies.{body_from, with_byte, join_of, is_start, behind_byte, line_start, within, kept_byte}
use Rattle.sh_parser.specs.declared.bodies.Owed.{Owed}
use Rattle.sh_parser.specs.declared.bodies.Place.{Place}
use Rattle.sh_parser.specs.declared.bodies.Place.TheVariants as places
use Rattle.sh_parser.specs.declared.bodies.Turn.{Turn}
use Rattle.sh_parser.specs.declared.bodies.Turn.TheVariants.{Keeps, Drops, Joins, Fails}

abbrev pub owed_of : Owed → bodies.Owed
owed_of o = record { delimiter = o.delimiter; literal = o.literal; strips = o.strips }

abbrev pub place_of : Place → bodies.Place
place_of places.Start = line_start
place_of places.Within = within
place_of places.Kept = kept_byte

-- what the reading gives behind a byte at this place
abbrev pub continued : bodies.Owed → Place → Turn → ℕ → Text → Option (Text × Text)
continued o p (Keeps q) b bs = with_byte b (body_from o (place_of q) bs)
continued o p Drops b bs = body_from o (place_of p) bs
continued o p Joins b bs = body_from o (place_of p) (clear (b ∷ bs))
continued o p Fails b bs = None

-- a byte that no line of the delimiter begins with
abbrev pub plain_from : bodies.Owed → bodies.Place → ℕ → Text → Option (Text × Text)
plain_from o p b bs = if b == 0 then None
    else (if not o.literal && is_join b bs then body_from o (join_of p) bs
    else (if o.strips && is_start p && b == 9 then body_from o p bs
    else with_byte b (body_from o (behind_byte o.literal b) bs)))

abbrev pub is_kept : Place → Bool
is_kept places.Start = false
is_kept places.Within = false
is_kept places.Kept = true

abbrev pub is_joins : Turn → Bool
is_joins (Keeps q) = false
is_joins Drops = false
is_joins Joins = true
is_joins Fails = false

-- behind what was read before
abbrev pub joined_to : Text → Option (Text × Text) → Option (Text × Text)
joined_to text x = x >>= λ y. Some (text ++ y.0, y.1)
