-- The bytes of a pattern with their places.
use Rattle.std.specs.Prelude.{ℕ, ◌+◌, Bool, true, false, ◌&&◌, ◌==◌, List, [], ◌∷◌}
use Rattle.span_text.specs.declared.flagged.Mark.{Mark}
use Rattle.span_text.specs.declared.flagged.Mark.TheVariants.{Written, Quoted, Value}
use Rattle.span_text.specs.declared.flagged.Item.{Item}
use Rattle.span_text.specs.declared.flagged.Item.TheVariants.{Byte, Quote}
use Rattle.glob_pattern.specs.declared.sign.Sign.{Sign}

-- the bytes of a text whose first item has this place; an empty quoted part has none
abbrev pub signs_from : ℕ → List Item → List Sign
signs_from at [] = []
signs_from at (Byte b mark ∷ items) = record { at = at; byte = b; mark = mark } ∷ signs_from (at + 1) items
signs_from at (Quote ∷ items) = signs_from (at + 1) items

abbrev pub is_bare : Mark → Bool
is_bare Written = true
is_bare Quoted = false
is_bare Value = true

-- whether a sign is this byte and isn't quoted
abbrev pub is_sign : ℕ → Sign → Bool
is_sign b sign = sign.byte == b && is_bare sign.mark

-- whether signs begin with this byte, unquoted
abbrev pub starts : ℕ → List Sign → Bool
starts b [] = false
starts b (sign ∷ signs) = is_sign b sign
