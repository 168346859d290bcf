-- Brackets: the Bash manual's "Pattern Matching", POSIX's "RE Bracket Expression" (XBD 9.3.5) with `!` beside `^`.
use Rattle.std.specs.Prelude.{ℕ, zero, suc, ◌+◌, ◌-◌, Bool, true, false, not, ◌||◌, ◌&&◌, ◌==◌, if◌then◌else◌, nat_lt, min, List, [], ◌∷◌, length, take, drop, Option, Some, None, codes}
use Rattle.std.specs.List.{prefix_len}
use Rattle.span_text.specs.declared.flagged.Mark.{Mark}
use Rattle.span_text.specs.declared.flagged.Mark.TheVariants.{Written, Quoted, Value}
use Rattle.glob_pattern.specs.declared.sign.Sign.{Sign}
use Rattle.glob_pattern.specs.declared.sign.Use.{Use}
use Rattle.glob_pattern.specs.declared.sign.Use.TheVariants as use_of
use Rattle.glob_pattern.specs.declared.class.Class.{Class}
use Rattle.glob_pattern.specs.declared.class.Class.TheVariants.{Alnum, Alpha, Blank, Cntrl, Digit, Graph, Lower, Print, Punct, Space, Upper, Xdigit}
use Rattle.glob_pattern.specs.declared.piece.Member.{Member}
use Rattle.glob_pattern.specs.declared.piece.Member.TheVariants.{One, Range, Named}
use Rattle.glob_pattern.specs.Signs.{is_bare, is_sign, starts}

-- Signs cut one part after the other: each part's length is what len gives for the signs from there on, and at tells
-- what stands there. The number counts signs that still belong to the part before.
abbrev pub parts : {X : Type 0} → (List Sign → ℕ) → (List Sign → X) → ℕ → List Sign → List X
parts len at k [] = []
parts len at zero (sign ∷ signs) = at (sign ∷ signs) ∷ parts len at (len (sign ∷ signs) - 1) signs
parts len at (suc k) (sign ∷ signs) = parts len at k signs

-- the lesser place, where there is one
abbrev pub lesser : Option ℕ → Option ℕ → Option ℕ
lesser None other = other
lesser (Some m) None = Some m
lesser (Some m) (Some n) = Some (min m n)

abbrev pub least_place : List (Option ℕ) → Option ℕ
least_place [] = None
least_place (place ∷ places) = lesser place (least_place places)

-- `[:` a name `:]`

-- A byte of a name, any but `:` and `]`: what Bash takes for a class isn't only what has a known name.
abbrev pub is_in_name : Sign → Bool
is_in_name sign = is_bare sign.mark && not (sign.byte == 58 || sign.byte == 93)

abbrev pub name_len : List Sign → ℕ
name_len signs = prefix_len is_in_name signs

-- the length of a class at the front, whose name has n bytes; 0 where there is none
abbrev pub class_len_by : ℕ → List Sign → ℕ
class_len_by n signs = if starts 91 signs && starts 58 (drop 1 signs) && not (n == 0) && starts 58 (drop (n + 2) signs) && starts 93 (drop (n + 3) signs)
    then n + 4 else 0

unfoldable pub class_len : List Sign → ℕ
class_len signs = class_len_by (name_len (drop 2 signs)) signs

-- the length of an element of a bracket: a class, or one byte
unfoldable pub element_len : List Sign → ℕ
element_len signs = if class_len signs == 0 then 1 else class_len signs

-- whether signs are these bytes
abbrev pub spells : List Sign → List ℕ → Bool
spells [] [] = true
spells [] (b ∷ bs) = false
spells (sign ∷ signs) [] = false
spells (sign ∷ signs) (b ∷ bs) = sign.byte == b && spells signs bs

abbrev pub later_class : List Sign → Option Class
later_class name = if spells name (codes "lower") then Some Lower
    else (if spells name (codes "print") then Some Print
    else (if spells name (codes "punct") then Some Punct
    else (if spells name (codes "space") then Some Space
    else (if spells name (codes "upper") then Some Upper
    else (if spells name (codes "xdigit") then Some Xdigit else None)))))

-- the class of this name
unfoldable pub class_named : List Sign → Option Class
class_named name = if spells name (codes "alnum") then Some Alnum
    else (if spells name (codes "alpha") then Some Alpha
    else (if spells name (codes "blank") then Some Blank
    else (if spells name (codes "cntrl") then Some Cntrl
    else (if spells name (codes "digit") then Some Digit
    else (if spells name (codes "graph") then Some Graph else later_class name)))))

-- the class at the front, where one is there and its name is known
unfoldable pub class_at : List Sign → Option Class
class_at signs = if class_len signs == 0 then None else class_named (take (class_len signs - 4) (drop 2 signs))

-- where a bracket ends

abbrev pub plus : ℕ → Option ℕ → Option ℕ
plus n None = None
plus n (Some m) = Some (n + m)

-- how many signs stand before the first `]` that is an element of its own, once this many are taken
abbrev pub close_len : ℕ → List Sign → Option ℕ
close_len k [] = None
close_len zero (sign ∷ signs) = if is_sign 93 sign then Some 0 else plus 1 (close_len (element_len (sign ∷ signs) - 1) signs)
close_len (suc k) (sign ∷ signs) = plus 1 (close_len k signs)

-- `!` or `^` behind the `[`
unfoldable pub mark_len : List Sign → ℕ
mark_len signs = if starts 33 signs || starts 94 signs then 1 else 0

-- how many signs the body of the bracket has that these signs begin with, where they do; a `]` first is a member
unfoldable pub body_len : List Sign → Option ℕ
body_len signs = if starts 91 signs
    then (let start = drop (mark_len (drop 1 signs) + 1) signs in close_len (if starts 93 start then 1 else 0) start)
    else None

-- a body that has this many signs
unfoldable pub body_of : ℕ → List Sign → List Sign
body_of n signs = take n (drop (mark_len (drop 1 signs) + 1) signs)

-- members of a body

-- whether an element's `-` and an end follow
unfoldable pub is_range : List Sign → Bool
is_range behind = starts 45 behind && not (length (drop 1 behind) == 0)

unfoldable pub member_len : List Sign → ℕ
member_len signs = if is_range (drop (element_len signs) signs)
    then element_len signs + 1 + element_len (drop (element_len signs + 1) signs)
    else element_len signs

abbrev pub byte_at : List Sign → ℕ
byte_at [] = 0
byte_at (sign ∷ signs) = sign.byte

abbrev pub member_by : Option Class → List Sign → Member
member_by None signs = One (byte_at signs)
member_by (Some class) signs = Named class

unfoldable pub member_at : List Sign → Member
member_at signs = if is_range (drop (element_len signs) signs)
    then Range (byte_at signs) (byte_at (drop (element_len signs + 1) signs))
    else member_by (class_at signs) signs

unfoldable pub members_of : List Sign → List Member
members_of body = parts member_len member_at 0 body

-- doubt

abbrev pub is_value : Mark → Bool
is_value Written = false
is_value Quoted = false
is_value Value = true

abbrev pub place_if : Bool → List Sign → Option ℕ
place_if doubt [] = None
place_if doubt (sign ∷ signs) = if doubt then Some sign.at else None

-- a backslash from an expansion
abbrev pub is_backslash : List Sign → Bool
is_backslash [] = false
is_backslash (sign ∷ signs) = sign.byte == 92 && is_value sign.mark

-- a `/`, where names of files are matched
abbrev pub is_slash : Use → List Sign → Bool
is_slash use_of.Text signs = false
is_slash use_of.Path signs = byte_at signs == 47 && not (length signs == 0)

abbrev pub is_none : Option Class → Bool
is_none None = true
is_none (Some class) = false

-- a class of no known name
abbrev pub is_unknown : List Sign → Bool
is_unknown signs = not (class_len signs == 0) && is_none (class_at signs)

-- `[.` or `[=`
abbrev pub is_collating : List Sign → Bool
is_collating signs = starts 91 signs && (starts 46 (drop 1 signs) || starts 61 (drop 1 signs))

-- whether the element at the front is doubtful
unfoldable pub is_doubtful : Use → List Sign → Bool
is_doubtful purpose signs = is_backslash signs || is_slash purpose signs || is_unknown signs || is_collating signs

-- whether a range from the one element to the other is: it has a class, or it ends below its start
unfoldable pub is_bad_range : List Sign → List Sign → Bool
is_bad_range from to = not (class_len from == 0) || not (class_len to == 0) || nat_lt (byte_at to) (byte_at from)

unfoldable pub range_doubt : Use → List Sign → List Sign → Option ℕ
range_doubt purpose from to = lesser (place_if (is_bad_range from to) from) (place_if (is_doubtful purpose to) to)

-- the least doubtful place in the member at the front
unfoldable pub member_doubt : Use → List Sign → Option ℕ
member_doubt purpose signs = lesser (place_if (is_doubtful purpose signs) signs)
    (if is_range (drop (element_len signs) signs) then range_doubt purpose signs (drop (element_len signs + 1) signs) else None)

unfoldable pub members_doubt : Use → List Sign → Option ℕ
members_doubt purpose body = least_place (parts member_len (member_doubt purpose) 0 body)
