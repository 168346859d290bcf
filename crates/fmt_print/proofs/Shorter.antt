-- What is read of a text leaves no more than the text.
use Rattle.std.proofs.Common.{◌≡◌, ℕ, suc, ◌+◌, ◌-◌, ◌*◌, ◌<◌, ◌≤◌, cond, leb, ltb, eqb, ◌||◌, List, [], ◌∷◌, length, Option, None, Some, subst, arith, IfSome}
use Rattle.std.specs.Option.{option_map, option_map_or, option_and_then}
use Rattle.std.proofs.lemmas.Bool.{cond_both}
use Rattle.fmt_print.specs.Escapes.{is_octal, more_octal, octal_byte, letter_escape, byte_unit, argument_escape, more_hex, hex_unit, is_refused, echo_escape, escape_in, unit_at}
use Rattle.fmt_print.specs.Pieces.{is_flag, with_flag, no_flags, flags_from, size_from, precision_at, kind_of, takes, field_of, letter_at, behind_width, behind_flags, conversion_at, percent_at, escape_at, piece_at}
use Rattle.fmt_print.specs.Constants.{is_digit, digit_of}
use Rattle.fmt_print.specs.declared.escapes.Dialect.{Dialect}
use Rattle.fmt_print.specs.declared.escapes.Dialect.TheVariants.{Printf, Echo}
use Rattle.fmt_print.specs.declared.escapes.Unit.{Unit as Item}
use Rattle.fmt_print.specs.declared.escapes.Unit.TheVariants.{Byte}
use Rattle.fmt_print.specs.declared.pieces.Flags.{Flags}
use Rattle.fmt_print.specs.declared.pieces.Kind.{Kind}
use Rattle.fmt_print.specs.declared.pieces.Piece.{Piece}
use Rattle.fmt_print.specs.declared.pieces.Piece.TheVariants as piece
use Rattle.fmt_print.proofs.Folds.{Shrinks}

-- what is left has n bytes at most
abbrev Leaves : {X : Type 0} → ℕ → Option (X × List ℕ) → Type 0
Leaves n front = IfSome front (λ f. length f.1 ≤ n)

weaker : {X : Type 0} (m n : ℕ) (front : Option (X × List ℕ)) → m ≤ n → Leaves m front → Leaves n front
weaker m n None le h = tt
weaker m n (Some front) le h = omega arith

mapped : {X Y : Type 0} (n : ℕ) (f : X × List ℕ → Y × List ℕ) → ((x : X × List ℕ) → length (f x).1 ≤ length x.1) → (front : Option (X × List ℕ)) → Leaves n front → Leaves n (option_map f front)
mapped n f same None h = tt
mapped n f same (Some front) h = let le = same front in omega arith

chained : {X Y : Type 0} (n : ℕ) (f : X × List ℕ → Option (Y × List ℕ)) → ((x : X × List ℕ) → Leaves (length x.1) (f x)) → (front : Option (X × List ℕ)) → Leaves n front → Leaves n (option_and_then f front)
chained n f same None h = tt
chained n f same (Some front) h = weaker (length front.1) n (f front) h (same front)

octal_leaves : (value : ℕ) (text : List ℕ) → length (more_octal value text).1 ≤ length text
octal_leaves value [] = omega arith
octal_leaves value (b ∷ bs) = cond_both {A = ℕ × List ℕ} (is_octal b) (8 * value + (b - 48), bs) (value, b ∷ bs) (λ f. length f.1 ≤ length (b ∷ bs)) (λ _. omega arith) (λ _. omega arith)

octal_byte_leaves : (text : List ℕ) → Leaves (length text) (octal_byte text)
octal_byte_leaves text =
    let one = more_octal 0 text in
    let two = more_octal one.0 one.1 in
    let three = more_octal two.0 two.1 in
    let first = octal_leaves 0 text in
    let second = octal_leaves one.0 one.1 in
    let third = octal_leaves two.0 two.1 in
    let P : Option (ℕ × List ℕ) → Type 0 = λ o. Leaves (length text) o in
    cond_both (leb three.0 255) (Some three) None P (λ _. omega arith) (λ _. tt)

option_leaves : {X Y : Type 0} (n : ℕ) (f : X → Y) (rest : List ℕ) → length rest ≤ n → (o : Option X) → Leaves n (option_map (λ x. (f x, rest)) o)
option_leaves n f rest le None = tt
option_leaves n f rest le (Some x) = le

argument_escape_leaves : (text : List ℕ) → Leaves (length text) (argument_escape text)
argument_escape_leaves [] = tt
argument_escape_leaves (c ∷ bs) =
    let P : Option (Item × List ℕ) → Type 0 = λ o. Leaves (length (c ∷ bs)) o in
    cond_both (eqb c 48) _ _ P
    (λ _. weaker (length bs) (length (c ∷ bs)) (option_map byte_unit (octal_byte bs)) (omega arith) (mapped (length bs) byte_unit (λ x. omega arith) (octal_byte bs) (octal_byte_leaves bs)))
    (λ _. cond_both (eqb c 99) _ _ P (λ _. omega arith) (λ _. option_leaves (length (c ∷ bs)) (λ (b : ℕ). Byte b) bs (omega arith) (letter_escape c)))

hex_leaves : (value : ℕ) (text : List ℕ) → length (more_hex value text).1 ≤ length text
hex_leaves value [] = omega arith
hex_leaves value (c ∷ cs) =
    cond_both {A = ℕ × List ℕ} (ltb (digit_of c) 16) (16 * value + digit_of c, cs) (value, c ∷ cs) (λ f. length f.1 ≤ length (c ∷ cs)) (λ _. omega arith) (λ _. omega arith)

hex_unit_leaves : (text : List ℕ) → Leaves (length text) (hex_unit text)
hex_unit_leaves [] = tt
hex_unit_leaves (c ∷ cs) =
    let P : Option (Item × List ℕ) → Type 0 = λ o. Leaves (length (c ∷ cs)) o in
    let one = more_hex 0 (c ∷ cs) in
    let first = hex_leaves 0 (c ∷ cs) in
    let second = hex_leaves one.0 one.1 in
    cond_both (ltb (digit_of c) 16) _ _ P (λ _. omega arith) (λ _. tt)

stays_leaves : (c : ℕ) (bs : List ℕ) (byte : Option ℕ) → length (option_map_or {U = Item × List ℕ} (λ b. (Byte b, bs)) byte (Byte 92, c ∷ bs)).1 ≤ length (c ∷ bs)
stays_leaves c bs None = omega arith
stays_leaves c bs (Some byte) = omega arith

echo_escape_leaves : (text : List ℕ) → Leaves (length text) (echo_escape text)
echo_escape_leaves [] = omega arith
echo_escape_leaves (c ∷ bs) =
    let P : Option (Item × List ℕ) → Type 0 = λ o. Leaves (length (c ∷ bs)) o in
    cond_both (eqb c 48) _ _ P
    (λ _. weaker (length bs) (length (c ∷ bs)) (option_map byte_unit (octal_byte bs)) (omega arith) (mapped (length bs) byte_unit (λ x. omega arith) (octal_byte bs) (octal_byte_leaves bs)))
    (λ _. cond_both (eqb c 99) _ _ P (λ _. omega arith) (λ _.
    cond_both (eqb c 101 || eqb c 69) _ _ P (λ _. omega arith) (λ _.
    cond_both (eqb c 120) _ _ P (λ _. weaker (length bs) (length (c ∷ bs)) (hex_unit bs) (omega arith) (hex_unit_leaves bs)) (λ _.
    cond_both (is_refused c) _ _ P (λ _. tt) (λ _. stays_leaves c bs (letter_escape c))))))

escape_leaves_in : (dialect : Dialect) (text : List ℕ) → Leaves (length text) (escape_in dialect text)
escape_leaves_in Printf text = argument_escape_leaves text
escape_leaves_in Echo text = echo_escape_leaves text

unit_leaves : (dialect : Dialect) (b : ℕ) (bs : List ℕ) → Leaves (length bs) (unit_at dialect (b ∷ bs))
unit_leaves dialect b bs =
    let P : Option (Item × List ℕ) → Type 0 = λ o. Leaves (length bs) o in
    cond_both (eqb b 92) (escape_in dialect bs) (Some (Byte b, bs)) P (λ _. escape_leaves_in dialect bs) (λ _. omega arith)

less_from_leaves : {X : Type 0} (n : ℕ) (front : Option (X × List ℕ)) (x : X) (rest : List ℕ) → Leaves n front → front ≡ Some (x, rest) → length rest < suc n
less_from_leaves n None x rest h e = absurd cc
less_from_leaves n (Some front) x rest h e = let same : front.1 ≡ rest = cc in let P : List ℕ → Type 0 = λ r. length r < suc n in subst P same (omega arith)

unit_less : (dialect : Dialect) (text : List ℕ) (x : Item) (rest : List ℕ) → unit_at dialect text ≡ Some (x, rest) → length rest < length text
unit_less dialect [] x rest e = absurd cc
unit_less dialect (b ∷ bs) x rest e = less_from_leaves (length bs) (unit_at dialect (b ∷ bs)) x rest (unit_leaves dialect b bs) e

pub unit_shrinks : (dialect : Dialect) → Shrinks (unit_at dialect)
unit_shrinks dialect = record { less = unit_less dialect }

flags_leave : (flags : Flags) (text : List ℕ) → length (flags_from flags text).1 ≤ length text
flags_leave flags [] = omega arith
flags_leave flags (b ∷ bs) = cond_both {A = Flags × List ℕ} (is_flag b) (flags_from (with_flag flags b) bs) (flags, b ∷ bs) (λ f. length f.1 ≤ length (b ∷ bs)) (λ _. let later = flags_leave (with_flag flags b) bs in omega arith) (λ _. omega arith)

size_leaves : (value : ℕ) (text : List ℕ) → Leaves (length text) (size_from value text)
size_leaves value [] = omega arith
size_leaves value (b ∷ bs) =
    let P : Option (ℕ × List ℕ) → Type 0 = λ o. Leaves (length (b ∷ bs)) o in
    let more = 10 * value + (b - 48) in
    cond_both (is_digit b) (cond (leb more 9999) (size_from more bs) None) (Some (value, b ∷ bs)) P
    (λ _. cond_both (leb more 9999) (size_from more bs) None P (λ _. weaker (length bs) (length (b ∷ bs)) (size_from more bs) (omega arith) (size_leaves more bs)) (λ _. tt))
    (λ _. omega arith)

precision_leaves : (text : List ℕ) → Leaves (length text) (precision_at text)
precision_leaves [] = omega arith
precision_leaves (b ∷ bs) =
    let P : Option (Option ℕ × List ℕ) → Type 0 = λ o. Leaves (length (b ∷ bs)) o in
    let f : ℕ × List ℕ → Option ℕ × List ℕ = λ front. (Some front.0, front.1) in
    cond_both (eqb b 46) (option_map f (size_from 0 bs)) (Some (None, b ∷ bs)) P
    (λ _. weaker (length bs) (length (b ∷ bs)) (option_map f (size_from 0 bs)) (omega arith) (mapped (length bs) f (λ x. omega arith) (size_from 0 bs) (size_leaves 0 bs)))
    (λ _. omega arith)

field_leaves : (flags : Flags) (width : ℕ) (precision : Option ℕ) (rest : List ℕ) (kind : Option Kind) → Leaves (length rest) (option_and_then (field_of flags width precision rest) kind)
field_leaves flags width precision rest None = tt
field_leaves flags width precision rest (Some kind) =
    let P : Option (Piece × List ℕ) → Type 0 = λ o. Leaves (length rest) o in
    cond_both (takes kind flags) _ _ P (λ _. omega arith) (λ _. tt)

letter_leaves : (flags : Flags) (width : ℕ) (precision : Option ℕ) (text : List ℕ) → Leaves (length text) (letter_at flags width precision text)
letter_leaves flags width precision [] = tt
letter_leaves flags width precision (c ∷ bs) = weaker (length bs) (length (c ∷ bs)) (letter_at flags width precision (c ∷ bs)) (omega arith) (field_leaves flags width precision bs (kind_of c))

width_leaves : (flags : Flags) (width : ℕ) (text : List ℕ) → Leaves (length text) (behind_width flags width text)
width_leaves flags width text = chained (length text) (λ front. letter_at flags width front.0 front.1) (λ front. letter_leaves flags width front.0 front.1) (precision_at text) (precision_leaves text)

conversion_leaves : (text : List ℕ) → Leaves (length text) (conversion_at text)
conversion_leaves text =
    let front = flags_from no_flags text in
    weaker (length front.1) (length text) (behind_flags front.0 front.1) (flags_leave no_flags text) (chained (length front.1) (λ size. behind_width front.0 size.0 size.1) (λ size. width_leaves front.0 size.0 size.1) (size_from 0 front.1) (size_leaves 0 front.1))

percent_leaves : (text : List ℕ) → Leaves (length text) (percent_at text)
percent_leaves [] = tt
percent_leaves (c ∷ bs) =
    let P : Option (Piece × List ℕ) → Type 0 = λ o. Leaves (length (c ∷ bs)) o in
    cond_both (eqb c 37) _ _ P (λ _. omega arith) (λ _. cond_both (eqb c 98) _ _ P (λ _. omega arith) (λ _. conversion_leaves (c ∷ bs)))

escape_leaves : (text : List ℕ) → Leaves (length text) (escape_at text)
escape_leaves [] = tt
escape_leaves (c ∷ bs) =
    let P : Option (Piece × List ℕ) → Type 0 = λ o. Leaves (length (c ∷ bs)) o in
    let f : ℕ × List ℕ → Piece × List ℕ = λ front. (piece.Byte front.0, front.1) in
    cond_both (is_octal c) _ _ P (λ _. mapped (length (c ∷ bs)) f (λ x. omega arith) (octal_byte (c ∷ bs)) (octal_byte_leaves (c ∷ bs))) (λ _. option_leaves (length (c ∷ bs)) (λ (b : ℕ). piece.Byte b) bs (omega arith) (letter_escape c))

piece_leaves : (b : ℕ) (bs : List ℕ) → Leaves (length bs) (piece_at (b ∷ bs))
piece_leaves b bs =
    let P : Option (Piece × List ℕ) → Type 0 = λ o. Leaves (length bs) o in
    cond_both (eqb b 92) _ _ P (λ _. escape_leaves bs) (λ _. cond_both (eqb b 37) _ _ P (λ _. percent_leaves bs) (λ _. omega arith))

piece_less : (text : List ℕ) (x : Piece) (rest : List ℕ) → piece_at text ≡ Some (x, rest) → length rest < length text
piece_less [] x rest e = absurd cc
piece_less (b ∷ bs) x rest e = less_from_leaves (length bs) (piece_at (b ∷ bs)) x rest (piece_leaves b bs) e

pub piece_shrinks : Shrinks piece_at
piece_shrinks = record { less = piece_less }
