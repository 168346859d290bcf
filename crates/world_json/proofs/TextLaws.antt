-- Texts are the characters of their bytes.
use Rattle.std.proofs.Common.{◌≡◌, ℕ, ltb, Bool, true, false, ◌&&◌, [], ◌∷◌, refl, sym, ap, ◌∙◌, arith}
use Rattle.std.proofs.Math.Utf8.{scalar, scalars}
use Rattle.std.proofs.lemmas.Bool.Decides.{nat_tests}
use Rattle.std.proofs.lemmas.Slice.Eq.{bytes_eq-Decides}
use Rattle.std.proofs.lemmas.Str.{chars-encodes}
use Rattle.std.specs.List.{list_all}
use Rattle.std.specs.Str.{chars}
use Rattle.span_text.specs.KnownNames.{same_text}
use Rattle.shell_world.specs.Texts.{Text}
use Rattle.world_json.specs.declared.fault.Reason.{Reason}
use Rattle.world_json.specs.declared.fault.Reason.TheVariants as reason
use Rattle.world_json.specs.Texts.{characters}
use Rattle.world_json.specs.Judging.{Good, tested, stands_for_byte, bytes_of, TextsAreCharacters}
use Rattle.world_json.proofs.GoodWorlds.{first_true, second_true}

good_passed : (b : Bool) (r : Reason) (x y : Text) → tested b r x ≡ Good y → (b ≡ true) × (x ≡ y)
good_passed true r x y e = (refl, cc)
good_passed false r x y e = cc

both_true : (a b : Bool) → a ≡ true → b ≡ true → (a && b) ≡ true
both_true a b e f = rw (e, f) refl

is_scalar : (b : ℕ) → stands_for_byte b ≡ true → scalar b ≡ true
is_scalar b e = let below : ltb b 55296 ≡ true = grind (arith, nat_tests) in rw below refl

are_scalars : (t : Text) → list_all stands_for_byte t ≡ true → scalars t ≡ true
are_scalars [] e = refl
are_scalars (b ∷ t) e = both_true (scalar b) (scalars t) (is_scalar b (first_true _ _ e)) (are_scalars t (second_true (stands_for_byte b) _ e))

read_back : (s t : Text) → (bytes_of s ≡ Good t) → (list_all stands_for_byte t ≡ true) × (characters t ≡ s)
read_back s t e =
    let h = good_passed (list_all stands_for_byte (chars s) && same_text (characters (chars s)) s) reason.NotBytes (chars s) t e in
    let whole = (bytes_eq-Decides (characters (chars s)) s).0 (second_true (list_all stands_for_byte (chars s)) _ h.0) in
    (ap (list_all stands_for_byte) (sym h.1) ∙ first_true _ _ h.0, ap characters (sym h.1) ∙ whole)

read_written : (s t : Text) → (list_all stands_for_byte t ≡ true) × (characters t ≡ s) → bytes_of s ≡ Good t
read_written s t h =
    let same : chars s ≡ t = ap chars (sym h.1) ∙ chars-encodes t (are_scalars t h.0) in
    let whole : same_text (characters t) s ≡ true = (bytes_eq-Decides (characters t) s).1 h.1 in
    rw (same, h.0, whole) refl

pub texts_are : TextsAreCharacters
texts_are s t = (read_back s t, read_written s t)
