use Rattle.std.proofs.Common.{◌≡◌, ℕ, ◌<◌, ◌^◌, List, decimal, sym, subst, ap, ◌∙◌}
use Rattle.std.specs.Str.{IsUtf8}
use Rattle.std.proofs.lemmas.Bool.{false≢true}
use Rattle.std.proofs.lemmas.Fmt.{IsAscii-decimal, parse-decimal}
use Rattle.std.proofs.lemmas.Slice.Eq.{bytes_eq-Decides}
use Rattle.std.proofs.lemmas.Str.{IsUtf8-from_ascii}
use Rattle.name_codec.proofs.lists.number_of.Goals as goal

digits_are_text : (n : ℕ) (digits : List ℕ) → n < 2 ^ 64 → digits ≡ decimal n → IsUtf8 digits
digits_are_text n digits small e = let P : List ℕ → Type 0 = IsUtf8 in subst P (sym e) (IsUtf8-from_ascii (decimal n) (IsAscii-decimal n small))

pub returns-in_default : goal.returns-in_default
returns-in_default c n small e = c.in_default.ensures.cases.0 (digits_are_text n c.args.digits.now small e)

pub returns-in_default-parse : goal.returns-in_default-parse
returns-in_default-parse c n small e =
    let parsed = parse-decimal 64 n c.in-Ok.text.now c.parse.result small small (c.in-Ok.ensures.cases.0 ∙ e) c.parse.ensures.value.0 in
    cc

pub returns-else-eq : goal.returns-else-eq
returns-else-eq c n small e =
    let parsed = parse-decimal 64 n c.in-Ok.text.now c.parse.result small small (c.in-Ok.ensures.cases.0 ∙ e) c.parse.ensures.value.0 in
    let number : c.in-Ok-parse.number ≡ n = cc in
    let printed : c.as_bytes.result.now ≡ c.args.digits.now = c.as_bytes.ensures.value ∙ c.format.ensures.text ∙ ap decimal number ∙ sym e in
    false≢true (sym c.if-eq.false ∙ c.eq.ensures ∙ (bytes_eq-Decides c.as_bytes.result.now c.args.digits.now).1 printed)
