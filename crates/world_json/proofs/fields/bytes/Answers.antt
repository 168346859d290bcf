use Rattle.std.proofs.Common.{◌≡◌, Bool, true, false, ◌&&◌, [], ◌∷◌, ◌++◌, sym, ap, ap₂, ◌∙◌, refl}
use Rattle.std.specs.List.{list_all}
use Rattle.std.specs.Str.{chars, IsUtf8}
use Rattle.std.proofs.lemmas.Str.{encodes-chars}
use Rattle.std.proofs.lemmas.Slice.Eq.{bytes_eq-Decides}
use Rattle.span_text.specs.KnownNames.{same_text}
use Rattle.world_json.specs.Texts.{characters}
use Rattle.std.proofs.lemmas.Iterator.{YieldsList-from_chars}
use Rattle.std.proofs.lemmas.Iterator.Consumers.{YieldsList-turn, YieldsList-end}
use Rattle.std.proofs.lemmas.List.{map-id}
use Rattle.std.proofs.lemmas.List.Folds.{list_all_at, list_all-append}
use Rattle.shell_world.specs.Texts.{Text}
use Rattle.world_json.specs.declared.fault.Reason.TheVariants as reason
use Rattle.world_json.specs.Judging.{Good, Bad, bytes_of, stands_for_byte}
use Rattle.world_json.proofs.Judging.{refused_is}
use Rattle.world_json.proofs.fields.bytes.Goals as goal

all_stand : (text done : Text) → IsUtf8 text → done ≡ chars text → list_all stands_for_byte done ≡ true → bytes_of text ≡ Good done
all_stand text done utf8 e all =
    let whole : same_text (characters done) text ≡ true = (bytes_eq-Decides (characters done) text).1 (ap characters e ∙ encodes-chars text utf8) in
    rw (sym e, all, whole) refl

one_fails : (text : Text) → list_all stands_for_byte (chars text) ≡ false → bytes_of text ≡ Bad [] reason.NotBytes
one_fails text e = rw e refl

both_true : (a b : Bool) → a ≡ true → b ≡ true → (a && b) ≡ true
both_true a b e f = rw (e, f) refl

pub returns-in_default : goal.returns-in_default
returns-in_default c =
    let turn = YieldsList-turn (YieldsList-from_chars c.args.text.now c.utf8.text cc) c.loop-character.yielded _ c.loop-character.yielded_by _ _ c.in-Some.character c.in-Some.is c.next.ensures.steps in
    let fails = ap stands_for_byte (sym turn.1) ∙ c.in_default.ensures in
    let bad = one_fails c.args.text.now (list_all_at stands_for_byte (chars c.args.text.now) _ c.in-Some.character turn.0 fails) in
    refused_is _ _ c.refused.result c.refused.ensures bad

pub loop-character-preserved : goal.loop-character-preserved
loop-character-preserved c =
    let more = list_all-append stands_for_byte c.loop-character.yielded (c.in-Some.character ∷ []) in
    let byte = c.in-Some-byte_of.ensures in (
      c.in_ok-push.ensures.items ∙ ap₂ (λ l b. l ++ b ∷ []) c.loop-character.invariant.0 byte.0,
      more ∙ both_true _ _ c.loop-character.invariant.1 (both_true _ _ byte.1 refl),
    )

pub returns : goal.returns
returns c =
    let all = YieldsList-end (YieldsList-from_chars c.args.text.now c.utf8.text cc) c.loop-character.yielded _ c.loop-character.yielded_by _ _ c.in-None.is c.next.ensures.steps in
    all_stand c.args.text.now c.loop-character.yielded c.utf8.text (sym (map-id c.loop-character.yielded) ∙ all.0) c.loop-character.invariant.1 ∙ ap Good (sym (c.from_vec.ensures ∙ c.loop-character.invariant.0))
