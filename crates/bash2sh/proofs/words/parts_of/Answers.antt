use Rattle.std.proofs.Common.{◌≡◌, true, false}
use Rattle.std.proofs.lemmas.Result.{err_from_is_err_and}
use Rattle.span_text.specs.Scanning.{ends_word}
use Rattle.bash_tree.specs.View.{view_part}
use Rattle.bash2sh.specs.Model.{part_at, parts_at}
use Rattle.bash2sh.specs.Views.{parts_seen}
use Rattle.bash2sh.proofs.Loops.{part_takes}
use Rattle.bash2sh.proofs.Loops.{Items-more, Items-fails, Items-done, parts_many}
use Rattle.bash2sh.proofs.Views.{map_more}
use Rattle.bash2sh.proofs.words.parts_of.Goals as goal

pub returns-in_err-part : goal.returns-in_err-part
returns-in_err-part c =
    let p = err_from_is_err_and c.from_residual.result c.from_residual.ensures.1 in
    let e : ends_word c.parts.rest.now ≡ false = cc in
    rw (p.1, p.2) (Items-fails part_at ends_word parts_at parts_many part_takes c.in_err-part.field-0.0 c.args.bytes.now c.parts.rest.now (parts_seen c.parts.parts) e c.in_err-part.ensures c.parts.invariant)

pub parts-smaller : goal.parts-smaller
parts-smaller c = part_takes (view_part c.in_ok-part.part) c.parts.rest.now c.in_ok-part.after.now c.in_ok-part.ensures

pub parts-preserved : goal.parts-preserved
parts-preserved c =
    let e : ends_word c.parts.rest.now ≡ false = cc in
    rw (c.in_ok-push.ensures.ok, map_more view_part c.parts.parts c.in_ok-part.part) (Items-more part_at ends_word parts_at parts_many part_takes c.args.bytes.now c.parts.rest.now c.in_ok-part.after.now (parts_seen c.parts.parts) (view_part c.in_ok-part.part) e c.in_ok-part.ensures c.parts.invariant)

pub returns : goal.returns
returns c =
    let e : ends_word c.parts.rest.now ≡ true = cc in
    Items-done part_at ends_word parts_at parts_many part_takes c.args.bytes.now c.parts.rest.now (parts_seen c.parts.parts) e c.parts.invariant
