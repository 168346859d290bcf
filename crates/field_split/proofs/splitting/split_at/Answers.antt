use Rattle.std.proofs.Common.{◌≡◌, false, true, length, sym, ◌∙◌}
use Rattle.std.specs.Prelude.{◌==◌}
use Rattle.field_split.specs.declared.sort.Sort.TheVariants.{White}
use Rattle.field_split.specs.Fields.{after, fields}
use Rattle.field_split.proofs.Loops.{Cut-next, Cut-done, behind_smaller}
use Rattle.field_split.proofs.splitting.split_at.Goals as goal

pub fields-smaller : goal.fields-smaller
fields-smaller c =
    let e : (length c.fields.rest.now == 0) ≡ false = sym c.is_empty.ensures ∙ c.fields-test.true in
    rw c.behind-rest.ensures (behind_smaller c.args.ifs.now c.fields.rest.now e)

pub fields-preserved : goal.fields-preserved
fields-preserved c =
    let e : (length c.fields.rest.now == 0) ≡ false = sym c.is_empty.ensures ∙ c.fields-test.true in
    rw (c.behind-rest.ensures, c.in_ok-push.ensures.ok, c.in_ok-copy.ensures, c.field.ensures) (Cut-next c.args.ifs.now (after White c.args.ifs.now c.args.items.now) c.fields.rest.now c.fields.all e c.fields.invariant)

pub returns : goal.returns
unfolding fields
returns c =
    let e : (length c.fields.rest.now == 0) ≡ true = sym c.is_empty.ensures ∙ c.fields-test.false in
    Cut-done c.args.ifs.now (after White c.args.ifs.now c.args.items.now) c.fields.rest.now c.fields.all e c.fields.invariant
