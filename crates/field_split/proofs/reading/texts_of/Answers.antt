use Rattle.std.proofs.Common.{◌≡◌, suc, ◌+◌, ◌-◌, arith}
use Rattle.field_split.specs.declared.sort.Sort.TheVariants.{White}
use Rattle.field_split.specs.Fields.{after}
use Rattle.field_split.specs.Names.{names}
use Rattle.field_split.proofs.Sharing.{names_more, names_done}
use Rattle.field_split.proofs.reading.texts_of.Goals as goal

pub names-preserved : goal.names-preserved
names-preserved c =
    let e : c.args.n - c.names.counter ≡ suc (c.args.n - (c.names.counter + 1)) = omega arith in
    rw (c.behind-rest.ensures, c.in_ok-push.ensures.ok, c.in_ok-text_of.ensures, c.field.ensures)
    (names_more c.args.ifs.now c.names.texts (names c.args.ifs.now (c.args.n - 1) (after White c.args.ifs.now c.args.items.now)) (c.args.n - c.names.counter) (c.args.n - (c.names.counter + 1)) c.names.rest.now e c.names.invariant)

pub returns : goal.returns
returns c =
    let e : c.args.n - c.names.counter ≡ 0 = omega arith in
    rw (c.in_ok-push-2.ensures.ok, c.in_ok-text_of-2.ensures, c.last.ensures)
    (names_done c.args.ifs.now c.names.texts (c.args.n - c.names.counter) c.args.n c.names.rest.now c.args.items.now e c.names.invariant)
