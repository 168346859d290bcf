use Rattle.std.proofs.Common.{◌≡◌, ◌<◌, List, ℕ, [], length, Some, subst, sym, ap, ◌∙◌, arith}
use Rattle.std.proofs.lemmas.Bool.Decides.{nat_tests}
use Rattle.std.proofs.lemmas.List.{nil_from_length}
use Rattle.fmt_print.specs.Escapes.{unit_at}
use Rattle.fmt_print.specs.declared.escapes.Unit.{Unit as Item}
use Rattle.fmt_print.specs.declared.escapes.Unit.TheVariants.{Byte, Cut}
use Rattle.fmt_print.proofs.Units.{Expands, expands_more, expands_cut, expands_all, expands_fails}
use Rattle.fmt_print.proofs.escapes.expand.Goals as goal

pub returns-in-Cut : goal.returns-in-Cut
returns-in-Cut c =
    let unit : unit_at c.args.dialect c.units.rest.now ≡ Some (Cut, c.in-Some.behind.now) = sym c.in-Some.ensures ∙ ap (λ (u : Item). Some (u, c.in-Some.behind.now)) c.in-Cut.is in
    expands_cut c.args.dialect c.args.argument.now c.units.text c.units.rest.now c.in-Some.behind.now c.units.invariant unit

pub units-preserved : goal.units-preserved
units-preserved c =
    let unit : unit_at c.args.dialect c.units.rest.now ≡ Some (Byte c.in-Byte.byte, c.in-Some.behind.now) = sym c.in-Some.ensures ∙ ap (λ (u : Item). Some (u, c.in-Some.behind.now)) c.in-Byte.is in
    let more = expands_more c.args.dialect c.args.argument.now c.units.text c.units.rest.now c.in-Some.behind.now c.in-Byte.byte c.units.invariant unit in
    let P : List ℕ → Type 0 = λ text. Expands c.args.dialect c.args.argument.now text c.in-Some.behind.now in
    subst P (sym c.in_ok-append-in-Byte.ensures.ok) more

pub returns-then-is_empty : goal.returns-then-is_empty
returns-then-is_empty c =
    let none : c.units.rest.now ≡ [] = nil_from_length c.units.rest.now (grind (arith, nat_tests)) in
    expands_all c.args.dialect c.args.argument.now c.units.text (rw none at c.units.invariant)

pub returns-else-is_empty : goal.returns-else-is_empty
returns-else-is_empty c =
    let some : 0 < length c.units.rest.now = grind (arith, nat_tests) in
    expands_fails c.args.dialect c.args.argument.now c.units.text c.units.rest.now some c.units.invariant (sym c.in_default.ensures)
