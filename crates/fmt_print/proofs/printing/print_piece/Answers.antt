use Rattle.std.proofs.Common.{◌++◌, drop, Option, sym, ap, ◌∙◌}
use Rattle.fmt_print.specs.Printing.{with_front, next, prints, fault_of, after}
use Rattle.fmt_print.specs.declared.Printed.{Printed}
use Rattle.fmt_print.proofs.Passes.{shown_goes}
use Rattle.fmt_print.proofs.printing.print_piece.Goals as goal

pub returns : goal.returns
returns c =
    let arguments = c.args.arguments.now in
    let old = c.args.text.now in
    let used = c.argument_of-after.result.1 in
    let fault = fault_of c.args.piece c.args.used in
    let shown = sym c.in_ok-shown.ensures ∙ c.in-Some.is in (
      c.argument_of-after.ensures.bound,
      λ later. ap (with_front old) (c.argument_of-after.ensures.argument later) ∙ ap (λ (o : Option Printed). with_front old (next fault o (prints later used (drop used arguments)))) shown ∙ shown_goes arguments old c.in-Some.shown.text c.in-Some.shown.cut used fault later ∙ ap (λ t. after arguments t (record { used = used; cut = c.in-Some.shown.cut }) later) (sym (c.in_ok-append.ensures.ok ∙ ap (λ t. old ++ t) c.bytes.ensures)),
    )
