use Rattle.std.proofs.Common.{◌≡◌, false, refl, sym, ◌∙◌, arith}
use Rattle.std.specs.Prelude.{◌==◌}
use Rattle.std.proofs.lemmas.Bool.Decides.{nat_tests}
use Rattle.sh_printer.specs.Search.{rest_of}
use Rattle.sh_printer.proofs.Searches.{goes_further, stays_out}
use Rattle.sh_printer.proofs.search.pass_byte.Goals as goal

pub returns-then-is_next-clause-sees : goal.returns-then-is_next-clause-sees
returns-then-is_next-clause-sees c =
    let s = c.args.search.now in
    let no : (c.args.byte == 10) ≡ false = grind (arith, nat_tests) in
    rw (no, goes_further s.name.now s.same s.at c.args.byte (sym c.is_next.ensures.is ∙ c.if-is_next.true)) refl

pub returns-else-is_next-clause-sees : goal.returns-else-is_next-clause-sees
returns-else-is_next-clause-sees c =
    let no : (c.args.byte == 10) ≡ false = grind (arith, nat_tests) in
    rw (no, stays_out c.args.byte (rest_of c.args.search.now) (sym c.is_next.ensures.is ∙ c.if-is_next.false)) refl
