use Rattle.std.proofs.Common.{◌≡◌, List, ℕ, IsTrue, subst, sym, arith}
use Rattle.std.proofs.lemmas.Grind.{common_steps}
use Rattle.span_text.specs.Names.{is_name}
use Rattle.name_codec.specs.Reserved.{reserved_name}
use Rattle.name_codec.proofs.Spelling.{reserved_is_name}
use Rattle.name_codec.proofs.names.reserved.Goals as goal

pub returns-clause-named : goal.returns-clause-named
returns-clause-named c =
    let P : List ℕ → Type 0 = λ t. IsTrue (is_name t) in
    let spelled : c.append_name.new.text ≡ reserved_name c.args.role c.args.name.now = grind (arith, common_steps) in
    subst P (sym spelled) (reserved_is_name c.args.role c.args.name.now (λ i. omega (arith, c.type_inv.name i)))
