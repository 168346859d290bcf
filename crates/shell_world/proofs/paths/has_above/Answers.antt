use Rattle.std.proofs.Common.{rules, tests}
use Rattle.std.proofs.lemmas.Iterator.Search.{any_from_yields_List}
use Rattle.std.proofs.lemmas.Iterator.Splits.{YieldsList-from_slice_split}
use Rattle.shell_world.specs.Paths.{is_slash, is_above}
use Rattle.shell_world.proofs.paths.has_above.Goals as goal

pub returns : goal.returns
returns c =
    any_from_yields_List is_above _ _ c.any.result c.any.ensures.ran
    (YieldsList-from_slice_split _ is_slash c.args.text.now c.split.ensures.rest c.split.ensures.done c.split.ensures.closure (λ x b q k. search (rules, tests)))
    (λ x b q k. search (rules, tests))
