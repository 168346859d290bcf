use Rattle.std.proofs.Common.{◌∙◌, ◌==◌, ap, rules, tests}
use Rattle.std.specs.List.{slice_split, list_all}
use Rattle.std.proofs.lemmas.Iterator.Search.{all_from_yields_List}
use Rattle.std.proofs.lemmas.Iterator.Splits.{YieldsList-from_slice_split}
use Rattle.world_json.specs.Jobs.{is_component}
use Rattle.world_json.proofs.pairs.is_path.Goals as goal

pub returns : goal.returns
returns c =
    all_from_yields_List is_component _ _ c.all.result c.all.ensures.ran
    (YieldsList-from_slice_split _ (λ b. b == 47) c.below_root.result.now c.split.ensures.rest c.split.ensures.done c.split.ensures.closure (λ x b q k. search (rules, tests)))
    (λ x b q k. search (rules, tests))
    ∙ ap (λ l. list_all is_component (slice_split (λ b. b == 47) l)) c.below_root.ensures
