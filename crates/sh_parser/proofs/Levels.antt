-- Rules and repetitions of sh, one level at a time, as what is known of its here-documents says it.
use Rattle.std.proofs.Common.{◌≡◌, ℕ, zero, suc, true, cond, List, [], Some}
use Rattle.text_grammar.specs.Grammar.{star, rule}
use Rattle.text_grammar.specs.Ranks.{small}
use Rattle.text_grammar.specs.Values.{vals, go, done, eval, ◌&◌}
use Rattle.text_grammar.proofs.Rules.{rule_go}
use Rattle.text_grammar.proofs.Levels.{star_is}
use Rattle.sh_grammar.specs.Bytes.{Text}
use Rattle.sh_grammar.specs.State.{State}
use Rattle.sh_grammar.specs.Depths.{ranks}
use Rattle.sh_grammar.specs.Table.{Rule, Test, Gram, body}
use Rattle.sh_grammar.specs.Steps.{run_step, holds}
use Rattle.sh_grammar.specs.Acts.{act}
use Rattle.sh_grammar.specs.Spelling.{sh}
use Rattle.sh_grammar.proofs.Ends.{sh_ends}
use Rattle.sh_parser.specs.Views.{known}

pub rule_is : (n : ℕ) (bodies : List Text) (r : Rule) (s : State) → vals (sh n bodies) (rule r) s ≡ done (act r) (go (run_step (known n bodies)) holds (vals (sh n bodies)) (body r) [] s)
unfolding sh known
rule_is zero bodies r s = rule_go (sh zero bodies) (sh_ends zero bodies) r s
rule_is (suc n) bodies r s = rule_go (sh (suc n) bodies) (sh_ends (suc n) bodies) r s

pub star_at : (n : ℕ) (bodies : List Text) (p : Test) (g : Gram) (s : State) → small ranks (star p g) ≡ true →
    vals (sh n bodies) (star p g) s ≡ cond (holds p s) (eval (run_step (known n bodies)) holds (vals (sh n bodies)) g s & vals (sh n bodies) (star p g)) (Some ([], s))
unfolding sh known
star_at zero bodies p g s sm = star_is (sh zero bodies) (sh_ends zero bodies) p g s sm
star_at (suc n) bodies p g s sm = star_is (sh (suc n) bodies) (sh_ends (suc n) bodies) p g s sm
