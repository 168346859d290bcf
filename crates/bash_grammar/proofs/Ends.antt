-- The language of Bash ends, whatever its here-documents are.
use Rattle.std.proofs.Common.{ℕ, zero, suc, List, refl}
use Rattle.text_grammar.specs.Language.{Ends}
use Rattle.bash_grammar.specs.Steps.{Known}
use Rattle.bash_grammar.specs.State.{Found}
use Rattle.bash_grammar.specs.Spelling.{knowing, bash, bash_with}
use Rattle.bash_grammar.proofs.Steps.{step_fits}
use Rattle.bash_grammar.proofs.Shallow.{rule_takes_is, rule_shallow}
use Rattle.bash_grammar.proofs.Small.{rule_small, rank_below}

pub knowing_ends : (k : Known) → Ends (knowing k)
knowing_ends k = record {
  step_fits = step_fits k;
  rule_takes = rule_takes_is;
  rule_shallow = rule_shallow;
  rule_small = rule_small;
  weighs = refl;
  rank_below = rank_below;
}

pub bash_ends : (n : ℕ) (bodies : List Found) → Ends (bash n bodies)
unfolding bash
bash_ends zero bodies = knowing_ends _
bash_ends (suc n) bodies = knowing_ends _

pub ends_with : (bodies : List Found) → Ends (bash_with bodies)
ends_with bodies = bash_ends _ bodies
