-- Rules and repetitions of Bash, one level at a time, by what is known of the text.
use Rattle.std.proofs.Common.{◌≡◌, ℕ, zero, suc, true, cond, List, [], Some}
use Rattle.text_grammar.specs.Grammar.{star, rule}
use Rattle.text_grammar.specs.Ranks.{small}
use Rattle.text_grammar.specs.Values.{vals, done, eval, ◌&◌, behind}
use Rattle.text_grammar.proofs.Rules.{rule_go, go_is}
use Rattle.text_grammar.proofs.Levels.{star_is}
use Rattle.bash_grammar.specs.Acts.{act}
use Rattle.bash_grammar.specs.Depths.{ranks}
use Rattle.bash_grammar.specs.Moves.{Test}
use Rattle.bash_grammar.specs.Nodes.{Node}
use Rattle.bash_grammar.specs.Spelling.{bash}
use Rattle.bash_grammar.specs.State.{State, Found}
use Rattle.bash_grammar.specs.Steps.{run_step}
use Rattle.bash_grammar.specs.Table.{Rule, Gram, body}
use Rattle.bash_grammar.specs.Tests.{holds}
use Rattle.bash_grammar.proofs.Ends.{bash_ends}
use Rattle.bash_table.specs.Tasks.{goes, asked}
use Rattle.bash_table.specs.Views.{known}

pub rule_is : (n : ℕ) (ds : List Found) (r : Rule) (s : State) → vals (bash n ds) (rule r) s ≡ done (act r) (goes n ds (body r) [] s)
unfolding bash known
rule_is zero ds r s = rule_go (bash zero ds) (bash_ends zero ds) r s
rule_is (suc n) ds r s = rule_go (bash (suc n) ds) (bash_ends (suc n) ds) r s

pub star_at : (n : ℕ) (ds : List Found) (p : Test) (g : Gram) (s : State) → small ranks (star p g) ≡ true →
    vals (bash n ds) (star p g) s ≡ cond (asked n ds p s) (eval (run_step (known n ds)) (holds (known n ds).scan) (vals (bash n ds)) g s & vals (bash n ds) (star p g)) (Some ([], s))
unfolding bash known
star_at zero ds p g s sm = star_is (bash zero ds) (bash_ends zero ds) p g s sm
star_at (suc n) ds p g s sm = star_is (bash (suc n) ds) (bash_ends (suc n) ds) p g s sm

-- what is read behind nothing, and put behind what was read before
pub go_behind : (n : ℕ) (ds : List Found) (g : Gram) (xs : List Node) (s : State) → goes n ds g xs s ≡ behind xs (eval (run_step (known n ds)) (holds (known n ds).scan) (vals (bash n ds)) g s)
unfolding bash known
go_behind zero ds g xs s = go_is (bash zero ds) g xs s
go_behind (suc n) ds g xs s = go_is (bash (suc n) ds) g xs s
