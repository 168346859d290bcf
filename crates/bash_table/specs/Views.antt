-- What is known of a text, in the languages of Bash.
use Rattle.std.specs.Prelude.{ℕ, zero, suc, List, []}
use Rattle.bash_grammar.specs.State.{Found}
use Rattle.bash_grammar.specs.Steps.{Known}
use Rattle.bash_grammar.specs.Spelling.{bash, no_word, no_scan, expanded_by, scanned_by}

-- what is known in the language `bash`
unfoldable pub known : ℕ → List Found → Known
known zero bodies = record { bodies = bodies; expand = no_word; scan = no_scan }
known (suc n) bodies = record { bodies = bodies; expand = expanded_by (bash n); scan = scanned_by (bash n []) }
