-- From Bash to sh: each command to the same command, and `name+=value` to `name="$name"value`.
use Rattle.std.specs.Prelude.{ℕ, Bool, true, false, List}
use Rattle.bash_tree.specs.Shape as bash
use Rattle.bash_tree.specs.Shape.{plain, exact, double, param, no_part, part, no_word, word, no_value, value, no_assign, assign, simple, no_stage, stage, pipeline, no_link, and_link, or_link, chain, no_item, item, background_item}
use Rattle.sh_grammar.specs.Shape as sh

abbrev mutual
  pub lower_part : bash.Part → sh.Part
  lower_part (plain text) = sh.plain text
  lower_part (exact text) = sh.exact text
  lower_part (double ps) = sh.double (lower_parts ps)
  lower_part (param name) = sh.param (sh.named name) sh.as_is

  pub lower_parts : bash.Parts → sh.Parts
  lower_parts no_part = sh.no_part
  lower_parts (part p ps) = sh.part (lower_part p) (lower_parts ps)

abbrev pub lower_words : bash.Words → sh.Words
lower_words no_word = sh.no_word
lower_words (word w ws) = sh.word (lower_parts w) (lower_words ws)

-- `"$name"`
abbrev pub quoted_name : List ℕ → sh.Part
quoted_name name = sh.double (sh.part (sh.param (sh.named name) sh.as_is) sh.no_part)

abbrev pub parts_of_value : bash.Value → sh.Parts
parts_of_value no_value = sh.no_part
parts_of_value (value w) = lower_parts w

abbrev pub plain_value : bash.Value → sh.Value
plain_value no_value = sh.no_value
plain_value (value w) = sh.value (lower_parts w)

abbrev pub lower_value : Bool → List ℕ → bash.Value → sh.Value
lower_value false name v = plain_value v
lower_value true name v = sh.value (sh.part (quoted_name name) (parts_of_value v))

abbrev pub lower_assigns : bash.Assigns → sh.Assigns
lower_assigns no_assign = sh.no_assign
lower_assigns (assign name append v more) = sh.assign name (lower_value append name v) (lower_assigns more)

abbrev pub lower_command : bash.Command → sh.Command
lower_command (simple as' ws) = sh.command (sh.simple (lower_assigns as') (lower_words ws)) sh.no_redirect

abbrev pub lower_stages : bash.Stages → sh.Stages
lower_stages no_stage = sh.no_stage
lower_stages (stage c cs) = sh.stage (lower_command c) (lower_stages cs)

abbrev pub lower_pipeline : bash.Pipeline → sh.Pipeline
lower_pipeline (pipeline negated ss) = sh.pipeline negated (lower_stages ss)

abbrev pub lower_links : bash.Links → sh.Links
lower_links no_link = sh.no_link
lower_links (and_link p ls) = sh.and_link (lower_pipeline p) (lower_links ls)
lower_links (or_link p ls) = sh.or_link (lower_pipeline p) (lower_links ls)

abbrev pub lower_chain : bash.Chain → sh.Chain
lower_chain (chain p ls) = sh.chain (lower_pipeline p) (lower_links ls)

abbrev pub lower : bash.Script → sh.Script
lower no_item = sh.no_chain
lower (item c more) = sh.next_chain (lower_chain c) (lower more)
lower (background_item c more) = sh.next_chain (lower_chain c) (lower more)
