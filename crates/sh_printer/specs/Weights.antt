-- The weight of each node, which falls from a node to those inside of it: what bounds the recursion that prints a tree.
use Rattle.std.specs.Prelude.{ℕ, ◌+◌, ◌*◌}
use Rattle.span_text.specs.Expression.{nodes}
use Rattle.sh_grammar.specs.Shape as shape
use Rattle.sh_grammar.specs.Shape.{plain, exact, double, tilde, param, subst, arith, no_part, part, as_is, length_of, fill, trim, no_word, word, no_value, value, no_assign, assign, no_redirect, redirect, command, simple, group, subshell, branching, loop, walk, cases, function, no_branch, branch, no_else, otherwise, parameters, listed, no_item, item, no_stage, stage, pipeline, no_link, and_link, or_link, chain, no_chain, next_chain}

abbrev mutual
  pub part_weight : shape.Part → ℕ
  part_weight (plain text) = 20
  part_weight (exact text) = 20
  part_weight (double ps) = 20 + parts_weight ps
  part_weight tilde = 20
  part_weight (param p o) = 20 + op_weight o
  part_weight (subst s) = 20 + script_weight s
  part_weight (arith e ws) = 200 + (200 * nodes e + words_weight ws)

  pub parts_weight : shape.Parts → ℕ
  parts_weight no_part = 0
  parts_weight (part p ps) = 20 + (part_weight p + parts_weight ps)

  pub op_weight : shape.ParamOp → ℕ
  op_weight as_is = 20
  op_weight length_of = 20
  op_weight (fill t c w) = 20 + parts_weight w
  op_weight (trim s l w) = 20 + parts_weight w

  pub words_weight : shape.Words → ℕ
  words_weight no_word = 0
  words_weight (word w ws) = 20 + (parts_weight w + words_weight ws)

  pub value_weight : shape.Value → ℕ
  value_weight no_value = 0
  value_weight (value w) = 20 + parts_weight w

  pub assigns_weight : shape.Assigns → ℕ
  assigns_weight no_assign = 0
  assigns_weight (assign n v more) = 20 + (value_weight v + assigns_weight more)

  pub redirects_weight : shape.Redirects → ℕ
  redirects_weight no_redirect = 0
  redirects_weight (redirect fd op w rs) = 20 + (parts_weight w + redirects_weight rs)

  pub command_weight : shape.Command → ℕ
  command_weight (command k rs) = 20 + (kind_weight k + kind_weight k + (redirects_weight rs + redirects_weight rs))

  pub kind_weight : shape.Kind → ℕ
  kind_weight (simple as' ws) = 20 + (assigns_weight as' + words_weight ws)
  kind_weight (group s) = 20 + script_weight s
  kind_weight (subshell s) = 20 + script_weight s
  kind_weight (branching bs o) = 20 + (branches_weight bs + otherwise_weight o)
  kind_weight (loop until t b) = 20 + (script_weight t + script_weight b)
  kind_weight (walk n ws b) = 20 + (for_words_weight ws + script_weight b)
  kind_weight (cases w is) = 20 + (parts_weight w + items_weight is)
  kind_weight (function n c) = 20 + command_weight c

  pub branches_weight : shape.Branches → ℕ
  branches_weight no_branch = 0
  branches_weight (branch t b bs) = 20 + (script_weight t + script_weight b + branches_weight bs)

  pub otherwise_weight : shape.Otherwise → ℕ
  otherwise_weight no_else = 0
  otherwise_weight (otherwise s) = 20 + script_weight s

  pub for_words_weight : shape.ForWords → ℕ
  for_words_weight parameters = 0
  for_words_weight (listed ws) = 20 + words_weight ws

  pub items_weight : shape.Items → ℕ
  items_weight no_item = 0
  items_weight (item ps b more) = 20 + (words_weight ps + script_weight b + items_weight more)

  pub stages_weight : shape.Stages → ℕ
  stages_weight no_stage = 0
  stages_weight (stage c cs) = 20 + (command_weight c + stages_weight cs)

  pub pipeline_weight : shape.Pipeline → ℕ
  pipeline_weight (pipeline n ss) = 20 + stages_weight ss

  pub links_weight : shape.Links → ℕ
  links_weight no_link = 0
  links_weight (and_link p ls) = 20 + (pipeline_weight p + links_weight ls)
  links_weight (or_link p ls) = 20 + (pipeline_weight p + links_weight ls)

  pub chain_weight : shape.Chain → ℕ
  chain_weight (chain p ls) = 20 + (pipeline_weight p + links_weight ls)

  pub script_weight : shape.Script → ℕ
  script_weight no_chain = 0
  script_weight (next_chain c more) = 20 + (chain_weight c + script_weight more)
