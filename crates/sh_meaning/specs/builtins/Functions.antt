-- The functions that a script defines anywhere, inside substitutions too (POSIX XCU 2.9.5).
use Rattle.std.specs.Prelude.{List, [], ◌∷◌, ◌++◌}
use Rattle.shell_world.specs.Texts.{Text}
use Rattle.sh_grammar.specs.Shape.{Part, plain, exact, double, tilde, param, subst, arith, Parts, no_part, part, ParamOp, as_is, length_of, fill, trim, Words, no_word, word, Value, no_value, value, Assigns, no_assign, assign, Redirects, no_redirect, redirect, Command, command, Kind, simple, group, subshell, branching, loop, walk, cases, function, Branches, no_branch, branch, Otherwise, no_else, otherwise, ForWords, parameters, listed, Items, no_item, item, Stages, no_stage, stage, Pipeline, pipeline, Links, no_link, and_link, or_link, Chain, chain, Script, no_chain, next_chain}

abbrev mutual
  pub functions_of_part : Part → List Text
  functions_of_part (plain text) = []
  functions_of_part (exact text) = []
  functions_of_part (double ps) = functions_of_parts ps
  functions_of_part tilde = []
  functions_of_part (param p op) = functions_of_op op
  functions_of_part (subst script) = functions_of script
  functions_of_part (arith expr operands) = functions_of_words operands

  pub functions_of_parts : Parts → List Text
  functions_of_parts no_part = []
  functions_of_parts (part p ps) = functions_of_part p ++ functions_of_parts ps

  pub functions_of_op : ParamOp → List Text
  functions_of_op as_is = []
  functions_of_op length_of = []
  functions_of_op (fill test colon ps) = functions_of_parts ps
  functions_of_op (trim suffix longest ps) = functions_of_parts ps

  pub functions_of_words : Words → List Text
  functions_of_words no_word = []
  functions_of_words (word w ws) = functions_of_parts w ++ functions_of_words ws

  pub functions_of_value : Value → List Text
  functions_of_value no_value = []
  functions_of_value (value w) = functions_of_parts w

  pub functions_of_assigns : Assigns → List Text
  functions_of_assigns no_assign = []
  functions_of_assigns (assign name v as') = functions_of_value v ++ functions_of_assigns as'

  pub functions_of_redirects : Redirects → List Text
  functions_of_redirects no_redirect = []
  functions_of_redirects (redirect fd op w rs) = functions_of_parts w ++ functions_of_redirects rs

  pub functions_of_command : Command → List Text
  functions_of_command (command k rs) = functions_of_kind k ++ functions_of_redirects rs

  pub functions_of_kind : Kind → List Text
  functions_of_kind (simple as' ws) = functions_of_assigns as' ++ functions_of_words ws
  functions_of_kind (group script) = functions_of script
  functions_of_kind (subshell script) = functions_of script
  functions_of_kind (branching bs o) = functions_of_branches bs ++ functions_of_otherwise o
  functions_of_kind (loop until test body) = functions_of test ++ functions_of body
  functions_of_kind (walk name ws body) = functions_of_listed ws ++ functions_of body
  functions_of_kind (cases subject is) = functions_of_parts subject ++ functions_of_items is
  functions_of_kind (function name body) = name ∷ functions_of_command body

  pub functions_of_branches : Branches → List Text
  functions_of_branches no_branch = []
  functions_of_branches (branch test body bs) = functions_of test ++ functions_of body ++ functions_of_branches bs

  pub functions_of_otherwise : Otherwise → List Text
  functions_of_otherwise no_else = []
  functions_of_otherwise (otherwise script) = functions_of script

  pub functions_of_listed : ForWords → List Text
  functions_of_listed parameters = []
  functions_of_listed (listed ws) = functions_of_words ws

  pub functions_of_items : Items → List Text
  functions_of_items no_item = []
  functions_of_items (item patterns body is) = functions_of_words patterns ++ functions_of body ++ functions_of_items is

  pub functions_of_stages : Stages → List Text
  functions_of_stages no_stage = []
  functions_of_stages (stage c ss) = functions_of_command c ++ functions_of_stages ss

  pub functions_of_pipeline : Pipeline → List Text
  functions_of_pipeline (pipeline negated ss) = functions_of_stages ss

  pub functions_of_links : Links → List Text
  functions_of_links no_link = []
  functions_of_links (and_link p ls) = functions_of_pipeline p ++ functions_of_links ls
  functions_of_links (or_link p ls) = functions_of_pipeline p ++ functions_of_links ls

  pub functions_of_chain : Chain → List Text
  functions_of_chain (chain p ls) = functions_of_pipeline p ++ functions_of_links ls

  pub functions_of : Script → List Text
  functions_of no_chain = []
  functions_of (next_chain c more) = functions_of_chain c ++ functions_of more
