-- A script written out, each construct in one way, so that examples can be read: `[a=b]` is an assignment, `!name 0-3!` what
-- is refused and where.
use Rattle.std.specs.Prelude.{ℕ, zero, suc, Bool, true, false, ◌==◌, List, [], ◌∷◌, ◌++◌, Option, Some, None, if◌then◌else◌, codes}
use Rattle.span_text.specs.declared.span.Span.{Span}
use Rattle.bash_grammar.specs.Shape.{Code, process_substitution, extended_glob, regex_test, reserved_command, indirect, case_pattern, error_expansion, special_parameter, locale_quote, old_arithmetic, ansi_escape, nested_quote, backquote, descriptor, read_write, read_substitution, function_name, arith_form, unspelled, Name, FillTest, default, assigning, alternate, ReplaceAt, at_first, at_all, at_start, at_end, ItemEnd, stop, fall, test_on, RedirectOp, read, write, append, here_literal, here_expanded, here_string, copy_in, copy_out, both_out, both_append, refused_op, Part, plain, exact, double, tilde, param, subst, arith_part, compound, refused_part, Parts, no_part, part, Word, word, Words, no_word, next_word, Arith, arith, MaybeArith, no_arith, some_arith, Subscript, index, key_only, MaybeSubscript, no_subscript, some_subscript, Param, named, member, members, digits, count, status, at, star, ParamOp, as_is, length_of, keys, fill, trim, slice, replace, casing, Value, no_value, value, items_value, Element, element, Elements, no_element, next_element, Assign, assign, Assigns, no_assign, next_assign, Redirects, no_redirect, redirect, Command, command, Kind, simple, group, subshell, branching, loop, walk, arith_loop, cases, arith_command, conditional, function, refused_command, Branches, no_branch, branch, Otherwise, no_else, otherwise, ForWords, parameters, listed, Items, no_item, item, Cond, or_cond, and_cond, not_cond, text_cond, unary_cond, binary_cond, Stages, no_stage, stage, Pipeline, pipeline, Links, no_link, and_link, or_link, Chain, chain, Script, no_chain, next_chain}
use Rattle.bash_grammar.specs.Bytes.{Text}

-- ---- numbers

-- one more, the last digit first
abbrev one_more : Text → Text
one_more [] = codes "1"
one_more (d ∷ ds) = if d == 57 then 48 ∷ one_more ds else suc d ∷ ds

abbrev digits_of : ℕ → Text
digits_of zero = codes "0"
digits_of (suc n) = one_more (digits_of n)

abbrev reversed : Text → Text → Text
reversed [] done = done
reversed (b ∷ bs) done = reversed bs (b ∷ done)

abbrev number : ℕ → Text
number n = reversed (digits_of n) []

abbrev span : Span → Text
span s = number s.from ++ codes "-" ++ number s.to

-- ---- what is refused

abbrev code : Code → Text
code process_substitution = codes "process"
code extended_glob = codes "glob"
code regex_test = codes "regex"
code reserved_command = codes "reserved"
code indirect = codes "indirect"
code case_pattern = codes "case"
code error_expansion = codes "error"
code special_parameter = codes "special"
code locale_quote = codes "locale"
code old_arithmetic = codes "old"
code ansi_escape = codes "ansi"
code nested_quote = codes "quote"
code backquote = codes "backquote"
code descriptor = codes "descriptor"
code read_write = codes "readwrite"
code read_substitution = codes "readsub"
code function_name = codes "name"
code arith_form = codes "arith"
code (unspelled n) = codes "unspelled"

abbrev refusal : Code → Span → Text
refusal c s = codes "!" ++ code c ++ codes " " ++ span s ++ codes "!"

-- ---- small things

abbrev filling : FillTest → Text
filling default = codes "-"
filling assigning = codes "="
filling alternate = codes "+"

abbrev colons : Bool → Text → Text
colons true t = codes ":" ++ t
colons false t = t

abbrev twice : Bool → Text → Text
twice true t = t ++ t
twice false t = t

abbrev either : Bool → Text → Text → Text
either true t u = t
either false t u = u

abbrev replacing : ReplaceAt → Text
replacing at_first = codes "/"
replacing at_all = codes "//"
replacing at_start = codes "/#"
replacing at_end = codes "/%"

abbrev ending : ItemEnd → Text
ending stop = codes ";;"
ending fall = codes ";&"
ending test_on = codes ";;&"

abbrev redirecting : RedirectOp → Text
redirecting read = codes "<"
redirecting write = codes ">"
redirecting append = codes ">>"
redirecting here_literal = codes "<<'"
redirecting here_expanded = codes "<<"
redirecting here_string = codes "<<<"
redirecting copy_in = codes "<&"
redirecting copy_out = codes ">&"
redirecting both_out = codes "&>"
redirecting both_append = codes "&>>"
redirecting (refused_op c s) = refusal c s

abbrev fd_of : Option ℕ → Text
fd_of None = []
fd_of (Some n) = number n

abbrev names_of : List Name → Text
names_of [] = []
names_of (n ∷ ns) = codes " " ++ n.text ++ codes " " ++ span n.span ++ names_of ns

abbrev spans_of : List Span → Text
spans_of [] = []
spans_of (s ∷ ss) = codes " =" ++ span s ++ spans_of ss

-- behind a chain
abbrev background : Option Span → Text
background None = codes ";"
background (Some s) = codes " &" ++ span s ++ codes ";"

-- ---- the tree

abbrev mutual
  pub part_text : Part → Text
  part_text (plain t) = t
  part_text (exact t) = codes "'" ++ t ++ codes "'"
  part_text (double ps) = codes "\"" ++ parts_text ps ++ codes "\""
  part_text tilde = codes "{~}"
  part_text (param p op) = codes "${" ++ op_text (param_text p) op ++ codes "}"
  part_text (subst s) = codes "$(" ++ script_text s ++ codes ")"
  part_text (arith_part a) = codes "$((" ++ arith_text a ++ codes "))"
  part_text (compound a) = codes "[" ++ assign_text a ++ codes "]"
  part_text (refused_part c s) = refusal c s

  pub parts_text : Parts → Text
  parts_text no_part = []
  parts_text (part p s ps) = part_text p ++ parts_text ps

  pub word_text : Word → Text
  word_text (word ps s) = parts_text ps

  -- each word with a blank before it
  pub words_text : Words → Text
  words_text no_word = []
  words_text (next_word w ws) = codes " " ++ word_text w ++ words_text ws

  -- the operands, the names and the effects
  pub arith_text : Arith → Text
  arith_text (arith e ws names effects s) = span s ++ words_text ws ++ names_of names ++ spans_of effects

  pub slot_text : MaybeArith → Text
  slot_text no_arith = []
  slot_text (some_arith a) = arith_text a

  pub index_text : Subscript → Text
  index_text (index w a s) = codes "[" ++ word_text w ++ codes "]"
  index_text (key_only w bad s) = codes "[" ++ word_text w ++ codes " " ++ span bad ++ codes "]"

  pub maybe_index_text : MaybeSubscript → Text
  maybe_index_text no_subscript = []
  maybe_index_text (some_subscript i) = index_text i

  pub param_text : Param → Text
  param_text (named n) = n.text
  param_text (member n i) = n.text ++ index_text i
  param_text (members n b) = n.text ++ either b (codes "[@]") (codes "[*]")
  param_text (digits t) = t
  param_text count = codes "#"
  param_text status = codes "?"
  param_text at = codes "@"
  param_text star = codes "*"

  pub op_text : Text → ParamOp → Text
  op_text p as_is = p
  op_text p length_of = codes "#" ++ p
  op_text p keys = codes "!" ++ p
  op_text p (fill t colon w) = p ++ colons colon (filling t) ++ word_text w
  op_text p (trim suffix longest w) = p ++ twice longest (either suffix (codes "%") (codes "#")) ++ word_text w
  op_text p (slice o l) = p ++ codes ":" ++ arith_text o ++ codes ":" ++ slot_text l
  op_text p (replace r a b) = p ++ replacing r ++ word_text a ++ codes "/" ++ word_text b
  op_text p (casing upper all) = p ++ twice all (either upper (codes "^") (codes ","))

  pub value_text : Value → Text
  value_text no_value = []
  value_text (value w) = word_text w
  value_text (items_value es) = codes "(" ++ elements_text es ++ codes ")"

  pub elements_text : Elements → Text
  elements_text no_element = []
  elements_text (next_element e es) = codes " " ++ element_text e ++ elements_text es

  pub element_text : Element → Text
  element_text (element no_subscript v s) = value_text v
  element_text (element (some_subscript i) v s) = index_text i ++ codes "=" ++ value_text v

  pub assign_text : Assign → Text
  assign_text (assign n i more v s) = n.text ++ maybe_index_text i ++ either more (codes "+=") (codes "=") ++ value_text v

  pub assigns_text : Assigns → Text
  assigns_text no_assign = []
  assigns_text (next_assign a more) = codes " [" ++ assign_text a ++ codes "]" ++ assigns_text more

  pub redirects_text : Redirects → Text
  redirects_text no_redirect = []
  redirects_text (redirect fd op w s rs) = codes " " ++ fd_of fd ++ redirecting op ++ word_text w ++ redirects_text rs

  pub command_text : Command → Text
  command_text (command k rs s) = kind_text k ++ redirects_text rs

  pub kind_text : Kind → Text
  kind_text (simple before ws) = codes "." ++ assigns_text before ++ words_text ws
  kind_text (group s) = codes "{ " ++ script_text s ++ codes " }"
  kind_text (subshell s) = codes "( " ++ script_text s ++ codes " )"
  kind_text (branching bs o) = codes "if" ++ branches_text bs ++ otherwise_text o ++ codes " fi"
  kind_text (loop b t s) = either b (codes "until ") (codes "while ") ++ script_text t ++ codes " do " ++ script_text s ++ codes " done"
  kind_text (walk n ws s) = codes "for " ++ n.text ++ for_text ws ++ codes " do " ++ script_text s ++ codes " done"
  kind_text (arith_loop a b c s) = codes "for ((" ++ slot_text a ++ codes ";" ++ slot_text b ++ codes ";" ++ slot_text c ++ codes ")) do " ++ script_text s ++ codes " done"
  kind_text (cases w is) = codes "case " ++ word_text w ++ codes " in" ++ items_text is ++ codes " esac"
  kind_text (arith_command a) = codes "((" ++ arith_text a ++ codes "))"
  kind_text (conditional c) = codes "[[ " ++ cond_text c ++ codes " ]]"
  kind_text (function n c) = n.text ++ codes "() " ++ command_text c
  kind_text (refused_command c s) = refusal c s

  pub branches_text : Branches → Text
  branches_text no_branch = []
  branches_text (branch t b bs) = codes " " ++ script_text t ++ codes " then " ++ script_text b ++ branches_text bs

  pub otherwise_text : Otherwise → Text
  otherwise_text no_else = []
  otherwise_text (otherwise s) = codes " else " ++ script_text s

  pub for_text : ForWords → Text
  for_text parameters = []
  for_text (listed ws) = codes " in" ++ words_text ws

  pub items_text : Items → Text
  items_text no_item = []
  items_text (item ws s e is) = words_text ws ++ codes ") " ++ script_text s ++ codes " " ++ ending e ++ items_text is

  pub cond_text : Cond → Text
  cond_text (or_cond a b) = codes "(" ++ cond_text a ++ codes " || " ++ cond_text b ++ codes ")"
  cond_text (and_cond a b) = codes "(" ++ cond_text a ++ codes " && " ++ cond_text b ++ codes ")"
  cond_text (not_cond a) = codes "! " ++ cond_text a
  cond_text (text_cond w) = word_text w
  cond_text (unary_cond o w) = o.text ++ codes " " ++ word_text w
  cond_text (binary_cond v o w) = word_text v ++ codes " " ++ o.text ++ codes " " ++ word_text w

  pub stages_text : Stages → List Bool → Text
  stages_text no_stage bs = []
  stages_text (stage c cs) bs = command_text c ++ more_stages_text cs bs

  pub more_stages_text : Stages → List Bool → Text
  more_stages_text no_stage bs = []
  more_stages_text (stage c cs) [] = codes " ? " ++ command_text c ++ more_stages_text cs []
  more_stages_text (stage c cs) (b ∷ bs) = either b (codes " |& ") (codes " | ") ++ command_text c ++ more_stages_text cs bs

  pub pipeline_text : Pipeline → Text
  pipeline_text (pipeline n cs bs) = either n (codes "! ") [] ++ stages_text cs bs

  pub links_text : Links → Text
  links_text no_link = []
  links_text (and_link p ls) = codes " && " ++ pipeline_text p ++ links_text ls
  links_text (or_link p ls) = codes " || " ++ pipeline_text p ++ links_text ls

  pub chain_text : Chain → Text
  chain_text (chain p ls) = pipeline_text p ++ links_text ls

  -- each chain with `;` behind it
  pub script_text : Script → Text
  script_text no_chain = []
  script_text (next_chain c b s) = chain_text c ++ background b ++ script_text s
