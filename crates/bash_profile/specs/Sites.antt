-- The nodes of a script that are judged, each with what is around it: what kinds of names and refusals are told from. A
-- listing of a node has the node itself first, and those inside of it in the order in which they are written.
use Rattle.std.specs.Prelude.{ℕ, suc, Bool, true, false, List, [], ◌∷◌, ◌++◌, Option, Some, None, is_some, if◌then◌else◌, codes}
use Rattle.span_text.specs.declared.span.Span.{Span}
use Rattle.span_text.specs.KnownNames.{is_among}
use Rattle.bash_grammar.specs.Bytes.{Text}
use Rattle.bash_profile.specs.Literals.{assigned_name, written_text}
use Rattle.bash_grammar.specs.Shape.{Name, TestOp, RedirectOp, here_literal, here_expanded, here_string, Part, plain, exact, double, tilde, param, subst, arith_part, compound, refused_part, Parts, no_part, part, Word, word, Words, no_word, next_word, Arith, arith, MaybeArith, no_arith, some_arith, Subscript, index, key_only, MaybeSubscript, no_subscript, some_subscript, Param, named, member, members, digits, count, status, at, star, ParamOp, as_is, length_of, keys, fill, trim, slice, replace, casing, Value, no_value, value, items_value, Element, element, Elements, no_element, next_element, Assign, assign, Assigns, no_assign, next_assign, Redirects, no_redirect, redirect, Command, command, Kind, simple, group, subshell, branching, loop, walk, arith_loop, cases, arith_command, conditional, function, refused_command, Branches, no_branch, branch, Otherwise, no_else, otherwise, ForWords, parameters, listed, Items, no_item, item, Cond, or_cond, and_cond, not_cond, text_cond, unary_cond, binary_cond, Stages, no_stage, stage, Pipeline, pipeline, Links, no_link, and_link, or_link, Chain, chain, Script, no_chain, next_chain}

-- ---- what is around a node

-- What a command stands in (3.3, 3.2.4, 4.1).
pub record Around : Type 0 where
  -- the function whose body it stands in, the innermost one
  pub inside : Option Text
  -- whether a `return` there returns from it: no subshell, stage or substitution is between them
  pub returns : Bool
  -- the loops around it, in the same function and the same shell
  pub loops : ℕ

abbrev pub outermost : Around
outermost = record { inside = None; returns = false; loops = 0 }

-- a subshell, a stage of a pipeline of two or more, or a substitution
abbrev pub in_subshell : Around → Around
in_subshell a = record { inside = a.inside; returns = false; loops = 0 }

abbrev pub in_loop : Around → Around
in_loop a = record { inside = a.inside; returns = a.returns; loops = suc a.loops }

abbrev pub in_function : Text → Around
in_function name = record { inside = Some name; returns = true; loops = 0 }

-- What a word is expanded for (3.5).
pub data Use : Type 0 where
  -- a word of a command, or of the list of `for`
  field : Use
  -- an operand `NAME=word` of `export`, `declare` and its kin
  declaration : Use
  -- an item of a list, without a subscript and with one
  list_item : Use
  indexed_item : Use
  -- the value of an assignment
  assigned : Use
  -- what `case` looks at
  subject : Use
  -- a pattern of `case`, of `${a%p}` or of `${a/p/w}`, and what stands at the right of `=`, `==` and `!=` in `[[ ]]`
  pattern : Use
  -- another word of `[[ ]]`
  tested : Use
  target : Use
  here_text : Use
  here_body : Use
  -- a subscript that is a key
  key : Use
  -- the word of `${a-w}`
  filled : Use
  -- the `w` of `${a/p/w}`
  replacement : Use
  -- an expansion in an expression
  operand : Use

-- What a part of a word stands in.
pub record Within : Type 0 where
  -- whether the outermost word is made into fields (3.5.7), or is the word of a redirection
  pub splits : Bool
  -- between double quotes
  pub quoted : Bool
  -- in a `${ }`
  pub braced : Bool
  -- in the text of a here-document
  pub body : Bool

abbrev pub makes_fields : Within
makes_fields = record { splits = true; quoted = false; braced = false; body = false }

abbrev pub makes_text : Within
makes_text = record { splits = false; quoted = false; braced = false; body = false }

abbrev pub makes_body : Within
makes_body = record { splits = false; quoted = false; braced = false; body = true }

abbrev pub between_quotes : Within → Within
between_quotes w = record { splits = w.splits; quoted = true; braced = w.braced; body = w.body }

abbrev pub between_braces : Within → Within
between_braces w = record { splits = w.splits; quoted = w.quoted; braced = true; body = w.body }

-- What an expression stands for.
pub data Sum : Type 0 where
  -- `$((a))`, `((a))`, a part of `for ((a;b;c))`
  number : Sum
  -- an offset or a length of `${a:b:c}`
  sliced : Sum
  -- the subscript of a name that isn't associative
  indexed : Sum

-- Where an assignment stands.
pub data Role : Type 0 where
  -- before a command's words, or without words
  leading : Role
  -- a word of `declare` and its kin
  declared : Role

-- ---- nodes

pub data Site : Type 0 where
  -- a chain of a list, by the `&` behind it
  chain_site : (background : Option Span) → Site
  command_site : Around → Command → Site
  assign_site : Around → Role → Assign → Site
  -- an item of a list, which is that of this name
  element_site : Around → Name → Element → Site
  redirect_site : (fd : Option ℕ) → RedirectOp → Word → Span → Site
  word_site : Around → Use → Within → Word → Site
  part_site : Around → Within → Part → Span → Site
  -- a subscript of this name
  subscript_site : Around → Name → Subscript → Site
  sum_site : Around → Sum → Arith → Site
  test_site : Cond → Site

-- `==`, `!=` and `=`, whose right side is a pattern
abbrev pub is_match : Text → Bool
is_match text = is_among (codes "=" ∷ codes "==" ∷ codes "!=" ∷ []) text

abbrev pub use_beside : TestOp → Use
use_beside o = if is_match o.text then pattern else tested

abbrev pub Uses : Type 0
Uses = Use × Within

-- what the word of a redirection is expanded for
abbrev pub aimed : RedirectOp → Uses
aimed here_string = (here_text, makes_text)
aimed here_literal = (here_body, makes_body)
aimed here_expanded = (here_body, makes_body)
aimed op = (target, makes_fields)

abbrev pub as_pattern : Within → Within
as_pattern w = record { splits = false; quoted = false; braced = true; body = w.body }

-- a stage is a subshell where it isn't alone
abbrev pub staged : Around → Stages → Around
staged a (stage c no_stage) = a
staged a cs = in_subshell a

-- ---- words of commands that declare, of which `NAME=word` is an assignment

abbrev declaring_commands : List Text
declaring_commands = codes "export" ∷ codes "local" ∷ codes "declare" ∷ codes "typeset" ∷ codes "readonly" ∷ []

abbrev is_declaring : Option Text → Bool
is_declaring None = false
is_declaring (Some name) = is_among declaring_commands name

abbrev pub declares : Words → Bool
declares no_word = false
declares (next_word w ws) = is_declaring (written_text w)

abbrev pub word_use : (declares : Bool) → Word → Uses
word_use false w = (field, makes_fields)
word_use true w = if is_some (assigned_name w) then (declaration, makes_text) else (field, makes_fields)

-- ---- listings

-- whose subscripts are keys
abbrev pub Keyed : Type 0
Keyed = Text → Bool

abbrev mutual
  pub part_sites : Keyed → Around → Within → Part → List Site
  part_sites k a w (plain text) = []
  part_sites k a w (exact text) = []
  part_sites k a w (double ps) = parts_sites k a (between_quotes w) ps
  part_sites k a w tilde = []
  part_sites k a w (param p o) = param_sites k a p ++ op_sites k a w o
  part_sites k a w (subst s) = script_sites k (in_subshell a) s
  part_sites k a w (arith_part e) = sum_sites k a number e
  part_sites k a w (compound x) = assign_sites k a declared x
  part_sites k a w (refused_part c s) = []

  pub parts_sites : Keyed → Around → Within → Parts → List Site
  parts_sites k a w no_part = []
  parts_sites k a w (part p s ps) = part_site a w p s ∷ (part_sites k a w p ++ parts_sites k a w ps)

  pub word_sites : Keyed → Around → Use → Within → Word → List Site
  word_sites k a u w (word ps s) = word_site a u w (word ps s) ∷ parts_sites k a w ps

  pub words_sites : Keyed → Around → Use → Within → Words → List Site
  words_sites k a u w no_word = []
  words_sites k a u w (next_word x xs) = word_sites k a u w x ++ words_sites k a u w xs

  pub called_sites : Keyed → Around → (declares : Bool) → Words → List Site
  called_sites k a d no_word = []
  called_sites k a d (next_word x xs) = word_sites k a (word_use d x).0 (word_use d x).1 x ++ called_sites k a d xs

  pub sum_sites : Keyed → Around → Sum → Arith → List Site
  sum_sites k a r (arith e ws ns effects s) = sum_site a r (arith e ws ns effects s) ∷ words_sites k a operand makes_text ws

  pub maybe_sum_sites : Keyed → Around → Sum → MaybeArith → List Site
  maybe_sum_sites k a r no_arith = []
  maybe_sum_sites k a r (some_arith e) = sum_sites k a r e

  -- the name's kind says whether the word counts, or the expression
  pub subscript_sites : Keyed → Around → Name → Subscript → List Site
  subscript_sites k a n (index w e s) = subscript_site a n (index w e s) ∷ (if k n.text then word_sites k a key makes_text w else sum_sites k a indexed e)
  subscript_sites k a n (key_only w bad s) = subscript_site a n (key_only w bad s) ∷ (if k n.text then word_sites k a key makes_text w else [])

  pub maybe_subscript_sites : Keyed → Around → Name → MaybeSubscript → List Site
  maybe_subscript_sites k a n no_subscript = []
  maybe_subscript_sites k a n (some_subscript i) = subscript_sites k a n i

  pub param_sites : Keyed → Around → Param → List Site
  param_sites k a (named n) = []
  param_sites k a (member n i) = subscript_sites k a n i
  param_sites k a (members n b) = []
  param_sites k a (digits text) = []
  param_sites k a count = []
  param_sites k a status = []
  param_sites k a at = []
  param_sites k a star = []

  pub op_sites : Keyed → Around → Within → ParamOp → List Site
  op_sites k a w as_is = []
  op_sites k a w length_of = []
  op_sites k a w keys = []
  op_sites k a w (fill t colon x) = word_sites k a filled (between_braces w) x
  op_sites k a w (trim suffix longest x) = word_sites k a pattern (as_pattern w) x
  op_sites k a w (slice o l) = sum_sites k a sliced o ++ maybe_sum_sites k a sliced l
  op_sites k a w (replace r p x) = word_sites k a pattern (as_pattern w) p ++ word_sites k a replacement (as_pattern w) x
  op_sites k a w (casing upper all) = []

  pub value_sites : Keyed → Around → Use → Value → List Site
  value_sites k a u no_value = []
  value_sites k a u (value w) = word_sites k a u makes_text w
  value_sites k a u (items_value es) = []

  pub element_sites : Keyed → Around → Name → Element → List Site
  element_sites k a n (element no_subscript (value w) s) = element_site a n (element no_subscript (value w) s) ∷ word_sites k a list_item makes_fields w
  element_sites k a n (element no_subscript v s) = element_site a n (element no_subscript v s) ∷ []
  element_sites k a n (element (some_subscript i) v s) = element_site a n (element (some_subscript i) v s) ∷ (subscript_sites k a n i ++ value_sites k a indexed_item v)

  pub elements_sites : Keyed → Around → Name → Elements → List Site
  elements_sites k a n no_element = []
  elements_sites k a n (next_element e es) = element_sites k a n e ++ elements_sites k a n es

  pub given_sites : Keyed → Around → Name → Value → List Site
  given_sites k a n no_value = []
  given_sites k a n (value w) = word_sites k a assigned makes_text w
  given_sites k a n (items_value es) = elements_sites k a n es

  pub assign_sites : Keyed → Around → Role → Assign → List Site
  assign_sites k a r (assign n i adds v s) = assign_site a r (assign n i adds v s) ∷ (maybe_subscript_sites k a n i ++ given_sites k a n v)

  pub assigns_sites : Keyed → Around → Assigns → List Site
  assigns_sites k a no_assign = []
  assigns_sites k a (next_assign x xs) = assign_sites k a leading x ++ assigns_sites k a xs

  pub redirects_sites : Keyed → Around → Redirects → List Site
  redirects_sites k a no_redirect = []
  redirects_sites k a (redirect fd op w s rs) = redirect_site fd op w s ∷ (word_sites k a (aimed op).0 (aimed op).1 w ++ redirects_sites k a rs)

  pub command_sites : Keyed → Around → Command → List Site
  command_sites k a (command c rs s) = command_site a (command c rs s) ∷ (kind_sites k a c ++ redirects_sites k a rs)

  pub kind_sites : Keyed → Around → Kind → List Site
  kind_sites k a (simple xs ws) = assigns_sites k a xs ++ called_sites k a (declares ws) ws
  kind_sites k a (group s) = script_sites k a s
  kind_sites k a (subshell s) = script_sites k (in_subshell a) s
  kind_sites k a (branching bs o) = branches_sites k a bs ++ otherwise_sites k a o
  kind_sites k a (loop until t s) = script_sites k (in_loop a) t ++ script_sites k (in_loop a) s
  kind_sites k a (walk n ws s) = listed_sites k a ws ++ script_sites k (in_loop a) s
  kind_sites k a (arith_loop e f g s) = maybe_sum_sites k a number e ++ (maybe_sum_sites k a number f ++ (maybe_sum_sites k a number g ++ script_sites k (in_loop a) s))
  kind_sites k a (cases w is) = word_sites k a subject makes_text w ++ items_sites k a is
  kind_sites k a (arith_command e) = sum_sites k a number e
  kind_sites k a (conditional c) = cond_sites k a c
  kind_sites k a (function n c) = command_sites k (in_function n.text) c
  kind_sites k a (refused_command c s) = []

  pub branches_sites : Keyed → Around → Branches → List Site
  branches_sites k a no_branch = []
  branches_sites k a (branch t s bs) = script_sites k a t ++ (script_sites k a s ++ branches_sites k a bs)

  pub otherwise_sites : Keyed → Around → Otherwise → List Site
  otherwise_sites k a no_else = []
  otherwise_sites k a (otherwise s) = script_sites k a s

  pub listed_sites : Keyed → Around → ForWords → List Site
  listed_sites k a parameters = []
  listed_sites k a (listed ws) = words_sites k a field makes_fields ws

  pub items_sites : Keyed → Around → Items → List Site
  items_sites k a no_item = []
  items_sites k a (item ps s e is) = words_sites k a pattern makes_text ps ++ (script_sites k a s ++ items_sites k a is)

  pub cond_sites : Keyed → Around → Cond → List Site
  cond_sites k a (or_cond c d) = cond_sites k a c ++ cond_sites k a d
  cond_sites k a (and_cond c d) = cond_sites k a c ++ cond_sites k a d
  cond_sites k a (not_cond c) = cond_sites k a c
  cond_sites k a (text_cond w) = word_sites k a tested makes_text w
  cond_sites k a (unary_cond o w) = test_site (unary_cond o w) ∷ word_sites k a tested makes_text w
  cond_sites k a (binary_cond w o v) = test_site (binary_cond w o v) ∷ (word_sites k a tested makes_text w ++ word_sites k a (use_beside o) makes_text v)

  pub stages_sites : Keyed → Around → Stages → List Site
  stages_sites k a no_stage = []
  stages_sites k a (stage c cs) = command_sites k a c ++ stages_sites k a cs

  pub pipeline_sites : Keyed → Around → Pipeline → List Site
  pipeline_sites k a (pipeline negated cs both) = stages_sites k (staged a cs) cs

  pub links_sites : Keyed → Around → Links → List Site
  links_sites k a no_link = []
  links_sites k a (and_link p ls) = pipeline_sites k a p ++ links_sites k a ls
  links_sites k a (or_link p ls) = pipeline_sites k a p ++ links_sites k a ls

  pub chain_sites : Keyed → Around → Chain → List Site
  chain_sites k a (chain p ls) = pipeline_sites k a p ++ links_sites k a ls

  pub script_sites : Keyed → Around → Script → List Site
  script_sites k a no_chain = []
  script_sites k a (next_chain c background more) = chain_site background ∷ (chain_sites k a c ++ script_sites k a more)

-- all nodes of a script
abbrev pub sites : Keyed → Script → List Site
sites k s = script_sites k outermost s
