-- What was read: the nodes that steps and rules give, and those of one kind among them.
use Rattle.std.specs.Prelude.{ℕ, Bool, true, false, List, [], ◌∷◌, Option, Some, None, ◌==◌, if◌then◌else◌}
use Rattle.span_text.specs.declared.expr.Expr.{Expr}
use Rattle.span_text.specs.declared.span.Span.{Span}
use Rattle.bash_grammar.specs.Shape.{Code, refused_part, Name, TestOp, FillTest, ReplaceAt, ItemEnd, stop, RedirectOp, Part, Parts, no_part, part, Word, word, Words, no_word, next_word, Arith, arith, MaybeArith, no_arith, some_arith, Subscript, MaybeSubscript, no_subscript, some_subscript, ParamOp, as_is, Value, no_value, value, Element, Elements, no_element, next_element, Assign, Assigns, no_assign, next_assign, Redirects, no_redirect, redirect, Command, command, Kind, group, Branches, no_branch, branch, Otherwise, no_else, otherwise, ForWords, parameters, Items, no_item, item, Cond, or_cond, and_cond, not_cond, Stages, no_stage, stage, Pipeline, pipeline, Links, no_link, and_link, or_link, Chain, Script, no_chain, next_chain}
use Rattle.bash_grammar.specs.Heads.{Subject}

pub data Node : Type 0 where
  -- an offset
  mark_node : ℕ → Node
  name_node : Name → Node
  digit_node : ℕ → Node
  -- a descriptor that is refused
  far_node : Node
  -- a part without its span; or what is refused in its place, from its beginning or from an offset
  unit_node : Part → Node
  code_node : Code → Node
  code_at_node : Code → ℕ → Node
  part_node : Part → Span → Node
  operand_node : Word → Node
  -- an expression, its names and effects; or nothing; or what is refused in its place, from the offset where it goes wrong
  sum_node : Expr → List Name → List Span → Span → Node
  blank_node : Node
  bad_node : Code → ℕ → Span → Node
  arith_node : Arith → Node
  -- of a parameter
  subject_node : Subject → (is_length : Bool) → Node
  members_node : Bool → Node
  index_node : Subscript → Node
  fill_node : Option FillTest → (colon : Bool) → Node
  trim_node : (suffix longest : Bool) → Node
  case_node : (upper all : Bool) → Node
  replace_node : ReplaceAt → Node
  operation_node : ParamOp → Node
  word_node : Word → Node
  op_node : RedirectOp → Node
  -- a redirection without its descriptor
  aimed_node : RedirectOp → Word → Node
  redirect_node : Option ℕ → RedirectOp → Word → Span → Node
  append_node : Bool → Node
  value_node : Value → Node
  element_node : Element → Node
  assign_node : Assign → Node
  kind_node : Kind → Node
  command_node : Command → Node
  bang_node : Node
  both_node : Bool → Node
  pipeline_node : Pipeline → Node
  and_node : Pipeline → Node
  or_node : Pipeline → Node
  chain_node : Chain → Node
  ampersand_node : Span → Node
  script_node : Script → Node
  branch_node : Script → Script → Node
  else_node : Script → Node
  listed_node : ForWords → Node
  end_node : ItemEnd → Node
  item_node : Words → Script → ItemEnd → Node
  test_node : TestOp → Node
  cond_node : Cond → Node

-- ---- the nodes of one kind, in their order

abbrev pub parts_in : List Node → Parts
parts_in [] = no_part
parts_in (part_node p s ∷ xs) = part p s (parts_in xs)
parts_in (x ∷ xs) = parts_in xs

abbrev pub words_in : List Node → Words
words_in [] = no_word
words_in (word_node w ∷ xs) = next_word w (words_in xs)
words_in (x ∷ xs) = words_in xs

abbrev pub operands_in : List Node → Words
operands_in [] = no_word
operands_in (operand_node w ∷ xs) = next_word w (operands_in xs)
operands_in (x ∷ xs) = operands_in xs

abbrev pub elements_in : List Node → Elements
elements_in [] = no_element
elements_in (element_node e ∷ xs) = next_element e (elements_in xs)
elements_in (x ∷ xs) = elements_in xs

abbrev pub assigns_in : List Node → Assigns
assigns_in [] = no_assign
assigns_in (assign_node a ∷ xs) = next_assign a (assigns_in xs)
assigns_in (x ∷ xs) = assigns_in xs

abbrev pub redirects_in : List Node → Redirects
redirects_in [] = no_redirect
redirects_in (redirect_node fd op w s ∷ xs) = redirect fd op w s (redirects_in xs)
redirects_in (x ∷ xs) = redirects_in xs

abbrev pub stages_in : List Node → Stages
stages_in [] = no_stage
stages_in (command_node c ∷ xs) = stage c (stages_in xs)
stages_in (x ∷ xs) = stages_in xs

abbrev pub both_in : List Node → List Bool
both_in [] = []
both_in (both_node b ∷ xs) = b ∷ both_in xs
both_in (x ∷ xs) = both_in xs

abbrev pub links_in : List Node → Links
links_in [] = no_link
links_in (and_node p ∷ xs) = and_link p (links_in xs)
links_in (or_node p ∷ xs) = or_link p (links_in xs)
links_in (x ∷ xs) = links_in xs

-- chains, each with the `&` right behind it
abbrev pub chains_in : List Node → Script
chains_in [] = no_chain
chains_in (chain_node c ∷ ampersand_node s ∷ xs) = next_chain c (Some s) (chains_in xs)
chains_in (chain_node c ∷ xs) = next_chain c None (chains_in xs)
chains_in (x ∷ xs) = chains_in xs

abbrev pub branches_in : List Node → Branches
branches_in [] = no_branch
branches_in (branch_node t b ∷ xs) = branch t b (branches_in xs)
branches_in (x ∷ xs) = branches_in xs

abbrev pub items_in : List Node → Items
items_in [] = no_item
items_in (item_node ps b e ∷ xs) = item ps b e (items_in xs)
items_in (x ∷ xs) = items_in xs

-- conditions that are joined, the first with all others
abbrev pub ors_in : Cond → List Node → Cond
ors_in c [] = c
ors_in c (cond_node d ∷ xs) = or_cond c (ors_in d xs)
ors_in c (x ∷ xs) = ors_in c xs

abbrev pub ands_in : Cond → List Node → Cond
ands_in c [] = c
ands_in c (cond_node d ∷ xs) = and_cond c (ands_in d xs)
ands_in c (x ∷ xs) = ands_in c xs

-- the conditions by `join`, if there is one
abbrev pub joined_in : (Cond → List Node → Cond) → List Node → List Node
joined_in join [] = []
joined_in join (cond_node c ∷ xs) = cond_node (join c xs) ∷ []
joined_in join (x ∷ xs) = joined_in join xs

-- a condition behind one `!` more
abbrev pub nots : List Node → List Node
nots [] = []
nots (cond_node c ∷ xs) = cond_node (not_cond c) ∷ []
nots (x ∷ xs) = nots xs

abbrev pub negated_in : List Node → List Node
negated_in [] = []
negated_in (bang_node ∷ xs) = nots (negated_in xs)
negated_in (cond_node c ∷ xs) = cond_node c ∷ []
negated_in (x ∷ xs) = negated_in xs

-- the three parts of `for ((a; b; c))`
abbrev pub slots_in : List Node → List MaybeArith
slots_in [] = []
slots_in (arith_node a ∷ xs) = some_arith a ∷ slots_in xs
slots_in (blank_node ∷ xs) = no_arith ∷ slots_in xs
slots_in (x ∷ xs) = slots_in xs

abbrev pub slot_of : List MaybeArith → MaybeArith
slot_of [] = no_arith
slot_of (a ∷ more) = a

abbrev pub rest_of : List MaybeArith → List MaybeArith
rest_of [] = []
rest_of (a ∷ more) = more

-- ---- marks

abbrev pub last_mark : ℕ → List Node → ℕ
last_mark n [] = n
last_mark n (mark_node m ∷ xs) = last_mark m xs
last_mark n (x ∷ xs) = last_mark n xs

-- from the first mark to the last
abbrev pub span_in : List Node → Span
span_in [] = record { from = 0; to = 0 }
span_in (mark_node n ∷ xs) = record { from = n; to = last_mark n xs }
span_in (x ∷ xs) = span_in xs

-- ---- the first node of a kind

abbrev pub no_name : Name
no_name = record { text = []; span = record { from = 0; to = 0 } }

abbrev pub name_in : List Node → Name
name_in [] = no_name
name_in (name_node n ∷ xs) = n
name_in (x ∷ xs) = name_in xs

abbrev pub has_name : List Node → Bool
has_name [] = false
has_name (name_node n ∷ xs) = true
has_name (x ∷ xs) = has_name xs

abbrev pub digit_in : List Node → Option ℕ
digit_in [] = None
digit_in (digit_node d ∷ xs) = Some d
digit_in (x ∷ xs) = digit_in xs

abbrev pub has_far : List Node → Bool
has_far [] = false
has_far (far_node ∷ xs) = true
has_far (x ∷ xs) = has_far xs

abbrev pub no_words : Span → Word
no_words s = word no_part s

abbrev pub word_in : Word → List Node → Word
word_in other [] = other
word_in other (word_node w ∷ xs) = w
word_in other (x ∷ xs) = word_in other xs

abbrev pub nowhere : Word
nowhere = no_words (record { from = 0; to = 0 })

-- the second word, or an empty one where the first ends
abbrev pub second_word_in : List Node → Word
second_word_in [] = nowhere
second_word_in (word_node (word ps s) ∷ xs) = word_in (no_words (record { from = s.to; to = s.to })) xs
second_word_in (x ∷ xs) = second_word_in xs

abbrev pub value_in : List Node → Value
value_in [] = no_value
value_in (word_node w ∷ xs) = value w
value_in (value_node v ∷ xs) = v
value_in (x ∷ xs) = value_in xs

abbrev pub index_in : List Node → MaybeSubscript
index_in [] = no_subscript
index_in (index_node s ∷ xs) = some_subscript s
index_in (x ∷ xs) = index_in xs

abbrev pub append_in : List Node → Bool
append_in [] = false
append_in (append_node b ∷ xs) = b
append_in (x ∷ xs) = append_in xs

abbrev pub script_in : List Node → Script
script_in [] = no_chain
script_in (script_node s ∷ xs) = s
script_in (x ∷ xs) = script_in xs

abbrev pub second_script_in : List Node → Script
second_script_in [] = no_chain
second_script_in (script_node s ∷ xs) = script_in xs
second_script_in (x ∷ xs) = second_script_in xs

abbrev pub has_bang : List Node → Bool
has_bang [] = false
has_bang (bang_node ∷ xs) = true
has_bang (x ∷ xs) = has_bang xs

abbrev pub else_in : List Node → Otherwise
else_in [] = no_else
else_in (else_node s ∷ xs) = otherwise s
else_in (x ∷ xs) = else_in xs

abbrev pub listed_in : List Node → ForWords
listed_in [] = parameters
listed_in (listed_node ws ∷ xs) = ws
listed_in (x ∷ xs) = listed_in xs

abbrev pub end_in : List Node → ItemEnd
end_in [] = stop
end_in (end_node e ∷ xs) = e
end_in (x ∷ xs) = end_in xs

abbrev pub kind_in : Kind → List Node → Kind
kind_in other [] = other
kind_in other (kind_node k ∷ xs) = k
kind_in other (x ∷ xs) = kind_in other xs

abbrev pub no_command : Command
no_command = command (group no_chain) no_redirect (record { from = 0; to = 0 })

abbrev pub command_in : List Node → Command
command_in [] = no_command
command_in (command_node c ∷ xs) = c
command_in (x ∷ xs) = command_in xs

abbrev pub has_command : List Node → Bool
has_command [] = false
has_command (command_node c ∷ xs) = true
has_command (x ∷ xs) = has_command xs

abbrev pub pipeline_in : List Node → Pipeline
pipeline_in [] = pipeline false no_stage []
pipeline_in (pipeline_node p ∷ xs) = p
pipeline_in (x ∷ xs) = pipeline_in xs

abbrev pub operation_in : List Node → ParamOp
operation_in [] = as_is
operation_in (operation_node o ∷ xs) = o
operation_in (x ∷ xs) = operation_in xs

abbrev pub code_in : List Node → Option Code
code_in [] = None
code_in (code_node c ∷ xs) = Some c
code_in (x ∷ xs) = code_in xs

-- what is refused where the first expression goes wrong, and the offset
abbrev pub bad_in : List Node → Option (Code × ℕ)
bad_in [] = None
bad_in (bad_node c at s ∷ xs) = Some (c, at)
bad_in (x ∷ xs) = bad_in xs

-- an expansion that is refused where the expression goes wrong is what is refused
abbrev pub refused_at : ℕ → Code → Part → Code → Code
refused_at at other (refused_part c s) rest = if s.from == at then c else rest
refused_at at other p rest = rest

abbrev pub code_at : ℕ → Code → List Node → Code
code_at at other [] = other
code_at at other (operand_node (word (part p s ps) t) ∷ xs) = refused_at at other p (code_at at other xs)
code_at at other (x ∷ xs) = code_at at other xs

-- the expression with its operands
abbrev pub arith_of : List Node → List Node → List Node
arith_of all [] = []
arith_of all (sum_node e names effects s ∷ xs) = arith_node (arith e (operands_in all) names effects s) ∷ []
arith_of all (blank_node ∷ xs) = blank_node ∷ []
arith_of all (bad_node c at s ∷ xs) = bad_node (code_at at c all) at s ∷ []
arith_of all (x ∷ xs) = arith_of all xs

abbrev pub arith_in : List Node → List Node
arith_in xs = arith_of xs xs
