-- Where reading is, and what it gives.
use Rattle.std.specs.Prelude.{ℕ, Bool, true, false, List, [], ◌∷◌, Option, Some, None}
use Rattle.span_text.specs.declared.span.Span.{Span}
use Rattle.span_text.specs.declared.expr.Expr.{Expr}
use Rattle.sh_grammar.specs.Shape.{Part, plain, param, arith, fill, trim, no_part, part, Parts, Words, no_word, word, Value, no_value, value, Assigns, no_assign, assign, RedirectOp, Redirects, no_redirect, redirect, Command, command, Kind, group, Branches, no_branch, branch, Otherwise, no_else, otherwise, ForWords, parameters, Items, no_item, item, Stages, no_stage, stage, Pipeline, pipeline, Links, no_link, and_link, or_link, Chain, Script, no_chain, next_chain}
use Rattle.sh_grammar.specs.Bytes.{Text}
use Rattle.sh_grammar.specs.Expansions.{Head, closed, filling, trimming}
use Rattle.sh_grammar.specs.Bodies.{Owed}

-- What was read of an arithmetic expansion: its bytes, and the spans of the expansions that stand in it as operands. Each
-- of these is one byte here.
pub record Sum : Type 0 where
  pub text : Text
  pub operands : List Span

-- The bytes ahead; the here-documents whose bodies are still to come; how many were named; the bodies that came; how deep
-- the nesting is; and the arithmetic expansions that stand open, the innermost first.
pub record State : Type 0 where
  pub bytes : Text
  pub owed : List Owed
  pub named : ℕ
  pub found : List Text
  pub depth : ℕ
  pub sums : List Sum

abbrev pub start_at : ℕ → Text → State
start_at depth bytes = record { bytes = bytes; owed = []; named = 0; found = []; depth = depth; sums = [] }

abbrev pub move : State → Text → State
move s bytes = record s { bytes = bytes }

-- a piece begins here, with here-documents of its own
abbrev pub fresh : State → State
fresh s = start_at 0 s.bytes

-- what was read
pub data Node : Type 0 where
  text_node : Text → Node
  digit_node : ℕ → Node
  part_node : Part → Node
  head_node : Head → Node
  expr_node : Expr → Node
  word_node : Parts → Node
  op_node : RedirectOp → Node
  -- a redirection without its descriptor
  aimed_node : RedirectOp → Parts → Node
  redirect_node : Option ℕ → RedirectOp → Parts → Node
  assign_node : Text → Value → Node
  kind_node : Kind → Node
  command_node : Command → Node
  bang_node : Node
  pipeline_node : Pipeline → Node
  and_node : Pipeline → Node
  or_node : Pipeline → Node
  chain_node : Chain → Node
  script_node : Script → Node
  branch_node : Script → Script → Node
  else_node : Script → Node
  listed_node : ForWords → Node
  item_node : Words → Script → Node

-- ---- the nodes of one kind, in their order

abbrev pub parts_in : List Node → Parts
parts_in [] = no_part
parts_in (part_node p ∷ xs) = part p (parts_in xs)
parts_in (x ∷ xs) = parts_in xs

abbrev pub words_in : List Node → Words
words_in [] = no_word
words_in (word_node w ∷ xs) = word w (words_in xs)
words_in (x ∷ xs) = words_in xs

abbrev pub assigns_in : List Node → Assigns
assigns_in [] = no_assign
assigns_in (assign_node n v ∷ xs) = assign n v (assigns_in xs)
assigns_in (x ∷ xs) = assigns_in xs

abbrev pub redirects_in : List Node → Redirects
redirects_in [] = no_redirect
redirects_in (redirect_node fd op w ∷ xs) = redirect fd op w (redirects_in xs)
redirects_in (x ∷ xs) = redirects_in xs

abbrev pub stages_in : List Node → Stages
stages_in [] = no_stage
stages_in (command_node c ∷ xs) = stage c (stages_in xs)
stages_in (x ∷ xs) = stages_in xs

abbrev pub links_in : List Node → Links
links_in [] = no_link
links_in (and_node p ∷ xs) = and_link p (links_in xs)
links_in (or_node p ∷ xs) = or_link p (links_in xs)
links_in (x ∷ xs) = links_in xs

abbrev pub chains_in : List Node → Script
chains_in [] = no_chain
chains_in (chain_node c ∷ xs) = next_chain c (chains_in xs)
chains_in (x ∷ xs) = chains_in xs

abbrev pub branches_in : List Node → Branches
branches_in [] = no_branch
branches_in (branch_node t b ∷ xs) = branch t b (branches_in xs)
branches_in (x ∷ xs) = branches_in xs

abbrev pub items_in : List Node → Items
items_in [] = no_item
items_in (item_node ps b ∷ xs) = item ps b (items_in xs)
items_in (x ∷ xs) = items_in xs

-- ---- the first node of a kind

abbrev pub text_in : List Node → Text
text_in [] = []
text_in (text_node t ∷ xs) = t
text_in (x ∷ xs) = text_in xs

abbrev pub digit_in : List Node → Option ℕ
digit_in [] = None
digit_in (digit_node d ∷ xs) = Some d
digit_in (x ∷ xs) = digit_in xs

abbrev pub word_in : List Node → Parts
word_in [] = no_part
word_in (word_node w ∷ xs) = w
word_in (x ∷ xs) = word_in xs

abbrev pub value_in : List Node → Value
value_in [] = no_value
value_in (word_node w ∷ xs) = value w
value_in (x ∷ xs) = value_in xs

abbrev pub script_in : List Node → Script
script_in [] = no_chain
script_in (script_node s ∷ xs) = s
script_in (x ∷ xs) = script_in xs

abbrev pub second_script_in : List Node → Script
second_script_in [] = no_chain
second_script_in (script_node s ∷ xs) = script_in xs
second_script_in (x ∷ xs) = second_script_in xs

abbrev pub has_bang : List Node → Bool
has_bang [] = false
has_bang (bang_node ∷ xs) = true
has_bang (x ∷ xs) = has_bang xs

abbrev pub else_in : List Node → Otherwise
else_in [] = no_else
else_in (else_node s ∷ xs) = otherwise s
else_in (x ∷ xs) = else_in xs

abbrev pub listed_in : List Node → ForWords
listed_in [] = parameters
listed_in (listed_node ws ∷ xs) = ws
listed_in (x ∷ xs) = listed_in xs

abbrev pub no_kind : Kind
no_kind = group no_chain

abbrev pub kind_in : List Node → Kind
kind_in [] = no_kind
kind_in (kind_node k ∷ xs) = k
kind_in (x ∷ xs) = kind_in xs

abbrev pub command_in : List Node → Command
command_in [] = command no_kind no_redirect
command_in (command_node c ∷ xs) = c
command_in (x ∷ xs) = command_in xs

abbrev pub pipeline_in : List Node → Pipeline
pipeline_in [] = pipeline false no_stage
pipeline_in (pipeline_node p ∷ xs) = p
pipeline_in (x ∷ xs) = pipeline_in xs

abbrev pub filled : Head → Parts → Part
filled (closed p o) w = param p o
filled (filling p t c) w = param p (fill t c w)
filled (trimming p s l) w = param p (trim s l w)

-- the part of a parameter and the word behind its operator
abbrev pub filled_in : List Node → Parts → Part
filled_in [] w = plain []
filled_in (head_node h ∷ xs) w = filled h w
filled_in (x ∷ xs) w = filled_in xs w

-- the redirection of a descriptor
abbrev pub aimed_in : List Node → Option ℕ → List Node
aimed_in [] fd = []
aimed_in (aimed_node op w ∷ xs) fd = redirect_node fd op w ∷ []
aimed_in (x ∷ xs) fd = aimed_in xs fd

abbrev pub op_in : List Node → Parts → List Node
op_in [] w = []
op_in (op_node op ∷ xs) w = aimed_node op w ∷ []
op_in (x ∷ xs) w = op_in xs w

-- the operands of an arithmetic expansion, each a word of one part
abbrev pub operands_in : List Node → Words
operands_in [] = no_word
operands_in (part_node p ∷ xs) = word (part p no_part) (operands_in xs)
operands_in (x ∷ xs) = operands_in xs

abbrev pub sum_in : List Node → Words → Part
sum_in [] ws = plain []
sum_in (expr_node e ∷ xs) ws = arith e ws
sum_in (x ∷ xs) ws = sum_in xs ws
