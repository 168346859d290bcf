-- The values that the code reads, as those of the grammar.
use Rattle.std.specs.Prelude.{List, [], ◌∷◌, map, Option, Some, None}
use Rattle.sh_grammar.specs.Expansions.{filling, trimming}
use Rattle.sh_grammar.specs.Shape as shape
use Rattle.sh_grammar.specs.State.{Node, text_node, digit_node, part_node, head_node, expr_node, word_node, op_node, aimed_node, redirect_node, assign_node, kind_node, command_node, bang_node, pipeline_node, and_node, or_node, chain_node, script_node, branch_node, else_node, listed_node, item_node}
use Rattle.sh_syntax.specs.declared.tree.Joint.{Joint}
use Rattle.sh_syntax.specs.declared.tree.Part.{Part}
use Rattle.sh_syntax.specs.declared.tree.Joint.TheVariants.{And, Or}
use Rattle.sh_syntax.specs.View.{view, view_param, view_test, view_part, view_word, view_redirect, view_assign, view_command, view_kind, view_pipeline, view_item, view_case_item, view_operator, words_of}
use Rattle.sh_parser.specs.declared.values.Opening.TheVariants as openings
use Rattle.sh_parser.specs.declared.values.Value.{Value}
use Rattle.sh_parser.specs.declared.values.Value.TheVariants as values

abbrev pub joined : Joint → shape.Pipeline → Node
joined And p = and_node p
joined Or p = or_node p

abbrev pub value_node : Value → Node
value_node (values.Name n) = text_node n.text
value_node (values.Digit d) = digit_node d
value_node (values.Part p) = part_node (view_part p)
value_node (values.Opening (openings.Filling p t colon)) = head_node (filling (view_param p) (view_test t) colon)
value_node (values.Opening (openings.Trimming p suffix longest)) = head_node (trimming (view_param p) suffix longest)
value_node (values.Expr e) = expr_node e
value_node (values.Word w) = word_node (view_word w)
value_node (values.Op op) = op_node (view_operator op)
value_node (values.Aimed op w) = aimed_node (view_operator op) (view_word w)
value_node (values.Redirect r) = redirect_node (view_redirect r).fd (view_redirect r).op (view_redirect r).word
value_node (values.Assign a) = assign_node (view_assign a).0 (view_assign a).1
value_node (values.Kind k) = kind_node (view_kind k)
value_node (values.Command c) = command_node (view_command c)
value_node values.Bang = bang_node
value_node (values.Pipeline p) = pipeline_node (view_pipeline p)
value_node (values.Link j p) = joined j (view_pipeline p)
value_node (values.Chain i) = chain_node (view_item i)
value_node (values.Script s) = script_node (view s)
value_node (values.Branch t b) = branch_node (view t) (view b)
value_node (values.Else s) = else_node (view s)
value_node (values.Listed ws) = listed_node (shape.listed (words_of (map view_word ws)))
value_node (values.CaseItem i) = item_node (view_case_item i).0 (view_case_item i).1

-- the values of a list
abbrev pub nodes : List Value → List Node
nodes vs = map value_node vs

-- those of parts of words
abbrev pub part_nodes : List Part → List Node
part_nodes ps = map (λ p. part_node (view_part p)) ps

-- what a step gives, if anything
abbrev pub optional_nodes : Option Value → List Node
optional_nodes None = []
optional_nodes (Some v) = value_node v ∷ []
