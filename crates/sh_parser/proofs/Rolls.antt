-- Nodes of the code's tree that are made of others, as plain data.
use Rattle.std.proofs.Common.{◌≡◌, ℕ, Bool, List}
use Rattle.std.specs.Prelude.{map, Option}
use Rattle.span_text.specs.declared.span.Span.{Span}
use Rattle.span_text.specs.declared.expr.Expr.{Expr}
use Rattle.sh_syntax.specs.declared.tree.Joint.{Joint}
use Rattle.sh_syntax.specs.declared.tree.Name.{Name}
use Rattle.sh_syntax.specs.declared.tree.RedirectOp.{RedirectOp}
use Rattle.sh_syntax.specs.declared.tree.CommandKind.{CommandKind}
use Rattle.sh_syntax.specs.declared.tree.Part.{Part}
use Rattle.sh_syntax.specs.declared.tree.Script.{Script, roll-Script}
use Rattle.sh_syntax.specs.declared.tree.Item.{Item, roll-Item}
use Rattle.sh_syntax.specs.declared.tree.AndOr.{AndOr, roll-AndOr}
use Rattle.sh_syntax.specs.declared.tree.Pipeline.{Pipeline, roll-Pipeline}
use Rattle.sh_syntax.specs.declared.tree.Command.{Command, roll-Command}
use Rattle.sh_syntax.specs.declared.tree.Function.{roll-Function}
use Rattle.sh_syntax.specs.declared.tree.CaseItem.{roll-CaseItem}
use Rattle.sh_syntax.specs.declared.tree.Redirect.{Redirect, roll-Redirect}
use Rattle.sh_syntax.specs.declared.tree.Arith.{roll-Arith}
use Rattle.sh_syntax.specs.declared.tree.Word.{Word, roll-Word}
use Rattle.sh_syntax.specs.declared.tree.AssignValue.TheFolds.{fold-roll-Script, fold-roll-Item, fold-roll-AndOr, fold-roll-Pipeline, fold-roll-Command, fold-roll-Function, fold-roll-CaseItem, fold-roll-Redirect, fold-roll-Arith, fold-roll-Word}
use Rattle.sh_grammar.specs.Shape as shape
use Rattle.sh_syntax.specs.View.{Named, Sum, Aimed, view_operator, parts_of, words_of, redirects_of, stages_of, links_of, items_of, value_step, kind_step, op_step, part_kind_step, chain_step, arith_step, assign_step, case_item_step, command_step, function_step, item_step, part_step, pipeline_step, redirect_step, script_step, word_step, view_value, view_kind, view_op, view_part_kind, view_chain, view_arith, view_assign, view_case_item, view_command, view_function, view_item, view_part, view_pipeline, view_redirect, view, view_word}

pub script_rolled : (items : List Item) → view (roll-Script (record { items = items })) ≡ items_of (map view_item items)
unfolding view_value view_kind view_op view_part_kind view_chain view_arith view_assign view_case_item view_command view_function view_item view_part view_pipeline view_redirect view view_word
script_rolled items = fold-roll-Script shape.Value shape.Kind shape.ParamOp shape.Part shape.Chain Sum (List ℕ × shape.Value) (shape.Words × shape.Script) shape.Command Named shape.Chain shape.Part shape.Pipeline Aimed shape.Script shape.Parts value_step kind_step op_step part_kind_step chain_step arith_step assign_step case_item_step command_step function_step item_step part_step pipeline_step redirect_step script_step word_step (record { items = items })

pub item_rolled : (chain : AndOr) → view_item (roll-Item (record { chain = chain })) ≡ view_chain chain
unfolding view_value view_kind view_op view_part_kind view_chain view_arith view_assign view_case_item view_command view_function view_item view_part view_pipeline view_redirect view view_word
item_rolled chain = fold-roll-Item shape.Value shape.Kind shape.ParamOp shape.Part shape.Chain Sum (List ℕ × shape.Value) (shape.Words × shape.Script) shape.Command Named shape.Chain shape.Part shape.Pipeline Aimed shape.Script shape.Parts value_step kind_step op_step part_kind_step chain_step arith_step assign_step case_item_step command_step function_step item_step part_step pipeline_step redirect_step script_step word_step (record { chain = chain })

pub chain_rolled : (first : Pipeline) (rest : List (Joint × Pipeline)) → view_chain (roll-AndOr (record { first = first; rest = rest })) ≡ shape.chain (view_pipeline first) (links_of (map (λ l. (l.0, view_pipeline l.1)) rest))
unfolding view_value view_kind view_op view_part_kind view_chain view_arith view_assign view_case_item view_command view_function view_item view_part view_pipeline view_redirect view view_word
chain_rolled first rest = fold-roll-AndOr shape.Value shape.Kind shape.ParamOp shape.Part shape.Chain Sum (List ℕ × shape.Value) (shape.Words × shape.Script) shape.Command Named shape.Chain shape.Part shape.Pipeline Aimed shape.Script shape.Parts value_step kind_step op_step part_kind_step chain_step arith_step assign_step case_item_step command_step function_step item_step part_step pipeline_step redirect_step script_step word_step (record { first = first; rest = rest })

pub pipeline_rolled : (negated : Bool) (stages : List Command) → view_pipeline (roll-Pipeline (record { negated = negated; stages = stages })) ≡ shape.pipeline negated (stages_of (map view_command stages))
unfolding view_value view_kind view_op view_part_kind view_chain view_arith view_assign view_case_item view_command view_function view_item view_part view_pipeline view_redirect view view_word
pipeline_rolled negated stages = fold-roll-Pipeline shape.Value shape.Kind shape.ParamOp shape.Part shape.Chain Sum (List ℕ × shape.Value) (shape.Words × shape.Script) shape.Command Named shape.Chain shape.Part shape.Pipeline Aimed shape.Script shape.Parts value_step kind_step op_step part_kind_step chain_step arith_step assign_step case_item_step command_step function_step item_step part_step pipeline_step redirect_step script_step word_step (record { negated = negated; stages = stages })

pub command_rolled : (kind : CommandKind) (redirects : List Redirect) (span : Span) → view_command (roll-Command (record { kind = kind; redirects = redirects; span = span })) ≡ shape.command (view_kind kind) (redirects_of (map view_redirect redirects))
unfolding view_value view_kind view_op view_part_kind view_chain view_arith view_assign view_case_item view_command view_function view_item view_part view_pipeline view_redirect view view_word
command_rolled kind redirects span = fold-roll-Command shape.Value shape.Kind shape.ParamOp shape.Part shape.Chain Sum (List ℕ × shape.Value) (shape.Words × shape.Script) shape.Command Named shape.Chain shape.Part shape.Pipeline Aimed shape.Script shape.Parts value_step kind_step op_step part_kind_step chain_step arith_step assign_step case_item_step command_step function_step item_step part_step pipeline_step redirect_step script_step word_step (record { kind = kind; redirects = redirects; span = span })

pub function_rolled : (name : Name) (body : Command) → view_function (roll-Function (record { name = name; body = body })) ≡ (name.text, view_command body)
unfolding view_value view_kind view_op view_part_kind view_chain view_arith view_assign view_case_item view_command view_function view_item view_part view_pipeline view_redirect view view_word
function_rolled name body = fold-roll-Function shape.Value shape.Kind shape.ParamOp shape.Part shape.Chain Sum (List ℕ × shape.Value) (shape.Words × shape.Script) shape.Command Named shape.Chain shape.Part shape.Pipeline Aimed shape.Script shape.Parts value_step kind_step op_step part_kind_step chain_step arith_step assign_step case_item_step command_step function_step item_step part_step pipeline_step redirect_step script_step word_step (record { name = name; body = body })

pub case_item_rolled : (patterns : List Word) (body : Script) → view_case_item (roll-CaseItem (record { patterns = patterns; body = body })) ≡ (words_of (map view_word patterns), view body)
unfolding view_value view_kind view_op view_part_kind view_chain view_arith view_assign view_case_item view_command view_function view_item view_part view_pipeline view_redirect view view_word
case_item_rolled patterns body = fold-roll-CaseItem shape.Value shape.Kind shape.ParamOp shape.Part shape.Chain Sum (List ℕ × shape.Value) (shape.Words × shape.Script) shape.Command Named shape.Chain shape.Part shape.Pipeline Aimed shape.Script shape.Parts value_step kind_step op_step part_kind_step chain_step arith_step assign_step case_item_step command_step function_step item_step part_step pipeline_step redirect_step script_step word_step (record { patterns = patterns; body = body })

pub redirect_rolled : (fd : Option ℕ) (op : RedirectOp) (word : Word) (span : Span) → view_redirect (roll-Redirect (record { fd = fd; op = op; word = word; span = span })) ≡ record { fd = fd; op = view_operator op; word = view_word word }
unfolding view_value view_kind view_op view_part_kind view_chain view_arith view_assign view_case_item view_command view_function view_item view_part view_pipeline view_redirect view view_word
redirect_rolled fd op word span = fold-roll-Redirect shape.Value shape.Kind shape.ParamOp shape.Part shape.Chain Sum (List ℕ × shape.Value) (shape.Words × shape.Script) shape.Command Named shape.Chain shape.Part shape.Pipeline Aimed shape.Script shape.Parts value_step kind_step op_step part_kind_step chain_step arith_step assign_step case_item_step command_step function_step item_step part_step pipeline_step redirect_step script_step word_step (record { fd = fd; op = op; word = word; span = span })

pub arith_rolled : (expr : Expr) (operands : List Word) (span : Span) → view_arith (roll-Arith (record { expr = expr; operands = operands; span = span })) ≡ (expr, words_of (map view_word operands))
unfolding view_value view_kind view_op view_part_kind view_chain view_arith view_assign view_case_item view_command view_function view_item view_part view_pipeline view_redirect view view_word
arith_rolled expr operands span = fold-roll-Arith shape.Value shape.Kind shape.ParamOp shape.Part shape.Chain Sum (List ℕ × shape.Value) (shape.Words × shape.Script) shape.Command Named shape.Chain shape.Part shape.Pipeline Aimed shape.Script shape.Parts value_step kind_step op_step part_kind_step chain_step arith_step assign_step case_item_step command_step function_step item_step part_step pipeline_step redirect_step script_step word_step (record { expr = expr; operands = operands; span = span })

pub word_rolled : (parts : List Part) (span : Span) → view_word (roll-Word (record { parts = parts; span = span })) ≡ parts_of (map view_part parts)
unfolding view_value view_kind view_op view_part_kind view_chain view_arith view_assign view_case_item view_command view_function view_item view_part view_pipeline view_redirect view view_word
word_rolled parts span = fold-roll-Word shape.Value shape.Kind shape.ParamOp shape.Part shape.Chain Sum (List ℕ × shape.Value) (shape.Words × shape.Script) shape.Command Named shape.Chain shape.Part shape.Pipeline Aimed shape.Script shape.Parts value_step kind_step op_step part_kind_step chain_step arith_step assign_step case_item_step command_step function_step item_step part_step pipeline_step redirect_step script_step word_step (record { parts = parts; span = span })
