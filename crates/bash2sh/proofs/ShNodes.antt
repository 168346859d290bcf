-- Nodes of the sh tree that are made of others, as plain data.
use Rattle.std.proofs.Common.{◌≡◌, ℕ, Bool, List}
use Rattle.std.specs.Prelude.{map, Some, None}
use Rattle.span_text.specs.declared.span.Span.{Span}
use Rattle.sh_syntax.specs.declared.tree.Joint.{Joint}
use Rattle.sh_syntax.specs.declared.tree.CommandKind.{CommandKind}
use Rattle.sh_syntax.specs.declared.tree.Part.{Part}
use Rattle.sh_syntax.specs.declared.tree.Redirect.{Redirect}
use Rattle.sh_syntax.specs.declared.tree.Script.{roll-Script}
use Rattle.sh_syntax.specs.declared.tree.Item.{Item, roll-Item}
use Rattle.sh_syntax.specs.declared.tree.AndOr.{AndOr, roll-AndOr}
use Rattle.sh_syntax.specs.declared.tree.Pipeline.{Pipeline, roll-Pipeline}
use Rattle.sh_syntax.specs.declared.tree.Command.{Command, roll-Command}
use Rattle.sh_syntax.specs.declared.tree.Word.{Word, roll-Word}
use Rattle.sh_syntax.specs.declared.tree.AssignValue.TheFolds.{fold-roll-Script, fold-roll-Item, fold-roll-AndOr, fold-roll-Pipeline, fold-roll-Command, fold-roll-Word}
use Rattle.sh_syntax.specs.declared.tree.AssignValue.TheVariants as value'
use Rattle.sh_syntax.proofs.Views.{value_is}
use Rattle.sh_grammar.specs.Shape as shape
use Rattle.sh_syntax.specs.View.{Named, Sum, Aimed, parts_of, redirects_of, stages_of, links_of, items_of, value_step, kind_step, op_step, part_kind_step, chain_step, arith_step, assign_step, case_item_step, command_step, function_step, item_step, part_step, pipeline_step, redirect_step, script_step, word_step, view_value, view_kind, view_op, view_part_kind, view_chain, view_arith, view_assign, view_case_item, view_command, view_function, view_item, view_part, view_pipeline, view_redirect, view, view_word}

pub script_rolled : (items : List Item) → view (roll-Script (record { items = items })) ≡ items_of (map view_item items)
unfolding view_value view_kind view_op view_part_kind view_chain view_arith view_assign view_case_item view_command view_function view_item view_part view_pipeline view_redirect view view_word
script_rolled items = fold-roll-Script shape.Value shape.Kind shape.ParamOp shape.Part shape.Chain Sum (List ℕ × shape.Value) (shape.Words × shape.Script) shape.Command Named shape.Chain shape.Part shape.Pipeline Aimed shape.Script shape.Parts value_step kind_step op_step part_kind_step chain_step arith_step assign_step case_item_step command_step function_step item_step part_step pipeline_step redirect_step script_step word_step (record { items = items })

pub item_rolled : (chain : AndOr) → view_item (roll-Item (record { chain = chain })) ≡ view_chain chain
unfolding view_value view_kind view_op view_part_kind view_chain view_arith view_assign view_case_item view_command view_function view_item view_part view_pipeline view_redirect view view_word
item_rolled chain = fold-roll-Item shape.Value shape.Kind shape.ParamOp shape.Part shape.Chain Sum (List ℕ × shape.Value) (shape.Words × shape.Script) shape.Command Named shape.Chain shape.Part shape.Pipeline Aimed shape.Script shape.Parts value_step kind_step op_step part_kind_step chain_step arith_step assign_step case_item_step command_step function_step item_step part_step pipeline_step redirect_step script_step word_step (record { chain = chain })

pub chain_rolled : (first : Pipeline) (rest : List (Joint × Pipeline)) → view_chain (roll-AndOr (record { first = first; rest = rest })) ≡ shape.chain (view_pipeline first) (links_of (map (λ l. (l.0, view_pipeline l.1)) rest))
unfolding view_value view_kind view_op view_part_kind view_chain view_arith view_assign view_case_item view_command view_function view_item view_part view_pipeline view_redirect view view_word
chain_rolled first rest = fold-roll-AndOr shape.Value shape.Kind shape.ParamOp shape.Part shape.Chain Sum (List ℕ × shape.Value) (shape.Words × shape.Script) shape.Command Named shape.Chain shape.Part shape.Pipeline Aimed shape.Script shape.Parts value_step kind_step op_step part_kind_step chain_step arith_step assign_step case_item_step command_step function_step item_step part_step pipeline_step redirect_step script_step word_step (record { first = first; rest = rest })

pub pipeline_rolled : (negated : Bool) (stages : List Command) → view_pipeline (roll-Pipeline (record { negated = negated; stages = stages })) ≡ shape.pipeline negated (stages_of (map view_command stages))
unfolding view_value view_kind view_op view_part_kind view_chain view_arith view_assign view_case_item view_command view_function view_item view_part view_pipeline view_redirect view view_word
pipeline_rolled negated stages = fold-roll-Pipeline shape.Value shape.Kind shape.ParamOp shape.Part shape.Chain Sum (List ℕ × shape.Value) (shape.Words × shape.Script) shape.Command Named shape.Chain shape.Part shape.Pipeline Aimed shape.Script shape.Parts value_step kind_step op_step part_kind_step chain_step arith_step assign_step case_item_step command_step function_step item_step part_step pipeline_step redirect_step script_step word_step (record { negated = negated; stages = stages })

pub command_rolled : (kind : CommandKind) (redirects : List Redirect) (span : Span) → view_command (roll-Command (record { kind = kind; redirects = redirects; span = span })) ≡ shape.command (view_kind kind) (redirects_of (map view_redirect redirects))
unfolding view_value view_kind view_op view_part_kind view_chain view_arith view_assign view_case_item view_command view_function view_item view_part view_pipeline view_redirect view view_word
command_rolled kind redirects span = fold-roll-Command shape.Value shape.Kind shape.ParamOp shape.Part shape.Chain Sum (List ℕ × shape.Value) (shape.Words × shape.Script) shape.Command Named shape.Chain shape.Part shape.Pipeline Aimed shape.Script shape.Parts value_step kind_step op_step part_kind_step chain_step arith_step assign_step case_item_step command_step function_step item_step part_step pipeline_step redirect_step script_step word_step (record { kind = kind; redirects = redirects; span = span })

pub word_rolled : (parts : List Part) (span : Span) → view_word (roll-Word (record { parts = parts; span = span })) ≡ parts_of (map view_part parts)
unfolding view_value view_kind view_op view_part_kind view_chain view_arith view_assign view_case_item view_command view_function view_item view_part view_pipeline view_redirect view view_word
word_rolled parts span = fold-roll-Word shape.Value shape.Kind shape.ParamOp shape.Part shape.Chain Sum (List ℕ × shape.Value) (shape.Words × shape.Script) shape.Command Named shape.Chain shape.Part shape.Pipeline Aimed shape.Script shape.Parts value_step kind_step op_step part_kind_step chain_step arith_step assign_step case_item_step command_step function_step item_step part_step pipeline_step redirect_step script_step word_step (record { parts = parts; span = span })

pub no_value_seen : view_value (value'.Word None) ≡ shape.no_value
no_value_seen = value_is None

pub value_seen : (w : Word) → view_value (value'.Word (Some w)) ≡ shape.value (view_word w)
value_seen w = value_is (Some w)
