-- Each node of a Bash tree, as it is lowered; and the links of an sh tree, seen one by one.
use Rattle.std.specs.Prelude.{ℕ, List, [], map, Some, None}
use Rattle.bash_tree.specs.declared.tree.Part.{Part}
use Rattle.bash_tree.specs.declared.tree.Word.{Word}
use Rattle.bash_tree.specs.declared.tree.Assign.{Assign}
use Rattle.bash_tree.specs.declared.tree.AssignValue.{AssignValue}
use Rattle.bash_tree.specs.declared.tree.AssignValue.TheVariants.{Word as WordValue}
use Rattle.bash_tree.specs.declared.tree.Command.{Command}
use Rattle.bash_tree.specs.declared.tree.Pipeline.{Pipeline}
use Rattle.bash_tree.specs.declared.tree.Joint.{Joint}
use Rattle.bash_tree.specs.declared.tree.Joint.TheVariants.{And, Or}
use Rattle.bash_tree.specs.declared.tree.Item.{Item}
use Rattle.bash_tree.specs.View.{view_part, view_word, view_value, command_of, view_pipeline, view_chain}
use Rattle.sh_grammar.specs.Shape as shape
use Rattle.sh_syntax.specs.declared.tree.Pipeline.{Pipeline as ShPipeline}
use Rattle.sh_syntax.specs.declared.tree.Joint.{Joint as ShJoint}
use Rattle.sh_syntax.specs.declared.tree.Joint.TheVariants.{And as ShAnd, Or as ShOr}
use Rattle.sh_syntax.specs.View as sh
use Rattle.bash2sh.specs.Lower.{lower_part, lower_parts, lower_value, lower_command, lower_pipeline, lower_chain}

abbrev pub part_lowered : Part → shape.Part
part_lowered p = lower_part (view_part p)

abbrev pub word_lowered : Word → shape.Parts
word_lowered w = lower_parts (view_word w)

-- the parts of a value, none where there is no word
abbrev pub value_parts_lowered : AssignValue → List shape.Part
value_parts_lowered (WordValue None) = []
value_parts_lowered (WordValue (Some w)) = map part_lowered w.parts

-- an assignment: its name and its value
abbrev pub assign_lowered : Assign → List ℕ × shape.Value
assign_lowered a = (a.name.text, lower_value a.append a.name.text (view_value a.value))

abbrev pub command_lowered : Command → shape.Command
command_lowered c = lower_command (command_of c.kind)

abbrev pub joint_lowered : Joint → ShJoint
joint_lowered And = ShAnd
joint_lowered Or = ShOr

-- a pipeline behind others
abbrev pub link_seen : ShJoint × ShPipeline → ShJoint × shape.Pipeline
link_seen l = (l.0, sh.view_pipeline l.1)

abbrev pub link_lowered : Joint × Pipeline → ShJoint × shape.Pipeline
link_lowered l = (joint_lowered l.0, lower_pipeline (view_pipeline l.1))

abbrev pub item_lowered : Item → shape.Chain
item_lowered i = lower_chain (view_chain i.chain)
