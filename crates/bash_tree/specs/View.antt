-- The tree of the code, without places and without where it lies in memory.
use Rattle.std.specs.Prelude.{ℕ, Bool, List, [], ◌∷◌, map, Option, Some, None}
use Rattle.span_text.specs.declared.span.Span.{Span}
use Rattle.bash_tree.specs.declared.tree.PartKind.{PartKind, PartKind-F, fold-PartKind}
use Rattle.bash_tree.specs.declared.tree.Part.{Part, Part-F, fold-Part}
use Rattle.bash_tree.specs.declared.tree.Param.{Param}
use Rattle.bash_tree.specs.declared.tree.Param.TheVariants.{Name as NameParam}
use Rattle.bash_tree.specs.declared.tree.Word.{Word}
use Rattle.bash_tree.specs.declared.tree.Assign.{Assign}
use Rattle.bash_tree.specs.declared.tree.AssignValue.{AssignValue}
use Rattle.bash_tree.specs.declared.tree.AssignValue.TheVariants.{Word as WordValue}
use Rattle.bash_tree.specs.declared.tree.CommandKind.{CommandKind}
use Rattle.bash_tree.specs.declared.tree.CommandKind.TheVariants.{Simple}
use Rattle.bash_tree.specs.declared.tree.Command.{Command}
use Rattle.bash_tree.specs.declared.tree.Pipeline.{Pipeline}
use Rattle.bash_tree.specs.declared.tree.Joint.{Joint}
use Rattle.bash_tree.specs.declared.tree.Joint.TheVariants.{And, Or}
use Rattle.bash_tree.specs.declared.tree.AndOr.{AndOr}
use Rattle.bash_tree.specs.declared.tree.Item.{Item}
use Rattle.bash_tree.specs.declared.tree.Script.{Script}
use Rattle.bash_tree.specs.Shape as shape

abbrev pub name_of_param : Param → List ℕ
name_of_param (NameParam name) = name.text

abbrev pub parts_of : List shape.Part → shape.Parts
parts_of [] = shape.no_part
parts_of (p ∷ ps) = shape.part p (parts_of ps)

abbrev pub kind_step : PartKind-F shape.Part shape.Part → shape.Part
kind_step (PartKind-F.Plain text) = shape.plain text
kind_step (PartKind-F.Exact text) = shape.exact text
kind_step (PartKind-F.Double parts) = shape.double (parts_of parts)
kind_step (PartKind-F.Param name op) = shape.param (name_of_param name)

abbrev pub part_step : Part-F shape.Part shape.Part → shape.Part
part_step p = p.kind

unfoldable pub view_kind : PartKind → shape.Part
view_kind = fold-PartKind shape.Part shape.Part kind_step part_step

unfoldable pub view_part : Part → shape.Part
view_part = fold-Part shape.Part shape.Part kind_step part_step

abbrev pub view_word : Word → shape.Parts
view_word w = parts_of (map view_part w.parts)

abbrev pub words_of : List Word → shape.Words
words_of [] = shape.no_word
words_of (w ∷ ws) = shape.word (view_word w) (words_of ws)

abbrev pub value_of : Option Word → shape.Value
value_of None = shape.no_value
value_of (Some w) = shape.value (view_word w)

abbrev pub view_value : AssignValue → shape.Value
view_value (WordValue w) = value_of w

abbrev pub assigns_of : List Assign → shape.Assigns
assigns_of [] = shape.no_assign
assigns_of (a ∷ as') = shape.assign a.name.text a.append (view_value a.value) (assigns_of as')

abbrev pub assigns_in : CommandKind → List Assign
assigns_in (Simple assigns words) = assigns

abbrev pub words_in : CommandKind → List Word
words_in (Simple assigns words) = words

abbrev pub command_of : CommandKind → shape.Command
command_of (Simple assigns words) = shape.simple (assigns_of assigns) (words_of words)

abbrev pub stages_of : List Command → shape.Stages
stages_of [] = shape.no_stage
stages_of (c ∷ cs) = shape.stage (command_of c.kind) (stages_of cs)

abbrev pub view_pipeline : Pipeline → shape.Pipeline
view_pipeline p = shape.pipeline p.negated (stages_of p.stages)

abbrev pub link_of : Joint → shape.Pipeline → shape.Links → shape.Links
link_of And p ls = shape.and_link p ls
link_of Or p ls = shape.or_link p ls

abbrev pub links_of : List (Joint × Pipeline) → shape.Links
links_of [] = shape.no_link
links_of (l ∷ ls) = link_of l.0 (view_pipeline l.1) (links_of ls)

abbrev pub view_chain : AndOr → shape.Chain
view_chain a = shape.chain (view_pipeline a.first) (links_of a.rest)

abbrev pub item_of : Option Span → shape.Chain → shape.Script → shape.Script
item_of None c s = shape.item c s
item_of (Some at) c s = shape.background_item c s

abbrev pub items_of : List Item → shape.Script
items_of [] = shape.no_item
items_of (i ∷ is) = item_of i.background (view_chain i.chain) (items_of is)

-- the whole script
abbrev pub view : Script → shape.Script
view s = items_of s.items
