-- A list of nodes that are lowered one by one is the list, lowered.
use Rattle.std.proofs.Common.{◌≡◌, ℕ, List, [], ◌∷◌, refl, ap, ◌∙◌}
use Rattle.std.specs.Prelude.{map, Option, Some, None}
use Rattle.span_text.specs.declared.span.Span.{Span}
use Rattle.bash_tree.specs.Shape as bash
use Rattle.bash_tree.specs.declared.tree.Part.{Part}
use Rattle.bash_tree.specs.declared.tree.Word.{Word}
use Rattle.bash_tree.specs.declared.tree.Assign.{Assign}
use Rattle.bash_tree.specs.declared.tree.AssignValue.{AssignValue}
use Rattle.bash_tree.specs.declared.tree.AssignValue.TheVariants.{Word as WordValue}
use Rattle.bash_tree.specs.declared.tree.Command.{Command}
use Rattle.bash_tree.specs.declared.tree.Pipeline.{Pipeline}
use Rattle.bash_tree.specs.declared.tree.Joint.{Joint}
use Rattle.bash_tree.specs.declared.tree.Joint.TheVariants.{And, Or}
use Rattle.bash_tree.specs.declared.tree.Item.{Item}
use Rattle.bash_tree.specs.View.{view_part, parts_of, words_of, view_value, assigns_of, stages_of, links_of, link_of, view_pipeline, items_of, item_of, view_chain}
use Rattle.sh_grammar.specs.Shape as shape
use Rattle.sh_syntax.specs.declared.tree.Part.{Part as ShPart}
use Rattle.sh_syntax.specs.declared.tree.Word.{Word as ShWord}
use Rattle.sh_syntax.specs.declared.tree.Assign.{Assign as ShAssign}
use Rattle.sh_syntax.specs.declared.tree.Command.{Command as ShCommand}
use Rattle.sh_syntax.specs.declared.tree.Pipeline.{Pipeline as ShPipeline}
use Rattle.sh_syntax.specs.declared.tree.Joint.{Joint as ShJoint}
use Rattle.sh_syntax.specs.declared.tree.Item.{Item as ShItem}
use Rattle.sh_syntax.specs.View as sh
use Rattle.bash2sh.specs.Lower.{lower_parts, quoted_name, parts_of_value, lower_words, lower_assigns, lower_stages, lower_pipeline, lower_links, lower_chain, lower}
use Rattle.bash2sh.specs.Trees.{part_lowered, value_parts_lowered, word_lowered, assign_lowered, command_lowered, joint_lowered, link_seen, link_lowered, item_lowered}

-- ---- parts

lowered_parts : (ps : List Part) → sh.parts_of (map part_lowered ps) ≡ lower_parts (parts_of (map view_part ps))
lowered_parts [] = refl
lowered_parts (p ∷ ps) = ap (λ (x : shape.Parts). shape.part (part_lowered p) x) (lowered_parts ps)

pub parts_lowered : (qs : List ShPart) (ps : List Part) → map sh.view_part qs ≡ map part_lowered ps → sh.parts_of (map sh.view_part qs) ≡ lower_parts (parts_of (map view_part ps))
parts_lowered qs ps e = ap sh.parts_of e ∙ lowered_parts ps

value_lowered : (v : AssignValue) → sh.parts_of (value_parts_lowered v) ≡ parts_of_value (view_value v)
value_lowered (WordValue None) = refl
value_lowered (WordValue (Some w)) = lowered_parts w.parts

pub appended_lowered : (qs : List ShPart) (name : List ℕ) (v : AssignValue) → map sh.view_part qs ≡ quoted_name name ∷ value_parts_lowered v → sh.parts_of (map sh.view_part qs) ≡ shape.part (quoted_name name) (parts_of_value (view_value v))
appended_lowered qs name v e = ap sh.parts_of e ∙ ap (λ (x : shape.Parts). shape.part (quoted_name name) x) (value_lowered v)

-- ---- words

lowered_words : (ws : List Word) → sh.words_of (map word_lowered ws) ≡ lower_words (words_of ws)
lowered_words [] = refl
lowered_words (w ∷ ws) = ap (λ (x : shape.Words). shape.word (word_lowered w) x) (lowered_words ws)

pub words_lowered : (vs : List ShWord) (ws : List Word) → map sh.view_word vs ≡ map word_lowered ws → sh.words_of (map sh.view_word vs) ≡ lower_words (words_of ws)
words_lowered vs ws e = ap sh.words_of e ∙ lowered_words ws

-- ---- assignments

lowered_assigns : (as' : List Assign) → sh.assigns_of (map assign_lowered as') ≡ lower_assigns (assigns_of as')
lowered_assigns [] = refl
lowered_assigns (a ∷ more) = ap (λ (x : shape.Assigns). shape.assign (assign_lowered a).0 (assign_lowered a).1 x) (lowered_assigns more)

pub assigns_lowered : (bs : List ShAssign) (as' : List Assign) → map sh.view_assign bs ≡ map assign_lowered as' → sh.assigns_of (map sh.view_assign bs) ≡ lower_assigns (assigns_of as')
assigns_lowered bs as' e = ap sh.assigns_of e ∙ lowered_assigns as'

-- ---- stages

lowered_stages : (cs : List Command) → sh.stages_of (map command_lowered cs) ≡ lower_stages (stages_of cs)
lowered_stages [] = refl
lowered_stages (c ∷ cs) = ap (λ (x : shape.Stages). shape.stage (command_lowered c) x) (lowered_stages cs)

pub stages_lowered : (ds : List ShCommand) (cs : List Command) → map sh.view_command ds ≡ map command_lowered cs → sh.stages_of (map sh.view_command ds) ≡ lower_stages (stages_of cs)
stages_lowered ds cs e = ap sh.stages_of e ∙ lowered_stages cs

-- ---- links

link_is : (j : Joint) (p : bash.Pipeline) (ls : bash.Links) → sh.link_of (joint_lowered j) (lower_pipeline p) (lower_links ls) ≡ lower_links (link_of j p ls)
link_is And p ls = refl
link_is Or p ls = refl

lowered_links : (ls : List (Joint × Pipeline)) → sh.links_of (map link_lowered ls) ≡ lower_links (links_of ls)
lowered_links [] = refl
lowered_links (l ∷ ls) = ap (λ (x : shape.Links). sh.link_of (link_lowered l).0 (link_lowered l).1 x) (lowered_links ls) ∙ link_is l.0 (view_pipeline l.1) (links_of ls)

pub links_lowered : (ks : List (ShJoint × ShPipeline)) (ls : List (Joint × Pipeline)) → map link_seen ks ≡ map link_lowered ls → sh.links_of (map link_seen ks) ≡ lower_links (links_of ls)
links_lowered ks ls e = ap sh.links_of e ∙ lowered_links ls

-- ---- items

item_is : (b : Option Span) (c : bash.Chain) (s : bash.Script) → shape.next_chain (lower_chain c) (lower s) ≡ lower (item_of b c s)
item_is None c s = refl
item_is (Some at) c s = refl

lowered_items : (is : List Item) → sh.items_of (map item_lowered is) ≡ lower (items_of is)
lowered_items [] = refl
lowered_items (i ∷ is) = ap (λ (x : shape.Script). shape.next_chain (item_lowered i) x) (lowered_items is) ∙ item_is i.background (view_chain i.chain) (items_of is)

pub items_lowered : (js : List ShItem) (is : List Item) → map sh.view_item js ≡ map item_lowered is → sh.items_of (map sh.view_item js) ≡ lower (items_of is)
items_lowered js is e = ap sh.items_of e ∙ lowered_items is
