-- Pairs of the code's nodes, seen as plain data.
use Rattle.std.specs.Prelude.{List, map}
use Rattle.sh_grammar.specs.Shape as shape
use Rattle.sh_syntax.specs.declared.tree.Joint.{Joint}
use Rattle.sh_syntax.specs.declared.tree.Pipeline.{Pipeline}
use Rattle.sh_syntax.specs.declared.tree.Script.{Script}
use Rattle.sh_syntax.specs.View.{view, view_pipeline}

abbrev pub branch_views : List (Script × Script) → List (shape.Script × shape.Script)
branch_views bs = map (λ b. (view b.0, view b.1)) bs

abbrev pub link_views : List (Joint × Pipeline) → List (Joint × shape.Pipeline)
link_views ls = map (λ l. (l.0, view_pipeline l.1)) ls
