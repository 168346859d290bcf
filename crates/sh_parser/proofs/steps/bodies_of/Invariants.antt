use Rattle.std.proofs.Common.{◌≡◌, drop}
use Rattle.std.specs.Prelude.{map}
use Rattle.sh_grammar.specs.Bodies.{bodies_at}
use Rattle.sh_parser.specs.Owing.{owed_of}
use Rattle.sh_parser.specs.Views.{found_behind}
use Rattle.sh_parser.proofs.steps.bodies_of.Given as goal

abbrev pub invariant-loop-document : goal.invariant-loop-document
invariant-loop-document l = found_behind l.found (bodies_at (map owed_of (drop l.document-index l.document-items)) l.rest) ≡ found_behind l.initial.found (bodies_at (map owed_of l.owed) l.bytes)
