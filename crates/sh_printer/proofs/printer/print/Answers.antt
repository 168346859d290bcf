use Rattle.std.proofs.Common.{true}
use Rattle.sh_printer.specs.Pieces.{command_piece_text}
use Rattle.sh_syntax.specs.View.{view}
use Rattle.sh_printer.proofs.CommandTexts.{script_chains}
use Rattle.sh_syntax.proofs.Views.{script_is}
use Rattle.sh_printing.proofs.BackScripts.{reads_back}
use Rattle.sh_printer.proofs.printer.print.Goals as goal

pub returns-clause-wrote : goal.returns-clause-wrote
unfolding command_piece_text
returns-clause-wrote g c =
    let p = c.print_piece.ensures.writes c.writing-search.ensures in
    rw (← (script_chains true (view c.args.script.now)), script_is c.args.script.now) (rw (c.writing-search.ensures, c.as_slice-items.ensures) at p.1)

pub returns-clause-reads_back : goal.returns-clause-reads_back
returns-clause-reads_back g c = reads_back (view c.args.script.now)
