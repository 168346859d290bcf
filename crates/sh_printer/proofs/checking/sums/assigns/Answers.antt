use Rattle.sh_printer.proofs.checking.sums.assigns.Goals as goal

pub returns-in-Some : goal.returns-in-Some
returns-in-Some c = rw c.in-Some.is c.is_assigning.ensures
