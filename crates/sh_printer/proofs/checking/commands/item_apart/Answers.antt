use Rattle.std.proofs.Common.{refl, arith}
use Rattle.sh_printer.specs.Checks.{command_check_weight, command_holds, word_check_weight, word_holds}
use Rattle.sh_syntax.proofs.Views.{case_item_is, script_is}
use Rattle.sh_syntax.specs.declared.tree.CaseItem.{out-CaseItem}
use Rattle.sh_printer.proofs.checking.commands.item_apart.Goals as goal

pub returns : goal.returns
unfolding word_holds word_check_weight command_holds command_check_weight
returns c = record { whole = rw (c.has_words.ensures, c.as_slice-patterns.ensures, c.as_slice.ensures, ← (script_is (out-CaseItem c.args.item.now).body), case_item_is c.args.item.now) refl; first_less = omega arith; second_less = rw (c.as_slice-patterns.ensures, case_item_is c.args.item.now) (omega arith); rest_less = rw (c.as_slice.ensures, ← (script_is (out-CaseItem c.args.item.now).body), case_item_is c.args.item.now) (omega arith) }
