use Rattle.std.proofs.Common.{suc, Bool, not, ◌&&◌, sym, ap, arith}
use Rattle.sh_printer.specs.Checks.{command_check_weight, command_holds, word_check_weight, word_holds}
use Rattle.sh_printer.proofs.WordChecks.{splitting}
use Rattle.sh_grammar.specs.Steps.{limit}
use Rattle.std.specs.Prelude.{nat_lt}
use Rattle.std.proofs.Math.Bool.{and_assoc}
use Rattle.sh_printer.specs.Codes.{view_context}
use Rattle.sh_grammar.specs.Bytes.{fill_context, trim_context}
use Rattle.sh_printing.specs.Printable.{changes_mark, is_length, parts_fit}
use Rattle.sh_printing.specs.Spellable.{param_fits}
use Rattle.sh_syntax.specs.View.{view_param, view_test, view_word}
use Rattle.sh_syntax.proofs.Views.{as_is_is, length_is, fill_is, trim_is, word_is}
use Rattle.sh_printer.proofs.checking.words.param_apart.Goals as goal

pub returns-in-Plain : goal.returns-in-Plain
unfolding word_holds word_check_weight command_holds command_check_weight
returns-in-Plain c = rw (c.in-Plain.is, as_is_is) (splitting _ _ 1 _ c.known.result (rw c.is_continued.ensures at c.bare_fits.ensures) (omega arith) c.known.ensures)

pub returns-in-Length : goal.returns-in-Length
unfolding word_holds word_check_weight command_holds command_check_weight
returns-in-Length c = rw (c.in-Length.is, length_is) (splitting _ _ 1 _ c.known-in-Length.result (rw c.param_fits.ensures at c.has_room_for.ensures) (omega arith) c.known-in-Length.ensures)

pub returns-in-Fill : goal.returns-in-Fill
unfolding word_holds word_check_weight command_holds command_check_weight
returns-in-Fill c =
    let p = view_param c.args.param.now in
    let w = view_word c.in-Fill.word in
    let same = rw (c.as_slice.ensures, ← (word_is c.in-Fill.word)) at c.fill_fits-fits.ensures in
    rw (c.in-Fill.is, fill_is c.in-Fill.test c.in-Fill.colon c.in-Fill.word) (splitting _ _ _ _ c.closed_apart.result (rw (same, c.fill_context.ensures) (ap (λ (b : Bool). b && parts_fit c.args.nesting.in_body (suc c.args.nesting.depth) (fill_context (view_context c.args.context)) w) (sym (and_assoc (nat_lt c.args.nesting.depth limit) (param_fits p) (not (is_length p (view_test c.in-Fill.test) c.in-Fill.colon w)))))) (omega arith) c.closed_apart.ensures)

pub returns-in-Trim : goal.returns-in-Trim
unfolding word_holds word_check_weight command_holds command_check_weight
returns-in-Trim c =
    let p = view_param c.args.param.now in
    let w = view_word c.in-Trim.pattern in
    let same = rw (c.as_slice-in-Trim.ensures, ← (word_is c.in-Trim.pattern)) at c.trim_fits-fits.ensures in
    rw (c.in-Trim.is, trim_is c.in-Trim.suffix c.in-Trim.longest c.in-Trim.pattern) (splitting _ _ _ _ c.closed_apart-in-Trim.result (rw (same, c.trim_context.ensures) (ap (λ (b : Bool). b && parts_fit c.args.nesting.in_body (suc c.args.nesting.depth) (trim_context (view_context c.args.context)) w) (sym (and_assoc (nat_lt c.args.nesting.depth limit) (param_fits p) (not (changes_mark p c.in-Trim.suffix c.in-Trim.longest w)))))) (omega arith) c.closed_apart-in-Trim.ensures)
