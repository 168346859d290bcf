use Rattle.std.proofs.Common.{refl, arith, append_assoc}
use Rattle.std.specs.Prelude.{map}
use Rattle.std.proofs.lemmas.List.{append-nil}
use Rattle.sh_printer.specs.Codes.{view_end}
use Rattle.sh_printer.specs.Pieces.{command_piece_text, command_piece_weight, word_text, word_weight}
use Rattle.std.specs.Prelude.{option_map}
use Rattle.sh_printer.specs.Pieces.{piece_text}
use Rattle.sh_syntax.specs.View.{view, view_word, view_case_item, for_words_of, case_items_of}
use Rattle.sh_printer.proofs.CommandTexts.{for_whole, case_whole}
use Rattle.sh_syntax.proofs.Views.{simple_is, group_is, subshell_is, if_is, loop_is, for_is, case_is, function_kind_is}
use Rattle.sh_printer.proofs.Comings.{coming}
use Rattle.sh_printer.proofs.commands.kind_apart.Goals as goal

pub returns-in-Simple : goal.returns-in-Simple
unfolding command_piece_text command_piece_weight word_text word_weight
returns-in-Simple c =
    record {
      whole = λ full. rw (c.simple_words.ensures.text full, c.as_slice-assigns.ensures, c.as_slice-words.ensures, c.in-Simple.is, simple_is c.in-Simple.assigns c.in-Simple.words) refl;
      first_less = rw (c.as_slice-assigns.ensures, c.in-Simple.is, simple_is c.in-Simple.assigns c.in-Simple.words) (omega arith);
      second_less = rw (c.in-Simple.is, simple_is c.in-Simple.assigns c.in-Simple.words) (omega (arith, rw c.as_slice-words.ensures at c.simple_words.ensures.weight));
      rest_less = rw (c.in-Simple.is, simple_is c.in-Simple.assigns c.in-Simple.words) (omega arith);
    }

pub returns-in-Group : goal.returns-in-Group
unfolding command_piece_text command_piece_weight word_text word_weight
returns-in-Group c =
    record {
      whole = λ full. rw (c.between.ensures.text full, c.in-Group.is, group_is c.in-Group.script) (simp (append_assoc, append-nil));
      first_less = rw (c.in-Group.is, group_is c.in-Group.script) (omega (arith, c.between.ensures.weight));
      second_less = rw (c.in-Group.is, group_is c.in-Group.script) (omega arith);
      rest_less = rw (c.in-Group.is, group_is c.in-Group.script) (omega arith);
    }

pub returns-in-Subshell : goal.returns-in-Subshell
unfolding command_piece_text command_piece_weight word_text word_weight
returns-in-Subshell c =
    record {
      whole = λ full. rw (c.between-in-Subshell.ensures.text full, c.in-Subshell.is, subshell_is c.in-Subshell.script) (simp (append_assoc, append-nil));
      first_less = rw (c.in-Subshell.is, subshell_is c.in-Subshell.script) (omega (arith, c.between-in-Subshell.ensures.weight));
      second_less = rw (c.in-Subshell.is, subshell_is c.in-Subshell.script) (omega arith);
      rest_less = rw (c.in-Subshell.is, subshell_is c.in-Subshell.script) (omega arith);
    }

pub returns-in-If : goal.returns-in-If
unfolding command_piece_text command_piece_weight word_text word_weight
returns-in-If c =
    record {
      whole = λ full. rw (c.as_slice.ensures, c.else_piece.ensures.text full, c.in-If.is, if_is c.in-If.parts c.in-If.otherwise) (simp append_assoc);
      first_less = rw (c.as_slice.ensures, c.in-If.is, if_is c.in-If.parts c.in-If.otherwise) (omega arith);
      second_less = rw (c.in-If.is, if_is c.in-If.parts c.in-If.otherwise) (omega (arith, c.else_piece.ensures.weight));
      rest_less = rw (c.in-If.is, if_is c.in-If.parts c.in-If.otherwise) (omega arith);
    }

pub returns-in-Loop : goal.returns-in-Loop
unfolding command_piece_text command_piece_weight word_text word_weight
returns-in-Loop c =
    record {
      whole = λ full. rw (c.between-in-Loop.ensures.text full, c.between-in-Loop-2.ensures.text full, c.loop_key.ensures, c.in-Loop.is, loop_is c.in-Loop.until c.in-Loop.test c.in-Loop.body) (simp (append_assoc, append-nil));
      first_less = rw (c.in-Loop.is, loop_is c.in-Loop.until c.in-Loop.test c.in-Loop.body) (omega (arith, c.between-in-Loop.ensures.weight));
      second_less = rw (c.in-Loop.is, loop_is c.in-Loop.until c.in-Loop.test c.in-Loop.body) (omega (arith, c.between-in-Loop-2.ensures.weight));
      rest_less = rw (c.in-Loop.is, loop_is c.in-Loop.until c.in-Loop.test c.in-Loop.body) (omega arith);
    }

pub returns-in-For : goal.returns-in-For
unfolding command_piece_text command_piece_weight word_text word_weight
returns-in-For c =
    record {
      whole = λ full. rw (c.between-in-For.ensures.text full, c.in-For.is, for_is c.in-For.name c.in-For.words c.in-For.body) (for_whole full c.in-For.name.text (for_words_of (option_map (map view_word) c.in-For.words)) (view c.in-For.body) (view_end c.args.end) (piece_text full c.args.tail));
      first_less = rw (c.in-For.is, for_is c.in-For.name c.in-For.words c.in-For.body) (omega arith);
      second_less = rw (c.in-For.is, for_is c.in-For.name c.in-For.words c.in-For.body) (omega (arith, c.between-in-For.ensures.weight));
      rest_less = rw (c.in-For.is, for_is c.in-For.name c.in-For.words c.in-For.body) (omega arith);
    }

pub returns-in-Case : goal.returns-in-Case
unfolding command_piece_text command_piece_weight word_text word_weight
returns-in-Case c =
    record {
      whole = λ full. rw (c.as_slice-in-Case.ensures, c.in-Case.is, case_is c.in-Case.subject c.in-Case.items) (case_whole full (view_word c.in-Case.subject) (case_items_of (map view_case_item c.in-Case.items)) (view_end c.args.end) (piece_text full c.args.tail));
      first_less = rw (c.in-Case.is, case_is c.in-Case.subject c.in-Case.items) (omega arith);
      second_less = rw (c.as_slice-in-Case.ensures, c.in-Case.is, case_is c.in-Case.subject c.in-Case.items) (omega arith);
      rest_less = rw (c.in-Case.is, case_is c.in-Case.subject c.in-Case.items) (omega arith);
    }

pub returns-in-Function : goal.returns-in-Function
unfolding command_piece_text command_piece_weight word_text word_weight
returns-in-Function c = coming _ _ _ _ _ (λ full. rw (c.in-Function.is, function_kind_is c.in-Function.function) refl) (rw (c.in-Function.is, function_kind_is c.in-Function.function) (omega arith)) c.function_apart.ensures
