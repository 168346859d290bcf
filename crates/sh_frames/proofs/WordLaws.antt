-- Words taken apart before frames.
use Rattle.std.proofs.Common.{◌≡◌, ℕ, Bool, List, ◌∷◌}
use Rattle.span_text.specs.declared.expr.Expr.{Expr}
use Rattle.shell_world.specs.Texts.{Text}
use Rattle.shell_world.specs.Runs.{St, after}
use Rattle.sh_grammar.specs.Shape.{Part, Parts, part, double, arith, Words}
use Rattle.sh_meaning.specs.Own.{Own}
use Rattle.sh_meaning.specs.Arithmetic.{behind_signs}
use Rattle.sh_meaning.specs.Modes.{Mode, in_quotes, in_assigning, in_pattern, in_operand}
use Rattle.sh_meaning.specs.Expanded.{Expanded, nothing}
use Rattle.sh_meaning.specs.Expanding.{Where, First, Later, quoted_over, assigning_over, trim_over, sum_over, operand_over, Operands, no_operands, Fielded}
use Rattle.sh_meaning.specs.Simple.{Setting, Role, word_over, word_mode, role_behind}
use Rattle.sh_meaning.specs.Commands.{part_run, parts_run, operands_run, words_run, level}
use Rattle.sh_frames.specs.Payloads.{to_word, to_numbers, to_fields}
use Rattle.sh_frames.specs.Frames as frames
use Rattle.sh_frames.specs.Frames.{Frame, on_word, on_numbers, on_fields}
use Rattle.sh_frames.specs.Turns.{go_on}
use Rattle.sh_frames.proofs.Sequence.{assoc, assoc3, nested}

module _ (z : Setting) (d : ℕ) (fs : List Frame) (n : ℕ) (s : St Own) where
  pub parts_go : (mode : Mode) (place : Where) (p : Part) (ps : Parts) (e : Expanded) →
      after (parts_run z (level z d) mode place (part p ps) e n s) (to_word (go_on z fs) d)
      ≡ after (part_run z (level z d) mode place p e n s) (to_word (go_on z (on_word (frames.parts mode Later ps) ∷ fs)) d)
  parts_go mode place p ps e = assoc (part_run z (level z d) mode place p e n s) (parts_run z (level z d) mode Later ps) (to_word (go_on z fs) d)

  pub double_goes : (mode : Mode) (place : Where) (ps : Parts) (e : Expanded) →
      after (part_run z (level z d) mode place (double ps) e n s) (to_word (go_on z fs) d)
      ≡ after (parts_run z (level z d) (in_quotes mode) First ps e n s) (to_word (go_on z (on_word frames.quoted ∷ fs)) d)
  double_goes mode place ps e = assoc (parts_run z (level z d) (in_quotes mode) First ps e n s) quoted_over (to_word (go_on z fs) d)

  pub assigning_goes : (mode : Mode) (name : Text) (ps : Parts) (e : Expanded) →
      after (after (parts_run z (level z d) (in_assigning mode) First ps (nothing e.ran) n s) (assigning_over mode name e)) (to_word (go_on z fs) d)
      ≡ after (parts_run z (level z d) (in_assigning mode) First ps (nothing e.ran) n s) (to_word (go_on z (on_word (frames.assigning mode name e) ∷ fs)) d)
  assigning_goes mode name ps e = assoc (parts_run z (level z d) (in_assigning mode) First ps (nothing e.ran) n s) (assigning_over mode name e) (to_word (go_on z fs) d)

  pub trimming_goes : (mode : Mode) (suffix longest : Bool) (text : Text) (ps : Parts) (e : Expanded) →
      after (after (parts_run z (level z d) in_pattern First ps (nothing e.ran) n s) (trim_over mode suffix longest text e)) (to_word (go_on z fs) d)
      ≡ after (parts_run z (level z d) in_pattern First ps (nothing e.ran) n s) (to_word (go_on z (on_word (frames.trimming mode suffix longest text e) ∷ fs)) d)
  trimming_goes mode suffix longest text ps e = assoc (parts_run z (level z d) in_pattern First ps (nothing e.ran) n s) (trim_over mode suffix longest text e) (to_word (go_on z fs) d)

  pub arithmetic_goes : (mode : Mode) (place : Where) (x : Expr) (ws : Words) (e : Expanded) →
      after (part_run z (level z d) mode place (arith x ws) e n s) (to_word (go_on z fs) d)
      ≡ after (operands_run z (level z d) (behind_signs x) ws (no_operands e.ran) n s) (to_numbers (go_on z (on_numbers (frames.sum mode x e) ∷ fs)) d)
  arithmetic_goes mode place x ws e = assoc (operands_run z (level z d) (behind_signs x) ws (no_operands e.ran) n s) (sum_over mode x e) (to_word (go_on z fs) d)

  -- behind the check of the word
  pub operands_go : (signs : List ℕ) (w : Parts) (ws : Words) (ns : Operands) →
      after (after (after (parts_run z (level z d) in_operand First w (nothing ns.ran) n s) (operand_over signs ns)) (operands_run z (level z d) signs ws)) (to_numbers (go_on z fs) d)
      ≡ after (parts_run z (level z d) in_operand First w (nothing ns.ran) n s) (to_word (go_on z (on_word (frames.operand signs ns ws) ∷ fs)) d)
  operands_go signs w ws ns = assoc3 (parts_run z (level z d) in_operand First w (nothing ns.ran) n s) (operand_over signs ns) (operands_run z (level z d) signs ws) (to_numbers (go_on z fs) d)

  pub words_go : (role : Role) (w : Parts) (ws : Words) (done : Fielded) →
      after (after (after (parts_run z (level z d) (word_mode role w) First w (nothing done.ran) n s) (word_over role w done)) (words_run z (level z d) (role_behind role w) ws)) (to_fields (go_on z fs) d)
      ≡ after (parts_run z (level z d) (word_mode role w) First w (nothing done.ran) n s) (to_word (go_on z (on_word (frames.field role w done) ∷ on_fields (frames.words (role_behind role w) ws) ∷ fs)) d)
  words_go role w ws done = nested (parts_run z (level z d) (word_mode role w) First w (nothing done.ran) n s) (word_over role w done) (words_run z (level z d) (role_behind role w) ws) (to_fields (go_on z fs) d)
