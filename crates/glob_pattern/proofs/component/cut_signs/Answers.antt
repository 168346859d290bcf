use Rattle.std.proofs.Common.{◌≡◌, true, false, get_or, ◌∙◌, arith}
use Rattle.std.proofs.lemmas.Bool.Decides.{nat_tests}
use Rattle.span_text.specs.declared.flagged.Mark.TheVariants.{Written}
use Rattle.glob_pattern.specs.declared.sign.Sign.{Sign}
use Rattle.glob_pattern.specs.Paths.{cut, is_slash_sign}
use Rattle.glob_pattern.proofs.Splits.{put_nothing, loop_at, loop_on}
use Rattle.glob_pattern.proofs.component.cut_signs.Goals as goal
use Rattle.glob_pattern.proofs.component.cut_signs.Goals.{then-sign-eq47+in_ok-push, else-sign-eq47+in_ok-push-2}

abbrev no_sign : Sign
no_sign = record { at = 0; byte = 0; mark = Written }

pub loop-sign-init : goal.loop-sign-init
loop-sign-init c = rw (c.new-all.ensures, c.new-part.ensures) (put_nothing is_slash_sign c.args.signs.now)

pub loop-sign-preserved : goal.loop-sign-preserved
loop-sign-preserved c = elim c.if-sign-eq47.branch [
  | then-sign-eq47+in_ok-push w ↦
      let h = w.if-sign-eq47.true in
      let e : is_slash_sign (get_or c.args.signs.now c.loop-sign.sign-index no_sign) ≡ true = grind (arith, nat_tests) in
      loop_at is_slash_sign c.args.signs.now c.loop-sign.sign-index no_sign c.loop-sign.part c.loop-sign.all (cut is_slash_sign c.args.signs.now) c.if-sign-eq47.all c.if-sign-eq47.part (omega arith) e c.loop-sign.invariant (w.all-is ∙ w.in_ok-push.ensures.ok) (w.part-is ∙ w.new-part-then-sign-eq47.ensures)
  | else-sign-eq47+in_ok-push-2 w ↦
      let h = w.if-sign-eq47.false in
      let e : is_slash_sign (get_or c.args.signs.now c.loop-sign.sign-index no_sign) ≡ false = grind (arith, nat_tests) in
      loop_on is_slash_sign c.args.signs.now c.loop-sign.sign-index no_sign c.loop-sign.part c.loop-sign.all (cut is_slash_sign c.args.signs.now) c.if-sign-eq47.all c.if-sign-eq47.part (omega arith) e c.loop-sign.invariant w.all-is (w.part-is ∙ w.in_ok-push-2.ensures.ok)
]
