use Rattle.std.proofs.Common.{◌≡◌, true, false, [], ◌∷◌, ◌++◌, get_or, ◌∙◌, arith, rules}
use Rattle.std.proofs.lemmas.Bool.Decides.{nat_tests}
use Rattle.glob_pattern.specs.Paths.{cut, is_slash_byte}
use Rattle.glob_pattern.proofs.Splits.{put_nothing, loop_at, loop_on}
use Rattle.glob_pattern.proofs.path.cut_name.Goals as goal
use Rattle.glob_pattern.proofs.path.cut_name.Goals.{then-b-eq47+in_ok-push, else-b-eq47+in_ok-append}

pub loop-b-init : goal.loop-b-init
loop-b-init c = rw (c.new-all.ensures, c.new-part.ensures) (put_nothing is_slash_byte c.args.name.now)

pub loop-b-preserved : goal.loop-b-preserved
loop-b-preserved c = elim c.if-b-eq47.branch [
  | then-b-eq47+in_ok-push w ↦
      let h = w.if-b-eq47.true in
      let e : is_slash_byte (get_or c.args.name.now c.loop-b.b-index 0) ≡ true = grind (arith, nat_tests) in
      loop_at is_slash_byte c.args.name.now c.loop-b.b-index 0 c.loop-b.part c.loop-b.all (cut is_slash_byte c.args.name.now) c.if-b-eq47.all c.if-b-eq47.part (omega arith) e c.loop-b.invariant (w.all-is ∙ w.in_ok-push.ensures.ok) (w.part-is ∙ w.new-part-then-b-eq47.ensures)
  | else-b-eq47+in_ok-append w ↦
      let h = w.if-b-eq47.false in
      let e : is_slash_byte (get_or c.args.name.now c.loop-b.b-index 0) ≡ false = grind (arith, nat_tests) in
      let one : c.if-b-eq47.part ≡ c.loop-b.part ++ get_or c.args.name.now c.loop-b.b-index 0 ∷ [] = search rules in
      loop_on is_slash_byte c.args.name.now c.loop-b.b-index 0 c.loop-b.part c.loop-b.all (cut is_slash_byte c.args.name.now) c.if-b-eq47.all c.if-b-eq47.part (omega arith) e c.loop-b.invariant w.all-is one
]
