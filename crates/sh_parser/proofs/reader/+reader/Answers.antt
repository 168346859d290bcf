use Rattle.std.proofs.Common.{◌≡◌, [], ◌∷◌, length, sym, ◌∙◌, arith}
use Rattle.std.proofs.lemmas.Bool.Decides.{nat_tests}
use Rattle.std.proofs.lemmas.Result.{err_from_is_err_and}
use Rattle.sh_syntax.specs.View.{view_word, view_operator}
use Rattle.sh_parser.specs.Answers.{is_memory}
use Rattle.sh_parser.specs.Owing.{owed_of}
use Rattle.sh_parser.specs.Values.{value_node, nodes}
use Rattle.sh_parser.specs.declared.tasks.Task.TheVariants.{Here}
use Rattle.sh_parser.specs.Views.{known, state}
use Rattle.sh_parser.proofs.Guessed.{grows_not, grows_through, may_be_before, all_known}
use Rattle.sh_parser.proofs.Documents.{front_fails, body_fails, here_done, known_body, owed_more, no_levels, first_fails, once, second_fails, twice}
use Rattle.sh_parser.proofs.Stack.{taken, taken_here, none_left, taken_ready, begins, nothing_ready, ends, turned, turn_fails, here_fails, here_read}
use Rattle.sh_parser.proofs.reader.+reader.Goals as goal

-- ---- here-documents

pub expanded_of-returns-then-levels-eq0 : goal.expanded_of-returns-then-levels-eq0
expanded_of-returns-then-levels-eq0 t c = λ ds. no_levels c.args.levels ds c.args.notes.now.depth c.args.text.now c.if-levels-eq0.true (rw (← c.is_empty.ensures) c.if-is_empty.false)

pub expanded_of-returns-in_err-values : goal.expanded_of-returns-in_err-values
expanded_of-returns-in_err-values t c = λ ds.
    let p = err_from_is_err_and c.from_residual.result c.from_residual.ensures.1 in
    rw (p.1, p.2) (first_fails (is_memory c.in_err-values.field-0.0) c.args.levels ds c.args.notes.now.depth c.args.text.now c.if-levels-eq0.false (rw (← c.is_empty.ensures) c.if-is_empty.false)
    (rw (← c.inner-first.ensures c.args.text.now) (c.in_err-values.ensures.gives [] (all_known c.all-none.result c.rule_of.new.bodies [] c.all-none.ensures.all (sym (c.all-none.ensures.texts ∙ c.new-2.ensures)) c.in_err-values.ensures.grows))))

pub expanded_of-returns-then-len-eq0 : goal.expanded_of-returns-then-len-eq0
expanded_of-returns-then-len-eq0 t c = λ ds.
    let none : length c.rule_of.new.notes.found ≡ 0 = grind (arith, nat_tests, c.len.ensures, c.if-len-eq0.true) in
    rw (once c.args.levels ds c.args.notes.now.depth c.args.text.now (nodes c.in_ok-values.values) (state c.in_ok-values.field-0-1.now c.rule_of.new.notes) c.if-levels-eq0.false (rw (← c.is_empty.ensures) c.if-is_empty.false) none
    (rw (← c.inner-first.ensures c.args.text.now) (c.in_ok-values.ensures.gives [] (all_known c.all-none.result c.rule_of.new.bodies [] c.all-none.ensures.all (sym (c.all-none.ensures.texts ∙ c.new-2.ensures)) c.in_ok-values.ensures.grows)))) c.word_in_values.ensures

pub expanded_of-returns-in_err-values-2 : goal.expanded_of-returns-in_err-values-2
expanded_of-returns-in_err-values-2 t c = λ ds.
    let p = err_from_is_err_and c.from_residual-in_err-values-2.result c.from_residual-in_err-values-2.ensures.1 in
    let l = all_known c.all-bodies.result c.rule_of-2.new.bodies c.rule_of.new.notes.found c.all-bodies.ensures.all (sym c.all-bodies.ensures.texts) c.in_err-values-2.ensures.grows in
    rw (p.1, p.2) (second_fails (is_memory c.in_err-values-2.field-0.0) c.args.levels ds c.args.notes.now.depth c.args.text.now (nodes c.in_ok-values.values) (state c.in_ok-values.field-0-1.now c.rule_of.new.notes) c.if-levels-eq0.false (rw (← c.is_empty.ensures) c.if-is_empty.false)
    (rw (← c.inner-first.ensures c.args.text.now) (c.in_ok-values.ensures.gives [] (all_known c.all-none.result c.rule_of.new.bodies [] c.all-none.ensures.all (sym (c.all-none.ensures.texts ∙ c.new-2.ensures)) c.in_ok-values.ensures.grows)))
    (rw (← c.inner-second.ensures c.args.text.now) (c.in_err-values-2.ensures.gives c.rule_of.new.notes.found l)))

pub expanded_of-returns : goal.expanded_of-returns
expanded_of-returns t c = λ ds.
    let l = all_known c.all-bodies.result c.rule_of-2.new.bodies c.rule_of.new.notes.found c.all-bodies.ensures.all (sym c.all-bodies.ensures.texts) c.in_ok-values-2.ensures.grows in
    rw (twice c.args.levels ds c.args.notes.now.depth c.args.text.now (nodes c.in_ok-values.values) (nodes c.in_ok-values-2.values) (state c.in_ok-values.field-0-1.now c.rule_of.new.notes) (state c.in_ok-values-2.field-0-1.now c.rule_of-2.new.notes) c.if-levels-eq0.false (rw (← c.is_empty.ensures) c.if-is_empty.false)
    (rw (← c.inner-first.ensures c.args.text.now) (c.in_ok-values.ensures.gives [] (all_known c.all-none.result c.rule_of.new.bodies [] c.all-none.ensures.all (sym (c.all-none.ensures.texts ∙ c.new-2.ensures)) c.in_ok-values.ensures.grows)))
    (rw (← c.inner-second.ensures c.args.text.now) (c.in_ok-values-2.ensures.gives c.rule_of.new.notes.found l))) c.word_in_values-2.ensures

pub here_of-returns-in_err-owed-clause-gives : goal.here_of-returns-in_err-owed-clause-gives
here_of-returns-in_err-owed-clause-gives t c = λ ds m.
    let p = err_from_is_err_and c.from_residual.result c.from_residual.ensures.1 in
    rw (p.1, p.2) (front_fails (is_memory c.in_err-owed.field-0.0) (known c.args.levels ds) (state c.args.bytes.now c.args.notes.now) c.in_err-owed.ensures)

pub here_of-returns-in_err-word-clause-gives : goal.here_of-returns-in_err-word-clause-gives
here_of-returns-in_err-word-clause-gives t c = λ ds m.
    let p = err_from_is_err_and c.from_residual-in_err-word.result c.from_residual-in_err-word.ensures.1 in
    rw (p.1, p.2) (body_fails (is_memory c.in_err-word.field-0.0) (known c.args.levels ds) (state c.args.bytes.now c.args.notes.now) (owed_of c.in_ok-owed.owed, c.in_ok-owed.rest.now) c.body_of-body.result.now c.in_ok-owed.ensures (known_body c.args.levels ds c.body_of-body.result.now (state c.args.bytes.now c.args.notes.now).named (rw (c.len-before.ensures, c.len-found.ensures) at ((rw (c.as_slice.ensures) at c.body_of-body.ensures) ∙ c.in_ok-look_ahead.ensures.body ds m))) (c.in_err-word.ensures ds))

pub here_of-returns-clause-gives : goal.here_of-returns-clause-gives
here_of-returns-clause-gives t c = λ ds m.
    here_done (known c.args.levels ds) (state c.args.bytes.now c.args.notes.now) _ (owed_of c.in_ok-owed.owed, c.in_ok-owed.rest.now) c.body_of-body.result.now (view_word c.in_ok-word.word) (view_operator c.here_operator.result)
    c.in_ok-owed.ensures (known_body c.args.levels ds c.body_of-body.result.now (state c.args.bytes.now c.args.notes.now).named (rw (c.len-before.ensures, c.len-found.ensures) at ((rw (c.as_slice.ensures) at c.body_of-body.ensures) ∙ c.in_ok-look_ahead.ensures.body ds m))) (c.in_ok-word.ensures ds) c.here_operator.ensures
    (rw c.in_ok-push.ensures.ok (owed_more c.in_ok-owed.rest.now c.args.bytes.now c.args.notes.now c.in_ok-owed.owed))

-- ---- the loop over the tasks

pub rule_of-turns-init : goal.rule_of-turns-init
rule_of-turns-init t c = (
  λ ds m. begins c.args.levels ds c.args.wanted c.new-tasks.result.items c.unit_turn.new.tasks.items c.new-none.result c.in_ok-start.start.0 (state c.args.bytes.now c.args.notes.now) (state c.in_ok-start.start.1.now c.unit_turn.new.notes) c.new-tasks.ensures.items c.new-none.ensures (c.in_ok-start.ensures.turns c.args.levels ds),
  c.in_ok-start.ensures.ready (nothing_ready c.new-tasks.result.items c.new-tasks.ensures.items),
  grows_not c.args.bodies.now,
)

pub rule_of-returns-in-None-clause-gives : goal.rule_of-returns-in-None-clause-gives
rule_of-returns-in-None-clause-gives t c = λ ds m.
    ends c.args.levels ds _ c.turns.tasks.items (nodes c.turns.values) (state c.turns.rest.now c.turns.notes) (c.turns.invariant.0 ds m)
    (none_left c.turns.tasks.items c.pop.new.self.items _ c.pop.result c.pop.ensures.items c.in-None.is (rw c.in-None.is at c.pop.ensures.cases).0 c.pop.ensures.rest)

pub rule_of-returns-in_err-value-in-Some-Here-clause-gives : goal.rule_of-returns-in_err-value-in-Some-Here-clause-gives
rule_of-returns-in_err-value-in-Some-Here-clause-gives t c = λ ds m.
    let p = err_from_is_err_and c.from_residual-in_err-value-in-Some-Here.result c.from_residual-in_err-value-in-Some-Here.ensures.1 in
    let e = taken_here c.turns.tasks.items c.pop.new.self.items c.pop.result c.in-Some-Here.field-0 c.pop.ensures.items c.in-Some-Here.is c.in-Some-Here.field-0-is in
    rw (p.1, p.2) (here_fails (is_memory c.in_err-value-in-Some-Here.field-0.0) c.args.levels ds _ c.turns.tasks.items c.pop.new.self.items (nodes c.turns.values) (state c.turns.rest.now c.turns.notes) (c.turns.invariant.0 ds (may_be_before c.turns.bodies c.here_of.new.bodies ds c.in_err-value-in-Some-Here.ensures.grows m)) e (c.in_err-value-in-Some-Here.ensures.gives ds m))

pub rule_of-returns-in_err-value-in-Some-Here-clause-grows : goal.rule_of-returns-in_err-value-in-Some-Here-clause-grows
rule_of-returns-in_err-value-in-Some-Here-clause-grows t c = grows_through c.args.bodies.now c.turns.bodies c.here_of.new.bodies c.turns.invariant.2 c.in_err-value-in-Some-Here.ensures.grows

pub rule_of-returns-in_err-values-in-Some-Here-clause-grows : goal.rule_of-returns-in_err-values-in-Some-Here-clause-grows
rule_of-returns-in_err-values-in-Some-Here-clause-grows t c = grows_through c.args.bodies.now c.turns.bodies c.here_of.new.bodies c.turns.invariant.2 c.in_ok-value-in-Some-Here.ensures.grows

pub rule_of-turns-preserved-in-Some-Here : goal.rule_of-turns-preserved-in-Some-Here
rule_of-turns-preserved-in-Some-Here t c =
    let e = taken_here c.turns.tasks.items c.pop.new.self.items c.pop.result c.in-Some-Here.field-0 c.pop.ensures.items c.in-Some-Here.is c.in-Some-Here.field-0-is in (
      λ ds m. here_read c.args.levels ds _ c.turns.tasks.items c.pop.new.self.items (nodes c.turns.values) (value_node c.in_ok-value-in-Some-Here.value ∷ []) (nodes c.in_ok-values-in-Some-Here.values) (state c.turns.rest.now c.turns.notes) (state c.in_ok-value-in-Some-Here.after.now c.here_of.new.notes) (c.turns.invariant.0 ds (may_be_before c.turns.bodies c.here_of.new.bodies ds c.in_ok-value-in-Some-Here.ensures.grows m)) e (c.in_ok-value-in-Some-Here.ensures.gives ds m) c.in_ok-values-in-Some-Here.ensures,
      (taken_ready c.turns.tasks.items c.pop.new.self.items Here e c.turns.invariant.1).1,
      grows_through c.args.bodies.now c.turns.bodies c.here_of.new.bodies c.turns.invariant.2 c.in_ok-value-in-Some-Here.ensures.grows,
    )

pub rule_of-turn-requires : goal.rule_of-turn-requires
rule_of-turn-requires t c =
    let e = taken c.turns.tasks.items c.pop.new.self.items c.pop.result c.in-Some.task c.pop.ensures.items c.in-Some.is in
    (taken_ready c.turns.tasks.items c.pop.new.self.items c.in-Some.task e c.turns.invariant.1).0

pub rule_of-returns-in_err-more-in-Some-clause-gives : goal.rule_of-returns-in_err-more-in-Some-clause-gives
rule_of-returns-in_err-more-in-Some-clause-gives t c = λ ds m.
    let p = err_from_is_err_and c.from_residual-in_err-more-in-Some.result c.from_residual-in_err-more-in-Some.ensures.1 in
    let e = taken c.turns.tasks.items c.pop.new.self.items c.pop.result c.in-Some.task c.pop.ensures.items c.in-Some.is in
    rw (p.1, p.2) (turn_fails (is_memory c.in_err-more-in-Some.field-0.0) _ _ (turned c.args.levels ds _ c.turns.tasks.items c.pop.new.self.items c.in-Some.task (nodes c.turns.values) (state c.turns.rest.now c.turns.notes) (c.turns.invariant.0 ds m) e) (c.in_err-more-in-Some.ensures.turns c.args.levels ds))

pub rule_of-turns-preserved : goal.rule_of-turns-preserved
rule_of-turns-preserved t c =
    let e = taken c.turns.tasks.items c.pop.new.self.items c.pop.result c.in-Some.task c.pop.ensures.items c.in-Some.is in (
      λ ds m. turned c.args.levels ds _ c.turns.tasks.items c.pop.new.self.items c.in-Some.task (nodes c.turns.values) (state c.turns.rest.now c.turns.notes) (c.turns.invariant.0 ds m) e ∙ c.in_ok-more-in-Some.ensures.turns c.args.levels ds,
      c.in_ok-more-in-Some.ensures.ready (taken_ready c.turns.tasks.items c.pop.new.self.items c.in-Some.task e c.turns.invariant.1).1,
      c.turns.invariant.2,
    )
