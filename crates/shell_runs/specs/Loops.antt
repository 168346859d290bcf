-- Loops (POSIX XCU 2.9.4.2, 2.9.4.5, 2.9.4.6). Each start of a body takes a turn. So does a round that a `continue` in a test starts, since it would else start another without any turn.
use Rattle.std.specs.Prelude.{ℕ, zero, suc, Bool, List, [], ◌∷◌}
use Rattle.shell_world.specs.Runs.{Ends, Do, after, choose, with_own}
use Rattle.shell_runs.specs.Flow.{Flow, Normal, Breaks, Continues, Returns, Exits}
use Rattle.shell_runs.specs.Sequences.{now, take_turn, out_of_bounds}

-- at most so many rounds, each with what the one before it gave
abbrev pub rounds : {A X S : Type 0} → ℕ → ((A → Do X S) → A → Do X S) → A → Do X S
rounds zero step a n s = out_of_bounds n s
rounds (suc f) step a n s = step (rounds f step) a n s

-- behind a body: the next round, which is told the body's status, or the end of the loop
abbrev pub body_over : {S : Type 0} → (S → ℕ) → (ℕ → Do Flow S) → Flow → Do Flow S
body_over status next Normal n s = next (status s.own) n s
body_over status next (Breaks zero) n s = Ends Normal s n
body_over status next (Breaks (suc more)) n s = Ends (Breaks more) s n
body_over status next (Continues zero) n s = next (status s.own) n s
body_over status next (Continues (suc more)) n s = Ends (Continues more) s n
body_over status next Returns n s = Ends Returns s n
body_over status next Exits n s = Ends Exits s n

abbrev pub body_run : {S : Type 0} → (S → ℕ) → Do Flow S → (ℕ → Do Flow S) → Do Flow S
body_run status body next n s = after (body n s) (body_over status next)

-- Behind a test: the body where the loop goes on, else the end, with the status of the last body.
abbrev pub test_over : {S : Type 0} → (S → Bool) → (S → ℕ) → (ℕ → S → S) → Do Flow S → (ℕ → Do Flow S) → ℕ → Flow → Do Flow S
test_over goes status with_status body next last Normal n s = choose (goes s.own) (take_turn (body_run status body next)) (now (with_status last)) n s
test_over goes status with_status body next last (Breaks zero) n s = Ends Normal s n
test_over goes status with_status body next last (Breaks (suc more)) n s = Ends (Breaks more) s n
test_over goes status with_status body next last (Continues zero) n s = take_turn (next last) n s
test_over goes status with_status body next last (Continues (suc more)) n s = Ends (Continues more) s n
test_over goes status with_status body next last Returns n s = Ends Returns s n
test_over goes status with_status body next last Exits n s = Ends Exits s n

abbrev pub loop_round : {S : Type 0} → (S → Bool) → (S → ℕ) → (ℕ → S → S) → Do Flow S → Do Flow S → (ℕ → Do Flow S) → ℕ → Do Flow S
loop_round goes status with_status test body next last n s = after (test n s) (test_over goes status with_status body next last)

-- a loop whose last body had this status; n turns are enough for n rounds and a test
abbrev pub loop_from : {S : Type 0} → (S → Bool) → (S → ℕ) → (ℕ → S → S) → Do Flow S → Do Flow S → ℕ → Do Flow S
loop_from goes status with_status test body last n s = rounds (suc n) (loop_round goes status with_status test body) last n s

-- `while` and `until`, as goes on where goes holds; the status is 0 where no body ran
abbrev pub loop_do : {S : Type 0} → (S → Bool) → (S → ℕ) → (ℕ → S → S) → Do Flow S → Do Flow S → Do Flow S
loop_do goes status with_status test body n s = loop_from goes status with_status test body zero n s

-- ---- `for`

-- behind a body of `for`
abbrev pub item_over : {S : Type 0} → Do Flow S → Flow → Do Flow S
item_over next Normal n s = next n s
item_over next (Breaks zero) n s = Ends Normal s n
item_over next (Breaks (suc more)) n s = Ends (Breaks more) s n
item_over next (Continues zero) n s = next n s
item_over next (Continues (suc more)) n s = Ends (Continues more) s n
item_over next Returns n s = Ends Returns s n
item_over next Exits n s = Ends Exits s n

-- the body for one item, which is assigned first
abbrev pub item_run : {X S : Type 0} → (X → S → S) → Do Flow S → X → Do Flow S → Do Flow S
item_run assign body x next n s = after (body n (with_own s (assign x s.own))) (item_over next)

-- for each item; the status is that of the last body
abbrev pub items_run : {X S : Type 0} → (X → S → S) → Do Flow S → List X → Do Flow S
items_run assign body [] n s = Ends Normal s n
items_run assign body (x ∷ xs) n s = take_turn (item_run assign body x (items_run assign body xs)) n s
