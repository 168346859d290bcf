-- Calls of functions (POSIX XCU 2.9.5): a turn is taken first, and then a level. Where the level is missing, the turn counts as used.
use Rattle.shell_world.specs.Runs.{Ends, Do, after, with_own}
use Rattle.shell_runs.specs.Flow.{Flow, Normal, Breaks, Continues, Returns, Exits}
use Rattle.shell_runs.specs.Sequences.{take_turn}

-- where the commands go on behind a function's body
abbrev pub returned : Flow → Flow
returned Normal = Normal
returned (Breaks more) = Breaks more
returned (Continues more) = Continues more
returned Returns = Normal
returned Exits = Exits

-- behind a body: back takes what the caller had and what there is now to what the caller goes on with
abbrev pub call_over : {S : Type 0} → (S → S → S) → S → Flow → Do Flow S
call_over back caller flow n s = Ends (returned flow) (with_own s (back caller s.own)) n

-- the body, begun with what enter makes of the caller's part
abbrev pub called_run : {S : Type 0} → (S → S) → (S → S → S) → Do Flow S → Do Flow S
called_run enter back body n s = after (body n (with_own s (enter s.own))) (call_over back s.own)

abbrev pub call_do : {S : Type 0} → (S → S) → (S → S → S) → Do Flow S → Do Flow S
call_do enter back body n s = take_turn (called_run enter back body) n s
