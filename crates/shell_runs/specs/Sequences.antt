-- Commands one behind the other, and turns (POSIX XCU 2.9.3). What goes on behind a run is always a named definition, so that a machine can keep it on a stack.
use Rattle.std.specs.Prelude.{zero, suc}
use Rattle.shell_world.specs.Runs.{Ends, GoesOn, Unspecified, Do, with_own}
use Rattle.shell_runs.specs.Flow.{Flow, Normal, Breaks, Continues, Returns, Exits}

-- the next command
abbrev pub if_normal : {S : Type 0} → Do Flow S → Flow → Do Flow S
if_normal k Normal n s = k n s
if_normal k (Breaks more) n s = Ends (Breaks more) s n
if_normal k (Continues more) n s = Ends (Continues more) s n
if_normal k Returns n s = Ends Returns s n
if_normal k Exits n s = Ends Exits s n

-- a change of the language's own part
abbrev pub now : {S : Type 0} → (S → S) → Do Flow S
now f n s = Ends Normal (with_own s (f s.own)) n

-- a value that the language's own part gives
abbrev pub gives : {X S : Type 0} → (S → X) → Do X S
gives f n s = Ends (f s.own) s n

-- a turn, and then the rest
abbrev pub take_turn : {X S : Type 0} → Do X S → Do X S
take_turn k zero s = GoesOn s.trace zero
take_turn k (suc n) s = k n s

-- what a run does that has no turns or no levels left
abbrev pub out_of_bounds : {X S : Type 0} → Do X S
out_of_bounds n s = GoesOn s.trace n

-- nothing says what is done
abbrev pub unspecified : {X S : Type 0} → Do X S
unspecified n s = Unspecified s.trace n
