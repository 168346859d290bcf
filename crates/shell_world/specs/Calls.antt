-- External commands, which a table answers.
use Rattle.std.specs.Prelude.{ℕ, zero, suc, ◌+◌, Bool, true, false, ◌==◌, ◌&&◌, if◌then◌else◌, List, [], ◌∷◌, ◌++◌, count_by, Option, Some, None}
use Rattle.std.specs.Cmp.Lexicographic.{pointwise}
use Rattle.span_text.specs.KnownNames.{same_text}
use Rattle.shell_world.specs.declared.world.World.{World}
use Rattle.shell_world.specs.declared.world.Call.{Call}
use Rattle.shell_world.specs.declared.world.Row.{Row}
use Rattle.shell_world.specs.declared.world.Answer.{Answer}
use Rattle.shell_world.specs.declared.world.RowKey.{RowKey}
use Rattle.shell_world.specs.declared.world.RowKey.TheVariants.{Whole, Name}
use Rattle.shell_world.specs.declared.world.RowInput.{RowInput}
use Rattle.shell_world.specs.declared.world.RowInput.TheVariants.{Nothing, Any, Exactly}
use Rattle.shell_world.specs.Texts.{Text, nth}
use Rattle.shell_world.specs.Outside.{Trace, Outside, Fds, open_at, index_at, unread, drained_at, written}

abbrev pub is_called : Text → List Text → Bool
is_called name [] = false
is_called name (first ∷ args) = same_text name first

abbrev pub fits_key : RowKey → List Text → Bool
fits_key (Whole words) argv = pointwise same_text words argv
fits_key (Name name) argv = is_called name argv

abbrev pub fits_input : RowInput → Text → Bool
fits_input Nothing input = true
fits_input Any input = true
fits_input (Exactly text) input = same_text text input

abbrev pub fits : Row → List Text → Text → Bool
fits row argv input = fits_key row.key argv && fits_input row.input input

-- the first row that fits, with its index from k
abbrev pub chosen_from : ℕ → List Row → List Text → Text → Option (ℕ × Row)
chosen_from k [] argv input = None
chosen_from k (row ∷ rows) argv input = if fits row argv input then Some (k, row) else chosen_from (k + 1) rows argv input

abbrev pub is_row : ℕ → Option ℕ → Bool
is_row k None = false
is_row k (Some i) = i == k

-- how many calls chose this row
abbrev pub times : ℕ → List Call → ℕ
times k calls = count_by (λ c. is_row k c.row) calls

abbrev pub no_answer : Answer
no_answer = record { status = 0; out = []; err = [] }

-- the answers in turn, of which the last repeats
abbrev pub answer_from : ℕ → Answer → List Answer → Answer
answer_from n a [] = a
answer_from zero a (b ∷ more) = a
answer_from (suc n) a (b ∷ more) = answer_from n b more

abbrev pub answer_at : ℕ → List Answer → Answer
answer_at n [] = no_answer
answer_at n (a ∷ more) = answer_from n a more

-- what a row takes of the input
abbrev pub taken_by : RowInput → Text → Option Text
taken_by Nothing input = None
taken_by Any input = Some input
taken_by (Exactly text) input = Some input

abbrev pub input_after_at : RowInput → Option ℕ → Outside → Outside
input_after_at Nothing i o = o
input_after_at Any i o = drained_at i o
input_after_at (Exactly text) i o = drained_at i o

-- the same through descriptor 0
abbrev pub input_after : RowInput → Fds → Outside → Outside
input_after rule fds o = input_after_at rule (index_at (nth 0 fds)) o

abbrev pub recorded : List Text → List (Text × Text) → Option Text → Option ℕ → Trace → Trace
recorded argv env input row t = record t { calls = t.calls ++ record { argv = argv; env = env; input = input; row = row } ∷ [] }

-- a call's status, the record and the outside after it
pub record Called : Type 0 where
  pub status : ℕ
  pub trace : Trace
  pub outside : Outside

abbrev pub ended_with : ℕ → Trace × Outside → Called
ended_with status x = record { status = status; trace = x.0; outside = x.1 }

-- its output goes to descriptor 1, and then its errors to descriptor 2
abbrev pub answered : Answer → Fds → Trace × Outside → Called
answered a fds x = ended_with a.status (written 2 fds a.err (written 1 fds a.out x))

-- by the row of this index
abbrev pub row_called : ℕ → Row → List Text → List (Text × Text) → Fds → Text → Trace → Outside → Called
row_called k row argv env fds input t o =
    answered (answer_at (times k t.calls) row.answers) fds (recorded argv env (taken_by row.input input) (Some k) t, input_after row.input fds o)

abbrev pub answered_by : Option (ℕ × Row) → List Text → List (Text × Text) → Fds → Text → Trace → Outside → Called
answered_by None argv env fds input t o = ended_with 127 (recorded argv env None None t, o)
answered_by (Some choice) argv env fds input t o = row_called choice.0 choice.1 argv env fds input t o

-- a call of these arguments in this environment, by this table
abbrev pub called_by : List Row → List Text → List (Text × Text) → Fds → Trace → Outside → Called
called_by rows argv env fds t o =
    let input = unread (open_at 0 fds o) o in
    answered_by (chosen_from 0 rows argv input) argv env fds input t o

-- the same by the world's table (POSIX 2.9.1.4, with the table in place of the file system)
abbrev pub called : World → List Text → List (Text × Text) → Fds → Trace → Outside → Called
called world argv env fds t o = called_by world.rows argv env fds t o
