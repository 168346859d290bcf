-- The outside of a run as the code keeps it: with the table that answers its calls.
use Rattle.std.specs.Prelude.{ℕ, List, Option, Some, None}
use Rattle.shell_world.specs.declared.world.World.{World}
use Rattle.shell_world.specs.declared.world.Row.{Row}
use Rattle.shell_world.specs.declared.world.Report.{Report}
use Rattle.shell_world.specs.declared.world.End.{End}
use Rattle.shell_world.specs.declared.description.Desc.{Desc}
use Rattle.shell_world.specs.Texts.{Text, insert}
use Rattle.shell_world.specs.Outside.{Trace, Outside, Fds, open_at, unread}
use Rattle.shell_world.specs.Calls.{Called, row_called, called_by}
use Rattle.shell_world.specs.Reports.{report_at}
use Rattle.shell_world.specs.World.{start_outside, no_trace}

pub record Running : Type 0 where
  pub rows : List Row
  pub trace : Trace
  pub outside : Outside

-- the number of a description
abbrev pub index_of : Option Desc → Option ℕ
index_of None = None
index_of (Some d) = Some d.0

-- a run at its start
abbrev pub started : World → Running
started world = record { rows = world.rows; trace = no_trace; outside = start_outside world }

abbrev pub with_both : Running → Trace × Outside → Running
with_both r x = record r { trace = x.0; outside = x.1 }

-- what a call leaves
abbrev pub after_call : Running → Called → Running
after_call r c = record r { trace = c.trace; outside = c.outside }

abbrev pub call_of : Running → List Text → List (Text × Text) → Fds → Called
call_of r argv env fds = called_by r.rows argv env fds r.trace r.outside

-- a file holds this text
abbrev pub with_file : Running → Text → Text → Running
with_file r path text = record r { outside = record r.outside { files = insert path text r.outside.files } }

abbrev pub row_call : Running → ℕ → Row → List Text → List (Text × Text) → Fds → Called
row_call r k row argv env fds = row_called k row argv env fds (unread (open_at 0 fds r.outside) r.outside) r.trace r.outside

abbrev pub report_of_run : End → ℕ → Running → Report
report_of_run end turns r = report_at end turns r.trace r.outside.files
