-- A line that `read` takes (POSIX XCU read; the Bash manual's `read`). NUL bytes are dropped.
use Rattle.std.specs.Prelude.{ℕ, Bool, true, false, not, ◌+◌, ◌==◌, [], ◌∷◌, take, drop, filter, Option}
use Rattle.std.specs.List.{prefix_len}
use Rattle.shell_world.specs.declared.lines.Line.{Line}
use Rattle.shell_world.specs.Texts.{Text}
use Rattle.shell_world.specs.Outside.{Outside, desc_at, unread, consumed_at}

abbrev pub is_inner : ℕ → Bool
is_inner b = not (b == 10)

-- how many bytes stand before the first newline
abbrev pub line_len : Text → ℕ
line_len text = prefix_len is_inner text

abbrev pub is_ended : Text → Bool
is_ended [] = false
is_ended (b ∷ bs) = true

abbrev pub without_nul : Text → Text
without_nul text = filter (λ b. not (b == 0)) text

-- the line that a text begins with, and whether a newline ends it
abbrev pub line_of : Text → Line
line_of text = record { text = without_nul (take (line_len text) text); ended = is_ended (drop (line_len text) text) }

abbrev pub newlines : Bool → ℕ
newlines true = 1
newlines false = 0

-- the bytes that are taken with it: the newline too
abbrev pub line_taken : Text → ℕ
line_taken text = line_len text + newlines (is_ended (drop (line_len text) text))

-- a line was read at an index
abbrev pub line_read_at : Option ℕ → Outside → Outside
line_read_at i o = consumed_at (line_taken (unread (desc_at i o.descs) o)) i (desc_at i o.descs) o
