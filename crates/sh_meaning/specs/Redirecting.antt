-- Redirections of sh (POSIX XCU 2.7).
use Rattle.std.specs.Prelude.{ℕ, ◌-◌, ◌==◌, Bool, true, false, [], ◌∷◌, Option, Some, None}
use Rattle.shell_world.specs.declared.world.World.{World}
use Rattle.shell_world.specs.Texts.{Text}
use Rattle.shell_world.specs.Opening.{Opened, read_opened, write_opened, text_opened}
use Rattle.shell_world.specs.Outside.{Outside}
use Rattle.shell_world.specs.Runs.{Do, after, choose}
use Rattle.shell_runs.specs.Flow.{Flow}
use Rattle.shell_runs.specs.Sequences.{now}
use Rattle.shell_runs.specs.Redirecting.{Made, opened_run, copied_run, closed_run, redirected, bracketed}
use Rattle.sh_grammar.specs.Shape.{RedirectOp, read, write, append, here_literal, here_expanded, copy_in, copy_out, plain, Parts, no_part, part}
use Rattle.sh_meaning.specs.Own.{Own, fds_of, with_fds, with_status}
use Rattle.sh_meaning.specs.Modes.{Mode, Double, Body, in_value}
use Rattle.sh_meaning.specs.Expanded.{Expanded, text_of}

-- the descriptor where none is written
abbrev pub default_fd : RedirectOp → ℕ
default_fd read = 0
default_fd write = 1
default_fd append = 1
default_fd here_literal = 0
default_fd here_expanded = 0
default_fd copy_in = 0
default_fd copy_out = 1

abbrev pub fd_of : Option ℕ → RedirectOp → ℕ
fd_of None op = default_fd op
fd_of (Some fd) op = fd

-- the word of a redirection is one text; the body of a here-document stands as between double quotes
abbrev pub redirect_mode : RedirectOp → Mode
redirect_mode read = in_value
redirect_mode write = in_value
redirect_mode append = in_value
redirect_mode here_literal = Double Body
redirect_mode here_expanded = Double Body
redirect_mode copy_in = in_value
redirect_mode copy_out = in_value

-- a word that is one plain part, as a digit, `-` and a body that isn't expanded are
abbrev pub plain_text : Parts → Text
plain_text no_part = []
plain_text (part (plain text) ps) = text
plain_text (part p ps) = []

-- what is opened for a text; the two that copy open nothing
abbrev pub opened_by : RedirectOp → Text → Outside → Opened
opened_by read text o = read_opened text o
opened_by write text o = write_opened false text o
opened_by append text o = write_opened true text o
opened_by here_literal text o = text_opened text o
opened_by here_expanded text o = text_opened text o
opened_by copy_in text o = text_opened text o
opened_by copy_out text o = text_opened text o

-- behind the word; the payload tells whether a command substitution ran
abbrev pub redirect_over : ℕ → RedirectOp → Expanded → Do (Made Bool) Own
redirect_over fd op e n s = opened_run fds_of with_fds e.ran fd (opened_by op (text_of e) s.outside) n s

abbrev pub worded_run : ℕ → RedirectOp → Do Expanded Own → Do (Made Bool) Own
worded_run fd op w n s = after (w n s) (redirect_over fd op)

abbrev pub literal_run : Bool → ℕ → Text → Do (Made Bool) Own
literal_run ran fd text n s = opened_run fds_of with_fds ran fd (text_opened text s.outside) n s

-- `<&d`, `<&-`
abbrev pub copy_run : Bool → ℕ → Text → Do (Made Bool) Own
copy_run ran fd [] n s = closed_run fds_of with_fds ran fd n s
copy_run ran fd (b ∷ bs) n s = choose (b == 45) (closed_run fds_of with_fds ran fd) (copied_run fds_of with_fds ran fd (b - 48)) n s

-- one redirection, whose word is expanded by w; the words of copies and of bodies that aren't expanded are taken as they are
abbrev pub redirect_run : Bool → ℕ → RedirectOp → Parts → Do Expanded Own → Do (Made Bool) Own
redirect_run ran fd read parts w n s = worded_run fd read w n s
redirect_run ran fd write parts w n s = worded_run fd write w n s
redirect_run ran fd append parts w n s = worded_run fd append w n s
redirect_run ran fd here_expanded parts w n s = worded_run fd here_expanded w n s
redirect_run ran fd here_literal parts w n s = literal_run ran fd (plain_text parts) n s
redirect_run ran fd copy_in parts w n s = copy_run ran fd (plain_text parts) n s
redirect_run ran fd copy_out parts w n s = copy_run ran fd (plain_text parts) n s

-- what a command does one of whose redirections failed: the status is the latitude's
abbrev pub failed_run : World → Do Flow Own
failed_run world n s = now (with_status world.latitude.redirect) n s

-- a command with its redirections around it; the descriptors are as before behind it
abbrev pub around : Do (Made Bool) Own → (Bool → Do Flow Own) → Do Flow Own → Do Flow Own
around redirects command failed n s = bracketed fds_of with_fds (redirected redirects command failed) n s
