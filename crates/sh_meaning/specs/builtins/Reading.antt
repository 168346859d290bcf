-- `read` (POSIX XCU read).
use Rattle.std.specs.Prelude.{ℕ, suc, ◌+◌, Bool, true, false, not, ◌&&◌, ◌==◌, if◌then◌else◌, List, [], ◌∷◌, length, take, drop, Some, None, codes}
use Rattle.std.specs.List.{list_all}
use Rattle.span_text.specs.KnownNames.{same_text, is_among}
use Rattle.span_text.specs.Names.{is_name}
use Rattle.field_split.specs.Fields.{separators}
use Rattle.field_split.specs.Reading.{line_items, texts_of}
use Rattle.shell_world.specs.Texts.{Text, nth}
use Rattle.shell_world.specs.Outside.{Outside, Fds, index_at, desc_at, unread, consumed_at}
use Rattle.shell_world.specs.Lines.{line_len, is_ended, newlines, without_nul}
use Rattle.shell_world.specs.declared.lines.Line.{Line}
use Rattle.shell_world.specs.Runs.{St}
use Rattle.shell_runs.specs.Flow.{Normal}
use Rattle.sh_meaning.specs.builtins.Core.{Core}
use Rattle.sh_meaning.specs.Variables.{Variables, assign}
use Rattle.sh_meaning.specs.builtins.Ends.{Ending, status_set, status_of_test}
use Rattle.sh_meaning.specs.builtins.Forms.{Form}
use Rattle.sh_meaning.specs.builtins.Literals.{are_written}
use Rattle.sh_meaning.specs.builtins.Variables.{value_at}

-- ---- the line that is taken

-- Whether the byte behind this one is quoted: a backslash that isn't quoted itself quotes it. NUL bytes count as not there.
abbrev pub quotes_next : Bool → ℕ → Bool
quotes_next quoted b = if b == 0 then quoted else not quoted && b == 92

-- How many bytes stand before the newline that ends the line: a quoted newline joins two lines. The truth value tells whether the first byte is quoted.
abbrev pub joined_len : Bool → Text → ℕ
joined_len quoted [] = 0
joined_len quoted (b ∷ bs) = if b == 10 && not quoted then 0 else suc (joined_len (quotes_next quoted b) bs)

-- with `-r` no backslash quotes
abbrev pub read_len : (raw : Bool) → Text → ℕ
read_len true text = line_len text
read_len false text = joined_len false text

abbrev pub line_read : (raw : Bool) → Text → Line
line_read raw text = record { text = without_nul (take (read_len raw text) text); ended = is_ended (drop (read_len raw text) text) }

-- the newline is taken too
abbrev pub bytes_taken : (raw : Bool) → Text → ℕ
bytes_taken raw text = read_len raw text + newlines (is_ended (drop (read_len raw text) text))

-- what is still to be read on standard input
abbrev pub input_of : St Core → Text
input_of s = unread (desc_at (index_at (nth 0 s.own.fds)) s.outside.descs) s.outside

abbrev pub input_taken : (raw : Bool) → Fds → Outside → Outside
input_taken raw fds o =
    let d = desc_at (index_at (nth 0 fds)) o.descs in
    consumed_at (bytes_taken raw (unread d o)) (index_at (nth 0 fds)) d o

-- ---- what is assigned

abbrev pub assign_next : Text → List Text → Variables → Variables
assign_next name [] vs = vs
assign_next name (text ∷ more) vs = assign name text vs

-- each name gets the text at its place
abbrev pub assign_all : List Text → List Text → Variables → Variables
assign_all [] texts vs = vs
assign_all (name ∷ names) texts vs = assign_all names (drop 1 texts) (assign_next name texts vs)

-- the fields of a line, split by IFS
abbrev pub texts_read : (raw : Bool) → ℕ → Text → Variables → List Text
texts_read raw n text vs = texts_of (separators (value_at (codes "IFS") vs)) n (line_items raw text)

abbrev pub vars_read : (raw : Bool) → List Text → Text → Core → Core
vars_read raw names text o = record o { vars = assign_all names (texts_read raw (length names) text o.vars) o.vars }

-- the status is 1 where no newline ends the line
abbrev pub read_to : (raw : Bool) → List Text → Line → St Core → St Core
read_to raw names line s = record {
  trace = s.trace;
  outside = input_taken raw s.own.fds s.outside;
  own = status_set (status_of_test line.ended) (vars_read raw names line.text s.own);
}

abbrev pub reads : (raw : Bool) → List Text → St Core → Ending
reads raw names s = Some (Normal, read_to raw names (line_read raw (input_of s)) s)

-- ---- `read names`, `read -r names`

-- a name that the same command doesn't assign before
abbrev pub is_read_name : Form → Text → Bool
is_read_name form name = is_name name && not (is_among form.prefix name)

-- behind k words there is a name at least, each is one, and each is written as it is
abbrev pub can_read : ℕ → Form → List Text → Bool
can_read k form names = not (length names == 0) && list_all (is_read_name form) names && are_written k (length names) form.words

abbrev pub read_names : ℕ → (raw : Bool) → Form → List Text → St Core → Ending
read_names k raw form names s = if can_read k form names then reads raw names s else None

abbrev pub read_run : Form → List Text → St Core → Ending
read_run form [] s = None
read_run form (first ∷ more) s = if same_text (codes "-r") first then read_names 2 true form more s else read_names 1 false form (first ∷ more) s
