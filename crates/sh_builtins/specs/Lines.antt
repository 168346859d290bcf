-- A line that goes on behind quoted newlines, part by part.
use Rattle.std.specs.Prelude.{◌≡◌, ◌<◌, ℕ, Bool, false, ◌++◌, [], ◌∷◌, length, Option}
use Rattle.shell_world.specs.Texts.{Text}
use Rattle.shell_world.specs.Outside.{Outside, desc_at, unread, consumed_at}
use Rattle.shell_world.specs.declared.lines.Line.{Line}
use Rattle.sh_meaning.specs.builtins.Reading.{quotes_next, line_read, bytes_taken}
use Rattle.sh_builtins.specs.declared.reading.Part.{Part}
use Rattle.sh_builtins.specs.declared.reading.Part.TheVariants.{Joined, Last}

-- a text before a line
abbrev pub with_text : Text → Line → Line
with_text text line = record { text = text ++ line.text; ended = line.ended }

-- whether the byte behind a text is quoted
abbrev pub quotes_behind : Bool → Text → Bool
quotes_behind quoted [] = quoted
quotes_behind quoted (b ∷ bs) = quotes_behind (quotes_next quoted b) bs

-- what is to be read through an index
abbrev pub input_at : Option ℕ → Outside → Text
input_at i o = unread (desc_at i o.descs) o

-- a line was read through an index
abbrev pub taken_at : (raw : Bool) → Option ℕ → Outside → Outside
taken_at raw i o = consumed_at (bytes_taken raw (input_at i o)) i (desc_at i o.descs) o

-- A part of a line was put behind the text: the line goes on, or this was its end.
abbrev pub Takes : Option ℕ → Text → Text → Outside → Outside → Part → Type 0
Takes i old new before after Joined =
    (with_text new (line_read false (input_at i after)) ≡ with_text old (line_read false (input_at i before)))
    × (taken_at false i after ≡ taken_at false i before)
    × (length (input_at i after) < length (input_at i before))
Takes i old new before after (Last ended) =
    (with_text old (line_read false (input_at i before)) ≡ record { text = new; ended = ended })
    × (after ≡ taken_at false i before)
