-- Where the printed text goes: to a sink, or past a search for a line.
use Rattle.std.specs.Prelude.{◌≡◌, ℕ, true, false, drop, Option, Some, None, Result, Ok, if◌then◌else◌}
use Rattle.span_text.specs.Streams.{Wrote}
use Rattle.sh_grammar.specs.Bytes.{Text}
use Rattle.sh_printer.specs.declared.search.Search.{Search}
use Rattle.sh_printing.specs.Delimiters.{Sight, sight}

abbrev pub rest_of : Search → Option Text
rest_of s = if s.same then Some (drop s.at s.name.now) else None

abbrev pub sight_of : Search → Sight
sight_of s = record { rest = rest_of s; found = s.found }

-- the text went past the search
pub record Passed (before after : Search) (text : Text) : Type 0 where
  pub sees : sight_of after ≡ sight before.name.now (sight_of before) text
  pub name : after.name ≡ before.name
  pub writes : after.writes ≡ before.writes

-- the text was written to a sink, or passed a search and left the sink as it was
pub record Put {T E : Type 0} (held : T → Option Text) (faults : T → ℕ) (before after : Search) (out now : T) (result : Result (Unit {0}) E) (text : Text) : Type 0 where
  pub writes : before.writes ≡ true → (after ≡ before) × Wrote (held out) (held now) (faults out) (faults now) result text
  pub seeks : before.writes ≡ false → Passed before after text × (now ≡ out) × (result ≡ Ok tt)
