-- What runs are of, as the grammar says it.
use Rattle.std.specs.Prelude.{ℕ, Bool, false, ◌++◌, Option, Some, None, if◌then◌else◌}
use Rattle.span_text.specs.Names.{continues_name, is_digit}
use Rattle.span_text.specs.KnownNames.{same_text}
use Rattle.bash_grammar.specs.Bytes as bytes_of
use Rattle.bash_grammar.specs.Bytes.{Text, is_literal, run_from, counted_from, opening, closing}
use Rattle.bash_tokens.specs.Kinds.{context}
use Rattle.bash_tokens.specs.declared.runs.Run.{Run}
use Rattle.bash_tokens.specs.declared.runs.Run.TheVariants.{Literal, Name, Digits}
use Rattle.bash_tokens.specs.declared.runs.Counted.{Counted}

-- whether a byte goes on with a run, by what follows it
abbrev pub goes_on : Run → ℕ → Text → Bool
goes_on (Literal c) = is_literal (context c)
goes_on Name = λ b bs. continues_name b
goes_on Digits = λ b bs. is_digit b

-- the bytes of a run, and what follows them
abbrev pub run : Run → Text → Text × Text
run r bytes = run_from (goes_on r) bytes false bytes

-- what follows a run whose bytes are these
abbrev pub matched : Text → Text × Text → Option Text
matched text x = if same_text x.0 text then Some x.1 else None

-- behind what was read before
abbrev pub joined_to : Text → Text × Text → Text × Text
joined_to text x = (text ++ x.0, x.1)

abbrev pub counted : Counted → (Text × Text) × ℕ
counted x = ((x.text, x.rest.now), x.level)

-- the same where brackets count, of which so many are open
abbrev pub counted_run : bytes_of.Context → ℕ → Text → (Text × Text) × ℕ
counted_run c level bytes = counted_from (opening c.spot) (closing c.spot) (is_literal c) level bytes false bytes

abbrev pub counted_to : Text → (Text × Text) × ℕ → (Text × Text) × ℕ
counted_to text x = (joined_to text x.0, x.1)
