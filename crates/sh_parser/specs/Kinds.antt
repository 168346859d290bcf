-- The kinds of bytes and tokens in the code, as those of the grammar.
use Rattle.std.specs.Prelude.{ℕ, Bool, ◌==◌, ◌||◌}
use Rattle.span_text.specs.Names.{continues_name, is_digit}
use Rattle.sh_grammar.specs.Bytes.{Text, is_literal, in_word, in_double, in_body, in_brace, in_quoted_brace, in_body_brace, in_body_pattern}
use Rattle.sh_grammar.specs.Bytes as bytes
use Rattle.sh_parser.specs.declared.class.Context.{Context}
use Rattle.sh_parser.specs.declared.class.Context.TheVariants.{Word, Double, Body, Brace, QuotedBrace, BodyBrace, BodyPattern}
use Rattle.sh_grammar.specs.Tokens as tokens
use Rattle.sh_parser.specs.declared.tokens.Op.{Op}
use Rattle.sh_parser.specs.declared.tokens.Op.TheVariants as ops
use Rattle.sh_parser.specs.declared.keys.Key.{Key}
use Rattle.sh_parser.specs.declared.keys.Key.TheVariants as keys
use Rattle.sh_parser.specs.declared.runs.Run.{Run}
use Rattle.sh_parser.specs.declared.runs.Run.TheVariants.{Literal, Name, Digits}

abbrev pub context : Context → bytes.Context
context Word = in_word
context Double = in_double
context Body = in_body
context Brace = in_brace
context QuotedBrace = in_quoted_brace
context BodyBrace = in_body_brace
context BodyPattern = in_body_pattern

-- whether a byte goes on with a run, by what follows it
abbrev pub goes_on : Run → ℕ → Text → Bool
goes_on (Literal c) = is_literal (context c)
goes_on Name = λ b bs. continues_name b
goes_on Digits = λ b bs. is_digit b

abbrev pub op : Op → tokens.Op
op ops.End = tokens.End
op ops.Newline = tokens.Newline
op ops.Semi = tokens.Semi
op ops.SemiSemi = tokens.SemiSemi
op ops.AndIf = tokens.AndIf
op ops.OrIf = tokens.OrIf
op ops.Pipe = tokens.Pipe
op ops.Open = tokens.Open
op ops.Close = tokens.Close
op ops.Less = tokens.Less
op ops.Great = tokens.Great
op ops.DGreat = tokens.DGreat
op ops.DLess = tokens.DLess
op ops.DLessDash = tokens.DLessDash
op ops.LessAnd = tokens.LessAnd
op ops.GreatAnd = tokens.GreatAnd
op ops.Io = tokens.Io
op ops.Word = tokens.Word
op ops.Other = tokens.Other

abbrev pub key : Key → tokens.Key
key keys.If = tokens.If
key keys.Then = tokens.Then
key keys.Elif = tokens.Elif
key keys.Else = tokens.Else
key keys.Fi = tokens.Fi
key keys.For = tokens.For
key keys.In = tokens.In
key keys.Until = tokens.Until
key keys.While = tokens.While
key keys.Do = tokens.Do
key keys.Done = tokens.Done
key keys.Case = tokens.Case
key keys.Esac = tokens.Esac
key keys.OpenBrace = tokens.OpenBrace
key keys.CloseBrace = tokens.CloseBrace
key keys.Bang = tokens.Bang

-- the tokens that begin a redirection
abbrev pub redirect_op : tokens.Op → Bool
redirect_op t =
    tokens.code t == tokens.code tokens.Io || tokens.code t == tokens.code tokens.Less || tokens.code t == tokens.code tokens.Great || tokens.code t == tokens.code tokens.DGreat
    || (tokens.code t == tokens.code tokens.DLess || tokens.code t == tokens.code tokens.DLessDash)
    || (tokens.code t == tokens.code tokens.LessAnd || tokens.code t == tokens.code tokens.GreatAnd)
