-- The code's own small types, as the definitions see them.
use Rattle.sh_grammar.specs.Bytes as bytes
use Rattle.sh_printer.specs.declared.context.Context.{Context}
use Rattle.sh_printer.specs.declared.context.Context.TheVariants.{Word, Double, Body, Brace, QuotedBrace, BodyBrace, BodyPattern}
use Rattle.sh_printer.specs.declared.marks.End.{End}
use Rattle.sh_printer.specs.declared.marks.End.TheVariants.{Piped, AndThen, OrElse, Next, Line}
use Rattle.sh_syntax.specs.declared.tree.Joint.{Joint}
use Rattle.sh_syntax.specs.declared.tree.Joint.TheVariants.{And, Or}
use Rattle.sh_printing.specs.Marks as marks

abbrev pub view_context : Context → bytes.Context
view_context Word = bytes.in_word
view_context Double = bytes.in_double
view_context Body = bytes.in_body
view_context Brace = bytes.in_brace
view_context QuotedBrace = bytes.in_quoted_brace
view_context BodyBrace = bytes.in_body_brace
view_context BodyPattern = bytes.in_body_pattern

abbrev pub view_end : End → marks.End
view_end Piped = marks.piped
view_end AndThen = marks.and_then
view_end OrElse = marks.or_else
view_end Next = marks.next
view_end Line = marks.line

-- what ends a pipeline before such a link
abbrev pub end_before : Joint → marks.End
end_before And = marks.and_then
end_before Or = marks.or_else
