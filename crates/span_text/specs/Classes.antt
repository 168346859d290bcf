-- Kinds of bytes by their names.
use Rattle.std.specs.Prelude.{ℕ, Bool}
use Rattle.span_text.specs.declared.scan.Class.{Class}
use Rattle.span_text.specs.declared.scan.Class.TheVariants.{Blank, Plain, Exact, Quoted, Comment, NameFirst, NameRest}
use Rattle.span_text.specs.Names.{begins_name, continues_name}
use Rattle.span_text.specs.Scanning.{is_blank, is_plain_byte, is_exact_byte, is_quoted_byte, is_comment_byte}

abbrev pub holds : Class → ℕ → Bool
holds Blank b = is_blank b
holds Plain b = is_plain_byte b
holds Exact b = is_exact_byte b
holds Quoted b = is_quoted_byte b
holds Comment b = is_comment_byte b
holds NameFirst b = begins_name b
holds NameRest b = continues_name b
