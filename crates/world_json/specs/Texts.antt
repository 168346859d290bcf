-- Bytes as the characters of a JSON text.
use Rattle.std.specs.Prelude.{encode_utf8_all}
use Rattle.serde_json.specs.Data.{Data, string}
use Rattle.shell_world.specs.Texts.{Text}

-- each byte as the character of its number, U+0000 to U+00FF, in UTF-8
abbrev pub characters : Text → Text
characters bytes = encode_utf8_all bytes

abbrev pub text_data : Text → Data
text_data bytes = string (characters bytes)
