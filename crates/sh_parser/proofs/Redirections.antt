-- A redirection comes next where its first token does.
use Rattle.std.proofs.Common.{◌≡◌, refl}
use Rattle.sh_grammar.specs.Bytes.{Text}
use Rattle.sh_grammar.specs.Tokens.{token, is_token, here_next, copy_next, redirect_next}
use Rattle.sh_parser.specs.Kinds.{redirect_op}

pub redirect_is : (bytes : Text) → redirect_op (token bytes).0 ≡ redirect_next bytes
unfolding redirect_next here_next copy_next is_token
redirect_is bytes = refl
