-- A redirection comes next where its first token does.
use Rattle.std.proofs.Common.{◌≡◌, refl}
use Rattle.bash_grammar.specs.Bytes.{Text}
use Rattle.bash_grammar.specs.Tokens.{token, is_token, here_next, copy_next, both_next, redirect_next}
use Rattle.bash_tokens.specs.Kinds.{redirect_op}

pub redirect_is : (bytes : Text) → redirect_op (token bytes).0 ≡ redirect_next bytes
unfolding redirect_next here_next copy_next both_next is_token
redirect_is bytes = refl
