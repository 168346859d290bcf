use Rattle.std.proofs.Common.{ap, ◌∙◌}
use Rattle.bash_grammar.specs.Bytes.{Text}
use Rattle.bash_grammar.specs.Tokens.{Op}
use Rattle.bash_tokens.specs.Kinds.{redirect_op}
use Rattle.bash_tokens.proofs.Redirections.{redirect_is}
use Rattle.bash_tokens.proofs.words.redirect_next.Goals as goal

pub returns : goal.returns
returns c = c.begins_redirect.ensures ∙ ap (λ (x : Op × Text). redirect_op x.0) c.token.ensures ∙ redirect_is c.args.bytes.now
