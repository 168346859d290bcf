use Rattle.std.proofs.Common.{ap, ◌∙◌}
use Rattle.sh_grammar.specs.Bytes.{Text}
use Rattle.sh_grammar.specs.Tokens.{Op}
use Rattle.sh_parser.specs.Kinds.{redirect_op}
use Rattle.sh_parser.proofs.Redirections.{redirect_is}
use Rattle.sh_parser.proofs.keys.redirect_next.Goals as goal

pub returns : goal.returns
returns c = c.begins_redirect.ensures ∙ ap (λ (x : Op × Text). redirect_op x.0) c.token.ensures ∙ redirect_is c.args.bytes.now
