-- The text of a plain part.
use Rattle.std.specs.Prelude.{[]}
use Rattle.shell_world.specs.Texts.{Text}
use Rattle.sh_grammar.specs.Shape.{Part, plain, exact, double, tilde, param, subst, arith}

abbrev pub plain_of : Part → Text
plain_of (plain text) = text
plain_of (exact text) = []
plain_of (double ps) = []
plain_of tilde = []
plain_of (param p op) = []
plain_of (subst script) = []
plain_of (arith e ws) = []
