-- A parameter's value hangs on the variables, the positional parameters and the status alone.
use Rattle.std.proofs.Common.{◌≡◌, ℕ, List, refl, ap}
use Rattle.shell_world.specs.Texts.{Text, text_or_none}
use Rattle.sh_grammar.specs.Shape.{Param, named, digits, count, status, at, star}
use Rattle.sh_meaning.specs.Own.{Own}
use Rattle.sh_meaning.specs.Parameters.{parameter, parameter_text}
use Rattle.sh_expansion.specs.Views.{own_of}

pub value_is : (p : Param) (o : Own) → parameter p (own_of o.vars o.params o.status) ≡ parameter p o
value_is (named name) o = refl
value_is (digits text) o = refl
value_is count o = refl
value_is status o = refl
value_is at o = refl
value_is star o = refl

pub text_is : (p : Param) (o : Own) → parameter_text p (own_of o.vars o.params o.status) ≡ parameter_text p o
text_is p o = ap text_or_none (value_is p o)
