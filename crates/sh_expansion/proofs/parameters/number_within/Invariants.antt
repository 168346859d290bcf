use Rattle.std.proofs.Common.{◌≡◌, drop, min}
use Rattle.std.specs.Str.Parse.{digits_value, digits_value_after}
use Rattle.sh_expansion.proofs.parameters.number_within.Given as goal

abbrev pub invariant-loop-digit : goal.invariant-loop-digit
invariant-loop-digit l = min (digits_value_after 10 l.number (drop l.digit-index l.digits)) l.most ≡ min (digits_value 10 l.digits) l.most
