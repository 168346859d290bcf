-- What the code finds behind a `$`, as the grammar says it.
use Rattle.std.specs.Prelude.{Bool, true, false, Option, [], ◌∷◌}
use Rattle.sh_grammar.specs.Shape as shape
use Rattle.sh_grammar.specs.Shape.{named, digits, count, status, at, star, as_is, length_of, ParamOp}
use Rattle.sh_grammar.specs.Bytes.{Text, clear, name_run, digit_run}
use Rattle.sh_grammar.specs.Expansions as expansions
use Rattle.sh_grammar.specs.Expansions.{◌>>=◌, closed, filling, trimming, long_param_at, operator_at}
use Rattle.sh_parser.specs.declared.params.Found.{Found}
use Rattle.sh_parser.specs.declared.params.Found.TheVariants as found
use Rattle.sh_syntax.specs.View.{view_test}
use Rattle.sh_parser.specs.declared.params.Head.{Head}
use Rattle.sh_parser.specs.declared.params.Head.TheVariants as heads

abbrev pub param : Found → shape.Param
param (found.Name bytes) = named (name_run bytes.now).0
param (found.Digit b) = digits (b ∷ [])
param (found.Digits bytes) = digits (digit_run bytes.now).0
param found.Count = count
param found.Status = status
param found.At = at
param found.Star = star

abbrev pub measured : Bool → ParamOp
measured true = length_of
measured false = as_is

abbrev pub head : Head → expansions.Head
head (heads.Closed p length) = closed (param p) (measured length)
head (heads.Filling p t colon) = filling (param p) (view_test t) colon
head (heads.Trimming p suffix longest) = trimming (param p) suffix longest

-- behind `${` where no `#` follows
abbrev pub named_head : Text → Option (expansions.Head × Text)
named_head bytes = long_param_at bytes >>= λ x. operator_at x.0 (clear x.1)
