-- What a backslash quotes.
use Rattle.std.proofs.Common.{◌≡◌, ℕ, Bool, true, false, cond, [], ◌∷◌, Option, Some, None, refl, ap}
use Rattle.text_grammar.specs.Grammar.{said}
use Rattle.text_grammar.proofs.Tools.{some_is}
use Rattle.sh_grammar.specs.Shape.{exact}
use Rattle.sh_grammar.specs.Bytes.{Text, Context, is_escaped}
use Rattle.sh_grammar.specs.State.{State, move, part_node}
use Rattle.sh_grammar.specs.Steps.{gives, escaped_read}
use Rattle.sh_parser.specs.Views.{escaped_first}

escaped_at : (t : Bool) (s : State) (b d : ℕ) (bs rest : Text) → cond {A = Option (ℕ × Text)} t (Some (b, bs)) None ≡ Some (d, rest) → cond t (gives (part_node (exact (b ∷ []))) s bs) None ≡ gives (part_node (exact (d ∷ []))) s rest
escaped_at true s b d bs rest e = ap (λ (y : ℕ × Text). gives (part_node (exact (y.0 ∷ []))) s y.1) (some_is (b, bs) (d, rest) e)
escaped_at false s b d bs rest e = absurd cc

pub escaped_is : (c : Context) (s : State) (after rest : Text) (d : ℕ) → escaped_first c after ≡ Some (d, rest) → escaped_read c s after ≡ Some (said (part_node (exact (d ∷ []))), move s rest)
escaped_is c s [] rest d e = absurd cc
escaped_is c s (b ∷ bs) rest d e = escaped_at (is_escaped c b) s b d bs rest e

none_at : (t : Bool) (s : State) (b : ℕ) (bs : Text) → cond {A = Option (ℕ × Text)} t (Some (b, bs)) None ≡ None → cond t (gives (part_node (exact (b ∷ []))) s bs) None ≡ None
none_at true s b bs e = absurd cc
none_at false s b bs e = refl

pub escaped_none : (c : Context) (s : State) (after : Text) → escaped_first c after ≡ None → escaped_read c s after ≡ None
escaped_none c s [] e = refl
escaped_none c s (b ∷ bs) e = none_at (is_escaped c b) s b bs e
