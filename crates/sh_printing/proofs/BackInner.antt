-- What the induction over a script needs of the lists in its words: each reads back, so deep in bodies, where these are the bodies.
use Rattle.std.proofs.Common.{◌≡◌, ℕ, zero, suc, ◌+◌, ◌≤◌, Bool, true, List, ◌++◌}
use Rattle.sh_grammar.specs.Shape as shape
use Rattle.sh_grammar.specs.Shape.{plain, exact, double, tilde, param, subst as listing, arith as sum, no_part, part, as_is, length_of, fill, trim, no_word, word, no_value, value, no_assign, assign, no_redirect, redirect}
use Rattle.sh_grammar.specs.Bytes.{Text, gap}
use Rattle.sh_grammar.specs.State.{Sum}
use Rattle.sh_grammar.specs.Steps.{limit}
use Rattle.sh_grammar.proofs.Known.{known_in}
use Rattle.sh_printing.specs.Printing.{list_text}
use Rattle.sh_printing.specs.Printable.{list_fits}
use Rattle.sh_printing.proofs.BackDue.{Covers}
use Rattle.sh_printing.proofs.BackLines.{clean}
use Rattle.sh_printing.proofs.BackNamed.{parts_bodies, list_bodies, list_free}
use Rattle.sh_printing.proofs.BackTreeSteps.{Maybe}

-- a list in a substitution reads back
abbrev pub ListLaw : ℕ → List Text → (inside : Bool) → shape.Script → Type 0
ListLaw n ds i s = (d : ℕ) (q : List Sum) (f : List Text) (bytes t : Text) → suc limit ≤ n + d → d ≤ limit → list_fits i d s ≡ true → list_free s ≡ true → Covers (known_in n ds) (clean f) (list_bodies s) → Rattle.sh_printing.proofs.BackCommands.ListEnd t → gap bytes ≡ gap (list_text true s ++ t) → Maybe (known_in n ds) d q f bytes t s

-- each list in a word
abbrev mutual
  pub PartLists : ℕ → List Text → (inside : Bool) → shape.Part → Type 0
  PartLists n ds i (plain text) = Unit {0}
  PartLists n ds i (exact text) = Unit {0}
  PartLists n ds i (double ps) = PartsLists n ds i ps
  PartLists n ds i tilde = Unit {0}
  PartLists n ds i (param p as_is) = Unit {0}
  PartLists n ds i (param p length_of) = Unit {0}
  PartLists n ds i (param p (fill t c w)) = PartsLists n ds i w
  PartLists n ds i (param p (trim s l w)) = PartsLists n ds i w
  PartLists n ds i (listing s) = ListLaw n ds i s
  PartLists n ds i (sum e ws) = WordsLists n ds i ws

  pub PartsLists : ℕ → List Text → (inside : Bool) → shape.Parts → Type 0
  PartsLists n ds i no_part = Unit {0}
  PartsLists n ds i (part p ps) = PartLists n ds i p × PartsLists n ds i ps

  pub WordsLists : ℕ → List Text → (inside : Bool) → shape.Words → Type 0
  WordsLists n ds i no_word = Unit {0}
  WordsLists n ds i (word w ws) = PartsLists n ds i w × WordsLists n ds i ws

abbrev pub ValueLists : ℕ → List Text → (inside : Bool) → shape.Value → Type 0
ValueLists n ds i no_value = Unit {0}
ValueLists n ds i (value w) = PartsLists n ds i w

abbrev pub AssignsLists : ℕ → List Text → (inside : Bool) → shape.Assigns → Type 0
AssignsLists n ds i no_assign = Unit {0}
AssignsLists n ds i (assign name v vs) = ValueLists n ds i v × AssignsLists n ds i vs

-- in the body of a here-document that is expanded, with bodies of its own
abbrev pub BodyLists : ℕ → shape.Parts → Type 0
BodyLists zero w = Unit {0}
BodyLists (suc m) w = PartsLists m (parts_bodies w) true w

abbrev pub RedirectsLists : ℕ → List Text → (inside : Bool) → shape.Redirects → Type 0
RedirectsLists n ds i no_redirect = Unit {0}
RedirectsLists n ds i (redirect fd shape.here_literal w rs) = RedirectsLists n ds i rs
RedirectsLists n ds i (redirect fd shape.here_expanded w rs) = BodyLists n w × RedirectsLists n ds i rs
RedirectsLists n ds i (redirect fd op w rs) = PartsLists n ds i w × RedirectsLists n ds i rs
