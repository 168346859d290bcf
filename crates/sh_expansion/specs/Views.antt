-- The code's enumerations and its states as those of the meaning.
use Rattle.std.specs.Prelude.{ℕ, List, []}
use Rattle.shell_world.specs.Texts.{Text}
use Rattle.sh_meaning.specs.Expanded.{Expanded}
use Rattle.sh_meaning.specs.Modes.{Purpose, Mode, Listing}
use Rattle.sh_meaning.specs.Modes as modes
use Rattle.sh_meaning.specs.Own.{Own}
use Rattle.sh_meaning.specs.Variables.{Variables}
use Rattle.sh_expansion.specs.declared.expanded.Expanded.{Expanded as Building}
use Rattle.sh_expansion.specs.declared.mode.Listing.{Listing as CodeListing}
use Rattle.sh_expansion.specs.declared.mode.Listing.TheVariants.{Members, Joined, Nowhere}
use Rattle.sh_expansion.specs.declared.mode.Mode.{Mode as CodeMode}
use Rattle.sh_expansion.specs.declared.mode.Mode.TheVariants.{Bare, Double}
use Rattle.sh_expansion.specs.declared.mode.Purpose.{Purpose as CodePurpose}
use Rattle.sh_expansion.specs.declared.mode.Purpose.TheVariants.{Fields, Single, Body, Operand}

abbrev pub purpose_of : CodePurpose → Purpose
purpose_of Fields = modes.Fields
purpose_of Single = modes.Single
purpose_of Body = modes.Body
purpose_of Operand = modes.Operand

abbrev pub mode_of : CodeMode → Mode
mode_of (Bare purpose mark) = modes.Bare (purpose_of purpose) mark
mode_of (Double purpose) = modes.Double (purpose_of purpose)

abbrev pub listing_of : CodeListing → Listing
listing_of Members = modes.Members
listing_of Joined = modes.Joined
listing_of Nowhere = modes.Nowhere

-- a word while it is expanded
abbrev pub word_of : Building → Expanded
word_of e = record { before = e.before; now = e.text; missing = e.missing; other = e.other; ran = e.ran }

-- a shell environment with these variables, positional parameters (the script's name first) and status; parameters
-- are read from nothing else
abbrev pub own_of : Variables → List Text → ℕ → Own
own_of vars params status = record { vars = vars; params = params; functions = []; status = status; fds = [] }
