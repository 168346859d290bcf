use Rattle.std.proofs.Common.{◌≡◌, ◌==◌, Some, None, true, false, sym, ap, ◌∙◌, MatchOption, length, take, drop, ◌+◌, List, ℕ, Option, Bor}
use Rattle.std.specs.Cmp.Lexicographic.{pointwise}
use Rattle.std.specs.Option.{option_copied}
use Rattle.shell_world.specs.Paths.{behind}
use Rattle.shell_world.proofs.Parts.{behind_found, behind_missed}
use Rattle.sh_checks.proofs.roles.behind.Goals as goal

stripped : (front text : List ℕ) (r : Option (Bor (List ℕ)))
    → MatchOption r (pointwise ◌==◌ (take (length front) text) front ≡ false) (λ x. (pointwise ◌==◌ (take (length front) text) front ≡ true) × (x.now ≡ drop (length front) text) × (length x.now + length front ≡ length text))
    → option_copied r ≡ behind front text
stripped front text None h = sym (behind_missed front text h)
stripped front text (Some x) h = ap Some h.1 ∙ sym (behind_found front text h.0)

pub returns : goal.returns
returns c = stripped c.args.front.now c.args.text.now c.strip_prefix.result c.strip_prefix.ensures.cases
