-- Parts of words that are checked.
use Rattle.std.proofs.Common.{◌≡◌, ℕ, suc, ◌-◌, ◌≤◌, Bool, true, false, List, [], ◌∷◌, length, get_or, refl, ap, ◌∙◌, arith}
use Rattle.std.specs.Prelude.{map}
use Rattle.sh_grammar.specs.Shape as shape
use Rattle.sh_printer.specs.Parts.{part_begins, part_ends}
use Rattle.sh_printing.specs.Printable.{ends_line, has_part, is_assignment, is_copied_word, literal_body, plain_begins}
use Rattle.sh_syntax.specs.declared.tree.Part.{Part}
use Rattle.sh_syntax.specs.View.{view_part, parts_of}

pub begins_first : (k : ℕ) (p : shape.Part) (ps : shape.Parts) → plain_begins k (shape.part p ps) ≡ part_begins k p
begins_first k (shape.plain text) ps = refl
begins_first k (shape.exact text) ps = refl
begins_first k (shape.double qs) ps = refl
begins_first k shape.tilde ps = refl
begins_first k (shape.param p o) ps = refl
begins_first k (shape.subst s) ps = refl
begins_first k (shape.arith e ws) ps = refl

pub assigns_first : (p : shape.Part) (ps : shape.Parts) → is_assignment (shape.part p ps) ≡ is_assignment (shape.part p shape.no_part)
assigns_first (shape.plain text) ps = refl
assigns_first (shape.exact text) ps = refl
assigns_first (shape.double qs) ps = refl
assigns_first shape.tilde ps = refl
assigns_first (shape.param p o) ps = refl
assigns_first (shape.subst s) ps = refl
assigns_first (shape.arith e ws) ps = refl

pub some_parts : (ps : List Part) → 1 ≤ length ps → true ≡ has_part (parts_of (map view_part ps))
some_parts [] lt = absurd (omega arith)
some_parts (p ∷ ps) lt = refl

more_copied : (p q : shape.Part) (ps : shape.Parts) → false ≡ is_copied_word (shape.part p (shape.part q ps))
more_copied (shape.plain text) q ps = refl
more_copied (shape.exact text) q ps = refl
more_copied (shape.double inner) q ps = refl
more_copied shape.tilde q ps = refl
more_copied (shape.param name op) q ps = refl
more_copied (shape.subst s) q ps = refl
more_copied (shape.arith e ws) q ps = refl

-- two parts are no copied word
pub many_copied : (ps : List Part) → 2 ≤ length ps → false ≡ is_copied_word (parts_of (map view_part ps))
many_copied [] le = absurd (omega arith)
many_copied (p ∷ []) le = absurd (omega arith)
many_copied (p ∷ q ∷ ps) le = more_copied (view_part p) (view_part q) (parts_of (map view_part ps))

more_literal : (inside : Bool) (p q : shape.Part) (ps : shape.Parts) → false ≡ literal_body inside (shape.part p (shape.part q ps))
more_literal inside (shape.plain text) q ps = refl
more_literal inside (shape.exact text) q ps = refl
more_literal inside (shape.double inner) q ps = refl
more_literal inside shape.tilde q ps = refl
more_literal inside (shape.param name op) q ps = refl
more_literal inside (shape.subst s) q ps = refl
more_literal inside (shape.arith e ws) q ps = refl

-- two parts are no body that isn't expanded
pub many_literal : (inside : Bool) (ps : List Part) → 2 ≤ length ps → false ≡ literal_body inside (parts_of (map view_part ps))
many_literal inside [] le = absurd (omega arith)
many_literal inside (p ∷ []) le = absurd (omega arith)
many_literal inside (p ∷ q ∷ ps) le = more_literal inside (view_part p) (view_part q) (parts_of (map view_part ps))

one_ends : (p : shape.Part) → part_ends p ≡ ends_line (shape.part p shape.no_part)
one_ends (shape.plain text) = refl
one_ends (shape.exact text) = refl
one_ends (shape.double inner) = refl
one_ends shape.tilde = refl
one_ends (shape.param name op) = refl
one_ends (shape.subst s) = refl
one_ends (shape.arith e ws) = refl

more_end : (p q : shape.Part) (ps : shape.Parts) → ends_line (shape.part q ps) ≡ ends_line (shape.part p (shape.part q ps))
more_end (shape.plain text) q ps = refl
more_end (shape.exact text) q ps = refl
more_end (shape.double inner) q ps = refl
more_end shape.tilde q ps = refl
more_end (shape.param name op) q ps = refl
more_end (shape.subst s) q ps = refl
more_end (shape.arith e ws) q ps = refl

-- parts end with a line where the last one does
pub last_ends : (ps : List Part) (p : Part) → 1 ≤ length ps → p ≡ get_or ps (length ps - 1) p → part_ends (view_part p) ≡ ends_line (parts_of (map view_part ps))
last_ends [] p le is = absurd (omega arith)
last_ends (q ∷ []) p le is = ap (λ (x : Part). part_ends (view_part x)) is ∙ one_ends (view_part q)
last_ends (q ∷ r ∷ ps) p le is =
    let one : length (q ∷ r ∷ ps) - 1 ≡ suc (length (r ∷ ps) - 1) = omega arith in
    last_ends (r ∷ ps) p (omega arith) (is ∙ ap (λ (i : ℕ). get_or (q ∷ r ∷ ps) i p) one) ∙ more_end (view_part q) (view_part r) (parts_of (map view_part ps))
