-- What is gathered of the body that a redirection has.
use Rattle.std.proofs.Common.{◌≡◌, ℕ, Bool, true, false, List, [], ◌∷◌, ap, ◌∙◌, append_assoc}
use Rattle.std.specs.Prelude.{map}
use Rattle.sh_printer.specs.Covers.{CoversLines}
use Rattle.sh_syntax.specs.declared.tree.Part.{Part}
use Rattle.sh_syntax.specs.declared.tree.Redirect.{Redirect, out-Redirect}
use Rattle.sh_syntax.specs.declared.tree.Word.{out-Word}
use Rattle.sh_printing.specs.Marks.{is_here, whole_body}
use Rattle.sh_printer.specs.Owed.{body_text}
use Rattle.sh_printer.specs.Pieces.{inner_text, delimiter_of}
use Rattle.sh_syntax.specs.View.{view_operator, view_part, view_redirect, parts_of}
use Rattle.sh_printer.proofs.Gathers.{lines_as}
use Rattle.sh_printer.proofs.RedirectTexts.{body_parts}

whole_is : (full : Bool) (r : Redirect) (body : List Part) → body ≡ (out-Word (out-Redirect r).word).parts → is_here (view_operator (out-Redirect r).op) ≡ true → whole_body full (inner_text full body) ≡ body_text full (view_redirect r)
whole_is full r body is here =
    let parts = (out-Word (out-Redirect r).word).parts in
    ap (λ (ps : List Part). whole_body full (inner_text full ps)) is
    ∙ append_assoc (inner_text full parts) (delimiter_of full (parts_of (map view_part parts))) (10 ∷ [])
    ∙ body_parts full r here

pub lines_of_body : (r : Redirect) (body : List Part) (i j : ℕ) → body ≡ (out-Word (out-Redirect r).word).parts → is_here (view_operator (out-Redirect r).op) ≡ true → CoversLines (whole_body true (inner_text true body)) (whole_body false (inner_text false body)) i j → CoversLines (body_text true (view_redirect r)) (body_text false (view_redirect r)) i j
lines_of_body r body i j is here p = lines_as (whole_body true (inner_text true body)) (whole_body false (inner_text false body)) (body_text true (view_redirect r)) (body_text false (view_redirect r)) i j p (whole_is true r body is here) (whole_is false r body is here)
