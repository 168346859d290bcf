use Rattle.std.proofs.Common.{◌≡◌, ◌∙◌, sym, false, eqb, length, refl}
use Rattle.bash_tree.specs.View.{assigns_in, words_in}
use Rattle.bash2sh.proofs.FormLaws.{some_assigns}
use Rattle.bash2sh.proofs.form.is_taken.Goals as goal

pub returns-else-is_empty-2 : goal.returns-else-is_empty-2
returns-else-is_empty-2 c =
    let e : eqb (length (assigns_in c.args.kind.now)) 0 ≡ false = rw (← c.assigns.ensures) (sym c.is_empty.ensures ∙ c.if-is_empty.false) in
    let w : eqb (length (words_in c.args.kind.now)) 0 ≡ false = rw (← c.words-2.ensures) (sym c.is_empty-2.ensures ∙ c.if-is_empty-2.false) in
    c.if-is_empty-2.false ∙ sym (some_assigns c.args.kind.now e ∙ rw w refl)
