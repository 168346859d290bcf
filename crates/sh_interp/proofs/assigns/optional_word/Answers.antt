use Rattle.sh_interp.proofs.assigns.optional_word.Goals as goal

pub returns-in-Some : goal.returns-in-Some
returns-in-Some c = λ z. rw c.in-Some.is (c.value_word.ensures z)
