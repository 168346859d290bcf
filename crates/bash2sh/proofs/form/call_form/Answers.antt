use Rattle.bash2sh.proofs.FormLaws.{call_is}
use Rattle.bash2sh.proofs.form.call_form.Goals as goal

pub returns-then-named : goal.returns-then-named
returns-then-named c =
    rw (call_is c.args.words.now c.name-item.result c.in-len1-up.len_at_least c.name-item.is, ← c.in_ok-named-in-len1-up.ensures, c.if-named.true) (rw c.split_at.ensures.back at c.word_forms.ensures)
