use Rattle.std.proofs.Common.{refl}
use Rattle.bash2sh.proofs.LineTexts.{text_translated, text_refused}
use Rattle.bash2sh.proofs.translator.translate.Goals as goal

pub returns-in-Err-NotYet : goal.returns-in-Err-NotYet
returns-in-Err-NotYet g c = (text_refused c.args.text.now c.in-Err-NotYet.place (rw c.in-Err-NotYet.field-0-is at c.in-Err-NotYet.ensures), refl, refl)

pub returns-in-Ok-write_all : goal.returns-in-Ok-write_all
returns-in-Ok-write_all g c =
    let w = rw c.bytes.ensures at c.in-Ok-write_all.ensures in
    (c.in-Ok.written, text_translated c.args.text.now c.in-Ok.written c.requires c.in-Ok.ensures, w.0, w.1)

pub returns : goal.returns
returns g c =
    let w = rw c.bytes.ensures at c.in-Err.ensures in
    (c.in-Ok.written, text_translated c.args.text.now c.in-Ok.written c.requires c.in-Ok.ensures, w.0, w.1, w.2)
