use Rattle.bash2sh.proofs.Translating.{place_within}
use Rattle.bash2sh.proofs.program.answer.Goals as goal

pub place_of-requires-clause-within : goal.place_of-requires-clause-within
place_of-requires-clause-within g c =
    let h = rw c.in-Err-NotYet.field-0-is at c.in-Err-NotYet.ensures in
    place_within c.args.text.now c.in-Err-NotYet.at h.0.first
