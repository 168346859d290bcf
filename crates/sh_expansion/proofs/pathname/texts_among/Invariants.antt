use Rattle.std.proofs.Common.{◌≡◌, drop, Some}
use Rattle.sh_meaning.specs.Pathnames.{both, texts_among}
use Rattle.sh_expansion.proofs.pathname.texts_among.Given as goal

abbrev pub invariant-loop-field : goal.invariant-loop-field
invariant-loop-field l = both (Some l.all.items) (texts_among l.names (drop l.field-index l.fields)) ≡ texts_among l.names l.fields
