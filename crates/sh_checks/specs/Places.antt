-- Where a part stands in its word, as the meaning has it.
use Rattle.sh_meaning.specs.Expanding as expanding
use Rattle.sh_checks.specs.declared.tildes.Where.{Where}
use Rattle.sh_checks.specs.declared.tildes.Where.TheVariants.{First, Later}

abbrev pub where_of : Where → expanding.Where
where_of First = expanding.First
where_of Later = expanding.Later
