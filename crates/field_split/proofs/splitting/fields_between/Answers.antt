use Rattle.field_split.proofs.Between.{fields_between, fields_alone}
use Rattle.field_split.proofs.splitting.fields_between.Goals as goal

pub returns : goal.returns
returns c = record { are = fields_between; alone = fields_alone }
