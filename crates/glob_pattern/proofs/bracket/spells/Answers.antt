use Rattle.std.proofs.Common.{◌∙◌, arith}
use Rattle.glob_pattern.specs.Brackets.{spells}
use Rattle.glob_pattern.proofs.Spelling.{spells_short, spells_end}
use Rattle.glob_pattern.proofs.bracket.spells.Goals as goal

pub returns-in-empty : goal.returns-in-empty
returns-in-empty c = spells_short c.loop-b.rest.now c.args.name.now c.loop-b.b-index (spells c.args.signs.now c.args.name.now) c.in-empty.len_below (omega arith) c.loop-b.invariant

pub returns : goal.returns
returns c = c.is_empty.ensures ∙ spells_end c.loop-b.rest.now c.args.name.now c.loop-b.b-index (spells c.args.signs.now c.args.name.now) (omega arith) c.loop-b.invariant
