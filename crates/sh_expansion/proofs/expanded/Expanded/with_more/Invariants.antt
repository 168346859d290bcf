use Rattle.std.proofs.Common.{◌≡◌, drop}
use Rattle.sh_meaning.specs.Expanded.{with_more}
use Rattle.sh_expansion.specs.Views.{mode_of, word_of}
use Rattle.sh_expansion.proofs.expanded.Expanded.with_more.Given as goal

abbrev pub invariant-loop-text : goal.invariant-loop-text
invariant-loop-text l = with_more (mode_of l.mode) (drop l.text-index l.texts) (word_of l.self) ≡ with_more (mode_of l.mode) l.texts (word_of l.initial.self)
