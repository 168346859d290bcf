use Rattle.std.proofs.Common.{ap, ◌∙◌, List, Some}
use Rattle.shell_world.specs.Texts.{Text}
use Rattle.field_split.specs.Reading.{bytes_of}
use Rattle.glob_pattern.specs.Paths.{found_paths}
use Rattle.sh_expansion.proofs.Orders.{found_is}
use Rattle.sh_expansion.proofs.pathname.found_texts.Goals as goal

pub returns-in_ok-found_or-in-Ok : goal.returns-in_ok-found_or-in-Ok
returns-in_ok-found_or-in-Ok c =
    rw (c.in-Ok.ensures.clear) (ap (λ (l : List Text). Some l) (c.in_ok-found_or-in-Ok.ensures ∙ found_is (bytes_of c.args.field.now) (found_paths c.args.field.now c.args.names.now) c.in-Ok.found c.in-Ok.ensures.found c.in-Ok.ensures.sorted))
