use Rattle.std.proofs.Common.{[]}
use Rattle.shell_world.specs.declared.description.Description.TheVariants.{Given, Buffer}
use Rattle.shell_world.proofs.SoundRuns.{start_sound, read_sound, write_sound, desc_sound, written_sound, line_sound, taken_sound, call_sound}
use Rattle.shell_world.proofs.laws.files_stay_apart.Goals as goal

pub returns : goal.returns
returns c = record {
  start = start_sound;
  read = read_sound;
  write = write_sound;
  text = λ text o s. desc_sound (Given text 0) o s tt;
  buffer = λ o s. desc_sound (Buffer []) o s tt;
  written = written_sound;
  line = line_sound;
  taken = taken_sound;
  called = call_sound;
}
