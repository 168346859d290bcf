use Rattle.shell_world.proofs.AlikeLaws.{start_alike, start_fds_alike, unread_same, desc_same, written_alike, line_alike, taken_alike, call_alike, read_alike, write_alike, text_alike, buffer_alike, open_alone, fds_later, set_alike}
use Rattle.shell_world.proofs.laws.outsides_stay_alike.Goals as goal

pub returns : goal.returns
returns c = record {
  start = start_alike;
  start_fds = start_fds_alike;
  unread = unread_same;
  desc = desc_same;
  written = written_alike;
  line = line_alike;
  taken = taken_alike;
  called = call_alike;
  read = read_alike;
  write = write_alike;
  text = text_alike;
  buffer = buffer_alike;
  alone = λ ms a b d h. open_alone ms a b h d;
  fds = fds_later;
  set = set_alike;
}
