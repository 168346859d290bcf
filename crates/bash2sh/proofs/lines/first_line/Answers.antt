use Rattle.std.proofs.Common.{◌≡◌, suc, length, drop, refl, ap, ◌∙◌}
use Rattle.bash2sh.proofs.Cuts.{no_newline, at_newline, around, free_before, is_found, one_more}
use Rattle.bash2sh.proofs.lines.first_line.Goals as goal

pub returns-in-None : goal.returns-in-None
returns-in-None c = (refl, no_newline c.args.text.now (free_before c.args.text.now (length c.args.text.now) c.in-None.ensures))

pub returns-in-Some : goal.returns-in-Some
returns-in-Some c =
    let first = c.in-Some.ensures in
    let newline = is_found c.args.text.now c.in-Some.at first.1 in
    let free = free_before c.args.text.now c.in-Some.at first.0.before in
    let behind : c.split_at-in-Some.result.1.now ≡ drop (suc c.in-Some.at) c.args.text.now = c.split_at-in-Some.ensures.back ∙ ap (drop 1) c.split_at.ensures.back ∙ one_more c.in-Some.at c.args.text.now in
    rw (c.split_at.ensures.front, behind) (around c.args.text.now c.in-Some.at first.0.high newline, at_newline c.args.text.now c.in-Some.at first.0.high free newline)
