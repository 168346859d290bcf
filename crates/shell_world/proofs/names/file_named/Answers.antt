use Rattle.std.proofs.Common.{◌≡◌, ◌∙◌, sym, ap, length, arith, get_or, true, false, Some}
use Rattle.std.specs.Ordering.{is_eq}
use Rattle.shell_world.specs.Texts.{text_cmp}
use Rattle.shell_world.specs.Paths.{path_text}
use Rattle.shell_world.proofs.Maps.{lookup_here, lookup_behind, lookup_end}
use Rattle.shell_world.proofs.names.file_named.Goals as goal

pub returns-then-names_this : goal.returns-then-names_this
returns-then-names_this c =
    let item = c.file-item.result in
    let es = c.args.files.now in
    let i = c.loop-file.file-index in
    let key = path_text c.args.text.now in
    let all : c.entries-file-items.result.now ≡ es = c.entries-file-items.ensures in
    let at : is_eq (text_cmp key (get_or es i item).0) ≡ true = cc in
    let e : item ≡ get_or es i item = cc in
    ap (λ x. Some x.1) e ∙ sym (lookup_here key es i item (omega (arith, ap length all)) at) ∙ c.loop-file.invariant

pub loop-file-preserved : goal.loop-file-preserved
loop-file-preserved c =
    let item = c.file-item.result in
    let es = c.args.files.now in
    let i = c.loop-file.file-index in
    let key = path_text c.args.text.now in
    let all : c.entries-file-items.result.now ≡ es = c.entries-file-items.ensures in
    let at : is_eq (text_cmp key (get_or es i item).0) ≡ false = cc in
    sym (lookup_behind key es i item (omega (arith, ap length all)) at) ∙ c.loop-file.invariant

pub returns : goal.returns
returns c =
    let all : c.entries-file-items.result.now ≡ c.args.files.now = c.entries-file-items.ensures in
    sym (lookup_end (path_text c.args.text.now) c.args.files.now c.loop-file.file-index (omega (arith, ap length all))) ∙ c.loop-file.invariant
