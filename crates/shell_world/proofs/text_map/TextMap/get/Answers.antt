use Rattle.std.proofs.Common.{◌≡◌, ◌∙◌, sym, ap, length, arith, get_or, true, false, Some}
use Rattle.std.specs.Ordering.{is_eq}
use Rattle.shell_world.specs.Texts.{text_cmp}
use Rattle.shell_world.proofs.Maps.{lookup_here, lookup_behind, lookup_end}
use Rattle.shell_world.proofs.text_map.TextMap.get.Goals as goal

pub returns-then-is_eq : goal.returns-then-is_eq
returns-then-is_eq g c =
    let item = c.entry-item.result in
    let es = c.args.self.now in
    let i = c.loop-entry.entry-index in
    let all : c.deref-entry-items.result.now ≡ es = c.deref-entry-items.ensures.value ∙ c.self.view_is in
    let at : is_eq (text_cmp c.args.key.now (get_or es i item).0) ≡ true = cc in
    let e : item ≡ get_or es i item = cc in
    ap (λ x. Some x.1) e ∙ sym (lookup_here c.args.key.now es i item (omega (arith, ap length all)) at) ∙ c.loop-entry.invariant

pub loop-entry-preserved : goal.loop-entry-preserved
loop-entry-preserved g c =
    let item = c.entry-item.result in
    let es = c.args.self.now in
    let i = c.loop-entry.entry-index in
    let all : c.deref-entry-items.result.now ≡ es = c.deref-entry-items.ensures.value ∙ c.self.view_is in
    let at : is_eq (text_cmp c.args.key.now (get_or es i item).0) ≡ false = cc in
    sym (lookup_behind c.args.key.now es i item (omega (arith, ap length all)) at) ∙ c.loop-entry.invariant

pub returns : goal.returns
returns g c =
    let all : c.deref-entry-items.result.now ≡ c.args.self.now = c.deref-entry-items.ensures.value ∙ c.self.view_is in
    sym (lookup_end c.args.key.now c.args.self.now c.loop-entry.entry-index (omega (arith, ap length all))) ∙ c.loop-entry.invariant
