use Rattle.std.proofs.Common.{◌≡◌, ◌<◌, ◌^◌, ℕ, List, [], ◌∷◌, ◌++◌, ◌∙◌, ap, length, subst, sym, arith}
use Rattle.std.proofs.lemmas.Bool.Decides.{nat_tests}
use Rattle.std.proofs.lemmas.List.{nil_from_length}
use Rattle.name_codec.proofs.Entries.{Reads, reads_more, reads_all, reads_fails}
use Rattle.name_codec.proofs.lists.decode.Goals as goal

pub returns-in-None : goal.returns-in-None
returns-in-None c =
    let some : 0 < length c.entries.rest.now = grind (arith, nat_tests) in
    reads_fails c.args.text.now c.entries.rest.now c.entries.entries c.entries.invariant some c.in-None.ensures

pub entries-preserved : goal.entries-preserved
entries-preserved c =
    let short : length c.args.text.now < 2 ^ 64 = omega arith in
    let more = reads_more c.args.text.now c.entries.rest.now c.in-Some.behind.now c.in-Some.entry.now c.entries.entries short c.entries.invariant c.in-Some.ensures in
    let pushed : c.push.new.self ≡ c.entries.entries ++ c.in-Some.entry.now ∷ [] = c.in_ok-push-in-Some.ensures.ok ∙ ap (λ t. c.entries.entries ++ t ∷ []) c.in_ok-copy-in-Some.ensures in
    let P : List (List ℕ) → Type 0 = λ entries. Reads c.args.text.now entries c.in-Some.behind.now in
    subst P (sym pushed) more

pub returns : goal.returns
returns c =
    let none : c.entries.rest.now ≡ [] = nil_from_length c.entries.rest.now (grind (arith, nat_tests)) in
    reads_all c.args.text.now c.entries.entries (rw none at c.entries.invariant)
