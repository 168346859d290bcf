-- Lists that are counted up to two.
use Rattle.std.proofs.Common.{◌≡◌, ℕ, zero, suc, ◌+◌, ◌<◌, Bool, true, false, ◌||◌, List, [], ◌∷◌, drop, length, get_or, refl, sym, ap, ◌∙◌, arith}
use Rattle.std.specs.Prelude.{◌==◌, map}
use Rattle.std.proofs.lemmas.Bool.Decides.{nat_tests}
use Rattle.std.proofs.lemmas.List.{drop_more}
use Rattle.sh_syntax.specs.declared.tree.Part.{Part}
use Rattle.sh_syntax.specs.View.{view_part, parts_of}
use Rattle.sh_meaning.specs.Lists.{Seen, seen_in, seen_in_part}
use Rattle.sh_meaning.specs.Lists as lists
use Rattle.sh_checks.specs.declared.lists.Count.{Count}
use Rattle.sh_checks.specs.declared.lists.Count.TheVariants.{Nothing, One, More}
use Rattle.sh_checks.specs.declared.lists.Seen.{Seen as Noted}
use Rattle.sh_checks.specs.Counts.{count_of, seen_of, sum, with_both}

count_sum : (a b : ℕ) → count_of (a + b) ≡ sum (count_of a) (count_of b)
count_sum zero b = let e : zero + b ≡ b = omega arith in rw e refl
count_sum (suc zero) zero = refl
count_sum (suc zero) (suc zero) = refl
count_sum (suc zero) (suc (suc b)) = let e : suc zero + suc (suc b) ≡ suc (suc (suc b)) = omega arith in rw e refl
count_sum (suc (suc a)) b = let e : suc (suc a) + b ≡ suc (suc (a + b)) = omega arith in rw e refl

pub seen_both : (a b : Seen) → seen_of (lists.with_both a b) ≡ with_both (seen_of a) (seen_of b)
seen_both a b = rw (count_sum a.lists b.lists) refl

pub both_seen : (r a b : Noted) (x y : Seen) → r ≡ with_both a b → a ≡ seen_of x → b ≡ seen_of y → r ≡ seen_of (lists.with_both x y)
both_seen r a b x y is e f = is ∙ ap (λ (z : Noted). with_both z b) e ∙ ap (λ (z : Noted). with_both (seen_of x) z) f ∙ sym (seen_both x y)

or_more : (a b c : Bool) → ((a || b) || c) ≡ (a || (b || c))
or_more true b c = refl
or_more false b c = refl

sum_more : (a b c : Count) → sum (sum a b) c ≡ sum a (sum b c)
sum_more Nothing b c = refl
sum_more One Nothing c = refl
sum_more One One Nothing = refl
sum_more One One One = refl
sum_more One One More = refl
sum_more One More c = refl
sum_more More b c = refl

both_more : (a b c : Noted) → with_both (with_both a b) c ≡ with_both a (with_both b c)
both_more a b c = rw (sum_more a.lists b.lists c.lists, or_more a.quoted_list b.quoted_list c.quoted_list, or_more a.empty_quote b.empty_quote c.empty_quote) refl

or_none : (a : Bool) → (a || false) ≡ a
or_none true = refl
or_none false = refl

sum_none : (a : Count) → sum a Nothing ≡ a
sum_none Nothing = refl
sum_none One = refl
sum_none More = refl

pub both_none : (a : Noted) → with_both a (seen_of lists.unseen) ≡ a
both_none a = rw (sum_none a.lists, or_none a.quoted_list, or_none a.empty_quote) refl

pub none_there : (ps : List Part) → lists.has_no_part (parts_of (map view_part ps)) ≡ (length ps == 0)
none_there [] = refl
none_there (p ∷ ps) = grind (arith, nat_tests)

-- a part more
pub part_more : (quoted : Bool) (seen : Noted) (ps : List Part) (i : ℕ) (p : Part) → i < length ps → p ≡ get_or ps i p →
    with_both (with_both seen (seen_of (seen_in_part quoted (view_part p)))) (seen_of (seen_in quoted (parts_of (map view_part (drop (i + 1) ps)))))
    ≡ with_both seen (seen_of (seen_in quoted (parts_of (map view_part (drop i ps)))))
part_more quoted seen ps i p lt is =
    let e : drop i ps ≡ p ∷ drop (i + 1) ps = drop_more ps i p lt ∙ ap (λ (y : Part). y ∷ drop (i + 1) ps) (sym is) in
    rw e (both_more seen (seen_of (seen_in_part quoted (view_part p))) (seen_of (seen_in quoted (parts_of (map view_part (drop (i + 1) ps))))) ∙ ap (with_both seen) (sym (seen_both (seen_in_part quoted (view_part p)) (seen_in quoted (parts_of (map view_part (drop (i + 1) ps)))))))
