-- The lists of a word as the code counts them: up to two.
use Rattle.std.specs.Prelude.{ℕ, zero, suc, ◌||◌}
use Rattle.sh_meaning.specs.Lists.{Seen}
use Rattle.sh_checks.specs.declared.lists.Count.{Count}
use Rattle.sh_checks.specs.declared.lists.Count.TheVariants.{Nothing, One, More}
use Rattle.sh_checks.specs.declared.lists.Seen.{Seen as Noted}

abbrev pub count_of : ℕ → Count
count_of zero = Nothing
count_of (suc zero) = One
count_of (suc (suc n)) = More

abbrev pub seen_of : Seen → Noted
seen_of s = record { lists = count_of s.lists; quoted_list = s.quoted_list; empty_quote = s.empty_quote }

abbrev pub sum : Count → Count → Count
sum Nothing b = b
sum One Nothing = One
sum One One = More
sum One More = More
sum More b = More

abbrev pub with_both : Noted → Noted → Noted
with_both a b = record { lists = sum a.lists b.lists; quoted_list = a.quoted_list || b.quoted_list; empty_quote = a.empty_quote || b.empty_quote }
