-- A list that is matched as its first item and the rest.
use Rattle.std.proofs.Common.{◌≡◌, ℕ, ◌-◌, ◌≤◌, List, [], ◌∷◌, take, drop, length, get_or, refl, sym, ap, subst, ◌∙◌, arith}
use Rattle.std.proofs.Math.Seq.{take-length}
use Rattle.std.specs.Prelude.{map}
use Rattle.shell_world.specs.Runs.{St, Do, Res}
use Rattle.shell_runs.specs.Flow.{Flow}
use Rattle.sh_syntax.specs.declared.tree.Item.{Item}
use Rattle.sh_syntax.specs.View.{items_of, view_item}
use Rattle.sh_meaning.specs.Own.{Own}
use Rattle.sh_meaning.specs.Commands.{or_zero}

all_taken : {X : Type 0} (xs : List X) (n : ℕ) → n ≡ length xs → take n xs ≡ xs
all_taken xs n e = rw e (take-length xs)

pub first : {X : Type 0} (xs : List X) (x : X) → 1 ≤ length xs → x ≡ get_or xs 0 x → xs ≡ x ∷ take (length xs - 1) (drop 1 xs)
first [] x lt is = absurd (omega arith)
first (y ∷ ys) x lt is = ap (λ z. z ∷ ys) (sym is) ∙ ap (λ zs. x ∷ zs) (sym (all_taken ys (length (y ∷ ys) - 1) (omega arith)))

-- what holds of the first item before the rest holds of the list
pub onto_first : {X : Type 0} (P : List X → Type 0) (xs : List X) (x : X) → 1 ≤ length xs → x ≡ get_or xs 0 x → P (x ∷ take (length xs - 1) (drop 1 xs)) → P xs
onto_first P xs x lt is h = subst P (sym (first xs x lt is)) h

-- a script with a command isn't one that lacks any
pub or_zero_run : (xs : List Item) (run : Do Flow Own) (n : ℕ) (s : St Own) → 1 ≤ length xs → or_zero (items_of (map view_item xs)) run n s ≡ run n s
or_zero_run [] run n s lt = absurd (omega arith)
or_zero_run (x ∷ xs) run n s lt = refl
