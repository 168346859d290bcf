-- Which row is chosen, and which answer comes, seen from an index on.
use Rattle.std.proofs.Common.{◌≡◌, ℕ, zero, suc, ◌+◌, ◌-◌, ◌<◌, ◌≤◌, length, get_or, List, [], ◌∷◌, true, false, drop, Some, None, refl, sym, ap, ◌∙◌, arith, add-one, inl, inr, ◌⊎◌, min}
use Rattle.std.proofs.lemmas.Bool.{cases_lt}
use Rattle.shell_world.specs.declared.world.Row.{Row}
use Rattle.shell_world.specs.declared.world.Answer.{Answer}
use Rattle.shell_world.specs.Texts.{Text}
use Rattle.shell_world.specs.Calls.{fits, chosen_from, answer_from, answer_at}

module _ (argv : List Text) (input : Text) where
  pub chosen_here : (rows : List Row) (i j : ℕ) (d : Row) → i < length rows → fits (get_or rows i d) argv input ≡ true → chosen_from j (drop i rows) argv input ≡ Some (j, get_or rows i d)
  chosen_here [] i j d lt h = absurd (omega arith)
  chosen_here (r ∷ rs) zero j d lt h = rw h refl
  chosen_here (r ∷ rs) (suc i) j d lt h = chosen_here rs i j d (omega arith) h

  chosen_next : (rows : List Row) (i j : ℕ) (d : Row) → i < length rows → fits (get_or rows i d) argv input ≡ false → chosen_from j (drop i rows) argv input ≡ chosen_from (j + 1) (drop (suc i) rows) argv input
  chosen_next [] i j d lt h = absurd (omega arith)
  chosen_next (r ∷ rs) zero j d lt h = rw h refl
  chosen_next (r ∷ rs) (suc i) j d lt h = chosen_next rs i j d (omega arith) h

  pub chosen_behind : (rows : List Row) (i : ℕ) (d : Row) → i < length rows → fits (get_or rows i d) argv input ≡ false → chosen_from i (drop i rows) argv input ≡ chosen_from (i + 1) (drop (i + 1) rows) argv input
  chosen_behind rows i d lt h = chosen_next rows i i d lt h ∙ ap (λ n. chosen_from (i + 1) (drop n rows) argv input) (sym (add-one i))

  pub chosen_end : (rows : List Row) (i j : ℕ) → length rows ≤ i → chosen_from j (drop i rows) argv input ≡ None
  chosen_end [] zero j h = refl
  chosen_end [] (suc i) j h = refl
  chosen_end (r ∷ rs) zero j h = absurd (omega arith)
  chosen_end (r ∷ rs) (suc i) j h = chosen_end rs i j (omega arith)

answer_within : (n : ℕ) (a d : Answer) (more : List Answer) → n ≤ length more → answer_from n a more ≡ get_or (a ∷ more) n d
answer_within zero a d [] h = refl
answer_within zero a d (b ∷ more) h = refl
answer_within (suc n) a d [] h = absurd (omega arith)
answer_within (suc n) a d (b ∷ more) h = answer_within n b d more (omega arith)

answer_beyond : (n : ℕ) (a d : Answer) (more : List Answer) → length more ≤ n → answer_from n a more ≡ get_or (a ∷ more) (length more) d
answer_beyond n a d [] h = refl
answer_beyond zero a d (b ∷ more) h = absurd (omega arith)
answer_beyond (suc n) a d (b ∷ more) h = answer_beyond n b d more (omega arith)

-- the answer of a turn: its own, or the last
pub answer_is : (n : ℕ) (answers : List Answer) (d : Answer) → 0 < length answers → answer_at n answers ≡ get_or answers (min n (length answers - 1)) d
answer_is n [] d h = absurd (omega arith)
answer_is n (a ∷ more) d h = answer_by n a d more (cases_lt n (length more))
  where
    answer_by : (n : ℕ) (a d : Answer) (more : List Answer) → (n < length more) ⊎ (length more ≤ n) → answer_from n a more ≡ get_or (a ∷ more) (min n (length (a ∷ more) - 1)) d
    answer_by n a d more (inl lt) =
        let e : min n (length (a ∷ more) - 1) ≡ n = omega arith in
        rw e (answer_within n a d more (omega arith))
    answer_by n a d more (inr le) =
        let e : min n (length (a ∷ more) - 1) ≡ length more = omega arith in
        rw e (answer_beyond n a d more le)
