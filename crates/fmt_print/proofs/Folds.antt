-- A fold over items needs no count of them, where each item leaves less.
use Rattle.std.proofs.Common.{◌≡◌, ℕ, zero, suc, ◌<◌, ◌≤◌, List, length, Option, None, Some, refl, sym, ap, ◌∙◌, arith}
use Rattle.fmt_print.specs.Fronts.{at_front, fold_items}

-- each item leaves less
pub record Shrinks {X : Type 0} (item : List ℕ → Option (X × List ℕ)) : Type 0 where
  pub less : (text : List ℕ) (x : X) (rest : List ℕ) → item text ≡ Some (x, rest) → length rest < length text

abbrev step_of : {X R : Type 0} → (List ℕ → Option (X × List ℕ)) → (List ℕ → R) → (X → R → R) → ℕ → List ℕ → Option (X × List ℕ) → R
step_of item none more n text front = at_front front (none text) (λ x rest. more x (fold_items item none more n rest))

none_left : {X R : Type 0} (item : List ℕ → Option (X × List ℕ)) (none : List ℕ → R) (more : X → R → R) (n : ℕ) (text : List ℕ) (front : Option (X × List ℕ)) → ((x : X) (rest : List ℕ) → front ≡ Some (x, rest) → length rest < length text) → length text ≤ 0 → step_of item none more n text front ≡ none text
none_left item none more n text None less short = refl
none_left item none more n text (Some front) less short = let below = less front.0 front.1 refl in absurd (omega arith)

same_step : {X R : Type 0} (item : List ℕ → Option (X × List ℕ)) (none : List ℕ → R) (more : X → R → R) (m n : ℕ) (text : List ℕ) (front : Option (X × List ℕ)) → ((x : X) (rest : List ℕ) → front ≡ Some (x, rest) → length rest < length text) → length text ≤ suc m → length text ≤ suc n → ((rest : List ℕ) → length rest ≤ m → length rest ≤ n → fold_items item none more m rest ≡ fold_items item none more n rest) → step_of item none more m text front ≡ step_of item none more n text front
same_step item none more m n text None below low high same = refl
same_step item none more m n text (Some front) below low high same =
    let short = below front.0 front.1 refl in
    ap (more front.0) (same front.1 (omega arith) (omega arith))

counts : {X R : Type 0} (item : List ℕ → Option (X × List ℕ)) (none : List ℕ → R) (more : X → R → R) → Shrinks item → (m n : ℕ) (text : List ℕ) → length text ≤ m → length text ≤ n → fold_items item none more m text ≡ fold_items item none more n text
counts item none more less zero zero text low high = refl
counts item none more less zero (suc n) text low high = sym (none_left item none more n text (item text) (less.less text) low)
counts item none more less (suc m) zero text low high = none_left item none more m text (item text) (less.less text) high
counts item none more less (suc m) (suc n) text low high = same_step item none more m n text (item text) (less.less text) low high (λ rest a b. counts item none more less m n rest a b)

-- the item at the front, and the fold of what stands behind it
pub fold_more : {X R : Type 0} (item : List ℕ → Option (X × List ℕ)) (none : List ℕ → R) (more : X → R → R) → Shrinks item → (text : List ℕ) (x : X) (rest : List ℕ) → item text ≡ Some (x, rest) → fold_items item none more (length text) text ≡ more x (fold_items item none more (length rest) rest)
fold_more item none more less text x rest e =
    let short = less.less text x rest e in
    counts item none more less (length text) (suc (length text)) text (omega arith) (omega arith) ∙ ap (step_of item none more (length text) text) e ∙ ap (more x) (counts item none more less (length text) (length rest) rest (omega arith) (omega arith))

-- no item at the front
pub fold_none : {X R : Type 0} (item : List ℕ → Option (X × List ℕ)) (none : List ℕ → R) (more : X → R → R) → Shrinks item → (text : List ℕ) → item text ≡ None → fold_items item none more (length text) text ≡ none text
fold_none item none more less text e =
    counts item none more less (length text) (suc (length text)) text (omega arith) (omega arith) ∙ ap (step_of item none more (length text) text) e
