-- Signs that are passed over.
use Rattle.std.proofs.Common.{◌≡◌, ℕ, zero, suc, ◌+◌, ◌-◌, ◌<◌, ◌≤◌, true, false, List, [], ◌∷◌, length, drop, Option, Some, None, refl, sym, ap, ◌∙◌, arith}
use Rattle.std.proofs.lemmas.List.{drop-drop}
use Rattle.glob_pattern.specs.declared.sign.Sign.{Sign}
use Rattle.glob_pattern.specs.Signs.{starts}
use Rattle.glob_pattern.specs.Brackets.{plus, element_len, close_len}

plus_nothing : (o : Option ℕ) → plus 0 o ≡ o
plus_nothing None = refl
plus_nothing (Some n) = ap (λ (k : ℕ). Some k) (omega arith)

plus_plus : (m n k : ℕ) (o : Option ℕ) → m + n ≡ k → plus m (plus n o) ≡ plus k o
plus_plus m n k None e = refl
plus_plus m n k (Some x) e = ap (λ (y : ℕ). Some y) (omega arith)

pub close_skip : (k : ℕ) (signs : List Sign) → close_len k signs ≡ plus k (close_len 0 (drop k signs))
close_skip zero signs = sym (plus_nothing (close_len 0 signs))
close_skip (suc k) [] = refl
close_skip (suc k) (sign ∷ signs) =
    let h = close_skip k signs in
    ap (plus 1) h ∙ plus_plus 1 k (suc k) (close_len 0 (drop k signs)) (omega arith)

close_on : (signs : List Sign) (n : ℕ) → element_len signs ≡ suc n → 1 ≤ length signs → starts 93 signs ≡ false → close_len 0 signs ≡ plus (suc n) (close_len 0 (drop (suc n) signs))
close_on [] n e l h = absurd (omega arith)
close_on (sign ∷ signs) n e l h =
    let k : element_len (sign ∷ signs) - 1 ≡ n = omega arith in
    let one : close_len 0 (sign ∷ signs) ≡ plus 1 (close_len n signs) = rw (h, k) refl in
    one ∙ (ap (plus 1) (close_skip n signs) ∙ plus_plus 1 n (suc n) (close_len 0 (drop n signs)) (omega arith))

-- the loop's step, from n to n and the element's length
pub close_more : (signs : List Sign) (n len : ℕ) (whole : Option ℕ) → 0 < len → element_len (drop n signs) ≡ len → 1 ≤ length (drop n signs) → starts 93 (drop n signs) ≡ false → plus n (close_len 0 (drop n signs)) ≡ whole → plus (n + len) (close_len 0 (drop (n + len) signs)) ≡ whole
close_more signs n zero whole p e l h before = absurd (omega arith)
close_more signs n (suc m) whole p e l h before =
    let one = close_on (drop n signs) m e l h in
    let two : plus n (close_len 0 (drop n signs)) ≡ plus n (plus (suc m) (close_len 0 (drop (suc m) (drop n signs)))) = ap (plus n) one in
    let three : plus n (plus (suc m) (close_len 0 (drop (suc m) (drop n signs)))) ≡ plus (n + suc m) (close_len 0 (drop (suc m) (drop n signs))) = plus_plus n (suc m) (n + suc m) (close_len 0 (drop (suc m) (drop n signs))) refl in
    let four : plus (n + suc m) (close_len 0 (drop (suc m) (drop n signs))) ≡ plus (n + suc m) (close_len 0 (drop (n + suc m) signs)) = ap (λ (xs : List Sign). plus (n + suc m) (close_len 0 xs)) (drop-drop (suc m) n signs) in
    sym (two ∙ three ∙ four) ∙ before

close_found_here : (signs : List Sign) → starts 93 signs ≡ true → close_len 0 signs ≡ Some 0
close_found_here [] h = absurd cc
close_found_here (sign ∷ signs) h = rw h refl

pub close_found : (signs : List Sign) (n : ℕ) (whole : Option ℕ) → starts 93 (drop n signs) ≡ true → plus n (close_len 0 (drop n signs)) ≡ whole → Some n ≡ whole
close_found signs n whole h before =
    let one : plus n (close_len 0 (drop n signs)) ≡ Some (n + 0) = ap (plus n) (close_found_here (drop n signs) h) in
    let two : n + 0 ≡ n = omega arith in
    let three : Some n ≡ Some (n + 0) = ap (λ (k : ℕ). Some k) (sym two) in
    three ∙ sym one ∙ before

close_nothing : (signs : List Sign) → length signs ≡ 0 → close_len 0 signs ≡ None
close_nothing [] h = refl
close_nothing (sign ∷ signs) h = absurd (omega arith)

pub close_lost : (signs : List Sign) (n : ℕ) (whole : Option ℕ) → length (drop n signs) ≡ 0 → plus n (close_len 0 (drop n signs)) ≡ whole → None ≡ whole
close_lost signs n whole h before =
    let one : plus n (close_len 0 (drop n signs)) ≡ None = ap (plus n) (close_nothing (drop n signs) h) in
    sym one ∙ before

pub close_first : (signs : List Sign) (first : ℕ) → plus first (close_len 0 (drop first signs)) ≡ close_len first signs
close_first signs first = sym (close_skip first signs)
