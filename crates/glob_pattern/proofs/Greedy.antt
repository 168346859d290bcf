-- One point of return is enough.
use Rattle.std.proofs.Common.{◌≡◌, ℕ, zero, suc, ◌<◌, ◌≤◌, Bool, true, false, List, [], ◌∷◌, length, drop, get_or, refl, sym, ap, ◌∙◌, arith, add-one}
use Rattle.std.specs.Prelude.{◌&&◌, ◌==◌, if◌then◌else◌}
use Rattle.std.proofs.lemmas.Bool.Decides.{nat_tests}
use Rattle.std.proofs.lemmas.List.{drop-drop}
use Rattle.glob_pattern.specs.declared.piece.Piece.{Piece}
use Rattle.glob_pattern.specs.declared.piece.Piece.TheVariants.{Byte, Any, Run, Among, Outside}
use Rattle.glob_pattern.specs.declared.matching.Step.TheVariants as step
use Rattle.glob_pattern.specs.Pieces.{takes, is_run, matches}
use Rattle.glob_pattern.specs.Steps.{step_of, all_runs}
use Rattle.glob_pattern.proofs.Cuts.{some_end, matches-run, matches-one, matches-none, matches-end, one_step, end_here, end_drop, end_found}

-- whether the pieces behind the last run match some of what it has not taken; before a run, the whole of it
abbrev pub answer : Bool → List Piece → List ℕ → Bool
answer true last left = some_end (matches last) left
answer false last left = matches last left

-- what the loop keeps
pub record State (pieces ahead last : List Piece) (text rest left : List ℕ) (starred : Bool) : Type 0 where
  pub so_far : matches pieces text ≡ answer starred last left
  pub forth : (j : ℕ) → matches last (drop j left) ≡ true → matches ahead (drop j rest) ≡ true
  pub back : matches ahead rest ≡ true → matches last left ≡ true
  pub shorter : length rest ≤ length left
  pub few : length ahead ≤ length pieces
  pub fewer : length last ≤ length pieces

pub State-start : (pieces : List Piece) (text : List ℕ) → State pieces pieces pieces text text text false
State-start pieces text = record { so_far = refl; forth = λ j h. h; back = λ h. h; shorter = omega arith; few = omega arith; fewer = omega arith }

same_truth : (a b : Bool) → (a ≡ true → b ≡ true) → (b ≡ true → a ≡ true) → a ≡ b
same_truth true b f g = sym (f refl)
same_truth false true f g = g refl
same_truth false false f g = refl

-- where the answer is yes, the pieces behind the last run match somewhere
answer_found : (starred : Bool) (last : List Piece) (left : List ℕ) → answer starred last left ≡ true → (j : ℕ) × (matches last (drop j left) ≡ true)
answer_found true last left h = end_found (matches last) left h
answer_found false last left h = (0, h)

answer_here : (starred : Bool) (last : List Piece) (left : List ℕ) → matches last left ≡ true → answer starred last left ≡ true
answer_here true last left h = end_here (matches last) left h
answer_here false last left h = h

run_step : (r t : Bool) → (if r then step.Run else (if t then step.Takes else step.Refuses)) ≡ step.Run → r ≡ true
run_step true t e = refl
run_step false true e = absurd cc
run_step false false e = absurd cc

takes_step : (r t : Bool) → (if r then step.Run else (if t then step.Takes else step.Refuses)) ≡ step.Takes → (r ≡ false) × (t ≡ true)
takes_step true t e = absurd cc
takes_step false true e = (refl, refl)
takes_step false false e = absurd cc

refuses_step : (r t : Bool) → (if r then step.Run else (if t then step.Takes else step.Refuses)) ≡ step.Refuses → (r ≡ false) × (t ≡ false)
refuses_step true t e = absurd cc
refuses_step false true e = absurd cc
refuses_step false false e = (refl, refl)

only_run : (x : Piece) → is_run x ≡ true → x ≡ Run
only_run Run e = refl
only_run (Byte c) e = absurd cc
only_run Any e = absurd cc
only_run (Among members) e = absurd cc
only_run (Outside members) e = absurd cc

starts_run : (pieces : List Piece) (b : ℕ) → step_of pieces b ≡ step.Run → (u : List ℕ) → matches pieces u ≡ some_end (matches (drop 1 pieces)) u
starts_run [] b e u = absurd cc
starts_run (x ∷ xs) b e u = let k : x ≡ Run = only_run x (run_step (is_run x) (takes x b) e) in rw k (matches-run xs u)

refused : (pieces : List Piece) (b : ℕ) (bs : List ℕ) → step_of pieces b ≡ step.Refuses → matches pieces (b ∷ bs) ≡ false
refused [] b bs e = matches-none b bs
refused (x ∷ xs) b bs e =
    let k = refuses_step (is_run x) (takes x b) e in
    let n : takes x b ≡ false = k.1 in
    matches-one x xs b bs (k.0) ∙ rw n refl

drop_one_le : (xs : List Piece) → length (drop 1 xs) ≤ length xs
drop_one_le [] = omega arith
drop_one_le (x ∷ xs) = omega arith

pub State-run : (pieces ahead last : List Piece) (text rest left : List ℕ) (starred : Bool) (b : ℕ) → step_of ahead b ≡ step.Run → State pieces ahead last text rest left starred → State pieces (drop 1 ahead) (drop 1 ahead) text rest rest true
State-run pieces ahead last text rest left starred b e s =
    let run = starts_run ahead b e in
    let there : answer starred last left ≡ true → some_end (matches (drop 1 ahead)) rest ≡ true =
    (λ h. let found = answer_found starred last left h in
    let at : some_end (matches (drop 1 ahead)) (drop (found.0) rest) ≡ true = sym (run (drop (found.0) rest)) ∙ s.forth (found.0) (found.1) in
    end_drop (matches (drop 1 ahead)) (found.0) rest at) in
    let here : some_end (matches (drop 1 ahead)) rest ≡ true → answer starred last left ≡ true =
    (λ h. answer_here starred last left (s.back (run rest ∙ h))) in
    record {
      so_far = s.so_far ∙ same_truth (answer starred last left) (some_end (matches (drop 1 ahead)) rest) there here;
      forth = λ j h. h;
      back = λ h. h;
      shorter = omega arith;
      few = let k = drop_one_le ahead in let f = s.few in omega arith;
      fewer = let k = drop_one_le ahead in let f = s.few in omega arith;
    }

drop_one : (j b : ℕ) (more : List ℕ) → drop 1 (drop j (b ∷ more)) ≡ drop j more
drop_one j b more = drop-drop 1 j (b ∷ more) ∙ rw add-one refl

pub State-takes : (pieces ahead last : List Piece) (text more left : List ℕ) (starred : Bool) (b : ℕ) → step_of ahead b ≡ step.Takes → State pieces ahead last text (b ∷ more) left starred → State pieces (drop 1 ahead) last text more left starred
State-takes pieces [] last text more left starred b e s = absurd cc
State-takes pieces (x ∷ xs) last text more left starred b e s =
    let k = takes_step (is_run x) (takes x b) e in
    let yes : takes x b ≡ true = k.1 in
    let l = s.shorter in
    let f = s.few in
    record {
      so_far = s.so_far;
      forth = λ j h. sym (ap (matches xs) (drop_one j b more)) ∙ one_step x xs (drop j (b ∷ more)) (k.0) (s.forth j h);
      back = λ h. let t : (takes x b && matches xs more) ≡ true = rw yes h in s.back (matches-one x xs b more (k.0) ∙ t);
      shorter = omega arith;
      few = omega arith;
      fewer = s.fewer;
    }

false_of : (a b : Bool) → (a ≡ true → b ≡ true) → b ≡ false → a ≡ false
false_of true b f e = absurd (let k = f refl in cc)
false_of false b f e = refl

not_here : (pieces ahead last : List Piece) (text more left : List ℕ) (starred : Bool) (b : ℕ) → step_of ahead b ≡ step.Refuses → State pieces ahead last text (b ∷ more) left starred → matches last left ≡ false
not_here pieces ahead last text more left starred b e s = false_of (matches last left) (matches ahead (b ∷ more)) (s.forth 0) (refused ahead b more e)

-- one byte more for the last run
pub State-back : (pieces ahead last : List Piece) (text more less : List ℕ) (b x : ℕ) → step_of ahead b ≡ step.Refuses → State pieces ahead last text (b ∷ more) (x ∷ less) true → State pieces last last text less less true
State-back pieces ahead last text more less b x e s =
    let n = not_here pieces ahead last text more (x ∷ less) true b e s in
    let later : answer true last (x ∷ less) ≡ answer true last less = rw n refl in
    record { so_far = s.so_far ∙ later; forth = λ j h. h; back = λ h. h; shorter = omega arith; few = s.fewer; fewer = s.fewer }

pub State-lost : (pieces ahead last : List Piece) (text more left : List ℕ) (b : ℕ) → step_of ahead b ≡ step.Refuses → State pieces ahead last text (b ∷ more) left false → matches pieces text ≡ false
State-lost pieces ahead last text more left b e s = s.so_far ∙ not_here pieces ahead last text more left false b e s

pub State-used : (pieces ahead last : List Piece) (text more : List ℕ) (b : ℕ) → step_of ahead b ≡ step.Refuses → State pieces ahead last text (b ∷ more) [] true → matches pieces text ≡ false
State-used pieces ahead last text more b e s = s.so_far ∙ not_here pieces ahead last text more [] true b e s

abbrev nothing : List ℕ
nothing = []

drop_nothing : (j : ℕ) → drop j nothing ≡ nothing
drop_nothing zero = refl
drop_nothing (suc j) = refl

pub State-end : (pieces ahead last : List Piece) (text left : List ℕ) (starred : Bool) → State pieces ahead last text [] left starred → matches pieces text ≡ all_runs ahead
State-end pieces ahead last text left starred s =
    let there : answer starred last left ≡ true → all_runs ahead ≡ true =
    (λ h. let found = answer_found starred last left h in
    sym (ap (matches ahead) (drop_nothing (found.0)) ∙ matches-end ahead) ∙ s.forth (found.0) (found.1)) in
    let here : all_runs ahead ≡ true → answer starred last left ≡ true =
    (λ h. answer_here starred last left (s.back (matches-end ahead ∙ h))) in
    s.so_far ∙ same_truth (answer starred last left) (all_runs ahead) there here

-- the same as the loop has them, where a byte is left
pub takes_next : (pieces ahead last : List Piece) (text rest left : List ℕ) (starred : Bool) → 1 ≤ length rest → step_of ahead (get_or rest 0 0) ≡ step.Takes → State pieces ahead last text rest left starred → State pieces (drop 1 ahead) last text (drop 1 rest) left starred
takes_next pieces ahead last text [] left starred l e s = absurd (omega arith)
takes_next pieces ahead last text (b ∷ more) left starred l e s = State-takes pieces ahead last text more left starred b e s

pub back_next : (pieces ahead last : List Piece) (text rest left : List ℕ) (starred : Bool) → 1 ≤ length rest → step_of ahead (get_or rest 0 0) ≡ step.Refuses → starred ≡ true → (length left == 0) ≡ false → State pieces ahead last text rest left starred → State pieces last last text (drop 1 left) (drop 1 left) starred
back_next pieces ahead last text [] left starred l e g h s = absurd (omega arith)
back_next pieces ahead last text (b ∷ more) left false l e g h s = absurd cc
back_next pieces ahead last text (b ∷ more) [] true l e g h s = absurd cc
back_next pieces ahead last text (b ∷ more) (x ∷ less) true l e g h s = State-back pieces ahead last text more less b x e s

pub lost_next : (pieces ahead last : List Piece) (text rest left : List ℕ) (starred : Bool) → 1 ≤ length rest → step_of ahead (get_or rest 0 0) ≡ step.Refuses → starred ≡ false → State pieces ahead last text rest left starred → matches pieces text ≡ false
lost_next pieces ahead last text [] left starred l e h s = absurd (omega arith)
lost_next pieces ahead last text (b ∷ more) left false l e h s = State-lost pieces ahead last text more left b e s
lost_next pieces ahead last text (b ∷ more) left true l e h s = absurd cc

pub used_next : (pieces ahead last : List Piece) (text rest left : List ℕ) (starred : Bool) → 1 ≤ length rest → step_of ahead (get_or rest 0 0) ≡ step.Refuses → starred ≡ true → (length left == 0) ≡ true → State pieces ahead last text rest left starred → matches pieces text ≡ false
used_next pieces ahead last text [] left starred l e g h s = absurd (omega arith)
used_next pieces ahead last text (b ∷ more) left false l e g h s = absurd cc
used_next pieces ahead last text (b ∷ more) [] true l e g h s = State-used pieces ahead last text more b e s
used_next pieces ahead last text (b ∷ more) (x ∷ less) true l e g h s = absurd (grind (arith, nat_tests))

pub end_next : (pieces ahead last : List Piece) (text rest left : List ℕ) (starred : Bool) → length rest < 1 → State pieces ahead last text rest left starred → matches pieces text ≡ all_runs ahead
end_next pieces ahead last text [] left starred l s = State-end pieces ahead last text left starred s
end_next pieces ahead last text (b ∷ bs) left starred l s = absurd (omega arith)
