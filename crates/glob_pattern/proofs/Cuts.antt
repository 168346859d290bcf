-- Cutting a text for the first piece.
use Rattle.std.proofs.Common.{◌≡◌, ℕ, zero, suc, ◌+◌, ◌<◌, Bool, true, false, List, [], ◌∷◌, ◌++◌, length, drop, refl, sym, ap, ◌∙◌, arith}
use Rattle.std.specs.Prelude.{◌||◌, ◌&&◌}
use Rattle.std.proofs.lemmas.List.{length-append}
use Rattle.glob_pattern.specs.declared.piece.Piece.{Piece}
use Rattle.glob_pattern.specs.declared.piece.Piece.TheVariants.{Byte, Any, Run, Among, Outside}
use Rattle.glob_pattern.specs.Pieces.{takes, is_run, is_one, fits, some_cut, matches}
use Rattle.glob_pattern.specs.Steps.{all_runs}

-- whether some end of a text passes
abbrev pub some_end : (List ℕ → Bool) → List ℕ → Bool
some_end test [] = test []
some_end test (b ∷ bs) = test (b ∷ bs) || some_end test bs

-- pieces that begin with a run match where the others match some end
pub Cut-run : (test : List ℕ → Bool) (front text : List ℕ) → some_cut (λ part rest. fits Run part && test rest) front text ≡ some_end test text
Cut-run test front [] = refl
Cut-run test front (b ∷ bs) = ap (λ (r : Bool). test (b ∷ bs) || r) (Cut-run test (front ++ b ∷ []) bs)

pub matches-run : (pieces : List Piece) (text : List ℕ) → matches (Run ∷ pieces) text ≡ some_end (matches pieces) text
unfolding matches
matches-run pieces text = Cut-run (matches pieces) [] text

one_long : (test : ℕ → Bool) (front : List ℕ) → 1 < length front → is_one test front ≡ false
one_long test [] h = refl
one_long test (b ∷ []) h = absurd (omega arith)
one_long test (b ∷ c ∷ bs) h = refl

-- a long front fits no single piece
cut_long : (x : Piece) (test : List ℕ → Bool) (front text : List ℕ) → is_run x ≡ false → 1 < length front → some_cut (λ part rest. fits x part && test rest) front text ≡ false
cut_long x test front [] e h = rw (e, one_long (takes x) front h) refl
cut_long x test front (b ∷ bs) e h =
    let l : length (front ++ b ∷ []) ≡ length front + 1 = length-append front (b ∷ []) in
    rw (e, one_long (takes x) front h) (cut_long x test (front ++ b ∷ []) bs e (omega arith))

or_false : (b : Bool) → (b || false) ≡ b
or_false true = refl
or_false false = refl

pub matches-nothing : (x : Piece) (pieces : List Piece) → is_run x ≡ false → matches (x ∷ pieces) [] ≡ false
unfolding matches
matches-nothing x pieces e = rw e refl

pub matches-one : (x : Piece) (pieces : List Piece) (b : ℕ) (bs : List ℕ) → is_run x ≡ false → matches (x ∷ pieces) (b ∷ bs) ≡ (takes x b && matches pieces bs)
unfolding matches
matches-one x pieces b [] e = rw e refl
matches-one x pieces b (c ∷ cs) e =
    let long : some_cut (λ part rest. fits x part && matches pieces rest) (b ∷ c ∷ []) cs ≡ false = cut_long x (matches pieces) (b ∷ c ∷ []) cs e (omega arith) in
    rw (long, e) (or_false (takes x b && matches pieces (c ∷ cs)))

pub matches-none : (b : ℕ) (bs : List ℕ) → matches [] (b ∷ bs) ≡ false
unfolding matches
matches-none b bs = refl

-- what is left matches no byte where it is runs alone
pub matches-end : (pieces : List Piece) → matches pieces [] ≡ all_runs pieces
unfolding matches
matches-end [] = refl
matches-end (Run ∷ pieces) = matches-end pieces
matches-end (Byte c ∷ pieces) = refl
matches-end (Any ∷ pieces) = refl
matches-end (Among members ∷ pieces) = refl
matches-end (Outside members ∷ pieces) = refl

and_right : (a b : Bool) → (a && b) ≡ true → b ≡ true
and_right true b h = h
and_right false b h = absurd cc

pub one_step : (x : Piece) (pieces : List Piece) (text : List ℕ) → is_run x ≡ false → matches (x ∷ pieces) text ≡ true → matches pieces (drop 1 text) ≡ true
one_step x pieces [] e h = let n = matches-nothing x pieces e in absurd cc
one_step x pieces (b ∷ bs) e h = and_right (takes x b) (matches pieces bs) (sym (matches-one x pieces b bs e) ∙ h)

-- some end passes
pub end_here : (test : List ℕ → Bool) (text : List ℕ) → test text ≡ true → some_end test text ≡ true
end_here test [] h = h
end_here test (b ∷ bs) h = rw h refl

or_right : (a b : Bool) → b ≡ true → (a || b) ≡ true
or_right true b h = refl
or_right false b h = h

pub end_drop : (test : List ℕ → Bool) (j : ℕ) (text : List ℕ) → some_end test (drop j text) ≡ true → some_end test text ≡ true
end_drop test zero text h = h
end_drop test (suc j) [] h = h
end_drop test (suc j) (b ∷ bs) h = or_right (test (b ∷ bs)) (some_end test bs) (end_drop test j bs h)

first_or : (a b : Bool) → (a || b) ≡ true → a ≡ false → b ≡ true
first_or true b h e = absurd cc
first_or false b h e = h

end_later : (test : List ℕ → Bool) (b : ℕ) (bs : List ℕ) → ((j : ℕ) × (test (drop j bs) ≡ true)) → (j : ℕ) × (test (drop j (b ∷ bs)) ≡ true)
end_later test b bs found = (suc (found.0), found.1)

end_cases : (test : List ℕ → Bool) (b : ℕ) (bs : List ℕ) (here : Bool) → test (b ∷ bs) ≡ here → some_end test (b ∷ bs) ≡ true → (some_end test bs ≡ true → (j : ℕ) × (test (drop j bs) ≡ true)) → (j : ℕ) × (test (drop j (b ∷ bs)) ≡ true)
end_cases test b bs true e h more = (0, e)
end_cases test b bs false e h more = end_later test b bs (more (first_or (test (b ∷ bs)) (some_end test bs) h e))

pub end_found : (test : List ℕ → Bool) (text : List ℕ) → some_end test text ≡ true → (j : ℕ) × (test (drop j text) ≡ true)
end_found test [] h = (0, h)
end_found test (b ∷ bs) h = end_cases test b bs (test (b ∷ bs)) refl h (λ k. end_found test bs k)
