-- Behind a comment is its newline, so what is idle is idle behind it.
use Rattle.std.proofs.Common.{◌≡◌, ℕ, length, ◌≤◌, Bool, true, false, cond, [], ◌∷◌, refl, arith}
use Rattle.std.specs.Prelude.{◌==◌}
use Rattle.std.proofs.lemmas.Bool.{eqb-true}
use Rattle.bash_grammar.specs.Bytes.{Text, comment_end, idle}

comment_idle_at : (b : ℕ) (bs : Text) (t : Bool) → (b == 10) ≡ t → idle (35 ∷ bs) ≡ idle (comment_end bs) → idle (35 ∷ b ∷ bs) ≡ idle (comment_end (b ∷ bs))
unfolding idle comment_end
comment_idle_at b bs true e h = rw (eqb-true b 10 e) refl
comment_idle_at b [] false e h = rw e refl
comment_idle_at b (c ∷ bs) false e h = rw e h

pub comment_idle : (bs : Text) → idle (35 ∷ bs) ≡ idle (comment_end bs)
unfolding idle comment_end
comment_idle [] = refl
comment_idle (b ∷ bs) = comment_idle_at b bs (b == 10) refl (comment_idle bs)

comment_fits_at : (b : ℕ) (bs : Text) (t : Bool) → length (comment_end bs) ≤ length bs → length (cond t (b ∷ bs) (comment_end bs)) ≤ length (b ∷ bs)
comment_fits_at b bs true h = omega arith
comment_fits_at b bs false h = omega arith

pub comment_fits : (bs : Text) → length (comment_end bs) ≤ length bs
unfolding comment_end
comment_fits [] = omega arith
comment_fits (b ∷ bs) = comment_fits_at b bs (b == 10) (comment_fits bs)
