-- Backquotes are looked for byte by byte.
use Rattle.std.proofs.Common.{◌≡◌, ◌==◌, ℕ, zero, suc, ◌+◌, ◌<◌, ◌≤◌, Bool, true, false, [], ◌∷◌, ◌++◌, length, get_or, take, drop, Option, Some, None, refl, sym, ap, ◌∙◌, ◌-◌, add-one, length-drop, arith}
use Rattle.bash_grammar.specs.Bytes.{Text}
use Rattle.bash_grammar.specs.Steps.{tick_run}
use Rattle.bash_tokens.specs.Escapes.{quoted_to}
use Rattle.bash_tokens.proofs.Kept.{take_all}

quoted_more : (b : ℕ) (text : Text) (x y : Option (Text × Text)) → quoted_to text x ≡ y → quoted_to (b ∷ text) x ≡ quoted_to (b ∷ []) y
quoted_more b text None y e = rw (← e) refl
quoted_more b text (Some x) y e = rw (← e) refl

end_at : (bs : Text) (n : ℕ) → n < length bs → (get_or bs n 0 == 96) ≡ true → quoted_to (take n bs) (tick_run (drop n bs)) ≡ Some (take n bs, drop (suc n) bs)
unfolding tick_run
end_at [] n l e = absurd (omega arith)
end_at (b ∷ bs) zero l e = rw e refl
end_at (b ∷ bs) (suc n) l e = quoted_more b (take n bs) (tick_run (drop n bs)) _ (end_at bs n (omega arith) e)

more_at : (b : ℕ) (x : Option (Text × Text)) → quoted_to [] (quoted_to (b ∷ []) x) ≡ quoted_to (b ∷ []) x
more_at b None = refl
more_at b (Some x) = refl

more_run : (bs : Text) (n : ℕ) → n < length bs → (get_or bs n 0 == 96) ≡ false → quoted_to (take (suc n) bs) (tick_run (drop (suc n) bs)) ≡ quoted_to (take n bs) (tick_run (drop n bs))
unfolding tick_run
more_run [] n l e = absurd (omega arith)
more_run (b ∷ bs) zero l e = rw e (sym (more_at b (tick_run bs)))
more_run (b ∷ bs) (suc n) l e = quoted_more b (take (suc n) bs) (tick_run (drop (suc n) bs)) _ (more_run bs n (omega arith) e) ∙ sym (quoted_more b (take n bs) (tick_run (drop n bs)) _ refl)

pub ticks_none : (bs : Text) (n : ℕ) → length bs ≤ n → quoted_to (take n bs) (tick_run (drop n bs)) ≡ None
unfolding tick_run
ticks_none [] zero l = refl
ticks_none [] (suc n) l = refl
ticks_none (b ∷ bs) zero l = absurd (omega arith)
ticks_none (b ∷ bs) (suc n) l = quoted_more b (take n bs) (tick_run (drop n bs)) None (ticks_none bs n (omega arith))

pub ticks_end : (bs : Text) (n : ℕ) → n < length bs → (get_or bs n 0 == 96) ≡ true → quoted_to (take n bs) (tick_run (drop n bs)) ≡ Some (take n bs, drop (n + 1) bs)
ticks_end bs n l e = rw (add-one n) (end_at bs n l e)

pub ticks_more : (bs : Text) (n : ℕ) → n < length bs → (get_or bs n 0 == 96) ≡ false → quoted_to (take (n + 1) bs) (tick_run (drop (n + 1) bs)) ≡ quoted_to (take n bs) (tick_run (drop n bs))
ticks_more bs n l e = rw (add-one n) (more_run bs n l e)

pub ticks_found : (bs : Text) (n : ℕ) → n < length bs → get_or bs n 0 ≡ 96 → quoted_to (take n bs) (tick_run (drop n bs)) ≡ Some (take n bs, take (length bs - (n + 1)) (drop (n + 1) bs))
ticks_found bs n l e = ticks_end bs n l (ap (λ (z : ℕ). z == 96) e) ∙ ap (λ (z : Text). Some (take n bs, z)) (sym (take_all (drop (n + 1) bs) (length bs - (n + 1)) (sym (length-drop (n + 1) bs))))
