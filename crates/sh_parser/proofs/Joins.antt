-- Joins at the front are dropped, wherever they are dropped.
use Rattle.std.proofs.Common.{◌≡◌, ℕ, ◌<◌, ◌≤◌, Bool, true, false, cond, [], ◌∷◌, length, Option, None, refl, sym, ap, ◌∙◌, arith}
use Rattle.std.specs.Prelude.{◌==◌, ◌&&◌}
use Rattle.std.proofs.lemmas.Bool.{eqb-true}
use Rattle.sh_grammar.specs.Bytes.{Text, is_join, clear_from, clear}
use Rattle.sh_grammar.specs.Bodies as bodies
use Rattle.sh_grammar.specs.Bodies.{line_from, body_from, or_further, join_of, last_line, line_start, within}
use Rattle.sh_parser.specs.Owing.{place_of, is_kept}
use Rattle.sh_parser.specs.declared.bodies.Place.{Place}
use Rattle.sh_parser.specs.declared.bodies.Place.TheVariants as places

line_one : (name : Text) (b : ℕ) (c : ℕ) (cs : Text) → is_join b (c ∷ cs) ≡ true → line_from false false name (b ∷ c ∷ cs) ≡ line_from false false name cs
line_one [] b c [] e = rw e refl
line_one [] b c (d ∷ cs) e = rw e refl
line_one (n ∷ name) b c [] e = rw e refl
line_one (n ∷ name) b c (d ∷ cs) e = rw e refl

line_clear_at : (name : Text) (b c : ℕ) (cs : Text) (t : Bool) → is_join b (c ∷ cs) ≡ t → line_from false false name cs ≡ line_from false false name (clear_from false cs) →
    line_from false false name (b ∷ c ∷ cs) ≡ line_from false false name (cond t (clear_from true (c ∷ cs)) (b ∷ c ∷ cs))
line_clear_at name b c cs true e h = line_one name b c cs e ∙ h
line_clear_at name b c cs false e h = refl

line_clear : (name : Text) (bs : Text) → line_from false false name bs ≡ line_from false false name (clear_from false bs)
line_clear name [] = refl
line_clear name (b ∷ []) = refl
line_clear name (b ∷ c ∷ cs) = line_clear_at name b c cs (is_join b (c ∷ cs)) refl (line_clear name cs)

pub line_joins : (name : Text) (bs : Text) → line_from false false name (clear bs) ≡ line_from false false name bs
unfolding clear
line_joins name bs = sym (line_clear name bs)

fits_at : (b : ℕ) (bs : Text) (t : Bool) → ((taken : Bool) → length (clear_from taken bs) ≤ length bs) → length (cond t (clear_from true bs) (b ∷ bs)) ≤ length (b ∷ bs)
fits_at b bs true h = let k = h true in omega arith
fits_at b bs false h = omega arith

fits : (bs : Text) (taken : Bool) → length (clear_from taken bs) ≤ length bs
fits [] taken = omega arith
fits (b ∷ bs) true = let k = fits bs false in omega arith
fits (b ∷ bs) false = fits_at b bs (is_join b bs) (fits bs)

pub clear_fits : (bs : Text) → length (clear bs) ≤ length bs
unfolding clear
clear_fits bs = fits bs false

less_at : (b : ℕ) (bs : Text) (t : Bool) → t ≡ true → length (cond t (clear_from true bs) (b ∷ bs)) < length (b ∷ bs)
less_at b bs true e = let k = fits bs true in omega arith
less_at b bs false e = absurd cc

-- ---- in bodies

abbrev expanding : Text → Bool → bodies.Owed
expanding d strips = record { delimiter = d; literal = false; strips = strips }

start_one : (d : Text) (strips : Bool) (cs : Text) → line_from false false d cs ≡ None → body_from (expanding d strips) line_start (92 ∷ 10 ∷ cs) ≡ body_from (expanding d strips) line_start cs
unfolding body_from
start_one d strips cs n = ap (λ (x : Option Text). or_further x (body_from (expanding d strips) line_start cs)) (line_one d 92 10 cs refl ∙ n)

within_one : (d : Text) (strips : Bool) (cs : Text) → body_from (expanding d strips) within (92 ∷ 10 ∷ cs) ≡ body_from (expanding d strips) within cs
unfolding body_from
within_one d strips cs = refl

are_join_at : (b c : ℕ) (s t : Bool) → (b == 92) ≡ s → (c == 10) ≡ t → (s && t) ≡ true → (b ≡ 92) × (c ≡ 10)
are_join_at b c true true p q e = (eqb-true b 92 p, eqb-true c 10 q)
are_join_at b c true false p q e = absurd cc
are_join_at b c false t p q e = absurd cc

are_join : (b c : ℕ) (cs : Text) → is_join b (c ∷ cs) ≡ true → (b ≡ 92) × (c ≡ 10)
are_join b c cs e = are_join_at b c (b == 92) (c == 10) refl refl e

start_clear_at : (d : Text) (strips : Bool) (b c : ℕ) (cs : Text) (t : Bool) → is_join b (c ∷ cs) ≡ t → line_from false false d (b ∷ c ∷ cs) ≡ None →
    (line_from false false d cs ≡ None → body_from (expanding d strips) line_start cs ≡ body_from (expanding d strips) line_start (clear_from false cs)) →
    body_from (expanding d strips) line_start (b ∷ c ∷ cs) ≡ body_from (expanding d strips) line_start (cond t (clear_from true (c ∷ cs)) (b ∷ c ∷ cs))
start_clear_at d strips b c cs true e n h =
    let j = are_join b c cs e in
    let k : line_from false false d cs ≡ None = sym (line_one d b c cs e) ∙ n in
    rw (j.0, j.1) (start_one d strips cs k ∙ h k)
start_clear_at d strips b c cs false e n h = refl

start_clear : (d : Text) (strips : Bool) (bs : Text) → line_from false false d bs ≡ None → body_from (expanding d strips) line_start bs ≡ body_from (expanding d strips) line_start (clear_from false bs)
start_clear d strips [] n = refl
start_clear d strips (b ∷ []) n = refl
start_clear d strips (b ∷ c ∷ cs) n = start_clear_at d strips b c cs (is_join b (c ∷ cs)) refl n (start_clear d strips cs)

within_clear_at : (d : Text) (strips : Bool) (b c : ℕ) (cs : Text) (t : Bool) → is_join b (c ∷ cs) ≡ t → body_from (expanding d strips) within cs ≡ body_from (expanding d strips) within (clear_from false cs) →
    body_from (expanding d strips) within (b ∷ c ∷ cs) ≡ body_from (expanding d strips) within (cond t (clear_from true (c ∷ cs)) (b ∷ c ∷ cs))
within_clear_at d strips b c cs true e h = let j = are_join b c cs e in rw (j.0, j.1) (within_one d strips cs ∙ h)
within_clear_at d strips b c cs false e h = refl

within_clear : (d : Text) (strips : Bool) (bs : Text) → body_from (expanding d strips) within bs ≡ body_from (expanding d strips) within (clear_from false bs)
within_clear d strips [] = refl
within_clear d strips (b ∷ []) = refl
within_clear d strips (b ∷ c ∷ cs) = within_clear_at d strips b c cs (is_join b (c ∷ cs)) refl (within_clear d strips cs)

at_join : (d : Text) (strips : Bool) (at : Place) (b : ℕ) (bs : Text) (t : Bool) → is_join b bs ≡ t → t ≡ true → is_kept at ≡ false → last_line (expanding d strips) (place_of at) (b ∷ bs) ≡ None →
    body_from (expanding d strips) (join_of (place_of at)) bs ≡ body_from (expanding d strips) (place_of at) (cond t (clear_from true bs) (b ∷ bs))
unfolding body_from
at_join d strips at b [] t e f k n = absurd cc
at_join d strips places.Start b (c ∷ cs) true e f k n = start_clear d strips cs (sym (line_one d b c cs e) ∙ n)
at_join d strips places.Within b (c ∷ cs) true e f k n = within_clear d strips cs
at_join d strips places.Kept b (c ∷ cs) true e f k n = absurd cc
at_join d strips at b (c ∷ cs) false e f k n = absurd cc

pub body_joins : (d : Text) (literal strips : Bool) (at : Place) (b : ℕ) (bs : Text) → literal ≡ false → is_join b bs ≡ true → is_kept at ≡ false →
    last_line (record { delimiter = d; literal = literal; strips = strips }) (place_of at) (b ∷ bs) ≡ None →
    body_from (record { delimiter = d; literal = literal; strips = strips }) (join_of (place_of at)) bs ≡ body_from (record { delimiter = d; literal = literal; strips = strips }) (place_of at) (clear (b ∷ bs))
unfolding clear
body_joins d false strips at b bs lit e k n = at_join d strips at b bs (is_join b bs) refl e k n
body_joins d true strips at b bs lit e k n = absurd cc
