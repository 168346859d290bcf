-- One read after another.
use Rattle.std.proofs.Common.{◌≡◌, ◌≢◌, ℕ, ◌+◌, ◌<◌, ◌≤◌, ◌-◌, List, [], ◌++◌, length, take, drop, Option, Some, None, Ok, Err, refl, sym, ap, subst, ◌∙◌, append_assoc, arith}
use Rattle.std.proofs.lemmas.List.{length-append, length-take-le, take-append-drop}
use Rattle.span_text.specs.Streams.{Moved, IsOver}
use Rattle.span_text.proofs.Writes.{Rose-from}
use Rattle.bash2sh.specs.declared.input.InputFault.{InputFault}
use Rattle.bash2sh.specs.declared.input.InputFault.TheVariants as input
use Rattle.bash2sh.specs.Answers.{Took, Over, GivesInput}
use Rattle.bash2sh.specs.Input.{Piece, Reads}

pub Took-none : (o : Option (List ℕ)) → Took o o []
Took-none None = tt
Took-none (Some left) = (left, refl, refl)

pub Took-then : (a b c : Option (List ℕ)) (x y : List ℕ) → Took a b x → Took b c y → Took a c (x ++ y)
Took-then None b c x y p q = tt
Took-then (Some left) b c x y p q =
    let r : Took (Some p.0) c y = subst (λ (o : Option (List ℕ)). Took o c y) p.2 q in
    (r.0, p.1 ∙ ap (λ (l : List ℕ). x ++ l) r.1 ∙ sym (append_assoc x y r.0), r.2)

pub Over-then : (a b c : Option (List ℕ)) (x : List ℕ) → Took a b x → Over b c → Over a c
Over-then None b c x p q = tt
Over-then (Some left) b c x p q = subst (λ (o : Option (List ℕ)). Over o c) p.2 q

moved_took : (a b : Option (List ℕ)) (buffer : List ℕ) (n : ℕ) → Moved a b buffer n → Took a b (take n buffer)
moved_took None b buffer n m = tt
moved_took (Some left) b buffer n m =
    (drop n left, sym (take-append-drop n left) ∙ ap (λ (l : List ℕ). l ++ drop n left) (sym m.1), m.2)

moved_over : (a b : Option (List ℕ)) (buffer : List ℕ) (n : ℕ) → Moved a b buffer n → n ≡ 0 → IsOver a → Over a b
moved_over None b buffer n m zero over = tt
moved_over (Some left) b buffer n m zero over =
    m.2 ∙ ap (λ (k : ℕ). Some (drop k left)) zero ∙ ap (λ (l : List ℕ). Some l) over

-- what one read has done
pub piece : (a b : Option (List ℕ)) (i j : ℕ) (held text buffer : List ℕ) (room n : ℕ) → n ≤ room → length buffer ≡ room → Moved a b buffer n → (n ≡ 0 → 0 < room → IsOver a) → i ≤ j → text ≡ held ++ take n buffer → Piece a b i j held text room n
piece a b i j held text buffer room n within long m ends le is = record {
  taken = take n buffer;
  took = moved_took a b buffer n m;
  behind = is;
  counted = length-take-le n buffer (omega (arith, within, long));
  within = within;
  ends = λ zero some. moved_over a b buffer n m zero (ends zero some);
  never_falls = le;
}

module _ (most : ℕ) where
  -- what a loop has read
  pub record SoFar (before now : Option (List ℕ)) (faults count : ℕ) (text : List ℕ) : Type 0 where
    pub took : Took before now text
    pub never_falls : faults ≤ count
    pub fits : length text ≤ most + 1

  pub SoFar-none : (a : Option (List ℕ)) (i : ℕ) → SoFar a a i i []
  SoFar-none a i = record { took = Took-none a; never_falls = omega arith; fits = omega arith }

  Piece-length : (a b : Option (List ℕ)) (i j : ℕ) (held text : List ℕ) (room n : ℕ) → Piece a b i j held text room n → length text ≡ length held + n
  Piece-length a b i j held text room n p =
      ap (λ (l : List ℕ). length l) p.behind ∙ length-append held p.taken ∙ ap (λ (k : ℕ). length held + k) p.counted

  took_more : (a b c : Option (List ℕ)) (i j k : ℕ) (held text : List ℕ) (room n : ℕ) → SoFar a b i j held → Piece b c j k held text room n → Took a c text
  took_more a b c i j k held text room n s p = rw p.behind (Took-then a b c held p.taken s.took p.took)

  pub SoFar-more : (a b c : Option (List ℕ)) (i j k : ℕ) (held text : List ℕ) (room n : ℕ) → SoFar a b i j held → length held + room ≤ most + 1 → Piece b c j k held text room n → SoFar a c i k text
  SoFar-more a b c i j k held text room n s le p =
      let long = Piece-length b c j k held text room n p in
      record {
        took = took_more a b c i j k held text room n s p;
        never_falls = omega (arith, s.never_falls, p.never_falls);
        fits = omega (arith, long, le, p.within);
      }

  -- each read that isn't the last takes a byte
  pub SoFar-less : (b c : Option (List ℕ)) (j k : ℕ) (held text : List ℕ) (room n : ℕ) → n ≢ 0 → length held + room ≤ most + 1 → Piece b c j k held text room n → (most + 1) - length text < (most + 1) - length held
  SoFar-less b c j k held text room n some le p =
      let long = Piece-length b c j k held text room n p in
      omega (arith, long, le, p.within, some)

  pub SoFar-done : (a b c : Option (List ℕ)) (i j k : ℕ) (held text : List ℕ) (room n : ℕ) → SoFar a b i j held → length held ≤ most → 0 < room → n ≡ 0 → Piece b c j k held text room n → GivesInput most a c i k (Ok text)
  SoFar-done a b c i j k held text room n s le some zero p =
      let long = Piece-length b c j k held text room n p in
      (took_more a b c i j k held text room n s p, Over-then a b c held s.took (p.ends zero some), omega (arith, long, le, zero), omega (arith, s.never_falls, p.never_falls))

  pub SoFar-fails : (a b c : Option (List ℕ)) (i j k : ℕ) (held text : List ℕ) (room : ℕ) (e : InputFault) → SoFar a b i j held → Reads b c j k held text room (Err e) → GivesInput most a c i k (Err e)
  SoFar-fails a b c i j k held text room input.Memory s r = omega (arith, s.never_falls, r)
  SoFar-fails a b c i j k held text room input.Failed s r = Rose-from i j k s.never_falls r
  SoFar-fails a b c i j k held text room input.TooLong s r = absurd r

  pub SoFar-long : (a b : Option (List ℕ)) (i j : ℕ) (text : List ℕ) → SoFar a b i j text → most < length text → GivesInput most a b i j (Err input.TooLong)
  SoFar-long a b i j text s lt = (text, s.took, omega (arith, s.fits, lt), s.never_falls)

-- ---- what all reads give, where it is told what was left
