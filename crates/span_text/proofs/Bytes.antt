-- Which bytes pass which tests.
use Rattle.std.proofs.Common.{◌≡◌, ℕ, Bool, true, false, not, ◌&&◌, ◌||◌, eqb, List, [], ◌∷◌, ◌++◌, refl, sym, ap, ◌∙◌}
use Rattle.std.proofs.lemmas.Bool.{eqb-true}
use Rattle.std.specs.List.{list_all, slice_split, onto_first}
use Rattle.std.proofs.lemmas.List.Splits.{slice_split-cons_yes, slice_split-cons_no}
use Rattle.span_text.specs.Names.{begins_name, continues_name, is_letter, is_digit}
use Rattle.span_text.specs.Scanning.{starts, Each, Run, is_newline, is_blank, is_plain_byte, is_exact_byte, is_quoted_byte, is_comment_byte, ends_word}

apart_at : (p : ℕ → Bool) (b k : ℕ) (t : Bool) → eqb b k ≡ t → p b ≡ true → p k ≡ false → t ≡ false
apart_at p b k true e passes fails = let same : b ≡ k = eqb-true _ _ e in absurd cc
apart_at p b k false e passes fails = refl

-- a byte that passes is not one that fails
pub apart : (p : ℕ → Bool) (b k : ℕ) → p b ≡ true → p k ≡ false → eqb b k ≡ false
apart p b k passes fails = apart_at p b k (eqb b k) refl passes fails

other_at : (t : Bool) → (t ≡ true → ⊥) → t ≡ false
other_at true h = absurd (h refl)
other_at false h = refl

-- two tests that no byte passes both
pub swap : (p q : ℕ → Bool) → ((b : ℕ) → p b ≡ true → q b ≡ false) → (b : ℕ) → q b ≡ true → p b ≡ false
swap p q h b e = other_at (p b) (λ k. let f = h b k in cc)

pub plain_no_blank : (b : ℕ) → is_plain_byte b ≡ true → is_blank b ≡ false
unfolding is_plain_byte is_blank
plain_no_blank b e = rw (apart is_plain_byte b 32 e refl, apart is_plain_byte b 9 e refl) refl

pub plain_no_newline : (b : ℕ) → is_plain_byte b ≡ true → is_newline b ≡ false
unfolding is_plain_byte is_newline
plain_no_newline b e = apart is_plain_byte b 10 e refl

pub exact_no_newline : (b : ℕ) → is_exact_byte b ≡ true → is_newline b ≡ false
unfolding is_exact_byte is_newline
exact_no_newline b e = apart is_exact_byte b 10 e refl

pub quoted_no_newline : (b : ℕ) → is_quoted_byte b ≡ true → is_newline b ≡ false
unfolding is_quoted_byte is_newline
quoted_no_newline b e = apart is_quoted_byte b 10 e refl

pub name_no_newline : (b : ℕ) → continues_name b ≡ true → is_newline b ≡ false
unfolding continues_name is_newline
name_no_newline b e = apart continues_name b 10 e refl

pub first_is_name : (b : ℕ) → begins_name b ≡ true → continues_name b ≡ true
unfolding begins_name continues_name
first_is_name b e = rw e refl

-- single bytes, each at each test
pub record Marks : Type 0 where
  pub blank_is_blank : is_blank 32 ≡ true
  pub newline_is_newline : is_newline 10 ≡ true
  pub space_is_line : is_newline 32 ≡ false
  pub quote_no_plain : is_plain_byte 39 ≡ false
  pub double_no_plain : is_plain_byte 34 ≡ false
  pub blank_no_plain : is_plain_byte 32 ≡ false
  pub dollar_no_plain : is_plain_byte 36 ≡ false
  pub hash_no_plain : is_plain_byte 35 ≡ false
  pub equals_no_plain : is_plain_byte 61 ≡ false
  pub quote_no_blank : is_blank 39 ≡ false
  pub double_no_blank : is_blank 34 ≡ false
  pub hash_no_blank : is_blank 35 ≡ false
  pub quote_no_exact : is_exact_byte 39 ≡ false
  pub double_no_quoted : is_quoted_byte 34 ≡ false
  pub dollar_no_quoted : is_quoted_byte 36 ≡ false
  pub double_no_name : continues_name 34 ≡ false
  pub dollar_no_name : continues_name 36 ≡ false
  pub equals_no_name : continues_name 61 ≡ false
  pub plus_no_name : continues_name 43 ≡ false
  pub quote_is_line : is_newline 39 ≡ false
  pub double_is_line : is_newline 34 ≡ false
  pub dollar_is_line : is_newline 36 ≡ false
  pub equals_is_line : is_newline 61 ≡ false

pub marks : Marks
unfolding is_blank is_newline is_plain_byte is_exact_byte is_quoted_byte continues_name
marks = record {
  blank_is_blank = refl;
  newline_is_newline = refl;
  space_is_line = refl;
  quote_no_plain = refl;
  double_no_plain = refl;
  blank_no_plain = refl;
  dollar_no_plain = refl;
  hash_no_plain = refl;
  equals_no_plain = refl;
  quote_no_blank = refl;
  double_no_blank = refl;
  hash_no_blank = refl;
  quote_no_exact = refl;
  double_no_quoted = refl;
  dollar_no_quoted = refl;
  double_no_name = refl;
  dollar_no_name = refl;
  equals_no_name = refl;
  plus_no_name = refl;
  quote_is_line = refl;
  double_is_line = refl;
  dollar_is_line = refl;
  equals_is_line = refl;
}

-- ---- texts

pub Each-append : (p : ℕ → Bool) (a b : List ℕ) → Each p a → Each p b → Each p (a ++ b)
Each-append p [] b x y = y
Each-append p (c ∷ cs) b x y = (x.0, Each-append p cs b x.1 y)

pub Each-to : (p q : ℕ → Bool) → ((b : ℕ) → p b ≡ true → q b ≡ true) → (text : List ℕ) → Each p text → Each q text
Each-to p q h [] x = tt
Each-to p q h (b ∷ bs) x = (h b x.0, Each-to p q h bs x.1)

-- no newline in it
abbrev pub Line : List ℕ → Type 0
Line text = Each (λ b. not (is_newline b)) text

pub line_of_test : (p : ℕ → Bool) → ((b : ℕ) → p b ≡ true → is_newline b ≡ false) → (text : List ℕ) → Each p text → Line text
line_of_test p h text x = Each-to p (λ b. not (is_newline b)) (λ b e. ap not (h b e)) text x

isnt : (t : Bool) → not t ≡ true → t ≡ false
isnt true e = absurd cc
isnt false e = refl

-- a line is cut off at its newline
pub split_line : (line more : List ℕ) → Line line → slice_split is_newline (line ++ 10 ∷ more) ≡ line ∷ slice_split is_newline more
split_line [] more x = slice_split-cons_yes is_newline 10 more marks.newline_is_newline
split_line (b ∷ bs) more x = slice_split-cons_no is_newline b (bs ++ 10 ∷ more) (isnt (is_newline b) x.0) ∙ ap (onto_first b) (split_line bs more x.1)
