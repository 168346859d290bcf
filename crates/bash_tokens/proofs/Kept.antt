-- What was read before stands before what is read behind it.
use Rattle.std.proofs.Common.{◌≡◌, ℕ, Bool, true, false, List, [], ◌∷◌, ◌++◌, Option, Some, None, refl, sym, ap, ◌∙◌, ◌≤◌, ◌-◌, length, get_or, take, drop, arith}
use Rattle.std.specs.Prelude.{◌||◌, map}
use Rattle.std.proofs.lemmas.List.{append-nil}
use Rattle.std.proofs.Math.Seq.{take-length}
use Rattle.bash_grammar.specs.Bytes.{Text}
use Rattle.bash_grammar.specs.Bodies as bodies
use Rattle.bash_grammar.specs.Bodies.{delimiter_from, with_quote, with}
use Rattle.bash_tokens.specs.Delimiters as delimiters

push_more : {A : Type 0} (text more : List A) (b : A) → text ++ (b ∷ more) ≡ (text ++ b ∷ []) ++ more
push_more [] more b = refl
push_more (c ∷ text) more b = ap (λ z. c ∷ z) (push_more text more b)

-- ---- delimiters

pub delimiter_ends : (text : Text) (q : Bool) (rest : Text) → delimiters.joined_to text q (Some (([], false), rest)) ≡ Some ((text, q), rest)
delimiter_ends text true rest = ap (λ z. Some ((z, true), rest)) (append-nil text)
delimiter_ends text false rest = ap (λ z. Some ((z, false), rest)) (append-nil text)

pub delimiter_quotes : (text : Text) (q : Bool) (x : Option ((Text × Bool) × Text)) → delimiters.joined_to text q (with_quote x) ≡ delimiters.joined_to text true x
delimiter_quotes text q None = refl
delimiter_quotes text true (Some y) = refl
delimiter_quotes text false (Some y) = refl

pub delimiter_keeps : (text : Text) (q : Bool) (b : ℕ) (x : Option ((Text × Bool) × Text)) → delimiters.joined_to text q (with b x) ≡ delimiters.joined_to (text ++ b ∷ []) q x
delimiter_keeps text q b None = refl
delimiter_keeps text q b (Some y) = ap (λ z. Some ((z, q || y.0.1), y.1)) (push_more text y.0.0 b)

-- ---- turns of the loop, where a byte and what is behind it are the bytes ahead

pub take_all : (bs : Text) (n : ℕ) → n ≡ length bs → take n bs ≡ bs
take_all bs n e = rw e (take-length bs)

pub parts_of : (bs : Text) → 1 ≤ length bs → get_or bs 0 0 ∷ take (length bs - 1) (drop 1 bs) ≡ bs
parts_of [] e = absurd (omega arith)
parts_of (b ∷ bs) e = ap (λ z. b ∷ z) (take_all bs (length (b ∷ bs) - 1) (omega arith))

pub quotes_turn : (text : Text) (quote : Bool) (m n : bodies.Mode) (end : Text) (b : ℕ) (rest after : Text) (total : Option ((Text × Bool) × Text)) → b ∷ after ≡ rest →
    delimiter_from m end (b ∷ after) ≡ with_quote (delimiter_from n after after) → delimiters.joined_to text quote (delimiter_from m end rest) ≡ total → delimiters.joined_to text true (delimiter_from n after after) ≡ total
quotes_turn text quote m n end b rest after total parts e before =
    sym (delimiter_quotes text quote (delimiter_from n after after)) ∙ ap (delimiters.joined_to text quote) (sym e) ∙ ap (λ z. delimiters.joined_to text quote (delimiter_from m end z)) parts ∙ before

pub keeps_turn : (text : Text) (quote : Bool) (m n : bodies.Mode) (end : Text) (b : ℕ) (rest after : Text) (total : Option ((Text × Bool) × Text)) → b ∷ after ≡ rest →
    delimiter_from m end (b ∷ after) ≡ with b (delimiter_from n after after) → delimiters.joined_to text quote (delimiter_from m end rest) ≡ total → delimiters.joined_to (text ++ b ∷ []) quote (delimiter_from n after after) ≡ total
keeps_turn text quote m n end b rest after total parts e before =
    sym (delimiter_keeps text quote b (delimiter_from n after after)) ∙ ap (delimiters.joined_to text quote) (sym e) ∙ ap (λ z. delimiters.joined_to text quote (delimiter_from m end z)) parts ∙ before

pub both_turn : (text : Text) (quote : Bool) (m n : bodies.Mode) (end : Text) (b : ℕ) (rest after : Text) (total : Option ((Text × Bool) × Text)) → b ∷ after ≡ rest →
    delimiter_from m end (b ∷ after) ≡ with 92 (with b (delimiter_from n after after)) → delimiters.joined_to text quote (delimiter_from m end rest) ≡ total → delimiters.joined_to ((text ++ 92 ∷ []) ++ b ∷ []) quote (delimiter_from n after after) ≡ total
both_turn text quote m n end b rest after total parts e before =
    sym (delimiter_keeps (text ++ 92 ∷ []) quote b (delimiter_from n after after)) ∙ sym (delimiter_keeps text quote 92 (with b (delimiter_from n after after))) ∙ ap (delimiters.joined_to text quote) (sym e) ∙ ap (λ z. delimiters.joined_to text quote (delimiter_from m end z)) parts ∙ before

pub ends_turn : (text : Text) (quote : Bool) (m : bodies.Mode) (end : Text) (b : ℕ) (rest after : Text) (total : Option ((Text × Bool) × Text)) → b ∷ after ≡ rest →
    delimiter_from m end (b ∷ after) ≡ Some (([], false), end) → delimiters.joined_to text quote (delimiter_from m end rest) ≡ total → total ≡ Some ((text, quote), end)
ends_turn text quote m end b rest after total parts e before =
    sym before ∙ ap (λ z. delimiters.joined_to text quote (delimiter_from m end z)) (sym parts) ∙ ap (delimiters.joined_to text quote) e ∙ delimiter_ends text quote end

pub skips_turn : (text : Text) (quote : Bool) (m n : bodies.Mode) (end : Text) (b : ℕ) (rest after : Text) (total : Option ((Text × Bool) × Text)) → b ∷ after ≡ rest →
    delimiter_from m end (b ∷ after) ≡ delimiter_from n after after → delimiters.joined_to text quote (delimiter_from m end rest) ≡ total → delimiters.joined_to text quote (delimiter_from n after after) ≡ total
skips_turn text quote m n end b rest after total parts e before =
    ap (delimiters.joined_to text quote) (sym e) ∙ ap (λ z. delimiters.joined_to text quote (delimiter_from m end z)) parts ∙ before

pub fails_turn : (text : Text) (quote : Bool) (m : bodies.Mode) (end : Text) (b : ℕ) (rest after : Text) (total : Option ((Text × Bool) × Text)) → b ∷ after ≡ rest →
    delimiter_from m end (b ∷ after) ≡ None → delimiters.joined_to text quote (delimiter_from m end rest) ≡ total → total ≡ None
fails_turn text quote m end b rest after total parts e before =
    sym before ∙ ap (λ z. delimiters.joined_to text quote (delimiter_from m end z)) (sym parts) ∙ ap (delimiters.joined_to text quote) e
