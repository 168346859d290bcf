-- What was read before stands before what is read behind it.
use Rattle.std.proofs.Common.{◌≡◌, ℕ, Bool, true, false, [], ◌∷◌, ◌++◌, Option, Some, None, refl, sym, ap, ◌∙◌, ◌≤◌, ◌-◌, length, get_or, take, drop, arith}
use Rattle.std.specs.Prelude.{◌||◌}
use Rattle.std.proofs.lemmas.List.{append-nil}
use Rattle.std.proofs.Math.Seq.{take-length}
use Rattle.sh_grammar.specs.Bytes.{Text, clear}
use Rattle.sh_grammar.specs.Bodies as bodies
use Rattle.sh_grammar.specs.Bodies.{body_from, last_line, with_byte, quoted, with, delimiter_from, line_from}
use Rattle.sh_parser.specs.Owing.{place_of, joined_to}
use Rattle.sh_parser.proofs.Joins.{line_joins}
use Rattle.sh_parser.specs.Delimiters as delimiters
use Rattle.sh_parser.specs.declared.bodies.Place.{Place}
use Rattle.sh_parser.specs.declared.bodies.Place.TheVariants as places

push_more : (text more : Text) (b : ℕ) → text ++ (b ∷ more) ≡ (text ++ b ∷ []) ++ more
push_more [] more b = refl
push_more (c ∷ text) more b = ap (λ z. c ∷ z) (push_more text more b)

-- ---- bodies

last_is : (o : bodies.Owed) (at : Place) (rest behind : Text) → 1 ≤ length rest → last_line o (place_of at) rest ≡ Some behind → body_from o (place_of at) rest ≡ Some ([], behind)
unfolding body_from
last_is o places.Start [] behind l e = absurd (omega arith)
last_is o places.Start (b ∷ bs) behind l e = rw e refl
last_is o places.Within bs behind l e = absurd cc
last_is o places.Kept bs behind l e = absurd cc

pub last_ends : (text : Text) (o : bodies.Owed) (at : Place) (rest behind : Text) → 1 ≤ length rest → last_line o (place_of at) rest ≡ Some behind → joined_to text (body_from o (place_of at) rest) ≡ Some (text, behind)
last_ends text o at rest behind l e = ap (joined_to text) (last_is o at rest behind l e) ∙ ap (λ z. Some (z, behind)) (append-nil text)

pub body_keeps : (text : Text) (b : ℕ) (x : Option (Text × Text)) → joined_to text (with_byte b x) ≡ joined_to (text ++ b ∷ []) x
body_keeps text b None = refl
body_keeps text b (Some y) = ap (λ z. Some (z, y.1)) (push_more text y.0 b)

-- ---- delimiters

pub delimiter_ends : (text : Text) (q : Bool) (rest : Text) → delimiters.joined_to text q (Some (([], false), rest)) ≡ Some ((text, q), rest)
delimiter_ends text true rest = ap (λ z. Some ((z, true), rest)) (append-nil text)
delimiter_ends text false rest = ap (λ z. Some ((z, false), rest)) (append-nil text)

pub delimiter_quotes : (text : Text) (q : Bool) (x : Option ((Text × Bool) × Text)) → delimiters.joined_to text q (quoted x) ≡ delimiters.joined_to text true x
delimiter_quotes text q None = refl
delimiter_quotes text true (Some y) = refl
delimiter_quotes text false (Some y) = refl

pub delimiter_keeps : (text : Text) (q : Bool) (b : ℕ) (x : Option ((Text × Bool) × Text)) → delimiters.joined_to text q (with b x) ≡ delimiters.joined_to (text ++ b ∷ []) q x
delimiter_keeps text q b None = refl
delimiter_keeps text q b (Some y) = ap (λ z. Some ((z, q || y.0.1), y.1)) (push_more text y.0.0 b)

-- ---- turns of the loops, where a byte and what is behind it are the bytes ahead

take_all : (bs : Text) (n : ℕ) → n ≡ length bs → take n bs ≡ bs
take_all bs n e = rw e (take-length bs)

pub parts_of : (bs : Text) → 1 ≤ length bs → get_or bs 0 0 ∷ take (length bs - 1) (drop 1 bs) ≡ bs
parts_of [] e = absurd (omega arith)
parts_of (b ∷ bs) e = ap (λ z. b ∷ z) (take_all bs (length (b ∷ bs) - 1) (omega arith))

pub body_turn : (text : Text) (o : bodies.Owed) (p q : bodies.Place) (b : ℕ) (rest after : Text) (total : Option (Text × Text)) → b ∷ after ≡ rest →
    body_from o p (b ∷ after) ≡ with_byte b (body_from o q after) → joined_to text (body_from o p rest) ≡ total → joined_to (text ++ b ∷ []) (body_from o q after) ≡ total
body_turn text o p q b rest after total parts e before = sym (body_keeps text b (body_from o q after)) ∙ ap (joined_to text) (sym e) ∙ ap (λ z. joined_to text (body_from o p z)) parts ∙ before

pub quotes_turn : (text : Text) (quote : Bool) (m n : bodies.Mode) (b : ℕ) (rest after : Text) (total : Option ((Text × Bool) × Text)) → b ∷ after ≡ rest →
    delimiter_from m (b ∷ after) ≡ quoted (delimiter_from n after) → delimiters.joined_to text quote (delimiter_from m rest) ≡ total → delimiters.joined_to text true (delimiter_from n after) ≡ total
quotes_turn text quote m n b rest after total parts e before =
    sym (delimiter_quotes text quote (delimiter_from n after)) ∙ ap (delimiters.joined_to text quote) (sym e) ∙ ap (λ z. delimiters.joined_to text quote (delimiter_from m z)) parts ∙ before

pub keeps_turn : (text : Text) (quote : Bool) (m n : bodies.Mode) (b : ℕ) (rest after : Text) (total : Option ((Text × Bool) × Text)) → b ∷ after ≡ rest →
    delimiter_from m (b ∷ after) ≡ with b (delimiter_from n after) → delimiters.joined_to text quote (delimiter_from m rest) ≡ total → delimiters.joined_to (text ++ b ∷ []) quote (delimiter_from n after) ≡ total
keeps_turn text quote m n b rest after total parts e before =
    sym (delimiter_keeps text quote b (delimiter_from n after)) ∙ ap (delimiters.joined_to text quote) (sym e) ∙ ap (λ z. delimiters.joined_to text quote (delimiter_from m z)) parts ∙ before

pub both_turn : (text : Text) (quote : Bool) (m n : bodies.Mode) (b : ℕ) (rest after : Text) (total : Option ((Text × Bool) × Text)) → b ∷ after ≡ rest →
    delimiter_from m (b ∷ after) ≡ with 92 (with b (delimiter_from n after)) → delimiters.joined_to text quote (delimiter_from m rest) ≡ total → delimiters.joined_to ((text ++ 92 ∷ []) ++ b ∷ []) quote (delimiter_from n after) ≡ total
both_turn text quote m n b rest after total parts e before =
    sym (delimiter_keeps (text ++ 92 ∷ []) quote b (delimiter_from n after)) ∙ sym (delimiter_keeps text quote 92 (with b (delimiter_from n after))) ∙ ap (delimiters.joined_to text quote) (sym e) ∙ ap (λ z. delimiters.joined_to text quote (delimiter_from m z)) parts ∙ before

pub ends_turn : (text : Text) (quote : Bool) (m : bodies.Mode) (b : ℕ) (rest after : Text) (total : Option ((Text × Bool) × Text)) → b ∷ after ≡ rest →
    delimiter_from m (b ∷ after) ≡ Some (([], false), b ∷ after) → delimiters.joined_to text quote (delimiter_from m rest) ≡ total → total ≡ Some ((text, quote), rest)
ends_turn text quote m b rest after total parts e before =
    sym before ∙ ap (λ z. delimiters.joined_to text quote (delimiter_from m z)) (sym parts) ∙ ap (delimiters.joined_to text quote) e ∙ delimiter_ends text quote (b ∷ after) ∙ ap (λ z. Some ((text, quote), z)) parts

-- ---- the delimiter's line

pub line_turn : (name : Text) (literal : Bool) (b : ℕ) (rest after behind : Text) (total : Option Text) → literal ≡ false → b ∷ after ≡ rest → behind ≡ clear (b ∷ after) →
    line_from literal false name rest ≡ total → line_from literal false name behind ≡ total
line_turn name false b rest after behind total lit parts e before =
    ap (line_from false false name) (e ∙ ap clear parts) ∙ line_joins name rest ∙ before
line_turn name true b rest after behind total lit parts e before = absurd cc
