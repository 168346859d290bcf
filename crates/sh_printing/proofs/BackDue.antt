-- Where reading is among here-documents, with the bodies that are still to come.
use Rattle.std.proofs.Common.{◌≡◌, ℕ, Bool, true, false, List, [], ◌∷◌, ◌++◌, length, Some, refl, sym, ap, ◌∙◌, append_assoc}
use Rattle.std.proofs.lemmas.List.{append-nil}
use Rattle.sh_grammar.specs.Bytes.{Text}
use Rattle.sh_grammar.specs.Bodies.{Owed, body_at, bodies_at}
use Rattle.sh_grammar.specs.State.{State, Sum}
use Rattle.sh_grammar.specs.Steps.{Known, nth}

-- a here-document that is owed, and its body, which ends where its delimiter stands
pub record Pending : Type 0 where
  pub owed : Owed
  pub body : Text
  pub ends : (rest : Text) → body_at owed (body ++ (owed.delimiter ++ 10 ∷ rest)) ≡ Some (body, rest)

abbrev pub owed_of : List Pending → List Owed
owed_of [] = []
owed_of (p ∷ ps) = p.owed ∷ owed_of ps

abbrev pub bodies_of : List Pending → List Text
bodies_of [] = []
bodies_of (p ∷ ps) = p.body ∷ bodies_of ps

-- their bodies and the lines of their delimiters
abbrev pub pending_text : List Pending → Text
pending_text [] = []
pending_text (p ∷ ps) = p.body ++ (p.owed.delimiter ++ 10 ∷ pending_text ps)

-- what is owed, and the bodies found before
pub record Due : Type 0 where
  pub owing : List Pending
  pub found : List Text

-- all bodies of the here-documents that were named
abbrev pub named : Due → List Text
named g = g.found ++ bodies_of g.owing

abbrev pub settled : Due → Due
settled g = record { owing = []; found = named g }

-- so deep, in these arithmetic expansions, with these bytes ahead
abbrev pub st : ℕ → List Sum → Due → Text → State
st d q g bytes = record { bytes = bytes; owed = owed_of g.owing; named = length (named g); found = g.found; depth = d; sums = q }

-- behind a stretch in which these were named and found, if a newline stood in it
abbrev pub after : Bool → Due → List Text → Due
after false g bs = g
after true g bs = record { owing = []; found = named g ++ bs }

-- one more is owed
abbrev pub owing_more : Due → Pending → Due
owing_more g p = record { owing = g.owing ++ p ∷ []; found = g.found }

pub owed_more : (ps : List Pending) (p : Pending) → owed_of (ps ++ p ∷ []) ≡ owed_of ps ++ p.owed ∷ []
owed_more [] p = refl
owed_more (q ∷ ps) p = ap (λ (z : List Owed). q.owed ∷ z) (owed_more ps p)

pub bodies_more : (ps : List Pending) (p : Pending) → bodies_of (ps ++ p ∷ []) ≡ bodies_of ps ++ p.body ∷ []
bodies_more [] p = refl
bodies_more (q ∷ ps) p = ap (λ (z : List Text). q.body ∷ z) (bodies_more ps p)

pub pending_more : (ps : List Pending) (p : Pending) → pending_text (ps ++ p ∷ []) ≡ pending_text ps ++ (p.body ++ (p.owed.delimiter ++ 10 ∷ []))
pending_more [] p = refl
pending_more (q ∷ ps) p =
    let tail = p.body ++ (p.owed.delimiter ++ 10 ∷ []) in
    ap (λ (z : Text). q.body ++ (q.owed.delimiter ++ 10 ∷ z)) (pending_more ps p)
    ∙ sym (append_assoc q.body (q.owed.delimiter ++ 10 ∷ pending_text ps) tail ∙ ap (λ (z : Text). q.body ++ z) (append_assoc q.owed.delimiter (10 ∷ pending_text ps) tail))

pub named_more : (g : Due) (p : Pending) → named (owing_more g p) ≡ named g ++ p.body ∷ []
named_more g p = ap (λ (z : List Text). g.found ++ z) (bodies_more g.owing p) ∙ sym (append_assoc g.found (bodies_of g.owing) (p.body ∷ []))

-- all that was named, behind a stretch
pub named_after : (o : Bool) (g : Due) (bs : List Text) → (o ≡ false → bs ≡ []) → named (after o g bs) ≡ named g ++ bs
named_after true g bs h = append-nil (named g ++ bs)
named_after false g bs h = sym (ap (λ (z : List Text). named g ++ z) (h refl) ∙ append-nil (named g))

-- the bodies that are read
pub bodies_read : (ps : List Pending) (rest : Text) → bodies_at (owed_of ps) (pending_text ps ++ rest) ≡ Some (bodies_of ps, rest)
unfolding bodies_at
bodies_read [] rest = refl
bodies_read (p ∷ ps) rest =
    let e = append_assoc p.body (p.owed.delimiter ++ 10 ∷ pending_text ps) rest ∙ ap (λ (z : Text). p.body ++ z) (append_assoc p.owed.delimiter (10 ∷ pending_text ps) rest) in
    rw (e, p.ends (pending_text ps ++ rest), bodies_read ps rest) refl

-- ---- which body is whose

-- the bodies that are known, from those that were named on
pub record Covers (k : Known) (g : Due) (bs : List Text) : Type 0 where
  pub later : List Text
  pub known : k.bodies ≡ named g ++ (bs ++ later)

pub covers_first : (k : Known) (g : Due) (xs ys : List Text) → Covers k g (xs ++ ys) → Covers k g xs
covers_first k g xs ys c = record { later = ys ++ c.later; known = c.known ∙ ap (λ (z : List Text). named g ++ z) (append_assoc xs ys c.later) }

pub covers_second : (k : Known) (g h : Due) (xs ys : List Text) → named h ≡ named g ++ xs → Covers k g (xs ++ ys) → Covers k h ys
covers_second k g h xs ys e c = record {
  later = c.later;
  known =
      c.known ∙ ap (λ (z : List Text). named g ++ z) (append_assoc xs ys c.later) ∙ sym (append_assoc (named g) xs (ys ++ c.later)) ∙ ap (λ (z : List Text). z ++ (ys ++ c.later)) (sym e);
}

pub covers_after : (k : Known) (o : Bool) (g : Due) (xs ys : List Text) → (o ≡ false → xs ≡ []) → Covers k g (xs ++ ys) → Covers k (after o g xs) ys
covers_after k o g xs ys h c = covers_second k g (after o g xs) xs ys (named_after o g xs h) c

nth_behind : (xs : List Text) (b : Text) (ys : List Text) → nth (xs ++ b ∷ ys) (length xs) ≡ b
nth_behind [] b ys = refl
nth_behind (a ∷ xs) b ys = nth_behind xs b ys

-- the body of the next one
pub covers_next : (k : Known) (g : Due) (b : Text) (bs : List Text) → Covers k g (b ∷ bs) → nth k.bodies (length (named g)) ≡ b
covers_next k g b bs c = ap (λ (z : List Text). nth z (length (named g))) c.known ∙ nth_behind (named g) b (bs ++ c.later)

-- one stretch behind another
pub after_both : (o p : Bool) (g : Due) (xs ys : List Text) → (o ≡ false → xs ≡ []) → (p ≡ false → ys ≡ []) → after p (after o g xs) ys ≡ after (Rattle.std.specs.Prelude.◌||◌ o p) g (xs ++ ys)
after_both true true g xs ys h i = ap (λ (z : List Text). record { owing = []; found = z }) (ap (λ (z : List Text). z ++ ys) (append-nil (named g ++ xs)) ∙ append_assoc (named g) xs ys)
after_both true false g xs ys h i = ap (λ (z : List Text). record { owing = []; found = z }) (ap (λ (z : List Text). named g ++ z) (sym (append-nil xs) ∙ ap (λ (z : List Text). xs ++ z) (sym (i refl))))
after_both false true g xs ys h i = ap (λ (z : List Text). record { owing = []; found = named g ++ z }) (ap (λ (z : List Text). z ++ ys) (sym (h refl)))
after_both false false g xs ys h i = refl
