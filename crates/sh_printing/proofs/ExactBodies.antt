-- Bodies of here-documents that were read: lines without NUL, and without joins where they are to have none.
use Rattle.std.proofs.Common.{◌≡◌, ℕ, Bool, true, false, cond, [], ◌∷◌, Option, Some, None, refl, subst, eqb-true}
use Rattle.std.specs.Prelude.{◌||◌, ◌&&◌, not, ◌==◌}
use Rattle.sh_grammar.specs.Bytes.{Text, is_join, in_word, in_double, is_plain, is_escaped, starts, unit_starts}
use Rattle.sh_grammar.specs.Bodies.{Owed, Mode, bare, single, doubled, kept, kept_doubled, joined, joined_doubled, Read, quoted, with, opens_expansion, delimiter_from, delimiter_at, delimiter_for, may_end, line_from, Place, line_start, within, join_at_start, join_within, kept_byte, last_line, or_further, with_byte, is_start, join_of, behind_byte, body_from, body_at}
use Rattle.sh_grammar.proofs.Tools.{If, then, chosen, chosen_by}
use Rattle.sh_printing.specs.Spellable.{is_unjoined}
use Rattle.sh_printing.proofs.BackBytes.{both}
use Rattle.sh_printing.proofs.ExactStates.{is_lines, Unjoined, Clean}
use Rattle.sh_printing.proofs.ExactTails.{Tails, Rest}

-- ---- ends of texts without joins

unjoined_tail : (q : Bool) (b : ℕ) (bs : Text) → is_unjoined q (b ∷ bs) ≡ true → Unjoined bs
unjoined_tail true b bs e = (false, e)
unjoined_tail false b bs e = (b == 92, (both (not (is_join b bs)) (is_unjoined (b == 92) bs) e).1)

lines_tail : (b : ℕ) (bs : Text) → is_lines (b ∷ bs) ≡ true → is_lines bs ≡ true
lines_tail b [] e = refl
lines_tail b (c ∷ cs) e = e

pub unjoined_tails : Tails Unjoined
unjoined_tails b bs h = unjoined_tail h.0 b bs h.1

pub clean_tails : (i : Bool) → Tails (Clean i)
clean_tails false b bs h = tt
clean_tails true b bs h = (unjoined_tails b bs h.0, lines_tail b bs h.1)

-- behind a byte that is no backslash
after_at : (q : Bool) (b : ℕ) (bs : Text) → is_unjoined q (b ∷ bs) ≡ true → (b == 92) ≡ false → is_unjoined false bs ≡ true
after_at true b bs e n = e
after_at false b bs e n = subst (λ (z : Bool). is_unjoined z bs ≡ true) n (both (not (is_join b bs)) (is_unjoined (b == 92) bs) e).1

pub unjoined_after : (b : ℕ) (bs : Text) → Unjoined (b ∷ bs) → (b == 92) ≡ false → is_unjoined false bs ≡ true
unjoined_after b bs h n = after_at h.0 b bs h.1 n

-- ---- what delimiters leave

quoted_ends : (P : Text → Type 0) (o : Read) → If (Rest {A = Text × Bool} P) o → If (Rest {A = Text × Bool} P) (quoted o)
quoted_ends P None h = tt
quoted_ends P (Some x) h = h

with_ends : (P : Text → Type 0) (b : ℕ) (o : Read) → If (Rest {A = Text × Bool} P) o → If (Rest {A = Text × Bool} P) (with b o)
with_ends P b None h = tt
with_ends P b (Some x) h = h

delimiter_from_ends : (P : Text → Type 0) → Tails P → (m : Mode) (t : Text) → P t → If (Rest {A = Text × Bool} P) (delimiter_from m t)
unfolding delimiter_from
delimiter_from_ends P k bare [] h = h
delimiter_from_ends P k bare (b ∷ bs) h =
    let R = If (Rest {A = Text × Bool} P) in let i = k b bs h in
    chosen R (is_join b bs) _ _ (delimiter_from_ends P k joined bs i)
    (chosen R (b == 39) _ _ (quoted_ends P (delimiter_from single bs) (delimiter_from_ends P k single bs i))
    (chosen R (b == 34) _ _ (quoted_ends P (delimiter_from doubled bs) (delimiter_from_ends P k doubled bs i))
    (chosen R (b == 92) _ _ (quoted_ends P (delimiter_from kept bs) (delimiter_from_ends P k kept bs i))
    (chosen R (b == 36 && opens_expansion bs) _ _ tt
    (chosen R (is_plain in_word b || b == 36) _ _ (with_ends P b (delimiter_from bare bs) (delimiter_from_ends P k bare bs i)) h)))))
delimiter_from_ends P k single [] h = tt
delimiter_from_ends P k single (b ∷ bs) h =
    let R = If (Rest {A = Text × Bool} P) in let i = k b bs h in
    chosen R (b == 39) _ _ (delimiter_from_ends P k bare bs i) (chosen R (b == 10 || b == 0) _ _ tt (with_ends P b (delimiter_from single bs) (delimiter_from_ends P k single bs i)))
delimiter_from_ends P k doubled [] h = tt
delimiter_from_ends P k doubled (b ∷ bs) h =
    let R = If (Rest {A = Text × Bool} P) in let i = k b bs h in
    chosen R (is_join b bs) _ _ (delimiter_from_ends P k joined_doubled bs i)
    (chosen R (b == 34) _ _ (delimiter_from_ends P k bare bs i)
    (chosen R (b == 92) _ _ (delimiter_from_ends P k kept_doubled bs i)
    (chosen R (b == 96 || b == 10 || b == 0) _ _ tt (with_ends P b (delimiter_from doubled bs) (delimiter_from_ends P k doubled bs i)))))
delimiter_from_ends P k kept [] h = tt
delimiter_from_ends P k kept (b ∷ bs) h =
    chosen (If (Rest {A = Text × Bool} P)) (b == 0) _ _ tt (with_ends P b (delimiter_from bare bs) (delimiter_from_ends P k bare bs (k b bs h)))
delimiter_from_ends P k kept_doubled [] h = tt
delimiter_from_ends P k kept_doubled (b ∷ bs) h =
    let R = If (Rest {A = Text × Bool} P) in
    let d = delimiter_from doubled bs in
    let i = with_ends P b d (delimiter_from_ends P k doubled bs (k b bs h)) in
    chosen R (b == 0) _ _ tt (chosen R (is_escaped in_double b) _ _ i (with_ends P 92 (with b d) i))
delimiter_from_ends P k joined [] h = tt
delimiter_from_ends P k joined (b ∷ bs) h = delimiter_from_ends P k bare bs (k b bs h)
delimiter_from_ends P k joined_doubled [] h = tt
delimiter_from_ends P k joined_doubled (b ∷ bs) h = delimiter_from_ends P k doubled bs (k b bs h)

pub delimiter_ends : (P : Text → Type 0) → Tails P → (strips : Bool) (t : Text) → P t → If (Rest {A = Text × Bool} P) (delimiter_for strips t)
unfolding delimiter_for delimiter_at
delimiter_ends P k strips t h =
    then (Rest {A = Text × Bool} P) (Rest {A = Text × Bool} P) (cond (unit_starts in_word t) (delimiter_from bare t) None) (may_end strips) (chosen (If (Rest {A = Text × Bool} P)) (unit_starts in_word t) _ _ (delimiter_from_ends P k bare t h) tt)
    (λ d i. chosen (If (Rest {A = Text × Bool} P)) (strips && starts (λ b. b == 9) d.0.0) None (Some d) tt i)

-- ---- what bodies leave

-- what holds behind a last line: of each end that stands behind a newline
record Behind (P Q : Text → Type 0) : Type 0 where
  tails : Tails P
  line : (bs : Text) → P (10 ∷ bs) → Q bs
  nothing : Q []

newline_behind : (P Q : Text → Type 0) → Behind P Q → (b : ℕ) (bs : Text) → P (b ∷ bs) → (b == 10) ≡ true → Q bs
newline_behind P Q k b bs h e = k.line bs (subst (λ (z : ℕ). P (z ∷ bs)) (eqb-true b 10 e) h)

line_ends : (P Q : Text → Type 0) → Behind P Q → (literal taken : Bool) (name t : Text) → P t → If Q (line_from literal taken name t)
line_ends P Q k literal true [] [] h = k.nothing
line_ends P Q k literal false [] [] h = k.nothing
line_ends P Q k literal true (d ∷ ds) [] h = tt
line_ends P Q k literal false (d ∷ ds) [] h = tt
line_ends P Q k literal true [] (b ∷ bs) h = line_ends P Q k literal false [] bs (k.tails b bs h)
line_ends P Q k literal true (d ∷ ds) (b ∷ bs) h = line_ends P Q k literal false (d ∷ ds) bs (k.tails b bs h)
line_ends P Q k literal false [] (b ∷ bs) h =
    chosen (If Q) (not literal && is_join b bs) _ _ (line_ends P Q k literal true [] bs (k.tails b bs h)) (chosen_by (If Q) (b == 10) _ _ (λ e. newline_behind P Q k b bs h e) (λ e. tt))
line_ends P Q k literal false (d ∷ ds) (b ∷ bs) h =
    chosen (If Q) (not literal && is_join b bs) _ _ (line_ends P Q k literal true (d ∷ ds) bs (k.tails b bs h)) (chosen (If Q) (d == b) _ _ (line_ends P Q k literal false ds bs (k.tails b bs h)) tt)

last_ends : (P Q : Text → Type 0) → Behind P Q → (o : Owed) (p : Place) (t : Text) → P t → If Q (last_line o p t)
last_ends P Q k o line_start t h = line_ends P Q k o.literal false o.delimiter t h
last_ends P Q k o within t h = tt
last_ends P Q k o join_at_start t h = tt
last_ends P Q k o join_within t h = tt
last_ends P Q k o kept_byte t h = tt

further_ends : (Q : Text → Type 0) (o : Option Text) (p : Option (Text × Text)) → If Q o → If (Rest {A = Text} Q) p → If (Rest {A = Text} Q) (or_further o p)
further_ends Q None p h i = i
further_ends Q (Some x) p h i = h

with_byte_ends : (Q : Text → Type 0) (b : ℕ) (o : Option (Text × Text)) → If (Rest {A = Text} Q) o → If (Rest {A = Text} Q) (with_byte b o)
with_byte_ends Q b None h = tt
with_byte_ends Q b (Some x) h = h

bytes_end : (P Q : Text → Type 0) → Behind P Q → (o : Owed) (p : Place) (b : ℕ) (bs : Text) → ((q : Place) → If (Rest {A = Text} Q) (body_from o q bs)) →
    If (Rest {A = Text} Q) (cond (b == 0) None (cond (not o.literal && is_join b bs) (body_from o (join_of p) bs) (cond (o.strips && is_start p && b == 9) (body_from o p bs) (with_byte b (body_from o (behind_byte o.literal b) bs)))))
bytes_end P Q k o p b bs further =
    let R = If (Rest {A = Text} Q) in
    chosen R (b == 0) _ _ tt
    (chosen R (not o.literal && is_join b bs) _ _ (further (join_of p))
    (chosen R (o.strips && is_start p && b == 9) _ _ (further p) (with_byte_ends Q b (body_from o (behind_byte o.literal b) bs) (further (behind_byte o.literal b)))))

body_from_ends : (P Q : Text → Type 0) → Behind P Q → (o : Owed) (p : Place) (t : Text) → P t → If (Rest {A = Text} Q) (body_from o p t)
unfolding body_from
body_from_ends P Q k o line_start [] h = tt
body_from_ends P Q k o within [] h = tt
body_from_ends P Q k o join_at_start [] h = tt
body_from_ends P Q k o join_within [] h = tt
body_from_ends P Q k o kept_byte [] h = tt
body_from_ends P Q k o join_at_start (b ∷ bs) h = body_from_ends P Q k o line_start bs (k.tails b bs h)
body_from_ends P Q k o join_within (b ∷ bs) h = body_from_ends P Q k o within bs (k.tails b bs h)
body_from_ends P Q k o kept_byte (b ∷ bs) h = chosen (If (Rest {A = Text} Q)) (b == 0) _ _ tt (with_byte_ends Q b (body_from o within bs) (body_from_ends P Q k o within bs (k.tails b bs h)))
body_from_ends P Q k o line_start (b ∷ bs) h =
    further_ends Q (last_line o line_start (b ∷ bs)) _ (last_ends P Q k o line_start (b ∷ bs) h) (bytes_end P Q k o line_start b bs (λ q. body_from_ends P Q k o q bs (k.tails b bs h)))
body_from_ends P Q k o within (b ∷ bs) h =
    further_ends Q (last_line o within (b ∷ bs)) _ (last_ends P Q k o within (b ∷ bs) h) (bytes_end P Q k o within b bs (λ q. body_from_ends P Q k o q bs (k.tails b bs h)))

pub nothing_of : (P : Text → Type 0) → Tails P → (t : Text) → P t → P []
nothing_of P k [] h = h
nothing_of P k (b ∷ bs) h = nothing_of P k bs (k b bs h)

pub body_ends : (P : Text → Type 0) → Tails P → (o : Owed) (t : Text) → P t → If (Rest {A = Text} P) (body_at o t)
unfolding body_at
body_ends P k o t h = body_from_ends P P (record { tails = k; line = λ bs i. k 10 bs i; nothing = nothing_of P k t h }) o line_start t h

-- behind a body no backslash stands
pub body_unjoined : (o : Owed) (t : Text) → Unjoined t → If (Rest {A = Text} (λ z. is_unjoined false z ≡ true)) (body_at o t)
unfolding body_at
body_unjoined o t h = body_from_ends Unjoined (λ z. is_unjoined false z ≡ true) (record { tails = unjoined_tails; line = λ bs i. unjoined_after 10 bs i refl; nothing = refl }) o line_start t h
