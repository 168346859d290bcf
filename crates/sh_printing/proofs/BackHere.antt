-- Here-documents read back: bodies and their delimiters.
use Rattle.std.proofs.Common.{◌≡◌, ℕ, ◌+◌, ◌-◌, Bool, true, false, [], ◌∷◌, ◌++◌, Option, Some, None, refl, sym, ap, subst, ◌∙◌}
use Rattle.std.specs.Prelude.{◌||◌, ◌&&◌, not, ◌==◌}
use Rattle.std.specs.List.{list_all}
use Rattle.std.proofs.lemmas.Bool.{true≢false, false≢true}
use Rattle.std.proofs.Common as common
use Rattle.span_text.proofs.Bytes.{apart}
use Rattle.sh_grammar.specs.Bytes.{Text, is_join}
use Rattle.sh_grammar.specs.Bodies.{Owed, line_from, Place, line_start, within, kept_byte, last_line, behind_byte, body_from, body_at}
use Rattle.sh_printing.specs.Delimiters.{Sight, is_whole, one_more, next_sight, sight, first_sight, has_found, has_line}
use Rattle.sh_printing.specs.Spellable.{ends_with, is_unjoined, keeps}
use Rattle.sh_printing.specs.Printable.{is_body_byte}
use Rattle.sh_printing.proofs.BackBytes.{both, isnt, neither, no_join}

-- a byte of a delimiter: no newline, no backslash
abbrev pub is_mark : ℕ → Bool
is_mark b = not (b == 10 || b == 92)

-- ---- a line that was seen stays seen

abbrev SeenStays : Text → Text → Type 0
SeenStays name bs = (r : Option Text) → (sight name (record { rest = r; found = true }) bs).found ≡ true

kept_found_at : (name : Text) (r : Option Text) (b : ℕ) (bs : Text) (p : Bool) → (b == 10) ≡ p → SeenStays name bs → (sight name (next_sight name (record { rest = r; found = true }) b) bs).found ≡ true
kept_found_at name r b bs true e h = rw e (h (Some name))
kept_found_at name r b bs false e h = rw e (h (one_more b r))

kept_found : (name : Text) (t : Text) → SeenStays name t
unfolding sight
kept_found name [] r = refl
kept_found name (b ∷ bs) r = kept_found_at name r b bs (b == 10) refl (kept_found name bs)

-- ---- no line is the delimiter

ends_more : (b : ℕ) (t : Text) → ends_with 10 (b ∷ t) ≡ true → (b == 10) ≡ false → ends_with 10 t ≡ true
ends_more b [] e n = absurd (true≢false (sym e ∙ n))
ends_more b (c ∷ cs) e n = e

-- the last byte makes no join with what follows it
last_join : (b : ℕ) (t z : Text) → ends_with 10 (b ∷ t) ≡ true → is_join b t ≡ false → is_join b (t ++ z) ≡ false
last_join b [] z e j = no_join b z (apart (λ x. x == 10) b 92 e refl)
last_join b (c ∷ cs) z e j = j

-- a byte that stands in no join, by how the body is read
no_join_in : (lit : Bool) (b : ℕ) (t z : Text) → ends_with 10 (b ∷ t) ≡ true → keeps (not lit) (b ∷ t) ≡ true → (not lit && is_join b (t ++ z)) ≡ false
no_join_in true b t z e u = refl
no_join_in false b t z e u = last_join b t z e (isnt (is_join b t) (both (not (is_join b t)) (is_unjoined (b == 92) t) u).0)

-- behind a byte that is no backslash
keeps_on : (lit : Bool) (b : ℕ) (t : Text) → (b == 92) ≡ false → keeps (not lit) (b ∷ t) ≡ true → keeps (not lit) t ≡ true
keeps_on true b t n u = refl
keeps_on false b t n u = subst (λ (x : Bool). is_unjoined x t ≡ true) n (both (not (is_join b t)) (is_unjoined (b == 92) t) u).1

last_true : (a : Bool) → (a || true) ≡ true
last_true true = refl
last_true false = refl

-- what is said of the text behind a byte of a line
abbrev NoLine : Bool → Text → Text → Text → Type 0
NoLine lit name z t = (r : Text) (f : Bool) → list_all is_mark r ≡ true → ends_with 10 t ≡ true → keeps (not lit) t ≡ true → (sight name (record { rest = Some r; found = f }) t).found ≡ false → line_from lit false r (t ++ z) ≡ None

line_over : (lit : Bool) (name z : Text) (b : ℕ) (bs : Text) (f p : Bool) → (b == 10) ≡ p → ends_with 10 (b ∷ bs) ≡ true → keeps (not lit) (b ∷ bs) ≡ true → (sight name (record { rest = Some []; found = f }) (b ∷ bs)).found ≡ false → line_from lit false [] ((b ∷ bs) ++ z) ≡ None
unfolding sight
line_over lit name z b bs f true e n u s =
    let k : (sight name (record { rest = Some name; found = true }) bs).found ≡ true = kept_found name bs (Some name) in
    let t : (sight name (record { rest = Some name; found = f || true }) bs).found ≡ false = subst (λ (x : Bool). (sight name (Rattle.std.specs.Prelude.if◌then◌else◌ x (record { rest = Some name; found = f || true }) (record { rest = one_more b (Some []); found = f })) bs).found ≡ false) e s in
    absurd (false≢true (sym (subst (λ (x : Bool). (sight name (record { rest = Some name; found = x }) bs).found ≡ false) (last_true f) t) ∙ k))
line_over lit name z b bs f false e n u s = rw (no_join_in lit b bs z n u, e) refl

line_differs : (lit : Bool) (name z : Text) (c : ℕ) (cs : Text) (b : ℕ) (bs : Text) (f p : Bool) → (c == b) ≡ p → NoLine lit name z bs → list_all is_mark (c ∷ cs) ≡ true → ends_with 10 (b ∷ bs) ≡ true → keeps (not lit) (b ∷ bs) ≡ true → (sight name (record { rest = Some (c ∷ cs); found = f }) (b ∷ bs)).found ≡ false → line_from lit false (c ∷ cs) ((b ∷ bs) ++ z) ≡ None
unfolding sight
line_differs lit name z c cs b bs f true e h m n u s =
    let x = both (is_mark c) (list_all is_mark cs) m in
    let is : c ≡ b = common.eqb-true c b e in
    let mb : is_mark b ≡ true = subst (λ (y : ℕ). is_mark y ≡ true) is x.0 in
    let n10 : (b == 10) ≡ false = apart is_mark b 10 mb refl in
    let n92 : (b == 92) ≡ false = apart is_mark b 92 mb refl in
    let y : next_sight name (record { rest = Some (c ∷ cs); found = f }) b ≡ record { rest = Some cs; found = f } = rw (n10, e) refl in
    let k : (sight name (record { rest = Some (c ∷ cs); found = f }) (b ∷ bs)).found ≡ (sight name (record { rest = Some cs; found = f }) bs).found = ap (λ (v : Sight). (sight name v bs).found) y in
    rw (no_join_in lit b bs z n u, e) (h cs f x.1 (ends_more b bs n n10) (keeps_on lit b bs n92 u) (sym k ∙ s))
line_differs lit name z c cs b bs f false e h m n u s = rw (no_join_in lit b bs z n u, e) refl

-- a line of a body isn't its delimiter
no_line : (lit : Bool) (name z t : Text) → NoLine lit name z t
no_line lit name z [] r f m e u s = absurd (false≢true e)
no_line lit name z (b ∷ bs) [] f m e u s = line_over lit name z b bs f (b == 10) refl e u s
no_line lit name z (b ∷ bs) (c ∷ cs) f m e u s = line_differs lit name z c cs b bs f (c == b) refl (no_line lit name z bs) m e u s

-- the delimiter's line
mark_join : (lit : Bool) (b : ℕ) (bs : Text) → (b == 92) ≡ false → (not lit && is_join b bs) ≡ false
mark_join true b bs e = refl
mark_join false b bs e = no_join b bs e

line_is : (lit : Bool) (name z : Text) → list_all is_mark name ≡ true → line_from lit false name (name ++ 10 ∷ z) ≡ Some z
line_is lit [] z m = rw (mark_join lit 10 z refl) refl
line_is lit (c ∷ cs) z m =
    let x = both (is_mark c) (list_all is_mark cs) m in
    rw (mark_join lit c (cs ++ 10 ∷ z) (apart is_mark c 92 x.0 refl), Rattle.std.proofs.lemmas.Bool.eq-eqb c c refl) (line_is lit cs z x.1)

-- ---- a body up to its delimiter's line

abbrev owed_by : Bool → Text → Owed
owed_by lit name = record { delimiter = name; literal = lit; strips = false }

abbrev place_by : (first : Bool) → Place
place_by true = line_start
place_by false = within

-- at the beginning of a line nothing may be left, else lines
abbrev lines_left : (first : Bool) → Text → Bool
lines_left first [] = first
lines_left first (b ∷ bs) = ends_with 10 (b ∷ bs)

lines_any : (first : Bool) (t : Text) → ends_with 10 t ≡ true → lines_left first t ≡ true
lines_any first [] e = absurd (false≢true e)
lines_any first (b ∷ bs) e = e

-- the rest of a body is read
abbrev Reads : Bool → Text → Text → Text → Type 0
Reads lit name z t = (first : Bool) (r : Option Text) (f : Bool) → lines_left first t ≡ true → list_all is_body_byte t ≡ true → keeps (not lit) t ≡ true → (first ≡ true → r ≡ Some name) → (sight name (record { rest = r; found = f }) t).found ≡ false →
    body_from (owed_by lit name) (place_by first) (t ++ (name ++ 10 ∷ z)) ≡ Some (t, z)

end_reads : (lit : Bool) (name z : Text) → list_all is_mark name ≡ true → body_from (owed_by lit name) line_start (name ++ 10 ∷ z) ≡ Some ([], z)
unfolding body_from
end_reads lit [] z m = rw (line_is lit [] z m) refl
end_reads lit (c ∷ cs) z m = rw (line_is lit (c ∷ cs) z m) refl

-- behind a byte
abbrev Next : Bool → Text → Text → Text → ℕ → Type 0
Next lit name z t b = body_from (owed_by lit name) (behind_byte lit b) (t ++ (name ++ 10 ∷ z)) ≡ Some (t, z)

-- where no line of the rest is the delimiter
not_last : (lit : Bool) (name z t : Text) (first : Bool) (r : Option Text) (f : Bool) → list_all is_mark name ≡ true → ends_with 10 t ≡ true → keeps (not lit) t ≡ true → (first ≡ true → r ≡ Some name) → (sight name (record { rest = r; found = f }) t).found ≡ false →
    last_line (owed_by lit name) (place_by first) (t ++ z) ≡ None
not_last lit name z t true r f m e u w s = no_line lit name z t name f m e u (subst (λ (x : Option Text). (sight name (record { rest = x; found = f }) t).found ≡ false) (w refl) s)
not_last lit name z t false r f m e u w s = refl

byte_reads : (lit : Bool) (name z : Text) (b : ℕ) (bs : Text) (first : Bool) → (b == 0) ≡ false → (not lit && is_join b (bs ++ (name ++ 10 ∷ z))) ≡ false → last_line (owed_by lit name) (place_by first) ((b ∷ bs) ++ (name ++ 10 ∷ z)) ≡ None → Next lit name z bs b →
    body_from (owed_by lit name) (place_by first) ((b ∷ bs) ++ (name ++ 10 ∷ z)) ≡ Some (b ∷ bs, z)
unfolding body_from
byte_reads lit name z b bs true n j l h = rw (l, n, j, h) refl
byte_reads lit name z b bs false n j l h = rw (n, j, h) refl

-- what was seen behind a byte
newline_seen : (name : Text) (r : Option Text) (f : Bool) (b : ℕ) (bs : Text) → (b == 10) ≡ true → (sight name (record { rest = r; found = f }) (b ∷ bs)).found ≡ (sight name (record { rest = Some name; found = f || is_whole r }) bs).found
unfolding sight
newline_seen name r f b bs e = let y : next_sight name (record { rest = r; found = f }) b ≡ record { rest = Some name; found = f || is_whole r } = rw e refl in ap (λ (v : Sight). (sight name v bs).found) y

byte_seen : (name : Text) (r : Option Text) (f : Bool) (b : ℕ) (bs : Text) → (b == 10) ≡ false → (sight name (record { rest = r; found = f }) (b ∷ bs)).found ≡ (sight name (record { rest = one_more b r; found = f }) bs).found
unfolding sight
byte_seen name r f b bs e = let y : next_sight name (record { rest = r; found = f }) b ≡ record { rest = one_more b r; found = f } = rw e refl in ap (λ (v : Sight). (sight name v bs).found) y

-- behind a backslash that quotes
kept_next : (lit : Bool) (name z : Text) (c : ℕ) (cs : Text) → (c == 0) ≡ false → body_from (owed_by lit name) within (cs ++ (name ++ 10 ∷ z)) ≡ Some (cs, z) → body_from (owed_by lit name) kept_byte ((c ∷ cs) ++ (name ++ 10 ∷ z)) ≡ Some (c ∷ cs, z)
unfolding body_from
kept_next lit name z c cs n h = rw (n, h) refl

-- the byte is a newline, a backslash that quotes, or another
next_newline : (lit : Bool) (name z : Text) (b : ℕ) (bs : Text) (r : Option Text) (f : Bool) → (b == 10) ≡ true → Reads lit name z bs → lines_left true bs ≡ true → list_all is_body_byte bs ≡ true → keeps (not lit) bs ≡ true → (sight name (record { rest = r; found = f }) (b ∷ bs)).found ≡ false → Next lit name z bs b
next_newline lit name z b bs r f e h l a u s = rw e (h true (Some name) (f || is_whole r) l a u (λ k. refl) (sym (newline_seen name r f b bs e) ∙ s))

next_plain : (lit : Bool) (name z : Text) (b : ℕ) (bs : Text) (r : Option Text) (f : Bool) → (b == 10) ≡ false → (b == 92 && not lit) ≡ false → Reads lit name z bs → lines_left false bs ≡ true → list_all is_body_byte bs ≡ true → keeps (not lit) bs ≡ true → (sight name (record { rest = r; found = f }) (b ∷ bs)).found ≡ false → Next lit name z bs b
next_plain lit name z b bs r f e q h l a u s = rw (e, q) (h false (one_more b r) f l a u (λ k. absurd (false≢true k)) (sym (byte_seen name r f b bs e) ∙ s))

next_kept : (name z : Text) (b c : ℕ) (cs : Text) (r : Option Text) (f : Bool) → (b == 10) ≡ false → (b == 92) ≡ true → (c == 10) ≡ false → (c == 0) ≡ false → Reads false name z cs → lines_left false cs ≡ true → list_all is_body_byte cs ≡ true → is_unjoined false cs ≡ true → (sight name (record { rest = r; found = f }) (b ∷ c ∷ cs)).found ≡ false → Next false name z (c ∷ cs) b
next_kept name z b c cs r f e q k n h l a u s =
    rw (e, q) (kept_next false name z c cs n (h false (one_more c (one_more b r)) f l a u (λ k. absurd (false≢true k)) (sym (byte_seen name (one_more b r) f c cs k) ∙ sym (byte_seen name r f b (c ∷ cs) e) ∙ s)))

body_byte : (b : ℕ) (bs : Text) → list_all is_body_byte (b ∷ bs) ≡ true → ((b == 0) ≡ false) × (list_all is_body_byte bs ≡ true)
body_byte b bs a = let x = both (is_body_byte b) (list_all is_body_byte bs) a in (isnt (b == 0) x.0, x.1)

reads_on : (lit : Bool) (name z : Text) (b : ℕ) (bs : Text) (first : Bool) (r : Option Text) (f : Bool) → list_all is_mark name ≡ true → ends_with 10 (b ∷ bs) ≡ true → list_all is_body_byte (b ∷ bs) ≡ true → keeps (not lit) (b ∷ bs) ≡ true → (first ≡ true → r ≡ Some name) → (sight name (record { rest = r; found = f }) (b ∷ bs)).found ≡ false →
    Next lit name z bs b → body_from (owed_by lit name) (place_by first) ((b ∷ bs) ++ (name ++ 10 ∷ z)) ≡ Some (b ∷ bs, z)
reads_on lit name z b bs first r f m e a u w s n =
    byte_reads lit name z b bs first (body_byte b bs a).0 (no_join_in lit b bs (name ++ 10 ∷ z) e u) (not_last lit name (name ++ 10 ∷ z) (b ∷ bs) first r f m e u w s) n

-- behind a newline a body may go on, or end
newline_keeps : (lit : Bool) (b : ℕ) (bs : Text) → (b == 10) ≡ true → keeps (not lit) (b ∷ bs) ≡ true → keeps (not lit) bs ≡ true
newline_keeps lit b bs e u = keeps_on lit b bs (apart (λ x. x == 10) b 92 e refl) u

ends_left : (b : ℕ) (bs : Text) → ends_with 10 (b ∷ bs) ≡ true → lines_left true bs ≡ true
ends_left b [] e = refl
ends_left b (c ∷ cs) e = e

-- a byte that isn't the last one
abbrev Choice : Bool → Text → Text → ℕ → ℕ → Text → Option Text → Bool → Type 0
Choice lit name z b c cs r f = Reads lit name z (c ∷ cs) → Reads lit name z cs → ends_with 10 (b ∷ c ∷ cs) ≡ true → list_all is_body_byte (b ∷ c ∷ cs) ≡ true → keeps (not lit) (b ∷ c ∷ cs) ≡ true → (sight name (record { rest = r; found = f }) (b ∷ c ∷ cs)).found ≡ false → Next lit name z (c ∷ cs) b

choose_by : (p q : Bool) (lit : Bool) (name z : Text) (b c : ℕ) (cs : Text) (r : Option Text) (f : Bool) → (b == 10) ≡ p → (b == 92) ≡ q → Choice lit name z b c cs r f
choose_by true q lit name z b c cs r f e k h i l a u s = next_newline lit name z b (c ∷ cs) r f e h l (body_byte b (c ∷ cs) a).1 (newline_keeps lit b (c ∷ cs) e u) s
choose_by false false lit name z b c cs r f e k h i l a u s = next_plain lit name z b (c ∷ cs) r f e (rw k refl) h l (body_byte b (c ∷ cs) a).1 (keeps_on lit b (c ∷ cs) k u) s
choose_by false true true name z b c cs r f e k h i l a u s = next_plain true name z b (c ∷ cs) r f e (rw k refl) h l (body_byte b (c ∷ cs) a).1 refl s
choose_by false true false name z b c cs r f e k h i l a u s =
    let x = both (not (is_join b (c ∷ cs))) (is_unjoined (b == 92) (c ∷ cs)) u in
    let j : (b == 92 && c == 10) ≡ false = isnt (b == 92 && c == 10) x.0 in
    let n : (c == 10) ≡ false = subst (λ (y : Bool). (y && c == 10) ≡ false) k j in
    let v : is_unjoined true (c ∷ cs) ≡ true = subst (λ (y : Bool). is_unjoined y (c ∷ cs) ≡ true) k x.1 in
    let y = body_byte c cs (body_byte b (c ∷ cs) a).1 in
    next_kept name z b c cs r f e k n y.0 i (lines_any false cs (ends_more c cs l n)) y.1 v s

body_reads : (lit : Bool) (name z t : Text) → list_all is_mark name ≡ true → Reads lit name z t
body_reads lit name z [] m true r f l a u w s = end_reads lit name z m
body_reads lit name z [] m false r f l a u w s = absurd (false≢true l)
body_reads lit name z (b ∷ []) m first r f l a u w s =
    reads_on lit name z b [] first r f m l a u w s (next_newline lit name z b [] r f l (body_reads lit name z [] m) refl refl (newline_keeps lit b [] l u) s)
body_reads lit name z (b ∷ c ∷ cs) m first r f l a u w s =
    reads_on lit name z b (c ∷ cs) first r f m l a u w s (choose_by (b == 10) (b == 92) lit name z b c cs r f refl refl (body_reads lit name z (c ∷ cs) m) (body_reads lit name z cs m) l a u s)

-- a body that is empty or has lines
abbrev pub is_lines : Text → Bool
is_lines [] = true
is_lines (b ∷ bs) = ends_with 10 (b ∷ bs)

lines_from : (t : Text) → is_lines t ≡ true → lines_left true t ≡ true
lines_from [] e = refl
lines_from (b ∷ bs) e = e

found_or : (s : Sight) → has_found s ≡ false → s.found ≡ false
found_or s e = (neither s.found (is_whole s.rest) e).0

-- A BODY, whose delimiter is none of its lines
pub body_back : (lit : Bool) (name body z : Text) → list_all is_mark name ≡ true → is_lines body ≡ true → list_all is_body_byte body ≡ true → keeps (not lit) body ≡ true → has_line name body ≡ false →
    body_at (record { delimiter = name; literal = lit; strips = false }) (body ++ (name ++ 10 ∷ z)) ≡ Some (body, z)
unfolding body_at
body_back lit name body z m l a u h = body_reads lit name z body m true (Some name) false (lines_from body l) a u (λ k. refl) (found_or (sight name (first_sight name) body) h)
