-- What has been gone over of a text, and what is left of it.
use Rattle.std.proofs.Common.{◌≡◌, ℕ, suc, Result, Ok, Err, IfOk, Option, Some, None, ◌+◌, ◌-◌, ◌<◌, ◌^◌, Bool, true, false, max, min, [], ◌∷◌, ◌++◌, refl, sym, ap, subst, ◌∙◌, append_assoc, append-nil, arith}
use Rattle.sh_grammar.specs.Bytes.{Text}
use Rattle.sh_printer.specs.Covers.{Covers, CoversLines, ends_line}
use Rattle.sh_printing.specs.Delimiters.{Sight, delimiter, first_sight, free_from, goes_on, has_line, numbered, sight, tries}
use Rattle.sh_printing.specs.Marks.{whole_body}
use Rattle.sh_printer.specs.Pieces.{here_text}
use Rattle.sh_printer.specs.Search.{rest_of, sight_of, Passed}
use Rattle.sh_printer.specs.declared.search.Search.{Search}
use Rattle.sh_printer.proofs.Covers.{covers_as, covers_free, covers_none, covers_then, free_end, free_more, free_stop}
use Rattle.sh_printer.proofs.Lines.{Keeps, Without, keeps, no_newline, without_append}
use Rattle.sh_printer.proofs.Numbers.{covers_operator, free_bound, lines_closed, lines_none, lines_open, lines_then}

-- of a text, this rest is left
pub record Gathered (whole rest : Bool → Text) (from to : ℕ) : Type 0 where
  pub front : Bool → Text
  pub covers : Covers (front true) (front false) from to
  pub is : (full : Bool) → front full ++ rest full ≡ whole full

pub gathered_none : (whole : Bool → Text) (i : ℕ) → Gathered whole whole i i
gathered_none whole i = record { front = λ full. []; covers = covers_none [] i; is = λ full. refl }

pub gathered_more : (whole rest x left : Bool → Text) (i j k : ℕ) → Gathered whole rest i j → Covers (x true) (x false) j k → ((full : Bool) → x full ++ left full ≡ rest full) → Gathered whole left i k
gathered_more whole rest x left i j k g c is = record {
  front = λ full. g.front full ++ x full;
  covers = covers_then (g.front true) (g.front false) (x true) (x false) i j k g.covers c;
  is = λ full. append_assoc (g.front full) (x full) (left full) ∙ ap (λ (text : Text). g.front full ++ text) (is full) ∙ g.is full;
}

pub gathered_done : (whole rest : Bool → Text) (i j k : ℕ) → Gathered whole rest i j → Covers (rest true) (rest false) j k → Covers (whole true) (whole false) i k
gathered_done whole rest i j k g c = covers_as (g.front true ++ rest true) (g.front false ++ rest false) (whole true) (whole false) i k (covers_then (g.front true) (g.front false) (rest true) (rest false) i j k g.covers c) (g.is true) (g.is false)

-- the same of whole lines
pub record GatheredLines (whole rest : Bool → Text) (from to : ℕ) : Type 0 where
  pub front : Bool → Text
  pub lines : CoversLines (front true) (front false) from to
  pub is : (full : Bool) → front full ++ rest full ≡ whole full

pub lines_start : (whole : Bool → Text) (i : ℕ) → GatheredLines whole whole i i
lines_start whole i = record { front = λ full. []; lines = lines_none i; is = λ full. refl }

pub lines_more : (whole rest x left : Bool → Text) (i j k : ℕ) → GatheredLines whole rest i j → CoversLines (x true) (x false) j k → ((full : Bool) → x full ++ left full ≡ rest full) → GatheredLines whole left i k
lines_more whole rest x left i j k g c is = record {
  front = λ full. g.front full ++ x full;
  lines = lines_then (g.front true) (g.front false) (x true) (x false) i j k g.lines c;
  is = λ full. append_assoc (g.front full) (x full) (left full) ∙ ap (λ (text : Text). g.front full ++ text) (is full) ∙ g.is full;
}

pub lines_as : (x y u v : Text) (i j : ℕ) → CoversLines x y i j → x ≡ u → y ≡ v → CoversLines u v i j
lines_as x y u v i j p e f = rw (sym e, sym f) p

pub lines_all : (whole rest : Bool → Text) (i j : ℕ) → GatheredLines whole rest i j → ((full : Bool) → rest full ≡ []) → CoversLines (whole true) (whole false) i j
lines_all whole rest i j g none = lines_as (g.front true) (g.front false) (whole true) (whole false) i j g.lines (front_is true) (front_is false)
  where
    front_is : (full : Bool) → g.front full ≡ whole full
    front_is full = sym (append-nil (g.front full)) ∙ ap (λ (text : Text). g.front full ++ text) (sym (none full)) ∙ g.is full

-- ---- a here-document's operator

here_covers : (quoted : Bool) (d e : Text) (i : ℕ) → Without 10 d → Without 10 e → Covers (here_text quoted d) (here_text quoted e) i i
here_covers true d e i w v = covers_operator (60 ∷ 39 ∷ d ++ 39 ∷ []) (60 ∷ 39 ∷ e ++ 39 ∷ []) i (refl, (refl, without_append 10 d (39 ∷ []) w (refl, tt))) (refl, (refl, without_append 10 e (39 ∷ []) v (refl, tt)))
here_covers false d e i w v = covers_operator (60 ∷ d) (60 ∷ e) i (refl, w) (refl, v)

least_small : (x : Text) → free_from tries 0 x < 2 ^ 64
least_small x = let p = free_bound tries 0 x in omega (arith, p.1)

pub covers_here : (quoted : Bool) (x : Text) (i : ℕ) → Covers (here_text quoted (delimiter x)) (here_text quoted (32 ∷ [])) i i
unfolding delimiter
covers_here quoted x i = here_covers quoted (delimiter x) (32 ∷ []) i (no_newline (free_from tries 0 x) (least_small x)) (refl, tt)

-- ---- a body

-- the number of a body's delimiter, found behind those inside of it
pub least_is : (x y : Text) (g m : ℕ) → Covers x y 0 g → m ≡ free_from (tries - g) g y → m ≡ free_from tries 0 x
least_is x y g m p e = e ∙ covers_free x y g p

pub delimiter_is : (x y : Text) (g m : ℕ) → Covers x y 0 g → m ≡ free_from (tries - g) g y → delimiter x ≡ numbered m
unfolding delimiter
delimiter_is x y g m p e = ap numbered (sym (least_is x y g m p e))

pub whole_open : (x y : Text) (i g : ℕ) → Covers x y 0 g → ends_line y ≡ false → CoversLines (whole_body true x) (whole_body false y) i (max i g)
unfolding delimiter
whole_open x y i g p e = lines_open x y (free_from tries 0 x) i g (max i g) (least_small x) p e (omega arith) (omega arith) (λ s. omega (arith, s, p.small (omega arith))) (λ n h l. omega (arith, h, l))

pub whole_closed : (x y : Text) (i g m : ℕ) → Covers x y 0 g → ends_line y ≡ true → m ≡ free_from (tries - g) g y → CoversLines (whole_body true x) (whole_body false y) i (max i (min (m + 1) (2 ^ 64 - 1)))
unfolding delimiter
whole_closed x y i g m p e is =
    let same = least_is x y g m p is in
    let bound = free_bound (tries - g) g y in
    subst (λ (k : ℕ). CoversLines (x ++ numbered k ++ 10 ∷ []) (y ++ 32 ∷ [] ++ 10 ∷ []) i (max i (min (m + 1) (2 ^ 64 - 1)))) same
    (lines_closed x y m i g (max i (min (m + 1) (2 ^ 64 - 1))) p e (omega (arith, is, bound.0)) same (omega arith) (λ s. omega (arith, s)) (λ n l h. omega (arith, l, h)) (λ n l h k. omega (arith, h, k)))

-- the last name of a search for `E`: whether it ends at the start of a line
starts_by : (start : Bool) (r : Option Text) → Keeps [] start r → goes_on 69 r ≡ start
starts_by true r k = rw k refl
starts_by false None k = refl
starts_by false (Some []) k = refl
starts_by false (Some (x ∷ xs)) k = k.0

pub ends_by : (s : Sight) (text : Text) → s ≡ sight (69 ∷ []) (first_sight (69 ∷ [])) text → goes_on 69 s.rest ≡ ends_line text
ends_by s text e = ap (λ (t : Sight). goes_on 69 t.rest) e ∙ starts_by (ends_line text) (sight (69 ∷ []) (first_sight (69 ∷ [])) text).rest (keeps [] tt true (first_sight (69 ∷ [])) text refl)

-- ---- the least free number from one on

pub next_free : (n from : ℕ) (text : Text) → n < tries → has_line (numbered n) text ≡ true → free_from (tries - n) n text ≡ free_from (tries - from) from text → free_from (tries - (n + 1)) (n + 1) text ≡ free_from (tries - from) from text
next_free n from text lt line e =
    let left : tries - n ≡ suc (tries - (n + 1)) = omega (arith, lt) in
    sym (free_more (tries - (n + 1)) n text line) ∙ ap (λ (m : ℕ). free_from m n text) (sym left) ∙ e

pub stop_free : (n from : ℕ) (text : Text) → n < tries → has_line (numbered n) text ≡ false → free_from (tries - n) n text ≡ free_from (tries - from) from text → n ≡ free_from (tries - from) from text
stop_free n from text lt line e =
    let left : tries - n ≡ suc (tries - (n + 1)) = omega (arith, lt) in
    sym (free_stop (tries - (n + 1)) n text line) ∙ ap (λ (m : ℕ). free_from m n text) (sym left) ∙ e

pub last_free : (n from : ℕ) (text : Text) → n ≡ tries → free_from (tries - n) n text ≡ free_from (tries - from) from text → tries ≡ free_from (tries - from) from text
last_free n from text is e =
    let none : tries - n ≡ 0 = omega (arith, is) in
    sym is ∙ sym (free_end n text) ∙ ap (λ (m : ℕ). free_from m n text) (sym none) ∙ e

-- ---- answers

pub if_ok : {X E : Type 0} (r : Result X E) (P Q : X → Type 0) → IfOk r P → ((x : X) → P x → Q x) → IfOk r Q
if_ok (Ok x) P Q p f = f x p
if_ok (Err e) P Q p f = p

-- where the text that passed a search for `E` ends
pub ends_after : (s t : Search) (x text : Text) → s.name.now ≡ 69 ∷ [] → sight_of s ≡ first_sight (69 ∷ []) → Passed s t x → x ≡ text → goes_on 69 (rest_of t) ≡ ends_line text
ends_after s t x text name begins p is = ends_by (sight_of t) text (p.sees ∙ ap (λ (n : Text). sight n (sight_of s) x) name ∙ ap (λ (v : Sight). sight (69 ∷ []) v x) begins ∙ ap (λ (y : Text). sight (69 ∷ []) (first_sight (69 ∷ [])) y) is)
