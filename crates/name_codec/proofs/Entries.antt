-- A text has one entry at most at its front, and is the text of one list at most.
use Rattle.std.proofs.Common.{◌≡◌, ◌≢◌, ℕ, zero, suc, ◌+◌, ◌<◌, ◌≤◌, ◌^◌, List, [], ◌∷◌, ◌++◌, length, take, drop, get_or, refl, sym, ap, ◌∙◌, arith, decimal, Some, None}
use Rattle.std.proofs.lemmas.Bool.{eq-eqb, eqb-true}
use Rattle.std.proofs.lemmas.Fmt.{decimal_is_IsNumeral, decimal_injective}
use Rattle.std.proofs.lemmas.List.Concat.{flat_map-append}
use Rattle.std.proofs.lemmas.List.{append_assoc, append-nil, length-append, append-nil, take-append-drop, drop_more, take_at, drop_at, get_or_at}
use Rattle.std.proofs.lemmas.Str.Parse.{digit_from_value}
use Rattle.std.specs.Str.Parse.{AllDigits}
use Rattle.memchr.specs.Find.{Nowhere, Passes, is_byte}
use Rattle.name_codec.specs.Encoding.{entry_text, encoded, Decodes, NoEntry}

-- no byte is a colon
abbrev NoColon : List ℕ → Type 0
NoColon [] = Unit {0}
NoColon (b ∷ bs) = (b ≢ 58) × NoColon bs

-- what stands before the first colon, and what stands behind it
pub parts_at_colon : (ds es xs ys : List ℕ) → NoColon ds → NoColon es → ds ++ 58 ∷ xs ≡ es ++ 58 ∷ ys → (ds ≡ es) × (xs ≡ ys)
parts_at_colon [] [] xs ys p q e = (refl, cc)
parts_at_colon [] (c ∷ es) xs ys p q e = absurd (q.0 cc)
parts_at_colon (d ∷ ds) [] xs ys p q e = absurd (p.0 cc)
parts_at_colon (d ∷ ds) (c ∷ es) xs ys p q e =
    let same : (ds ≡ es) × (xs ≡ ys) = parts_at_colon ds es xs ys p.1 q.1 cc in
    let first : d ≡ c = cc in
    (cc, same.1)

digits_no_colon : (ds : List ℕ) → AllDigits 10 ds → NoColon ds
digits_no_colon [] h = tt
digits_no_colon (c ∷ cs) h = let range = digit_from_value c h.0 in (λ e. omega arith, digits_no_colon cs h.1)

decimal_no_colon : (n : ℕ) → n < 2 ^ 64 → NoColon (decimal n)
decimal_no_colon n small = let read = decimal_is_IsNumeral n small in digits_no_colon (decimal n) read.0.1

front_no_colon : (text : List ℕ) (k : ℕ) → Nowhere (Passes (is_byte 58) text) 0 k → NoColon (take k text)
front_no_colon text zero h = tt
front_no_colon [] (suc k) h = tt
front_no_colon (b ∷ bs) (suc k) h =
    (λ e. h 0 (omega arith) (omega arith) (eq-eqb b 58 e), front_no_colon bs k (λ j low high. h (suc j) (omega arith) (omega arith)))

-- a text is split at its first colon
pub at_colon : (text : List ℕ) (k : ℕ) → k < length text → Passes (is_byte 58) text k → text ≡ take k text ++ 58 ∷ drop (k + 1) text
at_colon text k within is =
    let colon : get_or text k 0 ≡ 58 = eqb-true _ _ is in
    let behind : drop k text ≡ 58 ∷ drop (k + 1) text = drop_more text k 0 within ∙ ap (λ b. b ∷ drop (k + 1) text) colon in
    sym (take-append-drop k text) ∙ ap (λ r. take k text ++ r) behind

-- the length of an entry is below that of the text that it begins
pub entry_below : (entry rest text : List ℕ) → text ≡ entry_text entry ++ rest → length entry + length rest < length text
entry_below entry rest text e =
    let whole = ap length e in
    omega (arith, whole, length-append (entry_text entry) rest, length-append (decimal (length entry)) (58 ∷ entry))

behind_colon : (entry rest : List ℕ) → entry_text entry ++ rest ≡ decimal (length entry) ++ 58 ∷ (entry ++ rest)
behind_colon entry rest = append_assoc (decimal (length entry)) (58 ∷ entry) rest

same_front : (e f r s : List ℕ) → length e ≡ length f → e ++ r ≡ f ++ s → (e ≡ f) × (r ≡ s)
same_front e f r s n h = (
  sym (take_at e r (length f) n) ∙ ap (take (length f)) h ∙ take_at f s (length f) refl,
  sym (drop_at e r (length f) n) ∙ ap (drop (length f)) h ∙ drop_at f s (length f) refl,
)

-- a text begins with one entry at most
pub one_entry : (e f r s : List ℕ) → length e < 2 ^ 64 → length f < 2 ^ 64 → entry_text e ++ r ≡ entry_text f ++ s → (e ≡ f) × (r ≡ s)
one_entry e f r s small other same =
    let parts = parts_at_colon (decimal (length e)) (decimal (length f)) (e ++ r) (f ++ s) (decimal_no_colon (length e) small) (decimal_no_colon (length f) other) (sym (behind_colon e r) ∙ same ∙ behind_colon f s) in
    same_front e f r s (decimal_injective (length e) (length f) small other parts.0) parts.1

-- a text without a colon begins with no entry
pub none_without_colon : (text : List ℕ) → Nowhere (Passes (is_byte 58) text) 0 (length text) → NoEntry text
none_without_colon text h entry rest e =
    let n = length (decimal (length entry)) in
    let whole : text ≡ decimal (length entry) ++ 58 ∷ (entry ++ rest) = e ∙ behind_colon entry rest in
    let long = ap length whole in
    h n (omega arith) (omega (arith, long, length-append (decimal (length entry)) (58 ∷ (entry ++ rest)))) (eq-eqb _ _ (ap (λ t. get_or t n 0) whole ∙ get_or_at (decimal (length entry)) 58 (entry ++ rest) 0 n refl))

-- what an entry at the front says of the parts at the first colon
pub entry_parts : (text entry rest : List ℕ) (k : ℕ) → length text < 2 ^ 64 → k < length text → Nowhere (Passes (is_byte 58) text) 0 k → Passes (is_byte 58) text k → text ≡ entry_text entry ++ rest → (take k text ≡ decimal (length entry)) × (drop (k + 1) text ≡ entry ++ rest)
entry_parts text entry rest k short within before is e =
    parts_at_colon (take k text) (decimal (length entry)) (drop (k + 1) text) (entry ++ rest) (front_no_colon text k before) (decimal_no_colon (length entry) (omega (arith, entry_below entry rest text e))) (sym (at_colon text k within is) ∙ e ∙ behind_colon entry rest)

-- these entries stand in front of the rest, and each list with this text begins with them
pub record Reads (text : List ℕ) (entries : List (List ℕ)) (rest : List ℕ) : Type 0 where
  pub front : encoded entries ++ rest ≡ text
  pub only : (list : List (List ℕ)) → encoded list ≡ text → (tail : List (List ℕ)) × (list ≡ entries ++ tail) × (encoded tail ≡ rest)

pub reads_none : (text : List ℕ) → Reads text [] text
reads_none text = record { front = refl; only = λ list e. (list, refl, e) }

not_empty : (entry rest : List ℕ) → [] ≡ entry_text entry ++ rest → ⊥
not_empty entry rest e = let below = entry_below entry rest [] e in omega arith

rest_below : (text rest : List ℕ) (entries : List (List ℕ)) → Reads text entries rest → length rest ≤ length text
rest_below text rest entries h = let whole = ap length h.front in omega (arith, whole, length-append (encoded entries) rest)

next_of : (list entries tail : List (List ℕ)) (entry rest : List ℕ) → length entry < 2 ^ 64 → length (encoded tail) < 2 ^ 64 → list ≡ entries ++ tail → encoded tail ≡ entry_text entry ++ rest → (more : List (List ℕ)) × (list ≡ (entries ++ entry ∷ []) ++ more) × (encoded more ≡ rest)
next_of list entries [] entry rest small short is e = absurd (not_empty entry rest e)
next_of list entries (f ∷ fs) entry rest small short is e =
    let same = one_entry f entry (encoded fs) rest (omega (arith, entry_below f (encoded fs) (encoded (f ∷ fs)) refl)) small e in
    (fs, is ∙ ap (λ x. entries ++ x ∷ fs) same.0 ∙ sym (append_assoc entries (entry ∷ []) fs), same.1)

pub reads_more : (text rest behind entry : List ℕ) (entries : List (List ℕ)) → length text < 2 ^ 64 → Reads text entries rest → rest ≡ entry_text entry ++ behind → Reads text (entries ++ entry ∷ []) behind
reads_more text rest behind entry entries short h e =
    let below = entry_below entry behind rest e in
    let within = rest_below text rest entries h in
    record {
      front =
          ap (λ t. t ++ behind) (flat_map-append entry_text entries (entry ∷ [])) ∙ ap (λ t. (encoded entries ++ t) ++ behind) (append-nil (entry_text entry)) ∙ append_assoc (encoded entries) (entry_text entry) behind ∙ ap (λ t. encoded entries ++ t) (sym e) ∙ h.front;
      only = λ list is.
          let found = h.only list is in
          let tail_below = ap length found.2 in
          next_of list entries found.0 entry behind (omega arith) (omega arith) found.1 (found.2 ∙ e);
    }

all_of : (list entries tail : List (List ℕ)) → list ≡ entries ++ tail → encoded tail ≡ [] → Some entries ≡ Some list
all_of list entries [] is e = ap Some (sym (is ∙ append-nil entries))
all_of list entries (f ∷ fs) is e = absurd (not_empty f (encoded fs) (sym e))

no_tail : (rest : List ℕ) (tail : List (List ℕ)) → 0 < length rest → NoEntry rest → encoded tail ≡ rest → ⊥
no_tail rest [] some none e = let empty = ap length e in omega arith
no_tail rest (f ∷ fs) some none e = none f (encoded fs) (sym e)

pub reads_all : (text : List ℕ) (entries : List (List ℕ)) → Reads text entries [] → Decodes text (Some entries)
reads_all text entries h = record {
  of_text = sym (append-nil (encoded entries)) ∙ h.front;
  of_list = λ list is. let found = h.only list is in all_of list entries found.0 found.1 found.2;
}

pub reads_fails : (text rest : List ℕ) (entries : List (List ℕ)) → Reads text entries rest → 0 < length rest → NoEntry rest → Decodes text None
reads_fails text rest entries h some none = record {
  of_text = tt;
  of_list = λ list is. let found = h.only list is in absurd (no_tail rest found.0 some none found.2);
}
