-- Bytes that stand for themselves: no tilde, no pattern, and nothing that sh reads in another way.
use Rattle.std.proofs.Common.{◌≡◌, ℕ, Bool, true, false, ◌&&◌, ◌||◌, ◌==◌, List, [], ◌∷◌, refl, if◌then◌else◌}
use Rattle.std.specs.List.{list_all}
use Rattle.span_text.specs.Names.{begins_name, continues_name}
use Rattle.span_text.specs.Scanning.{is_plain_byte, is_exact_byte, is_quoted_byte}
use Rattle.span_text.proofs.Bytes.{apart}
use Rattle.sh_grammar.specs.Shape.{Parts}
use Rattle.sh_grammar.specs.Bytes.{in_word, in_double, is_join, is_literal, is_plain, is_active, is_meta}
use Rattle.sh_meaning.specs.Expanding.{begins_tilde, Where, First, Later, has_doubtful_tilde}
use Rattle.sh_meaning.specs.Pathnames.{is_special}
use Rattle.sh_meaning.specs.builtins.Export.{has_tilde}
use Rattle.sh_printing.specs.Marks.{is_quote}
use Rattle.sh_printing.specs.Spellable.{is_literal_text, ends_with, begins_with, equals_behind, begins_assign}
use Rattle.sh_printing.specs.Spellable as spellable
use Rattle.sh_printing.specs.Printable.{reads_tilde}
use Rattle.bash2sh.proofs.Tools.{and_no, both}

-- ---- no tilde

no_tilde_byte : (b : ℕ) → is_plain_byte b ≡ true → (b == 126) ≡ false
unfolding is_plain_byte
no_tilde_byte b e = apart is_plain_byte b 126 e refl

no_tilde_next : (behind t : Bool) → t ≡ false → (behind && t) ≡ false
no_tilde_next true t e = e
no_tilde_next false t e = refl

no_tilde_behind : (behind : Bool) (text : List ℕ) → list_all is_plain_byte text ≡ true → has_tilde behind text ≡ false
no_tilde_behind behind [] e = refl
no_tilde_behind behind (b ∷ bs) e =
    let y = both (is_plain_byte b) (list_all is_plain_byte bs) e in
    rw (no_tilde_next behind (b == 126) (no_tilde_byte b y.0)) (no_tilde_behind (b == 61 || b == 58) bs y.1)

no_tilde_first : (text : List ℕ) → list_all is_plain_byte text ≡ true → begins_tilde text ≡ false
no_tilde_first [] e = refl
no_tilde_first (b ∷ bs) e = no_tilde_byte b (both (is_plain_byte b) (list_all is_plain_byte bs) e).0

pub no_doubt : (place : Where) (text : List ℕ) → list_all is_plain_byte text ≡ true → has_doubtful_tilde place text ≡ false
no_doubt First text e = rw (no_tilde_first text e) (no_tilde_behind false text e)
no_doubt Later text e = no_tilde_behind false text e

pub reads_no_tilde : (text : List ℕ) (ps : Parts) → list_all is_plain_byte text ≡ true → reads_tilde text ps ≡ false
reads_no_tilde [] ps e = refl
reads_no_tilde (b ∷ []) ps e = rw (no_tilde_byte b (both (is_plain_byte b) true e).0) refl
reads_no_tilde (b ∷ c ∷ bs) ps e = rw (no_tilde_byte b (both (is_plain_byte b) (list_all is_plain_byte (c ∷ bs)) e).0) refl

-- ---- no pattern

pub no_special : (b : ℕ) → is_plain_byte b ≡ true → is_special b ≡ false
unfolding is_plain_byte
no_special b e = rw (apart is_plain_byte b 42 e refl, apart is_plain_byte b 63 e refl, apart is_plain_byte b 91 e refl) refl

-- ---- no other reading

no_join : (b : ℕ) (bs : List ℕ) → (b == 92) ≡ false → is_join b bs ≡ false
no_join b [] e = refl
no_join b (c ∷ bs) e = rw e refl

plain_in_word : (b : ℕ) → is_plain_byte b ≡ true → is_plain in_word b ≡ true
unfolding is_plain_byte is_plain is_active is_meta
plain_in_word b e =
    rw (apart is_plain_byte b 36 e refl, apart is_plain_byte b 96 e refl, apart is_plain_byte b 92 e refl, apart is_plain_byte b 0 e refl, apart is_plain_byte b 32 e refl, apart is_plain_byte b 9 e refl, apart is_plain_byte b 10 e refl, apart is_plain_byte b 59 e refl, apart is_plain_byte b 38 e refl, apart is_plain_byte b 124 e refl, apart is_plain_byte b 40 e refl, apart is_plain_byte b 41 e refl, apart is_plain_byte b 60 e refl, apart is_plain_byte b 62 e refl, apart is_plain_byte b 39 e refl, apart is_plain_byte b 34 e refl) refl

plain_is_unjoined : (b : ℕ) → is_plain_byte b ≡ true → (b == 92) ≡ false
unfolding is_plain_byte
plain_is_unjoined b e = apart is_plain_byte b 92 e refl

quoted_in_double : (b : ℕ) → is_quoted_byte b ≡ true → is_plain in_double b ≡ true
unfolding is_quoted_byte is_plain is_active
quoted_in_double b e =
    rw (apart is_quoted_byte b 36 e refl, apart is_quoted_byte b 96 e refl, apart is_quoted_byte b 92 e refl, apart is_quoted_byte b 0 e refl, apart is_quoted_byte b 34 e refl) refl

quoted_is_unjoined : (b : ℕ) → is_quoted_byte b ≡ true → (b == 92) ≡ false
unfolding is_quoted_byte
quoted_is_unjoined b e = apart is_quoted_byte b 92 e refl

pub plain_is_literal : (text : List ℕ) → list_all is_plain_byte text ≡ true → is_literal_text in_word text ≡ true
unfolding is_literal
plain_is_literal [] e = refl
plain_is_literal (b ∷ bs) e =
    let y = both (is_plain_byte b) (list_all is_plain_byte bs) e in
    rw (no_join b bs (plain_is_unjoined b y.0), plain_in_word b y.0) (plain_is_literal bs y.1)

pub quoted_is_literal : (text : List ℕ) → list_all is_quoted_byte text ≡ true → is_literal_text in_double text ≡ true
unfolding is_literal
quoted_is_literal [] e = refl
quoted_is_literal (b ∷ bs) e =
    let y = both (is_quoted_byte b) (list_all is_quoted_byte bs) e in
    rw (no_join b bs (quoted_is_unjoined b y.0), quoted_in_double b y.0) (quoted_is_literal bs y.1)

ends_with_no : (p : ℕ → Bool) (k : ℕ) → p k ≡ false → (text : List ℕ) → list_all p text ≡ true → ends_with k text ≡ false
ends_with_no p k fails [] e = refl
ends_with_no p k fails (b ∷ []) e = apart p b k (both (p b) true e).0 fails
ends_with_no p k fails (b ∷ c ∷ bs) e = ends_with_no p k fails (c ∷ bs) (both (p b) (list_all p (c ∷ bs)) e).1

begins_with_no : (p : ℕ → Bool) (k : ℕ) → p k ≡ false → (text : List ℕ) → list_all p text ≡ true → begins_with k text ≡ false
begins_with_no p k fails [] e = refl
begins_with_no p k fails (b ∷ bs) e = apart p b k (both (p b) (list_all p bs) e).0 fails

pub plain_ends_no_dollar : (text : List ℕ) → list_all is_plain_byte text ≡ true → ends_with 36 text ≡ false
unfolding is_plain_byte
plain_ends_no_dollar text e = ends_with_no is_plain_byte 36 refl text e

pub quoted_ends_no_dollar : (text : List ℕ) → list_all is_quoted_byte text ≡ true → ends_with 36 text ≡ false
unfolding is_quoted_byte
quoted_ends_no_dollar text e = ends_with_no is_quoted_byte 36 refl text e

pub plain_begins_no_comment : (text : List ℕ) → list_all is_plain_byte text ≡ true → begins_with 35 text ≡ false
unfolding is_plain_byte
plain_begins_no_comment text e = begins_with_no is_plain_byte 35 refl text e

-- ---- no assignment

equals_next : (goes : Bool) (rest equals : Bool) → rest ≡ false → equals ≡ false → (if goes then rest else equals) ≡ false
equals_next true rest equals x y = x
equals_next false rest equals x y = y

no_equals_byte : (b : ℕ) → is_plain_byte b ≡ true → (b == 61) ≡ false
unfolding is_plain_byte
no_equals_byte b e = apart is_plain_byte b 61 e refl

no_equals : (text : List ℕ) → list_all is_plain_byte text ≡ true → equals_behind text ≡ false
no_equals [] e = refl
no_equals (b ∷ bs) e =
    let y = both (is_plain_byte b) (list_all is_plain_byte bs) e in
    equals_next (continues_name b) (equals_behind bs) (b == 61) (no_equals bs y.1) (no_equals_byte b y.0)

pub begins_no_assign : (text : List ℕ) → list_all is_plain_byte text ≡ true → begins_assign text ≡ false
begins_no_assign [] e = refl
begins_no_assign (b ∷ bs) e = and_no (begins_name b) (equals_behind bs) (no_equals bs (both (is_plain_byte b) (list_all is_plain_byte bs) e).1)

-- ---- single quotes

pub exact_is_no_quote : (text : List ℕ) → list_all is_exact_byte text ≡ true → is_quote text ≡ false
unfolding is_exact_byte
exact_is_no_quote [] e = refl
exact_is_no_quote (b ∷ []) e = apart is_exact_byte b 39 (both (is_exact_byte b) true e).0 refl
exact_is_no_quote (b ∷ c ∷ bs) e = refl

exact_byte : (b : ℕ) → is_exact_byte b ≡ true → spellable.is_exact_byte b ≡ true
unfolding is_exact_byte
exact_byte b e = rw (apart is_exact_byte b 39 e refl, apart is_exact_byte b 0 e refl) refl

pub exact_bytes : (text : List ℕ) → list_all is_exact_byte text ≡ true → list_all spellable.is_exact_byte text ≡ true
exact_bytes [] e = refl
exact_bytes (b ∷ bs) e =
    let y = both (is_exact_byte b) (list_all is_exact_byte bs) e in
    rw (exact_byte b y.0) (exact_bytes bs y.1)
