-- Texts that begin with no reserved word.
use Rattle.std.proofs.Common.{◌≡◌, ℕ, Bool, true, false, [], ◌∷◌, ◌++◌, refl, sym, ap, ◌∙◌}
use Rattle.std.specs.Prelude.{◌||◌, ◌&&◌, not, ◌==◌}
use Rattle.std.specs.List.{list_all}
use Rattle.std.proofs.lemmas.Bool.{true≢false}
use Rattle.span_text.specs.Names.{is_digit}
use Rattle.span_text.specs.KnownNames.{same_text}
use Rattle.span_text.proofs.Bytes.{apart}
use Rattle.sh_grammar.specs.Bytes.{Text, in_word, gap, is_literal, is_plain, is_active, literal_run, unit_starts}
use Rattle.sh_grammar.specs.Tokens.{Key, If, Then, Elif, Else, Fi, For, In, Until, While, Do, Done, Case, Esac, OpenBrace, CloseBrace, Bang, key_text, is_whole, is_key, opens_compound, is_other_key}
use Rattle.sh_printing.specs.Spellable.{is_text, is_reserved_text}
use Rattle.sh_printing.proofs.BackBytes.{both, neither, and_no, joins, no_join, run_stops, goes_at}

-- no reserved word begins the text
abbrev pub NoKeys : Text → Type 0
NoKeys t = (k : Key) → is_key k t ≡ false

pub no_compound : (t : Text) → NoKeys t → opens_compound t ≡ false
no_compound t n = rw (n If, n For, n While, n Until, n Case, n OpenBrace) refl

pub no_other : (t : Text) → NoKeys t → is_other_key t ≡ false
no_other t n = rw (n Then, n Elif, n Else, n Fi, n In, n Do, n Done, n Esac, n CloseBrace, n Bang) refl

-- ---- by the bytes that stand for themselves

by_run : (t : Text) → ((k : Key) → same_text (literal_run in_word (gap t)).0 (key_text k) ≡ false) → NoKeys t
unfolding is_key
by_run t h k = rw (h k) (and_no (is_whole (literal_run in_word (gap t))))

all_same : (p : ℕ → Bool) (u v : Text) → same_text u v ≡ true → list_all p v ≡ true → list_all p u ≡ true
all_same p [] v e a = refl
all_same p (b ∷ u) [] e a = absurd cc
all_same p (b ∷ u) (c ∷ v) e a =
    let x = both (b == c) (same_text u v) e in let y = both (p c) (list_all p v) a in
    let is : b ≡ c = Rattle.std.proofs.Common.eqb-true b c x.0 in
    rw (is, y.0, all_same p u v x.1 y.1) refl

other_text_at : (p : ℕ → Bool) (u v : Text) (r : Bool) → same_text u v ≡ r → list_all p u ≡ false → list_all p v ≡ true → r ≡ false
other_text_at p u v true e f a = absurd (true≢false (sym (all_same p u v e a) ∙ f))
other_text_at p u v false e f a = refl

other_text : (p : ℕ → Bool) (u v : Text) → list_all p u ≡ false → list_all p v ≡ true → same_text u v ≡ false
other_text p u v f a = other_text_at p u v (same_text u v) refl f a

-- a byte that stands in no reserved word
pub record KeyBytes (p : ℕ → Bool) : Type 0 where
  pub all : (k : Key) → list_all p (key_text k) ≡ true

pub by_byte : (p : ℕ → Bool) (t : Text) → KeyBytes p → list_all p (literal_run in_word (gap t)).0 ≡ false → NoKeys t
by_byte p t h f = by_run t (λ k. other_text p (literal_run in_word (gap t)).0 (key_text k) f (h.all k))

abbrev pub no_equals : ℕ → Bool
no_equals b = not (b == 61)

abbrev pub no_tilde : ℕ → Bool
no_tilde b = not (b == 126)

abbrev pub no_digit : ℕ → Bool
no_digit b = not (is_digit b)

no_equals_all : (k : Key) → list_all no_equals (key_text k) ≡ true
unfolding key_text
no_equals_all If = refl
no_equals_all Then = refl
no_equals_all Elif = refl
no_equals_all Else = refl
no_equals_all Fi = refl
no_equals_all For = refl
no_equals_all In = refl
no_equals_all Until = refl
no_equals_all While = refl
no_equals_all Do = refl
no_equals_all Done = refl
no_equals_all Case = refl
no_equals_all Esac = refl
no_equals_all OpenBrace = refl
no_equals_all CloseBrace = refl
no_equals_all Bang = refl

no_tilde_all : (k : Key) → list_all no_tilde (key_text k) ≡ true
unfolding key_text
no_tilde_all If = refl
no_tilde_all Then = refl
no_tilde_all Elif = refl
no_tilde_all Else = refl
no_tilde_all Fi = refl
no_tilde_all For = refl
no_tilde_all In = refl
no_tilde_all Until = refl
no_tilde_all While = refl
no_tilde_all Do = refl
no_tilde_all Done = refl
no_tilde_all Case = refl
no_tilde_all Esac = refl
no_tilde_all OpenBrace = refl
no_tilde_all CloseBrace = refl
no_tilde_all Bang = refl

no_digit_all : (k : Key) → list_all no_digit (key_text k) ≡ true
unfolding key_text
no_digit_all If = refl
no_digit_all Then = refl
no_digit_all Elif = refl
no_digit_all Else = refl
no_digit_all Fi = refl
no_digit_all For = refl
no_digit_all In = refl
no_digit_all Until = refl
no_digit_all While = refl
no_digit_all Do = refl
no_digit_all Done = refl
no_digit_all Case = refl
no_digit_all Esac = refl
no_digit_all OpenBrace = refl
no_digit_all CloseBrace = refl
no_digit_all Bang = refl

pub key_bytes : KeyBytes no_equals × KeyBytes no_tilde × KeyBytes no_digit
key_bytes = (record { all = no_equals_all }, record { all = no_tilde_all }, record { all = no_digit_all })

empty_key : (k : Key) → same_text [] (key_text k) ≡ false
unfolding key_text
empty_key If = refl
empty_key Then = refl
empty_key Elif = refl
empty_key Else = refl
empty_key Fi = refl
empty_key For = refl
empty_key In = refl
empty_key Until = refl
empty_key While = refl
empty_key Do = refl
empty_key Done = refl
empty_key Case = refl
empty_key Esac = refl
empty_key OpenBrace = refl
empty_key CloseBrace = refl
empty_key Bang = refl

-- what stands for itself is nothing
pub by_none : (t : Text) → gap t ≡ t → joins t ≡ false → goes_at (is_literal in_word) t ≡ false → NoKeys t
unfolding literal_run
by_none t s f e = by_run t (λ k. rw (s, run_stops (is_literal in_word) t f e) (empty_key k))

-- ---- bytes that are plain in any company

plain_literal_at : (a b c : Bool) → a ≡ true → (a || b || c) ≡ true
plain_literal_at true b c e = refl
plain_literal_at false b c e = absurd cc

plain_literal : (b : ℕ) (bs : Text) → is_plain in_word b ≡ true → is_literal in_word b bs ≡ true
unfolding is_literal
plain_literal b bs e = plain_literal_at (is_plain in_word b) (b == 36 && Rattle.sh_grammar.specs.Bytes.is_bare_dollar bs) (b == 92 && Rattle.sh_grammar.specs.Bytes.is_bare_backslash in_word bs) e

no_backslash : is_plain in_word 92 ≡ false
unfolding is_plain is_active
no_backslash = refl

-- a run goes over them
pub plain_run : (u v : Text) → list_all (is_plain in_word) u ≡ true → (literal_run in_word (u ++ v)).0 ≡ u ++ (literal_run in_word v).0
unfolding literal_run
plain_run [] v e = refl
plain_run (b ∷ u) v e =
    let x = both (is_plain in_word b) (list_all (is_plain in_word) u) e in
    rw (no_join b (u ++ v) (apart (is_plain in_word) b 92 x.0 no_backslash), plain_literal b (u ++ v) x.0) (ap (λ (z : Text). b ∷ z) (plain_run u v x.1))

lacks : (p : ℕ → Bool) (u : Text) (b : ℕ) (v : Text) → p b ≡ false → list_all p (u ++ b ∷ v) ≡ false
lacks p [] b v e = rw e refl
lacks p (c ∷ u) b v e = rw (lacks p u b v e) (and_no (p c))

-- a text with such a byte among its first plain ones
pub by_mark : (p : ℕ → Bool) (t u : Text) (b : ℕ) (v : Text) → KeyBytes p → gap t ≡ u ++ b ∷ v → list_all (is_plain in_word) u ≡ true → is_plain in_word b ≡ true → p b ≡ false → NoKeys t
by_mark p t u b v h e a i n =
    let r : (literal_run in_word (gap t)).0 ≡ u ++ b ∷ (literal_run in_word v).0 = ap (λ (z : Text). (literal_run in_word z).0) e ∙ plain_run u (b ∷ v) a ∙ ap (λ (z : Text). u ++ z) (plain_run (b ∷ []) v (rw i refl)) in
    by_byte p t h (ap (list_all p) r ∙ lacks p u b (literal_run in_word v).0 n)

-- ---- a first run that is known

-- it isn't a whole word
pub by_part : (t u v : Text) → literal_run in_word (gap t) ≡ (u, v) → unit_starts in_word v ≡ true → NoKeys t
unfolding is_key
by_part t u v e n k = rw (e, n) refl

-- it is no reserved word's text
record Texts (u : Text) : Type 0 where
  opening : (is_text If u ≡ false) × (is_text For u ≡ false) × (is_text While u ≡ false) × (is_text Until u ≡ false) × (is_text Case u ≡ false) × (is_text OpenBrace u ≡ false)
  other : (is_text Then u ≡ false) × (is_text Elif u ≡ false) × (is_text Else u ≡ false) × (is_text Fi u ≡ false) × (is_text In u ≡ false) × (is_text Do u ≡ false) × (is_text Done u ≡ false) × (is_text Esac u ≡ false) × (is_text CloseBrace u ≡ false) × (is_text Bang u ≡ false)

none_six : (a b c d e f : Bool) → (a || b || c || d || e || f) ≡ false → (a ≡ false) × (b ≡ false) × (c ≡ false) × (d ≡ false) × (e ≡ false) × (f ≡ false)
none_six false false false false false false i = (refl, refl, refl, refl, refl, refl)
none_six true b c d e f i = absurd cc
none_six false true c d e f i = absurd cc
none_six false false true d e f i = absurd cc
none_six false false false true e f i = absurd cc
none_six false false false false true f i = absurd cc
none_six false false false false false true i = absurd cc

texts : (u : Text) → is_reserved_text u ≡ false → Texts u
texts u n =
    let x = neither (is_text If u || is_text For u || is_text While u || is_text Until u || is_text Case u || is_text OpenBrace u) (is_text Then u || is_text Elif u || is_text Else u || is_text Fi u || is_text In u || is_text Do u || is_text Done u || is_text Esac u || is_text CloseBrace u || is_text Bang u) n in
    let a = neither (is_text Then u || is_text Elif u || is_text Else u || is_text Fi u || is_text In u || is_text Do u || is_text Done u || is_text Esac u || is_text CloseBrace u) (is_text Bang u) x.1 in
    let b = neither (is_text Then u || is_text Elif u || is_text Else u || is_text Fi u || is_text In u || is_text Do u || is_text Done u || is_text Esac u) (is_text CloseBrace u) a.0 in
    let c = neither (is_text Then u || is_text Elif u || is_text Else u || is_text Fi u || is_text In u || is_text Do u || is_text Done u) (is_text Esac u) b.0 in
    let d = neither (is_text Then u || is_text Elif u || is_text Else u || is_text Fi u || is_text In u || is_text Do u) (is_text Done u) c.0 in
    let e = none_six (is_text Then u) (is_text Elif u) (is_text Else u) (is_text Fi u) (is_text In u) (is_text Do u) d.0 in
    record { opening = none_six (is_text If u) (is_text For u) (is_text While u) (is_text Until u) (is_text Case u) (is_text OpenBrace u) x.0; other = (e.0, e.1, e.2, e.3, e.4, e.5, d.1, c.1, b.1, a.1) }

reserved : (k : Key) (u : Text) → is_reserved_text u ≡ false → same_text u (key_text k) ≡ false
reserved If u n = (texts u n).opening.0
reserved For u n = (texts u n).opening.1
reserved While u n = (texts u n).opening.2
reserved Until u n = (texts u n).opening.3
reserved Case u n = (texts u n).opening.4
reserved OpenBrace u n = (texts u n).opening.5
reserved Then u n = (texts u n).other.0
reserved Elif u n = (texts u n).other.1
reserved Else u n = (texts u n).other.2
reserved Fi u n = (texts u n).other.3
reserved In u n = (texts u n).other.4
reserved Do u n = (texts u n).other.5
reserved Done u n = (texts u n).other.6
reserved Esac u n = (texts u n).other.7
reserved CloseBrace u n = (texts u n).other.8
reserved Bang u n = (texts u n).other.9

pub by_text : (t u v : Text) → literal_run in_word (gap t) ≡ (u, v) → is_reserved_text u ≡ false → NoKeys t
by_text t u v e n = by_run t (λ k. rw e (reserved k u n))
