-- A word is another than a text where its first byte is another.
use Rattle.std.proofs.Common.{◌≡◌, ℕ, ◌<◌, ◌≤◌, Bool, true, false, cond, nat_eq, [], ◌∷◌, length, slice_index_or, refl, arith}
use Rattle.std.specs.Prelude.{◌==◌, ◌&&◌, ◌||◌}
use Rattle.std.proofs.lemmas.Bool.{eqb-true}
use Rattle.span_text.specs.KnownNames.{same_text}
use Rattle.sh_grammar.specs.Bytes.{Text, is_join, is_literal, in_word, run_from, with_byte, literal_run, gap}
use Rattle.sh_grammar.specs.Tokens as tokens
use Rattle.sh_grammar.specs.Tokens.{Key, key_text, bare, is_whole, is_key, opens_compound, is_other_key}
use Rattle.sh_parser.specs.Fronts.{front_byte}

pub is_other : (a b : ℕ) → (a ≡ b → ⊥) → (a == b) ≡ false
is_other a b f = at (a == b) refl
  where
    at : (r : Bool) → (a == b) ≡ r → r ≡ false
    at true e = absurd (f (eqb-true a b e))
    at false e = refl

abbrev go : Bool → Text → Text × Text
go taken bs = run_from (is_literal in_word) taken bs

no_join : (b : ℕ) (bs : Text) → (b == 92) ≡ false → is_join b bs ≡ false
no_join b [] e = refl
no_join b (c ∷ bs) e = rw e refl

begun : (b k : ℕ) (bs ks : Text) (j r : Bool) → j ≡ false → (b == k) ≡ false → same_text (cond j (go true bs) (cond r (with_byte b (go false bs)) ([], b ∷ bs))).0 (k ∷ ks) ≡ false
begun b k bs ks true r e f = absurd cc
begun b k bs ks false true e f = rw f refl
begun b k bs ks false false e f = refl

pub other_front : (b k : ℕ) (bs ks : Text) → (b == k) ≡ false → (b == 92) ≡ false → same_text (literal_run in_word (b ∷ bs)).0 (k ∷ ks) ≡ false
unfolding literal_run
other_front b k bs ks f e = begun b k bs ks (is_join b bs) (is_literal in_word b bs) (no_join b bs e) f

pub no_front : (k : ℕ) (ks : Text) → same_text (literal_run in_word []).0 (k ∷ ks) ≡ false
unfolding literal_run
no_front k ks = refl

-- the same of bytes by their lengths

pub no_bytes : (text bytes : Text) → 1 ≤ length text → length bytes < 1 → same_text (literal_run in_word bytes).0 text ≡ false
no_bytes [] bytes a b = absurd (omega (arith, a))
no_bytes (k ∷ ks) [] a b = no_front k ks
no_bytes (k ∷ ks) (x ∷ bs) a b = absurd (omega (arith, b))

pub other_bytes : (text bytes : Text) → 1 ≤ length text → 1 ≤ length bytes → nat_eq (slice_index_or bytes 0 0) (slice_index_or text 0 0) ≡ false → nat_eq (slice_index_or bytes 0 0) 92 ≡ false → same_text (literal_run in_word bytes).0 text ≡ false
other_bytes [] bytes a b e f = absurd (omega (arith, a))
other_bytes (k ∷ ks) [] a b e f = absurd (omega (arith, b))
other_bytes (k ∷ ks) (x ∷ bs) a b e f = other_front x k bs ks e f

-- ---- reserved words

not_text : (text bytes : Text) → (length text == 0) ≡ false → (front_byte bytes == front_byte text) ≡ false → (front_byte bytes == 92) ≡ false → same_text (literal_run in_word bytes).0 text ≡ false
not_text [] bytes n e f = absurd cc
not_text (k ∷ ks) [] n e f = no_front k ks
not_text (k ∷ ks) (b ∷ bs) n e f = other_front b k bs ks e f

some_text : (k : Key) → (length (key_text k) == 0) ≡ false
unfolding key_text
some_text tokens.If = refl
some_text tokens.Then = refl
some_text tokens.Elif = refl
some_text tokens.Else = refl
some_text tokens.Fi = refl
some_text tokens.For = refl
some_text tokens.In = refl
some_text tokens.Until = refl
some_text tokens.While = refl
some_text tokens.Do = refl
some_text tokens.Done = refl
some_text tokens.Case = refl
some_text tokens.Esac = refl
some_text tokens.OpenBrace = refl
some_text tokens.CloseBrace = refl
some_text tokens.Bang = refl

and_false : (a : Bool) → (a && false) ≡ false
and_false true = refl
and_false false = refl

not_key : (k : Key) (bytes : Text) → (front_byte (gap bytes) == front_byte (key_text k)) ≡ false → (front_byte (gap bytes) == 92) ≡ false → is_key k bytes ≡ false
unfolding is_key
not_key k bytes e f = rw (not_text (key_text k) (gap bytes) (some_text k) e f) (and_false (is_whole (bare bytes)))

-- what the byte in front is
abbrev starts : ℕ → Text → Type 0
starts k bytes = front_byte (gap bytes) ≡ k

not_If : (bytes : Text) (b : ℕ) → starts b bytes → (b == 105) ≡ false → (b == 92) ≡ false → is_key tokens.If bytes ≡ false
unfolding key_text
not_If bytes b s e f = not_key tokens.If bytes (rw (s) e) (rw (s) f)

not_Then : (bytes : Text) (b : ℕ) → starts b bytes → (b == 116) ≡ false → (b == 92) ≡ false → is_key tokens.Then bytes ≡ false
unfolding key_text
not_Then bytes b s e f = not_key tokens.Then bytes (rw (s) e) (rw (s) f)

not_Elif : (bytes : Text) (b : ℕ) → starts b bytes → (b == 101) ≡ false → (b == 92) ≡ false → is_key tokens.Elif bytes ≡ false
unfolding key_text
not_Elif bytes b s e f = not_key tokens.Elif bytes (rw (s) e) (rw (s) f)

not_Else : (bytes : Text) (b : ℕ) → starts b bytes → (b == 101) ≡ false → (b == 92) ≡ false → is_key tokens.Else bytes ≡ false
unfolding key_text
not_Else bytes b s e f = not_key tokens.Else bytes (rw (s) e) (rw (s) f)

not_Fi : (bytes : Text) (b : ℕ) → starts b bytes → (b == 102) ≡ false → (b == 92) ≡ false → is_key tokens.Fi bytes ≡ false
unfolding key_text
not_Fi bytes b s e f = not_key tokens.Fi bytes (rw (s) e) (rw (s) f)

not_For : (bytes : Text) (b : ℕ) → starts b bytes → (b == 102) ≡ false → (b == 92) ≡ false → is_key tokens.For bytes ≡ false
unfolding key_text
not_For bytes b s e f = not_key tokens.For bytes (rw (s) e) (rw (s) f)

not_In : (bytes : Text) (b : ℕ) → starts b bytes → (b == 105) ≡ false → (b == 92) ≡ false → is_key tokens.In bytes ≡ false
unfolding key_text
not_In bytes b s e f = not_key tokens.In bytes (rw (s) e) (rw (s) f)

not_Until : (bytes : Text) (b : ℕ) → starts b bytes → (b == 117) ≡ false → (b == 92) ≡ false → is_key tokens.Until bytes ≡ false
unfolding key_text
not_Until bytes b s e f = not_key tokens.Until bytes (rw (s) e) (rw (s) f)

not_While : (bytes : Text) (b : ℕ) → starts b bytes → (b == 119) ≡ false → (b == 92) ≡ false → is_key tokens.While bytes ≡ false
unfolding key_text
not_While bytes b s e f = not_key tokens.While bytes (rw (s) e) (rw (s) f)

not_Do : (bytes : Text) (b : ℕ) → starts b bytes → (b == 100) ≡ false → (b == 92) ≡ false → is_key tokens.Do bytes ≡ false
unfolding key_text
not_Do bytes b s e f = not_key tokens.Do bytes (rw (s) e) (rw (s) f)

not_Done : (bytes : Text) (b : ℕ) → starts b bytes → (b == 100) ≡ false → (b == 92) ≡ false → is_key tokens.Done bytes ≡ false
unfolding key_text
not_Done bytes b s e f = not_key tokens.Done bytes (rw (s) e) (rw (s) f)

not_Case : (bytes : Text) (b : ℕ) → starts b bytes → (b == 99) ≡ false → (b == 92) ≡ false → is_key tokens.Case bytes ≡ false
unfolding key_text
not_Case bytes b s e f = not_key tokens.Case bytes (rw (s) e) (rw (s) f)

not_Esac : (bytes : Text) (b : ℕ) → starts b bytes → (b == 101) ≡ false → (b == 92) ≡ false → is_key tokens.Esac bytes ≡ false
unfolding key_text
not_Esac bytes b s e f = not_key tokens.Esac bytes (rw (s) e) (rw (s) f)

not_OpenBrace : (bytes : Text) (b : ℕ) → starts b bytes → (b == 123) ≡ false → (b == 92) ≡ false → is_key tokens.OpenBrace bytes ≡ false
unfolding key_text
not_OpenBrace bytes b s e f = not_key tokens.OpenBrace bytes (rw (s) e) (rw (s) f)

not_CloseBrace : (bytes : Text) (b : ℕ) → starts b bytes → (b == 125) ≡ false → (b == 92) ≡ false → is_key tokens.CloseBrace bytes ≡ false
unfolding key_text
not_CloseBrace bytes b s e f = not_key tokens.CloseBrace bytes (rw (s) e) (rw (s) f)

not_Bang : (bytes : Text) (b : ℕ) → starts b bytes → (b == 33) ≡ false → (b == 92) ≡ false → is_key tokens.Bang bytes ≡ false
unfolding key_text
not_Bang bytes b s e f = not_key tokens.Bang bytes (rw (s) e) (rw (s) f)

abbrev six : Bool → Bool → Bool → Bool → Bool → Bool → Bool
six a b c d e f = a || b || c || d || e || f

abbrev ten : Bool → Bool → Bool → Bool → Bool → Bool → Bool → Bool → Bool → Bool → Bool
ten a b c d e f g h i j = a || b || c || d || e || f || g || h || i || j

six_If : (x : Bool) → x ≡ six x false false false false false
six_If true = refl
six_If false = refl

pub opens_if : (bytes : Text) → (front_byte (gap bytes) == 105) ≡ true → is_key tokens.If bytes ≡ opens_compound bytes
opens_if bytes e = let s : starts 105 bytes = eqb-true _ _ e in rw (not_For bytes 105 s refl refl, not_While bytes 105 s refl refl, not_Until bytes 105 s refl refl, not_Case bytes 105 s refl refl, not_OpenBrace bytes 105 s refl refl) (six_If (is_key tokens.If bytes))

six_For : (x : Bool) → x ≡ six false x false false false false
six_For true = refl
six_For false = refl

pub opens_for : (bytes : Text) → (front_byte (gap bytes) == 102) ≡ true → is_key tokens.For bytes ≡ opens_compound bytes
opens_for bytes e = let s : starts 102 bytes = eqb-true _ _ e in rw (not_If bytes 102 s refl refl, not_While bytes 102 s refl refl, not_Until bytes 102 s refl refl, not_Case bytes 102 s refl refl, not_OpenBrace bytes 102 s refl refl) (six_For (is_key tokens.For bytes))

six_While : (x : Bool) → x ≡ six false false x false false false
six_While true = refl
six_While false = refl

pub opens_while : (bytes : Text) → (front_byte (gap bytes) == 119) ≡ true → is_key tokens.While bytes ≡ opens_compound bytes
opens_while bytes e = let s : starts 119 bytes = eqb-true _ _ e in rw (not_If bytes 119 s refl refl, not_For bytes 119 s refl refl, not_Until bytes 119 s refl refl, not_Case bytes 119 s refl refl, not_OpenBrace bytes 119 s refl refl) (six_While (is_key tokens.While bytes))

six_Until : (x : Bool) → x ≡ six false false false x false false
six_Until true = refl
six_Until false = refl

pub opens_until : (bytes : Text) → (front_byte (gap bytes) == 117) ≡ true → is_key tokens.Until bytes ≡ opens_compound bytes
opens_until bytes e = let s : starts 117 bytes = eqb-true _ _ e in rw (not_If bytes 117 s refl refl, not_For bytes 117 s refl refl, not_While bytes 117 s refl refl, not_Case bytes 117 s refl refl, not_OpenBrace bytes 117 s refl refl) (six_Until (is_key tokens.Until bytes))

six_Case : (x : Bool) → x ≡ six false false false false x false
six_Case true = refl
six_Case false = refl

pub opens_case : (bytes : Text) → (front_byte (gap bytes) == 99) ≡ true → is_key tokens.Case bytes ≡ opens_compound bytes
opens_case bytes e = let s : starts 99 bytes = eqb-true _ _ e in rw (not_If bytes 99 s refl refl, not_For bytes 99 s refl refl, not_While bytes 99 s refl refl, not_Until bytes 99 s refl refl, not_OpenBrace bytes 99 s refl refl) (six_Case (is_key tokens.Case bytes))

six_OpenBrace : (x : Bool) → x ≡ six false false false false false x
six_OpenBrace true = refl
six_OpenBrace false = refl

pub opens_brace : (bytes : Text) → (front_byte (gap bytes) == 123) ≡ true → is_key tokens.OpenBrace bytes ≡ opens_compound bytes
opens_brace bytes e = let s : starts 123 bytes = eqb-true _ _ e in rw (not_If bytes 123 s refl refl, not_For bytes 123 s refl refl, not_While bytes 123 s refl refl, not_Until bytes 123 s refl refl, not_Case bytes 123 s refl refl) (six_OpenBrace (is_key tokens.OpenBrace bytes))

pub opens_none : (bytes : Text) → (front_byte (gap bytes) == 92) ≡ false → (front_byte (gap bytes) == 105) ≡ false → (front_byte (gap bytes) == 102) ≡ false → (front_byte (gap bytes) == 119) ≡ false → (front_byte (gap bytes) == 117) ≡ false → (front_byte (gap bytes) == 99) ≡ false → (front_byte (gap bytes) == 123) ≡ false → opens_compound bytes ≡ false
opens_none bytes h92 h105 h102 h119 h117 h99 h123 = rw (not_If bytes (front_byte (gap bytes)) refl h105 h92, not_For bytes (front_byte (gap bytes)) refl h102 h92, not_While bytes (front_byte (gap bytes)) refl h119 h92, not_Until bytes (front_byte (gap bytes)) refl h117 h92, not_Case bytes (front_byte (gap bytes)) refl h99 h92, not_OpenBrace bytes (front_byte (gap bytes)) refl h123 h92) refl

ten_other_then : (x : Bool) → (x) ≡ ten x false false false false false false false false false
ten_other_then true = refl
ten_other_then false = refl

pub other_then : (bytes : Text) → (front_byte (gap bytes) == 116) ≡ true → (is_key tokens.Then bytes) ≡ is_other_key bytes
other_then bytes e = let s : starts 116 bytes = eqb-true _ _ e in rw (not_Elif bytes 116 s refl refl, not_Else bytes 116 s refl refl, not_Fi bytes 116 s refl refl, not_In bytes 116 s refl refl, not_Do bytes 116 s refl refl, not_Done bytes 116 s refl refl, not_Esac bytes 116 s refl refl, not_CloseBrace bytes 116 s refl refl, not_Bang bytes 116 s refl refl) (ten_other_then (is_key tokens.Then bytes))

ten_other_e : (x : Bool) (y : Bool) (z : Bool) → (x || y || z) ≡ ten false x y false false false false z false false
ten_other_e true true true = refl
ten_other_e true true false = refl
ten_other_e true false true = refl
ten_other_e true false false = refl
ten_other_e false true true = refl
ten_other_e false true false = refl
ten_other_e false false true = refl
ten_other_e false false false = refl

pub other_e : (bytes : Text) → (front_byte (gap bytes) == 101) ≡ true → (is_key tokens.Elif bytes || is_key tokens.Else bytes || is_key tokens.Esac bytes) ≡ is_other_key bytes
other_e bytes e = let s : starts 101 bytes = eqb-true _ _ e in rw (not_Then bytes 101 s refl refl, not_Fi bytes 101 s refl refl, not_In bytes 101 s refl refl, not_Do bytes 101 s refl refl, not_Done bytes 101 s refl refl, not_CloseBrace bytes 101 s refl refl, not_Bang bytes 101 s refl refl) (ten_other_e (is_key tokens.Elif bytes) (is_key tokens.Else bytes) (is_key tokens.Esac bytes))

ten_other_fi : (x : Bool) → (x) ≡ ten false false false x false false false false false false
ten_other_fi true = refl
ten_other_fi false = refl

pub other_fi : (bytes : Text) → (front_byte (gap bytes) == 102) ≡ true → (is_key tokens.Fi bytes) ≡ is_other_key bytes
other_fi bytes e = let s : starts 102 bytes = eqb-true _ _ e in rw (not_Then bytes 102 s refl refl, not_Elif bytes 102 s refl refl, not_Else bytes 102 s refl refl, not_In bytes 102 s refl refl, not_Do bytes 102 s refl refl, not_Done bytes 102 s refl refl, not_Esac bytes 102 s refl refl, not_CloseBrace bytes 102 s refl refl, not_Bang bytes 102 s refl refl) (ten_other_fi (is_key tokens.Fi bytes))

ten_other_in : (x : Bool) → (x) ≡ ten false false false false x false false false false false
ten_other_in true = refl
ten_other_in false = refl

pub other_in : (bytes : Text) → (front_byte (gap bytes) == 105) ≡ true → (is_key tokens.In bytes) ≡ is_other_key bytes
other_in bytes e = let s : starts 105 bytes = eqb-true _ _ e in rw (not_Then bytes 105 s refl refl, not_Elif bytes 105 s refl refl, not_Else bytes 105 s refl refl, not_Fi bytes 105 s refl refl, not_Do bytes 105 s refl refl, not_Done bytes 105 s refl refl, not_Esac bytes 105 s refl refl, not_CloseBrace bytes 105 s refl refl, not_Bang bytes 105 s refl refl) (ten_other_in (is_key tokens.In bytes))

ten_other_d : (x : Bool) (y : Bool) → (x || y) ≡ ten false false false false false x y false false false
ten_other_d true true = refl
ten_other_d true false = refl
ten_other_d false true = refl
ten_other_d false false = refl

pub other_d : (bytes : Text) → (front_byte (gap bytes) == 100) ≡ true → (is_key tokens.Do bytes || is_key tokens.Done bytes) ≡ is_other_key bytes
other_d bytes e = let s : starts 100 bytes = eqb-true _ _ e in rw (not_Then bytes 100 s refl refl, not_Elif bytes 100 s refl refl, not_Else bytes 100 s refl refl, not_Fi bytes 100 s refl refl, not_In bytes 100 s refl refl, not_Esac bytes 100 s refl refl, not_CloseBrace bytes 100 s refl refl, not_Bang bytes 100 s refl refl) (ten_other_d (is_key tokens.Do bytes) (is_key tokens.Done bytes))

ten_other_brace : (x : Bool) → (x) ≡ ten false false false false false false false false x false
ten_other_brace true = refl
ten_other_brace false = refl

pub other_brace : (bytes : Text) → (front_byte (gap bytes) == 125) ≡ true → (is_key tokens.CloseBrace bytes) ≡ is_other_key bytes
other_brace bytes e = let s : starts 125 bytes = eqb-true _ _ e in rw (not_Then bytes 125 s refl refl, not_Elif bytes 125 s refl refl, not_Else bytes 125 s refl refl, not_Fi bytes 125 s refl refl, not_In bytes 125 s refl refl, not_Do bytes 125 s refl refl, not_Done bytes 125 s refl refl, not_Esac bytes 125 s refl refl, not_Bang bytes 125 s refl refl) (ten_other_brace (is_key tokens.CloseBrace bytes))

ten_other_bang : (x : Bool) → (x) ≡ ten false false false false false false false false false x
ten_other_bang true = refl
ten_other_bang false = refl

pub other_bang : (bytes : Text) → (front_byte (gap bytes) == 33) ≡ true → (is_key tokens.Bang bytes) ≡ is_other_key bytes
other_bang bytes e = let s : starts 33 bytes = eqb-true _ _ e in rw (not_Then bytes 33 s refl refl, not_Elif bytes 33 s refl refl, not_Else bytes 33 s refl refl, not_Fi bytes 33 s refl refl, not_In bytes 33 s refl refl, not_Do bytes 33 s refl refl, not_Done bytes 33 s refl refl, not_Esac bytes 33 s refl refl, not_CloseBrace bytes 33 s refl refl) (ten_other_bang (is_key tokens.Bang bytes))

pub other_none : (bytes : Text) → (front_byte (gap bytes) == 92) ≡ false → (front_byte (gap bytes) == 116) ≡ false → (front_byte (gap bytes) == 101) ≡ false → (front_byte (gap bytes) == 102) ≡ false → (front_byte (gap bytes) == 105) ≡ false → (front_byte (gap bytes) == 100) ≡ false → (front_byte (gap bytes) == 125) ≡ false → (front_byte (gap bytes) == 33) ≡ false → is_other_key bytes ≡ false
other_none bytes h92 h116 h101 h102 h105 h100 h125 h33 = rw (not_Then bytes (front_byte (gap bytes)) refl h116 h92, not_Elif bytes (front_byte (gap bytes)) refl h101 h92, not_Else bytes (front_byte (gap bytes)) refl h101 h92, not_Fi bytes (front_byte (gap bytes)) refl h102 h92, not_In bytes (front_byte (gap bytes)) refl h105 h92, not_Do bytes (front_byte (gap bytes)) refl h100 h92, not_Done bytes (front_byte (gap bytes)) refl h100 h92, not_Esac bytes (front_byte (gap bytes)) refl h101 h92, not_CloseBrace bytes (front_byte (gap bytes)) refl h125 h92, not_Bang bytes (front_byte (gap bytes)) refl h33 h92) refl
