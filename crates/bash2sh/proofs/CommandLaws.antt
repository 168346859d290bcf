-- A command that is read is spelled so, and what is spelled so is read.
use Rattle.std.proofs.Common.{◌≡◌, ℕ, zero, suc, ◌<◌, Bool, true, false, cond, eqb, List, [], ◌∷◌, ◌++◌, length, Option, Some, None, refl, sym, ap, subst, ◌∙◌, append_assoc, inl, inr, arith}
use Rattle.std.specs.List.{list_all}
use Rattle.std.proofs.lemmas.Bool.{eqb-true}
use Rattle.std.proofs.lemmas.List.{nil_from_length, append-nil}
use Rattle.std.proofs.lemmas.Bool.Decides.{nat_tests}
use Rattle.span_text.specs.Names.{begins_name, continues_name}
use Rattle.span_text.specs.Scanning.{starts, Each, Run, is_blank, is_plain_byte, ends_word}
use Rattle.span_text.proofs.Runs.{Run-front, Run-is, Run-length}
use Rattle.span_text.proofs.Bytes.{marks, Each-append, Each-to}
use Rattle.bash_tree.specs.Shape.{Part, plain, exact, double, param, Parts, no_part, part, Words, no_word, word, Value, no_value, value, no_assign, assign, Command, simple}
use Rattle.bash_tree.specs.View.{parts_of}
use Rattle.bash2sh.specs.Spelling.{PartAt, PartsAt, WordAt, WordsAt, ValueAt, sign, CommandAt}
use Rattle.bash2sh.specs.Model.{◌>>=◌, run_at, word_at, words_at, words_from, value_at, plus_at, sign_at, named, words_command, assign_command, by_sign, command_at}
use Rattle.bash2sh.proofs.Tools.{chosen, some_is, bind_some, each_of, test_of}
use Rattle.bash2sh.proofs.WordLaws.{list_of, parts_of_list, parts_sound, parts_complete, word_shorter}

-- ---- ends of lines

pub nothing : (bytes : List ℕ) → eqb (length bytes) 0 ≡ true → bytes ≡ []
nothing bytes e = nil_from_length bytes (eqb-true _ _ e)

not_nothing : (n : ℕ) → eqb (suc n) 0 ≡ false
not_nothing n = grind (arith, nat_tests)

pub something : (bytes : List ℕ) → ends_word bytes ≡ false → eqb (length bytes) 0 ≡ false
something [] e = absurd cc
something (b ∷ bs) e = not_nothing (length bs)

pub goes_on : (bytes : List ℕ) → starts is_blank bytes ≡ false → eqb (length bytes) 0 ≡ false → ends_word bytes ≡ false
goes_on [] e k = absurd cc
goes_on (b ∷ bs) e k = e

pub no_blank : (bytes : List ℕ) → ends_word bytes ≡ false → starts is_blank bytes ≡ false
no_blank [] e = absurd cc
no_blank (b ∷ bs) e = e

-- blanks alone are a run up to the end
all_blank : (gap bytes : List ℕ) → Run is_blank gap bytes [] → Each is_blank bytes
all_blank gap bytes r =
    let e : bytes ≡ gap = r.whole ∙ append-nil gap in
    subst (λ (l : List ℕ). Each is_blank l) (sym e) r.each

blank_run : (bytes : List ℕ) → Each is_blank bytes → Run is_blank bytes bytes []
blank_run bytes e = record { whole = sym (append-nil bytes); each = e; stops = refl }

-- ---- words

abbrev pub words_list : Words → List (List Part)
words_list no_word = []
words_list (word w ws) = list_of w ∷ words_list ws

pub words_of_list : (ws : Words) → words_from (words_list ws) ≡ ws
words_of_list no_word = refl
words_of_list (word w ws) = ap (λ (p : Parts). word p (words_from (words_list ws))) (parts_of_list w) ∙ ap (word w) (words_of_list ws)

pub words_sound : (n : ℕ) (bytes : List ℕ) (x : List (List Part)) → words_at n bytes ≡ Some x → WordsAt (words_from x) bytes
unfolding words_at
words_sound zero bytes x e = absurd cc
words_sound (suc n) bytes x e =
    let front = (run_at is_blank bytes).1 in
    let r = Run-front is_blank bytes in
    elim (chosen (eqb (length front) 0) (Some []) (word_at front >>= λ w. words_at n w.1 >>= λ ws. Some (w.0 ∷ ws)) (Some x) e) [
      | inl h ↦
          let is : front ≡ [] = nothing front h.0 in
          subst (λ (y : List (List Part)). WordsAt (words_from y) bytes) (some_is [] x h.1) (all_blank (run_at is_blank bytes).0 bytes (subst (λ (l : List ℕ). Run is_blank (run_at is_blank bytes).0 bytes l) is r))
      | inr h ↦
          let a = bind_some (word_at front) (λ w. words_at n w.1 >>= λ ws. Some (w.0 ∷ ws)) x h.1 in
          let b = bind_some (words_at n a.0.1) (λ ws. Some (a.0.0 ∷ ws)) x a.2 in
          subst (λ (y : List (List Part)). WordsAt (words_from y) bytes) (some_is (a.0.0 ∷ b.0) x b.2)
          ((run_at is_blank bytes).0, front, a.0.1, r, (goes_on front r.stops h.0, parts_sound (suc (length front)) front a.0 a.1), words_sound n a.0.1 b.0 b.1)
    ]

pub words_complete : (ws : Words) (bytes : List ℕ) (n : ℕ) → WordsAt ws bytes → length bytes < n → words_at n bytes ≡ Some (words_list ws)
unfolding words_at
words_complete ws bytes zero h lt = absurd (omega arith)
words_complete no_word bytes (suc n) h lt =
    let k = Run-is is_blank bytes bytes [] (blank_run bytes h) in
    rw k.1 refl
words_complete (word w ws) bytes (suc n) h lt =
    let k = Run-is is_blank h.0 bytes h.1 h.3 in
    let a = Run-length is_blank h.0 bytes h.1 h.3 in
    let b = word_shorter w h.1 h.2 h.4 in
    rw (k.1, something h.1 h.4.0, parts_complete w h.1 h.2 (suc (length h.1)) h.4.1 (omega arith), words_complete ws h.2 n h.5 (omega arith)) refl

-- ---- values

blanks_are : (bytes : List ℕ) → Each is_blank bytes → ends_word bytes ≡ true
blanks_are [] h = refl
blanks_are (b ∷ bs) h = h.0

pub value_sound : (bytes : List ℕ) (v : Value) → value_at bytes ≡ Some v → ValueAt v bytes
unfolding value_at
value_sound bytes v e =
    elim (chosen (ends_word bytes) (cond (list_all is_blank bytes) (Some no_value) None) (word_at bytes >>= λ w. cond (list_all is_blank w.1) (Some (value (parts_of w.0))) None) (Some v) e) [
      | inl h ↦ elim (chosen (list_all is_blank bytes) (Some no_value) None (Some v) h.1) [
        | inl k ↦ subst (λ (y : Value). ValueAt y bytes) (some_is no_value v k.1) (each_of is_blank bytes k.0)
        | inr k ↦ absurd cc
      ]
      | inr h ↦
          let a = bind_some (word_at bytes) (λ w. cond (list_all is_blank w.1) (Some (value (parts_of w.0))) None) v h.1 in
          elim (chosen (list_all is_blank a.0.1) (Some (value (parts_of a.0.0))) None (Some v) a.2) [
            | inl k ↦ subst (λ (y : Value). ValueAt y bytes) (some_is (value (parts_of a.0.0)) v k.1) (a.0.1, (h.0, parts_sound (suc (length bytes)) bytes a.0 a.1), each_of is_blank a.0.1 k.0)
            | inr k ↦ absurd cc
          ]
    ]

pub value_complete : (v : Value) (bytes : List ℕ) → ValueAt v bytes → value_at bytes ≡ Some v
unfolding value_at
value_complete no_value bytes h = rw (blanks_are bytes h, test_of is_blank bytes h) refl
value_complete (value w) bytes h =
    rw (h.1.0, parts_complete w bytes h.0 (suc (length bytes)) h.1.1 (omega arith), test_of is_blank h.0 h.2, parts_of_list w) refl

-- ---- signs

plus_sound : (bytes : List ℕ) (s : Bool × List ℕ) → plus_at bytes ≡ Some s → 43 ∷ bytes ≡ sign s.0 s.1
plus_sound [] s e = absurd cc
plus_sound (b ∷ bs) s e =
    elim (chosen (eqb b 61) (Some (true, bs)) None (Some s) e) [
      | inl h ↦ let is : b ≡ 61 = eqb-true _ _ h.0 in ap (λ (k : ℕ). 43 ∷ k ∷ bs) is ∙ ap (λ (y : Bool × List ℕ). sign y.0 y.1) (some_is (true, bs) s h.1)
      | inr h ↦ absurd cc
    ]

pub sign_sound : (bytes : List ℕ) (s : Bool × List ℕ) → sign_at bytes ≡ Some s → bytes ≡ sign s.0 s.1
unfolding sign_at
sign_sound [] s e = absurd cc
sign_sound (b ∷ bs) s e =
    elim (chosen (eqb b 61) (Some (false, bs)) (cond (eqb b 43) (plus_at bs) None) (Some s) e) [
      | inl h ↦ let is : b ≡ 61 = eqb-true _ _ h.0 in ap (λ (k : ℕ). k ∷ bs) is ∙ ap (λ (y : Bool × List ℕ). sign y.0 y.1) (some_is (false, bs) s h.1)
      | inr h ↦ elim (chosen (eqb b 43) (plus_at bs) None (Some s) h.1) [
        | inl k ↦ let is : b ≡ 43 = eqb-true _ _ k.0 in ap (λ (j : ℕ). j ∷ bs) is ∙ plus_sound bs s k.1
        | inr k ↦ absurd cc
      ]
    ]

pub sign_complete : (append : Bool) (after : List ℕ) → sign_at (sign append after) ≡ Some (append, after)
unfolding sign_at
sign_complete false after = refl
sign_complete true after = refl

sign_no_name : (append : Bool) (after : List ℕ) → starts continues_name (sign append after) ≡ false
sign_no_name false after = marks.equals_no_name
sign_no_name true after = marks.plus_no_name

-- ---- commands

pub words_command_sound : (bytes : List ℕ) (c : Command) → starts is_blank bytes ≡ false → words_command bytes ≡ Some c → CommandAt c bytes
unfolding words_command
words_command_sound bytes c stops e =
    let a = bind_some (words_at (suc (length bytes)) bytes) named c e in
    first a.0 (words_sound (suc (length bytes)) bytes a.0 a.1) a.2
  where
    first : (x : List (List Part)) → WordsAt (words_from x) bytes → named x ≡ Some c → CommandAt c bytes
    first [] h k = absurd cc
    first (w ∷ ws) h k =
        let s = Run-is is_blank [] bytes bytes (record { whole = refl; each = tt; stops = stops }) in
        let t = Run-is is_blank h.0 bytes h.1 h.3 in
        let same : h.1 ≡ bytes = sym t.1 ∙ s.1 in
        subst (λ (y : Command). CommandAt y bytes) (some_is (simple no_assign (words_from (w ∷ ws))) c k)
        (h.2, subst (λ (l : List ℕ). WordAt (parts_of w) l h.2) same h.4, h.5)

assign_command_sound : (name : List ℕ) (s : Bool × List ℕ) (bytes : List ℕ) (c : Command) → starts begins_name bytes ≡ true → Run continues_name name bytes (sign s.0 s.1) → assign_command name s ≡ Some c → CommandAt c bytes
unfolding assign_command
assign_command_sound name s bytes c first r e =
    let a = bind_some (value_at s.1) (λ v. Some (simple (assign name s.0 v no_assign) no_word)) c e in
    subst (λ (y : Command). CommandAt y bytes) (some_is (simple (assign name s.0 a.0 no_assign) no_word) c a.2) (s.1, first, r, value_sound s.1 a.0 a.1)

by_sign_sound : (bytes : List ℕ) (o : Option (Bool × List ℕ)) (c : Command) → starts is_blank bytes ≡ false → starts begins_name bytes ≡ true → sign_at (run_at continues_name bytes).1 ≡ o → by_sign (run_at continues_name bytes).0 o bytes ≡ Some c → CommandAt c bytes
by_sign_sound bytes None c stops first is e = words_command_sound bytes c stops e
by_sign_sound bytes (Some s) c stops first is e =
    assign_command_sound (run_at continues_name bytes).0 s bytes c first (subst (λ (l : List ℕ). Run continues_name (run_at continues_name bytes).0 bytes l) (sign_sound (run_at continues_name bytes).1 s is) (Run-front continues_name bytes)) e

pub command_sound : (bytes : List ℕ) (c : Command) → starts is_blank bytes ≡ false → command_at bytes ≡ Some c → CommandAt c bytes
unfolding command_at
command_sound bytes c stops e =
    elim (chosen (starts begins_name bytes) (by_sign (run_at continues_name bytes).0 (sign_at (run_at continues_name bytes).1) bytes) (words_command bytes) (Some c) e) [
      | inl h ↦ by_sign_sound bytes (sign_at (run_at continues_name bytes).1) c stops h.0 refl h.1
      | inr h ↦ words_command_sound bytes c stops h.1
    ]

-- ---- a word isn't an assignment

name_is_plain : (b : ℕ) → continues_name b ≡ true → is_plain_byte b ≡ true
unfolding continues_name is_plain_byte
name_is_plain b e = rw e refl

plus_is_plain : is_plain_byte 43 ≡ true
unfolding is_plain_byte
plus_is_plain = refl

equals_no_blank : is_blank 61 ≡ false
unfolding is_blank
equals_no_blank = refl

quote_begins_no_name : begins_name 39 ≡ false
unfolding begins_name
quote_begins_no_name = refl

double_begins_no_name : begins_name 34 ≡ false
unfolding begins_name
double_begins_no_name = refl

-- no part begins with `=`, and no word ends there
no_equals_part : (p : Part) (more rest : List ℕ) → PartAt p (61 ∷ more) rest → ⊥
no_equals_part (plain text) more rest h = let k = marks.equals_no_plain in let e : is_plain_byte 61 ≡ true = h.0 in absurd cc
no_equals_part (exact text) more rest h = let e : is_blank 61 ≡ is_blank 61 = refl in let k : eqb 61 39 ≡ true = ap (starts (λ b. eqb b 39)) h.1 in absurd cc
no_equals_part (double ps) more rest h = let k : eqb 61 34 ≡ true = ap (starts (λ b. eqb b 34)) h.1 in absurd cc
no_equals_part (param name) more rest h = h

no_equals_parts : (ps : Parts) (more rest : List ℕ) → PartsAt ps (61 ∷ more) rest → ⊥
no_equals_parts no_part more rest h =
    let a : ends_word (61 ∷ more) ≡ true = ap ends_word h.0 ∙ h.1 in
    let b : ends_word (61 ∷ more) ≡ false = equals_no_blank in
    absurd cc
no_equals_parts (part p ps) more rest h = no_equals_part p more h.0 h.1

-- a word's first part takes all plain bytes
no_plain_front : (w : Parts) (front more bytes after : List ℕ) → starts begins_name bytes ≡ true → Each is_plain_byte front → bytes ≡ front ++ 61 ∷ more → WordAt w bytes after → ⊥
no_plain_front no_part front more bytes after first each is h =
    let a : ends_word bytes ≡ true = ap ends_word h.1.0 ∙ h.1.1 in
    let b : ends_word bytes ≡ false = h.0 in
    absurd cc
no_plain_front (part (plain text) ps) front more bytes after first each is h =
    let mine = Run-is is_plain_byte front bytes (61 ∷ more) (record { whole = is; each = each; stops = marks.equals_no_plain }) in
    let theirs = Run-is is_plain_byte text bytes h.1.0 h.1.1.1 in
    let same : h.1.0 ≡ 61 ∷ more = sym theirs.1 ∙ mine.1 in
    no_equals_parts ps more after (subst (λ (l : List ℕ). PartsAt ps l after) same h.1.2)
no_plain_front (part (exact text) ps) front more bytes after first each is h =
    let a : begins_name 39 ≡ true = sym (ap (starts begins_name) h.1.1.1) ∙ first in
    let b = quote_begins_no_name in
    absurd cc
no_plain_front (part (double qs) ps) front more bytes after first each is h =
    let a : begins_name 34 ≡ true = sym (ap (starts begins_name) h.1.1.1) ∙ first in
    let b = double_begins_no_name in
    absurd cc
no_plain_front (part (param name) ps) front more bytes after first each is h = h.1.1

no_sign : (w : Parts) (name bytes after : List ℕ) (append : Bool) (more : List ℕ) → starts begins_name bytes ≡ true → Each continues_name name → bytes ≡ name ++ sign append more → WordAt w bytes after → ⊥
no_sign w name bytes after false more first each is h = no_plain_front w name more bytes after first (Each-to continues_name is_plain_byte name_is_plain name each) is h
no_sign w name bytes after true more first each is h =
    no_plain_front w (name ++ 43 ∷ []) more bytes after first (Each-append is_plain_byte name (43 ∷ []) (Each-to continues_name is_plain_byte name_is_plain name each) (plus_is_plain, tt)) (is ∙ sym (append_assoc name (43 ∷ []) (61 ∷ more))) h

by_no_sign : (w : Parts) (bytes after : List ℕ) (o : Option (Bool × List ℕ)) → starts begins_name bytes ≡ true → WordAt w bytes after → sign_at (run_at continues_name bytes).1 ≡ o → by_sign (run_at continues_name bytes).0 o bytes ≡ words_command bytes
by_no_sign w bytes after None first h is = refl
by_no_sign w bytes after (Some s) first h is =
    let r = Run-front continues_name bytes in
    absurd (no_sign w (run_at continues_name bytes).0 bytes after s.0 s.1 first r.each (r.whole ∙ ap (λ (l : List ℕ). (run_at continues_name bytes).0 ++ l) (sign_sound (run_at continues_name bytes).1 s is)) h)

word_is_words : (w : Parts) (bytes after : List ℕ) (t : Bool) → starts begins_name bytes ≡ t → WordAt w bytes after → command_at bytes ≡ words_command bytes
unfolding command_at
word_is_words w bytes after true e h = rw e (by_no_sign w bytes after (sign_at (run_at continues_name bytes).1) e h refl)
word_is_words w bytes after false e h = rw e refl

words_command_complete : (w : Parts) (ws : Words) (bytes after : List ℕ) → WordAt w bytes after → WordsAt ws after → words_command bytes ≡ Some (simple no_assign (word w ws))
unfolding words_command
words_command_complete w ws bytes after h k =
    let all : WordsAt (word w ws) bytes = ([], bytes, after, record { whole = refl; each = tt; stops = no_blank bytes h.0 }, h, k) in
    rw (words_complete (word w ws) bytes (suc (length bytes)) all (omega arith)) (ap (λ (x : Words). Some (simple no_assign x)) (words_of_list (word w ws)))

pub command_complete : (c : Command) (bytes : List ℕ) → CommandAt c bytes → command_at bytes ≡ Some c
unfolding command_at assign_command
command_complete (simple no_assign no_word) bytes h = absurd h
command_complete (simple no_assign (word w ws)) bytes h = word_is_words w bytes h.0 (starts begins_name bytes) refl h.1 ∙ words_command_complete w ws bytes h.0 h.1 h.2
command_complete (simple (assign name append v no_assign) no_word) bytes h =
    let k = Run-is continues_name name bytes (sign append h.0) h.2 in
    rw (h.1, k.0, k.1, sign_complete append h.0, value_complete v h.0 h.3) refl
command_complete (simple (assign name append v no_assign) (word w ws)) bytes h = absurd h
command_complete (simple (assign name append v (assign name' append' v' more)) ws) bytes h = absurd h
