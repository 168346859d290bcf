-- The words of `echo`.
use Rattle.std.proofs.Common.{◌≡◌, ℕ, ◌+◌, ◌<◌, Bool, true, false, cond, List, [], ◌∷◌, ◌++◌, length, drop, get_or, None, Some, Result, Ok, Err, refl, sym, ap, ◌∙◌, arith}
use Rattle.std.proofs.lemmas.List.{append_assoc, drop_more}
use Rattle.fmt_print.specs.Echoing.{word_shows, with_text, next_word, between, echoes}
use Rattle.fmt_print.specs.declared.Printed.{Printed}
use Rattle.fmt_print.specs.declared.fault.EchoFault.{EchoFault}
use Rattle.fmt_print.specs.declared.fault.EchoFault.TheVariants.{Unsupported}

pub with_text-nil : (later : Result (List ℕ) EchoFault) → with_text [] later ≡ later
with_text-nil (Ok later) = refl
with_text-nil (Err fault) = refl

with_text-with_text : (a b : List ℕ) (later : Result (List ℕ) EchoFault) → with_text a (with_text b later) ≡ with_text (a ++ b) later
with_text-with_text a b (Ok later) = ap (λ t. Ok t) (sym (append_assoc a b later))
with_text-with_text a b (Err fault) = refl

-- a word that has no meaning
fails_by : (escapes : Bool) (old end : List ℕ) (k : ℕ) (word : List ℕ) (words : List (List ℕ)) → word_shows escapes word ≡ None → with_text old (echoes escapes end k (word ∷ words)) ≡ Err (Unsupported k)
fails_by escapes old end k word words e = ap (λ o. with_text old (next_word k o (with_text (between words) (echoes escapes end (k + 1) words)))) e

here : (words : List (List ℕ)) (k : ℕ) (word : List ℕ) → k < length words → word ≡ get_or words k word → drop k words ≡ word ∷ drop (k + 1) words
here words k word within read = drop_more words k word within ∙ ap (λ w. w ∷ drop (k + 1) words) (sym read)

pub word_fails : (escapes : Bool) (words : List (List ℕ)) (k : ℕ) (word old end : List ℕ) → k < length words → word ≡ get_or words k word → word_shows escapes word ≡ None → with_text old (echoes escapes end k (drop k words)) ≡ Err (Unsupported k)
word_fails escapes words k word old end within read e =
    ap (λ ws. with_text old (echoes escapes end k ws)) (here words k word within read) ∙ fails_by escapes old end k word (drop (k + 1) words) e

shows_by : (escapes : Bool) (old end text : List ℕ) (cut : Bool) (k : ℕ) (words : List (List ℕ)) → with_text old (next_word k (Some (record { text = text; cut = cut })) (with_text (between words) (echoes escapes end (k + 1) words))) ≡ cond cut (Ok (old ++ text)) (with_text ((old ++ text) ++ between words) (echoes escapes end (k + 1) words))
shows_by escapes old end text true k words = refl
shows_by escapes old end text false k words =
    ap (with_text old) (with_text-with_text text (between words) (echoes escapes end (k + 1) words)) ∙ with_text-with_text old (text ++ between words) (echoes escapes end (k + 1) words) ∙ ap (λ t. with_text t (echoes escapes end (k + 1) words)) (sym (append_assoc old text (between words)))

-- the space behind a word
pub space : (words : List (List ℕ)) → 0 < length words → between words ≡ 32 ∷ []
space [] some = absurd (omega arith)
space (word ∷ words) some = refl

same_end : (escapes : Bool) (old new text end : List ℕ) (cut : Bool) (k : ℕ) (words : List (List ℕ)) → (cut ≡ true → new ≡ old ++ text) → (cut ≡ false → new ≡ (old ++ text) ++ between words) → cond cut (Ok (old ++ text)) (with_text ((old ++ text) ++ between words) (echoes escapes end k words)) ≡ cond cut (Ok new) (with_text new (echoes escapes end k words))
same_end escapes old new text end true k words ended goes = ap (λ t. Ok t) (sym (ended refl))
same_end escapes old new text end false k words ended goes = ap (λ t. with_text t (echoes escapes end k words)) (sym (goes refl))

pub word_goes : (escapes : Bool) (words : List (List ℕ)) (k : ℕ) (word old new end : List ℕ) (shown : Printed) → k < length words → word ≡ get_or words k word → word_shows escapes word ≡ Some shown → (shown.cut ≡ true → new ≡ old ++ shown.text) → (shown.cut ≡ false → new ≡ (old ++ shown.text) ++ between (drop (k + 1) words)) → with_text old (echoes escapes end k (drop k words)) ≡ cond shown.cut (Ok new) (with_text new (echoes escapes end (k + 1) (drop (k + 1) words)))
word_goes escapes words k word old new end shown within read e cut goes =
    ap (λ ws. with_text old (echoes escapes end k ws)) (here words k word within read) ∙ ap (λ o. with_text old (next_word k o (with_text (between (drop (k + 1) words)) (echoes escapes end (k + 1) (drop (k + 1) words))))) e ∙ shows_by escapes old end shown.text shown.cut k (drop (k + 1) words) ∙ same_end escapes old new shown.text end shown.cut (k + 1) (drop (k + 1) words) cut goes

-- what was printed of the words, and the words that are left
pub record Echoes (escapes : Bool) (end : List ℕ) (words : List (List ℕ)) (from k : ℕ) (text : List ℕ) : Type 0 where
  pub whole : with_text text (echoes escapes end k (drop k words)) ≡ echoes escapes end from (drop from words)
