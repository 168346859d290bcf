-- What `echo` prints (the manual's "Bash Builtin Commands").
use Rattle.std.specs.Prelude.{◌≡◌, ◌≢◌, ℕ, suc, ◌+◌, Bool, true, false, ◌&&◌, ◌||◌, ◌==◌, if◌then◌else◌, List, [], ◌∷◌, ◌++◌, drop, Option, None, Some, Result, Ok, Err, MatchResult, fold}
use Rattle.std.specs.List.{list_all}
use Rattle.fmt_print.specs.Escapes.{expanded}
use Rattle.fmt_print.specs.declared.Printed.{Printed}
use Rattle.fmt_print.specs.declared.echoing.Options.{Options}
use Rattle.fmt_print.specs.declared.escapes.Dialect.TheVariants.{Echo}
use Rattle.fmt_print.specs.declared.fault.EchoFault.{EchoFault}
use Rattle.fmt_print.specs.declared.fault.EchoFault.TheVariants.{Unsupported, Memory}

-- `n`, `e` and `E`
abbrev pub is_letter : ℕ → Bool
is_letter b = b == 110 || b == 101 || b == 69

abbrev pub are_letters : List ℕ → Bool
are_letters [] = false
are_letters (b ∷ bs) = list_all is_letter (b ∷ bs)

-- `-` and one or more of the letters
abbrev pub is_option : List ℕ → Bool
is_option [] = false
is_option (b ∷ bs) = b == 45 && are_letters bs

abbrev pub with_letter : Options → ℕ → Options
with_letter options b = if b == 110 then record options { newline = false } else record options { escapes = b == 101 }

-- the last of `e` and `E` decides; the dash is no letter
abbrev pub with_word : Options → List ℕ → Options
with_word options word = fold with_letter options (drop 1 word)

-- the options of the leading words, and how many these are
abbrev pub options_of : Options → List (List ℕ) → Options × ℕ
options_of options [] = (options, 0)
options_of options (word ∷ words) =
    if is_option word then (let later = options_of (with_word options word) words in (later.0, suc later.1)) else (options, 0)

abbrev pub no_options : Options
no_options = record { newline = true; escapes = false }

-- what a word prints, where it has a meaning
abbrev pub word_shows : Bool → List ℕ → Option Printed
word_shows escapes word = if escapes then expanded Echo word else Some (record { text = word; cut = false })

abbrev pub with_text : List ℕ → Result (List ℕ) EchoFault → Result (List ℕ) EchoFault
with_text text (Ok later) = Ok (text ++ later)
with_text text (Err fault) = Err fault

-- a cut ends all output
abbrev pub next_word : ℕ → Option Printed → Result (List ℕ) EchoFault → Result (List ℕ) EchoFault
next_word k None later = Err (Unsupported k)
next_word k (Some shown) later = if shown.cut then Ok shown.text else with_text shown.text later

-- a space stands before each word but the first
abbrev pub between : List (List ℕ) → List ℕ
between [] = []
between (word ∷ words) = 32 ∷ []

-- words with spaces between them, and what stands behind the last; k words have come before
abbrev pub echoes : Bool → List ℕ → ℕ → List (List ℕ) → Result (List ℕ) EchoFault
echoes escapes end k [] = Ok end
echoes escapes end k (word ∷ words) = next_word k (word_shows escapes word) (with_text (between words) (echoes escapes end (k + 1) words))

abbrev pub end_of : Options → List ℕ
end_of options = if options.newline then 10 ∷ [] else []

abbrev pub echoed : List (List ℕ) → Result (List ℕ) EchoFault
echoed words = let front = options_of no_options words in echoes front.0.escapes (end_of front.0) front.1 (drop front.1 words)

-- word k was printed behind the old text, or can't be
abbrev pub Shows : Bool → List (List ℕ) → ℕ → Result Bool EchoFault → List ℕ → List ℕ → Type 0
Shows escapes words k result old new =
    MatchResult result (λ cut. (end : List ℕ) → with_text old (echoes escapes end k (drop k words)) ≡ (if cut then Ok new else with_text new (echoes escapes end (k + 1) (drop (k + 1) words))))
    (λ fault. fault ≢ Memory → (end : List ℕ) → with_text old (echoes escapes end k (drop k words)) ≡ Err fault)

-- this is the answer, or there is no memory left
abbrev pub EchoAnswers : Result (List ℕ) EchoFault → Result (List ℕ) EchoFault → Type 0
EchoAnswers result answer = MatchResult result (λ text. answer ≡ Ok text) (λ fault. fault ≢ Memory → answer ≡ Err fault)
