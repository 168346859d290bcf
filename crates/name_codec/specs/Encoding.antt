-- Lists of texts as one text: each entry is its length in decimal, a colon and its bytes.
use Rattle.std.specs.Prelude.{◌≡◌, ◌≢◌, ℕ, List, ◌∷◌, ◌++◌, length, Option, Some, IfSome, decimal}
use Rattle.std.specs.List.{flat_map}

-- `3:abc` for abc
abbrev pub entry_text : List ℕ → List ℕ
entry_text entry = decimal (length entry) ++ 58 ∷ entry

-- `1:a2:bc` for a, bc
abbrev pub encoded : List (List ℕ) → List ℕ
encoded entries = flat_map entry_text entries

-- the text is that of this list and of no other, or that of no list
pub record Decodes (text : List ℕ) (answer : Option (List (List ℕ))) : Type 0 where
  pub of_text : IfSome answer (λ entries. encoded entries ≡ text)
  pub of_list : (entries : List (List ℕ)) → encoded entries ≡ text → answer ≡ Some entries

-- no front of the text is an entry
abbrev pub NoEntry : List ℕ → Type 0
NoEntry text = (entry rest : List ℕ) → text ≢ entry_text entry ++ rest
