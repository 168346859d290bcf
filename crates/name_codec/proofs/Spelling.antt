-- Reserved names are names, and differ.
use Rattle.std.proofs.Common.{◌≡◌, ℕ, suc, ◌+◌, ◌/◌, ◌%◌, ◌<◌, Bool, true, false, cond, eqb, List, [], ◌∷◌, ◌++◌, get_or, refl, sym, ap, ◌∙◌, arith, IsTrue}
use Rattle.std.proofs.lemmas.Bool.{agree_below_at, and_from, eqb-true}
use Rattle.std.proofs.lemmas.List.Folds.{list_all-append}
use Rattle.std.specs.List.{flat_map, list_all}
use Rattle.span_text.specs.Names.{is_name, is_reserved}
use Rattle.name_codec.specs.declared.names.Role.{Role}
use Rattle.name_codec.specs.declared.names.Role.TheVariants.{Temporary, Helper, HelperVariable, Array, Depth, SaveStack, Marks}
use Rattle.name_codec.specs.Reserved.{role_letter, is_plain, spelled_byte, reserved_name, ReservedApart}
use Rattle.name_codec.proofs.Named.{follows, prefix_names, prefix_reserves}

-- the use of a letter
abbrev role_of : ℕ → Role
role_of n = cond (eqb n 116) Temporary (cond (eqb n 104) Helper (cond (eqb n 118) HelperVariable (cond (eqb n 97) Array (cond (eqb n 100) Depth (cond (eqb n 115) SaveStack Marks)))))

role_of-letter : (role : Role) → role_of (role_letter role) ≡ role
role_of-letter Temporary = refl
role_of-letter Helper = refl
role_of-letter HelperVariable = refl
role_of-letter Array = refl
role_of-letter Depth = refl
role_of-letter SaveStack = refl
role_of-letter Marks = refl

same_role : (role other : Role) → role_letter role ≡ role_letter other → role ≡ other
same_role role other e = sym (role_of-letter role) ∙ ap role_of e ∙ role_of-letter other

-- how a byte is written, by the two tests of it
abbrev spelled_by : Bool → Bool → ℕ → List ℕ
spelled_by plain line b = cond plain (b ∷ []) (cond line (95 ∷ 95 ∷ []) (95 ∷ (97 + b / 16) ∷ (97 + b % 16) ∷ []))

-- `_` is not written as itself
line_not_plain : (b : ℕ) → is_plain b ≡ true → b ≡ 95 → ⊥
line_not_plain b plain e = let other : is_plain b ≡ false = ap is_plain e in absurd cc

-- the first byte that is written, and what stands behind it
first_byte : (b c : ℕ) (x y : List ℕ) (p u q v : Bool) → is_plain b ≡ p → eqb b 95 ≡ u → is_plain c ≡ q → eqb c 95 ≡ v → spelled_by p u b ++ x ≡ spelled_by q v c ++ y → (b ≡ c) × (x ≡ y)
first_byte b c x y true u true v pb ub qc vc e = (cc, cc)
first_byte b c x y true u false true pb ub qc vc e = absurd (line_not_plain b pb cc)
first_byte b c x y true u false false pb ub qc vc e = absurd (line_not_plain b pb cc)
first_byte b c x y false true true v pb ub qc vc e = absurd (line_not_plain c qc cc)
first_byte b c x y false false true v pb ub qc vc e = absurd (line_not_plain c qc cc)
first_byte b c x y false true false true pb ub qc vc e = (eqb-true b 95 ub ∙ sym (eqb-true c 95 vc), cc)
first_byte b c x y false true false false pb ub qc vc e = let upper : 95 ≡ 97 + c / 16 = cc in absurd (omega arith)
first_byte b c x y false false false true pb ub qc vc e = let upper : 97 + b / 16 ≡ 95 = cc in absurd (omega arith)
first_byte b c x y false false false false pb ub qc vc e =
    let upper : 97 + b / 16 ≡ 97 + c / 16 = cc in
    let lower : 97 + b % 16 ≡ 97 + c % 16 = cc in
    (omega arith, cc)

some_bytes : (b : ℕ) (x : List ℕ) (p u : Bool) → [] ≡ spelled_by p u b ++ x → ⊥
some_bytes b x true u e = absurd cc
some_bytes b x false true e = absurd cc
some_bytes b x false false e = absurd cc

same_name : (name text : List ℕ) → flat_map spelled_byte name ≡ flat_map spelled_byte text → name ≡ text
same_name [] [] e = refl
same_name [] (c ∷ cs) e = absurd (some_bytes c (flat_map spelled_byte cs) (is_plain c) (eqb c 95) e)
same_name (b ∷ bs) [] e = absurd (some_bytes b (flat_map spelled_byte bs) (is_plain b) (eqb b 95) (sym e))
same_name (b ∷ bs) (c ∷ cs) e =
    let parts = first_byte b c (flat_map spelled_byte bs) (flat_map spelled_byte cs) (is_plain b) (eqb b 95) (is_plain c) (eqb c 95) refl refl refl refl e in
    let rest = same_name bs cs parts.1 in
    let first = parts.0 in
    cc

pub reserved_apart : ReservedApart
reserved_apart role other name text e =
    let letter : role_letter role ≡ role_letter other = cc in
    let rest : flat_map spelled_byte name ≡ flat_map spelled_byte text = cc in
    (same_role role other letter, same_name name text rest)

-- each byte that is written may stand in a name
names_byte : (b : ℕ) → b < 256 → list_all follows (spelled_byte b) ≡ true
names_byte b byte = agree_below_at (λ c. list_all follows (spelled_byte c)) (λ _. true) 256 b refl byte

names_bytes : (name : List ℕ) → ((i : ℕ) → get_or name i 0 < 256) → list_all follows (flat_map spelled_byte name) ≡ true
names_bytes [] bytes = refl
names_bytes (b ∷ bs) bytes = list_all-append follows (spelled_byte b) (flat_map spelled_byte bs) ∙ and_from _ _ (names_byte b (bytes 0)) (names_bytes bs (λ i. bytes (suc i)))

letter_names : (role : Role) → follows (role_letter role) ≡ true
letter_names Temporary = refl
letter_names Helper = refl
letter_names HelperVariable = refl
letter_names Array = refl
letter_names Depth = refl
letter_names SaveStack = refl
letter_names Marks = refl

pub reserved_is_name : (role : Role) (name : List ℕ) → ((i : ℕ) → get_or name i 0 < 256) → IsTrue (is_name (reserved_name role name))
reserved_is_name role name bytes = prefix_names (role_letter role ∷ 95 ∷ flat_map spelled_byte name) (and_from _ _ (letter_names role) (names_bytes name bytes))

pub reserved_is_reserved : (role : Role) (name : List ℕ) → IsTrue (is_reserved (reserved_name role name))
reserved_is_reserved role name = prefix_reserves (role_letter role ∷ 95 ∷ flat_map spelled_byte name)
