-- What holds of a choice, and of what is read one behind the other.
use Rattle.std.proofs.Common.{◌≡◌, Bool, true, false, cond, Option, Some, None, refl, subst}
use Rattle.bash_grammar.specs.Tokens.{◌>>=◌}

-- what holds of both ways holds of the choice
pub chosen : {A : Type 0} (P : A → Type 0) (b : Bool) (x y : A) → P x → P y → P (cond b x y)
chosen P true x y p q = p
chosen P false x y p q = q

-- the same, where each way may use what the test said
pub chosen_by : {A : Type 0} (P : A → Type 0) (b : Bool) (x y : A) → (b ≡ true → P x) → (b ≡ false → P y) → P (cond b x y)
chosen_by P true x y p q = p refl
chosen_by P false x y p q = q refl

-- it holds of what there is
abbrev pub If : {A : Type 0} → (A → Type 0) → Option A → Type 0
If P None = Unit {0}
If P (Some x) = P x

pub if_some : {A : Type 0} (P : A → Type 0) (o : Option A) (x : A) → o ≡ Some x → If P o → P x
if_some P o x e h = subst (If P) e h

-- what holds of what is there by more than one way
pub weaker : {A : Type 0} (P Q : A → Type 0) (o : Option A) → ((x : A) → P x → Q x) → If P o → If Q o
weaker P Q None f h = tt
weaker P Q (Some x) f h = f x h

-- what is read behind what was read
pub then : {A B : Type 0} (P : A → Type 0) (Q : B → Type 0) (o : Option A) (f : A → Option B) → If P o → ((x : A) → P x → If Q (f x)) → If Q (o >>= f)
then P Q None f h k = tt
then P Q (Some x) f h k = k x h
