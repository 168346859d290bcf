-- A name that no shell knows is that of an external command in sh.
use Rattle.std.proofs.Common.{◌≡◌, Bool, true, false, ◌||◌, List, [], ◌∷◌, None, refl}
use Rattle.std.specs.Prelude.{codes}
use Rattle.span_text.specs.KnownNames.{same_text, is_among, builtins, is_builtin, is_refused_builtin, is_restricted, is_known_command}
use Rattle.shell_world.specs.Texts.{Text}
use Rattle.sh_meaning.specs.Own.{Own}
use Rattle.sh_meaning.specs.Simple.{found, External}
use Rattle.sh_meaning.specs.builtins.Names.{special_builtin, plain_builtin, builtin_of}

pub no_either : (a b : Bool) → (a || b) ≡ false → (a ≡ false) × (b ≡ false)
no_either true b e = absurd cc
no_either false b e = (refl, e)

-- the name is none of these
abbrev pub Differs : List Text → Text → Type 0
Differs [] name = Unit {0}
Differs (x ∷ xs) name = (same_text x name ≡ false) × Differs xs name

pub differs : (xs : List Text) (name : Text) → is_among xs name ≡ false → Differs xs name
differs [] name e = tt
differs (x ∷ xs) name e = let y = no_either (same_text x name) (is_among xs name) e in (y.0, differs xs name y.1)

unknown : (name : Text) → is_known_command name ≡ false → is_builtin name ≡ false
unknown name e = (no_either (is_builtin name) (is_refused_builtin name) (no_either (is_builtin name || is_refused_builtin name) (is_restricted name) e).0).0

pub no_export : (name : Text) → is_known_command name ≡ false → same_text (codes "export") name ≡ false
unfolding builtins
no_export name e = let d : Differs builtins name = differs builtins name (unknown name e) in d.1.1.1.1.1.1.1.1.1.1.1.1.1.1.1.1.1.0

no_special : (name : Text) → is_known_command name ≡ false → special_builtin name ≡ None
unfolding builtins special_builtin
no_special name e = let d : Differs builtins name = differs builtins name (unknown name e) in rw (d.0, d.1.1.1.1.1.1.1.1.1.1.1.1.0, d.1.1.1.1.1.1.1.1.1.1.1.1.1.0, d.1.1.1.1.1.1.1.1.1.1.1.1.1.1.0, d.1.1.1.1.1.1.1.1.1.1.1.1.1.1.1.0, d.1.1.1.1.1.1.1.1.1.1.0, d.1.1.1.1.1.1.1.1.1.1.1.0, d.1.1.1.1.1.1.1.1.1.1.1.1.1.1.1.1.1.0, d.1.1.1.1.1.1.1.1.1.1.1.1.1.1.1.1.1.1.0) refl

no_plain : (name : Text) → is_known_command name ≡ false → plain_builtin name ≡ None
unfolding builtins plain_builtin
no_plain name e = let d : Differs builtins name = differs builtins name (unknown name e) in rw (d.1.0, d.1.1.0, d.1.1.1.1.0, d.1.1.1.1.1.1.1.0, d.1.1.1.1.1.0, d.1.1.1.1.1.1.0, d.1.1.1.0) refl

no_builtin : (name : Text) → is_known_command name ≡ false → builtin_of name ≡ None
unfolding builtin_of
no_builtin name e = rw (no_special name e, no_plain name e) refl

-- where no function is defined
pub is_external : (name : Text) (o : Own) → is_known_command name ≡ false → o.functions ≡ [] → found name o ≡ External
unfolding found
is_external name o e f = rw (no_special name e, no_builtin name e, e, f) refl
