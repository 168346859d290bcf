-- Names of files: the Bash manual's "Filename Expansion", POSIX's "Patterns Used for Filename Expansion" (XCU 2.13.3).
use Rattle.std.specs.Prelude.{ℕ, Bool, true, false, not, ◌||◌, ◌&&◌, ◌==◌, if◌then◌else◌, List, [], ◌∷◌, ◌++◌, length, map, Option, Some, None}
use Rattle.std.specs.List.{list_any, filter_map, starts_with}
use Rattle.span_text.specs.declared.flagged.Item.{Item}
use Rattle.glob_pattern.specs.declared.sign.Sign.{Sign}
use Rattle.glob_pattern.specs.declared.piece.Piece.{Piece}
use Rattle.glob_pattern.specs.declared.piece.Piece.TheVariants.{Byte, Any, Run, Among, Outside}
use Rattle.glob_pattern.specs.declared.component.Component.{Component}
use Rattle.glob_pattern.specs.declared.component.Component.TheVariants.{Empty, Here, Named}
use Rattle.glob_pattern.specs.Signs.{signs_from}
use Rattle.glob_pattern.specs.Brackets.{parts}
use Rattle.glob_pattern.specs.Reading.{piece_len, piece_at}
use Rattle.glob_pattern.specs.Pieces.{matches}

-- what stands between the items that pass

abbrev pub put_first : {X : Type 0} → List X → List (List X) → List (List X)
put_first front [] = front ∷ []
put_first front (part ∷ others) = (front ++ part) ∷ others

abbrev pub cut : {X : Type 0} → (X → Bool) → List X → List (List X)
cut ends [] = [] ∷ []
cut ends (x ∷ xs) = if ends x then ([] ∷ cut ends xs) else put_first (x ∷ []) (cut ends xs)

abbrev pub is_slash_sign : Sign → Bool
is_slash_sign sign = sign.byte == 47

abbrev pub is_slash_byte : ℕ → Bool
is_slash_byte b = b == 47

-- a `/` at the beginning

abbrev pub is_rooted : {X : Type 0} → (X → Bool) → List X → Bool
is_rooted slash [] = false
is_rooted slash (x ∷ xs) = slash x

abbrev pub unrooted : {X : Type 0} → (X → Bool) → List X → List X
unrooted slash [] = []
unrooted slash (x ∷ xs) = if slash x then xs else (x ∷ xs)

-- components of a pattern

abbrev pub is_dot : List Piece → Bool
is_dot (Byte b ∷ []) = b == 46
is_dot (Byte b ∷ piece ∷ pieces) = false
is_dot [] = false
is_dot (Any ∷ pieces) = false
is_dot (Run ∷ pieces) = false
is_dot (Among members ∷ pieces) = false
is_dot (Outside members ∷ pieces) = false

abbrev pub component_of : List Piece → Component
component_of pieces = if length pieces == 0 then Empty else (if is_dot pieces then Here else Named pieces)

-- A `/` stands for itself, quoted or not.
unfoldable pub components_of : List Sign → List Component
components_of signs = map (λ part. component_of (parts piece_len piece_at 0 part)) (cut is_slash_sign (unrooted is_slash_sign signs))

-- names

abbrev pub begins_dot : List ℕ → Bool
begins_dot [] = false
begins_dot (b ∷ bs) = b == 46

abbrev pub first_dot : List Piece → Bool
first_dot [] = false
first_dot (Byte b ∷ pieces) = b == 46
first_dot (Any ∷ pieces) = false
first_dot (Run ∷ pieces) = false
first_dot (Among members ∷ pieces) = false
first_dot (Outside members ∷ pieces) = false

-- whether pieces match one component of a name; its leading `.` is matched by a `.` alone
abbrev pub fits_name : List Piece → List ℕ → Bool
fits_name pieces name = (not (begins_dot name) || first_dot pieces) && matches pieces name

abbrev pub before : List ℕ → Option (List ℕ) → Option (List ℕ)
before front None = None
before front (Some rest) = Some (front ++ rest)

-- The text of a name whose components match those of a pattern: an empty one and a `.` are kept, each other one takes
-- one component of the name. Lead stands before the first, a `/` before each further one.
abbrev pub spelled : List ℕ → List Component → List (List ℕ) → Option (List ℕ)
spelled lead [] [] = Some []
spelled lead [] (name ∷ names) = None
spelled lead (Empty ∷ components) names = before lead (spelled (47 ∷ []) components names)
spelled lead (Here ∷ components) names = before (lead ++ 46 ∷ []) (spelled (47 ∷ []) components names)
spelled lead (Named pieces ∷ components) [] = None
spelled lead (Named pieces ∷ components) (name ∷ names) =
    if fits_name pieces name then before (lead ++ name) (spelled (47 ∷ []) components names) else None

abbrev pub is_kept : Component → Bool
is_kept Empty = true
is_kept Here = true
is_kept (Named pieces) = false

-- whether the last component is kept; asks tells this of the one before
abbrev pub asks_from : Bool → List Component → Bool
asks_from asks [] = asks
asks_from asks (component ∷ components) = asks_from (is_kept component) components

-- what stands behind a last `/`, or a `.` there, asks for a folder
abbrev pub asks_folder : List Component → Bool
asks_folder components = asks_from false components

-- a folder is what another name goes on behind with a `/`
abbrev pub is_folder : List (List ℕ) → List ℕ → Bool
is_folder names name = list_any (λ other. starts_with ◌==◌ other (name ++ 47 ∷ [])) names

abbrev pub lead_of : Bool → List ℕ
lead_of true = 47 ∷ []
lead_of false = []

-- both or neither
abbrev pub same_root : Bool → Bool → Bool
same_root true b = b
same_root false b = not b

-- the text that a pattern makes of a name that it matches
abbrev pub path_of : Bool → List Component → List (List ℕ) → List ℕ → Option (List ℕ)
path_of rooted components names name =
    if same_root rooted (is_rooted is_slash_byte name) && (not (asks_folder components) || is_folder names name)
    then spelled (lead_of rooted) components (cut is_slash_byte (unrooted is_slash_byte name))
    else None

-- the names that a pattern matches, as it spells them
unfoldable pub found_paths : List Item → List (List ℕ) → List (List ℕ)
found_paths items names = let signs = signs_from 0 items in
    filter_map (path_of (is_rooted is_slash_sign signs) (components_of signs) names) names
