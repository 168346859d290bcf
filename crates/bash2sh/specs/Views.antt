-- The nodes that are read, as the model has them.
use Rattle.std.specs.Prelude.{◌≡◌, ℕ, Bool, List, [], ◌∷◌, ◌++◌, map, Option, Some, None, Result, Ok, Err}
use Rattle.std.proofs.Common.{Bor}
use Rattle.std.specs.List.{slice_split}
use Rattle.span_text.specs.Scanning.{is_newline}
use Rattle.bash_tree.specs.declared.tree.Part.{Part}
use Rattle.bash_tree.specs.declared.tree.Word.{Word}
use Rattle.bash_tree.specs.Shape as shape
use Rattle.bash_tree.specs.declared.tree.CommandKind.{CommandKind}
use Rattle.bash_tree.specs.declared.tree.Item.{Item}
use Rattle.bash_tree.specs.View.{view_part, command_of, items_of}
use Rattle.bash2sh.specs.declared.fault.ReadFault.{ReadFault}
use Rattle.bash2sh.specs.declared.fault.ReadFault.TheVariants as fault
use Rattle.bash2sh.specs.Model.{script_from}

abbrev pub parts_seen : List Part → List shape.Part
parts_seen ps = map view_part ps

abbrev pub words_seen : List Word → List (List shape.Part)
words_seen ws = map (λ w. parts_seen w.parts) ws

-- the `=` or `+=` that was found
abbrev pub sign_seen : Bool × Bor (List ℕ) → Bool × List ℕ
sign_seen s = (s.0, s.1.now)

-- the command of a line that has one
abbrev pub command_seen : Option CommandKind → Option shape.Command
command_seen None = None
command_seen (Some k) = Some (command_of k)

-- what the loop over the lines gives
abbrev pub GivesItems : Result (List Item) ReadFault → Result (List shape.Command) ℕ → Type 0
GivesItems (Ok items) read = (cs : List shape.Command) × (read ≡ Ok cs) × (items_of items ≡ script_from cs)
GivesItems (Err fault.Memory) read = Unit {0}
GivesItems (Err (fault.NotYet place)) read = read ≡ Err place

abbrev pub IfNotYet : ReadFault → (ℕ → Type 0) → Type 0
IfNotYet fault.Memory P = Unit {0}
IfNotYet (fault.NotYet place) P = P place

-- a text is its first line and, behind its newline, what follows
abbrev pub Cut : List ℕ → List ℕ → Option (Bor (List ℕ)) → Type 0
Cut text line None = (text ≡ line) × (slice_split is_newline text ≡ line ∷ [])
Cut text line (Some more) = (text ≡ line ++ 10 ∷ more.now) × (slice_split is_newline text ≡ line ∷ slice_split is_newline more.now)

-- the command of a line, where it has one, stands behind the others
abbrev pub Pushed : List Item → Option shape.Command → List Item → Type 0
Pushed old None new = new ≡ old
Pushed old (Some c) new = (i : Item) × (new ≡ old ++ i ∷ []) × (items_of (i ∷ []) ≡ shape.item (shape.alone c) shape.no_item)
