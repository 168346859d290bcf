-- Which worlds are good, and how a run begins in one.
use Rattle.std.specs.Prelude.{◌≡◌, ◌≢◌, ◌≤◌, ◌==◌, true, false, if◌then◌else◌, List, [], ◌∷◌, ◌++◌, map, Some, None, All, codes}
use Rattle.std.specs.List.{slice_split}
use Rattle.span_text.specs.Names.{is_name, is_reserved}
use Rattle.span_text.specs.KnownNames.{is_special_name}
use Rattle.shell_world.specs.declared.world.World.{World}
use Rattle.shell_world.specs.declared.world.Row.{Row}
use Rattle.shell_world.specs.declared.world.Answer.{Answer}
use Rattle.shell_world.specs.declared.world.RowKey.{RowKey}
use Rattle.shell_world.specs.declared.world.RowKey.TheVariants.{Whole, Name}
use Rattle.shell_world.specs.declared.world.RowInput.{RowInput}
use Rattle.shell_world.specs.declared.world.RowInput.TheVariants.{Nothing, Any, Exactly}
use Rattle.shell_world.specs.Texts.{Text, map_of}
use Rattle.shell_world.specs.declared.description.Description.TheVariants.{Given, Output, Errors}
use Rattle.shell_world.specs.Outside.{Outside, Trace, Fds}

abbrev pub NoNul : Text → Type 0
NoNul text = All (λ b. b ≢ 0) text

-- no two of the texts are the same
abbrev pub Distinct : List Text → Type 0
Distinct [] = Unit {0}
Distinct (t ∷ ts) = All (λ u. u ≢ t) ts × Distinct ts

-- a part of a path between two `/`
pub record IsComponent (text : Text) : Type 0 where
  pub something : text ≢ []
  pub no_here : text ≢ codes "."
  pub no_above : text ≢ codes ".."
  pub no_nul : NoNul text

-- a path without the `/` that it may begin with
abbrev pub below_root : Text → Text
below_root [] = []
below_root (b ∷ path) = if b == 47 then path else b ∷ path

-- one or more components joined by `/`, with or without a leading `/`
abbrev pub IsPath : Text → Type 0
IsPath path = All IsComponent (slice_split (λ b. b == 47) (below_root path))

-- a folder of a path: a front of it, not empty, that stands before a `/`
abbrev pub IsFolderOf : Text → Text → Type 0
IsFolderOf folder path = (folder ≢ []) × ((rest : Text) × (path ≡ folder ++ 47 ∷ rest))

pub record AreFiles (files : List (Text × Text)) : Type 0 where
  pub paths : All (λ f. IsPath f.0) files
  pub distinct : Distinct (map (λ f. f.0) files)
  pub apart : All (λ f. All (λ g. ¬ IsFolderOf f.0 g.0) files) files

pub record IsVariable (name value : Text) : Type 0 where
  pub valid : is_name name ≡ true
  pub unreserved : is_reserved name ≡ false
  pub plain : is_special_name name ≡ false
  pub no_nul : NoNul value

abbrev pub IsKey : RowKey → Type 0
IsKey (Whole words) = (words ≢ []) × All NoNul words
IsKey (Name name) = NoNul name

abbrev pub IsInput : RowInput → Type 0
IsInput Nothing = Unit {0}
IsInput Any = Unit {0}
IsInput (Exactly text) = NoNul text

abbrev pub IsAnswer : Answer → Type 0
IsAnswer a = NoNul a.out × NoNul a.err

pub record IsRow (row : Row) : Type 0 where
  pub key : IsKey row.key
  pub input : IsInput row.input
  pub some : row.answers ≢ []
  pub answers : All IsAnswer row.answers

-- a good world
pub record IsGood (world : World) : Type 0 where
  pub args : (world.args ≢ []) × All NoNul world.args
  pub env : All (λ v. IsVariable v.0 v.1) world.env
  pub distinct : Distinct (map (λ v. v.0) world.env)
  pub files : AreFiles world.files
  pub contents : All (λ f. NoNul f.1) world.files
  pub rows : All IsRow world.rows
  pub stdin : NoNul world.stdin
  pub redirect : (1 ≤ world.latitude.redirect) × (world.latitude.redirect ≤ 125)

abbrev pub no_trace : Trace
no_trace = record { calls = []; out = []; err = [] }

-- standard input, standard output and standard error are open
abbrev pub start_outside : World → Outside
start_outside world = record { files = map_of world.files; descs = Given world.stdin 0 ∷ Output ∷ Errors ∷ [] }

abbrev pub start_fds : Fds
start_fds = Some 0 ∷ Some 1 ∷ Some 2 ∷ None ∷ None ∷ None ∷ None ∷ None ∷ None ∷ None ∷ []

-- what IFS is at the start: a space, a tab and a newline
abbrev pub start_ifs : Text
start_ifs = 32 ∷ 9 ∷ 10 ∷ []
