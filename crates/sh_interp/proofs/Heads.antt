-- The first element of a list, and one further on, before those behind it.
use Rattle.std.proofs.Common.{◌≡◌, ℕ, zero, suc, ◌+◌, ◌-◌, ◌<◌, ◌≤◌, List, [], ◌∷◌, length, get_or, drop, take, refl, sym, ap, ◌∙◌, arith, add-one}
use Rattle.std.specs.Prelude.{Option, Some, true, false, map, slice_get}
use Rattle.shell_world.specs.Texts.{Text}
use Rattle.shell_world.specs.Runs.{St, Do, after}
use Rattle.shell_runs.specs.Flow.{Flow}
use Rattle.shell_runs.specs.Loops.{items_run}
use Rattle.shell_runs.specs.Shells.{stage_run, pipeline_over}
use Rattle.sh_grammar.specs.Shape as shape
use Rattle.sh_syntax.specs.declared.tree.Command.{Command}
use Rattle.sh_syntax.specs.View.{view_assign, view_command, assigns_of, stages_of}
use Rattle.sh_syntax.specs.declared.tree.Assign.{Assign}
use Rattle.sh_meaning.specs.Own.{Own, assigned, is_zero, fds_of, with_fds, status_of, with_status}
use Rattle.sh_meaning.specs.Simple.{Setting, Calls, found, has_assigns}
use Rattle.sh_interp.specs.declared.jobs.Lookup.{Lookup}
use Rattle.sh_interp.specs.Views.{Looked, found_of}
use Rattle.sh_meaning.specs.Commands.{walk_by, in_shell_place, command_run, piped_run, stages_run}
use Rattle.sh_meaning.specs.builtins.Places.{Place}

all_taken : {X : Type 0} (xs : List X) → take (length xs) xs ≡ xs
all_taken [] = refl
all_taken (x ∷ xs) = ap (λ l. x ∷ l) (all_taken xs)

rest_is : {X : Type 0} (y : X) (ys : List X) → take (length (y ∷ ys) - 1) ys ≡ ys
rest_is y ys = let e : length (y ∷ ys) - 1 ≡ length ys = omega arith in rw e (all_taken ys)

pub first_is : {X : Type 0} (xs : List X) (x : X) → 1 ≤ length xs → x ≡ get_or xs 0 x → xs ≡ x ∷ take (length xs - 1) (drop 1 xs)
first_is [] x h e = absurd (omega arith)
first_is (y ∷ ys) x h e = ap (λ v. v ∷ ys) (sym e) ∙ ap (λ l. x ∷ l) (sym (rest_is y ys))

-- a list whose length is below one
pub none_is : {X : Type 0} (xs : List X) → length xs < 1 → xs ≡ []
none_is [] h = refl
none_is (y ∷ ys) h = absurd (omega arith)

next_suc : {X : Type 0} (xs : List X) (i : ℕ) (x : X) → slice_get xs i ≡ Some x → drop i xs ≡ x ∷ drop (suc i) xs
next_suc [] i x e = cc
next_suc (y ∷ ys) zero x e = cc
next_suc (y ∷ ys) (suc i) x e = next_suc ys i x e

pub next_is : {X : Type 0} (xs : List X) (i : ℕ) (x : X) → slice_get xs i ≡ Some x → drop i xs ≡ x ∷ drop (i + 1) xs
next_is xs i x e = rw (add-one i) (next_suc xs i x e)

-- `for` over texts that are there
pub walks : (name : Text) (body : Do Flow Own) (xs : List Text) (n : ℕ) (s : St Own) → ¬ (length xs ≡ 0) → walk_by name body xs n s ≡ items_run (assigned name) body xs n s
walks name body [] n s h = absurd (h refl)
walks name body (x ∷ xs) n s h = refl

pub not_zero : (n : ℕ) → ¬ (n ≡ 0) → is_zero n ≡ false
not_zero zero h = absurd (h refl)
not_zero (suc n) h = refl

-- stages with others behind them
pub piped_more : (z : Setting) (call : Calls) (c : shape.Command) (cs : List Command) (n : ℕ) (s : St Own) → 1 ≤ length cs →
    piped_run z call (shape.stage c (stages_of (map view_command cs))) n s
    ≡ stage_run fds_of with_fds (command_run z call in_shell_place c) (piped_run z call (stages_of (map view_command cs))) n s
piped_more z call c [] n s h = absurd (omega arith)
piped_more z call c (x ∷ xs) n s h = refl

pub stages_more : (z : Setting) (call : Calls) (place : Place) (c : shape.Command) (cs : List Command) (n : ℕ) (s : St Own) → 1 ≤ length cs →
    stages_run z call place (shape.stage c (stages_of (map view_command cs))) n s
    ≡ after (stage_run fds_of with_fds (command_run z call in_shell_place c) (piped_run z call (stages_of (map view_command cs))) n s) (pipeline_over z.world.latitude.last_current with_fds fds_of status_of with_status s.own)
stages_more z call place c [] n s h = absurd (omega arith)
stages_more z call place c (x ∷ xs) n s h = refl

-- what a command's texts begin with
pub record First (texts : List Text) (o : Own) (l : Lookup) : Type 0 where
  pub name : Text
  pub args : List Text
  pub is : texts ≡ name ∷ args
  pub known : found_of l ≡ found name o

pub first_of : (texts : List Text) (o : Own) (l : Lookup) → Looked texts o (Some l) → First texts o l
first_of [] o l h = absurd h
first_of (x ∷ xs) o l h = record { name = x; args = xs; is = refl; known = h }

pub suc_of : (n : ℕ) → ¬ (n ≡ 0) → n ≡ suc (n - 1)
suc_of zero h = absurd (h refl)
suc_of (suc n) h = let e : suc n - 1 ≡ n = omega arith in ap suc (sym e)

pub led_more : (xs : List Assign) → 1 ≤ length xs → has_assigns (assigns_of (map view_assign xs)) ≡ true
led_more [] h = absurd (omega arith)
led_more (x ∷ xs) h = refl
