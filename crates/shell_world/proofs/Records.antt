-- The record only grows.
use Rattle.std.proofs.Common.{◌≡◌, ℕ, List, [], ◌∷◌, ◌++◌, Option, Some, None, refl, sym, append-nil}
use Rattle.shell_world.specs.declared.world.World.{World}
use Rattle.shell_world.specs.declared.world.Row.{Row}
use Rattle.shell_world.specs.declared.world.Answer.{Answer}
use Rattle.shell_world.specs.Texts.{Text, nth}
use Rattle.shell_world.specs.declared.description.Description.TheVariants.{Reading, Writing, Appending, Given, Buffer, Output, Errors}
use Rattle.shell_world.specs.Outside.{Desc, Trace, Outside, Fds, index_at, open_at, write_to, written, unread}
use Rattle.shell_world.specs.Calls.{recorded, answered, answer_at, answered_by, called, chosen_from, times, taken_by, input_after}
use Rattle.shell_world.specs.Ends.{IsPrefix}
use Rattle.shell_world.proofs.Monotone.{prefix_refl, prefix_trans}

none : {X : Type 0} (xs : List X) → (more : List X) × (xs ≡ xs ++ more)
none xs = ([], sym (append-nil xs))

write_to_grows : (i : Option ℕ) (d : Option Desc) (piece : Text) (x : Trace × Outside) → IsPrefix x.0 (write_to i d piece x).0
write_to_grows i None piece x = prefix_refl x.0
write_to_grows i (Some (Reading p o)) piece x = prefix_refl x.0
write_to_grows i (Some (Given w o)) piece x = prefix_refl x.0
write_to_grows i (Some (Writing p o)) piece x = prefix_refl x.0
write_to_grows i (Some (Appending p)) piece x = prefix_refl x.0
write_to_grows i (Some (Buffer w)) piece x = prefix_refl x.0
write_to_grows i (Some Output) piece x = record { calls = none x.0.calls; out = (piece, refl); err = none x.0.err }
write_to_grows i (Some Errors) piece x = record { calls = none x.0.calls; out = none x.0.out; err = (piece, refl) }

pub written_grows : (fd : ℕ) (fds : Fds) (piece : Text) (x : Trace × Outside) → IsPrefix x.0 (written fd fds piece x).0
written_grows fd fds [] x = prefix_refl x.0
written_grows fd fds (b ∷ bs) x = write_to_grows (index_at (nth fd fds)) (open_at fd fds x.1) (b ∷ bs) x

recorded_grows : (argv : List Text) (env : List (Text × Text)) (input : Option Text) (row : Option ℕ) (t : Trace) → IsPrefix t (recorded argv env input row t)
recorded_grows argv env input row t = record { calls = (record { argv = argv; env = env; input = input; row = row } ∷ [], refl); out = none t.out; err = none t.err }

answered_grows : (a : Answer) (fds : Fds) (x : Trace × Outside) → IsPrefix x.0 (answered a fds x).trace
answered_grows a fds x = prefix_trans x.0 _ _ (written_grows 1 fds a.out x) (written_grows 2 fds a.err (written 1 fds a.out x))

answered_by_grows : (c : Option (ℕ × Row)) (argv : List Text) (env : List (Text × Text)) (fds : Fds) (input : Text) (t : Trace) (o : Outside) → IsPrefix t (answered_by c argv env fds input t o).trace
answered_by_grows None argv env fds input t o = recorded_grows argv env None None t
answered_by_grows (Some c) argv env fds input t o =
    let r = recorded argv env (taken_by c.1.input input) (Some c.0) t in
    prefix_trans t r _ (recorded_grows argv env (taken_by c.1.input input) (Some c.0) t) (answered_grows (answer_at (times c.0 t.calls) c.1.answers) fds (r, input_after c.1.input fds o))

pub called_grows : (world : World) (argv : List Text) (env : List (Text × Text)) (fds : Fds) (t : Trace) (o : Outside) → IsPrefix t (called world argv env fds t o).trace
called_grows world argv env fds t o = answered_by_grows (chosen_from 0 world.rows argv (unread (open_at 0 fds o) o)) argv env fds (unread (open_at 0 fds o) o) t o
