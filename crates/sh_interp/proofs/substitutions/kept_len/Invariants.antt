use Rattle.std.proofs.Common.{◌≡◌, ℕ, ◌+◌, ◌≤◌, length, take}
use Rattle.std.specs.List.{suffix_len}
use Rattle.shell_runs.specs.Shells.{is_newline}
use Rattle.sh_interp.proofs.substitutions.kept_len.Given as goal

-- what was passed over is newlines
abbrev pub invariant-newlines : goal.invariant-newlines
invariant-newlines l =
    (l.len ≤ length l.bytes)
    × (l.len + suffix_len is_newline l.bytes ≡ length l.bytes + suffix_len is_newline (take l.len l.bytes))

abbrev pub decreases-newlines : goal.decreases-newlines
decreases-newlines l = l.len
