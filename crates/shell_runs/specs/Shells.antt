-- Shell environments of their own (POSIX XCU 2.12): subshells, command substitutions (2.6.3), and the stages of pipelines (2.9.2). Only the outside, the record and a status stay of them.
use Rattle.std.specs.Prelude.{ℕ, Bool, true, false, ◌==◌, ◌-◌, [], length, take, Some}
use Rattle.std.specs.List.{suffix_len}
use Rattle.shell_world.specs.Texts.{Text}
use Rattle.shell_world.specs.declared.description.Description.TheVariants.{Given, Buffer}
use Rattle.shell_world.specs.Outside.{Fds, desc_at}
use Rattle.shell_world.specs.Opening.{with_desc, buffer_text, taken_at}
use Rattle.shell_world.specs.Lines.{without_nul}
use Rattle.shell_world.specs.Runs.{St, Ends, Do, after, with_own}
use Rattle.shell_runs.specs.Flow.{Flow, Normal}
use Rattle.shell_runs.specs.Redirecting.{with_both, with_fd}

-- behind a subshell: the part before it, with its status
abbrev pub shell_over : {S : Type 0} → (S → ℕ) → (ℕ → S → S) → S → Flow → Do Flow S
shell_over status with_status before flow n s = Ends Normal (with_own s (with_status (status s.own) before)) n

abbrev pub in_shell : {S : Type 0} → (S → ℕ) → (ℕ → S → S) → Do Flow S → Do Flow S
in_shell status with_status run n s = after (run n s) (shell_over status with_status s.own)

-- ---- what is written is kept

-- descriptor 1 is open for a buffer of its own, which gets the next number
abbrev pub buffered : {S : Type 0} → (S → Fds) → (Fds → S → S) → St S → St S
buffered fds with_fds s = with_both s (with_desc (Buffer []) s.outside) (with_fds (with_fd 1 (Some (length s.outside.descs)) (fds s.own)) s.own)

-- what was written to the buffer of this number
abbrev pub written_to : {S : Type 0} → ℕ → St S → Text
written_to i s = buffer_text (desc_at (Some i) s.outside.descs)

-- ---- command substitutions

abbrev pub is_newline : ℕ → Bool
is_newline b = b == 10

-- without NUL bytes, and then without the newlines at the end
unfoldable pub substitution_text : Text → Text
substitution_text text = let kept = without_nul text in take (length kept - suffix_len is_newline kept) kept

-- behind a substitution: its text, and `$?` is its status at once
abbrev pub substituted : {S : Type 0} → (S → ℕ) → (ℕ → S → S) → ℕ → S → Flow → Do Text S
substituted status with_status i before flow n s =
    Ends (substitution_text (written_to i s)) (with_both s (taken_at (Some i) s.outside) (with_status (status s.own) before)) n

abbrev pub substitute : {S : Type 0} → (S → Fds) → (Fds → S → S) → (S → ℕ) → (ℕ → S → S) → Do Flow S → Do Text S
substitute fds with_fds status with_status run n s =
    after (run n (buffered fds with_fds s)) (substituted status with_status (length s.outside.descs) s.own)

-- ---- pipelines

-- the buffer of this number is taken, and its text is what the next stage reads at descriptor 0, with the next number
abbrev pub handed : {S : Type 0} → (S → Fds) → (Fds → S → S) → ℕ → S → St S → St S
handed fds with_fds i before s =
    let o = taken_at (Some i) s.outside in
    with_both s (with_desc (Given (written_to i s) 0) o) (with_fds (with_fd 0 (Some (length o.descs)) (fds before)) before)

-- behind a stage that isn't the last one
abbrev pub stage_over : {S : Type 0} → (S → Fds) → (Fds → S → S) → ℕ → S → Do Flow S → Flow → Do Flow S
stage_over fds with_fds i before rest flow n s = rest n (handed fds with_fds i before s)

-- a stage, and then those behind it
abbrev pub stage_run : {S : Type 0} → (S → Fds) → (Fds → S → S) → Do Flow S → Do Flow S → Do Flow S
stage_run fds with_fds stage rest n s =
    after (stage n (buffered fds with_fds s)) (stage_over fds with_fds (length s.outside.descs) s.own rest)

-- Behind the last stage. It ran in the current environment, of which only the descriptors are as before, or in a subshell; that is the latitude of `last`.
abbrev pub pipeline_over : {S : Type 0} → Bool → (Fds → S → S) → (S → Fds) → (S → ℕ) → (ℕ → S → S) → S → Flow → Do Flow S
pipeline_over true with_fds fds status with_status before flow n s = Ends flow (with_own s (with_fds (fds before) s.own)) n
pipeline_over false with_fds fds status with_status before flow n s = shell_over status with_status before flow n s

-- stages that hand their output on
abbrev pub piped : {S : Type 0} → Bool → (Fds → S → S) → (S → Fds) → (S → ℕ) → (ℕ → S → S) → Do Flow S → Do Flow S
piped last_current with_fds fds status with_status stages n s =
    after (stages n s) (pipeline_over last_current with_fds fds status with_status s.own)
