use Rattle.std.proofs.Common.{◌≡◌, ◌+◌, ◌-◌, ◌≤◌, drop}
use Rattle.std.specs.Prelude.{map, false}
use Rattle.span_text.specs.declared.fault.Failed.{Failed}
use Rattle.sh_printing.specs.Delimiters.{free_from, tries}
use Rattle.sh_printer.specs.Pieces.{inner_text, owed_of, owed_weight, piece_text, piece_weight}
use Rattle.sh_syntax.specs.View.{view_part, view_redirect, parts_of}
use Rattle.sh_printer.specs.Weights.{parts_weight}
use Rattle.sh_printer.proofs.Gathers.{Gathered, GatheredLines}
use Rattle.sh_printer.proofs.Walks.{Walked}
use Rattle.sh_printer.proofs.printer.+print.Given as goal

abbrev pub decreases-ends_line : goal.decreases-ends_line
decreases-ends_line g l = parts_weight (parts_of (map view_part l.body.now)) + 2

abbrev pub decreases-has_line : goal.decreases-has_line
decreases-has_line g l = parts_weight (parts_of (map view_part l.body.now)) + 2

abbrev pub decreases-first_free : goal.decreases-first_free
decreases-first_free g l = parts_weight (parts_of (map view_part l.body.now)) + 3

abbrev pub decreases-free_number : goal.decreases-free_number
decreases-free_number g l = parts_weight (parts_of (map view_part l.body.now)) + 11

abbrev pub decreases-print_delimiter : goal.decreases-print_delimiter
decreases-print_delimiter g l = parts_weight (parts_of (map view_part l.body.now)) + 12

abbrev pub decreases-print_here : goal.decreases-print_here
decreases-print_here g l = parts_weight (parts_of (map view_part l.body.now)) + 13

abbrev pub decreases-number_behind : goal.decreases-number_behind
decreases-number_behind g l = parts_weight (view_redirect l.redirect.now).word + 14

abbrev pub decreases-print_body : goal.decreases-print_body
decreases-print_body g l = parts_weight (view_redirect l.redirect.now).word + 14

abbrev pub decreases-print_line : goal.decreases-print_line
decreases-print_line g l = owed_weight l.owed.now + 1

abbrev pub decreases-gather_line : goal.decreases-gather_line
decreases-gather_line g l = owed_weight l.owed.now + 1

abbrev pub decreases-gather : goal.decreases-gather
decreases-gather g l = piece_weight l.piece

abbrev pub decreases-print_piece : goal.decreases-print_piece
decreases-print_piece g l = piece_weight l.piece

abbrev pub invariant-first_free-loop-number : goal.invariant-first_free-loop-number
invariant-first_free-loop-number g l = (l.out ≡ l.initial.out) × ((l.from ≤ tries → l.number ≤ tries) × (free_from (tries - l.number) l.number (inner_text false l.body) ≡ free_from (tries - l.from) l.from (inner_text false l.body)))

abbrev pub invariant-gather_line-loop-redirect : goal.invariant-gather_line-loop-redirect
invariant-gather_line-loop-redirect g l = (l.out ≡ l.initial.out) × GatheredLines (λ full. owed_of full l.owed) (λ full. owed_of full (drop l.redirect-index l.owed)) l.from l.least

abbrev pub invariant-gather-pieces : goal.invariant-gather-pieces
invariant-gather-pieces g l = (l.out ≡ l.initial.out) × ((piece_weight l.now ≤ piece_weight l.initial.now) × Gathered (λ full. piece_text full l.initial.now) (λ full. piece_text full l.now) l.from l.least)

abbrev pub decreases-gather-pieces : goal.decreases-gather-pieces
decreases-gather-pieces g l = piece_weight l.now

abbrev pub invariant-print_piece-pieces : goal.invariant-print_piece-pieces
invariant-print_piece-pieces g l = Walked Failed g.K.Sink.held g.K.Sink.faults l.initial.search l.search l.initial.out l.out (λ full. piece_text full l.initial.now) (λ full. piece_text full l.now) × (piece_weight l.now ≤ piece_weight l.initial.now)

abbrev pub decreases-print_piece-pieces : goal.decreases-print_piece-pieces
decreases-print_piece-pieces g l = piece_weight l.now

abbrev pub invariant-print_line-loop-redirect : goal.invariant-print_line-loop-redirect
invariant-print_line-loop-redirect g l = Walked Failed g.K.Sink.held g.K.Sink.faults l.initial.search l.search l.initial.out l.out (λ full. owed_of full l.owed) (λ full. owed_of full (drop l.redirect-index l.owed))
