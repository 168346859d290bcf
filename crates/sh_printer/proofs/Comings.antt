-- The same pieces under another spelling of their text, and under a greater weight.
use Rattle.std.proofs.Common.{◌≡◌, ℕ, ◌≤◌, Bool, ◌∙◌, arith}
use Rattle.sh_grammar.specs.Bytes.{Text}
use Rattle.sh_printer.specs.declared.pieces.Split.{Split}
use Rattle.sh_printer.specs.Pieces.{Comes}

pub coming : (x y : Bool → Text) (m n : ℕ) (split : Split) → ((full : Bool) → x full ≡ y full) → m ≤ n → Comes x m split → Comes y n split
coming x y m n split is le k = record {
  whole = λ full. k.whole full ∙ is full;
  first_less = omega (arith, k.first_less);
  second_less = omega (arith, k.second_less);
  rest_less = omega (arith, k.rest_less);
}
