-- A text spells at most one script.
use Rattle.std.proofs.Common.{◌≡◌, List, [], ◌∷◌, refl, sym, ap, subst, ◌∙◌}
use Rattle.text_grammar.specs.Grammar.{rule}
use Rattle.text_grammar.specs.Derivations.{Tree, At}
use Rattle.text_grammar.specs.Place.{FrontAt}
use Rattle.text_grammar.proofs.Twice.{one_tree_with}
use Rattle.bash_grammar.specs.Shape.{Script}
use Rattle.bash_grammar.specs.Bytes.{Text, gap}
use Rattle.bash_grammar.specs.State.{State, start_at, fresh}
use Rattle.bash_grammar.specs.Nodes.{Node, chains_in}
use Rattle.bash_grammar.specs.Table.{Rule, piece}
use Rattle.bash_grammar.specs.Spelling.{Lang, levels, bash_with, PieceAt, chains_of, Reads}
use Rattle.bash_grammar.proofs.Known.{known_in, bash_knows, later}
use Rattle.bash_grammar.proofs.Stuck.{no_piece}

-- no piece stands before blanks and a comment that the text ends with
pub none_at_end : (t : Tree Rule Node) (s m : State) → gap s.bytes ≡ [] → PieceAt t s m → ⊥
none_at_end t s m e h = no_piece (known_in levels m.found) (fresh s) e t m (subst (λ (l : Lang). At l t (rule piece) (fresh s) m) (bash_knows levels m.found) h)

-- pieces up to the end of the text are the only ones
same_pieces : (ts us : List (Tree Rule Node)) (s a b : State) → FrontAt PieceAt ts s a → FrontAt PieceAt us s b → gap a.bytes ≡ [] → gap b.bytes ≡ [] → ts ≡ us
same_pieces [] [] s a b p q i j = refl
same_pieces [] (u ∷ us) s a b p q i j = absurd (none_at_end u s q.0 (ap (λ (z : State). gap z.bytes) p ∙ i) q.1)
same_pieces (t ∷ ts) [] s a b p q i j = absurd (none_at_end t s p.0 (ap (λ (z : State). gap z.bytes) q ∙ j) p.1)
same_pieces (t ∷ ts) (u ∷ us) s a b p q i j =
    let one = one_tree_with bash_with (λ (e : State). e.found) [] later t u (rule piece) (fresh s) p.0 q.0 p.1 q.1 in
    let rest = same_pieces ts us p.0 a b p.2 (subst (λ (z : State). FrontAt PieceAt us z b) (sym one.1) q.2) i j in
    ap (λ (z : Tree Rule Node). z ∷ ts) one.0 ∙ ap (λ (zs : List (Tree Rule Node)). u ∷ zs) rest

pub one_script : (text : Text) (x y : Script) → Reads text x → Reads text y → x ≡ y
one_script text x y p q =
    let same = same_pieces p.pieces q.pieces (start_at text) p.end q.end p.reads q.reads p.ends q.ends in
    sym p.is ∙ ap (λ (zs : List (Tree Rule Node)). chains_in (chains_of zs)) same ∙ q.is
