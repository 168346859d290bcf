-- What is printed of a script reads as the script.
use Rattle.std.proofs.Common.{◌≡◌, ◌+◌, ◌^◌, ◌<◌, true, false, List, [], ◌∷◌, ◌++◌, length, refl, sym, ap, subst, ◌∙◌, arith}
use Rattle.std.proofs.lemmas.List.{append-nil}
use Rattle.text_grammar.specs.Grammar.{rule}
use Rattle.text_grammar.specs.Derivations.{Tree, empty, leaf, both, first, second, more, node, At}
use Rattle.text_grammar.specs.Values.{kids}
use Rattle.text_grammar.specs.Place.{FrontAt}
use Rattle.sh_grammar.specs.Shape as shape
use Rattle.sh_grammar.specs.Shape.{no_chain, next_chain}
use Rattle.sh_grammar.specs.Bytes.{Text, gap}
use Rattle.sh_grammar.specs.Tokens.{Newline, Semi, is_token, code}
use Rattle.sh_grammar.specs.State.{State, Node, start_at, fresh, chain_node, chains_in}
use Rattle.sh_grammar.specs.Table.{Rule, piece, complete, line, ends}
use Rattle.sh_grammar.specs.Table as table
use Rattle.sh_grammar.specs.Steps.{Known, holds}
use Rattle.sh_grammar.specs.Acts.{act}
use Rattle.sh_grammar.specs.Spelling.{Lang, knowing, levels, sh_with, PieceAt, chains_of, Reads}
use Rattle.sh_grammar.proofs.Known.{known_in, sh_knows}
use Rattle.sh_printing.specs.Delimiters.{tries}
use Rattle.sh_printing.specs.Marks as marks
use Rattle.sh_printing.specs.Printing.{chain_text, script_text, printed}
use Rattle.sh_printing.specs.Printable.{chain_fits, list_fits, script_printable}
use Rattle.sh_printing.proofs.BackSays.{Says, nothing, ◌then◌, the_first, the_second, by_rule, no_more, to_state}
use Rattle.sh_printing.proofs.BackDue.{Pending, st, bodies_of, pending_text}
use Rattle.sh_printing.proofs.BackBytes.{both as split_and, gap_is}
use Rattle.sh_printing.proofs.BackTokens.{test_is}
use Rattle.sh_printing.proofs.BackLines.{clean, line_says}
use Rattle.sh_printing.proofs.BackEnds.{line_end}
use Rattle.sh_printing.proofs.BackLists.{due, settled_is}
use Rattle.sh_printing.proofs.BackNamed.{chain_bodies, chain_free, list_free}
use Rattle.sh_printing.proofs.BackNodes.{chain_nodes, chains_only}
use Rattle.sh_printing.proofs.BackHeads.{chain_begins}
use Rattle.sh_printing.proofs.BackTree.{chain_law}
use Rattle.sh_printing.proofs.BackBounds.{script_short}

-- ---- what a derivation says doesn't hang on what is known

same_kids : (k j : Known) (t : Tree Rule Node) → kids (knowing k) t ≡ kids (knowing j) t
same_kids k j empty = refl
same_kids k j (leaf x) = refl
same_kids k j (both t u) = ap (λ (z : List Node). z ++ kids (knowing k) u) (same_kids k j t) ∙ ap (λ (z : List Node). kids (knowing j) t ++ z) (same_kids k j u)
same_kids k j (first t) = same_kids k j t
same_kids k j (second t) = same_kids k j t
same_kids k j (more t u) = ap (λ (z : List Node). z ++ kids (knowing k) u) (same_kids k j t) ∙ ap (λ (z : List Node). kids (knowing j) t ++ z) (same_kids k j u)
same_kids k j (node r t) = ap (act r) (same_kids k j t)

-- ---- a complete command and its newline

line_tokens : (owed t : Text) → (is_token Newline (marks.ended marks.line owed ++ t) ≡ true) × (is_token Semi (marks.ended marks.line owed ++ t) ≡ false)
unfolding code
line_tokens owed t = let x = (line_end owed t).token_is in (test_is Newline Newline _ _ x, test_is Newline Semi _ _ x)

-- a chain up to its newline, as a piece
piece_says : (k : Known) (ps : List Pending) (found : List Text) (bytes t : Text) (c : shape.Chain) (bs : List Text) → found ++ bodies_of ps ≡ bs → is_token Newline bytes ≡ false →
    Says k (rule table.chain) (st 0 [] (clean []) bytes) (st 0 [] (due ps found) (marks.ended marks.line (pending_text ps) ++ t)) (chain_node c ∷ []) → Says k (rule piece) (st 0 [] (clean []) bytes) (st 0 [] (clean bs) t) (chain_node c ∷ [])
unfolding holds
piece_says k ps found bytes t c bs e n a =
    let v = marks.ended marks.line (pending_text ps) ++ t in
    let x = line_tokens (pending_text ps) t in
    let g : gap v ≡ 10 ∷ (pending_text ps ++ t) = gap_is 10 (pending_text ps ++ t) refl in
    by_rule piece refl (the_second n
    (by_rule complete refl (a then no_more (rw x.1 refl) then the_second x.1 (nothing k (st 0 [] (due ps found) v)))
    then the_first x.0 (to_state (settled_is 0 [] ps found bs t e) (line_says k 0 [] (due ps found) v t g))))

-- ---- scripts

-- pieces up to the end of the text
record Pieces (s : shape.Script) (from : State) : Type 0 where
  trees : List (Tree Rule Node)
  end : State
  reads : FrontAt PieceAt trees from end
  ends : end.bytes ≡ []
  is : chains_of trees ≡ chain_nodes s

pieces_law : (s : shape.Script) (from : State) → from.bytes ≡ script_text true s → list_fits false 0 s ≡ true → list_free s ≡ true → Pieces s from
pieces_law no_chain from g e f = record { trees = []; end = from; reads = refl; ends = g; is = refl }
pieces_law (next_chain c s) from g e f =
    let x = split_and (chain_fits false 0 c) (list_fits false 0 s) e in
    let y = split_and (chain_free c) (list_free s) f in
    let t = script_text true s in
    let bytes = chain_text true marks.line c ++ t in
    let ds = chain_bodies c in
    let k = known_in levels ds in
    let front = chain_begins false 0 marks.line c t x.0 y.0 in
    let on = chain_law levels ds false 0 [] [] marks.line c bytes t (omega arith) (omega arith) x.0 y.0 (record { later = []; known = sym (append-nil ds) }) refl refl front.solid in
    let p = piece_says k on.owing on.found bytes t c ds on.is_all front.no_line on.says in
    let m = st 0 [] (clean ds) t in
    let rest = pieces_law s m refl x.1 y.1 in
    let at : At (sh_with ds) p.tree (rule piece) (fresh from) m = subst (λ (l : Lang). At l p.tree (rule piece) (fresh from) m) (sym (sh_knows levels ds)) (subst (λ (b : Text). At (knowing k) p.tree (rule piece) (start_at 0 b) m) (sym g) p.spelled) in
    let says : kids (sh_with []) p.tree ≡ chain_node c ∷ [] = ap (λ (l : Lang). kids l p.tree) (sh_knows levels []) ∙ same_kids (known_in levels []) k p.tree ∙ p.says in
    record { trees = p.tree ∷ rest.trees; end = rest.end; reads = (m, at, rest.reads); ends = rest.ends; is = ap (λ (z : List Node). z ++ chains_of rest.trees) says ∙ ap (λ (z : List Node). chain_node c ∷ z) rest.is }

free_reads_back : (s : shape.Script) → script_printable s ≡ true → list_free s ≡ true → Reads (printed s) s
unfolding gap
free_reads_back s e f =
    let x = pieces_law s (start_at 0 (printed s)) refl e f in
    record { pieces = x.trees; end = x.end; reads = x.reads; ends = ap gap x.ends; is = ap chains_in x.is ∙ chains_only s }

small : 2 ^ 32 + 1 < tries
small = omega arith

-- THE LAW: what is printed of a script that can be printed reads as the script.
pub reads_back : (s : shape.Script) → script_printable s ≡ true → length (printed s) < 2 ^ 32 → Reads (printed s) s
reads_back s e h = free_reads_back s e (script_short (2 ^ 32) small s e (omega (arith, h)))
