-- What some text spells can be printed.
use Rattle.std.proofs.Common.{◌≡◌, ℕ, zero, suc, Bool, true, false, List, [], ◌∷◌, ◌++◌, Option, Some, None, refl, sym, ap, subst, ◌∙◌, append-nil}
use Rattle.std.specs.Prelude.{◌&&◌}
use Rattle.std.specs.List.{list_all}
use Rattle.std.proofs.lemmas.Bool.{false≢true}
use Rattle.text_grammar.specs.Grammar.{Leaf, step, choose, rule}
use Rattle.text_grammar.specs.Derivations.{Tree, empty, leaf, both, first, second, more, node, At}
use Rattle.text_grammar.specs.Values.{kids, vals}
use Rattle.text_grammar.specs.Place.{FrontAt}
use Rattle.text_grammar.proofs.Rules.{vals_sound}
use Rattle.text_grammar.proofs.Twice.{end_allowed}
use Rattle.sh_grammar.specs.Shape as shape
use Rattle.sh_grammar.specs.Bytes.{Text, in_body}
use Rattle.sh_grammar.specs.Bodies.{Owed, bodies_at}
use Rattle.sh_grammar.specs.State.{State, start_at, fresh, Node, word_in}
use Rattle.sh_grammar.specs.Steps.{Known, run_step, none_owed}
use Rattle.sh_grammar.specs.Tokens.{End, Newline, token, is_token}
use Rattle.sh_grammar.specs.Table.{Rule, line, ends, piece, body_parts}
use Rattle.sh_grammar.specs.Acts.{act}
use Rattle.sh_grammar.specs.Spelling.{Lang, knowing, sh, levels, sh_with, PieceAt, chains_of, Reads}
use Rattle.sh_grammar.proofs.Known.{expand_in, known_in, sh_knows, allows_in}
use Rattle.sh_grammar.proofs.Tools.{If, then, chosen_by, if_some}
use Rattle.sh_printing.specs.Spellable.{keeps}
use Rattle.sh_printing.specs.Printable.{ends_line, parts_fit, list_fits, script_printable}
use Rattle.sh_printing.proofs.BackBytes as bytes
use Rattle.sh_printing.proofs.ExactStates.{Forth, Back, is_lines}
use Rattle.sh_printing.proofs.ExactNodes.{each_of, is_chain, chains_fit}
use Rattle.sh_printing.proofs.ExactRedirects.{Expands}
use Rattle.sh_printing.proofs.ExactAll.{Held, says_at}
use Rattle.sh_printing.proofs.ExactEnds.{ending}
use Rattle.sh_printing.proofs.ExactHeld.{held}

-- ---- where nothing is owed

nothing_owed : (os : List Owed) → none_owed os ≡ true → os ≡ []
nothing_owed [] e = refl
nothing_owed (o ∷ os) e = absurd (false≢true e)

ends_owed : (k : Known) (s e : State) (x : Leaf Node) → run_step k ends s ≡ Some (x, e) → e.owed ≡ []
unfolding run_step
ends_owed k s e x h =
    if_some (λ (y : Leaf Node × State). y.1.owed ≡ []) (run_step k ends s) (x, e) h
    (chosen_by (If (λ (y : Leaf Node × State). y.1.owed ≡ [])) (is_token End s.bytes && none_owed s.owed) _ _ (λ t. nothing_owed s.owed (bytes.both (is_token End s.bytes) (none_owed s.owed) t).1) (λ t. tt))

any_bodies : (o : Option (List Text × Text)) → If (λ (x : List Text × Text). Unit {0}) o
any_bodies None = tt
any_bodies (Some x) = tt

line_owed : (k : Known) (s e : State) (x : Leaf Node) → run_step k line s ≡ Some (x, e) → e.owed ≡ []
unfolding run_step
line_owed k s e x h =
    if_some (λ (y : Leaf Node × State). y.1.owed ≡ []) (run_step k line s) (x, e) h
    (chosen_by (If (λ (y : Leaf Node × State). y.1.owed ≡ [])) (is_token Newline s.bytes) _ _
    (λ t. then (λ (y : List Text × Text). Unit {0}) (λ (y : Leaf Node × State). y.1.owed ≡ []) (bodies_at s.owed (token s.bytes).1) _ (any_bodies (bodies_at s.owed (token s.bytes).1)) (λ y u. refl)) (λ t. tt))

body_owed : (k : Known) (t : Tree Rule Node) (s e : State) → At (knowing k) t (rule body_parts) s e → e.owed ≡ []
body_owed k (node q (both u (leaf x))) s e a = ends_owed k a.1.0 e x a.1.2
body_owed k (node q (both u empty)) s e a = absurd a.1.2
body_owed k (node q (both u (both v w))) s e a = absurd a.1.2
body_owed k (node q (both u (first v))) s e a = absurd a.1.2
body_owed k (node q (both u (second v))) s e a = absurd a.1.2
body_owed k (node q (both u (more v w))) s e a = absurd a.1.2
body_owed k (node q (both u (node r v))) s e a = absurd a.1.2
body_owed k (node q empty) s e a = absurd a.1
body_owed k (node q (leaf x)) s e a = absurd a.1
body_owed k (node q (first v)) s e a = absurd a.1
body_owed k (node q (second v)) s e a = absurd a.1
body_owed k (node q (more v w)) s e a = absurd a.1
body_owed k (node q (node r v)) s e a = absurd a.1
body_owed k t s e a = absurd a

end_owed : (k : Known) (t : Tree Rule Node) (s e : State) → At (knowing k) t (choose (Rattle.sh_grammar.specs.Table.next Newline) (step line) (step ends)) s e → e.owed ≡ []
end_owed k (first (leaf x)) s e a = line_owed k s e x a.1
end_owed k (second (leaf x)) s e a = ends_owed k s e x a.1
end_owed k (first t) s e a = absurd a.1
end_owed k (second t) s e a = absurd a.1
end_owed k t s e a = absurd a

piece_owed : (k : Known) (t : Tree Rule Node) (s e : State) → At (knowing k) t (rule piece) s e → e.owed ≡ []
piece_owed k (node q (first (leaf x))) s e a = line_owed k s e x a.1.1
piece_owed k (node q (second (both u v))) s e a = end_owed k v a.1.1.0 e a.1.1.2
piece_owed k (node q (first t)) s e a = absurd a.1.1
piece_owed k (node q (second t)) s e a = absurd a.1.1
piece_owed k (node q t) s e a = absurd a.1
piece_owed k t s e a = absurd a

-- all that came is what comes
all_came : (n : ℕ) (i : Bool) (e : State) → e.owed ≡ [] → Back (known_in n e.found) i e
all_came zero i e o = record { later = []; whole = sym (append-nil e.found); owes = subst (λ (z : List Owed). Rattle.sh_printing.proofs.ExactStates.Owes i z []) (sym o) tt }
all_came (suc n) i e o = record { later = []; whole = sym (append-nil e.found); owes = subst (λ (z : List Owed). Rattle.sh_printing.proofs.ExactStates.Owes i z []) (sym o) tt }

-- ---- bodies in bodies

-- What is said of each rule so that an arithmetic expansion fits, whatever is known of here-documents.
abbrev pub Helds : Type 1
Helds = (k : Known) (i : Bool) → Held k i

abbrev PartsFit : ℕ → shape.Parts → Type 0
PartsFit d ps = (ends_line ps ≡ true) × (parts_fit true d in_body ps ≡ true)

begins : (d : ℕ) (text : Text) → keeps true text ≡ true → is_lines text ≡ true → Forth true (start_at d text)
begins d text u l = record { clean = ((false, u), l); counted = refl }

-- a body that was read to its end fits
body_says : (m : Helds) (n d : ℕ) (text : Text) (e : State) (t : Tree Rule Node) → keeps true text ≡ true → is_lines text ≡ true → Expands (known_in n e.found) → At (knowing (known_in n e.found)) t (rule body_parts) (start_at d text) e → PartsFit d (word_in (kids (knowing (known_in n e.found)) t))
body_says m n d text e t u l x a =
    let k = known_in n e.found in
    let o = says_at k true x (m k true) t body_parts d (start_at d text) e refl (begins d text u l) (all_came n true e (body_owed k t (start_at d text) e a)) a in
    (ending k d text t e u l a, subst (λ (z : List Node). parts_fit true d in_body (word_in z) ≡ true) (sym o.is) o.fits)

second_says : (m : Helds) (n d : ℕ) (text : Text) (x y : List Node × State) → keeps true text ≡ true → is_lines text ≡ true → ((found : List Text) → Expands (known_in n found)) →
    vals (sh n []) (rule body_parts) (start_at d text) ≡ Some x → vals (sh n x.1.found) (rule body_parts) (start_at d text) ≡ Some y → PartsFit d (word_in y.0)
second_says m n d text x y u l h p q =
    let a = vals_sound (sh n []) (rule body_parts) (start_at d text) x p in
    let b = vals_sound (sh n x.1.found) (rule body_parts) (start_at d text) y q in
    let same : y.1 ≡ x.1 = end_allowed (sh n x.1.found) (sh n []) (allows_in n x.1.found) b.0 a.0 (rule body_parts) (start_at d text) y.1 x.1 b.1 a.1 in
    let c : At (sh n x.1.found) b.0 (rule body_parts) (start_at d text) x.1 = subst (λ (z : State). At (sh n x.1.found) b.0 (rule body_parts) (start_at d text) z) same b.1 in
    let f = subst (λ (w : Lang). At w b.0 (rule body_parts) (start_at d text) x.1 → PartsFit d (word_in (kids w b.0))) (sym (sh_knows n x.1.found)) (λ g. body_says m n d text x.1 b.0 u l (h x.1.found) g) in
    subst (λ (z : List Node). PartsFit d (word_in z)) b.2 (f c)

if_each : {A : Type 0} (P : A → Type 0) (o : Option A) → ((x : A) → o ≡ Some x → P x) → If P o
if_each P None h = tt
if_each P (Some x) h = h x refl

expand_fits : (m : Helds) (n d : ℕ) (text : Text) → keeps true text ≡ true → is_lines text ≡ true → ((found : List Text) → Expands (known_in n found)) → If (PartsFit d) (expand_in n d text)
expand_fits m n d text u l h =
    then (λ (x : List Node × State). vals (sh n []) (rule body_parts) (start_at d text) ≡ Some x) (PartsFit d) (vals (sh n []) (rule body_parts) (start_at d text)) _
    (if_each (λ x. vals (sh n []) (rule body_parts) (start_at d text) ≡ Some x) (vals (sh n []) (rule body_parts) (start_at d text)) (λ x e. e))
    (λ x p. then (λ (y : List Node × State). vals (sh n x.1.found) (rule body_parts) (start_at d text) ≡ Some y) (PartsFit d) (vals (sh n x.1.found) (rule body_parts) (start_at d text)) _
    (if_each (λ y. vals (sh n x.1.found) (rule body_parts) (start_at d text) ≡ Some y) (vals (sh n x.1.found) (rule body_parts) (start_at d text)) (λ y e. e))
    (λ y q. second_says m n d text x y u l h p q))

expands_at : (m : Helds) (n : ℕ) (bodies : List Text) → Expands (known_in n bodies)
expands_at m zero bodies d text u l = tt
expands_at m (suc n) bodies d text u l = expand_fits m n d text u l (λ found. expands_at m n found)

-- ---- pieces

same_kids : (k j : Known) (t : Tree Rule Node) → kids (knowing k) t ≡ kids (knowing j) t
same_kids k j empty = refl
same_kids k j (leaf x) = refl
same_kids k j (both t u) = ap (λ (z : List Node). z ++ kids (knowing k) u) (same_kids k j t) ∙ ap (λ (z : List Node). kids (knowing j) t ++ z) (same_kids k j u)
same_kids k j (first t) = same_kids k j t
same_kids k j (second t) = same_kids k j t
same_kids k j (more t u) = ap (λ (z : List Node). z ++ kids (knowing k) u) (same_kids k j t) ∙ ap (λ (z : List Node). kids (knowing j) t ++ z) (same_kids k j u)
same_kids k j (node r t) = ap (act r) (same_kids k j t)

pub sh_kids : (n : ℕ) (bodies : List Text) (j : Known) (t : Tree Rule Node) → kids (sh n bodies) t ≡ kids (knowing j) t
sh_kids n bodies j t = subst (λ (w : Lang). kids w t ≡ kids (knowing j) t) (sym (sh_knows n bodies)) (same_kids (known_in n bodies) j t)

starts_here : (s : State) → Forth false (fresh s)
starts_here s = record { clean = tt; counted = refl }

piece_chains : (m : Helds) (n : ℕ) (t : Tree Rule Node) (s e : State) → At (sh n e.found) t (rule piece) (fresh s) e → list_all (is_chain false 0) (kids (sh n []) t) ≡ true
piece_chains m n t s e a =
    let k = known_in n e.found in
    let b : At (knowing k) t (rule piece) (fresh s) e = subst (λ (w : Lang). At w t (rule piece) (fresh s) e) (sh_knows n e.found) a in
    let o = says_at k false (expands_at m n e.found) (m k false) t piece 0 (fresh s) e refl (starts_here s) (all_came n false e (piece_owed k t (fresh s) e b)) b in
    subst (λ (z : List Node). list_all (is_chain false 0) z ≡ true) (sym (sh_kids n [] k t)) o

pieces_chains : (m : Helds) (ts : List (Tree Rule Node)) (s e : State) → FrontAt PieceAt ts s e → list_all (is_chain false 0) (chains_of ts) ≡ true
pieces_chains m [] s e f = refl
pieces_chains m (t ∷ ts) s e f = each_of (is_chain false 0) (kids (sh_with []) t) (chains_of ts) (piece_chains m levels t s f.0 f.1) (pieces_chains m ts f.0 e f.2)

-- the same, by what is said of each rule
pub spelled_fits : Helds → (text : Text) (s : shape.Script) → Reads text s → script_printable s ≡ true
spelled_fits m text s r =
    subst (λ (z : shape.Script). list_fits false 0 z ≡ true) r.is (chains_fit false 0 (chains_of r.pieces) (pieces_chains m r.pieces (start_at 0 text) r.end r.reads))

-- WHAT SOME TEXT SPELLS CAN BE PRINTED
pub spelled_is_printable : (text : Text) (s : shape.Script) → Reads text s → script_printable s ≡ true
spelled_is_printable text s r = spelled_fits held text s r
