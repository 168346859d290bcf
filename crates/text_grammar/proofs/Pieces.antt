-- Pieces of a language are one each, and are read one by one.
use Rattle.std.proofs.Common.{◌≡◌, ℕ, ◌+◌, ◌<◌, ◌≤◌, Bool, true, List, Some, None, sym, ap, subst, ◌∙◌, arith}
use Rattle.text_grammar.specs.Grammar.{Grammar}
use Rattle.text_grammar.specs.Ranks.{takes}
use Rattle.text_grammar.specs.Language.{Language, Ends, one_if}
use Rattle.text_grammar.specs.Derivations.{Tree, At}
use Rattle.text_grammar.specs.Values.{kids, vals}
use Rattle.text_grammar.specs.Place.{IsPlace, WholeAt, EndsStuck, OneEach, Reader, PieceAt, SaysAt, IsPiece, front}
use Rattle.text_grammar.specs.Later.{Later, PieceWith, SaysWith, next_with}
use Rattle.text_grammar.proofs.Sound.{one_tree}
use Rattle.text_grammar.proofs.Bound.{shorter}
use Rattle.text_grammar.proofs.Rules.{vals_sound, vals_complete}
use Rattle.text_grammar.proofs.Place.{one_place, one_whole, whole_place, front_place, front_more, front_done}
use Rattle.text_grammar.proofs.Twice.{at_allowed, one_tree_with, vals_twice_sound, vals_twice_complete}

pub pieces_once : {S P T R V : Type 0} (l : Language S P T R V) (g : Grammar P T R) → OneEach (PieceAt l g)
pieces_once l g t u s a b p q = one_tree l t u g s a b p q

pub takes_less : {S P T R V : Type 0} (l : Language S P T R V) → Ends l → (t : Tree R V) (g : Grammar P T R) (s m : S) → takes l.ranks g ≡ true → At l t g s m → l.size m < l.size s
takes_less l ok t g s m tk h = let i : l.size m + 1 ≤ l.size s = subst (λ (z : Bool). l.size m + one_if z ≤ l.size s) tk (shorter l ok t g s m h) in omega arith

pub reads_pieces : {S P T R V : Type 0} (l : Language S P T R V) → Ends l → (g : Grammar P T R) → IsPiece l g → Reader (PieceAt l g) l.size (vals l g)
reads_pieces l ok g f = record {
  sound = λ s m y e. (let a = vals_sound l g s (y, m) e in (a.0, a.1));
  complete = λ t s m h. (kids l t, vals_complete l ok t g s m f.0 h);
  less = λ t s m h. takes_less l ok t g s m f.1 h;
}

pub pieces_with_once : {A S P T R V : Type 0} (l : A → Language S P T R V) (found : S → A) (none : A) → Later l none → (fresh : S → S) (g : Grammar P T R) → OneEach (PieceWith l found fresh g)
pieces_with_once l found none ok fresh g t u s a b p q = one_tree_with l found none ok t u g (fresh s) a b p q

less_with : {A S P T R V : Type 0} (l : A → Language S P T R V) (found : S → A) (none : A) → Later l none → (fresh : S → S) → ((s : S) → (l none).size (fresh s) ≤ (l none).size s) → (g : Grammar P T R) → takes (l none).ranks g ≡ true →
    (t : Tree R V) (s m : S) → PieceWith l found fresh g t s m → (l none).size m < (l none).size s
less_with l found none ok fresh fits g tk t s m h =
    let i = at_allowed (l (found m)) (l none) (ok.allows (found m)) t g (fresh s) m h in
    let j = takes_less (l none) (ok.ends none) i.0 g (fresh s) m tk i.1 in
    let k = fits s in omega arith

pub reads_pieces_with : {A S P T R V : Type 0} (l : A → Language S P T R V) (found : S → A) (none : A) → Later l none → (fresh : S → S) → ((s : S) → (l none).size (fresh s) ≤ (l none).size s) →
    (g : Grammar P T R) → ((a : A) → IsPiece (l a) g) → Reader (PieceWith l found fresh g) (l none).size (next_with l found none fresh g)
reads_pieces_with l found none ok fresh fits g f = record {
  sound = λ s m y e. (let a = vals_twice_sound l found none ok g (fresh s) (y, m) e in (a.0, a.1));
  complete = λ t s m h. (kids (l (found m)) t, vals_twice_complete l found none ok t g (fresh s) m (λ a. (f a).0) h);
  less = less_with l found none ok fresh fits g (f none).1;
}

-- ---- the same of the values

pub says_once : {S P T R V : Type 0} (l : Language S P T R V) (g : Grammar P T R) → OneEach (SaysAt l g)
says_once l g k j s a b p q = let i = one_tree l p.0 q.0 g s a b p.1 q.1 in (sym p.2 ∙ ap (kids l) i.0 ∙ q.2, i.1)

pub reads_says : {S P T R V : Type 0} (l : Language S P T R V) → Ends l → (g : Grammar P T R) → IsPiece l g → Reader (SaysAt l g) l.size (vals l g)
reads_says {S} {V = V} l ok g f = record {
  sound = λ s m y e. (y, vals_sound l g s (y, m) e);
  complete = λ k s m h. (k, vals_complete l ok h.0 g s m f.0 h.1 ∙ ap (λ (z : List V). Some (z, m)) h.2);
  less = λ k s m h. takes_less l ok h.0 g s m f.1 h.1;
}

pub says_with_once : {A S P T R V : Type 0} (l : A → Language S P T R V) (found : S → A) (none : A) → Later l none → (fresh : S → S) (g : Grammar P T R) → OneEach (SaysWith l found fresh g)
says_with_once {S = S} l found none ok fresh g k j s a b p q =
    let i = one_tree_with l found none ok p.0 q.0 g (fresh s) a b p.1 q.1 in
    (sym p.2 ∙ ap (λ (z : S). kids (l (found z)) p.0) i.1 ∙ ap (kids (l (found b))) i.0 ∙ q.2, i.1)

pub reads_says_with : {A S P T R V : Type 0} (l : A → Language S P T R V) (found : S → A) (none : A) → Later l none → (fresh : S → S) → ((s : S) → (l none).size (fresh s) ≤ (l none).size s) →
    (g : Grammar P T R) → ((a : A) → IsPiece (l a) g) → Reader (SaysWith l found fresh g) (l none).size (next_with l found none fresh g)
reads_says_with {V = V} l found none ok fresh fits g f = record {
  sound = λ s m y e. (y, vals_twice_sound l found none ok g (fresh s) (y, m) e);
  complete = λ k s m h. (k, vals_twice_complete l found none ok h.0 g (fresh s) m (λ a. (f a).0) h.1 ∙ ap (λ (z : List V). Some (z, m)) h.2);
  less = λ k s m h. less_with l found none ok fresh fits g (f none).1 h.0 s m h.1;
}

pub one_text_at : {S P T R V : Type 0} (l : Language S P T R V) (piece : Grammar P T R) (left : S → ℕ) → EndsStuck (SaysAt l piece) left → (ks js : List (List V)) (s : S) → WholeAt (SaysAt l piece) left ks s → WholeAt (SaysAt l piece) left js s → ks ≡ js
one_text_at l piece = one_whole (SaysAt l piece) (says_once l piece)

pub one_text_with : {A S P T R V : Type 0} (l : A → Language S P T R V) (found : S → A) (none : A) → Later l none → (fresh : S → S) (piece : Grammar P T R) (left : S → ℕ) → EndsStuck (SaysWith l found fresh piece) left → (ks js : List (List V)) (s : S) →
    WholeAt (SaysWith l found fresh piece) left ks s → WholeAt (SaysWith l found fresh piece) left js s → ks ≡ js
one_text_with l found none ok fresh piece = one_whole (SaysWith l found fresh piece) (says_with_once l found none ok fresh piece)

-- ---- places

pub one_place_at : {S P T R V : Type 0} (l : Language S P T R V) (piece : Grammar P T R) (s : S) (left : S → ℕ) (whole p q : ℕ) → IsPlace (PieceAt l piece) s left whole p → IsPlace (PieceAt l piece) s left whole q → p ≡ q
one_place_at l piece = one_place (PieceAt l piece) (pieces_once l piece)

pub front_place_at : {S P T R V : Type 0} (l : Language S P T R V) → Ends l → (piece : Grammar P T R) → IsPiece l piece → (s : S) (left : S → ℕ) (whole place : ℕ) →
    place + left (front l.size (vals l piece) s) ≡ whole → IsPlace (PieceAt l piece) s left whole place
front_place_at l ok piece f = front_place (PieceAt l piece) l.size (vals l piece) (reads_pieces l ok piece f)

pub one_whole_at : {S P T R V : Type 0} (l : Language S P T R V) (piece : Grammar P T R) (left : S → ℕ) → EndsStuck (PieceAt l piece) left → (ts us : List (Tree R V)) (s : S) → WholeAt (PieceAt l piece) left ts s → WholeAt (PieceAt l piece) left us s → ts ≡ us
one_whole_at l piece = one_whole (PieceAt l piece) (pieces_once l piece)

pub whole_place_at : {S P T R V : Type 0} (l : Language S P T R V) (piece : Grammar P T R) (left : S → ℕ) → EndsStuck (PieceAt l piece) left → (ts : List (Tree R V)) (s : S) (whole p : ℕ) → WholeAt (PieceAt l piece) left ts s → IsPlace (PieceAt l piece) s left whole p → p ≡ whole
whole_place_at l piece = whole_place (PieceAt l piece) (pieces_once l piece)

pub front_more_at : {S P T R V : Type 0} (l : Language S P T R V) → Ends l → (piece : Grammar P T R) → IsPiece l piece → (s e : S) (k : List V) → vals l piece s ≡ Some (k, e) → front l.size (vals l piece) s ≡ front l.size (vals l piece) e
front_more_at l ok piece f = front_more (PieceAt l piece) l.size (vals l piece) (reads_pieces l ok piece f)

pub front_done_at : {S P T R V : Type 0} (l : Language S P T R V) → Ends l → (piece : Grammar P T R) → IsPiece l piece → (s : S) → vals l piece s ≡ None → front l.size (vals l piece) s ≡ s
front_done_at l ok piece f = front_done (PieceAt l piece) l.size (vals l piece) (reads_pieces l ok piece f)

pub one_place_with : {A S P T R V : Type 0} (l : A → Language S P T R V) (found : S → A) (none : A) → Later l none → (fresh : S → S) (piece : Grammar P T R) (s : S) (left : S → ℕ) (whole p q : ℕ) →
    IsPlace (PieceWith l found fresh piece) s left whole p → IsPlace (PieceWith l found fresh piece) s left whole q → p ≡ q
one_place_with l found none ok fresh piece = one_place (PieceWith l found fresh piece) (pieces_with_once l found none ok fresh piece)

pub front_place_with : {A S P T R V : Type 0} (l : A → Language S P T R V) (found : S → A) (none : A) → Later l none → (fresh : S → S) → ((s : S) → (l none).size (fresh s) ≤ (l none).size s) → (piece : Grammar P T R) → ((a : A) → IsPiece (l a) piece) →
    (s : S) (left : S → ℕ) (whole place : ℕ) → place + left (front (l none).size (next_with l found none fresh piece) s) ≡ whole → IsPlace (PieceWith l found fresh piece) s left whole place
front_place_with l found none ok fresh fits piece f = front_place (PieceWith l found fresh piece) (l none).size (next_with l found none fresh piece) (reads_pieces_with l found none ok fresh fits piece f)

pub one_whole_with : {A S P T R V : Type 0} (l : A → Language S P T R V) (found : S → A) (none : A) → Later l none → (fresh : S → S) (piece : Grammar P T R) (left : S → ℕ) → EndsStuck (PieceWith l found fresh piece) left → (ts us : List (Tree R V)) (s : S) →
    WholeAt (PieceWith l found fresh piece) left ts s → WholeAt (PieceWith l found fresh piece) left us s → ts ≡ us
one_whole_with l found none ok fresh piece = one_whole (PieceWith l found fresh piece) (pieces_with_once l found none ok fresh piece)

pub whole_place_with : {A S P T R V : Type 0} (l : A → Language S P T R V) (found : S → A) (none : A) → Later l none → (fresh : S → S) (piece : Grammar P T R) (left : S → ℕ) → EndsStuck (PieceWith l found fresh piece) left → (ts : List (Tree R V)) (s : S) (whole p : ℕ) →
    WholeAt (PieceWith l found fresh piece) left ts s → IsPlace (PieceWith l found fresh piece) s left whole p → p ≡ whole
whole_place_with l found none ok fresh piece = whole_place (PieceWith l found fresh piece) (pieces_with_once l found none ok fresh piece)

pub front_more_with : {A S P T R V : Type 0} (l : A → Language S P T R V) (found : S → A) (none : A) → Later l none → (fresh : S → S) → ((s : S) → (l none).size (fresh s) ≤ (l none).size s) → (piece : Grammar P T R) → ((a : A) → IsPiece (l a) piece) →
    (s e : S) (k : List V) → next_with l found none fresh piece s ≡ Some (k, e) → front (l none).size (next_with l found none fresh piece) s ≡ front (l none).size (next_with l found none fresh piece) e
front_more_with l found none ok fresh fits piece f = front_more (PieceWith l found fresh piece) (l none).size (next_with l found none fresh piece) (reads_pieces_with l found none ok fresh fits piece f)

pub front_done_with : {A S P T R V : Type 0} (l : A → Language S P T R V) (found : S → A) (none : A) → Later l none → (fresh : S → S) → ((s : S) → (l none).size (fresh s) ≤ (l none).size s) → (piece : Grammar P T R) → ((a : A) → IsPiece (l a) piece) →
    (s : S) → next_with l found none fresh piece s ≡ None → front (l none).size (next_with l found none fresh piece) s ≡ s
front_done_with l found none ok fresh fits piece f = front_done (PieceWith l found fresh piece) (l none).size (next_with l found none fresh piece) (reads_pieces_with l found none ok fresh fits piece f)
