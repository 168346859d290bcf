-- The steps of the induction over commands: redirections, assignments, words.
use Rattle.std.proofs.Common.{◌≡◌, ℕ, Bool, true, false, List, [], ◌∷◌, ◌++◌, length, Option, Some, refl, sym, ap, subst, ◌∙◌, append_assoc}
use Rattle.std.specs.Prelude.{not}
use Rattle.std.specs.List.{list_all}
use Rattle.std.proofs.lemmas.Bool.{true≢false}
use Rattle.text_grammar.specs.Grammar.{star, rule}
use Rattle.text_grammar.specs.Derivations.{Tree, more, At}
use Rattle.text_grammar.specs.Values.{kids}
use Rattle.sh_grammar.specs.Shape as shape
use Rattle.sh_grammar.specs.Shape.{RedirectOp, here_literal, here_expanded, copy_in, copy_out, redirect, no_redirect, no_part, part, plain}
use Rattle.sh_grammar.specs.Bytes.{Text, in_word, gap}
use Rattle.sh_grammar.specs.State.{State, Sum, Node, redirect_node, aimed_node}
use Rattle.sh_grammar.specs.Table.{Test, Rule}
use Rattle.sh_grammar.specs.Steps.{Known, holds, nth, literal_parts, expanded_parts}
use Rattle.sh_grammar.specs.Expansions.{◌>>=◌}
use Rattle.sh_grammar.specs.Spelling.{knowing}
use Rattle.sh_printing.specs.Delimiters.{has_line, delimiter}
use Rattle.sh_printing.specs.Marks.{End, ended, led, fd_text, whole_body, behind_word}
use Rattle.sh_printing.specs.Spellable.{keeps}
use Rattle.sh_printing.specs.Printing.{parts_text, parts_open, redirects_text, owed_behind}
use Rattle.sh_printing.specs.Printable.{fd_fits, is_body_byte, literal_body, is_copied_word}
use Rattle.sh_printing.proofs.BackSays.{Says, no_more, one_more}
use Rattle.sh_printing.proofs.BackDue.{Due, Pending, named, st, after, owing_more, pending_text, pending_more}
use Rattle.sh_printing.proofs.BackBytes.{gap_blank}
use Rattle.sh_printing.proofs.BackTokens.{Outside}
use Rattle.sh_printing.proofs.BackHere.{is_lines, body_back}
use Rattle.sh_printing.proofs.BackDelimiters.{delimiter_word, delimiter_bytes, delimiter_marks, delimiter_back}
use Rattle.sh_printing.proofs.BackRedirects.{Target, op_text, redirect_says, redirect_begins, here_says, copy_in_says, copy_out_says}
use Rattle.sh_printing.proofs.BackNamed.{body_of, parts_bodies}
use Rattle.sh_printing.proofs.BackNodes.{redirect_nodes}
use Rattle.sh_printing.proofs.BackEnds.{Ended, any_end}
use Rattle.sh_printing.proofs.BackCommands.{Redirecting}
use Rattle.sh_printing.proofs.BackLists.{On}
use Rattle.sh_printing.proofs.BackExpand.{literal_back}
use Rattle.sh_printing.proofs.BackBegins.{here_word, aimed_word, redirects_split, ended_outside}
use Rattle.sh_printing.proofs.BackSums.{opening_of}

-- ---- here-documents

-- a here-document that is owed behind its operator, with its body
pub record HereTarget (k : Known) (d : ℕ) (q : List Sum) (g : Due) (op : RedirectOp) (w : shape.Parts) (v t : Text) : Type 0 where
  pub owes : Pending
  pub body : owes.body ≡ body_of w
  pub delimiter_is : owes.owed.delimiter ≡ delimiter (body_of w)
  pub target : Target k d q g (owing_more g owes) op w v t

pending_of : (literal : Bool) (body : Text) → is_lines body ≡ true → list_all is_body_byte body ≡ true → keeps (not literal) body ≡ true → has_line (delimiter body) body ≡ false → Pending
pending_of literal body l b u h = record { owed = record { delimiter = delimiter body; literal = literal; strips = false }; body = body; ends = λ rest. body_back literal (delimiter body) body rest (delimiter_marks body) l b u h }

pub literal_target : (k : Known) (d : ℕ) (q : List Sum) (g : Due) (i : Bool) (w : shape.Parts) (t : Text) → literal_body i w ≡ true → has_line (delimiter (body_of w)) (body_of w) ≡ false → nth k.bodies (length (named g)) ≡ body_of w → Outside t →
    HereTarget k d q g here_literal w (op_text here_literal ++ (delimiter_word true (delimiter (body_of w)) ++ t)) t
unfolding pending_of
literal_target k d q g i w t e h n o =
    let l = literal_back i w e in
    let p = pending_of true (body_of w) l.lines l.bytes refl h in
    let v = delimiter_word true (delimiter (body_of w)) ++ t in
    let f = here_word true (body_of w) t in
    record {
      owes = p;
      body = refl;
      delimiter_is = refl;
      target = here_says k d q g p here_literal w v t refl f.front f.no_dash f.first.unit f.first.free (delimiter_back true (delimiter (body_of w)) t (delimiter_bytes (body_of w)) f.first.unit o) refl
          (λ bytes. ap (λ (z : Text). Some (aimed_node here_literal (literal_parts z))) n ∙ ap (λ (z : shape.Parts). Some (aimed_node here_literal z)) l.is);
    }

pub expanded_target : (k : Known) (d : ℕ) (q : List Sum) (g : Due) (w : shape.Parts) (t : Text) → is_lines (body_of w) ≡ true → list_all is_body_byte (body_of w) ≡ true → keeps true (body_of w) ≡ true → has_line (delimiter (body_of w)) (body_of w) ≡ false → nth k.bodies (length (named g)) ≡ body_of w → expanded_parts k d (body_of w) ≡ Some w → Outside t →
    HereTarget k d q g here_expanded w (op_text here_expanded ++ (delimiter_word false (delimiter (body_of w)) ++ t)) t
unfolding pending_of
expanded_target k d q g w t l b u h n x o =
    let p = pending_of false (body_of w) l b u h in
    let v = delimiter_word false (delimiter (body_of w)) ++ t in
    let f = here_word false (body_of w) t in
    record {
      owes = p;
      body = refl;
      delimiter_is = refl;
      target = here_says k d q g p here_expanded w v t refl f.front f.no_dash f.first.unit f.first.free (delimiter_back false (delimiter (body_of w)) t (delimiter_bytes (body_of w)) f.first.unit o) refl
          (λ bytes. ap (λ (z : Text). expanded_parts k d z >>= λ ps. Some (aimed_node here_expanded ps)) n ∙ ap (λ (z : Option shape.Parts). z >>= λ ps. Some (aimed_node here_expanded ps)) x);
    }

-- what is owed then
pub here_owed : (g : Due) (p : Pending) (w : shape.Parts) → p.body ≡ body_of w → p.owed.delimiter ≡ delimiter (body_of w) → pending_text (owing_more g p).owing ≡ pending_text g.owing ++ whole_body true (body_of w)
here_owed g p w b e =
    pending_more g.owing p ∙ ap (λ (z : Text). pending_text g.owing ++ z) (ap (λ (z : Text). z ++ (p.owed.delimiter ++ 10 ∷ [])) b ∙ ap (λ (z : Text). body_of w ++ (z ++ 10 ∷ [])) e ∙ sym (append_assoc (body_of w) (delimiter (body_of w)) (10 ∷ [])))

pub word_owed : (o : Bool) (g : Due) (bs : List Text) → pending_text (after o g bs).owing ≡ behind_word o (pending_text g.owing)
word_owed true g bs = refl
word_owed false g bs = refl

-- ---- copies

abbrev pub copy_op : (into : Bool) → RedirectOp
copy_op true = copy_in
copy_op false = copy_out

pub copied_target : (k : Known) (d : ℕ) (q : List Sum) (g : Due) (into : Bool) (w : shape.Parts) (opening t : Text) → is_copied_word w ≡ true → Outside t → Target k d q g g (copy_op into) w (op_text (copy_op into) ++ (parts_text true in_word opening w ++ t)) t
copied_target k d q g into no_part opening t e o = absurd cc
copied_target k d q g into (part (plain []) no_part) opening t e o = absurd cc
copied_target k d q g true (part (plain (b ∷ [])) no_part) opening t e o = copy_in_says k d q g b t e o
copied_target k d q g false (part (plain (b ∷ [])) no_part) opening t e o = copy_out_says k d q g b t e o
copied_target k d q g into (part (plain (b ∷ c ∷ bs)) no_part) opening t e o = absurd cc
copied_target k d q g into (part (plain text) (part p ps)) opening t e o = absurd cc
copied_target k d q g into (part (shape.exact text) ps) opening t e o = absurd cc
copied_target k d q g into (part (shape.double qs) ps) opening t e o = absurd cc
copied_target k d q g into (part shape.tilde ps) opening t e o = absurd cc
copied_target k d q g into (part (shape.param p a) ps) opening t e o = absurd cc
copied_target k d q g into (part (shape.subst s) ps) opening t e o = absurd cc
copied_target k d q g into (part (shape.arith s ws) ps) opening t e o = absurd cc

-- such a word has no substitution
pub copied_closed : (w : shape.Parts) → is_copied_word w ≡ true → (parts_open w ≡ false) × (parts_bodies w ≡ [])
copied_closed no_part e = absurd cc
copied_closed (part (plain text) no_part) e = (refl, refl)
copied_closed (part (plain text) (part p ps)) e = absurd cc
copied_closed (part (shape.exact text) ps) e = absurd cc
copied_closed (part (shape.double qs) ps) e = absurd cc
copied_closed (part shape.tilde ps) e = absurd cc
copied_closed (part (shape.param p a) ps) e = absurd cc
copied_closed (part (shape.subst s) ps) e = absurd cc
copied_closed (part (shape.arith s ws) ps) e = absurd cc

-- ---- a redirection in front of others

led_gap : (behind : Bool) (t : Text) → gap t ≡ t → gap (led behind t) ≡ t
led_gap true t e = gap_blank t ∙ e
led_gap false t e = e

-- the text of the redirections that are left, with what is owed before them
abbrev pub redirects_on : (Text → Text) → Due → shape.Redirects → Text → Text
redirects_on last h rs t = redirects_text true true last (pending_text h.owing) rs ++ t

pub redirects_step : (k : Known) (d : ℕ) (q : List Sum) (g h : Due) (last : Text → Text) (fd : Option ℕ) (op : RedirectOp) (w : shape.Parts) (rs : shape.Redirects) (t : Text) (all : List Text) (p : Test) (r : Rule) → Redirecting p r → (behind : Bool) (bytes : Text) → gap bytes ≡ gap (redirects_text true behind last (pending_text g.owing) (redirect fd op w rs) ++ t) → fd_fits fd ≡ true →
    pending_text h.owing ≡ owed_behind true op (parts_open w) (body_of w) (pending_text g.owing) →
    Target k d q g h op w (op_text op ++ (aimed_word op w (opening_of g) ++ redirects_on last h rs t)) (redirects_on last h rs t) →
    On k (star p (rule r)) d q (st d q h (redirects_on last h rs t)) last t (redirect_nodes rs) all →
    On k (star p (rule r)) d q (st d q g bytes) last t (redirect_nodes (redirect fd op w rs)) all
redirects_step k d q g h last fd op w rs t all p r R behind bytes same f e target on =
    let u = redirects_on last h rs t in
    let v = op_text op ++ (aimed_word op w (opening_of g) ++ u) in
    let x = redirect_says k d q g h fd op w v u f target in
    let is : redirects_text true behind last (pending_text g.owing) (redirect fd op w rs) ++ t ≡ led behind (fd_text fd ++ v) = redirects_split behind last (pending_text g.owing) fd op w rs t ∙ ap (λ (z : Text). led behind (fd_text fd ++ (op_text op ++ (aimed_word op w (opening_of g) ++ (redirects_text true true last z rs ++ t))))) (sym e) in
    let gp = same ∙ ap gap is ∙ led_gap behind (fd_text fd ++ v) x.front.solid in
    let b = redirect_begins (fd_text fd ++ v) bytes x.front gp in
    let s = st d q g bytes in
    record {
      owing = on.owing;
      found = on.found;
      is_all = on.is_all;
      says =
          one_more {xs = redirect_node fd op w ∷ []} (R.begins s b) (R.turn k s (st d q h u) (redirect_node fd op w ∷ []) b (x.says bytes gp)) on.says;
    }

-- the bytes at which redirections are read: a gap before the first one says nothing
abbrev pub StartsAs : shape.Redirects → Text → Text → Type 0
StartsAs no_redirect bytes text = bytes ≡ text
StartsAs (redirect fd op w rs) bytes text = gap bytes ≡ gap text

pub starts_same : (rs : shape.Redirects) (text : Text) → StartsAs rs text text
starts_same no_redirect text = refl
starts_same (redirect fd op w rs) text = refl

-- what may stand behind redirections: nothing that their repetition goes on with
pub record Lasts (p : Test) (last : Text → Text) (t : Text) : Type 0 where
  pub outside : (owed : Text) → Outside (last owed ++ t)
  pub stops : (s : State) (owed : Text) → s.bytes ≡ last owed ++ t → holds p s ≡ false

stops_at : (p : Test) (r : Rule) → Redirecting p r → (end : End) (t : Text) (s : State) (owed : Text) → s.bytes ≡ ended end owed ++ t → holds p s ≡ false
stops_at p r R end t s owed e = let x = any_end end owed t in R.ends s x.op x.rest (subst (λ (z : Text). Ended x.op z x.rest) (sym e) x.is)

pub ended_lasts : (p : Test) (r : Rule) → Redirecting p r → (end : End) (t : Text) → Lasts p (ended end) t
ended_lasts p r R end t = record { outside = ended_outside end t; stops = stops_at p r R end t }

pub no_redirects : (k : Known) (d : ℕ) (q : List Sum) (g : Due) (last : Text → Text) (t : Text) (p : Test) (r : Rule) → Lasts p last t → On k (star p (rule r)) d q (st d q g (last (pending_text g.owing) ++ t)) last t [] (named g)
no_redirects k d q g last t p r L =
    record { owing = g.owing; found = g.found; says = no_more (L.stops (st d q g (last (pending_text g.owing) ++ t)) (pending_text g.owing) refl); is_all = refl }

-- ---- the first turn of a repetition

pub record Turn (k : Known) (p : Test) (r : Rule) (s e : State) (xs : List Node) : Type 0 where
  pub middle : State
  pub ones : List Node
  pub others : List Node
  pub one : Says k (rule r) s middle ones
  pub rest : Says k (star p (rule r)) middle e others
  pub is : ones ++ others ≡ xs

turn_by : (k : Known) (p : Test) (r : Rule) (s e : State) (xs : List Node) (t : Tree Rule Node) → holds p s ≡ true → At (knowing k) t (star p (rule r)) s e → kids (knowing k) t ≡ xs → Turn k p r s e xs
turn_by k p r s e xs (more t u) h a n =
    record { middle = a.1.0; ones = kids (knowing k) t; others = kids (knowing k) u; one = record { tree = t; spelled = a.1.1; says = refl }; rest = record { tree = u; spelled = a.1.2; says = refl }; is = n }
turn_by k p r s e xs Rattle.text_grammar.specs.Derivations.empty h a n = absurd (true≢false (sym h ∙ a.0))
turn_by k p r s e xs t h a n = absurd a

pub turn_of : (k : Known) (p : Test) (r : Rule) (s e : State) (xs : List Node) → holds p s ≡ true → Says k (star p (rule r)) s e xs → Turn k p r s e xs
turn_of k p r s e xs h a = turn_by k p r s e xs a.tree h a.spelled a.says
