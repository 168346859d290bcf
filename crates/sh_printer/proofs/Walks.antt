-- What has been put of a text, and what is left of it.
use Rattle.std.proofs.Common.{◌≡◌, ℕ, Bool, [], ◌++◌, Option, Result, Ok, Err, refl, sym, ap, subst, ◌∙◌, append_assoc}
use Rattle.std.proofs.lemmas.List.{append-nil}
use Rattle.sh_grammar.specs.Bytes.{Text}
use Rattle.sh_printer.specs.declared.search.Search.{Search}
use Rattle.sh_printer.specs.Search.{Put}
use Rattle.sh_printer.proofs.Puts.{put_then, put_early, put_writes, put_none}

-- of a text, this rest is left
pub record Walked {T : Type 0} (E : Type 0) (held : T → Option Text) (faults : T → ℕ) (s t : Search) (a b : T) (whole rest : Bool → Text) : Type 0 where
  pub front : Text
  pub put : Put {E = E} held faults s t a b (Ok tt) front
  pub is : front ++ rest s.writes ≡ whole s.writes

pub walked_none : {T : Type 0} (E : Type 0) (held : T → Option Text) (faults : T → ℕ) (s : Search) (a : T) (whole : Bool → Text) → Walked E held faults s s a a whole whole
walked_none E held faults s a whole = record { front = []; put = put_none held faults s a; is = refl }

same_way : {T : Type 0} (E : Type 0) (held : T → Option Text) (faults : T → ℕ) (s t u : Search) (a b c : T) (whole rest x : Bool → Text) (r : Result (Unit {0}) E) → Walked E held faults s t a b whole rest → Put held faults t u b c r (x t.writes) → Put held faults t u b c r (x s.writes)
same_way {T} E held faults s t u a b c whole rest x r w p = subst (λ (full : Bool). Put {T = T} {E = E} held faults t u b c r (x full)) (put_writes {E = E} held faults s t a b (Ok tt) w.front w.put) p

-- the last piece
pub walked_done : {T : Type 0} (E : Type 0) (held : T → Option Text) (faults : T → ℕ) (s t u : Search) (a b c : T) (whole rest : Bool → Text) (r : Result (Unit {0}) E) → Walked E held faults s t a b whole rest → Put held faults t u b c r (rest t.writes) → Put held faults s u a c r (whole s.writes)
walked_done {T} E held faults s t u a b c whole rest r w p =
    subst (λ (text : Text). Put {T = T} {E = E} held faults s u a c r text) w.is (put_then held faults s t u a b c r w.front (rest s.writes) w.put (same_way E held faults s t u a b c whole rest rest r w p))

-- a piece more
pub walked_more : {T : Type 0} (E : Type 0) (held : T → Option Text) (faults : T → ℕ) (s t u : Search) (a b c : T) (whole rest x left : Bool → Text) → Walked E held faults s t a b whole rest → Put {E = E} held faults t u b c (Ok tt) (x t.writes) → ((full : Bool) → x full ++ left full ≡ rest full) → Walked E held faults s u a c whole left
walked_more E held faults s t u a b c whole rest x left w p is = record {
  front = w.front ++ x s.writes;
  put = put_then held faults s t u a b c (Ok tt) w.front (x s.writes) w.put (same_way E held faults s t u a b c whole rest x (Ok tt) w p);
  is = append_assoc w.front (x s.writes) (left s.writes) ∙ ap (λ (text : Text). w.front ++ text) (is s.writes) ∙ w.is;
}

-- a piece that fails
pub walked_fails : {T : Type 0} (E : Type 0) (held : T → Option Text) (faults : T → ℕ) (s t u : Search) (a b c : T) (whole rest x left : Bool → Text) (r : Result (Unit {0}) E) (e : E) → r ≡ Err e → Walked E held faults s t a b whole rest → Put {E = E} held faults t u b c (Err e) (x t.writes) → ((full : Bool) → x full ++ left full ≡ rest full) → Put held faults s u a c r (whole s.writes)
walked_fails {T} E held faults s t u a b c whole rest x left r e fails w p is =
    let q : Put {E = E} held faults s u a c (Err e) (w.front ++ x s.writes) = put_then held faults s t u a b c (Err e) w.front (x s.writes) w.put (same_way E held faults s t u a b c whole rest x (Err e) w p) in
    subst (λ (text : Text). Put {T = T} {E = E} held faults s u a c r text) (append_assoc w.front (x s.writes) (left s.writes) ∙ ap (λ (text : Text). w.front ++ text) (is s.writes) ∙ w.is) (put_early held faults s u a c r e (w.front ++ x s.writes) (left s.writes) fails q)

-- nothing is left
pub walked_all : {T : Type 0} (E : Type 0) (held : T → Option Text) (faults : T → ℕ) (s t : Search) (a b : T) (whole rest : Bool → Text) → Walked E held faults s t a b whole rest → ((full : Bool) → rest full ≡ []) → Put {E = E} held faults s t a b (Ok tt) (whole s.writes)
walked_all {T} E held faults s t a b whole rest w none =
    subst (λ (text : Text). Put {T = T} {E = E} held faults s t a b (Ok tt) text) (sym (append-nil w.front) ∙ ap (λ (text : Text). w.front ++ text) (sym (none s.writes)) ∙ w.is) w.put

-- the first piece
pub walked_start : {T : Type 0} (E : Type 0) (held : T → Option Text) (faults : T → ℕ) (s t : Search) (a b : T) (whole x left : Bool → Text) → Put {E = E} held faults s t a b (Ok tt) (x s.writes) → ((full : Bool) → x full ++ left full ≡ whole full) → Walked E held faults s t a b whole left
walked_start E held faults s t a b whole x left p is = walked_more E held faults s s t a a b whole whole x left (walked_none E held faults s a whole) p is

pub start_fails : {T : Type 0} (E : Type 0) (held : T → Option Text) (faults : T → ℕ) (s t : Search) (a b : T) (whole x left : Bool → Text) (r : Result (Unit {0}) E) (e : E) → r ≡ Err e → Put {E = E} held faults s t a b (Err e) (x s.writes) → ((full : Bool) → x full ++ left full ≡ whole full) → Put held faults s t a b r (whole s.writes)
start_fails E held faults s t a b whole x left r e fails p is = walked_fails E held faults s s t a a b whole whole x left r e fails (walked_none E held faults s a whole) p is
