-- Loops over the members of an object, and the folders of a path.
use Rattle.std.proofs.Common.{◌≡◌, List, [], ◌∷◌, ◌++◌, Result, Err, sym, ap, ◌∙◌, subst, append-nil, string_bytes}
use Rattle.serde_json.specs.Data.{Data}
use Rattle.serde_json.specs.View.{view, members_view}
use Rattle.serde_json.proofs.Views.{Entry}
use Rattle.shell_world.specs.Texts.{Text}
use Rattle.world_json.specs.declared.fault.JobFault.{JobFault}
use Rattle.world_json.specs.Judging.{Judged, Good, IsJudged, and_then, within}
use Rattle.world_json.specs.Jobs.{pairs_of}
use Rattle.world_json.proofs.Judging.{with_front, front_more, front_bad, same_judged}

-- the pairs behind those that are done
abbrev pub pairs_left : (Text → Data → Judged (Text × Text)) → List (Text × Text) → List Entry → Judged (List (Text × Text))
pairs_left judge done es = with_front done (pairs_of judge (members_view es))

pub pair_good : (judge : Text → Data → Judged (Text × Text)) (done later : List (Text × Text)) (left : List Entry) (e : Entry) (es : List Entry) (x : Text × Text) (all : Judged (List (Text × Text)))
    → left ≡ e ∷ es → within (string_bytes e.0) (judge (string_bytes e.0) (view e.1)) ≡ Good x → later ≡ done ++ x ∷ [] → pairs_left judge done left ≡ all → pairs_left judge later es ≡ all
pair_good judge done later left e es x all is good pushed so_far =
    let rest = pairs_of judge (members_view es) in
    let here = ap (λ (j : Judged (Text × Text)). with_front done (and_then j (λ p. and_then rest (λ ps. Good (p ∷ ps))))) good in
    ap (λ l. pairs_left judge l es) pushed ∙ sym (front_more done x rest) ∙ sym here ∙ sym (ap (pairs_left judge done) is) ∙ so_far

pub pair_bad : (judge : Text → Data → Judged (Text × Text)) (done : List (Text × Text)) (left : List Entry) (e : Entry) (es : List Entry) (all : Judged (List (Text × Text))) (fault : JobFault)
    → left ≡ e ∷ es → IsJudged (within (string_bytes e.0) (judge (string_bytes e.0) (view e.1))) (Err fault) → pairs_left judge done left ≡ all → IsJudged all (Err fault)
pair_bad judge done left e es all fault is bad so_far =
    same_judged _ _ (Err fault) (sym so_far ∙ ap (pairs_left judge done) is) (front_bad done (within (string_bytes e.0) (judge (string_bytes e.0) (view e.1))) _ fault bad)

pub pairs_end : (judge : Text → Data → Judged (Text × Text)) (done : List (Text × Text)) (left : List Entry) (all : Judged (List (Text × Text))) → left ≡ [] → pairs_left judge done left ≡ all → all ≡ Good done
pairs_end judge done left all is so_far = sym so_far ∙ ap (pairs_left judge done) is ∙ ap Good (append-nil done)

-- what `within` answers of the member at an entry
pub at_key : (judge : Text → Data → Judged (Text × Text)) (e : Entry) (name key : Text) (part r : Result (Text × Text) JobFault) → name ≡ string_bytes e.0 → key ≡ string_bytes e.0 → IsJudged (judge key (view e.1)) part
    → ((j : Judged (Text × Text)) → IsJudged j part → IsJudged (within name j) r) → IsJudged (within (string_bytes e.0) (judge (string_bytes e.0) (view e.1))) r
at_key judge e name key part r named keyed judged inside =
    let P : Text → Type 0 = λ t. IsJudged (within t (judge (string_bytes e.0) (view e.1))) r in
    let Q : Text → Type 0 = λ t. IsJudged (within name (judge t (view e.1))) r in
    subst P named (subst Q keyed (inside (judge key (view e.1)) judged))
