-- What the reads of steps leave: no more bytes than there were, and mostly fewer.
use Rattle.std.proofs.Common.{◌≡◌, ℕ, zero, suc, ◌+◌, ◌≤◌, Bool, true, false, List, [], ◌∷◌, ◌++◌, length, Option, Some, None, refl, ap, arith}
use Rattle.std.proofs.lemmas.Bool.{eqb-false}
use Rattle.std.specs.Prelude.{◌&&◌, not, ◌==◌, codes}
use Rattle.text_grammar.specs.Grammar.{Leaf, quiet, said}
use Rattle.span_text.specs.KnownNames.{same_text, is_among}
use Rattle.bash_grammar.specs.Shape.{Code}
use Rattle.bash_grammar.specs.Bytes.{Text, Quoting, clear, gap, in_word, name_run}
use Rattle.bash_grammar.specs.Tokens.{◌>>=◌, behind, Op, Pipe, PipeAnd, SemiSemi, SemiAnd, SemiSemiAnd, Less, Great, Clobber, DGreat, DLess, DLessDash, TLess, LessAnd, GreatAnd, LessGreat, AndGreat, AndDGreat, Far, Word, Key, If, Then, Elif, Else, Fi, For, In, Until, While, Do, Done, Case, Esac, Select, Function, Time, Coproc, OpenBrace, CloseBrace, OpenCond, CloseCond, Bang, key_text, literal_word, is_whole, is_key, is_word_of, is_token}
use Rattle.bash_grammar.specs.Heads.{Subject, known, refused, dollar_short}
use Rattle.bash_grammar.specs.Bodies.{delimiter_for}
use Rattle.bash_grammar.specs.State.{State, Found, Outer, Frame, move, behind_quotes, ahead}
use Rattle.bash_grammar.specs.Sums.{Stretch, ends_stretch, is_sum_byte, stretch_level, stretch_from, stretch_run, with_level}
use Rattle.bash_grammar.specs.Nodes.{Node}
use Rattle.bash_grammar.specs.Moves.{Flag, posix, last_flag}
use Rattle.bash_grammar.specs.Steps.{Known, Read, name_read, dollar_read, short_read, or_short, pipe_read, item_read, test_read, angle_read, flag_text, word_place, digit_read, far_read, redirect_read, here_node, body_in, owes, here_after, here_read, bodies_at, line_read, literal_read, byte_read, lone_read, lone_two, behind_sign, tick_run, ticks_at, into_ticks, out_of_ticks, sum_read, stretch_read}
use Rattle.bash_grammar.proofs.Tools as tools
use Rattle.bash_grammar.proofs.Tools.{chosen, chosen_by, then}
use Rattle.bash_grammar.proofs.Lengths.{clear_fits, gap_fits, literal_fits, name_run_fits, BothCounted}
use Rattle.bash_grammar.proofs.Fronts.{TokenFits}
use Rattle.bash_grammar.proofs.Heads.{Within, Left, Rest, RestLeft, behind_clear, dollar_short_fits}
use Rattle.bash_grammar.proofs.Lines.{delimiter_for_fits, bodies_fit}

-- with k bytes more than these there are at most those of s
abbrev pub Gives : State → ℕ → Read → Type 0
Gives s k o = tools.If (λ (x : Leaf Node × State). ahead x.1 + k ≤ ahead s) o

-- what a step gives behind what was read
pub on : {A : Type 0} (s : State) (k : ℕ) (P : A → Type 0) (o : Option A) (f : A → Read) → tools.If P o → ((x : A) → P x → Gives s k (f x)) → Gives s k (o >>= f)
on s k P o f h g = then P (λ (x : Leaf Node × State). ahead x.1 + k ≤ ahead s) o f h g

-- the same text behind backquotes
pub kept : (s m : State) (k : ℕ) → m.outer ≡ s.outer → length m.bytes + k ≤ length s.bytes → ahead m + k ≤ ahead s
unfolding ahead
kept s m k e le = let same = ap behind_quotes e in omega arith

pub moved : (s : State) (k : ℕ) (rest : Text) → length rest + k ≤ length s.bytes → ahead (move s rest) + k ≤ ahead s
moved s k rest le = kept s (move s rest) k refl le

-- where steps read in the frames
pub framed_left : (s : State) (k : ℕ) (x : Leaf Node) (frames : List Frame) (rest : Text) → length rest + k ≤ length s.bytes → Gives s k (Some (x, record s { bytes = rest; frames = frames }))
framed_left s k x frames rest le = kept s (record s { bytes = rest; frames = frames }) k refl le

-- ---- names

pub name_left : (s : State) (from : Text) (x : Text × Text) → length x.1 + 1 ≤ length s.bytes → Gives s 1 (name_read s from x)
name_left s from x le = moved s 1 x.1 le

pub dollar_left : (s : State) (from : Text) (x : Text × Text) → length x.1 + 1 ≤ length s.bytes → Gives s 1 (dollar_read s from x)
dollar_left s from x le = chosen (Gives s 1) (same_text x.0 (codes "_")) _ _ (moved s 1 x.1 le) (moved s 1 x.1 le)

short_left : (s : State) (x : Subject × Text) → length x.1 + 1 ≤ length s.bytes → Gives s 1 (short_read s x)
short_left s (known p, rest) le = moved s 1 rest le
short_left s (refused c, rest) le = moved s 1 rest le

pub or_short_left : (s : State) (o : Option Text) → tools.If (Left (length s.bytes)) o → Gives s 1 (or_short s o)
or_short_left s None h = on s 1 (RestLeft {A = Subject} (length s.bytes)) (dollar_short s.bytes) (short_read s) (dollar_short_fits s.bytes) (λ x i. short_left s x i)
or_short_left s (Some from) h = let r = name_run_fits from in dollar_left s from (name_run from) (omega arith)

-- ---- tokens

pub pipe_left : (s : State) (x : Op × Text) → TokenFits (length s.bytes) x → Gives s 1 (pipe_read s x)
pipe_left s (Pipe, rest) h = moved s 1 rest h
pipe_left s (PipeAnd, rest) h = moved s 1 rest h
pipe_left s x h = tt

pub item_left : (s : State) (x : Op × Text) → TokenFits (length s.bytes) x → Gives s 1 (item_read s x)
item_left s (SemiSemi, rest) h = moved s 1 rest h
item_left s (SemiAnd, rest) h = moved s 1 rest h
item_left s (SemiSemiAnd, rest) h = moved s 1 rest h
item_left s x h = tt

pub test_left : (s : State) (from : Text) (x : Text × Text) → length x.0 + length x.1 ≤ length s.bytes → Gives s 1 (test_read s from x)
test_left s from ([], rest) le = tt
test_left s from (b ∷ bs, rest) le = moved s 1 rest (omega arith)

pub angle_left : (s : State) (bytes : Text) → length bytes ≤ length s.bytes → Gives s 1 (angle_read s bytes)
angle_left s [] le = tt
angle_left s (b ∷ bs) le = moved s 1 bs (omega arith)

pub digit_left : (s : State) (bytes : Text) → length bytes ≤ length s.bytes → Gives s 1 (digit_read s bytes)
digit_left s [] le = tt
digit_left s (b ∷ bs) le = moved s 1 bs (omega arith)

pub far_within : (s : State) (x : Op × Text) → TokenFits (length s.bytes) x → Gives s 0 (far_read s x)
far_within s (Far, rest) h = moved s 0 rest h
far_within s x h = tt

pub redirect_left : (s : State) (x : Op × Text) → TokenFits (length s.bytes) x → Gives s 1 (redirect_read s x)
redirect_left s (Less, rest) h = moved s 1 rest h
redirect_left s (Great, rest) h = moved s 1 rest h
redirect_left s (Clobber, rest) h = moved s 1 rest h
redirect_left s (DGreat, rest) h = moved s 1 rest h
redirect_left s (TLess, rest) h = moved s 1 rest h
redirect_left s (LessAnd, rest) h = moved s 1 rest h
redirect_left s (GreatAnd, rest) h = moved s 1 rest h
redirect_left s (AndGreat, rest) h = moved s 1 rest h
redirect_left s (AndDGreat, rest) h = moved s 1 rest h
redirect_left s (LessGreat, rest) h = moved s 1 rest h
redirect_left s x h = tt

pub place_within : (bytes : Text) → tools.If (Within (length bytes)) (word_place bytes)
place_within bytes = let g = gap_fits bytes in chosen (tools.If (Within (length bytes))) (is_token Word bytes) (Some (gap bytes)) None g tt

-- ---- reserved words

no_empty_key : (w : Key) → same_text [] (key_text w) ≡ true → ⊥
unfolding key_text
no_empty_key If e = absurd cc
no_empty_key Then e = absurd cc
no_empty_key Elif e = absurd cc
no_empty_key Else e = absurd cc
no_empty_key Fi e = absurd cc
no_empty_key For e = absurd cc
no_empty_key In e = absurd cc
no_empty_key Until e = absurd cc
no_empty_key While e = absurd cc
no_empty_key Do e = absurd cc
no_empty_key Done e = absurd cc
no_empty_key Case e = absurd cc
no_empty_key Esac e = absurd cc
no_empty_key Select e = absurd cc
no_empty_key Function e = absurd cc
no_empty_key Time e = absurd cc
no_empty_key Coproc e = absurd cc
no_empty_key OpenBrace e = absurd cc
no_empty_key CloseBrace e = absurd cc
no_empty_key OpenCond e = absurd cc
no_empty_key CloseCond e = absurd cc
no_empty_key Bang e = absurd cc

no_empty_flag : (f : Flag) → is_among (flag_text f ∷ []) [] ≡ true → ⊥
no_empty_flag posix e = absurd cc
no_empty_flag last_flag e = absurd cc

and_right : (a b : Bool) → (a && b) ≡ true → b ≡ true
and_right true b e = e
and_right false b e = absurd cc

-- a word that isn't empty takes a byte
word_left : (p : Text → Bool) (n : ℕ) (run : Text × Text) → (p [] ≡ true → ⊥) → length run.0 + length run.1 ≤ n → (is_whole run && p run.0) ≡ true → length run.1 + 1 ≤ n
word_left p n (b ∷ bs, rest) none le e = omega arith
word_left p n ([], rest) none le e = absurd (none (and_right (is_whole ([], rest)) (p []) e))

pub key_left : (w : Key) (bytes : Text) → is_key w bytes ≡ true → length (literal_word bytes).1 + 1 ≤ length bytes
unfolding is_key
key_left w bytes e = let g = gap_fits bytes in let l = literal_fits in_word (gap bytes) in word_left (λ t. same_text t (key_text w)) (length bytes) (literal_word bytes) (no_empty_key w) (omega arith) e

pub flag_left : (f : Flag) (bytes : Text) → is_word_of (flag_text f ∷ []) bytes ≡ true → length (literal_word bytes).1 + 1 ≤ length bytes
unfolding is_word_of
flag_left f bytes e = let g = gap_fits bytes in let l = literal_fits in_word (gap bytes) in word_left (λ t. is_among (flag_text f ∷ []) t) (length bytes) (literal_word bytes) (no_empty_flag f) (omega arith) e

-- ---- here-documents

node_left : (s : State) (strips : Bool) (d : (Text × Bool) × Text) (o : Option Node) → length d.1 + 1 ≤ length s.bytes → Gives s 1 (o >>= λ x. Some (said x, owes s strips d))
node_left s strips d None le = tt
node_left s strips d (Some x) le = kept s (owes s strips d) 1 refl le

here_after_left : (k : Known) (s : State) (strips : Bool) (bytes : Text) → length bytes + 1 ≤ length s.bytes → Gives s 1 (here_after k s strips bytes)
here_after_left k s strips bytes le =
    on s 1 (Within (length bytes)) (word_place bytes) _ (place_within bytes)
    (λ place i. on s 1 (Rest {A = Text × Bool} (length place)) (delimiter_for strips place) _ (delimiter_for_fits (length place) strips place (omega arith))
    (λ d h. node_left s strips d (here_node k s.depth (body_in s.named k.bodies) d.0.1) (omega arith)))

pub here_left : (k : Known) (s : State) (x : Op × Text) → TokenFits (length s.bytes) x → Gives s 1 (here_read k s x)
here_left k s (DLess, rest) h = here_after_left k s false rest h
here_left k s (DLessDash, rest) h = here_after_left k s true rest h
here_left k s x h = tt

pub line_left : (s : State) (rest : Text) → length rest + 1 ≤ length s.bytes → Gives s 1 (line_read s rest)
line_left s rest le =
    on s 1 (Rest {A = List Found} (length rest)) (bodies_at s s.owed rest) _ (bodies_fit (length rest) s s.owed rest (omega arith))
    (λ x h. kept s (record s { bytes = x.1; owed = []; found = s.found ++ x.0 }) 1 refl (omega arith))

-- ---- words

pub literal_left : (s : State) (n : ℕ) (x : (Text × Text) × ℕ) → n ≤ length s.bytes → BothCounted n x → Gives s 1 (literal_read s x)
literal_left s n (([], rest), level) i le = tt
literal_left s n ((b ∷ bs, rest), level) i le = kept s (record s { bytes = rest; frames = with_level level s.frames }) 1 refl (omega arith)

pub byte_left : (s : State) (bytes : Text) → length bytes ≤ length s.bytes → Gives s 1 (byte_read s bytes)
byte_left s [] le = tt
byte_left s (b ∷ bs) le = moved s 1 bs (omega arith)

pub lone_left : (s : State) (c : Code) (bytes : Text) → length bytes ≤ length s.bytes → Gives s 1 (lone_read s c bytes)
lone_left s c [] le = tt
lone_left s c (b ∷ bs) le = moved s 1 bs (omega arith)

pub lone_two_left : (s : State) (c : Code) (bytes : Text) → length bytes ≤ length s.bytes → Gives s 1 (lone_two s c bytes)
lone_two_left s c [] le = tt
lone_two_left s c (b ∷ bs) le = let i = clear_fits bs in lone_left s c (clear bs) (omega arith)

pub sign_left : (n : ℕ) (bytes : Text) → length bytes ≤ n → tools.If (Left n) (behind_sign bytes)
sign_left n [] le = tt
sign_left n (b ∷ bs) le = behind_clear 40 n bs (omega arith)

-- ---- backquotes

-- both texts and the backquote have at most n bytes
abbrev Ticks : ℕ → Text × Text → Type 0
Ticks n x = length x.0 + length x.1 + 1 ≤ n

tick_run_fits : (bytes : Text) → tools.If (Ticks (length bytes)) (tick_run bytes)
unfolding tick_run
tick_run_fits [] = tt
tick_run_fits (b ∷ bs) =
    let n = suc (length bs) in let i : Ticks n ([], bs) = omega arith in
    chosen (tools.If (Ticks n)) (b == 96) (Some ([], bs)) _ i
    (then (Ticks (length bs)) (Ticks n) (tick_run bs) (λ x. Some (b ∷ x.0, x.1)) (tick_run_fits bs) (λ x h. omega arith))

pub ticks_left : (bytes : Text) → tools.If (Ticks (length bytes)) (ticks_at bytes)
unfolding ticks_at
ticks_left bytes =
    then (Left (length bytes)) (Ticks (length bytes)) (behind 96 (clear bytes)) tick_run (behind_clear 96 (length bytes) bytes (omega arith))
    (λ rest h. tools.weaker (Ticks (length rest)) (Ticks (length bytes)) (tick_run rest) (λ x i. omega arith) (tick_run_fits rest))

pub into_left : (s : State) (x : Text × Text) → length x.0 + length x.1 + 2 ≤ length s.bytes → Gives s 1 (into_ticks s x)
unfolding ahead behind_quotes
into_left s x le = omega arith

-- both backquotes
pub ticks_twice : (bytes : Text) → tools.If (λ (x : Text × Text). length x.0 + length x.1 + 2 ≤ length bytes) (ticks_at bytes)
unfolding ticks_at
ticks_twice bytes =
    then (Left (length bytes)) (λ (x : Text × Text). length x.0 + length x.1 + 2 ≤ length bytes) (behind 96 (clear bytes)) tick_run (behind_clear 96 (length bytes) bytes (omega arith))
    (λ rest h. tools.weaker (Ticks (length rest)) (λ (x : Text × Text). length x.0 + length x.1 + 2 ≤ length bytes) (tick_run rest) (λ x i. omega arith) (tick_run_fits rest))

pub out_left : (s : State) (os : List Outer) → s.outer ≡ os → Gives s 1 (out_of_ticks s os)
unfolding ahead behind_quotes
out_left s [] e = tt
out_left s (o ∷ os) e = let same : behind_quotes s.outer ≡ suc (length o.bytes + behind_quotes os) = ap behind_quotes e in omega arith

-- ---- expressions

pub sum_within : (s : State) (optional : Bool) (q : Quoting) (fs : List Frame) → Gives s 0 (sum_read s optional q fs)
sum_within s optional q [] = tt
sum_within s optional q (f ∷ fs) = kept s (record s { frames = fs }) 0 refl (omega arith)

stretch_from_fits : (n : ℕ) (s : Stretch) (level : ℕ) (bs : Text) → length bs ≤ n → length (stretch_from s level bs).0 ≤ n
stretch_from_fits n s level [] le = le
stretch_from_fits n s level (b ∷ bs) le =
    chosen (λ (x : Text × ℕ). length x.0 ≤ n) (is_sum_byte b bs && not (ends_stretch s level b)) (stretch_from s (stretch_level s b level) bs) (b ∷ bs, level)
    (stretch_from_fits n s (stretch_level s b level) bs (omega arith)) le

pub stretch_fits : (s : Stretch) (level : ℕ) (bs : Text) → length (stretch_run s level bs).0 ≤ length bs
unfolding stretch_run
stretch_fits s level bs = stretch_from_fits (length bs) s level bs (omega arith)

less_where : (m n : ℕ) → m ≤ n → (m ≡ n → ⊥) → m + 1 ≤ n
less_where zero zero le ne = absurd (ne refl)
less_where zero (suc n) le ne = omega arith
less_where (suc m) zero le ne = omega arith
less_where (suc m) (suc n) le ne = let i = less_where m n (omega arith) (λ e. ne (ap suc e)) in omega arith

pub stretch_left : (s : State) (x : Text × ℕ) → length x.0 ≤ length s.bytes → Gives s 1 (stretch_read s x)
stretch_left s x le =
    chosen_by (Gives s 1) (length x.0 == length s.bytes) None (Some (quiet, record s { bytes = x.0; frames = with_level x.1 s.frames })) (λ e. tt)
    (λ e. kept s (record s { bytes = x.0; frames = with_level x.1 s.frames }) 1 refl (less_where (length x.0) (length s.bytes) le (eqb-false (length x.0) (length s.bytes) e)))
