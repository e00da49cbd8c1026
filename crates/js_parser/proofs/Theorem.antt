-- What the machine answers is what the parser has to answer: it reads each spelled tree, what it has read is
-- spelled, and the end of a text is the last thing that it takes.
use Rattle.std.proofs.Common.{◌≡◌, ℕ, zero, suc, ◌+◌, ◌<◌, ◌≤◌, Bool, true, false, [], ◌∷◌, ◌++◌, length, take, drop, map, if◌then◌else◌, Option, Some, None, refl, ap, sym, ◌∙◌, subst, arith}
use Rattle.std.specs.Prelude.{nat_le}
use Rattle.std.proofs.lemmas.Bool.{leb-true, leb-false}
use Rattle.es_model.specs.declared.token.Token.{Token}
use Rattle.es_model.specs.Tree as t
use Rattle.es_model.specs.Tree.{Tree}
use Rattle.es_model.specs.Readings.{Tokens}
use Rattle.es_model.specs.Nesting.{nesting}
use Rattle.es_model.specs.Spelling.{spells}
use Rattle.js_parser.specs.Control.{Control}
use Rattle.js_parser.specs.Control as c
use Rattle.parser_forms.specs.Kept.{Sorted}
use Rattle.js_parser.specs.Cut.{cut}
use Rattle.js_parser.specs.State.{Frames, State, state, fail}
use Rattle.js_parser.specs.Machine.{step, run, start, Answer, Parsed, TooDeep, Syntax, answer, answer_from, unless_failed}
use Rattle.js_parser.specs.Parsed.{shape, NoneGoesOn, Answers, EndsLast, result_of}
use Rattle.js_parser.proofs.Moved.{Alike}
use Rattle.js_parser.proofs.Over.{IsOver, over}
use Rattle.js_parser.proofs.Complete.{built}
use Rattle.js_parser.proofs.Sound.{spelled}
use Rattle.js_parser.proofs.MovedForms.{module_moves}

abbrev Failed : State → Type 0
Failed (state c.Fail frames) = Unit {0}
Failed _ = ⊥

-- a machine that failed takes no more
still_failed : (st : State) (tokens : Tokens) → Failed st → Failed (run st tokens)
still_failed (state c.Fail frames) [] h = h
still_failed (state c.Fail frames) (token ∷ tokens) h = still_failed fail tokens tt
still_failed (state _ frames) tokens h = absurd h

run_joined : (st : State) (tokens more : Tokens) → run st (tokens ++ more) ≡ run (run st tokens) more
run_joined st [] more = refl
run_joined st (token ∷ tokens) more = run_joined (step st token) tokens more

-- What an answer says of the runs of the machine. Of a place it says that the machine fails with the token there.
abbrev Found : ℕ → State → Tokens → Answer → Type 0
Found place st tokens (Parsed whole) = (items : Sorted (t.list t.item)) × (frames : Frames) × (run st tokens ≡ state (c.Done items) frames) × (items.tree ≡ Some whole)
Found place st tokens TooDeep = (items : Sorted (t.list t.item)) × (frames : Frames) × (run st tokens ≡ state (c.Done items) frames) × (items.tree ≡ None)
Found place st tokens (Syntax n) = (i : ℕ) × (n ≡ place + i) × (i < length tokens) × Failed (run st (take (suc i) tokens))

later : (place : ℕ) (st next : State) (token : Token) (tokens : Tokens) (a : Answer) → step st token ≡ next → Found (suc place) next tokens a → Found place st (token ∷ tokens) a
later place st next token tokens (Parsed whole) e h = (h.0, h.1, ap (λ s. run s tokens) e ∙ h.2, h.3)
later place st next token tokens TooDeep e h = (h.0, h.1, ap (λ s. run s tokens) e ∙ h.2, h.3)
later place st next token tokens (Syntax n) e h = (suc h.0, omega (arith, h.1), omega (arith, h.2), subst (λ s. Failed (run s (take (suc h.0) tokens))) (sym e) h.3)

at_end : (place : ℕ) (items : Sorted (t.list t.item)) (frames : Frames) → Found place (state (c.Done items) frames) [] (answer_from place (state (c.Done items) frames) [])
at_end place items frames = by items.tree refl
  where
    by : (o : Option (Tree (t.list t.item))) → items.tree ≡ o → Found place (state (c.Done items) frames) [] (elim o [ Some tree ↦ Parsed tree | None ↦ TooDeep ])
    by (Some whole) e = (items, frames, refl, e)
    by None e = (items, frames, refl, e)

-- the answer where the machine made a state of a token
abbrev after : ℕ → State → Tokens → Answer
after place next tokens = elim next [ state control frames ↦ unless_failed place control (answer_from (suc place) (state control frames) tokens) ]

failed_here : (place : ℕ) (st : State) (frames : Frames) (token : Token) (tokens : Tokens) → step st token ≡ state c.Fail frames → Found place st (token ∷ tokens) (Syntax place)
failed_here place st frames token tokens e = (0, omega arith, omega arith, subst Failed (sym e) tt)

last_found : (place : ℕ) (st next : State) (token : Token) → step st token ≡ next → IsOver next → Found place st (token ∷ []) (after place next [])
last_found place st (state c.Fail frames) token e ended = failed_here place st frames token [] e
last_found place st (state (c.Done items) frames) token e ended = later place st _ token [] _ e (at_end (suc place) items frames)
last_found place st (state _ frames) token e ended = absurd ended

next_found : (place : ℕ) (st next : State) (token : Token) (tokens : Tokens) → step st token ≡ next → Found (suc place) next tokens (answer_from (suc place) next tokens) → Found place st (token ∷ tokens) (after place next tokens)
next_found place st (state c.Fail frames) token tokens e h = failed_here place st frames token tokens e
next_found place st (state _ frames) token tokens e h = later place st _ token tokens _ e h

found : (place : ℕ) (st : State) (tokens : Tokens) → EndsLast tokens → Found place st tokens (answer_from place st tokens)
found place st [] ends = absurd ends
found place st (token ∷ []) ends = last_found place st (step st token) token refl (over st token ends)
found place st (token ∷ (other ∷ tokens)) ends = next_found place st (step st token) token (other ∷ tokens) refl (found (suc place) (step st token) (other ∷ tokens) ends)

-- A tree that is kept, and one that isn't.

kept_as : (tree : Tree (t.list t.item)) (other : Tree (t.list t.item)) → (cut tree).tree ≡ Some other → (nesting tree ≤ 64) × (tree ≡ other)
kept_as tree other = by (nat_le (nesting tree) 64) refl
  where
    by : (b : Bool) → nat_le (nesting tree) 64 ≡ b → (if b then Some tree else None) ≡ Some other → (nesting tree ≤ 64) × (tree ≡ other)
    by true e h = (leb-true _ _ e, cc h)
    by false e h = absurd (cc h)

not_kept : (tree : Tree (t.list t.item)) → (cut tree).tree ≡ None → 64 < nesting tree
not_kept tree = by (nat_le (nesting tree) 64) refl
  where
    by : (b : Bool) → nat_le (nesting tree) 64 ≡ b → (if b then Some tree else None) ≡ None → 64 < nesting tree
    by true e h = absurd (cc h)
    by false e h = leb-false _ _ e

-- what two runs to the end kept is the same
kept_same : {items other : Sorted (t.list t.item)} {frames left : Frames} → state (c.Done items) frames ≡ state (c.Done other) left → items ≡ other
kept_same {items} {other} e = ap (λ (st : State). elim st [ state control frames ↦ done control ]) e
  where
    done : Control → Sorted (t.list t.item)
    done (c.Done one) = one
    done _ = items

-- Tokens of the same kinds and line breaks up to a place, and what comes behind.
alike_self : (tokens : Tokens) → Alike tokens tokens
alike_self [] = tt
alike_self (token ∷ tokens) = (refl, alike_self tokens)

alike_before : (n : ℕ) (tokens others : Tokens) → map shape (take n others) ≡ map shape (take n tokens) → n ≤ length tokens → Alike others (take n tokens ++ drop n others)
alike_before zero tokens others e h = alike_self others
alike_before (suc n) [] others e h = absurd (omega (arith, h))
alike_before (suc n) (token ∷ tokens) [] e h = absurd (cc e)
alike_before (suc n) (token ∷ tokens) (other ∷ others) e h =
    let first : shape other ≡ shape token = cc e in
    let rest : map shape (take n others) ≡ map shape (take n tokens) = cc e in
    (first, alike_before n tokens others rest (omega (arith, h)))

none_goes_on : (tokens : Tokens) (n : ℕ) → n < length tokens → Failed (run start (take (suc n) tokens)) → NoneGoesOn tokens n
none_goes_on tokens n h failed = (
  h,
  λ others tree same spelling.
      let front = take (suc n) tokens in
      let behind = drop (suc n) others in
      let other = module_moves tree others (front ++ behind) (alike_before (suc n) tokens others same (omega (arith, h))) spelling in
      let done : run start (front ++ behind) ≡ state (c.Done (cut other.0)) [] = built other.0 (front ++ behind) other.1 in
      let gone : Failed (run start (front ++ behind)) = subst Failed (sym (run_joined start front behind)) (still_failed (run start front) behind failed) in
      subst Failed done gone,
)

from_found : (tokens : Tokens) (a : Answer) → Found 0 start tokens a → Answers tokens (result_of a)
from_found tokens (Parsed whole) h =
    let read = spelled tokens h.0 h.1 h.2 in
    let kept = kept_as read.0 whole (ap (λ (k : Sorted (t.list t.item)). k.tree) read.1 ∙ h.3) in
    let only : (other : Tree (t.list t.item)) → spells other tokens → other ≡ whole = λ other spelling. (kept_as other whole (ap (λ (k : Sorted (t.list t.item)). k.tree) (kept_same (sym (built other tokens spelling) ∙ h.2)) ∙ h.3)).1 in
    (subst (λ tree. spells tree tokens) kept.1 read.2, subst (λ tree. nesting tree ≤ 64) kept.1 kept.0, only)
from_found tokens TooDeep h =
    let read = spelled tokens h.0 h.1 h.2 in
    (read.0, read.2, λ other spelling. not_kept other (ap (λ (k : Sorted (t.list t.item)). k.tree) (kept_same (sym (built other tokens spelling) ∙ h.2)) ∙ h.3))
from_found tokens (Syntax n) h =
    let e : n ≡ h.0 = omega (arith, h.1) in
    subst (NoneGoesOn tokens) (sym e) (none_goes_on tokens h.0 h.2 h.3)

-- the parser's promise, of what the machine answers
pub answers : (tokens : Tokens) → EndsLast tokens → Answers tokens (result_of (answer tokens))
answers tokens ends = from_found tokens (answer tokens) (found 0 start tokens ends)
