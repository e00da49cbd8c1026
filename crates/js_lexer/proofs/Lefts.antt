-- Taking characters of what is left of a text.
use Rattle.std.proofs.Common.{◌≡◌, ℕ, zero, suc, ◌+◌, ◌<◌, Bool, true, false, cond, List, [], ◌∷◌, length, take, take_while, Some, None, refl, sym, ◌∙◌, ap, arith}
use Rattle.std.specs.List.{prefix_len}
use Rattle.es_model.specs.Tokens.{width}
use Rattle.js_lexer.specs.Left.{Left, skip, skipped, first_of}
use Rattle.js_lexer.specs.Reads.{behind}

pub same_first : {c d : ℕ} → Some c ≡ Some d → c ≡ d
same_first e = cc e

-- one character less
pub shorter : (left : Left) (c : ℕ) → Some c ≡ first_of left.text → length (skip 1 left).text < length left.text
shorter left c h = by_text left.at left.text h
  where
    by_text : (at : ℕ) (text : List ℕ) → Some c ≡ first_of text → length (skipped 1 at text).text < length text
    by_text at [] h = absurd (cc h)
    by_text at (d ∷ cs) h = omega arith

pub skipped-end : (n at : ℕ) → skipped n at [] ≡ record { at = at; text = [] }
skipped-end zero at = refl
skipped-end (suc n) at = refl

skipped-skipped : (n m at : ℕ) (text : List ℕ) → skip m (skipped n at text) ≡ skipped (n + m) at text
skipped-skipped zero m at text = let e : 0 + m ≡ m = omega arith in rw e refl
skipped-skipped (suc n) m at [] = skipped-end m at ∙ sym (skipped-end (suc n + m) at)
skipped-skipped (suc n) m at (c ∷ cs) = let e : suc n + m ≡ suc (n + m) = omega arith in rw e (skipped-skipped n m (at + width c) cs)

pub skip-skip : (n m : ℕ) (left : Left) → skip m (skip n left) ≡ skip (n + m) left
skip-skip n m left = skipped-skipped n m left.at left.text

-- The characters that pass a test.

pub take_while-true : (test : ℕ → Bool) (c : ℕ) (cs : List ℕ) → test c ≡ true → take_while test (c ∷ cs) ≡ c ∷ take_while test cs
take_while-true test c cs h =
    ap (λ b. take (cond b (1 + prefix_len test cs) 0) (c ∷ cs)) h
    ∙ ap (λ n. take n (c ∷ cs)) (let e : 1 + prefix_len test cs ≡ suc (prefix_len test cs) = omega arith in e)

pub take_while-false : (test : ℕ → Bool) (c : ℕ) (cs : List ℕ) → test c ≡ false → take_while test (c ∷ cs) ≡ []
take_while-false test c cs h = ap (λ b. take (cond b (1 + prefix_len test cs) 0) (c ∷ cs)) h

pub record GoesOn (test : ℕ → Bool) (left : Left) (c : ℕ) : Type 0 where
  pub taken : take_while test left.text ≡ c ∷ take_while test (skip 1 left).text
  pub rest : behind test left ≡ behind test (skip 1 left)

pub goes_on : (test : ℕ → Bool) (left : Left) (c : ℕ) → Some c ≡ first_of left.text → test c ≡ true → GoesOn test left c
goes_on test left c h passes = by_text left.at left.text h
  where
    by_text : (at : ℕ) (text : List ℕ) → Some c ≡ first_of text → GoesOn test (record { at = at; text = text }) c
    by_text at [] h = absurd (cc h)
    by_text at (d ∷ cs) h =
        let same : d ≡ c = cc h in
        let more : take_while test (d ∷ cs) ≡ d ∷ take_while test cs = take_while-true test d cs (ap test same ∙ passes) in
        record {
          taken = more ∙ ap (λ x. x ∷ take_while test cs) same;
          rest = ap (λ l. skipped (length l) at (d ∷ cs)) more;
        }

pub record Stops (test : ℕ → Bool) (left : Left) : Type 0 where
  pub taken : take_while test left.text ≡ []
  pub rest : behind test left ≡ left

pub stops : (test : ℕ → Bool) (left : Left) (c : ℕ) → Some c ≡ first_of left.text → test c ≡ false → Stops test left
stops test left c h fails = by_text left.at left.text h
  where
    by_text : (at : ℕ) (text : List ℕ) → Some c ≡ first_of text → Stops test (record { at = at; text = text })
    by_text at [] h = absurd (cc h)
    by_text at (d ∷ cs) h =
        let same : d ≡ c = cc h in
        let none : take_while test (d ∷ cs) ≡ [] = take_while-false test d cs (ap test same ∙ fails) in
        record { taken = none; rest = ap (λ l. skipped (length l) at (d ∷ cs)) none }

pub ends : (test : ℕ → Bool) (left : Left) → None ≡ first_of left.text → Stops test left
ends test left h = by_text left.at left.text h
  where
    by_text : (at : ℕ) (text : List ℕ) → None ≡ first_of text → Stops test (record { at = at; text = text })
    by_text at [] h = record { taken = refl; rest = refl }
    by_text at (d ∷ cs) h = absurd (cc h)
