-- White space round a text.
use Rattle.std.proofs.Common.{◌≡◌, ℕ, Bool, true, false, ◌&&◌, cond, List, [], ◌∷◌, ◌++◌, refl, sym, ◌∙◌, ap, append_assoc}
use Rattle.std.specs.List.{All}
use Rattle.std.proofs.lemmas.List.{append-nil}
use Rattle.std.proofs.lemmas.List.Elements.{All-head, All-tail, All-cons, All-nil}
use Rattle.js_value.specs.Numeral.{is_white_space, IsBlank}
use Rattle.js_value.specs.Literal.{trim_start, trim_end, is_empty}
use Rattle.js_value.proofs.Sequences.{and_false}

-- no white space
abbrev pub IsSolid : List ℕ → Type 0
IsSolid text = All (λ unit. is_white_space unit ≡ false) text

-- A text is what trimming leaves, with white space round it.

pub record IsAround (text middle : List ℕ) : Type 0 where
  pub before : List ℕ
  pub after : List ℕ
  pub parts : text ≡ before ++ middle ++ after
  pub blank_before : IsBlank before
  pub blank_after : IsBlank after

abbrev pub IsSpace : ℕ → Type 0
IsSpace unit = is_white_space unit ≡ true

around_start_step : (b : Bool) (unit : ℕ) (text : List ℕ) → is_white_space unit ≡ b → (before : List ℕ) × ((text ≡ before ++ trim_start text) × IsBlank before) → (before : List ℕ) × ((unit ∷ text ≡ before ++ cond b (trim_start text) (unit ∷ text)) × IsBlank before)
around_start_step true unit text e shorter = (unit ∷ shorter.0, (ap (λ s. unit ∷ s) shorter.1.0, All-cons IsSpace unit shorter.0 e shorter.1.1))
around_start_step false unit text e shorter = ([], (refl, All-nil IsSpace))

around_start : (text : List ℕ) → (before : List ℕ) × ((text ≡ before ++ trim_start text) × IsBlank before)
around_start [] = ([], (refl, All-nil IsSpace))
around_start (unit ∷ text) = around_start_step (is_white_space unit) unit text refl (around_start text)

empty_is : (text : List ℕ) → is_empty text ≡ true → text ≡ []
empty_is [] h = refl
empty_is (unit ∷ text) h = cc

around_end_step : (b e : Bool) (unit : ℕ) (text : List ℕ) → is_white_space unit ≡ b → is_empty (trim_end text) ≡ e → (after : List ℕ) × ((text ≡ trim_end text ++ after) × IsBlank after) → (after : List ℕ) × ((unit ∷ text ≡ cond (b && e) [] (unit ∷ trim_end text) ++ after) × IsBlank after)
around_end_step true true unit text p q shorter =
    let nothing : trim_end text ≡ [] = empty_is (trim_end text) q in
    (unit ∷ shorter.0, (ap (λ s. unit ∷ s) (shorter.1.0 ∙ ap (λ s. s ++ shorter.0) nothing), All-cons IsSpace unit shorter.0 p shorter.1.1))
around_end_step true false unit text p q shorter = (shorter.0, (ap (λ s. unit ∷ s) shorter.1.0, shorter.1.1))
around_end_step false e unit text p q shorter = (shorter.0, (ap (λ s. unit ∷ s) shorter.1.0, shorter.1.1))

around_end : (text : List ℕ) → (after : List ℕ) × ((text ≡ trim_end text ++ after) × IsBlank after)
around_end [] = ([], (refl, All-nil IsSpace))
around_end (unit ∷ text) =
    around_end_step (is_white_space unit) (is_empty (trim_end text)) unit text refl refl (around_end text)

pub around : (text : List ℕ) → IsAround text (trim_end (trim_start text))
around text =
    let start = around_start text in
    let end = around_end (trim_start text) in
    record {
      before = start.0;
      after = end.0;
      parts = start.1.0 ∙ ap (λ s. start.0 ++ s) end.1.0 ∙ sym (append_assoc start.0 (trim_end (trim_start text)) end.0);
      blank_before = start.1.1;
      blank_after = end.1.1;
    }

-- A text without white space, with some round it, is what trimming leaves.

trim_start_blank : (before text : List ℕ) → IsBlank before → trim_start (before ++ text) ≡ trim_start text
trim_start_blank [] text h = refl
trim_start_blank (unit ∷ before) text h =
    let space : is_white_space unit ≡ true = All-head IsSpace unit before h in
    ap (λ b. cond b (trim_start (before ++ text)) (unit ∷ before ++ text)) space ∙ trim_start_blank before text (All-tail IsSpace unit before h)

trim_end_blank : (after : List ℕ) → IsBlank after → trim_end after ≡ []
trim_end_blank [] h = refl
trim_end_blank (unit ∷ after) h =
    let space : is_white_space unit ≡ true = All-head IsSpace unit after h in
    let nothing : trim_end after ≡ [] = trim_end_blank after (All-tail IsSpace unit after h) in
    ap (λ s. cond (is_white_space unit && is_empty s) [] (unit ∷ s)) nothing ∙ ap (λ b. cond (b && true) [] (unit ∷ [])) space

abbrev pub IsNoSpace : ℕ → Type 0
IsNoSpace unit = is_white_space unit ≡ false

trim_end_solid : (text after : List ℕ) → IsSolid text → IsBlank after → trim_end (text ++ after) ≡ text
trim_end_solid [] after solid blank = trim_end_blank after blank
trim_end_solid (unit ∷ text) after solid blank =
    let this : is_white_space unit ≡ false = All-head IsNoSpace unit text solid in
    ap (λ b. cond (b && is_empty (trim_end (text ++ after))) [] (unit ∷ trim_end (text ++ after))) this ∙ ap (λ s. unit ∷ s) (trim_end_solid text after (All-tail IsNoSpace unit text solid) blank)

trim_start_solid : (text after : List ℕ) → IsSolid text → IsBlank after → trim_end (trim_start (text ++ after)) ≡ text
trim_start_solid [] after solid blank =
    ap trim_end (ap trim_start (sym (append-nil after)) ∙ trim_start_blank after [] blank)
trim_start_solid (unit ∷ text) after solid blank =
    let this : is_white_space unit ≡ false = All-head IsNoSpace unit text solid in
    ap (λ b. trim_end (cond b (trim_start (text ++ after)) (unit ∷ text ++ after))) this ∙ trim_end_solid (unit ∷ text) after solid blank

pub trimmed : (before text after : List ℕ) → IsBlank before → IsSolid text → IsBlank after → trim_end (trim_start (before ++ text ++ after)) ≡ text
trimmed before text after blank_before solid blank_after =
    ap (λ s. trim_end (trim_start s)) (append_assoc before text after)
    ∙ ap trim_end (trim_start_blank before (text ++ after) blank_before)
    ∙ trim_start_solid text after solid blank_after

-- The loop from the end.

trim_end_push_step : (b : Bool) (first : ℕ) (text : List ℕ) (unit : ℕ) → trim_end (text ++ unit ∷ []) ≡ trim_end text → cond (b && is_empty (trim_end (text ++ unit ∷ []))) [] (first ∷ trim_end (text ++ unit ∷ [])) ≡ cond (b && is_empty (trim_end text)) [] (first ∷ trim_end text)
trim_end_push_step b first text unit e = ap (λ s. cond (b && is_empty s) [] (first ∷ s)) e

-- white space at the end goes
pub trim_end_space : (text : List ℕ) (unit : ℕ) → is_white_space unit ≡ true → trim_end (text ++ unit ∷ []) ≡ trim_end text
trim_end_space [] unit space = ap (λ b. cond (b && true) [] (unit ∷ [])) space
trim_end_space (first ∷ text) unit space =
    trim_end_push_step (is_white_space first) first text unit (trim_end_space text unit space)

not_empty : (b : Bool) (first : ℕ) (text : List ℕ) (unit : ℕ) → trim_end (text ++ unit ∷ []) ≡ text ++ unit ∷ [] → cond (b && is_empty (trim_end (text ++ unit ∷ []))) [] (first ∷ trim_end (text ++ unit ∷ [])) ≡ first ∷ text ++ unit ∷ []
not_empty b first text unit e =
    ap (λ s. cond (b && is_empty s) [] (first ∷ s)) e ∙ ap (λ v. cond v [] (first ∷ text ++ unit ∷ [])) (ap (λ v. b && v) (pushed_some text unit) ∙ and_false b)
  where
    pushed_some : (text : List ℕ) (unit : ℕ) → is_empty (text ++ unit ∷ []) ≡ false
    pushed_some [] unit = refl
    pushed_some (first ∷ text) unit = refl

-- anything else stays
pub trim_end_other : (text : List ℕ) (unit : ℕ) → is_white_space unit ≡ false → trim_end (text ++ unit ∷ []) ≡ text ++ unit ∷ []
trim_end_other [] unit other = ap (λ b. cond (b && true) [] (unit ∷ [])) other
trim_end_other (first ∷ text) unit other = not_empty (is_white_space first) first text unit (trim_end_other text unit other)
