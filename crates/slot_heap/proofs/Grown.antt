-- Texts and names stay when more are added behind.
use Rattle.std.proofs.Common.{◌≡◌, ℕ, zero, suc, ◌-◌, ◌+◌, ◌<◌, ◌≤◌, ◌⊎◌, inl, inr, Bool, true, false, List, [], ◌∷◌, ◌++◌, length, take, drop, get_or, refl, ap, sym, ◌∙◌, arith, length-drop, length-append, Some}
use Rattle.std.specs.List.{All, slice_get}
use Rattle.std.proofs.lemmas.Bool.{cases_lt}
use Rattle.std.proofs.lemmas.Option.{slice_get-get_or}
use Rattle.std.proofs.lemmas.List.{append_assoc, get_or-drop, length-take, take-append-le, drop-append-le, take_all, get_or_append_left, get_or_push}
use Rattle.std.proofs.lemmas.List.Elements.{All-get_or, All-weaker, All-push, All-nil}
use Rattle.slot_heap.specs.Texts.{Words, words, word_of, text_of, NoName, TextsKept, Within, span_of, text_in}
use Rattle.slot_heap.specs.declared.slot.Value.{Value}

pub text_grown : (units more : List ℕ) (p : ℕ × ℕ) → Within units p → text_of (units ++ more) p ≡ text_of units p
unfolding text_of
text_grown units more p w =
    let n = length-drop p.0 units in
    ap (take p.1) (drop-append-le p.0 units more (omega arith)) ∙ take-append-le p.1 (drop p.0 units) more (omega arith)

pub within_grown : (units more : List ℕ) (p : ℕ × ℕ) → Within units p → Within (units ++ more) p
within_grown units more p l = let n = length-append units more in omega arith

-- the open text, once it has all its units
pub whole : (units : List ℕ) (start end : ℕ) → length units ≡ end → start ≤ end → text_of units (start, end - start) ≡ drop start units
unfolding text_of
whole units start end e l = take_all (end - start) (drop start units) (let n = length-drop start units in omega arith)

pub word_grown : (w w' : Words) (more : List ℕ) (n : ℕ) → w'.units ≡ w.units ++ more → w'.names ≡ w.names → All (Within w.units) w.names → n < length w.names → word_of w' n ≡ word_of w n
word_grown w w' more n e f a l =
    rw (e, f) (text_grown w.units more (get_or w.names n (0, 0)) (All-get_or (Within w.units) w.names n (0, 0) l a))

pub kept_none : (reserved_units reserved_names unit_capacity name_capacity : ℕ) → reserved_units ≡ unit_capacity → reserved_names ≡ name_capacity → reserved_units < 4294967296 → reserved_names < 4294967296 → TextsKept (words [] [] false 0 0 reserved_units reserved_names) unit_capacity name_capacity
kept_none reserved_units reserved_names unit_capacity name_capacity e f l m = record {
  named = All-nil _;
  apart = λ n m l. absurd (omega arith);
  begun = omega arith;
  promised = omega arith;
  closed = λ e. refl;
  unit_room = (omega arith, omega arith, omega arith);
  name_room = (omega arith, omega arith, omega arith);
  few_names = omega arith;
}

-- a text is begun, and ended
pub kept_opened : (units : List ℕ) (names : List (ℕ × ℕ)) (start end end' ru rn uc nc : ℕ) → TextsKept (words units names false start end ru rn) uc nc → end ≤ end' → end' ≤ ru → TextsKept (words units names true end end' ru rn) uc nc
kept_opened units names start end end' ru rn uc nc k l m =
    let c = k.closed refl in
    let r = k.unit_room in
    record {
      named = k.named;
      apart = k.apart;
      begun = omega arith;
      promised = omega arith;
      closed = λ e. absurd (cc);
      unit_room = (omega arith, r.1, r.2);
      name_room = k.name_room;
      few_names = k.few_names;
    }

pub kept_closed : (units : List ℕ) (names : List (ℕ × ℕ)) (open' : Bool) (start end ru rn uc nc : ℕ) → TextsKept (words units names open' start end ru rn) uc nc → length units ≡ end → TextsKept (words units names false start end ru rn) uc nc
kept_closed units names open' start end ru rn uc nc k e = record {
  named = k.named;
  apart = k.apart;
  begun = k.begun;
  promised = k.promised;
  closed = λ f. e;
  unit_room = k.unit_room;
  name_room = k.name_room;
  few_names = k.few_names;
}

-- a unit more
pub kept_pushed : (units units' : List ℕ) (u : ℕ) (names : List (ℕ × ℕ)) (open' : Bool) (start end ru rn uc uc' nc : ℕ) → TextsKept (words units names open' start end ru rn) uc nc → units' ≡ units ++ u ∷ [] → uc' ≡ uc → open' ≡ true → length units < end → TextsKept (words units' names open' start end ru rn) uc' nc
kept_pushed units units' u names open' start end ru rn uc uc' nc k e f o l =
    let old = words units names open' start end ru rn in
    let new = words (units ++ u ∷ []) names open' start end ru rn in
    let n = length-append units (u ∷ []) in
    let b = k.begun in
    rw (e, f) (let kept : TextsKept new uc nc = record {
      named = All-weaker (Within units) (Within (units ++ u ∷ [])) (λ p h. within_grown units (u ∷ []) p h) names k.named;
      apart = λ i j a b q. k.apart i j a b (sym (word_grown old new (u ∷ []) i refl refl k.named a) ∙ q ∙ word_grown old new (u ∷ []) j refl refl k.named b);
      begun = omega arith;
      promised = omega arith;
      closed = λ q. absurd (let z : true ≡ false = sym o ∙ q in cc);
      unit_room = k.unit_room;
      name_room = k.name_room;
      few_names = k.few_names;
    } in kept)

-- a name more
names_left : (names : List (ℕ × ℕ)) (p : ℕ × ℕ) (n : ℕ) → n < length names → get_or (names ++ p ∷ []) n (0, 0) ≡ get_or names n (0, 0)
names_left names p n l = get_or_append_left names (p ∷ []) (0, 0) n l

names_last : (names : List (ℕ × ℕ)) (p : ℕ × ℕ) → get_or (names ++ p ∷ []) (length names) (0, 0) ≡ p
names_last names p = get_or_push names p (0, 0) (length names) refl

pub kept_named : (units : List ℕ) (names names' : List (ℕ × ℕ)) (p : ℕ × ℕ) (open' : Bool) (start end ru rn uc nc nc' : ℕ) → TextsKept (words units names open' start end ru rn) uc nc → names' ≡ names ++ p ∷ [] → nc' ≡ nc → Within units p → NoName (words units names open' start end ru rn) (text_of units p) → length names < rn → length names < 65535 → TextsKept (words units names' open' start end ru rn) uc nc'
kept_named units names names' p open' start end ru rn uc nc nc' k e f w d l m =
    let n = length-append names (p ∷ []) in
    let r = k.name_room in
    rw (e, f) (let kept : TextsKept (words units (names ++ p ∷ []) open' start end ru rn) uc nc = record {
      named = All-push (Within units) names p k.named w;
      apart = apart;
      begun = k.begun;
      promised = k.promised;
      closed = k.closed;
      unit_room = k.unit_room;
      name_room = (omega arith, r.1, r.2);
      few_names = omega arith;
    } in kept)
  where
    both : (i : ℕ) → i < length (names ++ p ∷ []) → (i < length names) ⊎ (i ≡ length names)
    both i a = let n = length-append names (p ∷ []) in elim (cases_lt i (length names)) [ inl s ↦ inl s | inr s ↦ inr (omega arith) ]

    left : (i : ℕ) → i < length names → text_of units (get_or (names ++ p ∷ []) i (0, 0)) ≡ text_of units (get_or names i (0, 0))
    left i s = ap (text_of units) (names_left names p i s)

    last : (i : ℕ) → i ≡ length names → text_of units (get_or (names ++ p ∷ []) i (0, 0)) ≡ text_of units p
    last i s = ap (text_of units) (ap (λ j. get_or (names ++ p ∷ []) j (0, 0)) s ∙ names_last names p)

    apart : (i j : ℕ) → i < length (names ++ p ∷ []) → j < length (names ++ p ∷ []) → text_of units (get_or (names ++ p ∷ []) i (0, 0)) ≡ text_of units (get_or (names ++ p ∷ []) j (0, 0)) → i ≡ j
    apart i j a b q = elim (both i a) [
      | inl s ↦ elim (both j b) [
        | inl t ↦ k.apart i j s t (sym (left i s) ∙ q ∙ left j t)
        | inr t ↦ absurd (d i s (sym (left i s) ∙ q ∙ last j t))
      ]
      | inr s ↦ elim (both j b) [
        | inl t ↦ absurd (d j t (sym (left j t) ∙ sym q ∙ last i s))
        | inr t ↦ s ∙ sym t
      ]
    ]

-- a unit of a text
slice_get_take : {X : Type 0} (n i : ℕ) (xs : List X) → i < n → slice_get (take n xs) i ≡ slice_get xs i
slice_get_take zero i xs l = absurd (omega arith)
slice_get_take (suc n) i [] l = refl
slice_get_take (suc n) zero (x ∷ xs) l = refl
slice_get_take (suc n) (suc i) (x ∷ xs) l = slice_get_take n i xs (omega arith)

pub unit_at : (units : List ℕ) (p : ℕ × ℕ) (at x : ℕ) → Within units p → at < p.1 → x ≡ get_or units (p.0 + at) x → slice_get (text_of units p) at ≡ Some x
unfolding text_of
unit_at units p at x w l e =
    let n = length-drop p.0 units in
    slice_get_take p.1 at (drop p.0 units) l ∙ slice_get-get_or (drop p.0 units) at x (omega arith) ∙ ap Some (get_or-drop p.0 units at x ∙ sym e)

pub length_text : (units : List ℕ) (p : ℕ × ℕ) → Within units p → length (text_of units p) ≡ p.1
unfolding text_of
length_text units p w = let n = length-drop p.0 units in length-take p.1 (drop p.0 units) ∙ omega arith

-- a part of a text with a unit more
pub part_more : (t : List ℕ) (from at u : ℕ) → from ≤ at → slice_get t at ≡ Some u → take (at + 1 - from) (drop from t) ≡ take (at - from) (drop from t) ++ u ∷ []
part_more [] from at u l e = absurd (cc)
part_more (x ∷ t) zero zero u l e = let q : x ≡ u = cc in rw q refl
part_more (x ∷ t) zero (suc at) u l e =
    let a : suc at + 1 - 0 ≡ suc (at + 1 - 0) = omega arith in
    let b : suc at - 0 ≡ suc (at - 0) = omega arith in
    rw (a, b) (ap (λ y. x ∷ y) (part_more t zero at u (omega arith) e))
part_more (x ∷ t) (suc from) zero u l e = absurd (omega arith)
part_more (x ∷ t) (suc from) (suc at) u l e =
    let a : suc at + 1 - suc from ≡ at + 1 - from = omega arith in
    let b : suc at - suc from ≡ at - from = omega arith in
    rw (a, b) (part_more t from at u (omega arith) e)

-- units that are added one by one
pub pushed_more : (old cur new : List ℕ) (p : ℕ × ℕ) (from at u : ℕ) → Within old p → from ≤ at → cur ≡ old ++ take (at - from) (drop from (text_of old p)) → slice_get (text_of cur p) at ≡ Some u → new ≡ cur ++ u ∷ [] → new ≡ old ++ take (at + 1 - from) (drop from (text_of old p))
pushed_more old cur new p from at u w l e g f =
    let same : text_of cur p ≡ text_of old p = rw e (text_grown old _ p w) in
    let g' : slice_get (text_of old p) at ≡ Some u = rw same at g in
    f ∙ ap (λ t. t ++ u ∷ []) e ∙ append_assoc old _ (u ∷ []) ∙ ap (λ t. old ++ t) (sym (part_more (text_of old p) from at u l g'))

pub still_within : (old cur more : List ℕ) (p : ℕ × ℕ) → Within old p → cur ≡ old ++ more → Within cur p
still_within old cur more p w e = rw e (within_grown old more p w)

-- the length of a string, by where it stands
pub span_length : (w w' : Words) (text : Value) (p : ℕ × ℕ) → w ≡ w' → p ≡ span_of w text → Within w.units p → p.1 ≡ length (text_in w' text)
span_length w w' text p e f l = sym (length_text w.units p l) ∙ ap (λ q. length (text_of w.units q)) f ∙ ap (λ u. length (text_in u text)) e
