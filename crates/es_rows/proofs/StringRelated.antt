-- The functions of String are the same but for the numbers of things.
use Rattle.std.proofs.Common.{ℕ, ◌-◌, ◌*◌, ◌≤◌, ◌<◌, min, max, nat_le, nat_lt, List, [], ◌∷◌, ◌++◌, length, take, ℤ, pos, negsuc, Option, Some, None, is_some, IfSome, refl, arith, lit≤, codes}
use Rattle.js_value.specs.Number.{greatest}
use Rattle.js_value.specs.Value.{Value, Boolean, Object, Text}
use Rattle.js_value.specs.Order.{AreUnits, IsString}
use Rattle.js_value.specs.Word.{residue}
use Rattle.js_value.specs.NumberText.{text_of_number}
use Rattle.js_value.specs.Literal.{trim_start, trim_end}
use Rattle.js_value.proofs.Profile.{string_tested, text_of_number_is_string, unit_of_text}
use Rattle.es_ops.specs.Messages.{NumberOutOfRange, StringTooLong, InvalidArgument, NoProperties, PrimitiveExpected, WrongReceiver}
use Rattle.es_ops.specs.Act.{Act, Give}
use Rattle.es_ops.specs.Errors.{make_text, longest_text}
use Rattle.es_ops.specs.Making.{make_array}
use Rattle.es_ops.specs.Related.{Naming, BothList, BothEmpty, BothCons, BothValue, BothUndefined, BothNull, BothBoolean, BothNumber, BothString, BothObject, Related, BothGive, Then, ThenSame}
use Rattle.es_ops.proofs.Parts.{cond_related}
use Rattle.es_ops.proofs.ReadsRelated.{raise_related, made_text_related, units_joined, number_expected_related, text_expected_related}
use Rattle.es_ops.proofs.MakingRelated.{make_array_related, append_related}
use Rattle.es_rows.specs.Arguments.{first, position_or}
use Rattle.es_rows.specs.Texts.{substring, string_index_of, first_code_point, copies, filled, pieces_of}
use Rattle.es_rows.specs.String.{string_of, string, append_units, from_char_code, this_text, unit_at, text_of_unit, char_at, unit_or_raise, char_code_at, from_unit, number_or_undefined, code_point_at, ends_with, searched, includes, index_or_minus_one, index_of, starts_with, Placement, AtStart, AtEnd, joined_with, pad_with, fill_expected, pad, pad_end, pad_start, repeated, repeat, slice, substring_between, append_texts, limit_expected, split_by, split, trim, to_string, string_row}
use Rattle.es_rows.proofs.ArgumentsRelated.{argument_related, position_or_related, BuiltInRelated, BothRow, BothEnd, call_row_related}
use Rattle.es_rows.proofs.PositionsRelated.{natural, clamped_position_related, relative_position_related, count_expected_related}
use Rattle.es_rows.proofs.TextUnits.{units_dropped, units_of_part, units_copied, units_filled, units_from_start, units_to_end, AreTexts, texts_taken, texts_of_pieces, unit_of_number, string_index_bound, code_point_bound}

given : {R : Naming} → Then R (BothValue R) Give Give
given v w b = BothGive b

made : {R : Naming} (t : Text) → AreUnits t → Related R (make_text t Give) (make_text t Give)
made t h = made_text_related t Give Give h given

-- ---- the constructor

string_of_related : {R : Naming} {v w : Value} → BothValue R v w → Related R (string_of v) (string_of w)
string_of_related BothUndefined = text_expected_related _ _ _ _ BothUndefined (λ t i. BothGive (BothString i))
string_of_related BothNull = text_expected_related _ _ _ _ BothNull (λ t i. BothGive (BothString i))
string_of_related BothBoolean = text_expected_related _ _ _ _ BothBoolean (λ t i. BothGive (BothString i))
string_of_related (BothNumber {n = n} i) = let s = text_of_number_is_string n in made (text_of_number n) s.units
string_of_related (BothString i) = text_expected_related _ _ _ _ (BothString i) (λ t i. BothGive (BothString i))
string_of_related (BothObject r) = text_expected_related _ _ _ _ (BothObject r) (λ t i. BothGive (BothString i))

pub string_related : {R : Naming} → BuiltInRelated R string string
unfolding string
string_related this that vs ws b BothEmpty = BothGive (BothString (string_tested [] refl))
string_related this that (v ∷ vs) (w ∷ ws) b (BothCons c cs) = string_of_related c

append_units_related : {R : Naming} (vs ws : List Value) (before : Text) → BothList (BothValue R) vs ws → AreUnits before → Related R (append_units vs before) (append_units ws before)
append_units_related vs ws before BothEmpty h = made before h
append_units_related (v ∷ vs) (w ∷ ws) before (BothCons c cs) h =
    number_expected_related v w _ _ c (λ n i. append_units_related vs ws (before ++ residue n 65536 ∷ []) cs (units_joined before (residue n 65536 ∷ []) h (unit_of_number n, tt)))

pub from_char_code_related : {R : Naming} → BuiltInRelated R from_char_code from_char_code
unfolding from_char_code
from_char_code_related this that vs ws b c = append_units_related vs ws [] c tt

-- ---- receivers

this_text_related : {R : Naming} (v w : Value) (k l : Text → Act) → BothValue R v w → ThenSame R IsString k l → Related R (this_text v k) (this_text w l)
unfolding this_text
this_text_related v w k l BothUndefined h = raise_related NoProperties
this_text_related v w k l BothNull h = raise_related NoProperties
this_text_related v w k l BothBoolean h = text_expected_related _ _ k l BothBoolean h
this_text_related v w k l (BothNumber i) h = text_expected_related _ _ k l (BothNumber i) h
this_text_related v w k l (BothString i) h = text_expected_related _ _ k l (BothString i) h
this_text_related v w k l (BothObject r) h = text_expected_related _ _ k l (BothObject r) h

-- a position that is 0 where it is undefined
place_related : {R : Naming} (vs ws : List Value) (k : ℤ → Act) → BothList (BothValue R) vs ws → ((z : ℤ) → Related R (k z) (k z)) → Related R (position_or (pos 0) (first vs) k) (position_or (pos 0) (first ws) k)
place_related vs ws k c h = position_or_related (pos 0) _ _ k k (natural 0 (lit≤ tt)) (argument_related vs ws 0 c) (λ z i. h z)

-- ---- units

unit_at_bound : (t : Text) (z : ℤ) → AreUnits t → IfSome (unit_at t z) (λ u. u < 65536)
unit_at_bound t (pos n) h = unit_of_text t n h
unit_at_bound t (negsuc n) h = tt

unit_text : (o : Option ℕ) → IfSome o (λ u. u < 65536) → AreUnits (text_of_unit o)
unit_text None h = tt
unit_text (Some u) h = (h, tt)

pub char_at_related : {R : Naming} → BuiltInRelated R char_at char_at
unfolding char_at
char_at_related this that vs ws b c = this_text_related this that _ _ b (λ t i. place_related vs ws _ c (λ z. made (text_of_unit (unit_at t z)) (unit_text (unit_at t z) (unit_at_bound t z i.units))))

unit_given : {R : Naming} (o : Option ℕ) → IfSome o (λ u. u < 65536) → Related R (unit_or_raise o) (unit_or_raise o)
unit_given None h = raise_related NumberOutOfRange
unit_given (Some u) h = BothGive (BothNumber (natural u (omega (arith, h))))

pub char_code_at_related : {R : Naming} → BuiltInRelated R char_code_at char_code_at
unfolding char_code_at
char_code_at_related this that vs ws b c = this_text_related this that _ _ b (λ t i. place_related vs ws _ c (λ z. unit_given (unit_at t z) (unit_at_bound t z i.units)))

units_from : (t : Text) (z : ℤ) → AreUnits t → AreUnits (from_unit t z)
units_from t (pos n) h = units_dropped n t h
units_from t (negsuc n) h = tt

number_given : {R : Naming} (o : Option ℕ) → IfSome o (λ n. n ≤ greatest) → BothValue R (number_or_undefined o) (number_or_undefined o)
number_given None h = BothUndefined
number_given (Some n) h = BothNumber (natural n h)

pub code_point_at_related : {R : Naming} → BuiltInRelated R code_point_at code_point_at
unfolding code_point_at
code_point_at_related this that vs ws b c =
    this_text_related this that _ _ b (λ t i. place_related vs ws _ c (λ z. BothGive (number_given (first_code_point (from_unit t z)) (code_point_bound (from_unit t z) (units_from t z i.units)))))

-- ---- searches

pub ends_with_related : {R : Naming} → BuiltInRelated R ends_with ends_with
unfolding ends_with
ends_with_related this that vs ws b c =
    this_text_related this that _ _ b (λ t i.
    text_expected_related _ _ _ _ (argument_related vs ws 0 c) (λ sought j.
    clamped_position_related (length t) _ _ (length t) _ _ i.bound (argument_related vs ws 1 c) (λ n l. BothGive BothBoolean)))

searched_related : {R : Naming} (this that : Value) (vs ws : List Value) (k l : Option ℕ → Act) → BothValue R this that → BothList (BothValue R) vs ws → ((o : Option ℕ) → IfSome o (λ n. n ≤ greatest) → Related R (k o) (l o)) → Related R (searched this vs k) (searched that ws l)
searched_related this that vs ws k l b c h =
    this_text_related this that _ _ b (λ t i.
    text_expected_related _ _ _ _ (argument_related vs ws 0 c) (λ sought j.
    clamped_position_related 0 _ _ (length t) _ _ (lit≤ tt) (argument_related vs ws 1 c) (λ n l. h (string_index_of t sought n) (within t (string_index_of t sought n) i (string_index_bound t sought n l)))))
  where
    within : (t : Text) (o : Option ℕ) → IsString t → IfSome o (λ n. n ≤ length t) → IfSome o (λ n. n ≤ greatest)
    within t None i g = tt
    within t (Some n) i g = let f = i.bound in omega (arith, f, g)

pub includes_related : {R : Naming} → BuiltInRelated R includes includes
unfolding includes
includes_related this that vs ws b c = searched_related this that vs ws (λ o. Give (Boolean (is_some o))) (λ o. Give (Boolean (is_some o))) b c (λ o h. BothGive BothBoolean)

index_given : {R : Naming} (o : Option ℕ) → IfSome o (λ n. n ≤ greatest) → BothValue R (index_or_minus_one o) (index_or_minus_one o)
index_given None h = BothNumber (record { bound = lit≤ tt })
index_given (Some n) h = BothNumber (natural n h)

pub index_of_related : {R : Naming} → BuiltInRelated R index_of index_of
unfolding index_of
index_of_related this that vs ws b c = searched_related this that vs ws _ _ b c (λ o h. BothGive (index_given o h))

pub starts_with_related : {R : Naming} → BuiltInRelated R starts_with starts_with
unfolding starts_with
starts_with_related this that vs ws b c =
    this_text_related this that _ _ b (λ t i.
    text_expected_related _ _ _ _ (argument_related vs ws 0 c) (λ sought j.
    clamped_position_related 0 _ _ (length t) _ _ (lit≤ tt) (argument_related vs ws 1 c) (λ n l. BothGive BothBoolean)))

-- ---- longer texts

units_placed : (placement : Placement) (t filler : Text) → AreUnits t → AreUnits filler → AreUnits (joined_with placement t filler)
units_placed AtStart t filler h g = units_joined filler t g h
units_placed AtEnd t filler h g = units_joined t filler h g

pad_with_related : {R : Naming} (placement : Placement) (t : Text) (size : ℕ) (fill : Text) → AreUnits t → AreUnits fill → Related R (pad_with placement t size fill) (pad_with placement t size fill)
pad_with_related placement t size [] h g = made t h
pad_with_related placement t size (u ∷ us) h g = cond_related (nat_lt longest_text size) _ _ _ _ (raise_related StringTooLong) (made _ (units_placed placement t (filled (size - length t) (u ∷ us)) h (units_filled (size - length t) (u ∷ us) g)))

fill_expected_related : {R : Naming} (v w : Value) (k l : Text → Act) → BothValue R v w → ThenSame R IsString k l → Related R (fill_expected v k) (fill_expected w l)
fill_expected_related v w k l BothUndefined h = h (codes " ") (string_tested (codes " ") refl)
fill_expected_related v w k l BothNull h = text_expected_related _ _ k l BothNull h
fill_expected_related v w k l BothBoolean h = text_expected_related _ _ k l BothBoolean h
fill_expected_related v w k l (BothNumber i) h = text_expected_related _ _ k l (BothNumber i) h
fill_expected_related v w k l (BothString i) h = text_expected_related _ _ k l (BothString i) h
fill_expected_related v w k l (BothObject r) h = text_expected_related _ _ k l (BothObject r) h

pad_related : {R : Naming} (placement : Placement) → BuiltInRelated R (pad placement) (pad placement)
pad_related placement this that vs ws b c =
    this_text_related this that _ _ b (λ t i.
    count_expected_related _ _ _ _ (argument_related vs ws 0 c) (λ size j.
    cond_related (nat_le size (length t)) _ _ _ _ (made t i.units)
    (fill_expected_related _ _ _ _ (argument_related vs ws 1 c) (λ fill g. pad_with_related placement t size fill i.units g.units))))

pub pad_end_related : {R : Naming} → BuiltInRelated R pad_end pad_end
unfolding pad_end
pad_end_related this that vs ws b c = pad_related AtEnd this that vs ws b c

pub pad_start_related : {R : Naming} → BuiltInRelated R pad_start pad_start
unfolding pad_start
pad_start_related this that vs ws b c = pad_related AtStart this that vs ws b c

repeated_related : {R : Naming} (t : Text) (z : ℤ) → AreUnits t → Related R (repeated t z) (repeated t z)
repeated_related [] (pos n) h = made [] tt
repeated_related (u ∷ us) (pos n) h = cond_related (nat_lt longest_text (n * length (u ∷ us))) _ _ _ _ (raise_related StringTooLong) (made (copies n (u ∷ us)) (units_copied n (u ∷ us) h))
repeated_related [] (negsuc n) h = raise_related InvalidArgument
repeated_related (u ∷ us) (negsuc n) h = raise_related InvalidArgument

pub repeat_related : {R : Naming} → BuiltInRelated R repeat repeat
unfolding repeat
repeat_related this that vs ws b c = this_text_related this that _ _ b (λ t i. place_related vs ws _ c (λ z. repeated_related t z i.units))

-- ---- parts

pub slice_related : {R : Naming} → BuiltInRelated R slice slice
unfolding slice
slice_related this that vs ws b c =
    this_text_related this that _ _ b (λ t i.
    relative_position_related 0 _ _ (length t) _ _ (lit≤ tt) (argument_related vs ws 0 c) (λ from f.
    relative_position_related (length t) _ _ (length t) _ _ i.bound (argument_related vs ws 1 c) (λ to g. made (substring t from to) (units_of_part t from to i.units))))

pub substring_related : {R : Naming} → BuiltInRelated R substring_between substring_between
unfolding substring_between
substring_related this that vs ws b c =
    this_text_related this that _ _ b (λ t i.
    clamped_position_related 0 _ _ (length t) _ _ (lit≤ tt) (argument_related vs ws 0 c) (λ start f.
    clamped_position_related (length t) _ _ (length t) _ _ i.bound (argument_related vs ws 1 c) (λ end g. made (substring t (min start end) (max start end)) (units_of_part t (min start end) (max start end) i.units))))

append_texts_related : {R : Naming} (m n : ℕ) (ts : List Text) → R m n → AreTexts ts → Related R (append_texts m ts) (append_texts n ts)
append_texts_related m n [] r h = BothGive (BothObject r)
append_texts_related m n (t ∷ ts) r h = made_text_related t _ _ h.0 (λ v w e. append_related (Object m) v (Object n) w _ _ (BothObject r) e (append_texts_related m n ts r h.1))

limit_expected_related : {R : Naming} (v w : Value) (k l : ℕ → Act) → BothValue R v w → ((n : ℕ) → Related R (k n) (l n)) → Related R (limit_expected v k) (limit_expected w l)
limit_expected_related v w k l BothUndefined h = h 4294967295
limit_expected_related v w k l BothNull h = number_expected_related _ _ _ _ BothNull (λ n i. h (residue n 4294967296))
limit_expected_related v w k l BothBoolean h = number_expected_related _ _ _ _ BothBoolean (λ n i. h (residue n 4294967296))
limit_expected_related v w k l (BothNumber x) h = number_expected_related _ _ _ _ (BothNumber x) (λ n i. h (residue n 4294967296))
limit_expected_related v w k l (BothString x) h = number_expected_related _ _ _ _ (BothString x) (λ n i. h (residue n 4294967296))
limit_expected_related v w k l (BothObject r) h = number_expected_related _ _ _ _ (BothObject r) (λ n i. h (residue n 4294967296))

split_with : {R : Naming} (ts : List Text) (limit : ℕ) → AreTexts ts → Related R (make_array (λ a. append_texts a (take limit ts))) (make_array (λ a. append_texts a (take limit ts)))
split_with ts limit h = make_array_related _ _ (λ m n r. append_texts_related m n (take limit ts) r (texts_taken limit ts h))

split_by_related : {R : Naming} {v w : Value} (text t : Text) (limit : ℕ) → BothValue R v w → AreUnits t → Related R (split_by v text t limit) (split_by w text t limit)
split_by_related text t limit BothUndefined h = split_with (t ∷ []) limit (h, tt)
split_by_related text t limit BothNull h = split_with (pieces_of text t) limit (texts_of_pieces text t h)
split_by_related text t limit BothBoolean h = split_with (pieces_of text t) limit (texts_of_pieces text t h)
split_by_related text t limit (BothNumber x) h = split_with (pieces_of text t) limit (texts_of_pieces text t h)
split_by_related text t limit (BothString x) h = split_with (pieces_of text t) limit (texts_of_pieces text t h)
split_by_related text t limit (BothObject r) h = split_with (pieces_of text t) limit (texts_of_pieces text t h)

pub split_related : {R : Naming} → BuiltInRelated R split split
unfolding split
split_related this that vs ws b c =
    this_text_related this that _ _ b (λ t i.
    limit_expected_related _ _ _ _ (argument_related vs ws 1 c) (λ limit.
    text_expected_related _ _ _ _ (argument_related vs ws 0 c) (λ text j. split_by_related text t limit (argument_related vs ws 0 c) i.units)))

pub trim_related : {R : Naming} → BuiltInRelated R trim trim
unfolding trim
trim_related this that vs ws b c = this_text_related this that _ _ b (λ t i. made (trim_end (trim_start t)) (units_to_end (trim_start t) (units_from_start t i.units)))

pub to_string_related : {R : Naming} → BuiltInRelated R to_string to_string
unfolding to_string
to_string_related this that vs ws BothUndefined c = raise_related NoProperties
to_string_related this that vs ws BothNull c = raise_related NoProperties
to_string_related this that vs ws BothBoolean c = raise_related WrongReceiver
to_string_related this that vs ws (BothNumber i) c = raise_related WrongReceiver
to_string_related this that vs ws (BothString i) c = BothGive (BothString i)
to_string_related this that vs ws (BothObject r) c = raise_related PrimitiveExpected

-- ---- the rows

pub string_row_related : {R : Naming} (n f g : ℕ) (s t : Option Value) → BuiltInRelated R (string_row n f s) (string_row n g t)
unfolding string_row
string_row_related n f g s t = call_row_related
    (BothRow string_related (BothRow from_char_code_related (BothRow char_at_related (BothRow char_code_at_related
    (BothRow code_point_at_related (BothRow ends_with_related (BothRow includes_related (BothRow index_of_related
    (BothRow pad_end_related (BothRow pad_start_related (BothRow repeat_related (BothRow slice_related (BothRow split_related
    (BothRow starts_with_related (BothRow substring_related (BothRow to_string_related (BothRow trim_related BothEnd))))))))))))))))) n
