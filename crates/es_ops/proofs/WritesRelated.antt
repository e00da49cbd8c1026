-- Cells, defines, sets, deletes and equality are the same but for the numbers of things.
use Rattle.std.proofs.Common.{◌≡◌, ℕ, zero, suc, ◌<◌, Bool, true, false, cond, not, ◌&&◌, ◌||◌, ℤ, pos, negsuc, nat_lt, arith, refl, ap, ap₂, Option, is_some}
use Rattle.std.proofs.lemmas.Bool.Decides.{nat_tests}
use Rattle.js_value.specs.Value.{Value, Number, Text, Key, is_index, text_of_key}
use Rattle.js_value.specs.Store.{Property, Class, is_length_of}
use Rattle.js_value.specs.Order.{IsString, IsKey}
use Rattle.es_ops.specs.Equality.{same_value}
use Rattle.es_ops.specs.Messages.{AssignmentToConstant, InvalidArrayLength, NotDefinable, AccessorOnIndex}
use Rattle.es_ops.specs.InternalMethods.{PropertyDescriptor, DefineOwnProperty, SetStep}
use Rattle.es_ops.specs.Events.{Apply}
use Rattle.es_ops.specs.Intrinsics.{Intrinsic, StringPrototype, NumberPrototype, BooleanPrototype}
use Rattle.es_ops.specs.Act.{Act, Do}
use Rattle.es_ops.specs.Errors.{raise}
use Rattle.es_ops.specs.PropertyReads.{StringProperty, AUnit, Length, Inherits}
use Rattle.es_ops.specs.Conversions.{Comparison, Equals, NumberLeft, NumberRight, PrimitiveLeft, PrimitiveRight, comparison, next_comparison, loosely_equal_within, is_loosely_equal}
use Rattle.es_ops.specs.Bindings.{make_cell, initialize_cell, value_or_raise, read_cell, write_cell, copy_cell}
use Rattle.es_ops.specs.PropertyWrites.{NumberConversion, length_or_raise, with_length_value, is_accessor_on_index, define_own_property, accepted_or, define_property_or_throw, create_data_property, create_data_property_or_throw, take_set_step, set_found, ordinary_set, set_inherited, set_on_string, set_v, set_or_throw, put_value, delete_property_or_throw, delete_on_string, delete_v}
use Rattle.es_ops.specs.Related.{Naming, BothOption, BothNone, BothSome, BothValue, BothUndefined, BothNull, BothBoolean, BothNumber, BothString, BothObject, BothProperty, BothClass, BothOrdinary, BothArray, BothScript, BothBuiltIn, BothResolve, BothReject, BothError, BothPromise, BothDescriptor, BothSetStep, BothRefuses, BothCalls, BothDefines, Related, BothDo, Then, IsOneToOne}
use Rattle.es_ops.specs.Handed.{Converts}
use Rattle.es_ops.proofs.Acting.{acting, ask_class, ask_cell, do_cell}
use Rattle.es_ops.proofs.Parts.{cond_related, same_number}
use Rattle.es_ops.proofs.ReadsRelated.{raise_related, to_primitive_related, to_number_related, number_expected_related}

-- ---- cells

pub is_some_same : {A : Type 0} {B : A → A → Type 0} {x y : Option A} → BothOption B x y → is_some x ≡ is_some y
is_some_same BothNone = refl
is_some_same (BothSome b) = refl

pub make_cell_related : {R : Naming} (const : Bool) (k l : ℕ → Act) → Then R R k l → Related R (make_cell const k) (make_cell const l)
unfolding make_cell
make_cell_related const k l h = search (acting, refl)

pub initialize_cell_related : {R : Naming} (c d : ℕ) (v w : Value) (k l : Act) → R c d → BothValue R v w → Related R k l → Related R (initialize_cell c v k) (initialize_cell d w l)
unfolding initialize_cell
initialize_cell_related c d v w k l r b h = ask_cell r (λ x y t e. rw (is_some_same e) (cond_related (t && is_some y) _ _ _ _ (raise_related AssignmentToConstant) (do_cell r b h)))

pub value_or_raise_related : {R : Naming} {v w : Option Value} (k l : Value → Act) → BothOption (BothValue R) v w → Then R (BothValue R) k l → Related R (value_or_raise v k) (value_or_raise w l)
value_or_raise_related k l BothNone h = search (acting, raise_related)
value_or_raise_related k l (BothSome b) h = search (acting)

pub read_cell_related : {R : Naming} (c d : ℕ) (k l : Value → Act) → R c d → Then R (BothValue R) k l → Related R (read_cell c k) (read_cell d l)
unfolding read_cell
read_cell_related c d k l r h = search (acting, value_or_raise_related)

pub write_cell_related : {R : Naming} (c d : ℕ) (v w : Value) (k l : Act) → R c d → BothValue R v w → Related R k l → Related R (write_cell c v k) (write_cell d w l)
unfolding write_cell
write_cell_related c d v w k l r b h = search (acting, raise_related, value_or_raise_related)

pub copy_cell_related : {R : Naming} (c d : ℕ) (k l : ℕ → Act) → R c d → Then R R k l → Related R (copy_cell c k) (copy_cell d l)
unfolding copy_cell
copy_cell_related c d k l r h = search (acting)

-- ---- defines and sets

length_or_raise_related : {R : Naming} (n : ℤ) (k l : Value → Act) → Then R (BothValue R) k l → Related R (length_or_raise n k) (length_or_raise n l)
length_or_raise_related {R} (pos n) k l h = by_test (nat_lt n 4294967296) refl
  where
    short : nat_lt n 4294967296 ≡ true → n < 4294967296
    short e = grind (arith, nat_tests)

    by_test : (b : Bool) → nat_lt n 4294967296 ≡ b → Related R (cond b (k (Number (pos n))) (raise InvalidArrayLength)) (cond b (l (Number (pos n))) (raise InvalidArrayLength))
    by_test true e = h _ _ (BothNumber (record { bound = omega (arith, short e) }))
    by_test false e = raise_related InvalidArrayLength
length_or_raise_related (negsuc n) k l h = search (acting, raise_related)

length_value_related : {R : Naming} (convert : NumberConversion) → Converts R convert → (d e : PropertyDescriptor) {v w : Option Value} (k l : PropertyDescriptor → Act) → BothDescriptor R d e → BothOption (BothValue R) v w → Then R (BothDescriptor R) k l → Related R (with_length_value convert d v k) (with_length_value convert e w l)
length_value_related convert c d e k l b BothNone h = search (acting)
length_value_related convert c d e k l b (BothSome v) h = search (acting, length_or_raise_related)

pub length_same : {R : Naming} {c d : Class} (t : Text) → BothClass R c d → is_length_of c t ≡ is_length_of d t
length_same t BothOrdinary = refl
length_same t BothArray = refl
length_same t (BothScript h cs) = refl
length_same t BothBuiltIn = refl
length_same t (BothResolve p m) = refl
length_same t (BothReject p m) = refl
length_same t BothError = refl
length_same t (BothPromise s rs) = refl

pub define_related : {R : Naming} (convert : NumberConversion) → Converts R convert → (m n : ℕ) (key : Key) (d e : PropertyDescriptor) (k l : Bool → Act) → R m n → IsKey key → BothDescriptor R d e → ((b : Bool) → Related R (k b) (l b)) → Related R (define_own_property convert m key d k) (define_own_property convert n key e l)
unfolding define_own_property
define_related {R} convert c m n key d e k l r i b h = ask_class r (λ x y f. rw (length_same (text_of_key key) f) (cond_related (not (is_index key) && is_length_of y (text_of_key key)) _ _ _ _ (length_value_related convert c d e _ _ b b.value define) (define d e b)))
  where
    define : (d e : PropertyDescriptor) → BothDescriptor R d e → Related R (Do (Apply m (DefineOwnProperty key d)) k) (Do (Apply n (DefineOwnProperty key e)) l)
    define d e b = BothDo (r, (refl, i, b)) (λ x y q. rw q (h y))

pub accepted_related : {R : Naming} (f g k l : Act) (b : Bool) → Related R f g → Related R k l → Related R (accepted_or f k b) (accepted_or g l b)
accepted_related f g k l true e h = search (acting)
accepted_related f g k l false e h = search (acting)

on_index_same : {R : Naming} (key : Key) (d e : PropertyDescriptor) → BothDescriptor R d e → is_accessor_on_index key d ≡ is_accessor_on_index key e
on_index_same key d e b = ap₂ (λ x y. is_index key && x && not y) (ap₂ (λ x y. x || y) (is_some_same b.get) (is_some_same b.set)) (ap₂ (λ x y. x || y) (is_some_same b.value) (ap (λ w. is_some w) b.writable))

pub define_or_throw_related : {R : Naming} (convert : NumberConversion) → Converts R convert → (m n : ℕ) (key : Key) (d e : PropertyDescriptor) (k l : Act) → R m n → IsKey key → BothDescriptor R d e → Related R k l → Related R (define_property_or_throw convert m key d k) (define_property_or_throw convert n key e l)
unfolding define_property_or_throw
define_or_throw_related convert c m n key d e k l r i b h = rw (on_index_same key d e b) (cond_related (is_accessor_on_index key e) _ _ _ _ (raise_related AccessorOnIndex) (define_related convert c m n key d e _ _ r i b (λ x. accepted_related _ _ _ _ x (raise_related NotDefinable) h)))

pub create_related : {R : Naming} (m n : ℕ) (key : Key) (v w : Value) (k l : Bool → Act) → R m n → IsKey key → BothValue R v w → ((b : Bool) → Related R (k b) (l b)) → Related R (create_data_property m key v k) (create_data_property n key w l)
unfolding create_data_property
create_related m n key v w k l r i b h = search (acting, define_related, number_expected_related, refl)

pub create_or_throw_related : {R : Naming} (m n : ℕ) (key : Key) (v w : Value) (k l : Act) → R m n → IsKey key → BothValue R v w → Related R k l → Related R (create_data_property_or_throw m key v k) (create_data_property_or_throw n key w l)
unfolding create_data_property_or_throw
create_or_throw_related m n key v w k l r i b h = search (acting, accepted_related, create_related, raise_related)

set_step_related : {R : Naming} (convert : NumberConversion) → Converts R convert → (key : Key) {v w t u : Value} {s z : SetStep} (k l : Bool → Act) → IsKey key → BothValue R v w → BothValue R t u → BothSetStep R s z → ((b : Bool) → Related R (k b) (l b)) → Related R (take_set_step convert key v t s k) (take_set_step convert key w u z l)
set_step_related convert c key k l i b r BothRefuses h = search (acting)
set_step_related convert c key k l i b r (BothCalls f) h = search (acting)
set_step_related convert c key k l i b r (BothDefines {m = m} {n = n} {d = d} {e = e} q f) h = search (acting, define_related)

set_found_related : {R : Naming} (convert : NumberConversion) → Converts R convert → (key : Key) {v w t u : Value} {p q : Option Property} (k l : Bool → Act) → IsKey key → BothValue R v w → BothValue R t u → BothOption (BothProperty R) p q → ((b : Bool) → Related R (k b) (l b)) → Related R (set_found convert key v t p k) (set_found convert key w u q l)
set_found_related convert c key k l i b r f h = search (acting, refl, set_step_related)

pub ordinary_set_related : {R : Naming} (convert : NumberConversion) → Converts R convert → (m n : ℕ) (key : Key) (v w t u : Value) (k l : Bool → Act) → R m n → IsKey key → BothValue R v w → BothValue R t u → ((b : Bool) → Related R (k b) (l b)) → Related R (ordinary_set convert m key v t k) (ordinary_set convert n key w u l)
unfolding ordinary_set
ordinary_set_related convert c m n key v w t u k l r i b f h = search (acting, refl, set_found_related)

set_inherited_related : {R : Naming} (convert : NumberConversion) → Converts R convert → (i : Intrinsic) (key : Key) {v w t u : Value} (k l : Bool → Act) → IsKey key → BothValue R v w → BothValue R t u → ((b : Bool) → Related R (k b) (l b)) → Related R (set_inherited convert i key v t k) (set_inherited convert i key w u l)
set_inherited_related convert c z key k l i b f h = search (acting, ordinary_set_related, refl)

set_string_related : {R : Naming} (convert : NumberConversion) → Converts R convert → (p : StringProperty) (t : Text) (key : Key) {v w : Value} (k l : Bool → Act) → IsKey key → IsString t → BothValue R v w → ((b : Bool) → Related R (k b) (l b)) → Related R (set_on_string p convert t key v k) (set_on_string p convert t key w l)
set_string_related convert c Inherits t key k l i a b h = set_inherited_related convert c StringPrototype key k l i b (BothString a) h
set_string_related convert c (AUnit u) t key k l i a b h = search (acting)
set_string_related convert c Length t key k l i a b h = search (acting)

pub set_v_related : {R : Naming} (convert : NumberConversion) → Converts R convert → (x y : Value) (key : Key) (v w : Value) (k l : Bool → Act) → BothValue R x y → IsKey key → BothValue R v w → ((b : Bool) → Related R (k b) (l b)) → Related R (set_v convert x key v k) (set_v convert y key w l)
unfolding set_v
set_v_related convert c x y key v w k l (BothObject {m = m} {n = n} r) i b h = search (acting, ordinary_set_related)
set_v_related convert c x y key v w k l (BothString {t = t} a) i b h = search (acting, set_string_related)
set_v_related convert c x y key v w k l (BothNumber a) i b h = set_inherited_related convert c NumberPrototype key k l i b (BothNumber a) h
set_v_related convert c x y key v w k l BothBoolean i b h = set_inherited_related convert c BooleanPrototype key k l i b BothBoolean h
set_v_related convert c x y key v w k l BothUndefined i b h = search (acting, raise_related)
set_v_related convert c x y key v w k l BothNull i b h = search (acting, raise_related)

pub set_or_throw_related : {R : Naming} (convert : NumberConversion) → Converts R convert → (m n : ℕ) (key : Key) (v w : Value) (k l : Act) → R m n → IsKey key → BothValue R v w → Related R k l → Related R (set_or_throw convert m key v k) (set_or_throw convert n key w l)
unfolding set_or_throw
set_or_throw_related convert c m n key v w k l r i b h = search (acting, accepted_related, ordinary_set_related, raise_related)

pub put_value_related : {R : Naming} (x y : Value) (key : Key) (v w : Value) (k l : Act) → BothValue R x y → IsKey key → BothValue R v w → Related R k l → Related R (put_value x key v k) (put_value y key w l)
unfolding put_value
put_value_related x y key v w k l r i b h = search (acting, accepted_related, raise_related, set_v_related, to_number_related)

pub delete_or_throw_related : {R : Naming} (m n : ℕ) (key : Key) (k l : Act) → R m n → Related R k l → Related R (delete_property_or_throw m key k) (delete_property_or_throw n key l)
unfolding delete_property_or_throw
delete_or_throw_related m n key k l r h = search (acting, accepted_related, raise_related, refl)

delete_string_related : {R : Naming} (p : StringProperty) (k l : Act) → Related R k l → Related R (delete_on_string p k) (delete_on_string p l)
delete_string_related Inherits k l h = search (acting)
delete_string_related (AUnit u) k l h = search (acting, raise_related)
delete_string_related Length k l h = search (acting, raise_related)

pub delete_v_related : {R : Naming} (x y : Value) (key : Key) (k l : Act) → BothValue R x y → Related R k l → Related R (delete_v x key k) (delete_v y key l)
unfolding delete_v
delete_v_related x y key k l (BothObject {m = m} {n = n} r) h = search (acting, delete_or_throw_related)
delete_v_related x y key k l (BothString {t = t} a) h = search (acting, delete_string_related)
delete_v_related x y key k l BothUndefined h = search (acting, raise_related)
delete_v_related x y key k l BothNull h = search (acting, raise_related)
delete_v_related x y key k l BothBoolean h = search (acting)
delete_v_related x y key k l (BothNumber a) h = search (acting)

-- ---- equality: R tells things apart on either side

pub same_value_related : {R : Naming} → IsOneToOne R → {v w x y : Value} → BothValue R v w → BothValue R x y → same_value v x ≡ same_value w y
same_value_related o (BothObject r) (BothObject s) = same_number o _ _ _ _ r s
same_value_related o (BothObject r) _ = search (acting, refl)
same_value_related o BothUndefined BothUndefined = search (acting, refl)
same_value_related o BothUndefined _ = search (acting, refl)
same_value_related o BothNull BothUndefined = search (acting, refl)
same_value_related o BothNull _ = search (acting, refl)
same_value_related o BothBoolean BothUndefined = search (acting, refl)
same_value_related o BothBoolean _ = search (acting, refl)
same_value_related o (BothNumber a) BothUndefined = search (acting, refl)
same_value_related o (BothNumber a) _ = search (acting, refl)
same_value_related o (BothString a) BothUndefined = search (acting, refl)
same_value_related o (BothString a) _ = search (acting, refl)

comparison_same : {R : Naming} → IsOneToOne R → {v w x y : Value} → BothValue R v w → BothValue R x y → comparison v x ≡ comparison w y
comparison_same o (BothObject r) (BothObject s) = ap Equals (same_number o _ _ _ _ r s)
comparison_same o (BothObject r) _ = refl
comparison_same o BothUndefined BothUndefined = refl
comparison_same o BothUndefined _ = refl
comparison_same o BothNull BothUndefined = refl
comparison_same o BothNull _ = refl
comparison_same o BothBoolean BothUndefined = refl
comparison_same o BothBoolean _ = refl
comparison_same o (BothNumber a) BothUndefined = refl
comparison_same o (BothNumber a) _ = refl
comparison_same o (BothString a) BothUndefined = refl
comparison_same o (BothString a) _ = refl

next_related : {R : Naming} (c : Comparison) (again more : (x y : Value) → (Bool → Act) → Act) {v w x y : Value} (k l : Bool → Act) → BothValue R v w → BothValue R x y → ((b : Bool) → Related R (k b) (l b)) → ((v w x y : Value) → BothValue R v w → BothValue R x y → Related R (again v x k) (more w y l)) → Related R (next_comparison c again v x k) (next_comparison c more w y l)
next_related (Equals b) again more k l e f h next = search (acting)
next_related NumberLeft again more k l e f h next = search (acting, to_number_related, BothNumber)
next_related NumberRight again more k l e f h next = search (acting, to_number_related, BothNumber)
next_related PrimitiveLeft again more k l e f h next = search (acting, to_primitive_related)
next_related PrimitiveRight again more k l e f h next = search (acting, to_primitive_related)

turns_related : {R : Naming} → IsOneToOne R → (turns : ℕ) (v w x y : Value) (k l : Bool → Act) → BothValue R v w → BothValue R x y → ((b : Bool) → Related R (k b) (l b)) → Related R (loosely_equal_within turns v x k) (loosely_equal_within turns w y l)
unfolding loosely_equal_within
turns_related o zero v w x y k l e f h = rw (same_value_related o e f) (h (same_value w y))
turns_related o (suc turns) v w x y k l e f h = rw (comparison_same o e f) (next_related (comparison w y) _ _ k l e f h (λ v w x y e f. turns_related o turns v w x y k l e f h))

pub loosely_equal_related : {R : Naming} → IsOneToOne R → (v w x y : Value) (k l : Bool → Act) → BothValue R v w → BothValue R x y → ((b : Bool) → Related R (k b) (l b)) → Related R (is_loosely_equal v x k) (is_loosely_equal w y l)
unfolding is_loosely_equal
loosely_equal_related o v w x y k l e f h = search (acting, turns_related)
