-- Reading UTF-8 a sequence at a time.
use Rattle.std.proofs.Common.{◌≡◌, ℕ, suc, ◌<◌, ◌≤◌, Bool, true, false, ◌&&◌, cond, List, [], ◌∷◌, ◌++◌, length, take, drop, Option, Some, None, refl, sym, ◌∙◌, ap, arith, ⊎_elim}
use Rattle.std.proofs.lemmas.Bool.{cases_lt, true≢false}
use Rattle.std.specs.List.{flat_map}
use Rattle.js_value.specs.declared.text.utf8.ByteRange.{ByteRange}
use Rattle.js_value.specs.Text.{begins_with, contains_byte, length_with, following_in, sequences, sequence_length, scalar_value, utf16, units}
use Rattle.js_value.proofs.Parts.{parts-split}

pub and_false : (b : Bool) → (b && false) ≡ false
and_false b = elim b as (λ v. (v && false) ≡ false) [ true ↦ refl | false ↦ refl ]

-- a list that is too short begins with no sequence
pub begins_with-short : (ranges : List ByteRange) (bytes : List ℕ) → length bytes < length ranges → begins_with ranges bytes ≡ false
begins_with-short [] bytes short = absurd (omega arith)
begins_with-short (range ∷ ranges) [] short = refl
begins_with-short (range ∷ ranges) (byte ∷ bytes) short =
    rw (begins_with-short ranges bytes (omega arith)) (and_false (contains_byte range byte))

length_with-some : (ranges : Option (List ByteRange)) (rest : List ℕ) → 0 < length_with ranges rest
length_with-some None rest = omega arith
length_with-some (Some ranges) rest =
    elim (begins_with ranges rest) as (λ b. 0 < cond b (suc (length ranges)) 1) [ true ↦ omega arith | false ↦ omega arith ]

-- a sequence has at least a byte
pub sequence_length-some : (bytes : List ℕ) → 0 < sequence_length bytes
unfolding sequence_length
sequence_length-some [] = omega arith
sequence_length-some (first ∷ rest) = length_with-some (following_in sequences first) rest

-- what is read begins with what the first sequence gives
pub units-split : (bytes : List ℕ) (n : ℕ) → 0 < length bytes → sequence_length bytes ≡ n → units bytes ≡ utf16 (scalar_value (take n bytes)) ++ units (drop n bytes)
unfolding units
units-split bytes n some e =
    let positive : 0 < n = rw (sym e) (sequence_length-some bytes)
    in ap (flat_map (λ sequence. utf16 (scalar_value sequence))) (parts-split sequence_length bytes n some positive e)

within_length : (b : Bool) (n m : ℕ) → (b ≡ true → n ≤ m) → 1 ≤ m → cond b n 1 ≤ m
within_length true n m fits some = fits refl
within_length false n m fits some = some

length_with-within : (ranges : Option (List ByteRange)) (rest : List ℕ) → length_with ranges rest ≤ suc (length rest)
length_with-within None rest = omega arith
length_with-within (Some ranges) rest =
    within_length (begins_with ranges rest) (suc (length ranges)) (suc (length rest))
    (λ begins. ⊎_elim
    (λ (short : length rest < length ranges). absurd (true≢false (sym begins ∙ begins_with-short ranges rest short)))
    (λ (h : length ranges ≤ length rest). omega arith)
    (cases_lt (length rest) (length ranges)))
    (omega arith)

-- a sequence ends within its bytes
pub sequence_length-within : (bytes : List ℕ) → 0 < length bytes → sequence_length bytes ≤ length bytes
unfolding sequence_length
sequence_length-within [] some = absurd (omega arith)
sequence_length-within (first ∷ rest) some = length_with-within (following_in sequences first) rest
