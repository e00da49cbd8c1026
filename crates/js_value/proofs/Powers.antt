-- Powers by squaring, and what a power is as a Number.
use Rattle.std.proofs.Common.{◌≡◌, ◌≢◌, ℕ, zero, suc, ◌+◌, ◌*◌, ◌/◌, ◌%◌, ◌^◌, ◌<◌, ◌≤◌, Bool, true, false, not, ◌&&◌, nat_lt, nat_le, nat_eq, Some, None, ℤ, pos, negsuc, refl, sym, ◌∙◌, ap, arith, ⊎_elim, cond}
use Rattle.std.proofs.lemmas.Nat.{pow-add, mul-pow}
use Rattle.std.proofs.lemmas.Bool.{cases_lt, false≢true}
use Rattle.std.proofs.lemmas.Bool.Decides.{nat_tests}
use Rattle.std.proofs.Math.Nat.{one-le-pow, pow-le-pow_right, le-mul_of_pos_right, mul_assoc, mul_comm, mul-le-mul_left, pow-zero, pow-suc, one-mul, mod-eq_of_lt}
use Rattle.std.specs.Prelude.{unsigned_abs, int_lt}
use Rattle.js_value.specs.Number.{greatest, signed, num, fraction, power, is_below_zero, is_odd}

-- what is left to multiply: `power` times `square` to the power of `left` is the whole
pub record IsPart (base exponent power square left : ℕ) : Type 0 where
  pub whole : power * square ^ left ≡ base ^ exponent
  pub some : 0 < square → 0 < power
  pub bound : power ≤ greatest

-- an exponent is halved, the base squared
pub pow-halved : (s n : ℕ) → s ^ n ≡ s ^ (n % 2) * (s * s) ^ (n / 2)
pow-halved s n =
    let parts : n ≡ n % 2 + (n / 2 + n / 2) = omega arith in
    ap (λ k. s ^ k) parts ∙ pow-add s (n % 2) (n / 2 + n / 2) ∙ ap (λ p. s ^ (n % 2) * p) (pow-add s (n / 2) (n / 2) ∙ sym (mul-pow s s (n / 2)))

pub num-large : (s : Bool) (m : ℕ) → greatest < m → num (fraction s m 1) ≡ None
num-large s m large =
    let e : m % 1 ≡ 0 = omega arith in
    let d : m / 1 ≡ m = omega arith in
    let t : nat_le m greatest ≡ false = grind (arith, nat_tests) in
    rw (e, d, t) refl

pub num-small : (s : Bool) (m : ℕ) → m ≤ greatest → (s ≡ true → 0 < m) → num (fraction s m 1) ≡ Some (signed s m)
num-small s m small some =
    let e : m % 1 ≡ 0 = omega arith in
    let d : m / 1 ≡ m = omega arith in
    let t : nat_le m greatest ≡ true = grind (arith, nat_tests) in
    rw (e, d, t) (num-small_sign s m some)
  where
    num-small_sign : (s : Bool) (m : ℕ) → (s ≡ true → 0 < m) → cond (not (s && nat_eq m 0)) (Some (signed s m)) None ≡ Some (signed s m)
    num-small_sign false m some = refl
    num-small_sign true m some = let h : nat_eq m 0 ≡ false = (let p : 0 < m = some refl in grind (arith, nat_tests)) in rw h refl

-- one divided by a magnitude is whole for one alone
num-inverse : (s : Bool) (m : ℕ) → m ≢ 1 → num (fraction s 1 m) ≡ None
num-inverse s zero h = refl
num-inverse s (suc zero) h = absurd (h refl)
num-inverse s (suc (suc m)) h =
    let a : 1 % suc (suc m) ≡ 1 = mod-eq_of_lt (let l : 1 < suc (suc m) = omega arith in l) in
    let t : nat_lt 0 (suc (suc m)) ≡ true = grind (arith, nat_tests) in
    rw (t, a) refl

num-one : (s : Bool) → num (fraction s 1 1) ≡ Some (signed s 1)
num-one true = refl
num-one false = refl

-- A bounded product, and what its answer tells.

pub product_some : (n m : ℕ) → Some m ≡ cond (nat_le n greatest) (Some n) None → (m ≡ n) × (n ≤ greatest)
product_some n m e = grind (arith, nat_tests)

pub product_none : (n : ℕ) → None ≡ cond (nat_le n greatest) (Some n) None → greatest < n
product_none n e = grind (arith, nat_tests)

pub is_none : (n : ℕ) → greatest < n → None ≡ cond (nat_le n greatest) (Some n) None
is_none n large = let t : nat_le n greatest ≡ false = grind (arith, nat_tests) in rw t refl

-- The steps of the loop.

regrouped : (base exponent power square left : ℕ) → IsPart base exponent power square left → power * square ^ (left % 2) * (square * square) ^ (left / 2) ≡ base ^ exponent
regrouped base exponent power square left part =
    mul_assoc power (square ^ (left % 2)) ((square * square) ^ (left / 2)) ∙ ap (λ p. power * p) (sym (pow-halved square left)) ∙ part.whole

positive_square : (s : ℕ) → 0 < s → 0 < s * s
positive_square s h = let one : s * 1 ≤ s * s = mul-le-mul_left s h in omega arith

positive_root : (s : ℕ) → 0 < s * s → 0 < s
positive_root zero h = h
positive_root (suc s) h = omega arith

positive : (base exponent power square left power' : ℕ) → IsPart base exponent power square left → 0 < square → power' ≡ power * square ^ (left % 2) → 0 < power'
positive base exponent power square left power' part some e =
    let factor : 1 ≤ square ^ (left % 2) = one-le-pow (left % 2) square some in
    let kept : power ≤ power * square ^ (left % 2) = le-mul_of_pos_right power factor in
    let before : 0 < power = part.some some in
    omega arith

pub next : (base exponent power square left power' square' : ℕ) → IsPart base exponent power square left → power' ≡ power * square ^ (left % 2) → power' ≤ greatest → square' ≡ square * square → IsPart base exponent power' square' (left / 2)
next base exponent power square left power' square' part e small f = record {
  whole = rw (e, f) (regrouped base exponent power square left part);
  some = λ square_some. positive base exponent power square left power' part (positive_root square (rw f at square_some)) e;
  bound = small;
}

zero_factor : (left : ℕ) → 0 ^ (left % 2) ≤ 1
zero_factor left =
    ⊎_elim
    (λ (h : left % 2 < 1). let z : left % 2 ≡ 0 = omega arith in rw z (omega arith))
    (λ (h : 1 ≤ left % 2). let o : left % 2 ≡ 1 = omega arith in rw o (omega arith))
    (cases_lt (left % 2) 1)

no_zero_large : (power left : ℕ) → power ≤ greatest → greatest < power * 0 ^ (left % 2) → ⊥
no_zero_large power left small large =
    let kept : power * 0 ^ (left % 2) ≤ power * 1 = mul-le-mul_left power (zero_factor left) in
    omega arith

-- the product is too large already
pub power_large : (base exponent power square left : ℕ) → IsPart base exponent power square left → greatest < power * square ^ (left % 2) → greatest < base ^ exponent
power_large base exponent power zero left part large = absurd (no_zero_large power left part.bound large)
power_large base exponent power (suc s) left part large =
    let factor : 1 ≤ (suc s * suc s) ^ (left / 2) = one-le-pow (left / 2) (suc s * suc s) (positive_square (suc s) (omega arith)) in
    let kept : power * suc s ^ (left % 2) ≤ power * suc s ^ (left % 2) * (suc s * suc s) ^ (left / 2) = le-mul_of_pos_right (power * suc s ^ (left % 2)) factor in
    omega (arith, regrouped base exponent power (suc s) left part)

pub pow-one : (n : ℕ) → n ^ 1 ≡ n
pow-one n = pow-suc n 0 ∙ ap (λ p. p * n) (pow-zero n) ∙ one-mul n

-- the square is too large already
pub square_large : (base exponent power square left power' : ℕ) → IsPart base exponent power square left → 1 < left → power' ≡ power * square ^ (left % 2) → greatest < square * square → greatest < base ^ exponent
square_large base exponent power square left power' part more e large =
    let root : 0 < square = positive_root square (omega arith) in
    let some : 1 ≤ power' = positive base exponent power square left power' part root e in
    let once : (square * square) ^ 1 ≤ (square * square) ^ (left / 2) = pow-le-pow_right (omega arith) (omega arith) in
    let all : (square * square) ^ (left / 2) ≤ (square * square) ^ (left / 2) * power' = le-mul_of_pos_right ((square * square) ^ (left / 2)) some in
    let whole : power' * (square * square) ^ (left / 2) ≡ base ^ exponent = rw e (regrouped base exponent power square left part) in
    omega (arith, mul_comm power' ((square * square) ^ (left / 2)), pow-one (square * square))

-- at the end
pub ended : (base exponent power square left : ℕ) → IsPart base exponent power square left → left ≤ 1 → power * square ^ (left % 2) ≡ base ^ exponent
ended base exponent power square left part few = let same : left % 2 ≡ left = omega arith in rw same part.whole

-- What a power is as a Number, by its magnitude.

pub power_past : (a b : ℤ) → greatest < unsigned_abs a ^ unsigned_abs b → None ≡ num (power a b)
power_past a (pos n) large = sym (num-large (is_below_zero a && is_odd (pos n)) (unsigned_abs a ^ n) large)
power_past a (negsuc n) large =
    let other : unsigned_abs a ^ suc n ≢ 1 = omega arith in
    sym (num-inverse (is_below_zero a && is_odd (negsuc n)) (unsigned_abs a ^ suc n) other)

pub power_fraction : (a b : ℤ) → is_below_zero b ≡ true → unsigned_abs a ^ unsigned_abs b ≢ 1 → None ≡ num (power a b)
power_fraction a (pos n) below other = absurd (false≢true below)
power_fraction a (negsuc n) below other =
    sym (num-inverse (is_below_zero a && is_odd (negsuc n)) (unsigned_abs a ^ suc n) other)

below_some : (a : ℤ) (n : ℕ) (odd : Bool) → (is_below_zero a && odd) ≡ true → 0 < unsigned_abs a ^ n
below_some (pos m) n odd h = absurd (false≢true h)
below_some (negsuc m) n odd h = one-le-pow n (suc m) (omega arith)

pub power_whole : (a b : ℤ) → unsigned_abs a ^ unsigned_abs b ≤ greatest → (is_below_zero b ≡ true → unsigned_abs a ^ unsigned_abs b ≡ 1) → Some (signed (is_below_zero a && is_odd b) (unsigned_abs a ^ unsigned_abs b)) ≡ num (power a b)
power_whole a (pos n) small one =
    sym (num-small (is_below_zero a && is_odd (pos n)) (unsigned_abs a ^ n) small (below_some a n (is_odd (pos n))))
power_whole a (negsuc n) small one =
    let e : unsigned_abs a ^ suc n ≡ 1 = one refl in
    rw e (sym (num-one (is_below_zero a && is_odd (negsuc n))))

pub below_zero : (z : ℤ) → int_lt z (pos 0) ≡ true → is_below_zero z ≡ true
below_zero (pos n) h = grind (arith, nat_tests)
below_zero (negsuc n) h = refl

pub not_below_zero : {A : Type 0} (z : ℤ) → int_lt z (pos 0) ≡ false → is_below_zero z ≡ true → A
not_below_zero (pos n) h below = absurd (false≢true below)
not_below_zero (negsuc n) h below = absurd (false≢true (sym h))
