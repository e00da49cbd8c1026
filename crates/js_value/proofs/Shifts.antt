-- Words of 32 bits.
use Rattle.std.proofs.Common.{ℕ, ◌^◌, ◌≤◌, ℤ, pos, ◌*ℤ◌, unsigned_abs, arith}
use Rattle.std.proofs.lemmas.Int.{ints}
use Rattle.std.specs.Prelude.{FitsSigned}
use Rattle.std.specs.Int.{w32, w64}
use Rattle.std.proofs.lemmas.Int.{fits_signed_mul}

pub abs_small : (z : ℤ) → FitsSigned w32 z → unsigned_abs z ≤ 2 ^ 31
abs_small z fits = omega (arith, ints)

pub product_fits : (x : ℤ) (n : ℕ) → FitsSigned w32 x → n ≤ 2 ^ 31 → FitsSigned w64 (x *ℤ pos n)
product_fits x n fits small = fits_signed_mul w64 x (pos n) (2 ^ 31) (2 ^ 31) (abs_small x fits) small (omega arith)
